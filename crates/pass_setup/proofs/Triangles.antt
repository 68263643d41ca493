-- What a test says, and row 19: a set-up tests triangle by triangle what the table's words say (`Row19`). Assumes nothing.
use Prim.Native.Nat.{ℕ, ◌≤◌, ◌<◌}
use native.Mathlib.Omega.{arith}
use mathlib.Core.Path.{◌≡◌, refl, sym, ◌∙◌, subst}
use mathlib.Core.Logic.{◌⊎◌, inl, inr}
use mathlib.Core.Bool.{Bool, true, false, not, cond, ◌||◌}
use lib.Dec.{T}
use lib.Ieee.{Float, lt, le}
use Rattle.std.specs.Prelude.{Ok, Err}
use Rattle.float.specs.Double.{lit, is_finite, ◌⊗◌}
use Rattle.mesh.specs.Mesh.{Tri, tri}
use Rattle.floor.specs.Floor.{Floor, triangle_count, value_at, triangle_at}
use Rattle.floor.proofs.Lowest.{lowest-most, lowest-before, lowest-clear, lowest-holds, lowest-is}
use Rattle.geometry.specs.declared.TriangleGeometry.{TriangleGeometry}
use Rattle.geometry.specs.Triangle.{longest, SMALLEST-AREA, degenerate, placed, geometry}
use Rattle.pass_geometries.specs.Geometries.{geometry_on, is_degenerate, first_degenerate}
use Rattle.pass_setup.specs.Setup.{geometry_at, degenerate_of}
use Rattle.pass_setup.specs.Rows.{corner_at, signed_on, area_on, longest_on, Row19, NoneBefore, NoTriangle}

-- ---- a test and what it says

-- the test t holds exactly if P does
abbrev pub Tests : Bool → Type 0 → Type 0
Tests t P = (t ≡ true → P) × (P → t ≡ true)

pub passed : {t : Bool} {P : Type 0} → Tests t P → t ≡ false → ¬ P
passed k e p = absurd (subst T (sym (k.1 p) ∙ e) tt)

pub failed : {t : Bool} {P : Type 0} → Tests t P → ¬ P → t ≡ false
failed {t} k n = go t refl
  where
    go : (b : Bool) → t ≡ b → t ≡ false
    go true e = absurd (n (k.0 e))
    go false e = e

pub either : (a b : Bool) → Tests (not a || b) ((a ≡ false) ⊎ (b ≡ true))
either true b = (λ h. inr h, λ h. go h)
  where
    go : (true ≡ false) ⊎ (b ≡ true) → b ≡ true
    go (inl z) = absurd (subst T z tt)
    go (inr z) = z
either false b = (λ h. inl refl, λ h. refl)

pub neither : (a b : Bool) → Tests (not a || not b) ((a ≡ false) ⊎ (b ≡ false))
neither true true = (λ h. absurd (subst T (sym h) tt), λ h. go h)
  where
    go : (true ≡ false) ⊎ (true ≡ false) → false ≡ true
    go (inl z) = sym z
    go (inr z) = sym z
neither true false = (λ h. inr refl, λ h. refl)
neither false b = (λ h. inl refl, λ h. refl)

module _ (f : Floor) where
  -- ---- row 19

  shape : (d : Bool) (i : ℕ) (g : TriangleGeometry) → is_degenerate (cond d (Err (record { triangle = i })) (Ok g)) ≡ d
  shape true i g = refl
  shape false i g = refl

  degenerate-is : (s : Tri) (i : ℕ) → is_degenerate (geometry_on (value_at f.xs) (value_at f.ys) s i) ≡ not (is_finite (area_on f s)) || le (area_on f s) (SMALLEST-AREA ⊗ longest_on f s)
  unfolding geometry placed degenerate
  degenerate-is (tri a b c) i = go (lt (signed_on f (tri a b c)) (lit 0))
    where
      w : Float
      w = area_on f (tri a b c)

      go : (l : Bool)
          → is_degenerate (cond l (placed a c b (corner_at f a) (corner_at f c) (corner_at f b) (area_on f (tri a b c)) i) (placed a b c (corner_at f a) (corner_at f b) (corner_at f c) (area_on f (tri a b c)) i))
          ≡ not (is_finite (area_on f (tri a b c))) || le (area_on f (tri a b c)) (SMALLEST-AREA ⊗ cond l (longest (corner_at f a) (corner_at f c) (corner_at f b)) (longest (corner_at f a) (corner_at f b) (corner_at f c)))
      go true = shape _ i _
      go false = shape _ i _

  pub tests-19 : (i : ℕ) → Tests (is_degenerate (geometry_at f i)) (Row19 f i)
  unfolding geometry_at
  tests-19 i = subst (λ (b : Bool). Tests b (Row19 f i)) (sym (degenerate-is (triangle_at f.triangles i) i)) (either (is_finite (area_on f (triangle_at f.triangles i))) _)

  pub most-19 : degenerate_of f ≤ triangle_count f
  unfolding degenerate_of first_degenerate
  most-19 = lowest-most _ (triangle_count f)

  pub before-19 : NoneBefore (Row19 f) (degenerate_of f)
  unfolding degenerate_of first_degenerate geometry_at
  before-19 i l = passed (tests-19 i) (lowest-before (λ i. is_degenerate (geometry_at f i)) (triangle_count f) i l)

  pub holds-19 : degenerate_of f < triangle_count f → Row19 f (degenerate_of f)
  unfolding degenerate_of first_degenerate geometry_at
  holds-19 l = (tests-19 (degenerate_of f)).0 (lowest-holds (λ i. is_degenerate (geometry_at f i)) (triangle_count f) l)

  pub is-19 : (t : ℕ) → t < triangle_count f → Row19 f t → NoneBefore (Row19 f) t → degenerate_of f ≡ t
  unfolding degenerate_of first_degenerate geometry_at
  is-19 t l r n = lowest-is (λ i. is_degenerate (geometry_at f i)) (triangle_count f) t l ((tests-19 t).1 r) (λ j h. failed (tests-19 j) (n j h))

  pub clear-19 : NoTriangle f → degenerate_of f ≡ triangle_count f
  unfolding degenerate_of first_degenerate geometry_at
  clear-19 n = lowest-clear (λ i. is_degenerate (geometry_at f i)) (triangle_count f) (λ j h. failed (tests-19 j) (n j h))

  pub no-19 : degenerate_of f ≡ triangle_count f → NoTriangle f
  no-19 none i l = before-19 i (omega arith)
