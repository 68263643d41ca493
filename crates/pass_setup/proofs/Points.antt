-- Rows 20 and 21: a set-up tests point by point what the table's words say (`Row20`, `Row21`), of a floor without row 19. Assumes nothing.
use Prim.Native.Nat.{ℕ, ◌≤◌, ◌<◌}
use native.Mathlib.Omega.{arith}
use mathlib.Core.Path.{◌≡◌, refl, sym, ap, ◌∙◌, subst}
use mathlib.Core.Logic.{◌⊎◌, inl, inr}
use mathlib.Core.Bool.{Bool, true, false, not, cond}
use borrow.Author.Tests.{lt-ltb, le-ltb}
use lib.Dec.{T, eqb}
use lib.Ieee.{Float, binary64, lt, fits}
use lib.Ieee.Fits.{mul-fits}
use lib.Ieee.Positive.{positive, above}
use Rattle.std.specs.Prelude.{Ok, Err}
use Rattle.float.specs.Double.{HALF, lit, mag, is_finite, not_positive, ◌⊘◌}
use Rattle.float.proofs.Above.{above-fails, zero-not-positive}
use Rattle.plane.specs.declared.Pair.{Pair}
use Rattle.mesh.specs.Mesh.{Tri, tri}
use Rattle.refusals.specs.Refusal.{row_at}
use Rattle.floor.specs.Floor.{Floor, point_count, triangle_count, value_at, triangle_at}
use Rattle.floor.proofs.Lowest.{lowest-most, lowest-before, lowest-clear, lowest-holds, lowest-is}
use Rattle.geometry.specs.declared.TriangleGeometry.{TriangleGeometry}
use Rattle.geometry.specs.Triangle.{area_of, degenerate, placed, geometry}
use Rattle.geometry.proofs.Sound.{positive-area}
use Rattle.pass_geometries.specs.Geometries.{geometry_on, is_degenerate, Geometry}
use Rattle.pass_geometries.specs.Geometries as geo
use Rattle.pass_geometries.proofs.Good.{no-refusal}
use Rattle.pass_gradients.specs.Gradients.{not_finite, row_of, row_of_point, first_refused, check_means}
use Rattle.pass_gradients.proofs.Weights.{Misses, so-sum, none-sum}
use Rattle.pass_setup.specs.Setup.{geometry_at, degenerate_of, wound_of, areas_of, sum_x, sum_y, weight_of, means_of}
use Rattle.pass_setup.specs.Rows.{corner_at, signed_on, area_on, IsCorner, Row20, Row21, NoPointBefore}
use Rattle.pass_setup.proofs.Floors.{area-at, turned-at}
use Rattle.pass_setup.proofs.Triangles.{Tests, passed, failed, neither, no-19, tests-19}

-- where row 19 holds of no triangle
module _ (f : Floor) (none : degenerate_of f ≡ triangle_count f) where
  sound-at : (i : ℕ) → i < triangle_count f → is_degenerate (geometry_at f i) ≡ false
  sound-at i l = failed (tests-19 f i) (no-19 f none i l)

  placed-area : (a b c : ℕ) (p q r : Pair) (w : Float) (i : ℕ) → is_degenerate (placed a b c p q r w i) ≡ false → geo.area_of (placed a b c p q r w i) ≡ w
  unfolding placed
  placed-area a b c p q r w i h = go (record { i = a; j = b; k = c; p = p; q = q; r = r; area = w }) (degenerate p q r w) h
    where
      go : (g : TriangleGeometry) (d : Bool) → is_degenerate (cond d (Err (record { triangle = i })) (Ok g)) ≡ false → geo.area_of (cond d (Err (record { triangle = i })) (Ok g)) ≡ g.area
      go g true h = absurd (subst T h tt)
      go g false h = refl

  -- an area that was kept is the triangle's, a positive double
  area-kept : (s : Tri) (i : ℕ) → is_degenerate (geometry_on (value_at f.xs) (value_at f.ys) s i) ≡ false → geo.area_of (geometry_on (value_at f.xs) (value_at f.ys) s i) ≡ area_on f s
  unfolding geometry
  area-kept (tri a b c) i h = go (lt (signed_on f (tri a b c)) (lit 0)) h
    where
      turned : Geometry
      turned = placed a c b (corner_at f a) (corner_at f c) (corner_at f b) (area_on f (tri a b c)) i

      given : Geometry
      given = placed a b c (corner_at f a) (corner_at f b) (corner_at f c) (area_on f (tri a b c)) i

      go : (l : Bool) → is_degenerate (cond l turned given) ≡ false → geo.area_of (cond l turned given) ≡ area_on f (tri a b c)
      go true h = placed-area a c b (corner_at f a) (corner_at f c) (corner_at f b) (area_on f (tri a b c)) i h
      go false h = placed-area a b c (corner_at f a) (corner_at f b) (corner_at f c) (area_on f (tri a b c)) i h

  area-positive : (s : Tri) (i : ℕ) → is_degenerate (geometry_on (value_at f.xs) (value_at f.ys) s i) ≡ false → T (positive (area_on f s))
  area-positive (tri a b c) i h = positive-area a b c i (corner_at f a) (corner_at f b) (corner_at f c) (no-refusal (geometry_on (value_at f.xs) (value_at f.ys) (tri a b c) i) h)

  area-fits : (s : Tri) → T (fits binary64 (area_on f s))
  unfolding area_of
  area-fits (tri a b c) = mul-fits binary64 HALF (mag (signed_on f (tri a b c)))

  areas-positive : (i : ℕ) → i < triangle_count f → T (positive (value_at (areas_of f) i)) × T (fits binary64 (value_at (areas_of f) i))
  unfolding geometry_at
  areas-positive i l =
      let s = triangle_at f.triangles i in
      let e : value_at (areas_of f) i ≡ area_on f s = area-at f i l ∙ area-kept s i (sound-at i l) in
      (subst (λ (x : Float). T (positive x)) (sym e) (area-positive s i (sound-at i l)), subst (λ (x : Float). T (fits binary64 x)) (sym e) (area-fits s))

  -- the corners of a triangle are those of the one given
  misses : (v i : ℕ) → i < triangle_count f → (s : Tri) → triangle_at f.triangles i ≡ s → (Misses v (triangle_at (wound_of f) i) → ¬ IsCorner v s) × (¬ IsCorner v s → Misses v (triangle_at (wound_of f) i))
  misses v i l (tri a b c) e = go (turned-at f none i l a b c e)
    where
      go : (triangle_at (wound_of f) i ≡ tri a b c) ⊎ (triangle_at (wound_of f) i ≡ tri a c b)
          → (Misses v (triangle_at (wound_of f) i) → ¬ IsCorner v (tri a b c)) × (¬ IsCorner v (tri a b c) → Misses v (triangle_at (wound_of f) i))
      go (inl z) = (λ m. corner (rw z at m), λ n. rw z (λ q. n (inl q), λ q. n (inr (inl q)), λ q. n (inr (inr q))))
        where
          corner : Misses v (tri a b c) → ¬ IsCorner v (tri a b c)
          corner m (inl q) = m.0 q
          corner m (inr (inl q)) = m.1 q
          corner m (inr (inr q)) = m.2 q
      go (inr z) = (λ m. corner (rw z at m), λ n. rw z (λ q. n (inl q), λ q. n (inr (inr q)), λ q. n (inr (inl q))))
        where
          corner : Misses v (tri a c b) → ¬ IsCorner v (tri a b c)
          corner m (inl q) = m.0 q
          corner m (inr (inl q)) = m.2 q
          corner m (inr (inr q)) = m.1 q

  pub tests-20 : (v : ℕ) → Tests (not_positive (weight_of f v)) (Row20 f v)
  unfolding weight_of
  tests-20 v = (λ h. from h (so-sum (triangle_at (wound_of f)) (value_at (areas_of f)) v (triangle_count f) areas-positive), to)
    where
      from : not_positive (weight_of f v) ≡ true → T (above (weight_of f v)) ⊎ (((i : ℕ) → i < triangle_count f → Misses v (triangle_at (wound_of f) i)) × (weight_of f v ≡ lit 0)) → Row20 f v
      from h (inl a) = inr (above-fails (weight_of f v) a h)
      from h (inr z) = inl (λ i l. (misses v i l (triangle_at f.triangles i) refl).0 (z.0 i l))

      to : Row20 f v → not_positive (weight_of f v) ≡ true
      to (inl n) = ap not_positive (none-sum (triangle_at (wound_of f)) (value_at (areas_of f)) v (triangle_count f) (λ i l. (misses v i l (triangle_at f.triangles i) refl).1 (n i l))) ∙ zero-not-positive
      to (inr e) = ap not_positive e ∙ unfold not_positive in refl

  -- ---- row 21

  pub tests-21 : (v : ℕ) → Tests (not_finite (sum_x f v ⊘ weight_of f v) (sum_y f v ⊘ weight_of f v)) (Row21 f v)
  tests-21 v = neither (is_finite (sum_x f v ⊘ weight_of f v)) (is_finite (sum_y f v ⊘ weight_of f v))

  -- ---- both, point by point

  abbrev row_at_point : ℕ → ℕ
  row_at_point v = row_of_point (sum_x f) (sum_y f) (weight_of f) v

  row_is : (v : ℕ) (a b : Bool) → not_positive (weight_of f v) ≡ a → not_finite (sum_x f v ⊘ weight_of f v) (sum_y f v ⊘ weight_of f v) ≡ b → row_at_point v ≡ cond a 20 (cond b 21 0)
  unfolding row_of
  row_is v a b p q = rw (p, q)

  pub tests-point : (v : ℕ) → Tests (not (eqb (row_at_point v) 0)) (Row20 f v ⊎ Row21 f v)
  tests-point v = go (not_positive (weight_of f v)) (not_finite (sum_x f v ⊘ weight_of f v) (sum_y f v ⊘ weight_of f v)) refl refl
    where
      go : (a b : Bool) → not_positive (weight_of f v) ≡ a → not_finite (sum_x f v ⊘ weight_of f v) (sum_y f v ⊘ weight_of f v) ≡ b → Tests (not (eqb (row_at_point v) 0)) (Row20 f v ⊎ Row21 f v)
      go true b p q = (λ h. inl ((tests-20 v).0 p), λ h. rw (row_is v true b p q) refl)
      go false true p q = (λ h. inr ((tests-21 v).0 q), λ h. rw (row_is v false true p q) refl)
      go false false p q = (λ h. absurd (subst T (sym h ∙ none-at) tt), λ h. absurd (neither-row h))
        where
          none-at : not (eqb (row_at_point v) 0) ≡ false
          none-at = rw (row_is v false false p q) refl

          neither-row : Row20 f v ⊎ Row21 f v → ⊥
          neither-row (inl r) = passed (tests-20 v) p r
          neither-row (inr r) = passed (tests-21 v) q r

  pub most-point : first_refused (sum_x f) (sum_y f) (weight_of f) (point_count f) ≤ point_count f
  unfolding first_refused
  most-point = lowest-most _ (point_count f)

  -- no row holds before the first point that is refused
  pub before-point : NoPointBefore f (first_refused (sum_x f) (sum_y f) (weight_of f) (point_count f))
  unfolding first_refused
  before-point = (
    λ v l r. passed (tests-point v) (lowest-before (λ v. not (eqb (row_at_point v) 0)) (point_count f) v l) (inl r),
    λ v l r. passed (tests-point v) (lowest-before (λ v. not (eqb (row_at_point v) 0)) (point_count f) v l) (inr r),
  )

  pub holds-point : first_refused (sum_x f) (sum_y f) (weight_of f) (point_count f) < point_count f
      → Row20 f (first_refused (sum_x f) (sum_y f) (weight_of f) (point_count f)) ⊎ Row21 f (first_refused (sum_x f) (sum_y f) (weight_of f) (point_count f))
  unfolding first_refused
  holds-point l = (tests-point _).0 (lowest-holds (λ v. not (eqb (row_at_point v) 0)) (point_count f) l)

  no_row : NoPointBefore f (point_count f) → (v : ℕ) → v < point_count f → not (eqb (row_at_point v) 0) ≡ false
  no_row n v l = failed (tests-point v) (λ r. absurd (go r))
    where
      go : Row20 f v ⊎ Row21 f v → ⊥
      go (inl r) = n.0 v l r
      go (inr r) = n.1 v l r

  pub means-clear : NoPointBefore f (point_count f) → means_of f ≡ Ok tt
  unfolding means_of check_means first_refused
  means-clear n = rw (lowest-clear (λ v. not (eqb (row_at_point v) 0)) (point_count f) (no_row n), le-ltb (point_count f) (point_count f) (omega arith))

  pub means-at : (v : ℕ) → v < point_count f → Row20 f v ⊎ Row21 f v → NoPointBefore f v → means_of f ≡ Err (row_at (row_at_point v) v)
  unfolding means_of check_means first_refused
  means-at v l r n =
      rw (lowest-is (λ v. not (eqb (row_at_point v) 0)) (point_count f) v l ((tests-point v).1 r) (λ j h. failed (tests-point j) (λ q. absurd (go j h q))), lt-ltb v (point_count f) l)
    where
      go : (j : ℕ) → j < v → Row20 f j ⊎ Row21 f j → ⊥
      go j h (inl q) = n.0 j h q
      go j h (inr q) = n.1 j h q

  pub row-20 : (v : ℕ) → Row20 f v → row_at_point v ≡ 20
  row-20 v r = row_is v true _ ((tests-20 v).1 r) refl

  pub row-21 : (v : ℕ) → ¬ Row20 f v → Row21 f v → row_at_point v ≡ 21
  row-21 v n r = row_is v false true (failed (tests-20 v) n) ((tests-21 v).1 r)
