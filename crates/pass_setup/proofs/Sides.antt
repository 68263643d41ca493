-- What a floor that rows 19 to 22 let through has at the sides of its triangles: their mean size is positive, and the middle of their ends is finite.
-- So no midpoint of it is refused by rows 6 and 7. Assumes nothing.
use Prim.Native.Nat.{ℕ, zero, suc, ◌+◌, ◌-◌, ◌^◌, ◌<◌}
use native.Mathlib.Omega.{arith}
use mathlib.Core.Path.{◌≡◌, refl, sym, ap, ◌∙◌, subst}
use mathlib.Core.Logic.{◌≢◌, ◌⊎◌, inl, inr}
use mathlib.Core.Bool.{Bool, true, false, ◌||◌}
use mathlib.Core.List.{List, [], ◌∷◌}
use mathlib.Core.Option.{some}
use borrow.Author.Tests.{eqb-true}
use lib.Dec.{T, eqb}
use lib.ListN.{length, get_or}
use lib.Ieee.Positive.{positive}
use Rattle.float.specs.Double.{HALF, is_finite, ◌⊕◌, ◌⊗◌}
use Rattle.float.proofs.Within.{Within, and_both}
use Rattle.float.proofs.Above.{above-finite}
use Rattle.float.proofs.Far.{middle-finite}
use Rattle.mesh.specs.Mesh.{Tri, tri, side, key, index_in, marked, cuts, at, lies, one, count, Good, All}
use Rattle.mesh.proofs.Cuts.{index-only, key-rising}
use Rattle.mesh.proofs.Theorem.{refines}
use Rattle.mesh.specs.Claim.{InRange}
use Rattle.edges.specs.Sides.{lower, upper}
use Rattle.floor.specs.Floor.{Floor, point_count, triangle_count, value_at, triangle_at}
use Rattle.geometry.proofs.Sound.{small-corners}
use Rattle.pass_geometries.specs.Geometries.{geometry_on, is_degenerate}
use Rattle.pass_geometries.proofs.Good.{no-refusal}
use Rattle.pass_setup.specs.Setup.{geometry_at, degenerate_of, wound_of, edges_of, lowers_of, uppers_of}
use Rattle.pass_setup.specs.Rows.{SoundFloor, corner_at, lower_of, upper_of, AcceptedFloor}
use Rattle.pass_setup.proofs.Floors.{at_all, get_d_map, length-wound, turned-at, wound-good}
use Rattle.pass_setup.proofs.Triangles.{failed, tests-19, clear-19}
use Rattle.pass_setup.proofs.Rows.{mean-positive}

-- ---- all sides of a list of triangles are in the list of its edges

abbrev every : Tri → Bool
every t = true

marked-every : (ts : List Tri) → marked every ts ≡ ts
unfolding marked
marked-every [] = refl
marked-every (t ∷ ts) = ap (λ (l : List Tri). t ∷ l) (marked-every ts)

counted : (u v : ℕ) (ts : List Tri) (i : ℕ) → i < length ts → lies u v (get_or ts i (tri 0 0 0)) ≡ true → count u v ts ≢ 0
counted u v [] i l h = absurd (omega arith)
counted u v (t ∷ ts) zero l h = λ z. absurd (omega (arith, z, ap one h))
counted u v (t ∷ ts) (suc i) l h = λ z. counted u v ts i (omega arith) h (omega (arith, z))

turn_at : (x a b c : ℕ) → at x (tri a c b) ≡ at x (tri a b c)
turn_at x a b c = go (eqb x a) (eqb x b) (eqb x c)
  where
    go : (p q r : Bool) → p || (r || q) ≡ p || (q || r)
    go true q r = refl
    go false true true = refl
    go false true false = refl
    go false false true = refl
    go false false false = refl

turn-lies : (u v a b c : ℕ) → lies u v (tri a c b) ≡ lies u v (tri a b c)
unfolding lies
turn-lies u v a b c = rw (turn_at u a b c, turn_at v a b c)

module _ (f : Floor) (ok : SoundFloor f) (a : AcceptedFloor f) where
  none : degenerate_of f ≡ triangle_count f
  none = clear-19 f a.no-19

  good : All (Good (point_count f)) (wound_of f)
  good = wound-good f none ok.corners

  edges_are : cuts every (wound_of f) ≡ edges_of f
  unfolding cuts edges_of
  edges_are = rw (marked-every (wound_of f))

  -- a side of a triangle, the lower end first, is an edge
  edge_of : (u v i : ℕ) → u < v → i < triangle_count f → lies u v (triangle_at f.triangles i) ≡ true → (e : ℕ) × ((e < length (edges_of f)) × (get_or (edges_of f) e (side 0 0) ≡ side u v))
  edge_of u v i less l h = rw edges_are at found
    where
      turned : (s : Tri) → triangle_at f.triangles i ≡ s → lies u v s ≡ true → lies u v (triangle_at (wound_of f) i) ≡ true
      turned (tri x y z) e k = go (turned-at f none i l x y z e)
        where
          go : (triangle_at (wound_of f) i ≡ tri x y z) ⊎ (triangle_at (wound_of f) i ≡ tri x z y) → lies u v (triangle_at (wound_of f) i) ≡ true
          go (inl p) = ap (lies u v) p ∙ k
          go (inr p) = ap (lies u v) p ∙ turn-lies u v x y z ∙ k

      some-places : count u v (marked every (wound_of f)) ≢ 0
      some-places = rw (marked-every (wound_of f)) (counted u v (wound_of f) i (omega (arith, length-wound f)) (turned (triangle_at f.triangles i) refl h))

      found : (e : ℕ) × ((e < length (cuts every (wound_of f))) × (get_or (cuts every (wound_of f)) e (side 0 0) ≡ side u v))
      found =
          let r = refines (point_count f) every (wound_of f) good in
          let m = (r.cut u v (λ z. absurd (omega arith))).1 some-places in
          let b = r.midpoint u v m.0 m.1 in
          let k : ℕ = m.0 - point_count f in
          let e : m.0 ≡ point_count f + k = omega (arith, b) in
          let x : index_in (key u v) (cuts every (wound_of f)) ≡ some k = (r.numbers u v k).0 (m.1 ∙ ap some e) in
          let y : index_in (get_or (cuts every (wound_of f)) k (side 0 0)) (cuts every (wound_of f)) ≡ some k = r.cut-sides.met.once k (omega (arith, b)) in
          (k, (omega (arith, b), index-only _ _ (cuts every (wound_of f)) k y x ∙ key-rising u v less))

  -- its mean size is positive
  pub side-mean : (u v i : ℕ) → u < v → i < triangle_count f → lies u v (triangle_at f.triangles i) ≡ true → T (positive (HALF ⊗ (value_at f.sizes u ⊕ value_at f.sizes v)))
  unfolding lowers_of uppers_of
  side-mean u v i less l h =
      let e = edge_of u v i less l h in
      let x : lower_of f e.0 ≡ u = get_d_map lower (edges_of f) e.0 (side 0 0) 0 e.1.0 ∙ ap lower e.1.1 in
      let y : upper_of f e.0 ≡ v = get_d_map upper (edges_of f) e.0 (side 0 0) 0 e.1.0 ∙ ap upper e.1.1 in
      let p = mean-positive f none ok e.0 e.1.0 in
      rw (x, y) at (above-finite (HALF ⊗ (value_at f.sizes (lower_of f e.0) ⊕ value_at f.sizes (upper_of f e.0))) p (finite-at e.0 e.1.0))
    where
      finite-at : (e : ℕ) → e < length (edges_of f) → T (is_finite (HALF ⊗ (value_at f.sizes (lower_of f e) ⊕ value_at f.sizes (upper_of f e))))
      finite-at e k = go _ refl
        where
          go : (b : Bool) → is_finite (HALF ⊗ (value_at f.sizes (lower_of f e) ⊕ value_at f.sizes (upper_of f e))) ≡ b → T b
          go true z = tt
          go false z = absurd (a.no-22 e k z)

  -- ---- the coordinates of a triangle's corners are not large

  abbrev Small : ℕ → Type 0
  Small v = Within (value_at f.xs v) (2 ^ 1022) 1 × Within (value_at f.ys v) (2 ^ 1022) 1

  corner-small : (v i : ℕ) → i < triangle_count f → at v (triangle_at f.triangles i) ≡ true → Small v
  unfolding geometry_at
  corner-small v i l h = of-tri (triangle_at f.triangles i) (at_all (InRange (point_count f)) (tri 0 0 0) f.triangles ok.corners i l) (failed (tests-19 f i) (a.no-19 i l)) h
    where
      of-tri : (s : Tri) → InRange (point_count f) s → is_degenerate (geometry_on (value_at f.xs) (value_at f.ys) s i) ≡ false → at v s ≡ true → Small v
      of-tri (tri x y z) r d k =
          let c = small-corners x y z i (corner_at f x) (corner_at f y) (corner_at f z) (no-refusal (geometry_on (value_at f.xs) (value_at f.ys) (tri x y z) i) d) (ok.finite x r.0) (ok.finite y r.1) (ok.finite z r.2) in
          pick (eqb v x) (eqb v y) (eqb v z) refl refl refl k c.0 c.1 c.2
        where
          pick : (p q s : Bool) → eqb v x ≡ p → eqb v y ≡ q → eqb v z ≡ s → p || (q || s) ≡ true → Small x → Small y → Small z → Small v
          pick true q s e g j k X Y Z = rw (eqb-true v x e) X
          pick false true s e g j k X Y Z = rw (eqb-true v y g) Y
          pick false false true e g j k X Y Z = rw (eqb-true v z j) Z
          pick false false false e g j k X Y Z = absurd (subst T (sym k) tt)

  -- the middle of a side is finite
  pub side-middle : (u v i : ℕ) → i < triangle_count f → lies u v (triangle_at f.triangles i) ≡ true
      → T (is_finite (HALF ⊗ (value_at f.xs u ⊕ value_at f.xs v))) × T (is_finite (HALF ⊗ (value_at f.ys u ⊕ value_at f.ys v)))
  unfolding lies
  side-middle u v i l h =
      let b = and_both (at u (triangle_at f.triangles i)) (at v (triangle_at f.triangles i)) h in
      let p = corner-small u i l b.0 in
      let q = corner-small v i l b.1 in
      (middle-finite _ _ p.0 q.0, middle-finite _ _ p.1 q.1)
