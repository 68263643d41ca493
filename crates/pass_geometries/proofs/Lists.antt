-- What a caller reads of the slices after `geometries`, and points and triangles given in another way that are the same. Assumes nothing.
use Prim.Native.Nat.{ℕ, zero, suc, ◌+◌, ◌*◌, ◌≤◌, ◌<◌}
use native.Mathlib.Omega.{arith}
use native.Mathlib.Decide.{ℕ_discrete}
use mathlib.Core.Path.{◌≡◌, refl, sym, ap, ◌∙◌, subst}
use mathlib.Core.Bool.{false}
use mathlib.Core.List.{List}
use lib.ListN.{length, get_or}
use lib.Ieee.{Float, nan}
use Rattle.std.specs.Prelude.{Ok, Err}
use Rattle.mesh.specs.Mesh.{Tri, tri}
use Rattle.edges.specs.Numbering.{tri_from, Below}
use Rattle.slices.proofs.Runs.{sets-before, sets-within}
use Rattle.floor.proofs.Lowest.{lowest-same}
use Rattle.pass_geometries.specs.declared.GeometriesPlan.{GeometriesPlan}
use Rattle.pass_geometries.specs.Geometries.{geometry_on, is_degenerate, corners_of, area_of, first_degenerate, Geometry}
use Rattle.pass_geometries.specs.Work.{area_on, joined, areas_up_to, wound_up_to, xs_in, ys_in, geometry_in, Cornered, GeometriesRoom, Kept}
use Rattle.pass_geometries.proofs.Steps.{corners-below, kept-cornered, one-area}
use Rattle.pass_geometries.proofs.Joined.{joined_length, joined_at}
use Rattle.pass_geometries.proofs.Good.{sound-before, first-most, wound-length, kept-tri}

-- ---- points that are the same below n

module _ (X Y X' Y' : ℕ → Float) (n : ℕ) (same-x : (v : ℕ) → v < n → X v ≡ X' v) (same-y : (v : ℕ) → v < n → Y v ≡ Y' v) where
  pub geometry-same : (s s' : Tri) (t : ℕ) → s ≡ s' → Cornered n s → geometry_on X Y s t ≡ geometry_on X' Y' s' t
  geometry-same (tri i j k) s' t e b =
      rw (same-x i b.0, same-y i b.0, same-x j b.1.0, same-y j b.1.0, same-x k b.1.1, same-y k b.1.1) (ap (λ (s : Tri). geometry_on X' Y' s t) e)

  pub first-same : (ts ts' : ℕ → Tri) (t : ℕ) → ((i : ℕ) → i < t → ts i ≡ ts' i) → ((i : ℕ) → i < t → Cornered n (ts i)) → first_degenerate X Y ts t ≡ first_degenerate X' Y' ts' t
  unfolding first_degenerate
  first-same ts ts' t e b = lowest-same _ _ t (λ i h. ap is_degenerate (geometry-same (ts i) (ts' i) i (e i h) (b i h)))

-- ---- corners that are points, one by one
below_all : (n c : ℕ) (u : List ℕ) (t : ℕ) → ((i : ℕ) → i < t → Cornered n (tri_from c u i)) → Below n c u (3 * t)
below_all n c u zero h = λ j g. absurd (omega arith)
below_all n c u (suc i) h = λ j g. go j g (h i (omega arith)) (below_all n c u i (λ k b. h k (omega arith))) (ℕ_discrete j (3 * i)) (ℕ_discrete j (3 * i + 1)) (ℕ_discrete j (3 * i + 2))
  where
    go : (j : ℕ) → j < 3 * suc i → Cornered n (tri_from c u i) → Below n c u (3 * i) → Dec (j ≡ 3 * i) → Dec (j ≡ 3 * i + 1) → Dec (j ≡ 3 * i + 2) → get_or u (c + j) 0 < n
    go j g b before (yes q) r s = let e : c + 3 * i ≡ c + j = omega arith in subst (λ (k : ℕ). get_or u k 0 < n) e b.0
    go j g b before (no q) (yes r) s = let e : c + 3 * i + 1 ≡ c + j = omega arith in subst (λ (k : ℕ). get_or u k 0 < n) e b.1.0
    go j g b before (no q) (no r) (yes s) = let e : c + 3 * i + 2 ≡ c + j = omega arith in subst (λ (k : ℕ). get_or u k 0 < n) e b.1.1
    go j g b before (no q) (no r) (no s) = before j (omega arith)

-- ---- what is left

one : (g : Geometry) → get_or (area_on g) 0 nan ≡ area_of g
one (Ok g) = refl
one (Err e) = refl

module _ {p : GeometriesPlan} {r : ℕ} {w w' : List Float} {u u' : List ℕ} (room : GeometriesRoom p (length w) (length u)) (below : Below p.points p.given u (3 * p.triangles)) (k : Kept p w u w' u' r) where
  -- what stands before the areas and before the kept corners stays
  pub reals-before : (j : ℕ) → j < p.areas → get_or w' j nan ≡ get_or w j nan
  reals-before j h = ap (λ (l : List Float). get_or l j nan) k.areas ∙ sets-before w p.areas (areas_up_to (xs_in p w) (ys_in p w) (tri_from p.given u) r) j nan h

  pub words-before : (j : ℕ) → j < p.wound → get_or u' j 0 ≡ get_or u j 0
  words-before j h = ap (λ (l : List ℕ). get_or l j 0) k.wound ∙ sets-before u p.wound (wound_up_to (xs_in p w) (ys_in p w) (tri_from p.given u) r) j 0 h

  sound : (i : ℕ) → i < r → is_degenerate (geometry_in p w u i) ≡ false
  sound i h = sound-before (xs_in p w) (ys_in p w) (tri_from p.given u) p.triangles i (omega (arith, k.first))

  most : r ≤ p.triangles
  most = rw k.first (first-most (xs_in p w) (ys_in p w) (tri_from p.given u) p.triangles)

  cornered : (i : ℕ) → i < p.triangles → Cornered p.points (tri_from p.given u i)
  cornered i h = corners-below p.points p.given u i (λ j g. below j (omega arith))

  each : (j : ℕ) → j < r → length (area_on (geometry_in p w u j)) ≡ 1
  each j g = (one-area (geometry_in p w u j) (sound j g)).0

  pub area-at : (i : ℕ) → i < r → get_or w' (p.areas + i) nan ≡ area_of (geometry_in p w u i)
  unfolding areas_up_to
  area-at i h =
      let size = joined_length (λ j. area_on (geometry_in p w u j)) 1 r each in
      let e : i ≡ 1 * i + 0 = omega arith in
      ap (λ (l : List Float). get_or l (p.areas + i) nan) k.areas
      ∙ sets-within w p.areas (joined (λ j. area_on (geometry_in p w u j)) r) i nan (omega (arith, size, most, room.areas-in)) (omega (arith, size))
      ∙ ap (λ (j : ℕ). get_or (joined (λ j. area_on (geometry_in p w u j)) r) j nan) e
      ∙ joined_at (λ j. area_on (geometry_in p w u j)) 1 r each i 0 nan h (omega arith)
      ∙ one (geometry_in p w u i)

  pub tri-at : (i : ℕ) → i < r → tri_from p.wound u' i ≡ corners_of (geometry_in p w u i)
  tri-at = kept-tri (xs_in p w) (ys_in p w) (tri_from p.given u) r sound p.wound u' stand
    where
      W : List ℕ
      W = wound_up_to (xs_in p w) (ys_in p w) (tri_from p.given u) r

      size : length W ≡ 3 * r
      size = wound-length (xs_in p w) (ys_in p w) (tri_from p.given u) r sound

      stand : (j : ℕ) → j < 3 * r → get_or u' (p.wound + j) 0 ≡ get_or W j 0
      stand j h = ap (λ (l : List ℕ). get_or l (p.wound + j) 0) k.wound ∙ sets-within u p.wound W j 0 (omega (arith, size, most, room.wound-in)) (omega (arith, size))

  -- the kept corners are points
  pub cornered-at : (i : ℕ) → i < r → Cornered p.points (tri_from p.wound u' i)
  cornered-at i h =
      subst (Cornered p.points) (sym (tri-at i h)) (kept-cornered (xs_in p w) (ys_in p w) p.points i (tri_from p.given u i) (cornered i (omega (arith, most))) (sound i h))

  pub below-kept : Below p.points p.wound u' (3 * r)
  below-kept = below_all p.points p.wound u' r cornered-at
