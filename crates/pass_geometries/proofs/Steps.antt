-- The triangles of a pass, one more at a time: what stands in the two slices after it. The coordinates lie before the areas, and the corners as given
-- before those put counter-clockwise, so that what is kept changes nothing that is read. Assumes nothing.
use Prim.Native.Nat.{ℕ, ◌+◌, ◌*◌, ◌^◌, ◌≤◌, ◌<◌}
use native.Mathlib.Omega.{arith}
use native.Mathlib.Numerals.{add-one}
use mathlib.Core.Path.{◌≡◌, refl, sym, ap, ◌∙◌, subst}
use mathlib.Core.Logic.{◌⊎◌, inl, inr, ⊎_elim}
use mathlib.Core.Bool.{Bool, true, false, not, cond}
use mathlib.Core.List.{List, [], ◌∷◌}
use lib.ListN.{length, length-append, get_or}
use lib.Seq.{sets, length-sets}
use lib.Ieee.{Float, nan, lt}
use Rattle.std.specs.Prelude.{Ok, Err}
use Rattle.float.specs.Double.{lit}
use Rattle.plane.specs.declared.Pair.{Pair}
use Rattle.mesh.specs.Mesh.{Tri, tri}
use Rattle.edges.specs.Numbering.{tri_from, Below}
use Rattle.slices.proofs.Runs.{sets-before, sets-append}
use Rattle.floor.proofs.Lowest.{lowest-none, lowest-again, lowest-found}
use Rattle.geometry.specs.declared.TriangleGeometry.{TriangleGeometry}
use Rattle.plane.specs.Pair.{orientation}
use Rattle.geometry.specs.declared.Degenerate.{Degenerate}
use Rattle.geometry.specs.Triangle.{geometry, placed, degenerate, area_of as area, at}
use Rattle.pass_geometries.specs.declared.GeometriesPlan.{GeometriesPlan}
use Rattle.pass_geometries.specs.Geometries.{geometry_on, is_degenerate, corners_of, first_degenerate, Geometry}
use Rattle.pass_geometries.specs.Work.{corners_on, area_on, joined, wound_up_to, areas_up_to, coords_from, xs_in, ys_in, geometry_in, Cornered, GeometriesRoom, Looked, Kept}

-- ---- one triangle

-- its three corners are points
pub corners-below : (n c : ℕ) (u : List ℕ) (t : ℕ) → Below n c u (3 * t + 3) → Cornered n (tri_from c u t)
corners-below n c u t h =
    let e₁ : c + (3 * t + 1) ≡ c + 3 * t + 1 = omega arith in
    let e₂ : c + (3 * t + 2) ≡ c + 3 * t + 2 = omega arith in
    (h (3 * t) (omega arith), (subst (λ (j : ℕ). get_or u j 0 < n) e₁ (h (3 * t + 1) (omega arith)), subst (λ (j : ℕ). get_or u j 0 < n) e₂ (h (3 * t + 2) (omega arith))))

-- the corners of a geometry are those given, perhaps with the second and the third exchanged
pub kept-corners : (X Y : ℕ → Float) (i j k t : ℕ) → is_degenerate (geometry_on X Y (tri i j k) t) ≡ false
    → (corners_of (geometry_on X Y (tri i j k) t) ≡ tri i j k) ⊎ (corners_of (geometry_on X Y (tri i j k) t) ≡ tri i k j)
unfolding geometry placed
kept-corners X Y i j k t h = swapped (lt (orientation p q r) (lit 0)) h
  where
    p : Pair
    p = at X Y i

    q : Pair
    q = at X Y j

    r : Pair
    r = at X Y k

    held : (a c e : ℕ) (P Q R : Pair) (w : Float) (d : Bool) → is_degenerate (cond d (Err (record { triangle = t })) (Ok (record { i = a; j = c; k = e; p = P; q = Q; r = R; area = w }))) ≡ false
        → corners_of (cond d (Err (record { triangle = t })) (Ok (record { i = a; j = c; k = e; p = P; q = Q; r = R; area = w }))) ≡ tri a c e
    held a c e P Q R w true h = let z : ◌≡◌ {A = ℕ} 0 1 = cc in absurd (omega arith)
    held a c e P Q R w false h = refl

    swapped : (l : Bool) → is_degenerate (cond l (placed i k j p r q (area (orientation p q r)) t) (placed i j k p q r (area (orientation p q r)) t)) ≡ false
        → (corners_of (cond l (placed i k j p r q (area (orientation p q r)) t) (placed i j k p q r (area (orientation p q r)) t)) ≡ tri i j k)
        ⊎ (corners_of (cond l (placed i k j p r q (area (orientation p q r)) t) (placed i j k p q r (area (orientation p q r)) t)) ≡ tri i k j)
    swapped true h = inr (held i k j p r q (area (orientation p q r)) (degenerate p r q (area (orientation p q r))) h)
    swapped false h = inl (held i j k p q r (area (orientation p q r)) (degenerate p q r (area (orientation p q r))) h)

pub kept-cornered : (X Y : ℕ → Float) (m t : ℕ) (s : Tri) → Cornered m s → is_degenerate (geometry_on X Y s t) ≡ false → Cornered m (corners_of (geometry_on X Y s t))
kept-cornered X Y m t (tri i j k) b h = ⊎_elim (λ e. subst (Cornered m) (sym e) b) (λ e. subst (Cornered m) (sym e) (b.0, (b.1.1, b.1.0))) (kept-corners X Y i j k t h)

-- ---- the triangle is looked at

module _ (p : GeometriesPlan) (i : ℕ) (w : List Float) (u : List ℕ) {f : Geometry} (read : f ≡ geometry_in p w u i) where
  pub looked-none : (t : Degenerate) → f ≡ Err t → Looked p i w u w u false
  looked-none t h =
      let z : geometry_in p w u i ≡ Err t = sym read ∙ h in
      record {
        sound = sym (ap (λ (g : Geometry). not (is_degenerate g)) z);
        area = sym (ap (λ (g : Geometry). sets w (p.areas + i) (area_on g)) z);
        corners = sym (ap (λ (g : Geometry). sets u (p.wound + 3 * i) (corners_on g)) z);
      }

  pub looked-kept : {w' : List Float} {u' : List ℕ} (g : TriangleGeometry) → f ≡ Ok g → w' ≡ sets w (p.areas + i) (g.area ∷ []) → u' ≡ sets u (p.wound + 3 * i) (g.i ∷ g.j ∷ g.k ∷ []) → Looked p i w u w' u' true
  looked-kept g h r s =
      let z : geometry_in p w u i ≡ Ok g = sym read ∙ h in
      record {
        sound = sym (ap (λ (g : Geometry). not (is_degenerate g)) z);
        area = r ∙ sym (ap (λ (g : Geometry). sets w (p.areas + i) (area_on g)) z);
        corners = s ∙ sym (ap (λ (g : Geometry). sets u (p.wound + 3 * i) (corners_on g)) z);
      }

  -- its corners fit 32 bits
  pub corners-fit : (g : TriangleGeometry) → p.points ≤ 2 ^ 32 → i < p.triangles → Below p.points p.given u (3 * p.triangles) → f ≡ Ok g → Cornered (2 ^ 32) (tri g.i g.j g.k)
  corners-fit g narrow it below h =
      let e : geometry_in p w u i ≡ Ok g = sym read ∙ h in
      let b = corners-below p.points p.given u i (λ j l. below j (omega arith)) in
      let z = subst (λ (g : Geometry). Cornered p.points (corners_of g)) e (kept-cornered (xs_in p w) (ys_in p w) p.points i (tri_from p.given u i) b (ap is_degenerate e)) in
      (omega (arith, z.0), (omega (arith, z.1.0), omega (arith, z.1.1)))

-- ---- all the triangles

-- the first i triangles have a geometry, and are kept
pub record To (p : GeometriesPlan) (i : ℕ) (w₀ : List Float) (u₀ : List ℕ) (w : List Float) (u : List ℕ) : Type 0 where
  pub sound : i ≡ first_degenerate (xs_in p w₀) (ys_in p w₀) (tri_from p.given u₀) i
  pub areas : w ≡ sets w₀ p.areas (areas_up_to (xs_in p w₀) (ys_in p w₀) (tri_from p.given u₀) i)
  pub wound : u ≡ sets u₀ p.wound (wound_up_to (xs_in p w₀) (ys_in p w₀) (tri_from p.given u₀) i)
  pub many : length (areas_up_to (xs_in p w₀) (ys_in p w₀) (tri_from p.given u₀) i) ≡ i
  pub thrice : length (wound_up_to (xs_in p w₀) (ys_in p w₀) (tri_from p.given u₀) i) ≡ 3 * i

pub to_none : (p : GeometriesPlan) (w : List Float) (u : List ℕ) → To p 0 w u w u
unfolding areas_up_to wound_up_to joined first_degenerate
to_none p w u = record { sound = lowest-none _; areas = refl; wound = refl; many = refl; thrice = refl }

-- a geometry that is not degenerate has one area and three corners
pub one-area : (g : Geometry) → is_degenerate g ≡ false → (length (area_on g) ≡ 1) × (length (corners_on g) ≡ 3)
one-area (Ok g) h = (refl, refl)
one-area (Err e) h = let z : ◌≡◌ {A = ℕ} (cond true 0 1) (cond false 0 1) = ap (λ (b : Bool). cond b 0 1) h in absurd (omega (arith, z))

not-false : (b : Bool) → true ≡ not b → b ≡ false
not-false true h = h
not-false false h = refl

not-true : (b : Bool) → false ≡ not b → b ≡ true
not-true true h = refl
not-true false h = h

-- a degenerate one has none
nothing : (g : Geometry) → is_degenerate g ≡ true → (area_on g ≡ []) × (corners_on g ≡ [])
nothing (Ok g) h = let z : ◌≡◌ {A = ℕ} (cond false 0 1) (cond true 0 1) = ap (λ (b : Bool). cond b 0 1) h in absurd (omega (arith, z))
nothing (Err e) h = (refl, refl)

pub to-lengths : {p : GeometriesPlan} {i : ℕ} {w₀ w : List Float} {u₀ u : List ℕ} → To p i w₀ u₀ w u → (length w ≡ length w₀) × (length u ≡ length u₀)
to-lengths {p} {i} {w₀} {w} {u₀} k =
    (ap length k.areas ∙ length-sets w₀ p.areas (areas_up_to (xs_in p w₀) (ys_in p w₀) (tri_from p.given u₀) i), ap length k.wound ∙ length-sets u₀ p.wound (wound_up_to (xs_in p w₀) (ys_in p w₀) (tri_from p.given u₀) i))

module _ {p : GeometriesPlan} {i : ℕ} {w₀ w : List Float} {u₀ u : List ℕ} (room : GeometriesRoom p (length w₀) (length u₀)) (below : Below p.points p.given u₀ (3 * p.triangles)) (it : i < p.triangles) (k : To p i w₀ u₀ w u) where
  -- what is read stands as it did
  coord-same : (b j : ℕ) → b + p.points ≤ p.areas → j < p.points → coords_from w b j ≡ coords_from w₀ b j
  coord-same b j h g = ap (λ (l : List Float). get_or l (b + j) nan) k.areas ∙ sets-before w₀ p.areas (areas_up_to (xs_in p w₀) (ys_in p w₀) (tri_from p.given u₀) i) (b + j) nan (omega arith)

  corner-same : (j : ℕ) → j < p.given + 3 * p.triangles → get_or u j 0 ≡ get_or u₀ j 0
  corner-same j h = ap (λ (l : List ℕ). get_or l j 0) k.wound ∙ sets-before u₀ p.wound (wound_up_to (xs_in p w₀) (ys_in p w₀) (tri_from p.given u₀) i) j 0 (omega (arith, room.given-in))

  pub below-now : Below p.points p.given u (3 * p.triangles)
  below-now j h = rw (corner-same (p.given + j) (omega arith)) (below j (omega arith))

  pub room-now : GeometriesRoom p (length w) (length u)
  room-now = rw ((to-lengths k).0, (to-lengths k).1) room

  at_same : (j : ℕ) → j < p.points → at (xs_in p w) (ys_in p w) j ≡ at (xs_in p w₀) (ys_in p w₀) j
  at_same j h = rw (coord-same p.x j room.x-in h, coord-same p.y j room.y-in h)

  same-geometry : geometry_in p w u i ≡ geometry_in p w₀ u₀ i
  same-geometry =
      let b = corners-below p.points p.given u i (λ j l. below-now j (omega arith)) in
      let c = p.given + 3 * i in
      rw (at_same (get_or u c 0) b.0, at_same (get_or u (c + 1) 0) b.1.0, at_same (get_or u (c + 2) 0) b.1.1, corner-same c (omega arith), corner-same (c + 1) (omega arith), corner-same (c + 2) (omega arith))

  pub to-more : {w' : List Float} {u' : List ℕ} → Looked p i w u w' u' true → To p (i + 1) w₀ u₀ w' u'
  unfolding areas_up_to wound_up_to joined first_degenerate
  to-more {w'} {u'} s =
      let G = geometry_in p w₀ u₀ i in
      let As = areas_up_to (xs_in p w₀) (ys_in p w₀) (tri_from p.given u₀) i in
      let Cs = wound_up_to (xs_in p w₀) (ys_in p w₀) (tri_from p.given u₀) i in
      let good : is_degenerate G ≡ false = not-false (is_degenerate G) (s.sound ∙ ap (λ (g : Geometry). not (is_degenerate g)) same-geometry) in
      let size = one-area G good in
      let na : p.areas + i ≡ p.areas + length As = omega (arith, k.many) in
      let nv : p.wound + 3 * i ≡ p.wound + length Cs = omega (arith, k.thrice) in
      record {
        sound = lowest-again _ i k.sound good;
        areas = rw (add-one i) (s.area ∙ rw (same-geometry, na, k.areas) (sets-append w₀ p.areas As (area_on G)));
        wound = rw (add-one i) (s.corners ∙ rw (same-geometry, nv, k.wound) (sets-append u₀ p.wound Cs (corners_on G)));
        many = rw (add-one i) (length-append As (area_on G) ∙ omega (arith, k.many, size.0));
        thrice = rw (add-one i) (length-append Cs (corners_on G) ∙ omega (arith, k.thrice, size.1));
      }

  pub to-found : {w' : List Float} {u' : List ℕ} → Looked p i w u w' u' false → Kept p w₀ u₀ w' u' i
  unfolding first_degenerate
  to-found {w'} {u'} s =
      let G = geometry_in p w₀ u₀ i in
      let bad : is_degenerate G ≡ true = not-true (is_degenerate G) (s.sound ∙ ap (λ (g : Geometry). not (is_degenerate g)) same-geometry) in
      record {
        first = lowest-found _ i p.triangles k.sound bad it;
        areas = s.area ∙ ap (sets w (p.areas + i)) (ap area_on same-geometry ∙ (nothing G bad).0) ∙ k.areas;
        wound = s.corners ∙ ap (sets u (p.wound + 3 * i)) (ap corners_on same-geometry ∙ (nothing G bad).1) ∙ k.wound;
      }

pub kept-done : {p : GeometriesPlan} {i : ℕ} {w₀ w : List Float} {u₀ u : List ℕ} → i ≡ p.triangles → To p i w₀ u₀ w u → Kept p w₀ u₀ w u i
kept-done {p} {i} {w₀} {w} {u₀} {u} e k = record { first = k.sound ∙ ap (first_degenerate (xs_in p w₀) (ys_in p w₀) (tri_from p.given u₀)) e; areas = k.areas; wound = k.wound }

pub kept-lengths : {p : GeometriesPlan} {r : ℕ} {w₀ w : List Float} {u₀ u : List ℕ} → Kept p w₀ u₀ w u r → (length w ≡ length w₀) × (length u ≡ length u₀)
kept-lengths {p} {r} {w₀} {w} {u₀} {u} k =
    (ap length k.areas ∙ length-sets w₀ p.areas (areas_up_to (xs_in p w₀) (ys_in p w₀) (tri_from p.given u₀) r), ap length k.wound ∙ length-sets u₀ p.wound (wound_up_to (xs_in p w₀) (ys_in p w₀) (tri_from p.given u₀) r))
