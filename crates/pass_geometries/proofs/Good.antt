-- Where no triangle is degenerate the corners of each are pairwise different, as given and as they are kept: what refinement and the numbering of sides
-- ask of a list of triangles. Nothing is asked of the points' positions: row 19 answers for them. Assumes nothing.
use Prim.Native.Nat.{ℕ, zero, suc, ◌+◌, ◌*◌, ◌≤◌, ◌<◌}
use native.Mathlib.Omega.{arith}
use mathlib.Core.Path.{◌≡◌, refl, sym, ap, ◌∙◌, subst}
use mathlib.Core.Logic.{⊎_elim}
use mathlib.Core.Bool.{Bool, true, false, cond}
use mathlib.Core.List.{List, [], ◌∷◌}
use lib.ListN.{length, get_or}
use lib.Dec.{T}
use lib.Ieee.{Float, lt}
use Rattle.std.specs.Prelude.{Ok, Err}
use Rattle.float.specs.Double.{lit}
use Rattle.plane.specs.declared.Pair.{Pair}
use Rattle.mesh.specs.Mesh.{Tri, tri, Good, All}
use Rattle.mesh.proofs.Whole.{All-append}
use Rattle.edges.specs.Numbering.{tri_from, tris_from}
use Rattle.floor.proofs.Lowest.{lowest-most, lowest-before}
use Rattle.geometry.specs.declared.TriangleGeometry.{TriangleGeometry}
use Rattle.plane.specs.Pair.{orientation}
use Rattle.geometry.specs.declared.Degenerate.{Degenerate}
use Rattle.geometry.specs.Triangle.{area_of, degenerate, placed, geometry, number, at}
use Rattle.geometry.proofs.Orientation.{three-corners}
use Rattle.pass_geometries.specs.declared.GeometriesPlan.{GeometriesPlan}
use Rattle.pass_geometries.specs.Geometries.{geometry_on, is_degenerate, corners_of, first_degenerate, Geometry}
use Rattle.pass_geometries.specs.Work.{corners_on, wound_up_to, Cornered, xs_in, ys_in, geometry_in}
use Rattle.pass_geometries.proofs.Steps.{kept-corners, one-area}
use Rattle.pass_geometries.proofs.Joined.{joined_length, joined_at}

-- ---- one triangle

pub no-refusal : (g : Geometry) → is_degenerate g ≡ false → number g ≡ 0
no-refusal (Ok g) h = refl
no-refusal (Err e) h = let z : ◌≡◌ {A = ℕ} 0 1 = cc in absurd (omega arith)

-- what a degenerate triangle answers: its own number in the list
abbrev pub row-19 : ℕ → Geometry
row-19 t = Err (record { triangle = t })

pub degenerate-at : (X Y : ℕ → Float) (s : Tri) (t : ℕ) → is_degenerate (geometry_on X Y s t) ≡ true → geometry_on X Y s t ≡ row-19 t
unfolding geometry
degenerate-at X Y (tri i j k) t h = go (lt (orientation (at X Y i) (at X Y j) (at X Y k)) (lit 0)) h
  where
    one : (a b c : ℕ) (p q r : Pair) (w : Float) → is_degenerate (placed a b c p q r w t) ≡ true → placed a b c p q r w t ≡ row-19 t
    one a b c p q r w h = unfold placed in by (degenerate p q r w) (record { i = a; j = b; k = c; p = p; q = q; r = r; area = w }) h
      where
        by : (d : Bool) (g : TriangleGeometry) → is_degenerate (cond d (row-19 t) (Ok g)) ≡ true → cond d (row-19 t) (Ok g) ≡ row-19 t
        by true g h = refl
        by false g h = absurd (subst T (sym h) tt)

    turned : Geometry
    turned = placed i k j (at X Y i) (at X Y k) (at X Y j) (area_of (orientation (at X Y i) (at X Y j) (at X Y k))) t

    given : Geometry
    given = placed i j k (at X Y i) (at X Y j) (at X Y k) (area_of (orientation (at X Y i) (at X Y j) (at X Y k))) t

    go : (l : Bool) → is_degenerate (cond l turned given) ≡ true → cond l turned given ≡ row-19 t
    go true h = one i k j (at X Y i) (at X Y k) (at X Y j) (area_of (orientation (at X Y i) (at X Y j) (at X Y k))) h
    go false h = one i j k (at X Y i) (at X Y j) (at X Y k) (area_of (orientation (at X Y i) (at X Y j) (at X Y k))) h

pub error-place : (p : GeometriesPlan) (i : ℕ) (w : List Float) (u : List ℕ) {f : Geometry} (e : Degenerate) → f ≡ geometry_in p w u i → f ≡ Err e → e.triangle ≡ i
error-place p i w u {f} e read h =
    let g : geometry_in p w u i ≡ Err e = sym read ∙ h in
    let d : ◌≡◌ {A = Geometry} (Err e) (row-19 i) = sym g ∙ degenerate-at (xs_in p w) (ys_in p w) (tri_from p.given u i) i (ap is_degenerate g) in
    ap told d
  where
    told : Geometry → ℕ
    told (Ok g) = 0
    told (Err e) = e.triangle

pub good-given : (X Y : ℕ → Float) (n : ℕ) (s : Tri) (t : ℕ) → Cornered n s → is_degenerate (geometry_on X Y s t) ≡ false → Good n s
good-given X Y n (tri i j k) t b h =
    let d = three-corners X Y i j k t (no-refusal (geometry_on X Y (tri i j k) t) h) in
    (b.0, b.1.0, b.1.1, d.0, d.1, d.2)

pub good-kept : (X Y : ℕ → Float) (n : ℕ) (s : Tri) (t : ℕ) → Cornered n s → is_degenerate (geometry_on X Y s t) ≡ false → Good n (corners_of (geometry_on X Y s t))
good-kept X Y n (tri i j k) t b h =
    let g : Good n (tri i j k) = good-given X Y n (tri i j k) t b h in
    let swapped : Good n (tri i k j) = (g.0, g.2, g.1, λ e. g.5 (sym e), λ e. g.4 (sym e), λ e. g.3 (sym e)) in
    ⊎_elim (λ e. subst (Good n) (sym e) g) (λ e. subst (Good n) (sym e) swapped) (kept-corners X Y i j k t h)

-- ---- lists of triangles

-- what holds of each of the first t triangles that stand from c on
pub all_from : (P : Tri → Type 0) (c : ℕ) (u : List ℕ) (t : ℕ) → ((i : ℕ) → i < t → P (tri_from c u i)) → All P (tris_from c u t)
unfolding tris_from
all_from P c u zero h = tt
all_from P c u (suc t) h = All-append P (tris_from c u t) (tri_from c u t ∷ []) (all_from P c u t (λ i g. h i (omega arith))) (h t (omega arith), tt)

three : (g : Geometry) → tri (get_or (corners_on g) 0 0) (get_or (corners_on g) 1 0) (get_or (corners_on g) 2 0) ≡ corners_of g
three (Ok g) = refl
three (Err e) = refl

module _ (X Y : ℕ → Float) (ts : ℕ → Tri) where
  -- before the first degenerate one none is
  pub sound-before : (t i : ℕ) → i < first_degenerate X Y ts t → is_degenerate (geometry_on X Y (ts i) i) ≡ false
  unfolding first_degenerate
  sound-before t i h = lowest-before (λ i. is_degenerate (geometry_on X Y (ts i) i)) t i h

  pub first-most : (t : ℕ) → first_degenerate X Y ts t ≤ t
  unfolding first_degenerate
  first-most t = lowest-most (λ i. is_degenerate (geometry_on X Y (ts i) i)) t

  -- the first r triangles have a geometry: three numbers of each are kept, one triangle's after the other's
  module _ (r : ℕ) (sound : (i : ℕ) → i < r → is_degenerate (geometry_on X Y (ts i) i) ≡ false) where
    pub wound-length : length (wound_up_to X Y ts r) ≡ 3 * r
    unfolding wound_up_to
    wound-length = joined_length _ 3 r (λ j h. (one-area (geometry_on X Y (ts j) j) (sound j h)).1)

    nth : (i d : ℕ) → i < r → d < 3 → get_or (wound_up_to X Y ts r) (3 * i + d) 0 ≡ get_or (corners_on (geometry_on X Y (ts i) i)) d 0
    unfolding wound_up_to
    nth i d h g = joined_at _ 3 r (λ j h. (one-area (geometry_on X Y (ts j) j) (sound j h)).1) i d 0 h g

    -- wherever they stand from v on
    pub kept-tri : (v : ℕ) (u : List ℕ) → ((j : ℕ) → j < 3 * r → get_or u (v + j) 0 ≡ get_or (wound_up_to X Y ts r) j 0) → (i : ℕ) → i < r → tri_from v u i ≡ corners_of (geometry_on X Y (ts i) i)
    kept-tri v u h i g = same (number_at (v + 3 * i) 0 (omega arith) (omega arith)) (number_at (v + 3 * i + 1) 1 (omega arith) (omega arith)) (number_at (v + 3 * i + 2) 2 (omega arith) (omega arith)) ∙ three (geometry_on X Y (ts i) i)
      where
        number_at : (j d : ℕ) → j ≡ v + (3 * i + d) → d < 3 → get_or u j 0 ≡ get_or (corners_on (geometry_on X Y (ts i) i)) d 0
        number_at j d e f = ap (λ (k : ℕ). get_or u k 0) e ∙ h (3 * i + d) (omega arith) ∙ nth i d g f

        same : {a b c a' b' c' : ℕ} → a ≡ a' → b ≡ b' → c ≡ c' → tri a b c ≡ tri a' b' c'
        same e f g = rw (e, f, g)

-- ---- no degenerate triangle: the corners of all are points, pairwise different

module _ (X Y : ℕ → Float) (n t : ℕ) (ts : ℕ → Tri) (cornered : (i : ℕ) → i < t → Cornered n (ts i)) where
  -- as given
  pub good-at : (i : ℕ) → i < first_degenerate X Y ts t → Good n (ts i)
  good-at i h = good-given X Y n (ts i) i (cornered i (omega (arith, first-most X Y ts t))) (sound-before X Y ts t i h)

  -- counter-clockwise
  pub good-swapped : (i : ℕ) → i < first_degenerate X Y ts t → Good n (corners_of (geometry_on X Y (ts i) i))
  good-swapped i h = good-kept X Y n (ts i) i (cornered i (omega (arith, first-most X Y ts t))) (sound-before X Y ts t i h)

  -- as kept, in a slice in which the kept numbers stand from v on
  pub good-wound : (v r : ℕ) (u : List ℕ) → r ≡ first_degenerate X Y ts t → ((j : ℕ) → j < 3 * r → get_or u (v + j) 0 ≡ get_or (wound_up_to X Y ts r) j 0) → All (Good n) (tris_from v u r)
  good-wound v r u e h =
      all_from (Good n) v u r (λ i g. subst (Good n) (sym (kept-tri X Y ts r (λ i g. sound-before X Y ts t i (omega arith)) v u h i g)) (good-swapped i (omega arith)))
