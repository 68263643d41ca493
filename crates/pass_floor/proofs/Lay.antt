-- A floor that is laid out stands in the slices as its definition says, and so does its guidance; the pass over it is the pass of the definition. Nothing but
-- the planes changes. Assumes nothing.
use Prim.Native.Nat.{ℕ, ◌+◌, ◌*◌, ◌/◌, ◌≤◌, ◌<◌}
use native.Mathlib.Omega.{arith}
use mathlib.Core.Path.{◌≡◌, refl, sym, ap, ◌∙◌, subst}
use mathlib.Core.Logic.{⊎_elim}
use mathlib.Core.Bool.{Bool, true, false, cond}
use mathlib.Core.List.{List, [], ◌∷◌, ◌++◌, map}
use lib.ListN.{length, get_or}
use lib.Ieee.{Float, nan}
use Rattle.linear_cells.specs.Region.{tab, region, put, Apart}
use Rattle.linear_cells.proofs.Loops.{apart, apart-cases, length-tab, tab-ext}
use Rattle.linear_cells.proofs.Regions.{length-put, region-put, region-else}
use Rattle.linear_cells.proofs.Changes.{region-one}
use Rattle.mesh.specs.Mesh.{Side, side}
use Rattle.mesh.specs.Points.{x_of, y_of, mid_size, mid_sizes, more_points, more_sizes}
use Rattle.mesh.proofs.Points.{points-length}
use Rattle.edges.specs.Numbering.{tris_from}
use Rattle.refinement.specs.Guidance.{mid_angle_on, mid_angles, more_angles}
use Rattle.edges.specs.declared.Table.{Table}
use Rattle.pass_floor.specs.declared.inputs.Mean.TheVariants.{Half, Angle}
use Rattle.pass_floor.specs.Planes.{coordinate_at, coordinate_plane, mean_of, mean_on, value_plane}
use Rattle.pass_floor.proofs.Points.{cuts-length, length-plane}
use Rattle.pass_layout.specs.declared.Base.{Base}
use Rattle.pass_layout.specs.declared.Layout.{Layout}
use Rattle.pass_layout.specs.Layout.{reals_of, layout_of, Fits, Ordered}
use Rattle.pass_layout.specs.Work.{floor_in, guidance_in}
use Rattle.pass_layout.proofs.Regions.{stride-between, fits-ordered}
use Rattle.pass_options.specs.declared.Options.{Options}
use Rattle.pass_options.specs.Options.{guidance_of}
use Rattle.pass_options.specs.Pass.{stage_of, floor_of}
use Rattle.pass_branches.specs.Work.{Finds}
use Rattle.pass.specs.declared.Asked.{Asked}
use Rattle.pass.specs.Work.{pass_in}
use Rattle.edges.specs.Table.{cuts_in}
use Rattle.pass_floor.specs.Lay.{points_laid, guidance_laid, pass_over, pass_at, LayRoom, GuidanceRoom, LaidRoom, Made}
use Rattle.refusals.specs.Refusal.{Verdict}

-- ---- the planes are those of the refined floor

coordinates : (pts : List Float) (cuts : List Side) (k : ℕ) (z : List Float → ℕ → Float) → ((v : ℕ) → z (more_points pts cuts) v ≡ get_or (more_points pts cuts) (3 * v + k) nan) → length pts ≡ 3 * (length pts / 3)
    → coordinate_plane pts cuts k ≡ tab (z (more_points pts cuts)) (length (more_points pts cuts) / 3)
unfolding coordinate_plane coordinate_at
coordinates pts cuts k z is whole =
    let e : length pts / 3 + length cuts ≡ length (more_points pts cuts) / 3 = omega (arith, points-length pts cuts) in
    tab-ext _ (z (more_points pts cuts)) (length pts / 3 + length cuts) (λ v h. sym (is v)) ∙ ap (tab (z (more_points pts cuts))) e

x-plane : (pts : List Float) (cuts : List Side) → length pts ≡ 3 * (length pts / 3) → coordinate_plane pts cuts 0 ≡ tab (x_of (more_points pts cuts)) (length (more_points pts cuts) / 3)
x-plane pts cuts whole = coordinates pts cuts 0 x_of (λ v. let e : 3 * v ≡ 3 * v + 0 = omega arith in ap (λ (i : ℕ). get_or (more_points pts cuts) i nan) e) whole

y-plane : (pts : List Float) (cuts : List Side) → length pts ≡ 3 * (length pts / 3) → coordinate_plane pts cuts 1 ≡ tab (y_of (more_points pts cuts)) (length (more_points pts cuts) / 3)
y-plane pts cuts whole = coordinates pts cuts 1 y_of (λ v. refl) whole

map_same : (f g : Side → Float) → ((a b : ℕ) → f (side a b) ≡ g (side a b)) → (l : List Side) → map f l ≡ map g l
map_same f g h [] = refl
map_same f g h (side a b ∷ l) = rw (h a b, map_same f g h l)

size-plane : (sizes : List Float) (cuts : List Side) → value_plane Half sizes cuts ≡ more_sizes sizes cuts
unfolding value_plane mean_of more_sizes mid_sizes
size-plane sizes cuts = ap (λ (l : List Float). sizes ++ l) (map_same (mean_on Half sizes) (mid_size sizes) (λ a b. refl) cuts)

angle-plane : (angles : List Float) (cuts : List Side) → value_plane Angle angles cuts ≡ more_angles angles cuts
unfolding value_plane mean_of more_angles mid_angles
angle-plane angles cuts = ap (λ (l : List Float). angles ++ l) (map_same (mean_on Angle angles) (mid_angle_on angles) (λ a b. refl) cuts)

-- ---- the slice with them

module _ (at : Base) (guided : Bool) (points sizes angles : List Float) (t : Table) (w : List Float) (u : List ℕ)
    (ok : LaidRoom at guided (length points) (length sizes) (length angles) t (length w) (length u)) where
  abbrev l : Layout
  l = layout_of at

  abbrev cuts : List Side
  cuts = cuts_in t u

  abbrev placed : List Float
  placed = points_laid points sizes cuts l w

  abbrev ready : List Float
  ready = guidance_laid guided angles cuts l placed

  ordered : Ordered l (length w) (length u)
  ordered = fits-ordered at ok.fits

  pub lay-room : LayRoom (length points) (length sizes) t (length u) l (length w)
  unfolding layout_of
  lay-room = record { whole = ok.whole; sized = ok.sized; table-in = ok.table-in; x-in = omega (arith, ok.fits.reals-fit); y-in = omega (arith, ok.fits.reals-fit); sizes-in = omega (arith, ok.fits.reals-fit) }

  pub placed-length : length placed ≡ length w
  unfolding points_laid
  placed-length = length-put _ _ _ ∙ length-put _ _ _ ∙ length-put _ _ _

  pub guidance-room : GuidanceRoom guided (length angles) t (length u) l (length placed)
  unfolding layout_of
  guidance-room = record { table-in = ok.table-in; guidance-in = λ g. omega (arith, ok.guided-all g, ok.fits.reals-fit, placed-length) }

  pub ready-length : length ready ≡ length w
  unfolding guidance_laid
  ready-length = go guided
    where
      go : (g : Bool) → length (cond g (put placed l.guidance (value_plane Angle angles cuts)) placed) ≡ length w
      go true = length-put _ _ _ ∙ placed-length
      go false = placed-length

  -- what stands elsewhere

  ready-else : (b n : ℕ) → Apart l.guidance at.points b n → region nan ready b n ≡ region nan placed b n
  unfolding guidance_laid
  ready-else b n h = go guided refl
    where
      go : (g : Bool) → g ≡ guided → region nan (cond g (put placed l.guidance (value_plane Angle angles cuts)) placed) b n ≡ region nan placed b n
      go true e = region-else placed l.guidance (value_plane Angle angles cuts) (length-plane Angle angles t u ∙ omega (arith, ok.guided-all (sym e))) nan b n h
      go false e = refl

  long-x : length (coordinate_plane points cuts 0) ≡ at.points
  unfolding coordinate_plane
  long-x = length-tab _ _ ∙ omega (arith, cuts-length t u)

  long-y : length (coordinate_plane points cuts 1) ≡ at.points
  unfolding coordinate_plane
  long-y = length-tab _ _ ∙ omega (arith, cuts-length t u)

  long-sizes : length (value_plane Half sizes cuts) ≡ at.points
  long-sizes = length-plane Half sizes t u ∙ omega arith

  xs-laid : region nan ready l.x at.points ≡ coordinate_plane points cuts 0
  unfolding points_laid layout_of
  xs-laid =
      ready-else l.x at.points (omega (arith, apart))
      ∙ region-else _ l.sizes _ long-sizes nan l.x at.points (omega (arith, apart))
      ∙ region-else _ l.y _ long-y nan l.x at.points (omega (arith, apart))
      ∙ region-put w l.x _ long-x nan (omega (arith, ok.fits.reals-fit))

  ys-laid : region nan ready l.y at.points ≡ coordinate_plane points cuts 1
  unfolding points_laid layout_of
  ys-laid =
      ready-else l.y at.points (omega (arith, apart))
      ∙ region-else _ l.sizes _ long-sizes nan l.y at.points (omega (arith, apart))
      ∙ region-put _ l.y _ long-y nan (omega (arith, ok.fits.reals-fit, length-put w l.x (coordinate_plane points cuts 0)))

  sizes-laid : region nan ready l.sizes at.points ≡ value_plane Half sizes cuts
  unfolding points_laid layout_of
  sizes-laid =
      ready-else l.sizes at.points (omega (arith, apart))
      ∙ region-put _ l.sizes _ long-sizes nan (omega (arith, ok.fits.reals-fit, length-put (put w l.x (coordinate_plane points cuts 0)) l.y (coordinate_plane points cuts 1), length-put w l.x (coordinate_plane points cuts 0)))

  floor-laid : floor_in l ready u ≡ floor_of (more_points points cuts) (tris_from at.words u at.triangles) (more_sizes sizes cuts)
  unfolding floor_in layout_of
  floor-laid = λ k. record {
    xs = (xs-laid ∙ x-plane points cuts ok.whole) k;
    ys = (ys-laid ∙ y-plane points cuts ok.whole) k;
    sizes = (sizes-laid ∙ size-plane sizes cuts) k;
    triangles = tris_from at.words u at.triangles;
  }

  guidance-laid : guided ≡ true → guidance_in l ready ≡ more_angles angles cuts
  unfolding guidance_laid layout_of
  guidance-laid g = go guided refl
    where
      go : (b : Bool) → b ≡ guided → region nan (cond b (put placed l.guidance (value_plane Angle angles cuts)) placed) l.guidance at.points ≡ more_angles angles cuts
      go true e = region-put placed l.guidance _ (length-plane Angle angles t u ∙ omega (arith, ok.guided-all g)) nan (omega (arith, ok.fits.reals-fit, placed-length)) ∙ angle-plane angles cuts
      go false e = let z : ◌≡◌ {A = ℕ} 0 1 = cc in absurd (omega arith)

  guidance-same : (weight : Float) → guidance_of guided weight (guidance_in l ready) ≡ guidance_of guided weight (more_angles angles cuts)
  guidance-same weight = go guided guidance-laid
    where
      go : (b : Bool) → (b ≡ true → guidance_in l ready ≡ more_angles angles cuts) → guidance_of b weight (guidance_in l ready) ≡ guidance_of b weight (more_angles angles cuts)
      go true h = rw (h refl)
      go false h = refl

  -- the planes stand behind the angles, one after another
  ready-same : (b n : ℕ) → Apart (at.reals + at.points) (4 * at.points) b n → region nan ready b n ≡ region nan w b n
  unfolding layout_of points_laid
  ready-same b n h =
      ready-else b n (within (3 * at.points) (omega arith) (omega arith))
      ∙ region-else _ l.sizes _ long-sizes nan b n (within (2 * at.points) (omega arith) (omega arith))
      ∙ region-else _ l.y _ long-y nan b n (within at.points (omega arith) (omega arith))
      ∙ region-else w l.x _ long-x nan b n (within 0 (omega arith) (omega arith))
    where
      within : {c : ℕ} (k : ℕ) → c ≡ at.reals + at.points + k → k + at.points ≤ 4 * at.points → Apart c at.points b n
      within {c} k e f = ⊎_elim (λ (g : at.reals + at.points + 4 * at.points ≤ b). apart c at.points b n (omega arith)) (λ (g : b + n ≤ at.reals + at.points). apart c at.points b n (omega arith)) (apart-cases (at.reals + at.points) (4 * at.points) b n h)

  pub ready-below : (j : ℕ) → j < at.reals + at.points → get_or ready j nan ≡ get_or w j nan
  ready-below j h = region-one nan w ready j (ready-same j 1 (omega (arith, apart)))

  pub ready-behind : (j : ℕ) → at.reals + reals_of at.points at.triangles ≤ j → get_or ready j nan ≡ get_or w j nan
  ready-behind j h = region-one nan w ready j (ready-same j 1 (omega (arith, apart)))

-- ---- the pass over it

module _ (at : Base) (o : Options) (a : Asked) (points sizes angles : List Float) (t : Table) (w : List Float) (u : List ℕ)
    (ok : LaidRoom at a.guided (length points) (length sizes) (length angles) t (length w) (length u)) where
  abbrev before : List Float
  before = guidance_laid a.guided angles (cuts_in t u) (layout_of at) (points_laid points sizes (cuts_in t u) (layout_of at) w)

  same-pass : pass_in (layout_of at) o a before u ≡ pass_at at o a t points sizes angles u
  unfolding pass_in pass_over
  same-pass = rw (floor-laid at a.guided points sizes angles t w u ok, guidance-same at a.guided points sizes angles t w u ok a.weight)

  made-before : {w₃ : List Float} {u₃ : List ℕ} {r : Verdict} → Finds (layout_of at) (layout_of at).areas (layout_of at).wound (pass_in (layout_of at) o a before u) before u w₃ u₃ r → Made at (pass_at at o a t points sizes angles u) w w₃ u u₃ r
  unfolding layout_of
  made-before f = record {
    answer = f.answer ∙ ap stage_of same-pass;
    found = λ alpha h. f.found alpha (same-pass ∙ h);
    all-reals = f.all-reals ∙ ready-length at a.guided points sizes angles t w u ok;
    all_words = f.all_words;
    reals-below = λ j h. f.reals-below j h ∙ ready-below at a.guided points sizes angles t w u ok j (omega arith);
    angles-stay = λ x h j g k. f.angles-stay x (same-pass ∙ h) j g k ∙ ready-below at a.guided points sizes angles t w u ok j k;
    reals-behind = λ j h. f.reals-behind j (omega (arith, (stride-between at.points).1)) ∙ ready-behind at a.guided points sizes angles t w u ok j h;
    words-below = λ j h. f.words-below j (omega arith);
    words-behind = λ j h. f.words-behind j (omega arith);
  }

  pub fits-now : {w₁ w₂ : List Float} → w₁ ≡ points_laid points sizes (cuts_in t u) (layout_of at) w → w₂ ≡ guidance_laid a.guided angles (cuts_in t u) (layout_of at) w₁ → Fits at (length w₂) (length u)
  fits-now {w₁} {w₂} e₁ e₂ =
      let k : length w₂ ≡ length w = ap length (e₂ ∙ ap (guidance_laid a.guided angles (cuts_in t u) (layout_of at)) e₁) ∙ ready-length at a.guided points sizes angles t w u ok in
      subst (λ (n : ℕ). Fits at n (length u)) (sym k) ok.fits

  pub made : {w₁ w₂ : List Float} → w₁ ≡ points_laid points sizes (cuts_in t u) (layout_of at) w → w₂ ≡ guidance_laid a.guided angles (cuts_in t u) (layout_of at) w₁
      → {w₃ : List Float} {u₃ : List ℕ} {r : Verdict} → Finds (layout_of at) (layout_of at).areas (layout_of at).wound (pass_in (layout_of at) o a w₂ u) w₂ u w₃ u₃ r
      → Made at (pass_at at o a t points sizes angles u) w w₃ u u₃ r
  made e₁ e₂ {w₃} {u₃} {r} f =
      made-before (subst (λ (x : List Float). Finds (layout_of at) (layout_of at).areas (layout_of at).wound (pass_in (layout_of at) o a x u) x u w₃ u₃ r) (e₂ ∙ ap (guidance_laid a.guided angles (cuts_in t u) (layout_of at)) e₁) f)
