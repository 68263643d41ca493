-- From what stands at a layout to the whole branch: where no boundary mode acts the flags and the targets are not read; where one acts they are those of
-- the floor, once `boundary_targets` has written them. Assumes nothing.
use mathlib.Core.Path.{◌≡◌, refl, sym, ap, ◌∙◌}
use mathlib.Core.Bool.{Bool, true, false, cond, ◌&&◌}
use mathlib.Core.List.{List, [], ◌++◌}
use Prim.Native.Nat.{ℕ, ◌+◌, ◌*◌, ◌≤◌, ◌<◌}
use native.Mathlib.Omega.{arith}
use borrow.Author.Tests.{eq-eqb, ne_eqb}
use lib.Dec.{eqb}
use lib.Ieee.{Float, nan}
use lib.ListN.{length, get_or}
use Rattle.std.specs.Prelude.{Err}
use Rattle.complex.specs.declared.Complex.{Complex}
use Rattle.linear_cells.specs.Region.{region, put}
use Rattle.linear_cells.specs.Cell.{region_c, put_c}
use Rattle.linear_cells.proofs.Loops.{apart, length-tab}
use Rattle.linear_cells.proofs.Regions.{length-region, length-put, region-else}
use Rattle.linear_cells.proofs.Changes.{region-one}
use Rattle.linear_cells.proofs.Cells.{length-put_c, region_c-same, region_r-else}
use Rattle.edges.specs.Numbering.{tris_from}
use Rattle.linear_hermitian.specs.Work.{matrix}
use Rattle.floor.specs.Floor.{value_at}
use Rattle.pass_boundary.specs.declared.Planes.{Planes}
use Rattle.pass_boundary.specs.Boundary.{boundary_sides, targets_of, flags_of, firsts_of}
use Rattle.pass_boundary.specs.Work.{ListRoom, PlaneRoom, Bounded, counts_of, table_of}
use Rattle.pass_boundary.proofs.Slices.{sided-kept, numbers-kept}
use Rattle.pass_boundary.proofs.Points.{length-flags, length-targets, target-off}
use Rattle.pass_boundary.proofs.After.{targets-after, flags-after}
use Rattle.pass_constraints.specs.Constraints.{on}
use Rattle.pass_constraints.proofs.Systems.{boundary-data}
use Rattle.refusals.specs.Refusal.{row_at, Verdict}
use Rattle.pass_soft.specs.Soft.{Term, term_of, guided_targets, aligned_targets}
use Rattle.pass_soft.specs.Work.{terms_in}
use Rattle.pass_inverse_iteration.specs.Work.{start_in}
use Rattle.pass_options.specs.declared.Options.{Options}
use Rattle.pass_options.specs.declared.BoundaryMode.{BoundaryMode}
use Rattle.pass_options.specs.declared.BoundaryMode.TheVariants.{None, Tangent, Weak}
use Rattle.pass_options.specs.Options.{guidance_of}
use Rattle.pass_options.specs.Pass.{Passed, field, faulty}
use Rattle.pass_layout.specs.declared.Layout.{Layout}
use Rattle.pass_layout.specs.Layout.{Ordered}
use Rattle.pass_layout.specs.Matrices.{mass_at, energy_at}
use Rattle.pass_layout.specs.Work.{floor_in, guidance_in, from_list, to_list, listing_at, Edged}
use Rattle.pass_branches.specs.declared.Search.{Search}
use Rattle.pass_branches.specs.Branches.{Built, guided_term, soft_terms, acts, flags_in, targets_in, by_mode, unbounded, branch_of}
use Rattle.pass_branches.specs.Work.{built_in, sought_in, Finds, Leaves, terms_at, outer_at, plan_at, flags_at, Bounds, LeavesPacked}

-- ---- the terms

terms-are : (l : Layout) (m : ℕ) (o : Options) (s : Search) (w : List Float)
    → soft_terms o (guidance_of s.guided s.weight (guidance_in l w)) l.points ≡ terms_in w (energy_at l m) (terms_at l o s)
unfolding soft_terms
terms-are l m o s w = go s.guided
  where
    go : (b : Bool) → guided_term (guidance_of b s.weight (guidance_in l w)) ++ term_of (terms_at l o s).alignment (aligned_targets o.anisotropy_angle l.points)
        ≡ cond b (term_of s.weight (guided_targets (guidance_in l w))) [] ++ term_of (terms_at l o s).alignment (aligned_targets o.anisotropy_angle l.points)
    go true = refl
    go false = refl

-- ---- what is sought

module _ (l : Layout) (m : ℕ) (o : Options) (s : Search) where
  -- with any flags and targets
  abbrev mode_in : List Float → List ℕ → List ℕ → List Complex → Passed
  mode_in w u flags targets = by_mode o.boundary (built_in l m s.trace w u) l.points flags targets (start_in w (outer_at l s) l.points) (terms_in w (energy_at l m) (terms_at l o s)) s.iterations

  module _ (w : List Float) (u : List ℕ) where
    abbrev flags : List ℕ
    flags = flags_of (tris_from l.given u l.triangles) l.points

    abbrev targets : List Complex
    targets = targets_of (value_at (region nan w l.x l.points)) (value_at (region nan w l.y l.points)) (tris_from l.given u l.triangles) l.points

    sought-is : sought_in l m o s w u ≡ cond (acts o.boundary && eqb (length (boundary_sides (tris_from l.given u l.triangles))) 0) (faulty (row_at 23 0)) (mode_in w u flags targets)
    unfolding sought_in branch_of unbounded flags_in targets_in floor_in
    sought-is = rw (length-region nan w l.x l.points, terms-are l m o s w)

-- ---- no boundary mode acts

idle : (mode : BoundaryMode) (b : Built) (n : ℕ) (flags flags' : List ℕ) (targets targets' start : List Complex) (ts : List Term) (k : ℕ) → acts mode ≡ false
    → by_mode mode b n flags targets start ts k ≡ by_mode mode b n flags' targets' start ts k
idle None b n flags flags' targets targets' start ts k e = refl
idle Tangent b n flags flags' targets targets' start ts k e = let z : ◌≡◌ {A = ℕ} 0 1 = cc in absurd (omega arith)
idle (Weak weight) b n flags flags' targets targets' start ts k e = rw e

pub idle-finds : (l : Layout) (m : ℕ) (o : Options) (s : Search) (w : List Float) (u : List ℕ) → Ordered l (length w) (length u) → {b : Bool} → b ≡ acts o.boundary → b ≡ false → {w₁ : List Float} {u₁ : List ℕ} {r : Verdict}
    → LeavesPacked l m o s w w₁ u u₁ r → Finds l l.energy l.table (sought_in l m o s w u) w u w₁ u₁ r
idle-finds l m o s w u ok eb e {w₁} {u₁} {r} a =
    let q : acts o.boundary ≡ false = sym eb ∙ e in
    let p : mode_in l m o s w u (flags_at l u) (region_c w l.targets l.points) ≡ sought_in l m o s w u =
    idle o.boundary _ _ _ (flags l m o s w u) _ (targets l m o s w u) _ _ _ q ∙ sym (sought-is l m o s w u ∙ rw q) in
    let c : Leaves w w₁ (plan_at l m o s) (sought_in l m o s w u) r = rw p at a.leaves in
    record {
      answer = c.answer;
      found = c.found;
      all-reals = c.all-reals;
      all_words = a.all_words;
      reals-below = c.reals-below;
      angles-stay = c.angles-stay;
      reals-between = λ j g k. c.reals-between j g k (omega (arith, ok.energy-in));
      reals-behind = c.reals-behind;
      words-below = a.words-below;
      words-behind = a.words-behind;
    }

-- no field is asked of tangents then
pub idle-bounds : (o : Options) {b : Bool} → b ≡ acts o.boundary → b ≡ false → o.boundary ≡ Tangent → ⊥
idle-bounds o eb e t = let z : true ≡ acts o.boundary = sym (ap acts t) in let y : ◌≡◌ {A = ℕ} 0 1 = cc in omega arith

-- ---- a boundary mode acts

abbrev planes_at : Layout → Planes
planes_at l = record { points = l.points; x = l.x; y = l.y; targets = l.targets; first = l.direction }

pub boundary-room : (l : Layout) (m : ℕ) {reals words : ℕ} → Ordered l reals words → m ≤ 3 * l.triangles → ListRoom (listing_at l m) l.points words × PlaneRoom (planes_at l) reals
boundary-room l m ok few = omega arith

module _ (l : Layout) (m : ℕ) (w : List Float) (u : List ℕ) (ok : Ordered l (length w) (length u)) (e : Edged l m u) where
  room : ListRoom (listing_at l m) l.points (length u) × PlaneRoom (planes_at l) (length w)
  room = boundary-room l m ok e.few

  module _ {w₁ : List Float} {u₁ : List ℕ} {sides : ℕ} (b : Bounded (listing_at l m) (planes_at l) u w u₁ w₁ sides) where
    abbrev T : List Complex
    T = targets_of (value_at (region nan w l.x l.points)) (value_at (region nan w l.y l.points)) (tris_from l.given u l.triangles) l.points

    abbrev F : List ℕ
    F = flags_of (tris_from l.given u l.triangles) l.points

    abbrev firsts : List Complex
    firsts = firsts_of (value_at (region nan w l.x l.points)) (value_at (region nan w l.y l.points)) (tris_from l.given u l.triangles) l.points

    flags-are : flags_at l u₁ ≡ F
    flags-are = flags-after b room.0

    targets-are : region_c w₁ l.targets l.points ≡ T
    targets-are = targets-after b room.1

    pub bounds : Bounds l w₁ u₁
    unfolding on
    bounds =
        rw (flags-are, targets-are)
        (boundary-data F T (λ i h f. target-off (value_at (region nan w l.x l.points)) (value_at (region nan w l.y l.points)) (tris_from l.given u l.triangles) l.points i
        (omega (arith, length-targets (value_at (region nan w l.x l.points)) (value_at (region nan w l.y l.points)) (tris_from l.given u l.triangles) l.points)) f))

    -- ---- what was not written

    reals-same : (c k : ℕ) → c + k ≤ l.targets → region nan w₁ c k ≡ region nan w c k
    reals-same c k g =
        let d : l.targets ≤ l.direction = omega (arith, ok.targets-in, ok.iterate-in, ok.residual-in) in
        ap (λ v. region nan v c k) b.reals
        ∙ region_r-else (put_c w l.targets T) l.direction firsts refl c k (apart l.direction (2 * length firsts) c k (omega arith))
        ∙ region_r-else w l.targets T refl c k (apart l.targets (2 * length T) c k (omega arith))

    words_same : (c k : ℕ) → c + k ≤ l.counts → region 0 u₁ c k ≡ region 0 u c k
    words_same c k g =
        let d : l.counts ≤ l.flags = omega (arith, ok.counts-in) in
        let counts : List ℕ = counts_of (table_of (listing_at l m) u) (tris_from l.given u l.triangles) m in
        ap (λ v. region 0 v c k) b.words
        ∙ region-else (put u l.counts counts) l.flags F refl 0 c k (apart l.flags (length F) c k (omega arith))
        ∙ region-else u l.counts counts refl 0 c k (apart l.counts (length counts) c k (omega arith))

    from-same : from_list l m u₁ ≡ from_list l m u
    from-same = words_same l.from m (omega (arith, ok.from_in, ok.to_in, e.few))

    to_same : to_list l m u₁ ≡ to_list l m u
    to_same = words_same l.to m (omega (arith, ok.to_in, e.few))

    all-reals-same : length w₁ ≡ length w
    all-reals-same = ap length b.reals ∙ length-put_c (put_c w l.targets T) l.direction firsts ∙ length-put_c w l.targets T

    all-words-same : length u₁ ≡ length u
    all-words-same = ap length b.words ∙ length-put _ l.flags F ∙ length-put u l.counts _

    reals-stay : (j : ℕ) → j < l.energy → get_or w₁ j nan ≡ get_or w j nan
    reals-stay j k = region-one nan w w₁ j (reals-same j 1 (omega arith))

    reals-past : (j : ℕ) → l.inverse + l.points ≤ j → get_or w₁ j nan ≡ get_or w j nan
    unfolding firsts_of
    reals-past j k =
        let many : length firsts ≡ l.points = length-tab _ l.points in
        let all : length T ≡ l.points = length-targets _ _ (tris_from l.given u l.triangles) l.points in
        region-one nan w w₁ j
        (ap (λ v. region nan v j 1) b.reals
        ∙ region_r-else (put_c w l.targets T) l.direction firsts many j 1 (apart l.direction (2 * l.points) j 1 (omega arith))
        ∙ region_r-else w l.targets T all j 1 (apart l.targets (2 * l.points) j 1 (omega arith)))

    words-past : (j : ℕ) → l.marks + l.points ≤ j → get_or u₁ j 0 ≡ get_or u j 0
    unfolding counts_of
    words-past j k =
        let counts : List ℕ = counts_of (table_of (listing_at l m) u) (tris_from l.given u l.triangles) m in
        let many : length counts ≡ m = length-tab _ m in
        region-one 0 u u₁ j
        (ap (λ v. region 0 v j 1) b.words
        ∙ region-else (put u l.counts counts) l.flags F (length-flags (tris_from l.given u l.triangles) l.points) 0 j 1 (apart l.flags l.points j 1 (omega arith))
        ∙ region-else u l.counts counts many 0 j 1 (apart l.counts m j 1 (omega (arith, e.few))))

    words-stay : (j : ℕ) → j < l.counts → get_or u₁ j 0 ≡ get_or u j 0
    words-stay j k = region-one 0 u u₁ j (words_same j 1 (omega arith))

    words-before : (j : ℕ) → j < l.table → get_or u₁ j 0 ≡ get_or u j 0
    words-before j k = words-stay j (omega (arith, ok.table-in, ok.from_in, ok.to_in))

    mass-same : matrix w₁ (mass_at l m) (from_list l m u₁) (to_list l m u₁) ≡ matrix w (mass_at l m) (from_list l m u) (to_list l m u)
    unfolding matrix
    mass-same =
        let d = reals-same l.mass l.points (omega arith) in
        let f = region_c-same w₁ w l.mass_off m (reals-same l.mass_off (2 * m) (omega (arith, e.few))) in
        λ i. record { diagonal = d i; off = f i; edge_a = from-same i; edge_b = to_same i }

    energy-same : matrix w₁ (energy_at l m) (from_list l m u₁) (to_list l m u₁) ≡ matrix w (energy_at l m) (from_list l m u) (to_list l m u)
    unfolding matrix
    energy-same =
        let d = reals-same l.energy l.points (omega arith) in
        let f = region_c-same w₁ w l.energy_off m (reals-same l.energy_off (2 * m) (omega (arith, e.few))) in
        λ i. record { diagonal = d i; off = f i; edge_a = from-same i; edge_b = to_same i }

    pub still-ordered : Ordered l (length w₁) (length u₁)
    still-ordered = rw (all-reals-same, all-words-same) ok

    pub still-edged : Edged l m u₁
    still-edged =
        let low : (j : ℕ) → j < l.table + l.buckets + 4 * m → get_or u₁ j 0 ≡ get_or u j 0 = λ j k. words-stay j (omega (arith, ok.table-in, ok.from_in, ok.to_in, e.few)) in
        record {
          few = e.few;
          sided = sided-kept u u₁ room.0 low all-words-same e.sided;
          numbers = numbers-kept u u₁ room.0 low e.numbers;
          graph = rw (from-same, to_same) e.graph;
        }

    module _ (o : Options) (s : Search) (a : acts o.boundary ≡ true) where
      -- row 23
      pub held-refused : sides ≡ 0 → {r : Verdict} → r ≡ Err (row_at 23 0) → Finds l l.energy l.table (sought_in l m o s w u) w u w₁ u₁ r
      held-refused z er =
          let q : sought_in l m o s w u ≡ faulty (row_at 23 0) = sought-is l m o s w u ∙ rw (a, eq-eqb _ _ (sym b.sides ∙ z)) in
          rw q (record {
            answer = er;
            found = λ alpha h. absurd (never alpha h);
            all-reals = all-reals-same;
            all_words = all-words-same;
            reals-below = λ j k. reals-stay j (omega arith);
            angles-stay = λ x h j g k. reals-stay j (omega arith);
            reals-between = λ j g k. reals-stay j k;
            reals-behind = reals-past;
            words-below = words-before;
            words-behind = words-past;
          })
        where
          never : (alpha : List Float) → faulty (row_at 23 0) ≡ field alpha → ⊥
          never alpha h = let y : ◌≡◌ {A = ℕ} 0 1 = cc in omega arith

      pub held-finds : (sides ≡ 0 → ⊥) → {w₂ : List Float} {u₂ : List ℕ} {r : Verdict} → LeavesPacked l m o s w₁ w₂ u₁ u₂ r → Finds l l.energy l.table (sought_in l m o s w u) w u w₂ u₂ r
      held-finds z {w₂} {u₂} {r} c =
          let q : sought_in l m o s w u ≡ mode_in l m o s w u F T = sought-is l m o s w u ∙ rw (a, ne_eqb _ _ (λ h. z (b.sides ∙ h))) in
          let p : mode_in l m o s w₁ u₁ (flags_at l u₁) (region_c w₁ l.targets l.points) ≡ sought_in l m o s w u =
          rw (mass-same, energy-same, flags-are, targets-are, reals-same l.x l.points (omega arith), reals-same l.y l.points (omega arith), reals-same l.guidance l.points (omega arith)) (sym q) in
          let d : Leaves w₁ w₂ (plan_at l m o s) (sought_in l m o s w u) r = rw p at c.leaves in
          record {
            answer = d.answer;
            found = d.found;
            all-reals = d.all-reals ∙ all-reals-same;
            all_words = c.all_words ∙ all-words-same;
            reals-below = λ j k. d.reals-below j k ∙ reals-stay j (omega arith);
            angles-stay = λ x h j g k. d.angles-stay x h j g k ∙ reals-stay j (omega arith);
            reals-between = λ j g k. d.reals-between j g k (omega (arith, ok.energy-in)) ∙ reals-stay j k;
            reals-behind = λ j k. d.reals-behind j k ∙ reals-past j k;
            words-below = λ j k. c.words-below j k ∙ words-before j k;
            words-behind = λ j k. c.words-behind j k ∙ words-past j k;
          }
