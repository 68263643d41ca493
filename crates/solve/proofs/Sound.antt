-- The floor of a call that passed rows 1 to 18 is sound, and so are the floor, the options and the guidance of its second pass. Assumes nothing.
use Prim.Native.Nat.{ℕ, ◌+◌, ◌-◌, ◌*◌, ◌/◌, ◌<◌}
use native.Mathlib.Omega.{arith}
use mathlib.Core.Path.{◌≡◌, refl, sym, ap, ◌∙◌, subst}
use mathlib.Core.Logic.{◌⊎◌, inl, inr}
use mathlib.Core.Bool.{Bool, true, false, not, cond, ◌&&◌}
use mathlib.Core.List.{List, [], ◌∷◌, ◌++◌, map}
use mathlib.Core.Option.{Option, none, some}
use borrow.Author.Tests.{ltb-true, ltb-false, le-ltb, eqb-false, eq-eqb, not-false}
use lib.Dec.{T, eqb, ltb}
use lib.ListN.{length, get_or, length-append, get_or-append}
use lib.Seq.{get_or_at, get_or-append-add}
use lib.Ieee.{Float, nan, inf, fin, binary64, lt, le, of_bits, fits}
use lib.Ieee.Fits.{mul-fits}
use Rattle.std.specs.Prelude.{Ok}
use Rattle.float.specs.Double.{lit, is_finite, not_positive}
use Rattle.float.proofs.Above.{positive-passes}
use Rattle.complex.specs.Complex.{cadd}
use Rattle.complex.specs.Angle.{IsCross, cross_angle}
use Rattle.complex.specs.Guidance.{fourfold, norm_of, SMALLEST-NORM, mean_or, mid_angle}
use Rattle.complex.proofs.Range.{cross-angle-range}
use Rattle.linear_cells.proofs.Loops.{length-tab, get_or-tab}
use Rattle.mesh.specs.Mesh.{Tri, tri, Side, side, index_in, mid, split, pieces, refined, refine, lies, All, Good}
use Rattle.mesh.specs.Claim.{InRange, LowerFirst, TwoEnds}
use Rattle.mesh.specs.Area.{halfway}
use Rattle.mesh.specs.Points.{x_of, y_of, size_of}
use Rattle.mesh.proofs.Cuts.{key-rising}
use Rattle.floor.specs.Floor.{point_count, triangle_count, value_at, triangle_at}
use Rattle.floor.specs.Checks.{lowest, bad_point, bad_size, not_finite_or_below_zero}
use Rattle.floor.proofs.Lowest.{lowest-before, lowest-clear}
use Rattle.floor.proofs.Rows.{or-none}
use Rattle.refinement.specs.Floor.{tris_of, refinement_of}
use Rattle.refinement.specs.Claim.{Refinement}
use Rattle.refinement.proofs.Claim.{refinement}
use Rattle.refinement.proofs.Triangles.{tris-length}
use Rattle.refinement.specs.Guidance.{mid_angle_on, mid_angles, more_angles}
use Rattle.pass_options.specs.Table.{no_row, first_of}
use Rattle.pass_options.specs.Options.{Guidance, unguided, guided, not_finite_at, option_rows, guidance_rows}
use Rattle.pass_options.specs.Pass.{field}
use Rattle.pass_setup.specs.Rows.{SoundFloor, AcceptedFloor}
use Rattle.edges.proofs.Split.{length-map}
use Rattle.pass_setup.proofs.Floors.{at_all, get_d_map}
use Rattle.pass_setup.proofs.Rows.{setup-accepted}
use Rattle.pass_setup.proofs.Sides.{side-mean, side-middle}
use Rattle.pass.specs.Pass.{pass_of}
use Rattle.pass.proofs.Facts.{pass-facts, was-set-up}
use Rattle.calls.specs.Checks.{Call, Lent, lengths_of, points_in, triangles_in, table, Ready}
use Rattle.calls.specs.Solve.{first_floor, first_pass, refined_by, second_floor, without_threshold, extended, refines}
use Rattle.calls.specs.Refusals.{Passes}
use Rattle.mesh.proofs.Good.{both-good}
use Rattle.calls.proofs.Lists.{counted-found}
use Rattle.calls.proofs.Claim.{lt-le}
use Rattle.calls.proofs.Ready.{row-passed, sound-ready, corners-in}
use Rattle.calls.proofs.Room.{points-in, second-points}
use Rattle.solve.specs.Sound.{Doubles, SecondSound}

finite-of : (b : Bool) → not b ≡ false → T b
finite-of true h = tt
finite-of false h = absurd (subst T h tt)

module _ (c : Call) (lent : Lent) (passes : Passes c lent) (doubles : Doubles c) where
  ready : Ready c (lengths_of lent)
  ready = sound-ready c (lengths_of lent) passes

  -- ---- the first floor

  x-at : (v : ℕ) → v < points_in c → value_at (first_floor c).xs v ≡ x_of c.points v
  x-at v l = get_or-tab (x_of c.points) (points_in c) v nan l

  y-at : (v : ℕ) → v < points_in c → value_at (first_floor c).ys v ≡ y_of c.points v
  y-at v l = get_or-tab (y_of c.points) (points_in c) v nan l

  some-triangle : 0 < triangle_count (first_floor c)
  some-triangle = omega (arith, tris-length c.corners (triangles_in c), ready.some-triangles)

  good-point : (v : ℕ) → v < points_in c → T (is_finite (x_of c.points v)) × T (is_finite (y_of c.points v))
  unfolding bad_point
  good-point v l =
      let p : bad_point c.points v ≡ false = lowest-before (bad_point c.points) (points_in c) v (omega (arith, ltb-false (lowest (bad_point c.points) (points_in c)) (points_in c) (row-passed c (lengths_of lent) passes 5 (omega arith)))) in
      let q = or-none (not (is_finite (x_of c.points v))) _ p in
      (finite-of (is_finite (x_of c.points v)) q.0, finite-of (is_finite (y_of c.points v)) q.1)

  good-size : (v : ℕ) → v < points_in c → not_positive (size_of c.sizes v) ≡ false
  unfolding bad_size
  good-size v l =
      lowest-before (bad_size c.sizes) (length c.sizes) v (omega (arith, ready.sized, ltb-false (lowest (bad_size c.sizes) (length c.sizes)) (length c.sizes) (row-passed c (lengths_of lent) passes 6 (omega arith))))

  pub first-sound : SoundFloor (first_floor c)
  first-sound = record {
    some-points = omega (arith, points-in c.points, ready.some-points);
    some-triangles = some-triangle;
    as_many = length-tab (y_of c.points) (points_in c) ∙ sym (points-in c.points);
    sized = ready.sized ∙ sym (points-in c.points);
    finite = λ v l. let k : v < points_in c = omega (arith, points-in c.points) in
        rw (x-at v k, y-at v k) (((good-point v k).0, doubles.points (3 * v)), ((good-point v k).1, doubles.points (3 * v + 1)));
    positive = λ v l. (good-size v (omega (arith, points-in c.points)), doubles.sizes v);
    corners = subst (λ (n : ℕ). All (InRange n) (tris_of c.corners)) (sym (points-in c.points)) (corners-in c (lengths_of lent) passes);
  }

  -- ---- the second

  module _ (alpha : List Float) (first : first_pass pass_of c ≡ field alpha) (does : refines c alpha ≡ true) where
    accepted : AcceptedFloor (first_floor c)
    accepted = let e = (was-set-up (first_floor c) c.options c.guidance c.iterations alpha first).0 in setup-accepted (first_floor c) first-sound e.0 e.1

    good : All (Good (points_in c)) (tris_of c.corners)
    good =
        both-good (points_in c) (tris_of c.corners) (corners-in c (lengths_of lent) passes)
        (pass-facts.three-corners (first_floor c) c.options c.guidance c.iterations alpha first-sound.corners first)

    adapts : lt (lit 0) c.options.adaptive ≡ true
    adapts = go (lt (lit 0) c.options.adaptive) does
      where
        go : (b : Bool) → b && not (eqb (refined_by c alpha).flagged 0) ≡ true → b ≡ true
        go true h = refl
        go false h = absurd (subst T (sym h) tt)

    made : Refinement c.options.adaptive alpha c.points c.sizes (tris_of c.corners) (refined_by c alpha)
    made = refinement c.options.adaptive alpha c.points c.sizes (tris_of c.corners) (lt-le _ _ adapts) ready.whole ready.sized good

    abbrev cut_sides : List Side
    cut_sides = (refined_by c alpha).cut

    -- a midpoint is that of a side of a triangle, the lower end first
    record Middle (p : ℕ) : Type 0 where
      u : ℕ
      v : ℕ
      less : u < v
      below : v < points_in c
      is : mid (points_in c) (refined_by c alpha).cut u v ≡ some p
      i : ℕ
      in_list : i < triangle_count (first_floor c)
      belongs : lies u v (triangle_at (tris_of c.corners) i) ≡ true

    middle_of : (k : ℕ) → k < length cut_sides → Middle (points_in c + k)
    middle_of k l =
        of-side (get_or cut_sides k (side 0 0)) (made.sides.cut-sides.met.once k l) (at_all TwoEnds (side 0 0) cut_sides made.sides.two_ends k l)
        (at_all (LowerFirst (points_in c)) (side 0 0) cut_sides made.sides.cut-sides.lower-first k l)
      where
        of-side : (s : Side) → index_in s cut_sides ≡ some k → TwoEnds s → LowerFirst (points_in c) s → Middle (points_in c + k)
        of-side (side u v) x less low =
            let m = (made.sides.numbers u v k).1 (ap (λ (s : Side). index_in s cut_sides) (key-rising u v less) ∙ x) in
            let t = counted-found u v _ (tris_of c.corners) ((made.sides.cut u v (λ z. absurd (omega arith))).0 (points_in c + k, m)) in
            let b = t.listed.before in
            let here : tris_of c.corners ≡ b ++ t.t ∷ t.listed.behind = t.listed.here in
            record {
              u = u;
              v = v;
              less = less;
              below = low.1;
              is = m;
              i = length b;
              in_list = omega (arith, ap length here, length-append b (t.t ∷ t.listed.behind));
              belongs = ap (λ (s : List Tri). lies u v (triangle_at s (length b))) here ∙ ap (lies u v) (get_or_at b t.t t.listed.behind (tri 0 0 0) (length b) refl) ∙ t.belongs;
            }

    -- the point p of the refined floor is an old one or a midpoint
    point-is : (p : ℕ) → p < point_count (second_floor c alpha) → (p < points_in c) ⊎ Middle p
    point-is p l = go (ltb p (points_in c)) refl
      where
        go : (b : Bool) → ltb p (points_in c) ≡ b → (p < points_in c) ⊎ Middle p
        go true e = inl (ltb-true p (points_in c) e)
        go false e =
            let h = ltb-false p (points_in c) e in
            let z : points_in c + (p - points_in c) ≡ p = omega arith in
            inr (subst Middle z (middle_of (p - points_in c) (omega (arith, second-points c alpha ready.whole))))

    abbrev IsPoint : ℕ → Type 0
    IsPoint p = (T (is_finite (x_of (refined_by c alpha).points p)) × T (fits binary64 (x_of (refined_by c alpha).points p))) × (T (is_finite (y_of (refined_by c alpha).points p)) × T (fits binary64 (y_of (refined_by c alpha).points p)))

    point-finite : (p : ℕ) → (p < points_in c) ⊎ Middle p → IsPoint p
    unfolding halfway
    point-finite p (inl l) = rw (made.placed.old-x p l, made.placed.old-y p l) (((good-point p l).0, doubles.points (3 * p)), ((good-point p l).1, doubles.points (3 * p + 1)))
    point-finite p (inr m) =
        let u : m.u < points_in c = omega (arith, m.less, m.below) in
        let f = side-middle (first_floor c) first-sound accepted m.u m.v m.i m.in_list m.belongs in
        rw (made.placed.mid-x m.u m.v p m.is, made.placed.mid-y m.u m.v p m.is)
        ((rw (x-at m.u u, x-at m.v m.below) at f.0, mul-fits binary64 _ _), (rw (y-at m.u u, y-at m.v m.below) at f.1, mul-fits binary64 _ _))

    size-positive : (p : ℕ) → (p < points_in c) ⊎ Middle p → (not_positive (size_of (refined_by c alpha).sizes p) ≡ false) × T (fits binary64 (size_of (refined_by c alpha).sizes p))
    unfolding halfway
    size-positive p (inl l) = rw (made.placed.old-size p l) (good-size p l, doubles.sizes p)
    size-positive p (inr m) =
        let s = side-mean (first_floor c) first-sound accepted m.u m.v m.i m.less m.in_list m.belongs in
        rw (made.placed.mid-size m.u m.v p m.is) (positive-passes _ s, mul-fits binary64 _ _)

    second-floor : SoundFloor (second_floor c alpha)
    second-floor =
        let n : point_count (second_floor c alpha) ≡ length (refined_by c alpha).points / 3 = points-in (refined_by c alpha).points in
        let m = second-points c alpha ready.whole in
        record {
          some-points = omega (arith, m, ready.some-points);
          some-triangles = some-piece;
          as_many = length-tab (y_of (refined_by c alpha).points) (length (refined_by c alpha).points / 3) ∙ sym n;
          sized = made.size-count ∙ omega (arith, m, ready.sized);
          finite = λ p l.
              rw (get_or-tab (x_of (refined_by c alpha).points) (length (refined_by c alpha).points / 3) p nan (omega (arith, n)), get_or-tab (y_of (refined_by c alpha).points) (length (refined_by c alpha).points / 3) p nan (omega (arith, n)))
              (point-finite p (point-is p l));
          positive = λ p l. size-positive p (point-is p l);
          corners = subst (λ (k : ℕ). All (InRange k) (refined_by c alpha).triangles) (sym m) (all_in (points_in c + length cut_sides) (refined_by c alpha).triangles made.good);
        }
      where
        all_in : (k : ℕ) (ts : List Tri) → All (Good k) ts → All (InRange k) ts
        all_in k [] h = tt
        all_in k (tri x y z ∷ ts) h = ((h.0.0, h.0.1, h.0.2), all_in k ts h.1)

        some-pieces : (m : ℕ → ℕ → Option ℕ) (ts : List Tri) → 0 < length ts → 0 < length (refined m ts)
        some-pieces m [] h = absurd (omega arith)
        some-pieces m (tri x y z ∷ ts) h = omega (arith, length-append (pieces m (tri x y z)) (refined m ts), one_piece (m x y) (m y z) (m z x))
          where
            one_piece : (p q r : Option ℕ) → 0 < length (split x y z p q r)
            one_piece none none none = omega arith
            one_piece (some p) none none = omega arith
            one_piece none (some q) none = omega arith
            one_piece none none (some r) = omega arith
            one_piece (some p) (some q) none = omega arith
            one_piece none (some q) (some r) = omega arith
            one_piece (some p) none (some r) = omega arith
            one_piece (some p) (some q) (some r) = omega arith

        some-piece : 0 < length (refined_by c alpha).triangles
        some-piece = unfold refinement_of refine in some-pieces _ (tris_of c.corners) some-triangle

    -- ---- options

    row_of : (j : ℕ) → j < 18 → (get_or (table c (lengths_of lent)) j no_row).holds ≡ false
    row_of j l = row-passed c (lengths_of lent) passes j l

    second-options : first_of (option_rows (without_threshold c.options)) ≡ Ok tt
    second-options = rw (row_of 8 (omega arith), row_of 9 (omega arith), row_of 10 (omega arith), zero-threshold, row_of 12 (omega arith))
      where
        zero-threshold : not_finite_or_below_zero (lit 0) ≡ false
        zero-threshold = unfold not_finite_or_below_zero lt of_bits in refl

    -- ---- guidance

    cross-finite : (x : Float) → IsCross x → is_finite x ≡ true
    unfolding le lt of_bits
    cross-finite nan h = absurd (subst T (sym h.from) tt)
    cross-finite (inf true) h = absurd (subst T (sym h.from) tt)
    cross-finite (inf false) h = absurd (subst T (sym h.below) tt)
    cross-finite (fin s m e) h = refl

    angle-finite : (low high : Float) → is_finite low ≡ true → is_finite (mid_angle low high) ≡ true
    unfolding mid_angle mean_or
    angle-finite low high h = let z = cadd (fourfold low) (fourfold high) in go (is_finite (norm_of z) && lt SMALLEST-NORM (norm_of z))
      where
        go : (b : Bool) → is_finite (cond b (cross_angle (cadd (fourfold low) (fourfold high))) low) ≡ true
        go true = cross-finite (cross_angle (cadd (fourfold low) (fourfold high))) (cross-angle-range (cadd (fourfold low) (fourfold high)))
        go false = h

    unguided-rows : (n : ℕ) → first_of (guidance_rows n unguided) ≡ Ok tt
    unfolding lowest
    unguided-rows n = refl

    module _ (weight : Float) (angles : List Float) (given : c.guidance ≡ guided weight angles) where
      many : length angles ≡ points_in c
      many = ready.guided-all weight angles given

      given-row : (j : ℕ) → j < 18 → (get_or (table (record { points = c.points; corners = c.corners; sizes = c.sizes; options = c.options; guidance = guided weight angles; iterations = c.iterations }) (lengths_of lent)) j no_row).holds ≡ false
      given-row j l = subst (λ (g : Guidance). (get_or (table (record { points = c.points; corners = c.corners; sizes = c.sizes; options = c.options; guidance = g; iterations = c.iterations }) (lengths_of lent)) j no_row).holds ≡ false) given (row_of j l)

      old-angle : (i : ℕ) → i < length angles → is_finite (get_or angles i nan) ≡ true
      unfolding not_finite_at
      old-angle i l =
          not-false _ (lowest-before (not_finite_at angles) (length angles) i (omega (arith, ltb-false (lowest (not_finite_at angles) (length angles)) (length angles) (given-row 15 (omega arith)))))

      new-angle : (k : ℕ) → k < length cut_sides → is_finite (mid_angle_on angles (get_or cut_sides k (side 0 0))) ≡ true
      new-angle k l = of-side (get_or cut_sides k (side 0 0)) (at_all TwoEnds (side 0 0) cut_sides made.sides.two_ends k l) (at_all (LowerFirst (points_in c)) (side 0 0) cut_sides made.sides.cut-sides.lower-first k l)
        where
          of-side : (s : Side) → TwoEnds s → LowerFirst (points_in c) s → is_finite (mid_angle_on angles s) ≡ true
          of-side (side u v) less low = angle-finite (get_or angles u nan) (get_or angles v nan) (old-angle u (omega (arith, many, low.1)))

      each-angle : (i : ℕ) → i < length (more_angles angles cut_sides) → not_finite_at (more_angles angles cut_sides) i ≡ false
      unfolding not_finite_at more_angles mid_angles
      each-angle i l = go (ltb i (length angles)) refl
        where
          go : (b : Bool) → ltb i (length angles) ≡ b → not (is_finite (get_or (angles ++ map (mid_angle_on angles) cut_sides) i nan)) ≡ false
          go true e = let h = ltb-true i (length angles) e in ap not (ap is_finite (get_or-append angles (map (mid_angle_on angles) cut_sides) nan i h) ∙ old-angle i h)
          go false e =
              let h = ltb-false i (length angles) e in
              let k : i - length angles < length cut_sides = omega (arith, length-append angles (map (mid_angle_on angles) cut_sides), length-map (mid_angle_on angles) cut_sides) in
              let z : length angles + (i - length angles) ≡ i = omega arith in
              let w : get_or (angles ++ map (mid_angle_on angles) cut_sides) i nan ≡ get_or (map (mid_angle_on angles) cut_sides) (i - length angles) nan =
              ap (λ (j : ℕ). get_or (angles ++ map (mid_angle_on angles) cut_sides) j nan) (sym z) ∙ get_or-append-add angles (map (mid_angle_on angles) cut_sides) (i - length angles) nan in
              ap not (ap is_finite (w ∙ get_d_map (mid_angle_on angles) cut_sides (i - length angles) (side 0 0) nan k) ∙ new-angle (i - length angles) k)

      guided-rows : first_of (guidance_rows (point_count (second_floor c alpha)) (guided weight (more_angles angles cut_sides))) ≡ Ok tt
      guided-rows =
          let n : length (more_angles angles cut_sides) ≡ point_count (second_floor c alpha) = more-length ∙ omega (arith, many, second-points c alpha ready.whole) in
          rw (
            given-row 13 (omega arith),
            eq-eqb (length (more_angles angles cut_sides)) (point_count (second_floor c alpha)) n,
            lowest-clear (not_finite_at (more_angles angles cut_sides)) (length (more_angles angles cut_sides)) each-angle,
            le-ltb (length (more_angles angles cut_sides)) (length (more_angles angles cut_sides)) (omega arith),
          )
        where
          more-length : length (more_angles angles cut_sides) ≡ length angles + length cut_sides
          more-length = unfold more_angles mid_angles in (length-append angles (map (mid_angle_on angles) cut_sides) ∙ ap (λ (k : ℕ). length angles + k) (length-map (mid_angle_on angles) cut_sides))

      extended-rows : first_of (guidance_rows (point_count (second_floor c alpha)) (extended (guided weight angles) cut_sides)) ≡ Ok tt
      extended-rows = go (lt (lit 0) weight)
        where
          go : (b : Bool) → first_of (guidance_rows (point_count (second_floor c alpha)) (cond b (guided weight (more_angles angles cut_sides)) unguided)) ≡ Ok tt
          go true = guided-rows
          go false = unguided-rows (point_count (second_floor c alpha))

    second-guidance : first_of (guidance_rows (point_count (second_floor c alpha)) (extended c.guidance cut_sides)) ≡ Ok tt
    second-guidance = go c.guidance refl
      where
        go : (g : Guidance) → c.guidance ≡ g → first_of (guidance_rows (point_count (second_floor c alpha)) (extended g cut_sides)) ≡ Ok tt
        go unguided e = unguided-rows (point_count (second_floor c alpha))
        go (guided weight angles) e = extended-rows weight angles e

    pub second-sound : SecondSound c alpha
    second-sound = record {
      iterations = eqb-false c.iterations 0 (row_of 1 (omega arith));
      floor = second-floor;
      options = second-options;
      guidance = second-guidance;
    }
