-- After `transports`: row 22 is that of the floor, and where no edge is refused, all that the set-up leaves stands in its regions. Assumes nothing.
use Prim.Native.Nat.{ℕ, ◌+◌, ◌-◌, ◌*◌, ◌≤◌, ◌<◌}
use native.Mathlib.Omega.{arith}
use mathlib.Core.Path.{◌≡◌, refl, sym, ap, ◌∙◌, subst}
use mathlib.Core.List.{List}
use borrow.Author.Tests.{le-ltb}
use lib.ListN.{length, get_or, take, drop}
use lib.Ieee.{Float, nan}
use Rattle.std.specs.Prelude.{Ok, Err}
use Rattle.complex.specs.declared.Complex.{Complex}
use Rattle.geometry.specs.declared.MeanSize.{MeanSize}
use Rattle.linear_cells.specs.Region.{region}
use Rattle.linear_cells.specs.Cell.{region_c, put_c}
use Rattle.linear_cells.proofs.Loops.{apart, length-tab, tab-ext}
use Rattle.linear_cells.proofs.Cells.{length-region_c, put_c-else-real}
use Rattle.linear_hermitian.specs.Work.{Graph}
use Rattle.linear_cells.proofs.Changes.{part-region}
use Rattle.floor.specs.Floor.{Floor, triangle_count}
use Rattle.floor.proofs.Lowest.{lowest-most}
use Rattle.pass_gradients.specs.Gradients.{first_refused}
use Rattle.pass_transports.specs.Transports.{end_of, first_mean, transports_answer, Answer}
use Rattle.pass_transports.specs.Work.{points_from, kept_to, Ends, Transported}
use Rattle.pass_transports.specs.Work as transports
use Rattle.pass_transports.proofs.Steps.{transported-length}
use Rattle.pass_transports.proofs.Lists.{transported-before, transported-region, answer-same, coefficients-same, ends-lists}
use Rattle.pass_layout.specs.declared.Layout.{Layout}
use Rattle.pass_layout.specs.Layout.{Ordered}
use Rattle.pass_layout.specs.Matrices.{mass_at}
use Rattle.pass_layout.specs.Work.{floor_in}
use Rattle.pass_layout.proofs.Regions.{floor-stays}
use Rattle.refusals.specs.Refusal.{between}
use Rattle.pass_setup.specs.Setup.{degenerate_of, edges_of, lowers_of, uppers_of, points_in, transports_of, means_of, after_transports, setup_of, Setup}
use Rattle.pass_setup.specs.Work.{transports_at, Wound, refused_point, Summed, Joined, Stands, SetUp}
use Rattle.pass_setup.proofs.Slices.{points-of, all-x, all-y, all-sizes, Stays, none-refused, means-sound, refused-by}

-- the answer of a floor that rows 19 to 21 let pass
rest : (f : Floor) {a : Answer} → degenerate_of f ≡ triangle_count f → means_of f ≡ Ok tt → transports_answer (points_in f) (lowers_of f) (uppers_of f) ≡ a → setup_of f ≡ after_transports (length (edges_of f)) a
unfolding setup_of
rest f none sound e = rw (none, le-ltb (triangle_count f) (triangle_count f) (omega arith), sound, e)

module _ {l : Layout} {m : ℕ} {w : List Float} {u : List ℕ} (o : Ordered l (length w) (length u)) (j : Joined l m (floor_in l w u) w u) where
  t : Wound l (floor_in l w u) w u
  t = j.averaged.turned

  graph : Graph (mass_at l m) (lowers_of (floor_in l w u)) (uppers_of (floor_in l w u))
  graph = rw (← j.lowers, ← j.uppers) j.edged.graph

  ends : Ends l.points (lowers_of (floor_in l w u)) (uppers_of (floor_in l w u))
  ends = record {
    paired = graph.all-b ∙ sym graph.all-a;
    a-below = graph.a-below;
    b-below = λ e h. graph.b-below e (omega (arith, graph.all-a, graph.all-b));
  }

  -- the parts of the slice that hold the ends
  pub part-from : take (l.from + m - l.from) (drop l.from u) ≡ lowers_of (floor_in l w u)
  part-from = let e : l.from + m - l.from ≡ m = omega arith in ap (λ (k : ℕ). take k (drop l.from u)) e ∙ part-region 0 u l.from m (omega (arith, j.edged.few)) ∙ j.lowers

  pub part-to : take (l.to + m - l.to) (drop l.to u) ≡ uppers_of (floor_in l w u)
  part-to = let e : l.to + m - l.to ≡ m = omega arith in ap (λ (k : ℕ). take k (drop l.to u)) e ∙ part-region 0 u l.to m (omega (arith, j.edged.few)) ∙ j.uppers

  -- what `transports` requires
  pub room : {from : List ℕ} → from ≡ lowers_of (floor_in l w u) → transports.TransportsRoom (length w) (transports_at l) (length from)
  room e =
      let few = ap length e ∙ graph.all-a in
      record { x_below = omega arith; y-below = omega arith; sizes-below = omega arith; gradients-below = omega arith; transports-in = omega (arith, few, j.edged.few) }

  pub ends_now : {from to : List ℕ} → from ≡ lowers_of (floor_in l w u) → to ≡ uppers_of (floor_in l w u) → Ends l.points from to
  ends_now e h = rw (e, h) ends

  point : (v : ℕ) → v < l.points → end_of (points_from w (transports_at l)) v ≡ end_of (points_in (floor_in l w u)) v
  unfolding points_in
  point = ends-lists w (transports_at l) _ _ _ _ _ (record {
    all-x = all-x l w u (floor_in l w u) refl;
    all-y = all-y l w u (floor_in l w u) refl;
    all-sizes = all-sizes l w u (floor_in l w u) refl;
    all-gx = j.averaged.all-x;
    all-gy = j.averaged.all-y;
  })

  module _ {w₁ : List Float} {r : Answer} (d : Transported (transports_at l) (lowers_of (floor_in l w u)) (uppers_of (floor_in l w u)) w w₁ r) where
    answered : r ≡ transports_answer (points_in (floor_in l w u)) (lowers_of (floor_in l w u)) (uppers_of (floor_in l w u))
    answered = d.result ∙ answer-same (points_from w (transports_at l)) (points_in (floor_in l w u)) l.points _ _ ends point

    before : (k : ℕ) → k < l.transports → get_or w₁ k nan ≡ get_or w k nan
    before = transported-before (transports_at l) _ _ w w₁ d

    -- nothing behind the transports is written
    after : (k : ℕ) → l.transports + 6 * l.triangles ≤ k → get_or w₁ k nan ≡ get_or w k nan
    unfolding kept_to
    after k h =
        let a : List ℕ = lowers_of (floor_in l w u) in
        let b : List ℕ = uppers_of (floor_in l w u) in
        let v : List Complex = region_c w l.transports (length a) in
        let kept : List Complex = kept_to (points_from w (transports_at l)) a b (first_mean (points_from w (transports_at l)) a b (length a)) v in
        let many : length kept ≡ length a = length-tab _ (length v) ∙ length-region_c w l.transports (length a) in
        let e : k + 0 ≡ k = omega arith in
        ap (λ (v : List Float). get_or v k nan) d.work
        ∙ subst (λ (i : ℕ). get_or (put_c w l.transports kept) i nan ≡ get_or w i nan) e
        (put_c-else-real w l.transports kept many k 1 0 (apart l.transports (2 * length a) k 1 (omega (arith, graph.all-a, j.edged.few))) (omega arith))

    stays : Stays l w u w₁ u
    stays = record {
      floor = floor-stays l o w w₁ u u (λ k h. before k (omega (arith, o.areas-in, o.gradients-in))) (λ k h. refl);
      all-reals = transported-length d;
      all_words = refl;
      reals-below = λ k h. before k (omega (arith, o.areas-in, o.gradients-in));
      words-below = λ k h. refl;
      reals-behind = after;
      words-behind = λ k h. refl;
    }

    same-below : (c k : ℕ) → c + k ≤ l.transports → region nan w₁ c k ≡ region nan w c k
    unfolding region
    same-below c k h = tab-ext _ _ k (λ i g. before (c + i) (omega arith))

    still-turned : Wound l (floor_in l w u) w₁ u
    still-turned = record {
      floor = stays.floor;
      given_below = t.given_below;
      none = t.none;
      areas = same-below l.areas l.triangles (omega (arith, o.areas-in, o.gradients-in)) ∙ t.areas;
      corners = t.corners;
      corners-below = t.corners-below;
    }

    still-summed : Summed l (floor_in l w u) w₁
    still-summed =
        let s : Summed l (floor_in l w u) w = j.averaged.summed in
        let most : refused_point (floor_in l w u) ≤ l.points = point-most in
        record {
          mean-x = λ v h. before (l.gradients + v) (omega (arith, most)) ∙ s.mean-x v h;
          mean-y = λ v h. before (l.gradients + l.points + v) (omega (arith, most)) ∙ s.mean-y v h;
          sum-x = λ v h k. before (l.gradients + v) (omega arith) ∙ s.sum-x v h k;
          sum-y = λ v h k. before (l.gradients + l.points + v) (omega arith) ∙ s.sum-y v h k;
          all-weights = λ v h. before (l.gradients + 2 * l.points + v) (omega arith) ∙ s.all-weights v h;
        }
      where
        point-most : refused_point (floor_in l w u) ≤ l.points
        point-most = unfold refused_point first_refused in rw (points-of l w u (floor_in l w u) refl) (lowest-most _ l.points)

    still-joined : Joined l (length (edges_of (floor_in l w u))) (floor_in l w u) w₁ u
    still-joined = subst (λ (k : ℕ). Joined l k (floor_in l w u) w₁ u) j.all_edges (record {
      averaged = record {
        turned = still-turned;
        sound = j.averaged.sound;
        summed = still-summed;
        all-x = same-below l.gradients l.points (omega (arith, o.gradients-in)) ∙ j.averaged.all-x;
        all-y = same-below (l.gradients + l.points) l.points (omega (arith, o.gradients-in)) ∙ j.averaged.all-y;
      };
      all_edges = j.all_edges;
      numbers = j.numbers;
      lowers = j.lowers;
      uppers = j.uppers;
      edged = j.edged;
    })

    row-22 : (x : MeanSize) → r ≡ Err x → {s : Setup} → s ≡ Err (between x.from x.to) → SetUp l w u w₁ u s
    row-22 x e q = refused-by (between x.from x.to) stays q (sym (rest (floor_in l w u) t.none j.averaged.sound (sym answered ∙ e))) (λ h. absurd (omega (arith, none-refused t))) (λ h. still-turned)
        (λ h. still-summed) (means-sound j.averaged.sound) (λ h p. still-joined)

    carried : r ≡ Ok tt → region_c w₁ l.transports m ≡ transports_of (floor_in l w u)
    unfolding transports_of
    carried e =
        ap (region_c w₁ l.transports) (sym graph.all-a)
        ∙ transported-region (transports_at l) _ _ w w₁ (room refl) d e
        ∙ coefficients-same (points_from w (transports_at l)) (points_in (floor_in l w u)) l.points _ _ ends point

    done : r ≡ Ok tt → SetUp l w u w₁ u (Ok m)
    done e = record {
      answer = ap Ok j.all_edges ∙ sym (rest (floor_in l w u) t.none j.averaged.sound (sym answered ∙ e));
      all-reals = stays.all-reals;
      all_words = refl;
      reals-below = stays.reals-below;
      words-below = stays.words-below;
      reals-behind = stays.reals-behind;
      words-behind = stays.words-behind;
      row-19 = λ h. absurd (omega (arith, none-refused t));
      turned = λ h. still-turned;
      summed = λ h. still-summed;
      unjoined = means-sound j.averaged.sound;
      joined = λ h p. still-joined;
      stands = λ k q. let z : m ≡ k = cc in subst (λ (k : ℕ). Stands l k (floor_in l w u) w₁ u) z (record {
        all_edges = j.all_edges;
        areas = same-below l.areas l.triangles (omega (arith, o.areas-in, o.gradients-in)) ∙ t.areas;
        transports = carried e;
        corners = t.corners;
        numbers = j.numbers;
        corners-below = t.corners-below;
        numbers-below = j.edged.numbers.numbers-below;
        lowers = j.lowers;
        uppers = j.uppers;
        edged = j.edged;
      });
    }

-- the same by the parts of the slice as the code has them
module _ {l : Layout} {m : ℕ} {w : List Float} {u : List ℕ} (o : Ordered l (length w) (length u)) (j : Joined l m (floor_in l w u) w u) {from to : List ℕ} (e : from ≡ lowers_of (floor_in l w u)) (h : to ≡ uppers_of (floor_in l w u))
    {w₁ : List Float} {r : Answer} (d : Transported (transports_at l) from to w w₁ r) where
  over-lists : Transported (transports_at l) (lowers_of (floor_in l w u)) (uppers_of (floor_in l w u)) w w₁ r
  over-lists = rw (← e, ← h) d

  pub refused-22 : (x : MeanSize) → r ≡ Err x → {s : Setup} → s ≡ Err (between x.from x.to) → SetUp l w u w₁ u s
  refused-22 = row-22 o j over-lists

  pub all_done : r ≡ Ok tt → SetUp l w u w₁ u (Ok m)
  all_done = done o j over-lists
