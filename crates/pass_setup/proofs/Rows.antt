-- Row 22, edge by edge, and the answer: rows 19 to 22 in the table's words (`RefusedFloor`) are what a set-up tests, of a floor as rows 3 to 8 leave it. Assumes nothing.
use Prim.Native.Nat.{ℕ, ◌≤◌, ◌<◌}
use native.Mathlib.Omega.{arith}
use mathlib.Core.Path.{◌≡◌, refl, sym, ap, ◌∙◌, subst}
use mathlib.Core.Logic.{◌↔◌, ◌⊎◌, inl, inr}
use mathlib.Core.Bool.{Bool, true, false, not, cond, ◌||◌}
use borrow.Author.Tests.{ltb-true, ltb-false, lt-ltb, le-ltb, not-true}
use lib.Dec.{T, ltb}
use lib.ListN.{length, get_or}
use lib.Ieee.{Float, le}
use lib.Ieee.Positive.{above}
use Rattle.std.specs.Prelude.{Ok, Err}
use Rattle.float.specs.Double.{HALF, lit, is_finite, not_positive, ◌⊕◌, ◌⊗◌}
use Rattle.float.proofs.Above.{above-test, passes-positive, mean-above}
use Rattle.mesh.specs.Mesh.{Side, side, All}
use Rattle.complex.specs.declared.Complex.{Complex}
use Rattle.edges.specs.Sides.{lower, upper}
use Rattle.refusals.specs.Refusal.{row_at, between, Verdict}
use Rattle.floor.specs.Floor.{Floor, point_count, triangle_count, value_at}
use Rattle.floor.proofs.Lowest.{lowest-most, lowest-before, lowest-clear, lowest-holds, lowest-is}
use Rattle.geometry.specs.Edge.{transport_of}
use Rattle.pass_gradients.specs.Gradients.{first_refused}
use Rattle.pass_transports.specs.Transports as transports
use Rattle.refusals.specs.declared.Refusal.{Refusal}
use Rattle.pass_setup.specs.Setup.{degenerate_of, sum_x, sum_y, weight_of, means_of, edges_of, lowers_of, uppers_of, points_in, after_transports, after_means, setup_of, Setup}
use Rattle.pass_setup.specs.Rows.{SoundFloor, Row20, Row21, lower_of, upper_of, Row22, NoneBefore, NoPointBefore, RefusedFloor, by-19, by-20, by-21, by-22, AcceptedFloor}
use Rattle.pass_setup.proofs.Keyed.{Keyed}
use Rattle.pass_setup.proofs.Floors.{at_all, get_d_map, length-lowers, fault-19, wound-good, edges-keyed}
use Rattle.pass_setup.proofs.Triangles.{Tests, passed, failed, most-19, before-19, holds-19, is-19, clear-19, no-19}
use Rattle.pass_setup.proofs.Points.{most-point, before-point, holds-point, means-clear, means-at, row-20, row-21, tests-20}
use Rattle.pass_transports.specs.Transports.{Answer}

module _ (f : Floor) where
  -- ---- row 22, where row 19 holds of no triangle

  module _ (none : degenerate_of f ≡ triangle_count f) (ok : SoundFloor f) where
    keyed : All (Keyed (point_count f)) (edges_of f)
    keyed = edges-keyed f (wound-good f none ok.corners)

    ends-in : (e : ℕ) → e < length (edges_of f) → (lower_of f e < point_count f) × (upper_of f e < point_count f)
    unfolding lowers_of uppers_of
    ends-in e l =
        let s = get_or (edges_of f) e (side 0 0) in
        let a : lower_of f e ≡ lower s = get_d_map lower (edges_of f) e (side 0 0) 0 l in
        let b : upper_of f e ≡ upper s = get_d_map upper (edges_of f) e (side 0 0) 0 l in
        rw (a, b) (within s (at_all (Keyed (point_count f)) (side 0 0) (edges_of f) keyed e l))
      where
        within : (s : Side) → Keyed (point_count f) s → (lower s < point_count f) × (upper s < point_count f)
        within (side a b) k = (omega (arith, k.0, k.1), k.1)

    abbrev mean_at : ℕ → Float
    mean_at e = HALF ⊗ (value_at f.sizes (lower_of f e) ⊕ value_at f.sizes (upper_of f e))

    pub mean-positive : (e : ℕ) → e < length (edges_of f) → T (above (mean_at e))
    mean-positive e l =
        let h = ends-in e l in
        let a = ok.positive (lower_of f e) h.0 in
        let b = ok.positive (upper_of f e) h.1 in
        mean-above _ _ (passes-positive _ a.0) a.1 (passes-positive _ b.0) b.1

    refused-is : (e : ℕ) → transports.is_refused (transports.transport_at (points_in f) (lowers_of f) (uppers_of f) e) ≡ not_positive (mean_at e)
    unfolding transports.transport_at transports.end_of transports.points_of points_in transport_of not_positive
    refused-is e = go _ (not (is_finite (mean_at e)) || le (mean_at e) (lit 0))
      where
        go : (z : Complex) (b : Bool) → transports.is_refused (cond b (Err (record { from = lower_of f e; to = upper_of f e })) (Ok z)) ≡ b
        go z true = refl
        go z false = refl

    pub tests-22 : (e : ℕ) → e < length (edges_of f) → Tests (transports.is_refused (transports.transport_at (points_in f) (lowers_of f) (uppers_of f) e)) (Row22 f e)
    tests-22 e l = subst (λ (b : Bool). Tests b (Row22 f e)) (sym (refused-is e ∙ above-test (mean_at e) (mean-positive e l))) (λ h. not-true _ h, λ h. ap not h)

    abbrev is_refused_at : ℕ → Bool
    is_refused_at e = transports.is_refused (transports.transport_at (points_in f) (lowers_of f) (uppers_of f) e)

    abbrev answered : Answer
    answered = transports.transports_answer (points_in f) (lowers_of f) (uppers_of f)

    abbrev first_edge : ℕ
    first_edge = transports.first_mean (points_in f) (lowers_of f) (uppers_of f) (length (lowers_of f))

    most-edge : first_edge ≤ length (edges_of f)
    unfolding transports.first_mean
    most-edge = omega (arith, lowest-most is_refused_at (length (lowers_of f)), length-lowers f)

    before-22 : NoneBefore (Row22 f) first_edge
    unfolding transports.first_mean
    before-22 e l = passed (tests-22 e (omega (arith, most-edge))) (lowest-before is_refused_at (length (lowers_of f)) e l)

    holds-22 : first_edge < length (edges_of f) → Row22 f first_edge
    unfolding transports.first_mean
    holds-22 l = (tests-22 first_edge l).0 (lowest-holds is_refused_at (length (lowers_of f)) (omega (arith, length-lowers f)))

    answer-clear : NoneBefore (Row22 f) (length (edges_of f)) → answered ≡ Ok tt
    unfolding transports.transports_answer transports.first_mean
    answer-clear n =
        rw (
          lowest-clear is_refused_at (length (lowers_of f)) (λ e l. let h : e < length (edges_of f) = omega (arith, length-lowers f) in failed (tests-22 e h) (n e h)),
          le-ltb (length (lowers_of f)) (length (lowers_of f)) (omega arith),
        )

    answer_at : (e : ℕ) → e < length (edges_of f) → Row22 f e → NoneBefore (Row22 f) e → answered ≡ Err (record { from = lower_of f e; to = upper_of f e })
    unfolding transports.transports_answer transports.first_mean
    answer_at e l r n =
        let m : e < length (lowers_of f) = omega (arith, length-lowers f) in
        rw (lowest-is is_refused_at (length (lowers_of f)) e m ((tests-22 e l).1 r) (λ j h. failed (tests-22 j (omega arith)) (n j h)), lt-ltb e (length (lowers_of f)) m)

  -- ---- the answer

  -- what follows row 19, and what follows rows 20 and 21
  abbrev after_triangles : Setup
  after_triangles = after_means (means_of f) (after_transports (length (edges_of f)) (transports.transports_answer (points_in f) (lowers_of f) (uppers_of f)))

  abbrev by_means : Verdict → Setup
  by_means k = after_means k (after_transports (length (edges_of f)) (transports.transports_answer (points_in f) (lowers_of f) (uppers_of f)))

  past-19 : degenerate_of f ≡ triangle_count f → setup_of f ≡ after_triangles
  unfolding setup_of
  past-19 e = rw (e, le-ltb (triangle_count f) (triangle_count f) (omega arith))

  at-19 : (t : ℕ) → degenerate_of f ≡ t → t < triangle_count f → setup_of f ≡ Err (row_at 19 t)
  unfolding setup_of
  at-19 t e l = let k : degenerate_of f < triangle_count f = rw e l in rw (fault-19 f k, e, lt-ltb t (triangle_count f) l)

  module _ (ok : SoundFloor f) where
    to-setup : (x : Refusal) → RefusedFloor f x → setup_of f ≡ Err x
    to-setup x (by-19 t l r n e) = at-19 t (is-19 f t l r n) l ∙ ap Err (sym e)
    to-setup x (by-20 n v l r b e) =
        let c = clear-19 f n in
        past-19 c ∙ ap by_means (means-at f c v l (inl r) b ∙ ap (λ (k : ℕ). Err (row_at k v)) (row-20 f c v r)) ∙ ap Err (sym e)
    to-setup x (by-21 n v l m r b e) =
        let c = clear-19 f n in
        past-19 c ∙ ap by_means (means-at f c v l (inr r) b ∙ ap (λ (k : ℕ). Err (row_at k v)) (row-21 f c v m r)) ∙ ap Err (sym e)
    to-setup x (by-22 n b i l r m e) =
        let c = clear-19 f n in
        past-19 c ∙ ap by_means (means-clear f c b) ∙ ap (after_transports (length (edges_of f))) (answer_at c ok i l r m) ∙ ap Err (sym e)

    -- where none of them holds
    pub accepted-setup : AcceptedFloor f → setup_of f ≡ Ok (length (edges_of f))
    accepted-setup a =
        let c = clear-19 f a.no-19 in
        past-19 c ∙ ap by_means (means-clear f c a.no-20-or-21) ∙ ap (after_transports (length (edges_of f))) (answer-clear c ok a.no-22)

    -- one of the two
    pub decided : ((x : Refusal) × RefusedFloor f x) ⊎ AcceptedFloor f
    decided = triangles (ltb (degenerate_of f) (triangle_count f)) refl
      where
        edges : (c : degenerate_of f ≡ triangle_count f) → NoPointBefore f (point_count f) → (b : Bool) → ltb (first_edge c ok) (length (edges_of f)) ≡ b → ((x : Refusal) × RefusedFloor f x) ⊎ AcceptedFloor f
        edges c n true e =
            let l = ltb-true (first_edge c ok) (length (edges_of f)) e in
            inl (between (lower_of f (first_edge c ok)) (upper_of f (first_edge c ok)), by-22 (no-19 f c) n (first_edge c ok) l (holds-22 c ok l) (before-22 c ok) refl)
        edges c n false e =
            let l : first_edge c ok ≡ length (edges_of f) = omega (arith, ltb-false (first_edge c ok) (length (edges_of f)) e, most-edge c ok) in
            inr (record { no-19 = no-19 f c; no-20-or-21 = n; no-22 = λ i h. before-22 c ok i (omega arith) })

        point : (c : degenerate_of f ≡ triangle_count f) → first_refused (sum_x f) (sum_y f) (weight_of f) (point_count f) < point_count f → (a : Bool) → not_positive (weight_of f (first_refused (sum_x f) (sum_y f) (weight_of f) (point_count f))) ≡ a
            → Row20 f (first_refused (sum_x f) (sum_y f) (weight_of f) (point_count f)) ⊎ Row21 f (first_refused (sum_x f) (sum_y f) (weight_of f) (point_count f)) → ((x : Refusal) × RefusedFloor f x) ⊎ AcceptedFloor f
        point c l true p r = inl (row_at 20 _, by-20 (no-19 f c) _ l ((tests-20 f c _).0 p) (before-point f c) refl)
        point c l false p (inl r) = absurd (passed (tests-20 f c _) p r)
        point c l false p (inr r) = inl (row_at 21 _, by-21 (no-19 f c) _ l (passed (tests-20 f c _) p) r (before-point f c) refl)

        points : (c : degenerate_of f ≡ triangle_count f) → (b : Bool) → ltb (first_refused (sum_x f) (sum_y f) (weight_of f) (point_count f)) (point_count f) ≡ b → ((x : Refusal) × RefusedFloor f x) ⊎ AcceptedFloor f
        points c true e =
            let l = ltb-true (first_refused (sum_x f) (sum_y f) (weight_of f) (point_count f)) (point_count f) e in
            point c l (not_positive (weight_of f (first_refused (sum_x f) (sum_y f) (weight_of f) (point_count f)))) refl (holds-point f c l)
        points c false e =
            let l : first_refused (sum_x f) (sum_y f) (weight_of f) (point_count f) ≡ point_count f = omega (arith, ltb-false (first_refused (sum_x f) (sum_y f) (weight_of f) (point_count f)) (point_count f) e, most-point f c) in
            edges c (subst (NoPointBefore f) l (before-point f c)) (ltb (first_edge c ok) (length (edges_of f))) refl

        triangles : (b : Bool) → ltb (degenerate_of f) (triangle_count f) ≡ b → ((x : Refusal) × RefusedFloor f x) ⊎ AcceptedFloor f
        triangles true e = let l = ltb-true (degenerate_of f) (triangle_count f) e in inl (row_at 19 (degenerate_of f), by-19 (degenerate_of f) l (holds-19 f l) (before-19 f) refl)
        triangles false e = let c : degenerate_of f ≡ triangle_count f = omega (arith, ltb-false (degenerate_of f) (triangle_count f) e, most-19 f) in points c (ltb (first_refused (sum_x f) (sum_y f) (weight_of f) (point_count f)) (point_count f)) refl

    -- "given exactly if"
    pub setup-rows : (x : Refusal) → (setup_of f ≡ Err x) ↔ RefusedFloor f x
    setup-rows x = (λ h. from decided h, to-setup x)
      where
        from : ((y : Refusal) × RefusedFloor f y) ⊎ AcceptedFloor f → setup_of f ≡ Err x → RefusedFloor f x
        from (inl y) h = let z : ◌≡◌ {A = Setup} (Err y.0) (Err x) = sym (to-setup y.0 y.1) ∙ h in subst (RefusedFloor f) (same z) y.1
          where
            same : {x y : Refusal} → ◌≡◌ {A = Setup} (Err x) (Err y) → x ≡ y
            same e = cc
        from (inr a) h = let z : ◌≡◌ {A = Setup} (Ok (length (edges_of f))) (Err x) = sym (accepted-setup a) ∙ h in absurd (differ z)
          where
            differ : ◌≡◌ {A = Setup} (Ok (length (edges_of f))) (Err x) → ⊥
            differ e = let z : ◌≡◌ {A = ℕ} 0 1 = cc in omega arith

    pub setup-accepted : (m : ℕ) → setup_of f ≡ Ok m → AcceptedFloor f
    setup-accepted m h = from decided
      where
        from : ((y : Refusal) × RefusedFloor f y) ⊎ AcceptedFloor f → AcceptedFloor f
        from (inl y) = let e : ◌≡◌ {A = Setup} (Err y.0) (Ok m) = sym (to-setup y.0 y.1) ∙ h in absurd (differ e)
          where
            differ : ◌≡◌ {A = Setup} (Err y.0) (Ok m) → ⊥
            differ e = let z : ◌≡◌ {A = ℕ} 0 1 = cc in omega arith
        from (inr a) = a
