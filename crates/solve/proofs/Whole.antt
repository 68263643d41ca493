-- A whole solve is what its checks, its passes and the copies of the angles come to: `Ends` of `solve_of`, from what each of them ensures. And what the calls of
-- `solve` ask for. Assumes nothing.
use Prim.Native.Nat.{ℕ}
use native.Mathlib.Omega.{arith}
use mathlib.Core.Path.{◌≡◌, refl, sym, ap, ◌∙◌}
use mathlib.Core.Bool.{Bool, true, false, cond}
use mathlib.Core.List.{List}
use lib.ListN.{length, replicate}
use lib.Ieee.{Float}
use Rattle.std.specs.Prelude.{Some, Ok, None, Err}
use Rattle.float.specs.Double.{lit}
use Rattle.refusals.specs.declared.Refusal.{Refusal}
use Rattle.refinement.specs.Floor.{over}
use Rattle.pass_options.specs.Pass.{Passed, field, faulty}
use Rattle.pass.specs.Pass.{pass_of}
use Rattle.calls.specs.declared.Counts.{Counts}
use Rattle.calls.specs.Checks.{Call, Lent, lengths_of, points_in, triangles_in, is_adaptive, most_points, most_triangles, check_solve, Outcome}
use Rattle.calls.specs.Solve.{first_pass, second_pass, refined_by, refines, Ended, after_second, after_first, solved_once, solve_of, Ends}
use Rattle.calls.proofs.Ready.{sound-ready}
use Rattle.calls.proofs.Room.{second-points, second-few}
use Rattle.solve.specs.Passes.{found_second, found_after, found_first, found_of, ReadyFor, PassesMade, FinishRoom, SecondFits, Finished, outcome_of, coarse_left, fine_left, Found}
use Rattle.solve.proofs.Answers.{both_true}
use Rattle.solve.proofs.Made.{some-points-fit}
use Rattle.refusals.specs.Refusal.{Verdict}

module _ (c : Call) (l : Lent) where
  -- rows 1 to 18: nothing is touched
  refused-ends : (x : Refusal) → check_solve c (lengths_of l) ≡ Err x → Ends (solve_of pass_of c l) (Err x) l.coarse l.fine l.work l.words
  unfolding solve_of
  refused-ends x e = rw e (record { outcome = refl; coarse-left = refl; fine-left = refl; work-left = refl; words_left = refl })

  pub ends-early : {k : Verdict} → k ≡ check_solve c (lengths_of l) → (x : Refusal) → k ≡ Err x → {r : Outcome} → r ≡ Err x
      → Ends (solve_of pass_of c l) r l.coarse l.fine l.work l.words
  ends-early e x h told = rw told (refused-ends x (sym e ∙ h))

  module _ (sound : check_solve c (lengths_of l) ≡ Ok tt) {w' : List Float} {u' : List ℕ} {found : Found} (made : PassesMade c l.work w' l.words u' found) where
    module _ {coarse' fine' : List Float} {r : Outcome} (done : Finished found (points_in c) w' l.coarse l.fine coarse' fine' r)
        {w'' : List Float} {u'' : List ℕ} (no-reals : w'' ≡ replicate (length w') (lit 0)) (no_words : u'' ≡ replicate (length u') 0) where
      reals-gone : w'' ≡ replicate (length l.work) (lit 0)
      reals-gone = no-reals ∙ ap (λ (k : ℕ). replicate k (lit 0)) made.lengths.all-reals

      words-gone : u'' ≡ replicate (length l.words) 0
      words-gone = no_words ∙ ap (λ (k : ℕ). replicate k 0) made.lengths.all_words

      -- what is found decides, by cases
      ends_by : (f : Found) → found ≡ f → (e : Ended) → e.outcome ≡ outcome_of f → e.lent.coarse ≡ coarse_left f (points_in c) w' l.coarse → e.lent.fine ≡ fine_left f (points_in c) w' l.fine
          → e.lent.work ≡ replicate (length l.work) (lit 0) → e.lent.words ≡ replicate (length l.words) 0 → Ends e r coarse' fine' w'' u''
      ends_by f is e told left-coarse left-fine left-work left-words = record {
        outcome = done.outcome ∙ ap outcome_of is ∙ sym told;
        coarse-left = done.coarse-left ∙ ap (λ (x : Found). coarse_left x (points_in c) w' l.coarse) is ∙ sym left-coarse;
        fine-left = done.fine-left ∙ ap (λ (x : Found). fine_left x (points_in c) w' l.fine) is ∙ sym left-fine;
        work-left = reals-gone ∙ sym left-work;
        words_left = words-gone ∙ sym left-words;
      }

      after-second : (alpha : List Float) → first_pass pass_of c ≡ field alpha → refines c alpha ≡ true → (q : Passed) → second_pass pass_of c alpha ≡ q
          → found ≡ found_second c alpha q → Ends (after_second c l alpha q) r coarse' fine' w'' u''
      after-second alpha p b (faulty x) q is = ends_by _ is (after_second c l alpha (faulty x)) refl refl refl refl refl
      after-second alpha p b (field beta) q is =
          ends_by _ is (after_second c l alpha (field beta)) refl
          (ap (λ (x : List Float). over x l.coarse) (sym (made.first-stands alpha p)))
          (ap (λ (x : List Float). over x l.fine) (sym (made.second-stands alpha p beta b q)))
          refl refl

      after-field : (alpha : List Float) → first_pass pass_of c ≡ field alpha → (b : Bool) → refines c alpha ≡ b
          → found ≡ cond b (found_second c alpha (second_pass pass_of c alpha)) (Ok None)
          → Ends (cond b (after_second c l alpha (second_pass pass_of c alpha)) (solved_once alpha l)) r coarse' fine' w'' u''
      after-field alpha p true b is = after-second alpha p b (second_pass pass_of c alpha) refl is
      after-field alpha p false b is = ends_by _ is (solved_once alpha l) refl (ap (λ (x : List Float). over x l.coarse) (sym (made.first-stands alpha p))) refl refl refl

      after_first_lem : (p : Passed) → first_pass pass_of c ≡ p → found ≡ found_first c p → Ends (after_first pass_of c l p) r coarse' fine' w'' u''
      unfolding found_after
      after_first_lem (faulty x) p is = ends_by _ is (after_first pass_of c l (faulty x)) refl refl refl refl refl
      after_first_lem (field alpha) p is = after-field alpha p (refines c alpha) refl is

      pub ends-late : Ends (solve_of pass_of c l) r coarse' fine' w'' u''
      unfolding solve_of found_of
      ends-late = rw sound (after_first_lem (first_pass pass_of c) refl made.answer)

-- ---- what the calls of `solve` ask for

pub ready_for : (c : Call) (l : Lent) → check_solve c (lengths_of l) ≡ Ok tt → ReadyFor c l.work l.words
unfolding most_points
ready_for c l s =
    let r = sound-ready c (lengths_of l) s in
    record {
      whole = r.whole;
      whole-corners = r.whole-corners;
      few-points = r.few-points;
      few-triangles = r.few-triangles;
      some-points = r.some-points;
      some-triangles = r.some-triangles;
      sized = r.sized;
      corners = r.corners;
      guided-all = r.guided-all;
      coarse-room = omega arith;
      fine-room = λ _. omega arith;
      reals-room = r.reals-room;
      words-room = r.words-room;
    }

-- a call that passed twice has a threshold above 0, and as many cut sides as its refinement
record PassedTwice (c : Call) (k : Counts) : Type 0 where
  alpha : List Float
  above : is_adaptive c.options ≡ true
  cut : k.cut ≡ length (refined_by c alpha).cut

twice-second : (c : Call) (alpha : List Float) (k : Counts) → is_adaptive c.options ≡ true → (q : Passed) → Ok (Some k) ≡ found_second c alpha q → PassedTwice c k
twice-second c alpha k above (faulty x) e = let z : ◌≡◌ {A = ℕ} 0 1 = cc in absurd (omega arith)
twice-second c alpha k above (field beta) e = record { alpha = alpha; above = above; cut = cc }

twice-after : (c : Call) (alpha : List Float) (k : Counts) (b : Bool) → refines c alpha ≡ b → Ok (Some k) ≡ cond b (found_second c alpha (second_pass pass_of c alpha)) (Ok None) → PassedTwice c k
twice-after c alpha k true b e = twice-second c alpha k (both_true _ _ b) (second_pass pass_of c alpha) e
twice-after c alpha k false b e = let z : ◌≡◌ {A = ℕ} 0 1 = cc in absurd (omega arith)

twice-first : (c : Call) (k : Counts) (p : Passed) → Ok (Some k) ≡ found_first c p → PassedTwice c k
unfolding found_after
twice-first c k (faulty x) e = let z : ◌≡◌ {A = ℕ} 0 1 = cc in absurd (omega arith)
twice-first c k (field alpha) e = twice-after c alpha k (refines c alpha) refl e

twice-fits : (c : Call) (l : Lent) → check_solve c (lengths_of l) ≡ Ok tt → (work : ℕ) → work ≡ length l.work → (f : Found) → f ≡ found_of c
    → SecondFits f (points_in c) work (length l.fine)
unfolding found_of most_points most_triangles
twice-fits c l s work e (Ok None) g = tt
twice-fits c l s work e (Err x) g = tt
twice-fits c l s work e (Ok (Some k)) g =
    let r = sound-ready c (lengths_of l) s in
    let t = twice-first c k (first_pass pass_of c) g in
    let room = rw t.above at r.reals-room in
    let fine = r.fine-room t.above in
    let many = second-points c t.alpha r.whole in
    let few = second-few c t.alpha r.whole in
    (omega (arith, t.cut), omega (arith, t.cut))

pub finish-room : (c : Call) (l : Lent) → check_solve c (lengths_of l) ≡ Ok tt → {w' : List Float} {u' : List ℕ} {found : Found} → PassesMade c l.work w' l.words u' found
    → FinishRoom found (points_in c) (length w') (length l.coarse) (length l.fine)
finish-room c l s {w'} {u'} {found} made =
    let r = sound-ready c (lengths_of l) s in
    record {
      first-in = omega (arith, r.reals-room, some-points-fit (is_adaptive c.options) (points_in c) (triangles_in c), made.lengths.all-reals);
      coarse-room = r.coarse-room;
      second_fits = twice-fits c l s (length w') made.lengths.all-reals found made.answer;
    }
