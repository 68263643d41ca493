-- A solve changes the length of no slice that it is lent. Assumes nothing.
use Prim.Native.Nat.{ℕ, ◌+◌, ◌*◌, ◌≤◌}
use native.Mathlib.Omega.{arith}
use mathlib.Core.Path.{◌≡◌, refl, ◌∙◌}
use mathlib.Core.Bool.{Bool, true, false, not, cond, ◌&&◌}
use mathlib.Core.List.{List}
use lib.Dec.{eqb}
use lib.ListN.{length, drop, length-append, length-drop, length-replicate}
use lib.Ieee.{Float}
use Rattle.std.specs.Prelude.{Ok, Err}
use Rattle.float.specs.Double.{lit}
use Rattle.refinement.specs.Floor.{over}
use Rattle.pass_options.specs.Pass.{Pass, Passed, field, faulty, PassFacts}
use Rattle.calls.specs.declared.Lengths.{Lengths}
use Rattle.calls.specs.Checks.{Call, Lent, lengths_of, points_in, triangles_in, is_adaptive, most_points, check_solve}
use Rattle.calls.specs.Solve.{first_floor, first_pass, refined_by, second_floor, second_pass, without_threshold, extended, wiped, solved_once, after_second, after_first, after_checks, solve_of}
use Rattle.calls.proofs.Ready.{sound-ready}
use Rattle.calls.proofs.Room.{points-in, second-few}
use Rattle.refusals.specs.Refusal.{Verdict}

fine-room : (c : Call) (l : Lengths) → check_solve c l ≡ Ok tt → is_adaptive c.options ≡ true → points_in c + 3 * triangles_in c ≤ l.fine
unfolding most_points
fine-room c l s h = (sound-ready c l s).fine-room h

over-length : (new old : List Float) → length new ≤ length old → length (over new old) ≡ length old
over-length new old h = length-append new (drop (length new) old) ∙ omega (arith, length-drop (length new) old)

-- no call changes the length of a slice: with `Ends`, what the contract of the code needs
module _ (pass : Pass) (facts : PassFacts pass) (c : Call) (lent : Lent) where
  wiped-lengths : (coarse fine : List Float) → length coarse ≡ length lent.coarse → length fine ≡ length lent.fine → lengths_of (wiped lent coarse fine) ≡ lengths_of lent
  wiped-lengths coarse fine e g = rw (e, g, length-replicate (length lent.work) (lit 0), length-replicate {A = ℕ} (length lent.words) 0)

  module _ (s : check_solve c (lengths_of lent) ≡ Ok tt) where
    coarse-kept : (alpha : List Float) → first_pass pass c ≡ field alpha → length (over alpha lent.coarse) ≡ length lent.coarse
    coarse-kept alpha f = over-length alpha lent.coarse (omega (arith, facts.as_many (first_floor c) c.options c.guidance c.iterations alpha f, points-in c.points, (sound-ready c (lengths_of lent) s).coarse-room))

    second-kept : (alpha : List Float) → first_pass pass c ≡ field alpha → is_adaptive c.options ≡ true → (p : Passed) → second_pass pass c alpha ≡ p → lengths_of (after_second c lent alpha p).lent ≡ lengths_of lent
    second-kept alpha f a (faulty x) e = wiped-lengths lent.coarse lent.fine refl refl
    second-kept alpha f a (field beta) e =
        wiped-lengths (over alpha lent.coarse) (over beta lent.fine) (coarse-kept alpha f)
        (over-length beta lent.fine
        (omega (arith, facts.as_many (second_floor c alpha) (without_threshold c.options) (extended c.guidance (refined_by c alpha).cut) c.iterations beta e, second-few c alpha (sound-ready c (lengths_of lent) s).whole, fine-room c (lengths_of lent) s a)))

    field-kept : (alpha : List Float) → first_pass pass c ≡ field alpha → (b : Bool) → is_adaptive c.options ≡ b → (d : Bool) → lengths_of (cond (b && d) (after_second c lent alpha (second_pass pass c alpha)) (solved_once alpha lent)).lent ≡ lengths_of lent
    field-kept alpha f true a true = second-kept alpha f a (second_pass pass c alpha) refl
    field-kept alpha f true a false = wiped-lengths (over alpha lent.coarse) lent.fine (coarse-kept alpha f) refl
    field-kept alpha f false a d = wiped-lengths (over alpha lent.coarse) lent.fine (coarse-kept alpha f) refl

    first-kept : (p : Passed) → first_pass pass c ≡ p → lengths_of (after_first pass c lent p).lent ≡ lengths_of lent
    first-kept (faulty x) e = wiped-lengths lent.coarse lent.fine refl refl
    first-kept (field alpha) e = field-kept alpha e (is_adaptive c.options) refl (not (eqb (refined_by c alpha).flagged 0))

  pub lengths-kept : lengths_of (solve_of pass c lent).lent ≡ lengths_of lent
  unfolding solve_of
  lengths-kept = go (check_solve c (lengths_of lent)) refl
    where
      go : (k : Verdict) → check_solve c (lengths_of lent) ≡ k → lengths_of (after_checks pass c lent k).lent ≡ lengths_of lent
      go (Err x) e = refl
      go (Ok _) e = first-kept e (first_pass pass c) refl
