-- What an accepted solve gives, `Accepted`, over any pass that has the facts of `PassFacts`. Assumes nothing else.
use Prim.Native.Nat.{ℕ, ◌≤◌}
use native.Mathlib.Omega.{arith}
use mathlib.Core.Path.{◌≡◌, refl, sym, ap, ◌∙◌, subst}
use mathlib.Core.Bool.{Bool, true, false}
use mathlib.Core.List.{List}
use borrow.Author.Tests.{le-ltb}
use lib.ListN.{length, drop, length-append}
use lib.Seq.{take-append-le, take_all}
use lib.Ieee.{Float}
use Rattle.std.specs.Prelude.{Ok}
use Rattle.floor.specs.Floor.{Floor, point_count}
use Rattle.refinement.specs.Floor.{over}
use Rattle.pass_options.specs.declared.Options.{Options}
use Rattle.pass_options.specs.Options.{Guidance}
use Rattle.pass_options.specs.Pass.{Pass, field, PassFacts}
use Rattle.calls.specs.declared.Counts.{Counts}
use Rattle.calls.specs.Checks.{Call, Lent, lengths_of, points_in, check_solve, Outcome}
use Rattle.calls.specs.Solve.{Ended, first_floor, first_pass, refined_by, second_floor, without_threshold, extended, refines, solved_once, solve_of, first_angles, answer_part}
use Rattle.calls.specs.Accepted.{IsField, OnePass, FillsFine, Accepted}
use Rattle.calls.proofs.Refusals.{after-field}
use Rattle.calls.proofs.Room.{points-in}
use Rattle.calls.proofs.Claim.{solved-sound, first-accepted, Twice, solved-twice}

-- the first n of a slice that begins with n angles
first-over : (n : ℕ) (alpha s : List Float) → length alpha ≡ n → first_angles n (over alpha s) ≡ alpha
first-over n alpha s e =
    let long : n ≤ length (over alpha s) = omega (arith, e, length-append alpha (drop (length alpha) s)) in
    rw (le-ltb _ _ long, take-append-le n alpha (drop (length alpha) s) (omega (arith, e))) (take_all n alpha (omega (arith, e)))

module _ (pass : Pass) (facts : PassFacts pass) where
  of-floor : (f : Floor) (o : Options) (g : Guidance) (k : ℕ) (alpha : List Float) → pass f o g k ≡ field alpha → IsField (point_count f) alpha
  of-floor f o g k alpha e = let n = facts.as_many f o g k alpha e in record { as_many = n; range = λ i l. facts.range f o g k alpha e i (omega (arith, n)) }

  module _ (c : Call) (lent : Lent) (counts : Counts) (accepted : (solve_of pass c lent).outcome ≡ Ok counts) (alpha : List Float) (first : first_pass pass c ≡ field alpha) where
    sound : check_solve c (lengths_of lent) ≡ Ok tt
    sound = solved-sound pass c lent counts accepted

    is_field : IsField (points_in c) alpha
    is_field = subst (λ (n : ℕ). IsField n alpha) (points-in c.points) (of-floor (first_floor c) c.options c.guidance c.iterations alpha first)

    done-once : refines c alpha ≡ false → solve_of pass c lent ≡ solved_once alpha lent
    done-once r = after-field pass c lent sound alpha first false r

    done-twice : refines c alpha ≡ true → Twice pass c lent counts alpha
    done-twice r = solved-twice pass c lent counts alpha accepted first r

    coarse-is : (b : Bool) → refines c alpha ≡ b → (solve_of pass c lent).lent.coarse ≡ over alpha lent.coarse
    coarse-is false r = ap (λ (z : Ended). z.lent.coarse) (done-once r)
    coarse-is true r = ap (λ (z : Ended). z.lent.coarse) (done-twice r).is

    one-pass : refines c alpha ≡ false → OnePass c lent counts alpha (solve_of pass c lent).lent.coarse (solve_of pass c lent).lent.fine
    unfolding answer_part
    one-pass r =
        let z = done-once r in
        let o : ◌≡◌ {A = Outcome} (Ok (record { flagged = 0; cut = 0 })) (Ok counts) = sym (ap (λ (z : Ended). z.outcome) z) ∙ accepted in
        let none : counts.flagged ≡ 0 = cc in
        let uncut : counts.cut ≡ 0 = cc in
        record {
          fine-left = ap (λ (z : Ended). z.lent.fine) z;
          none-flagged = none;
          none-cut = uncut;
          answer = rw (none, coarse-is false r) (first-over (points_in c) alpha lent.coarse is_field.as_many);
        }

    two-passes : refines c alpha ≡ true → FillsFine pass c lent alpha (solve_of pass c lent).lent.fine
    two-passes r =
        let z = done-twice r in
        record {
          beta = z.beta;
          second = z.second;
          is_field = of-floor (second_floor c alpha) (without_threshold c.options) (extended c.guidance (refined_by c alpha).cut) c.iterations z.beta z.second;
          fine-left = ap (λ (z : Ended). z.lent.fine) z.is;
        }

    by_first : Accepted pass c lent counts (solve_of pass c lent).lent.coarse (solve_of pass c lent).lent.fine
    by_first = record {
      alpha = alpha;
      first_field = record { first = first; is_field = is_field; coarse-left = coarse-is (refines c alpha) refl };
      once = one-pass;
      twice = two-passes;
    }

  pub solve-accepted : (c : Call) (lent : Lent) (counts : Counts) → (solve_of pass c lent).outcome ≡ Ok counts
      → Accepted pass c lent counts (solve_of pass c lent).lent.coarse (solve_of pass c lent).lent.fine
  solve-accepted c lent counts h = let a = first-accepted pass c lent counts h in by_first c lent counts h a.0 a.1
