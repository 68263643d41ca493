-- `pass_inverse_iteration::iterate` meets its contract: the loop keeps what `Inv-loop` says, and what is left to do falls at each iteration; the laws are in proofs/Iterations.
use mathlib.Core.Path.{◌≡◌, refl, sym, ap, ◌∙◌}
use Rattle.std.specs.Prelude.{Ok, Err}
use Rattle.pass_inverse_iteration.specs.Work.{ended_as}
use Rattle.pass_solution.proofs.Chains.{framed-length, framed-engine}
use Rattle.pass_inverse_iteration.proofs.Judgements.{same-pencil}
use Rattle.pass_inverse_iteration.proofs.Iterations.{reach-none, reach-again, reach-ended, reach-done}
use borrow.Author.Rules.{rules}
use Rattle.pass_inverse_iteration.proofs.iterate.Goals as goal

pub loop-i-init : goal.loop-i-init
loop-i-init c = (search rules, search rules, reach-none _ _ _ _ _ _)

pub iterate_once-requires : goal.iterate_once-requires
iterate_once-requires c = record { pencil_room = same-pencil c.loop-i.invariant.1 c.requires.pencil_room; graphs = c.requires.graphs; engine = framed-engine _ _ _ _ _ _ _ c.requires.pencil_room.energy-room c.requires.engine _ refl c.loop-i.invariant.2.frame }

pub returns-in_err-converged : goal.returns-in_err-converged
returns-in_err-converged c =
    let r : c.from_residual.result ≡ Err c.in_err-converged.field-0.0 = search rules in
    reach-ended _ _ _ _ _ _ c.requires.pencil_room _ c.loop-i-test.true c.loop-i.invariant.2
    c.iterate_once.ensures _ (c.in_err-converged.was ∙ ap ended_as (sym r))

pub returns-then-converged : goal.returns-then-converged
returns-then-converged c =
    reach-ended _ _ _ _ _ _ c.requires.pencil_room _ c.loop-i-test.true c.loop-i.invariant.2
    c.iterate_once.ensures _ (c.in_ok-converged.was ∙ ap Ok c.if-converged.true)

pub loop-i-preserved : goal.loop-i-preserved
loop-i-preserved c =
    let reached = reach-again _ _ _ _ _ _ c.requires.pencil_room _ c.loop-i-test.true c.loop-i.invariant.2
    c.iterate_once.ensures (c.in_ok-converged.was ∙ ap Ok c.if-converged.false) in
    (search rules, framed-length _ _ _ reached.frame, reached)

pub returns : goal.returns
returns c = reach-done _ _ _ _ _ _ c.loop-i.invariant.0 c.loop-i-test.false c.loop-i.invariant.2 (ap Err c.gave_up.ensures)
