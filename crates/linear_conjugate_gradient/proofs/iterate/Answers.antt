use Rattle.linear_conjugate_gradient.proofs.Iterations.{engine-still}
use Rattle.linear_conjugate_gradient.proofs.Lays.{read-sized, same-room}
use Rattle.linear_conjugate_gradient.proofs.Runs.{run_none, run-again, run-converged, run-gave, run-done}
use Rattle.std.proofs.lemmas.Result.{err_from_is_err_and}
use Rattle.std.specs.Prelude.{Ok}
use mathlib.Core.Path.{refl, ap}
use borrow.Author.Rules.{rules}
use Rattle.linear_conjugate_gradient.proofs.iterate.Goals as goal

-- `linear_conjugate_gradient::iterate` meets its contract: the loop keeps what `Inv-loop` says, and what is left to do falls at each iteration; the laws are in proofs/Runs.

pub loop-i-init : goal.loop-i-init
loop-i-init c = (search rules, search rules, run_none _ _ _ _ _ _ _ _)

pub iterate_once-requires : goal.iterate_once-requires
iterate_once-requires c = record { solver_room = same-room c.loop-i.invariant.1 _ _ c.requires.solver_room; graph = c.requires.graph; engine = engine-still _ _ _ _ _ _ _ c.requires.solver_room c.requires.engine _ (read-sized _ _ _) c.loop-i.invariant.2.frame }

pub returns-in_default : goal.returns-in_default
returns-in_default c =
    run-converged _ _ _ _ _ _ _ _ c.requires.solver_room _ c.loop-i-test.true c.loop-i.invariant.2 c.in_ok-next.ensures (ap Ok c.in_default.is)

pub returns-in_err-next : goal.returns-in_err-next
returns-in_err-next c =
    let p = err_from_is_err_and c.from_residual.result c.from_residual.ensures.1 in
    rw (p.1, p.2) (run-gave _ _ _ _ _ _ _ _ c.requires.solver_room _ c.loop-i-test.true c.loop-i.invariant.2 c.in_err-next.ensures refl)

pub loop-i-preserved : goal.loop-i-preserved
loop-i-preserved c =
    (search rules, search rules, run-again _ _ _ _ _ _ _ _ c.requires.solver_room _ c.loop-i-test.true c.loop-i.invariant.2 c.in_ok-next.ensures (ap Ok c.in-Some.is))

pub returns : goal.returns
returns c = run-done _ _ _ _ _ _ _ _ c.loop-i.invariant.0 c.loop-i-test.false c.loop-i.invariant.2
