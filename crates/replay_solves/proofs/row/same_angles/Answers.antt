-- `replay_solves::row::same_angles` meets its contract: what is called answers by its definition, and each test decides its arm.
use native.Mathlib.Omega.{arith}
use mathlib.Core.Path.{refl}
use Rattle.replay.specs.Rows.{marks, same_as}
use Rattle.replay.proofs.Fill.{fill-over}
use Rattle.replay.proofs.Told.{held, unheld, compared}
use Rattle.replay_solves.specs.Solve.{same_angles}
use Rattle.replay_solves.proofs.row.same_angles.Goals as goal

pub returns-then-same_doubles : goal.returns-then-same_doubles
unfolding same_angles
returns-then-same_doubles c =
    rw (← c.count-n.ensures.0)
    (held c.if-same_doubles.true
    (compared same_as _ (fill-over _ (marks 24) refl (omega (arith, c.count-n.ensures.1)) c.doubles.ensures)
    c.same_doubles.ensures)
    (compared same_as _
    (fill-over _ (marks 64) c.count-m.ensures.0 (omega (arith, c.count-m.ensures.1))
    c.doubles-2.ensures)
    c.same_doubles-then-same_doubles.ensures))

pub returns : goal.returns
unfolding same_angles
returns c =
    unheld _ c.if-same_doubles.false (compared same_as _ (fill-over _ (marks 24) c.count-n.ensures.0 (omega (arith, c.count-n.ensures.1)) c.doubles.ensures) c.same_doubles.ensures)
