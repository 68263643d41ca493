-- `calls::answer` meets its contract: each return opens the definition and rewrites it by the tests and the calls on its way.
use borrow.Author.Tests.{eq-eqb, ne_eqb}
use Rattle.calls.specs.Solve.{answer_part}
use Rattle.calls.proofs.answer.Goals as goal

pub returns-then-flagged-eq0 : goal.returns-then-flagged-eq0
unfolding answer_part
returns-then-flagged-eq0 c = simp (eq-eqb _ _ c.if-flagged-eq0.true) c.first_angles.ensures

pub returns : goal.returns
unfolding answer_part
returns c = simp (ne_eqb _ _ c.if-flagged-eq0.false) c.first_angles-2.ensures
