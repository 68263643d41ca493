-- `godf::solve_call::godf_answer` meets its contract: each return opens the definition and rewrites it by the tests and the calls on its way.
use mathlib.Core.Path.{ap}
use lib.ListN.{length}
use borrow.Author.Tests.{eq-eqb, ne_eqb}
use Rattle.godf.proofs.Answer.{answer-front}
use Rattle.godf.proofs.solve_call.godf_answer.Goals as goal

pub returns-then-flagged-eq0 : goal.returns-then-flagged-eq0
returns-then-flagged-eq0 c = record { slice = simp (eq-eqb _ _ c.if-flagged-eq0.true); counted = ap length c.answer-part.ensures; part = rw c.answer-part.ensures (answer-front _ _ _ _) }

pub returns : goal.returns
returns c = record { slice = simp (ne_eqb _ _ c.if-flagged-eq0.false); counted = ap length c.answer-part.ensures; part = rw c.answer-part.ensures (answer-front _ _ _ _) }
