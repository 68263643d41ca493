-- `pass_inverse_iteration::start::inverse_span` meets its contract: each return opens the definition and rewrites it by the test.
use Rattle.pass_inverse_iteration.specs.Start.{inverse_span}
use Rattle.pass_inverse_iteration.proofs.start.inverse_span.Goals as goal

pub returns-then-span : goal.returns-then-span
unfolding inverse_span
returns-then-span c = simp (c.if-span.true, c.recip.ensures)

pub returns : goal.returns
unfolding inverse_span
returns c = simp c.if-span.false
