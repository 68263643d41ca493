-- `pass_assembly::shift::check` meets its contract: each return opens the definition and rewrites it by the tests.
use Rattle.std.specs.Prelude.{Err}
use Rattle.pass_assembly.specs.Work.{traces_stage}
use mathlib.Core.Path.{◌∙◌, ap}
use Rattle.pass_assembly.proofs.shift.check.Goals as goal

pub returns-then-not_positive : goal.returns-then-not_positive
unfolding traces_stage
returns-then-not_positive c = ap Err c.gave_up.ensures ∙ simp (← c.not_positive.ensures, c.if-not_positive.true)

pub returns-then-not_positive-2 : goal.returns-then-not_positive-2
unfolding traces_stage
returns-then-not_positive-2 c = ap Err c.gave_up-then-not_positive-2.ensures ∙ simp (← c.not_positive.ensures, c.if-not_positive.false, ← c.not_positive-2.ensures, c.if-not_positive-2.true)

pub returns : goal.returns
unfolding traces_stage
returns c = simp (← c.not_positive.ensures, c.if-not_positive.false, ← c.not_positive-2.ensures, c.if-not_positive-2.false)
