-- `refine_call::refine` meets its contract: a check that is sound leaves room, and a refusal is passed up; the laws are in proofs/Facts.
use borrow.Author.Rules.{rules}
use mathlib.Core.Path.{sym, ◌∙◌}
use Rattle.refine_call.proofs.Facts.{roomy, called-refused, called-done}
use Rattle.refine_call.proofs.refine.Goals as goal

pub refine_sound-requires : goal.refine_sound-requires
refine_sound-requires c = roomy _ _ _ _ _ _ _ _ _ (sym c.check_call.ensures ∙ c.in_ok-check_call.was)

pub returns-in_err-check_call : goal.returns-in_err-check_call
returns-in_err-check_call c = called-refused _ _ _ c.check_call.ensures c.in_err-check_call.was (search rules)

pub returns : goal.returns
returns c = called-done _ _ c.check_call.ensures c.in_ok-check_call.was c.refine_sound.ensures
