-- `refine_call::check_call` meets its contract: each return opens the definition and rewrites it by the tests and the calls on its way; the laws are in proofs/Facts.
use borrow.Author.Rules.{rules}
use mathlib.Core.Path.{sym, ◌∙◌}
use Rattle.refine_call.proofs.Facts.{rest-sound, rest-refused}
use Rattle.refine_call.specs.Call.{check_call}
use Rattle.floor.proofs.Rows.{whole-slices}
use Rattle.refine_call.proofs.check_call.Goals as goal

pub returns-then-not-well_formed : goal.returns-then-not-well_formed
unfolding check_call
returns-then-not-well_formed c = simp (← c.well_formed-2.ensures, c.if-not-well_formed.true, c.refused.ensures)

pub returns-in_err-check_floor : goal.returns-in_err-check_floor
unfolding check_call
returns-in_err-check_floor c =
    simp (← c.well_formed-2.ensures, c.if-not-well_formed.false, ← c.check_floor.ensures) (rest-refused _ _ _ _ c.in_err-check_floor.was (search rules))

pub check_rest-requires : goal.check_rest-requires
check_rest-requires c = (whole-slices _ _ (sym c.well_formed-2.ensures ∙ c.if-not-well_formed.false)).few

pub returns : goal.returns
unfolding check_call
returns c =
    simp (← c.well_formed-2.ensures, c.if-not-well_formed.false, ← c.check_floor.ensures) (rest-sound _ _ _ c.in_ok-check_floor.was c.check_rest.ensures)
