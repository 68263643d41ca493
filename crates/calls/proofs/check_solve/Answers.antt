-- `calls::check_solve` meets its contract: stage by stage, by the laws of proofs/Checks.
use borrow.Author.Rules.{rules}
use mathlib.Core.Bool.{not}
use mathlib.Core.Path.{sym, ap, ◌∙◌}
use Rattle.std.specs.Prelude.{Err}
use Rattle.calls.proofs.Checks.{row_one, row-two, past_two, passed, stopped, last-short, last-long}
use Rattle.floor.proofs.Rows.{whole-slices}
use Rattle.calls.proofs.check_solve.Goals as goal

pub returns-then-not-well_formed : goal.returns-then-not-well_formed
returns-then-not-well_formed c = row_one _ _ _ _ c.well_formed-2.ensures (ap not c.if-not-well_formed.true) (ap Err c.refused.ensures)

pub returns-then-iterations-eq0 : goal.returns-then-iterations-eq0
returns-then-iterations-eq0 c = row-two _ _ _ _ c.well_formed-2.ensures (ap not c.if-not-well_formed.false) c.if-iterations-eq0.true (ap Err c.refused-then-iterations-eq0.ensures)

pub returns-in_err-check_floor : goal.returns-in_err-check_floor
returns-in_err-check_floor c = past_two _ _ _ _ c.well_formed-2.ensures (ap not c.if-not-well_formed.false) c.if-iterations-eq0.false (stopped _ _ _ _ _ c.check_floor.ensures c.in_err-check_floor.was (search rules))

pub returns-in_err-check_options : goal.returns-in_err-check_options
returns-in_err-check_options c =
    past_two _ _ _ _ c.well_formed-2.ensures (ap not c.if-not-well_formed.false) c.if-iterations-eq0.false
    (passed _ _ _ _ c.check_floor.ensures c.in_ok-check_floor.was
    (stopped _ _ _ _ _ c.check_options.ensures c.in_err-check_options.was (search rules)))

pub returns-in_err-check_guidance : goal.returns-in_err-check_guidance
returns-in_err-check_guidance c =
    past_two _ _ _ _ c.well_formed-2.ensures (ap not c.if-not-well_formed.false) c.if-iterations-eq0.false
    (passed _ _ _ _ c.check_floor.ensures c.in_ok-check_floor.was
    (passed _ _ _ _ c.check_options.ensures c.in_ok-check_options.was
    (stopped _ _ _ _ _ c.check_guidance.ensures c.in_err-check_guidance.was (search rules))))

pub returns-in_err-check_large : goal.returns-in_err-check_large
returns-in_err-check_large c =
    past_two _ _ _ _ c.well_formed-2.ensures (ap not c.if-not-well_formed.false) c.if-iterations-eq0.false
    (passed _ _ _ _ c.check_floor.ensures c.in_ok-check_floor.was
    (passed _ _ _ _ c.check_options.ensures c.in_ok-check_options.was
    (passed _ _ _ _ c.check_guidance.ensures c.in_ok-check_guidance.was
    (stopped _ _ _ _ _ c.check_large.ensures c.in_err-check_large.was (search rules)))))

pub is_short-requires : goal.is_short-requires
is_short-requires c =
    (whole-slices _ _ (sym c.well_formed-2.ensures ∙ c.if-not-well_formed.false)).few

pub returns-then-is_short : goal.returns-then-is_short
returns-then-is_short c =
    past_two _ _ _ _ c.well_formed-2.ensures (ap not c.if-not-well_formed.false) c.if-iterations-eq0.false
    (passed _ _ _ _ c.check_floor.ensures c.in_ok-check_floor.was
    (passed _ _ _ _ c.check_options.ensures c.in_ok-check_options.was
    (passed _ _ _ _ c.check_guidance.ensures c.in_ok-check_guidance.was
    (passed _ _ _ _ c.check_large.ensures
    c.in_ok-check_large.was
    (last-short _ _ _ c.is_short.ensures c.if-is_short.true (ap Err c.refused-then-is_short.ensures))))))

pub returns : goal.returns
returns c =
    past_two _ _ _ _ c.well_formed-2.ensures (ap not c.if-not-well_formed.false) c.if-iterations-eq0.false
    (passed _ _ _ _ c.check_floor.ensures c.in_ok-check_floor.was
    (passed _ _ _ _ c.check_options.ensures c.in_ok-check_options.was
    (passed _ _ _ _ c.check_guidance.ensures c.in_ok-check_guidance.was
    (passed _ _ _ _ c.check_large.ensures c.in_ok-check_large.was
    (last-long _ _ c.is_short.ensures c.if-is_short.false)))))
