-- `solve::finish` meets its contract: by what was found.
use native.Mathlib.Omega.{arith}
use mathlib.Core.Path.{refl, ap, ◌∙◌}
use borrow.Author.Rules.{rules}
use Rattle.std.specs.Prelude.{Some, Ok, None, Err}
use Rattle.solve.proofs.Answers.{finished_as, no-second}
use Rattle.solve.proofs.finish.Goals as goal

pub returns-in_err-twice : goal.returns-in_err-twice
returns-in_err-twice c = finished_as (Err _) c.in_err-twice.was (search rules) refl refl

pub overflow_add-n : goal.overflow_add-n
overflow_add-n c =
    let h = rw (c.in_ok-twice.was ∙ ap Ok c.in-Some.is) at c.requires.second_fits in omega (arith, h.0)

pub hand_over-requires-2 : goal.hand_over-requires-2
hand_over-requires-2 c = rw (c.in_ok-twice.was ∙ ap Ok c.in-Some.is) at c.requires.second_fits

pub returns-in_default : goal.returns-in_default
returns-in_default c = finished_as (Ok None) (c.in_ok-twice.was ∙ ap Ok (no-second c.in_default.not-Some)) refl c.hand_over.ensures refl

pub returns : goal.returns
returns c = finished_as (Ok (Some _)) (c.in_ok-twice.was ∙ ap Ok c.in-Some.is) refl c.hand_over.ensures c.hand_over-2.ensures
