-- `pass_setup::set_up_from_gradients` meets its contract: each return follows from the tests and the calls on its way; the laws are in proofs/Average.
use mathlib.Core.Path.{◌≡◌, sym, ap, ◌∙◌}
use borrow.Author.Rules.{rules}
use Rattle.std.specs.Prelude.{Err}
use Rattle.pass_gradients.proofs.Means.{means-row}
use Rattle.pass_setup.proofs.Average.{stays, unjoined, row-20, still-averaged}
use Rattle.pass_setup.proofs.Slices.{none-refused, set-up-then, ordered-now}
use Rattle.pass_setup.proofs.set_up_from_gradients.Goals as goal

pub set_up_from_edges-requires : goal.set_up_from_edges-requires
set_up_from_edges-requires c = record {
  ordered = ordered-now
      (stays c.args.l c.args.work.now c.args.words.now _ c.requires.ordered c.requires.wound c.gather.ensures
      c.divide.ensures)
      c.requires.ordered;
  averaged = still-averaged c.args.l c.args.work.now c.args.words.now c.requires.ordered c.requires.wound
      c.gather.ensures c.divide.ensures c.in_ok-divide.was;
}

pub returns : goal.returns
returns c =
    set-up-then (none-refused c.requires.wound) (stays c.args.l c.args.work.now c.args.words.now _ c.requires.ordered c.requires.wound c.gather.ensures c.divide.ensures)
    (λ h. unjoined
    c.args.l
    c.args.work.now
    c.args.words.now
    _
    c.requires.ordered
    c.requires.wound
    c.gather.ensures
    c.divide.ensures)
    c.set_up_from_edges.ensures

pub returns-in_err-divide : goal.returns-in_err-divide
returns-in_err-divide c =
    let r : c.from_residual.result ≡ Err c.in_err-divide.field-0.0 = search rules in
    row-20 c.args.l c.args.work.now c.args.words.now c.requires.ordered c.requires.wound c.gather.ensures c.divide.ensures _ c.in_err-divide.was
    (r ∙ ap Err (means-row _ _ _ _ _ (sym c.divide.ensures.answer ∙ c.in_err-divide.was)))
