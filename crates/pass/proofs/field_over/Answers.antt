-- `pass::field_over` meets its contract: the laws of proofs/Rest, of what its calls ensure.
use mathlib.Core.Path.{◌≡◌, sym, ◌∙◌}
use borrow.Author.Rules.{rules}
use Rattle.std.specs.Prelude.{Err}
use Rattle.pass.proofs.Matrices.{indexed}
use Rattle.pass.proofs.Rest.{shift_fits, rest-refused, ordered-then, rest-found}
use Rattle.pass.proofs.field_over.Goals as goal

pub build-t-requires : goal.build-t-requires
build-t-requires c = record { ordered = c.requires.ordered; indexed = (indexed c.requires.stands, c.requires.stands.edged.few) }

pub returns-in_err-check : goal.returns-in_err-check
returns-in_err-check c =
    let r : c.from_residual.result ≡ Err c.in_err-check.field-0.0 = search rules in
    let e : c.from_residual.result ≡ c.check.result = r ∙ sym c.in_err-check.was in
    rw e (rest-refused _ _ _ _ c.args.o c.args.a c.requires.ordered c.requires.stands _ _ c.build-t.ensures _ _ c.check.ensures c.in_err-check.was)

pub shift_energy-requires : goal.shift_energy-requires
shift_energy-requires c =
    shift_fits _ _ _ _ c.args.o c.args.a c.requires.ordered c.requires.stands _ _ c.build-t.ensures

pub find_field-requires : goal.find_field-requires
find_field-requires c = record {
  ordered = ordered-then _ _ _ _ c.args.o c.args.a c.requires.ordered c.requires.stands _ _ c.build-t.ensures _
      c.check.ensures c.in_ok-check.was _
      c.shift_energy.ensures;
  edged = c.requires.stands.edged;
}

pub returns : goal.returns
returns c =
    rest-found _ _ _ _ c.args.o c.args.a c.requires.ordered c.requires.stands _ _ c.build-t.ensures _ c.check.ensures c.in_ok-check.was _ c.shift_energy.ensures c.find_field.ensures
