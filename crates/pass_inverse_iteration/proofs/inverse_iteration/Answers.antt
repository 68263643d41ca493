-- `pass_inverse_iteration::inverse_iteration` meets its contract: each return is one case of the chain; the laws are in proofs/Iterations.
use mathlib.Core.Path.{◌≡◌, sym, ◌∙◌}
use Rattle.std.specs.Prelude.{Err}
use Rattle.pass_solution.proofs.Chains.{not_done, framed-engine}
use Rattle.pass_inverse_iteration.proofs.Judgements.{same-pencil}
use Rattle.pass_inverse_iteration.proofs.Iterations.{inverse-refused, inverse-iterated}
use borrow.Author.Rules.{rules}
use Rattle.pass_inverse_iteration.proofs.inverse_iteration.Goals as goal

pub returns-in_err-begin : goal.returns-in_err-begin
returns-in_err-begin c =
    let r : c.from_residual.result ≡ Err c.in_err-begin.field-0.0 = search rules in
    let e : c.from_residual.result ≡ c.begin.result = r ∙ sym c.in_err-begin.was in
    rw e (inverse-refused _ _ _ _ c.args.o c.requires.pencil_room.0 c.begin.ensures (not_done c.in_err-begin.was))

pub iterate-requires : goal.iterate-requires
iterate-requires c = record { pencil_room = same-pencil (search rules) c.requires.pencil_room.0; graphs = c.requires.graphs; engine = framed-engine _ _ _ _ _ _ _ c.requires.pencil_room.0.energy-room c.requires.engine _ (sym c.requires.pencil_room.0.one_size) c.begin.ensures.frame }

pub returns : goal.returns
returns c =
    inverse-iterated _ _ _ _ c.args.o c.requires.pencil_room.0 c.begin.ensures c.in_ok-begin.was
    c.average.ensures c.inner_most.ensures c.iterate.ensures
