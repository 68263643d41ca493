-- `pass_inverse_iteration::iterate_once` meets its contract: each return is one case of the chain; the laws are in proofs/Iterations.
use mathlib.Core.Path.{◌≡◌, sym, ap, ◌∙◌}
use Rattle.std.specs.Prelude.{Err}
use Rattle.pass_inverse_iteration.specs.Work.{ended_as}
use Rattle.pass_solution.proofs.Chains.{not_done}
use Rattle.pass_inverse_iteration.proofs.Judgements.{same-pencil}
use Rattle.pass_inverse_iteration.proofs.Iterations.{iteration-refused, iteration-judged}
use borrow.Author.Rules.{rules}
use Rattle.pass_inverse_iteration.proofs.iterate_once.Goals as goal

pub next-requires : goal.next-requires
next-requires c = record { pencil_room = c.requires.pencil_room; graphs = c.requires.graphs; engine = c.requires.engine }

pub returns-in_err-next : goal.returns-in_err-next
returns-in_err-next c =
    let r : c.from_residual.result ≡ Err c.in_err-next.field-0.0 = search rules in
    iteration-refused _ _ _ _ _ c.requires.pencil_room c.next.ensures (not_done c.in_err-next.was) (r ∙ ap ended_as (sym c.in_err-next.was))

pub judge-requires : goal.judge-requires
judge-requires c = record { pencil_room = same-pencil (search rules) c.requires.pencil_room; graphs = c.requires.graphs }

pub returns : goal.returns
returns c =
    iteration-judged _ _ _ _ _ c.requires.pencil_room c.next.ensures c.in_ok-next.was c.judge.ensures
