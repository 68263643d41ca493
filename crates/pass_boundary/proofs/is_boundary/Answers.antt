-- `pass_boundary::is_boundary` meets its contract: a side's count stands at its number; the law is in proofs/Steps.
use mathlib.Core.Path.{sym, ap, ◌∙◌}
use Rattle.edges.specs.Table.{place}
use Rattle.pass_boundary.proofs.Steps.{count-once}
use Rattle.pass_boundary.proofs.is_boundary.Goals as goal

pub returns : goal.returns
returns c =
    count-once c.args.l c.args.u.now _ _ _ c.requires.held.0 c.requires.held.1.0 (sym c.find_side.ensures.0 ∙ ap place c.unwrap-number.ensures)
