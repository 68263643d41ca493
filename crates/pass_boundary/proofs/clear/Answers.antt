-- `pass_boundary::clear` meets its contract: each return follows from the calls on its way; the laws are in proofs/Whole.
use Rattle.pass_boundary.proofs.Whole.{clear-all}
use Rattle.pass_boundary.proofs.clear.Goals as goal

pub returns : goal.returns
returns c =
    clear-all c.args.p _ c.fill.ensures c.fill-2.ensures c.fill-3.ensures
