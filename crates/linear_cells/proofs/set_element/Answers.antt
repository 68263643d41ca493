-- `linear_cells::set_element` meets its contract: the law of a part is in proofs/Parts.
use Rattle.linear_cells.proofs.Parts.{part-write}
use Rattle.linear_cells.proofs.set_element.Goals as goal

pub returns : goal.returns
returns g c = part-write c.args.slice.now c.args.base c.args.i c.args.value c.requires
