-- `linear_layers::put_ends` meets its contract: the law of a written part is in linear_cells.
use mathlib.Core.Path.{refl}
use Rattle.linear_cells.proofs.Parts.{part-put}
use Rattle.linear_layers.proofs.put_ends.Goals as goal

pub returns : goal.returns
returns c =
    let e = c.copy_from_slice.ensures.after in
    rw e (part-put c.args.numbers.now c.args.ends.now c.args.at _ refl c.requires)
