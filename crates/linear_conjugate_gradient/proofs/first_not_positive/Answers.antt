-- `linear_conjugate_gradient::first_not_positive` meets its contract: what the iterator looks through is a region of the slice.
use borrow.Author.Rules.{rules}
use lib.Ieee.{nan}
use Rattle.std.proofs.lemmas.Iterator.{YieldsList-from_slice}
use Rattle.std.proofs.lemmas.Iterator.Search.{position_from_yields_List}
use Rattle.float.specs.Double.{not_positive}
use Rattle.linear_cells.proofs.Changes.{part-region}
use Rattle.linear_conjugate_gradient.proofs.first_not_positive.Goals as goal

pub returns : goal.returns
returns c =
    rw (← part-region nan c.args.work.now c.args.d c.args.n c.requires)
    (position_from_yields_List not_positive _ _ c.position.result c.position.ensures.ran (YieldsList-from_slice _ (search rules)) (λ x b q k. search rules))
