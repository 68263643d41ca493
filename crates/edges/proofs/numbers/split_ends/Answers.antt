-- `edges::numbers::split_ends` meets its contract: each end is every fourth number of the table; the laws are in proofs/Split.
use Rattle.edges.proofs.Split.{split_done}
use Rattle.edges.proofs.numbers.split_ends.Goals as goal

pub returns : goal.returns
returns c =
    split_done _ _ _ _ _ _ c.requires.0 c.copy_fourths.ensures c.copy_fourths-2.ensures
