-- `edges::numbers::count_number` meets its contract: each return follows from the tests and the calls on its way.
use Rattle.edges.proofs.numbers.count_number.Goals as goal

pub overflow_add-w : goal.overflow_add-w
overflow_add-w c = record { fits = rw c.index.ensures c.requires.j_bound_2.1 }

pub returns : goal.returns
returns c = rw c.index.ensures
