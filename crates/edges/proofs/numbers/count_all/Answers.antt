-- `edges::numbers::count_all` meets its contract: after j iterations the first j numbers are counted; the laws are in proofs/Numbering.
use Rattle.edges.proofs.Numbering.{counted-more, count_room}
use Rattle.edges.proofs.numbers.count_all.Goals as goal

pub loop-j-init : goal.loop-j-init
loop-j-init c = c.requires.counted

pub count_number-requires : goal.count_number-requires
count_number-requires c = let all = count_room c.requires.k_bound c.requires.below c.loop-j-test.true c.loop-j.invariant in record { j_bound = all.0; j_bound_2 = all.1 }

pub loop-j-preserved : goal.loop-j-preserved
loop-j-preserved c = counted-more c.requires.k_bound c.requires.below c.loop-j-test.true c.loop-j.invariant c.count_number.ensures
