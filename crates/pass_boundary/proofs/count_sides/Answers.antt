-- `pass_boundary::count_sides` meets its contract: each return follows from the calls on its way; the laws are in proofs/Whole.
use native.Mathlib.Omega.{arith}
use Rattle.pass_boundary.proofs.Whole.{counted-all}
use Rattle.pass_boundary.proofs.count_sides.Goals as goal

pub count_numbers-requires : goal.count_numbers-requires
count_numbers-requires c = record { k_bound = ((omega (arith, c.requires.0.numbers-in, c.requires.0.table-in), omega (arith, c.requires.0.counts-in, c.requires.0.flags-in)), c.requires.0.narrow); below = c.requires.1.numbers-below }

pub fill-requires : goal.fill-requires
fill-requires c =
    omega (arith, c.requires.0.flags-in, c.count_numbers.ensures.same_length)

pub returns : goal.returns
returns c =
    counted-all c.requires.0 c.requires.1 c.count_numbers.ensures c.fill.ensures
