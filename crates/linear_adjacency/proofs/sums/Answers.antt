-- `linear_adjacency::sums` meets its contract: the loop keeps what `Inv-loop` says, and what is left to do falls at each iteration; the laws are in proofs/Summing.
use Rattle.linear_cells.proofs.Regions.{length-put}
use mathlib.Core.Path.{◌∙◌, ap}
use native.Mathlib.Omega.{arith}
use lib.ListN.{length}
use Rattle.linear_adjacency.proofs.Summing.{total-none, sums_none, sums-fits, sums-sum, sums-again, sums-done}
use borrow.Author.Rules.{rules}
use Rattle.linear_adjacency.proofs.sums.Goals as goal

pub loop-v-init : goal.loop-v-init
loop-v-init c = search (total-none, sums_none, rules)

pub sum_at-sum-requires : goal.sum_at-sum-requires
sum_at-sum-requires c =
    (omega arith, sums-fits _ _ _ c.requires.0 c.requires.1 c.loop-v.v (omega arith) c.loop-v.invariant.2 c.loop-v.invariant.3)

pub loop-v-preserved : goal.loop-v-preserved
loop-v-preserved c =
    let q = sums-again _ _ _ c.requires.0 c.loop-v.v (omega arith) c.loop-v.invariant.2 c.loop-v.invariant.3 c.sum_at-sum.ensures.1 in
    (omega arith, ap length q ∙ length-put _ _ _, sums-sum _ _ _ c.requires.0 c.loop-v.v (omega arith) c.loop-v.invariant.2 c.loop-v.invariant.3 c.sum_at-sum.ensures.0, q)

pub returns : goal.returns
returns c = search sums-done
