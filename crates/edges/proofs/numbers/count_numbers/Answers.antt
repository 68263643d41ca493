-- `edges::numbers::count_numbers` meets its contract: each return follows from the tests and the calls on its way; the laws are in proofs/Numbering.
use lib.ListN.{length, replicate}
use lib.Seq.{length-sets}
use Rattle.edges.proofs.Numbering.{counted_none, counted-done, below-still}
use native.Mathlib.Omega.{arith}
use mathlib.Core.Path.{ap, ◌∙◌}
use Rattle.edges.proofs.numbers.count_numbers.Goals as goal

pub count_all-requires : goal.count_all-requires
count_all-requires c = record {
  k_bound = ((c.requires.k_bound.0.0, omega (arith, ap length c.fill.ensures ∙ length-sets c.args.w.now c.args.a (replicate c.args.m 0))), c.requires.k_bound.1);
  below = below-still c.args.e c.args.k c.args.a c.args.m c.args.w.now c.requires.k_bound.0.0
      c.fill.ensures c.requires.below;
  counted = counted_none c.args.e c.args.a c.args.m
      c.args.w.now c.requires.k_bound.0.1 c.fill.ensures;
}

pub returns : goal.returns
returns c =
    counted-done c.requires.k_bound.0.0 c.fill.ensures c.count_all.ensures
