-- `root::root_small` meets its contract: the doublings that are to come lead to the definition's digits and exponent. Assumes nothing.
use Rattle.std.proofs.Common.{◌+◌, ◌∙◌, arith}
use lib.Ieee.{size}
use Rattle.root.proofs.Small.{filled, filled-ge, doubling-start, doubling-step, doubled-root, doubled_fits}
use Rattle.root.proofs.root_small.Goals as goal

pub loop-c-init : goal.loop-c-init
loop-c-init c = doubling-start c.args.b c.requires.1

pub overflow_mul-c : goal.overflow_mul-c
overflow_mul-c c = omega arith

pub overflow_sub-x : goal.overflow_sub-x
overflow_sub-x c = omega arith

pub loop-c-smaller : goal.loop-c-smaller
loop-c-smaller c = omega arith

pub loop-c-preserved : goal.loop-c-preserved
loop-c-preserved c =
    let b = c.args.b in
    doubling-step (filled b) (size b + 1023) c.loop-c.c c.loop-c.x (filled-ge b c.requires.0 c.requires.1) c.loop-c.invariant c.loop-c-test.true

pub root_at-requires : goal.root_at-requires
root_at-requires c = doubled_fits c.args.b c.loop-c.c c.loop-c.x c.requires.1 c.loop-c.invariant c.loop-c-test.false

pub returns : goal.returns
returns c =
    let now = c.loop-c in
    c.root_at.ensures ∙ doubled-root c.args.b now.c now.x c.requires.1 now.invariant c.loop-c-test.false
