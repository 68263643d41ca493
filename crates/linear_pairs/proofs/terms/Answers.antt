-- `linear_pairs::terms` meets its contract: the loop keeps what `Inv-loop` says, and what is left to do falls at each iteration; the laws are in proofs/Sums.
use Prim.Native.Nat.{◌+◌}
use native.Mathlib.Omega.{arith}
use Rattle.linear_pairs.proofs.Sums.{term_in, terms-none, terms-again, terms-done}
use Rattle.linear_pairs.proofs.terms.Goals as goal

pub loop-c-init : goal.loop-c-init
loop-c-init c = (omega arith, terms-none _ _ _ _ _ _)

pub term-sum-requires : goal.term-sum-requires
term-sum-requires c =
    term_in c.requires.stream_in (c.args.k + c.loop-c.c) (omega arith)

pub loop-c-preserved : goal.loop-c-preserved
loop-c-preserved c = (omega arith, terms-again _ _ _ _ _ _ _ c.loop-c.invariant.1 c.term-sum.ensures)

pub returns : goal.returns
returns c = terms-done _ _ _ _ _ _ (omega arith) (omega arith) c.loop-c.invariant.1
