-- `linear_pairs::adjacent_terms` meets its contract: the loop keeps what `Inv-loop` says, and what is left to do falls at each iteration; the laws are in proofs/Sums.
use Prim.Native.Nat.{◌+◌}
use native.Mathlib.Omega.{arith}
use Rattle.linear_pairs.proofs.Sums.{term_in, adjacent-at, pair-terms-none, pair-terms-again, pair-terms-done}
use Rattle.linear_pairs.proofs.adjacent_terms.Goals as goal

-- an even number of slots is taken, from k up to j

pub loop-j-init : goal.loop-j-init
loop-j-init c = (omega arith, omega arith, omega arith, omega arith, pair-terms-none _ _ _ _ _ _)

pub adjacent_term-sums-requires : goal.adjacent_term-sums-requires
adjacent_term-sums-requires c =
    let loop = c.loop-j in
    record {
      term_in = (term_in c.requires.stream_in loop.j (omega arith), term_in c.requires.stream_in (loop.j + 1) (omega arith));
      k_value = adjacent-at c.args.u.now c.args.copy.neighbours c.args.k c.args.m loop.j c.requires.adjacent loop.invariant.1 (omega arith) loop.invariant.3;
    }

pub overflow_add-j : goal.overflow_add-j
overflow_add-j c = omega (arith, c.requires.m_bound)

pub loop-j-smaller : goal.loop-j-smaller
loop-j-smaller c = omega arith

pub loop-j-preserved : goal.loop-j-preserved
loop-j-preserved c =
    (c.loop-j.invariant.0, omega arith, omega arith, omega arith, pair-terms-again _ _ _ _ _ c.loop-j.j _ c.loop-j.invariant.1 c.loop-j.invariant.3 c.loop-j.invariant.4 c.adjacent_term-sums.ensures)

pub returns : goal.returns
returns c = pair-terms-done _ _ _ _ _ _ _ (omega arith) (omega arith) c.loop-j.invariant.4
