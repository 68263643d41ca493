-- `linear_hermitian::edges` meets its contract: the loop keeps what `Inv-loop` says, and what is left to do falls at each iteration; the laws are in proofs/Product.
use native.Mathlib.Omega.{arith}
use Rattle.linear_hermitian.proofs.Product.{edges_none, edges-again, edges-done}
use Prim.Native.Nat.{◌-◌}
use borrow.Author.Rules.{rules}
use Rattle.linear_hermitian.proofs.edges.Goals as goal

pub loop-e-init : goal.loop-e-init
loop-e-init c = search (edges_none, rules)

pub edge_at-requires : goal.edge_at-requires
edge_at-requires c = let pre = c.requires.graph in
    let e = c.loop-e.e in record { e_in_bounds = omega (arith, pre.a-below e (omega arith), pre.b-below e (omega arith)); edge_in = omega (arith, pre.a-below e (omega arith), pre.b-below e (omega arith)) }

pub loop-e-preserved : goal.loop-e-preserved
loop-e-preserved c = search (edges-again, rules)

pub returns : goal.returns
returns c = search edges-done
