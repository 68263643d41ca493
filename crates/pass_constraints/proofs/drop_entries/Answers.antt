-- `pass_constraints::drop_entries` meets its contract: the loop keeps what `Inv-loop` says, and what is left to do falls at each iteration; the laws are in proofs/Loops.
use borrow.Author.Rules.{rules}
use native.Mathlib.Omega.{arith}
use Prim.Native.Nat.{◌-◌}
use Rattle.pass_constraints.proofs.Loops.{drop-none, drop-again, drop-done}
use Rattle.pass_constraints.proofs.drop_entries.Goals as goal

pub loop-e-init : goal.loop-e-init
loop-e-init c = search (drop-none, rules)

pub loop-e-preserved : goal.loop-e-preserved
loop-e-preserved c =
    (c.loop-e.invariant.0, (omega arith, (search rules, drop-again _ c.args.h _ _ _ c.requires.edges_in_bounds _ (omega arith) c.loop-e.invariant.1.1.1 c.drop_at.ensures)))

pub returns : goal.returns
returns c = search drop-done
