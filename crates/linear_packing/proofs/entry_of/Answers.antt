-- `linear_packing::entry_of` meets its contract: each return rewrites the definition by the calls on its way.
use borrow.Author.Tests.{lt-ltb, le-ltb}
use native.Mathlib.Omega.{arith}
use Prim.Native.Nat.{min, ◌*◌}
use Rattle.linear_packing.specs.Slots.{slot_entry}
use Rattle.linear_packing.proofs.entry_of.Goals as goal

pub returns-then-j-m : goal.returns-then-j-m
unfolding slot_entry
returns-then-j-m c = rw (lt-ltb c.args.j (2 * min c.args.p c.args.q) (omega (arith, c.least-m.ensures, c.if-j-m.true)))

pub overflow_sub-result : goal.overflow_sub-result
overflow_sub-result c = omega (arith, c.least-m.ensures, c.if-j-m.false)

pub returns : goal.returns
unfolding slot_entry
returns c = rw (le-ltb c.args.j (2 * min c.args.p c.args.q) (omega (arith, c.least-m.ensures, c.if-j-m.false)), c.least-m.ensures)
