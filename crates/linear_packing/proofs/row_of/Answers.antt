-- `linear_packing::row_of` meets its contract: each return rewrites the definition by the calls on its way.
use borrow.Author.Tests.{lt-ltb, le-ltb}
use native.Mathlib.Omega.{arith}
use Prim.Native.Nat.{min, ◌*◌}
use Rattle.linear_packing.specs.Slots.{slot_row}
use Rattle.linear_packing.proofs.row_of.Goals as goal

pub returns-then-j-m : goal.returns-then-j-m
unfolding slot_row
returns-then-j-m c = rw (lt-ltb c.args.j (2 * min c.args.p c.args.q) (omega (arith, c.least-m.ensures, c.if-j-m.true)))

pub returns-then-q-p : goal.returns-then-q-p
unfolding slot_row
returns-then-q-p c =
    rw (le-ltb c.args.j (2 * min c.args.p c.args.q) (omega (arith, c.least-m.ensures, c.if-j-m.false)), lt-ltb c.args.q c.args.p c.if-q-p.true)

pub returns : goal.returns
unfolding slot_row
returns c =
    rw (le-ltb c.args.j (2 * min c.args.p c.args.q) (omega (arith, c.least-m.ensures, c.if-j-m.false)), le-ltb c.args.q c.args.p (omega (arith, c.if-q-p.false)))
