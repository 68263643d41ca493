-- `linear_packing::mark_or_end` meets its contract: each return rewrites the definition by the call on its way; the laws are in proofs/Making.
use native.Mathlib.Omega.{arith}
use Rattle.linear_packing.proofs.Making.{odd-end, even-mark}
use Rattle.linear_packing.proofs.mark_or_end.Goals as goal

pub overflow_add-v : goal.overflow_add-v
overflow_add-v c = omega (arith, c.requires.1, c.requires.0.started.room.few)

pub start_of-requires : goal.start_of-requires
start_of-requires c = (c.requires.0.started, omega (arith, c.requires.1))

pub returns-then-v-eq1 : goal.returns-then-v-eq1
returns-then-v-eq1 c = odd-end _ _ _ _ c.if-v-eq1.true c.start_of.ensures

pub mark_of-requires : goal.mark_of-requires
mark_of-requires c = (c.requires.0, omega (arith, c.requires.1))

pub returns : goal.returns
returns c = even-mark _ _ _ _ c.if-v-eq1.false c.mark_of.ensures
