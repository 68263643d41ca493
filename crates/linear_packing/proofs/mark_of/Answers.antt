-- `linear_packing::mark_of` meets its contract: the return rewrites the definition by the calls on its way; the laws are in proofs/Making.
use native.Mathlib.Omega.{arith}
use Rattle.linear_packing.proofs.Making.{starts-in-order, mark-told}
use Rattle.linear_packing.proofs.Slots.{kind-few}
use Rattle.linear_packing.proofs.mark_of.Goals as goal

pub overflow_mul-v : goal.overflow_mul-v
overflow_mul-v c = omega (arith, c.requires.1, c.requires.0.started.room.few)

pub start_of-k-requires : goal.start_of-k-requires
start_of-k-requires c = (c.requires.0.started, omega (arith, c.requires.1))

pub overflow_add-v : goal.overflow_add-v
overflow_add-v c = omega (arith, c.requires.1, c.requires.0.started.room.few)

pub start_of-l-requires : goal.start_of-l-requires
start_of-l-requires c = (c.requires.0.started, omega (arith, c.requires.1))

pub overflow_add-v-2 : goal.overflow_add-v-2
overflow_add-v-2 c = omega (arith, c.requires.1, c.requires.0.started.room.few)

pub start_of-e-requires : goal.start_of-e-requires
start_of-e-requires c = (c.requires.0.started, omega (arith, c.requires.1))

pub overflow_sub-l : goal.overflow_sub-l
overflow_sub-l c =
    let order = starts-in-order _ _ _ _ c.start_of-k.ensures c.start_of-l.ensures c.start_of-e.ensures c.requires.0.started c.requires.1 in
    omega (arith, order.0)

pub overflow_sub-e : goal.overflow_sub-e
overflow_sub-e c =
    let order = starts-in-order _ _ _ _ c.start_of-k.ensures c.start_of-l.ensures c.start_of-e.ensures c.requires.0.started c.requires.1 in
    omega (arith, order.1)

pub follows-adjacent-requires : goal.follows-adjacent-requires
follows-adjacent-requires c =
    let order = starts-in-order _ _ _ _ c.start_of-k.ensures c.start_of-l.ensures c.start_of-e.ensures c.requires.0.started c.requires.1 in
    let room = c.requires.0.started.room in (
      omega (arith, order.0, order.1, order.2, c.least-m.ensures),
      omega (arith, room.behind, room.neighbours-in, room.halves_in, room.from_in, room.to_in, room.marks-in, room.small),
      omega (arith, room.narrow),
    )

pub overflow_mul-result : goal.overflow_mul-result
overflow_mul-result c =
    let order = starts-in-order _ _ _ _ c.start_of-k.ensures c.start_of-l.ensures c.start_of-e.ensures c.requires.0.started c.requires.1 in
    omega (arith, order.0, order.1, order.2, c.least-m.ensures, c.requires.0.started.room.narrow)

pub overflow_sub-l-2 : goal.overflow_sub-l-2
overflow_sub-l-2 c =
    let order = starts-in-order _ _ _ _ c.start_of-k.ensures c.start_of-l.ensures c.start_of-e.ensures c.requires.0.started c.requires.1 in
    omega (arith, order.0)

pub overflow_sub-e-2 : goal.overflow_sub-e-2
overflow_sub-e-2 c =
    let order = starts-in-order _ _ _ _ c.start_of-k.ensures c.start_of-l.ensures c.start_of-e.ensures c.requires.0.started c.requires.1 in
    omega (arith, order.1)

pub overflow_add-result : goal.overflow_add-result
overflow_add-result c =
    let order = starts-in-order _ _ _ _ c.start_of-k.ensures c.start_of-l.ensures c.start_of-e.ensures c.requires.0.started c.requires.1 in
    omega (arith, order.0, order.1, order.2, c.least-m.ensures, c.requires.0.started.room.narrow, kind-few _ _ _ c.kind_of.ensures, c.number.ensures)

pub returns : goal.returns
returns c =
    mark-told c.args.u.now c.args.copy c.args.source c.args.g c.start_of-k.ensures c.start_of-l.ensures c.start_of-e.ensures
    c.requires.0 c.least-m.ensures c.follows-adjacent.ensures c.kind_of.ensures c.number.ensures
