-- `linear_packing::interleave_at` meets its contract: each return rewrites the definition by the calls on its way; the laws are in proofs/Interleaving.
use native.Mathlib.Omega.{arith}
use Rattle.linear_packing.proofs.Interleaving.{started, first-size, second-size, pair-now, interleaved-at}
use Rattle.linear_packing.proofs.interleave_at.Goals as goal

pub overflow_mul-v : goal.overflow_mul-v
overflow_mul-v c = omega (arith, c.requires.1, c.requires.0.room.few)

pub start_of-k-requires : goal.start_of-k-requires
start_of-k-requires c = (started _ _ _ c.requires.0, omega (arith, c.requires.1))

pub overflow_add-v : goal.overflow_add-v
overflow_add-v c =
    omega (arith, c.requires.1, c.requires.0.room.few)

pub start_of-l-requires : goal.start_of-l-requires
start_of-l-requires c =
    (started _ _ _ c.requires.0, omega (arith, c.requires.1))

pub overflow_add-v-2 : goal.overflow_add-v-2
overflow_add-v-2 c =
    omega (arith, c.requires.1, c.requires.0.room.few)

pub start_of-e-requires : goal.start_of-e-requires
start_of-e-requires c =
    (started _ _ _ c.requires.0, omega (arith, c.requires.1))

pub overflow_sub-l : goal.overflow_sub-l
overflow_sub-l c =
    omega (
      arith,
      first-size c.args.u.now c.args.copy c.args.source _ c.start_of-k.ensures
          c.start_of-l.ensures c.start_of-e.ensures,
    )

pub overflow_sub-e : goal.overflow_sub-e
overflow_sub-e c =
    omega (
      arith,
      second-size c.args.u.now c.args.copy c.args.source _ c.start_of-k.ensures
          c.start_of-l.ensures c.start_of-e.ensures,
    )

pub interleave_pair-requires : goal.interleave_pair-requires
interleave_pair-requires c = record { laid = c.requires.0; rows_in = pair-now _ _ _ _ c.start_of-k.ensures c.start_of-l.ensures c.start_of-e.ensures (started _ _ _ c.requires.0) c.requires.1 }

pub returns : goal.returns
returns c =
    interleaved-at c.args.u.now c.args.source _ c.start_of-k.ensures c.interleave_pair.ensures
