-- `linear_packing::follows` meets its contract: the loop keeps what `Inv-loop` says, and what is left to do falls at each iteration; the laws are in proofs/Making.
use Prim.Native.Nat.{◌*◌, ◌+◌}
use native.Mathlib.Omega.{arith}
use Rattle.linear_packing.proofs.Making.{follow-none, follow-again, follow-stops, follow-done}
use Rattle.linear_packing.proofs.follows.Goals as goal

pub loop-c-init : goal.loop-c-init
loop-c-init c = (omega arith, follow-none _ _)

pub overflow_mul-c : goal.overflow_mul-c
overflow_mul-c c = omega (arith, c.requires.0, c.requires.2)

pub overflow_add-k : goal.overflow_add-k
overflow_add-k c = omega (arith, c.requires.0, c.requires.2)

pub overflow_add-k-in-loop-c : goal.overflow_add-k-in-loop-c
overflow_add-k-in-loop-c c = omega (arith, c.requires.0, c.requires.2)

pub load_number-requires : goal.load_number-requires
load_number-requires c = omega (arith, c.requires.0, c.requires.1)

pub overflow_mul-c-in-loop-c : goal.overflow_mul-c-in-loop-c
overflow_mul-c-in-loop-c c =
    omega (arith, c.requires.0, c.requires.2)

pub overflow_add-k-in-loop-c-2 : goal.overflow_add-k-in-loop-c-2
overflow_add-k-in-loop-c-2 c =
    omega (arith, c.requires.0, c.requires.2)

pub load_number-requires-in-loop-c : goal.load_number-requires-in-loop-c
load_number-requires-in-loop-c c =
    omega (arith, c.requires.0, c.requires.1)

pub overflow_add-load_number : goal.overflow_add-load_number
overflow_add-load_number c =
    omega (arith, c.load_number-in-loop-c.ensures, c.shared_slice_known-1.given (c.args.copy.neighbours + (c.args.k + 2 * c.loop-c.c)))

pub returns-then-load_number : goal.returns-then-load_number
returns-then-load_number c =
    follow-stops _ _ _ _ c.loop-c.c _ (omega arith) c.requires.0 c.loop-c.invariant.1 c.load_number.ensures
    c.load_number-in-loop-c.ensures c.if-load_number.true

pub loop-c-preserved : goal.loop-c-preserved
loop-c-preserved c = (
  omega arith,
  follow-again _ _ _ _ c.loop-c.c (omega (arith, c.requires.0)) c.loop-c.invariant.1 c.load_number.ensures
      c.load_number-in-loop-c.ensures c.if-load_number.false,
)

pub returns : goal.returns
returns c = follow-done _ _ _ _ (omega arith) (omega arith) c.loop-c.invariant.1
