-- `refine_call::marks::put_flags` meets its contract: after i turns the first i are done; the laws are in proofs/Marking.
use native.Mathlib.Omega.{arith}
use Rattle.refine_call.proofs.Marking.{flags-none, flags-again}
use Rattle.refine_call.proofs.marks.put_flags.Goals as goal

pub loop-i-init : goal.loop-i-init
loop-i-init c = flags-none _ _ _

pub loop-i-preserved : goal.loop-i-preserved
loop-i-preserved c = flags-again c.loop-i.invariant (omega arith) c.flag_of-flag.ensures c.from.ensures c.from-flagged.ensures
