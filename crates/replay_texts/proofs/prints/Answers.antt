-- `replay_texts::prints` is safe: what is printed fits the array that it is written to. Assumes nothing.
use native.Mathlib.Omega.{arith}
use Prim.Native.Nat.{ℕ}
use lib.ListN.{replicate, length-replicate}
use Rattle.text_answer.proofs.Whole.{count_fits}
use Rattle.replay_texts.proofs.prints.Goals as goal

pub slice_bounds-out-end : goal.slice_bounds-out-end
slice_bounds-out-end c = omega (arith, c.answer-n.ensures.1, count_fits c.args.text.now (replicate {A = ℕ} 29500 170), length-replicate {A = ℕ} 29500 170)
