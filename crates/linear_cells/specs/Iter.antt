-- `iter step n s`: n iterations of `step`, each told its number, from s. Loops are defined by it.
use Rattle.std.specs.Prelude.{ℕ, zero, suc}

module _ {ℓ} {S : Type ℓ} where
  unfoldable pub iter : (ℕ → S → S) → ℕ → S → S
  iter step zero s = s
  iter step (suc n) s = step n (iter step n s)
