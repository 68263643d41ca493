-- A run of stores from the start of a slice is its new front. Assumes nothing.
use Prim.Native.Nat.{ℕ, ◌+◌, ◌≤◌}
use native.Mathlib.Omega.{arith}
use mathlib.Core.Path.{◌≡◌, ap, ◌∙◌}
use mathlib.Core.List.{List, ◌++◌}
use lib.ListN.{length, drop}
use lib.Seq.{sets, sets-eq}
use Rattle.refinement.specs.Floor.{over}

pub front {ℓ} : {A : Type ℓ} (l new : List A) → length new ≤ length l → sets l 0 new ≡ over new l
front l new h = let e : 0 + length new ≡ length new = omega arith in sets-eq new l 0 (omega arith) ∙ ap (λ (k : ℕ). new ++ drop k l) e
