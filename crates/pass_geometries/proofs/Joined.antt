-- Lists of one length each, one behind the other: how long they are, and what stands where. Assumes nothing.
use Prim.Native.Nat.{ℕ, zero, suc, ◌+◌, ◌*◌, ◌≤◌, ◌<◌}
use native.Mathlib.Nat.{mul-zero, mul-suc, mul-le-mul_left}
use native.Mathlib.Omega.{arith}
use native.Mathlib.Decide.{ℕ_discrete}
use mathlib.Core.Path.{◌≡◌, sym, ap, ◌∙◌}
use mathlib.Core.List.{List, ◌++◌}
use lib.ListN.{length, length-append, get_or, get_or-append}
use lib.Seq.{get_or-append-add}
use Rattle.pass_geometries.specs.Work.{joined}

module _ {A : Type 0} (f : ℕ → List A) (k : ℕ) where
  pub joined_length : (r : ℕ) → ((j : ℕ) → j < r → length (f j) ≡ k) → length (joined f r) ≡ k * r
  unfolding joined
  joined_length zero each = sym (mul-zero k)
  joined_length (suc r) each =
      length-append (joined f r) (f r) ∙ omega (arith, joined_length r (λ j h. each j (omega arith)), each r (omega arith), mul-suc k r)

  pub joined_at : (r : ℕ) → ((j : ℕ) → j < r → length (f j) ≡ k) → (i d : ℕ) (a : A) → i < r → d < k → get_or (joined f r) (k * i + d) a ≡ get_or (f i) d a
  unfolding joined
  joined_at zero each i d a h g = absurd (omega arith)
  joined_at (suc r) each i d a h g = go (ℕ_discrete i r) (λ l. joined_at r (λ j b. each j (omega arith)) i d a l g)
    where
      size : length (joined f r) ≡ k * r
      size = joined_length r (λ j b. each j (omega arith))

      go : Dec (i ≡ r) → (i < r → get_or (joined f r) (k * i + d) a ≡ get_or (f i) d a) → get_or (joined f r ++ f r) (k * i + d) a ≡ get_or (f i) d a
      go (yes e) old =
          let n : k * i + d ≡ length (joined f r) + d = ap (λ (j : ℕ). k * j + d) e ∙ ap (λ (j : ℕ). j + d) (sym size) in
          ap (λ (j : ℕ). get_or (joined f r ++ f r) j a) n ∙ get_or-append-add (joined f r) (f r) d a ∙ ap (λ (j : ℕ). get_or (f j) d a) (sym e)
      go (no e) old =
          let l : k * suc i ≤ k * r = mul-le-mul_left k (omega arith) in
          get_or-append (joined f r) (f r) a (k * i + d) (omega (arith, size, mul-suc k i)) ∙ old (omega arith)
