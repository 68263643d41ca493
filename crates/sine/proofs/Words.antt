-- The table npio2_hw by a product: for n from 0 to 31 its word is the upper word of n * FRAC_PI_2 rounded, by one computed test. Assumes nothing.
use mathlib.Core.Path.{◌≡◌, refl, sym, subst}
use mathlib.Core.Bool.{Bool, true, false, ◌&&◌}
use Prim.Native.Nat.{ℕ, zero, suc, ◌<◌}
use native.Mathlib.Omega.{arith}
use borrow.Author.Tests.{eqb-true, eqb-false}
use lib.Dec.{T, eqb}
use lib.ListN.{get_or}
use lib.IntN.{pos}
use lib.Ieee.{binary64, of_int, mul, of_bits, to_bits}
use Rattle.float.specs.Double.{high, FRAC-PI-2, ◌⊗◌}
use Rattle.sine.specs.Sine.{npio2-hw}

abbrev holds : ℕ → Bool
holds n = eqb (high (of_int binary64 (pos n) ⊗ FRAC-PI-2)) (get_or npio2-hw n 0)

abbrev below : ℕ → Bool
below zero = true
below (suc n) = holds n && below n

tested : below 32 ≡ true
unfolding of_int mul of_bits to_bits
tested = refl

both : (a b : Bool) → a && b ≡ true → (a ≡ true) × (b ≡ true)
both true true h = (refl, refl)
both true false h = absurd (subst T (sym h) tt)
both false b h = absurd (subst T (sym h) tt)

pick : (k n : ℕ) → holds k ≡ true → (n < k → holds n ≡ true) → n < suc k → (t : Bool) → eqb n k ≡ t → holds n ≡ true
pick k n h f l true e = subst (λ (m : ℕ). holds m ≡ true) (sym (eqb-true n k e)) h
pick k n h f l false e = f (omega (arith, eqb-false n k e))

each : (k n : ℕ) → below k ≡ true → n < k → holds n ≡ true
each zero n h l = absurd (omega arith)
each (suc k) n h l = pick k n (both (holds k) (below k) h).0 (each k n (both (holds k) (below k) h).1) l (eqb n k) refl

pub word-is : (n : ℕ) → n < 32 → high (of_int binary64 (pos n) ⊗ FRAC-PI-2) ≡ get_or npio2-hw n 0
word-is n l = eqb-true _ _ (each 32 n tested l)
