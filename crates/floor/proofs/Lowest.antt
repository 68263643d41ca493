-- The lowest index: a loop that has found none so far, one that finds it, and one that finds none; the indices below it; two tests that are the same.
-- Assumes nothing.
use Prim.Native.Nat.{ℕ, zero, suc, ◌+◌, ◌-◌, ◌≤◌, ◌<◌}
use native.Mathlib.Omega.{arith}
use native.Mathlib.Numerals.{add-one}
use native.Mathlib.Decide.{ℕ_discrete}
use mathlib.Core.Path.{◌≡◌, refl, sym, ap, ◌∙◌}
use mathlib.Core.Bool.{Bool, true, false, cond}
use borrow.Author.Tests.{ltb-true, ltb-false, lt-ltb, le-ltb}
use lib.Dec.{ltb}
use Rattle.std.specs.Prelude.{Option, Some, None, MatchOption}
use Rattle.floor.specs.Checks.{lowest, found_below}

pub lowest-none : (p : ℕ → Bool) → 0 ≡ lowest p 0
unfolding lowest
lowest-none p = refl

pub lowest-again : (p : ℕ → Bool) (i : ℕ) → i ≡ lowest p i → p i ≡ false → i + 1 ≡ lowest p (i + 1)
unfolding lowest
lowest-again p i e h = rw (add-one, ← e, le-ltb i i (omega arith), h)

here : (p : ℕ → Bool) (i : ℕ) → i ≡ lowest p i → p i ≡ true → lowest p (suc i) ≡ i
unfolding lowest
here p i e h = rw (← e, le-ltb i i (omega arith), h)

past : (p : ℕ → Bool) (i n : ℕ) → lowest p n ≡ i → i < n → lowest p (suc n) ≡ i
unfolding lowest
past p i n q l = rw (q, lt-ltb i n l)

stays : (p : ℕ → Bool) (i k : ℕ) → i ≡ lowest p i → p i ≡ true → lowest p (suc (k + i)) ≡ i
stays p i zero e h = let z : suc (0 + i) ≡ suc i = omega arith in ap (lowest p) z ∙ here p i e h
stays p i (suc k) e h = let z : suc (suc k + i) ≡ suc (suc (k + i)) = omega arith in ap (lowest p) z ∙ past p i (suc (k + i)) (stays p i k e h) (omega arith)

pub lowest-found : (p : ℕ → Bool) (i n : ℕ) → i ≡ lowest p i → p i ≡ true → i < n → i ≡ lowest p n
lowest-found p i n e h l = let z : n ≡ suc ((n - suc i) + i) = omega arith in sym (ap (lowest p) z ∙ stays p i (n - suc i) e h)

pub lowest-most : (p : ℕ → Bool) (n : ℕ) → lowest p n ≤ n
unfolding lowest
lowest-most p zero = omega arith
lowest-most p (suc i) = go (ltb (lowest p i) i) (p i) (lowest-most p i)
  where
    go : (b c : Bool) → lowest p i ≤ i → cond b (lowest p i) (cond c i (suc i)) ≤ suc i
    go true c h = omega arith
    go false true h = omega arith
    go false false h = omega arith

pub lowest-same : (p q : ℕ → Bool) (n : ℕ) → ((i : ℕ) → i < n → p i ≡ q i) → lowest p n ≡ lowest q n
unfolding lowest
lowest-same p q zero h = refl
lowest-same p q (suc n) h = rw (lowest-same p q n (λ i l. h i (omega arith)), h n (omega arith))

-- below the lowest index it does not hold
pub lowest-before : (p : ℕ → Bool) (n i : ℕ) → i < lowest p n → p i ≡ false
unfolding lowest
lowest-before p zero i h = absurd (omega arith)
lowest-before p (suc n) i h = go (ltb (lowest p n) n) (p n) refl refl (lowest-before p n i) h
  where
    go : (b c : Bool) → ltb (lowest p n) n ≡ b → p n ≡ c → (i < lowest p n → p i ≡ false) → i < cond b (lowest p n) (cond c n (suc n)) → p i ≡ false
    go true c e f old h = old h
    go false true e f old h = old (omega (arith, ltb-false (lowest p n) n e))
    go false false e f old h = last (ℕ_discrete i n)
      where
        last : Dec (i ≡ n) → p i ≡ false
        last (yes z) = ap p z ∙ f
        last (no z) = old (omega (arith, ltb-false (lowest p n) n e))

-- where it holds at none, there is no lowest
pub lowest-clear : (p : ℕ → Bool) (n : ℕ) → ((i : ℕ) → i < n → p i ≡ false) → lowest p n ≡ n
unfolding lowest
lowest-clear p zero h = refl
lowest-clear p (suc n) h = let e = lowest-clear p n (λ i l. h i (omega arith)) in rw (e, le-ltb n n (omega arith), h n (omega arith))

-- at the lowest index it holds
pub lowest-holds : (p : ℕ → Bool) (n : ℕ) → lowest p n < n → p (lowest p n) ≡ true
unfolding lowest
lowest-holds p zero h = absurd (omega arith)
lowest-holds p (suc n) h = go (ltb (lowest p n) n) (p n) refl refl (lowest-holds p n) h
  where
    go : (b c : Bool) → ltb (lowest p n) n ≡ b → p n ≡ c → (lowest p n < n → p (lowest p n) ≡ true) → cond b (lowest p n) (cond c n (suc n)) < suc n → p (cond b (lowest p n) (cond c n (suc n))) ≡ true
    go true c e f old h = old (ltb-true (lowest p n) n e)
    go false true e f old h = f
    go false false e f old h = absurd (omega arith)

-- an index at which it holds and below which it does not is the lowest
pub lowest-is : (p : ℕ → Bool) (n i : ℕ) → i < n → p i ≡ true → ((j : ℕ) → j < i → p j ≡ false) → lowest p n ≡ i
lowest-is p n i l h g = sym (lowest-found p i n (sym (lowest-clear p i g)) h l)

-- what a search below n finds: an index at which it holds and below which it does not, or none where it holds at none
pub found-by : (p : ℕ → Bool) (n : ℕ) (r : Option ℕ)
    → MatchOption r ((k : ℕ) → 0 ≤ k → k < n → p k ≡ false) (λ i. (0 ≤ i) × (i < n) × (p i ≡ true) × ((k : ℕ) → 0 ≤ k → k < i → p k ≡ false)) → r ≡ found_below p n
unfolding found_below
found-by p n None h = rw (lowest-clear p n (λ k l. h k (omega arith) l), le-ltb n n (omega arith))
found-by p n (Some i) h = let e = lowest-is p n i h.1 h.2 (λ k l. h.3 k (omega arith) l) in rw (e, lt-ltb i n h.1)

-- what it is that was found, or was not
pub found-some : (p : ℕ → Bool) (n i : ℕ) {r : Option ℕ} → r ≡ found_below p n → r ≡ Some i → (i ≡ lowest p n) × (i < n)
unfolding found_below
found-some p n i f s = go (ltb (lowest p n) n) refl (sym s ∙ f)
  where
    go : (b : Bool) → ltb (lowest p n) n ≡ b → Some i ≡ cond b (Some (lowest p n)) None → (i ≡ lowest p n) × (i < n)
    go true q h = let e : i ≡ lowest p n = cc in (e, rw e (ltb-true (lowest p n) n q))
    go false q h = absurd (cc)

pub found-none : (p : ℕ → Bool) (n : ℕ) {r : Option ℕ} → r ≡ found_below p n → ((i : ℕ) → r ≡ Some i → ⊥) → n ≤ lowest p n
unfolding found_below
found-none p n {r = r} f none = go (ltb (lowest p n) n) refl f
  where
    go : (b : Bool) → ltb (lowest p n) n ≡ b → r ≡ cond b (Some (lowest p n)) None → n ≤ lowest p n
    go true q h = absurd (none (lowest p n) h)
    go false q h = ltb-false (lowest p n) n q
