-- What a chain of `if`s returns is the `cond` of the same tests: a law for each kind of test. Assumes nothing.
-- `lefts` has those of a test that failed, `arms` all of them, for `search`.
use mathlib.Core.Path.{◌≡◌, sym, ap, ◌∙◌}
use mathlib.Core.Bool.{Bool, true, false, cond, ◌||◌}
use Prim.Native.Nat.{ℕ, ◌≤◌, ◌<◌}
use lib.Dec.{eqb, leb, ltb}
use borrow.Author.Tests.{eq-eqb, le-leb, le-ltb, lt-leb, lt-ltb, ne_eqb}

-- r is what is returned
module _ {A : Type 0} {r : A} (u v : A) where
  held : (t : Bool) → t ≡ true → r ≡ u → r ≡ cond t u v
  held t h q = rw h q

  failed : (t : Bool) → t ≡ false → r ≡ v → r ≡ cond t u v
  failed t h q = rw h q

  -- a flag b of the code is the test t
  module _ {b : Bool} (t : Bool) (e : b ≡ t) where
    pub flag-held : b ≡ true → r ≡ u → r ≡ cond t u v
    flag-held h = held t (sym e ∙ h)

    pub flag-failed : b ≡ false → r ≡ v → r ≡ cond t u v
    flag-failed h = failed t (sym e ∙ h)

    pub first-held : (s : Bool) → b ≡ true → r ≡ u → r ≡ cond (t || s) u v
    first-held s h q = rw (sym e ∙ h) q

    pub first-failed : (s : Bool) → b ≡ false → r ≡ cond s u v → r ≡ cond (t || s) u v
    first-failed s h q = rw (sym e ∙ h) q

  -- a number n of the code is the m that is tested
  module _ {n : ℕ} (m k : ℕ) (e : n ≡ m) where
    pub equal : n ≡ k → r ≡ u → r ≡ cond (eqb m k) u v
    equal h = held (eqb m k) (eq-eqb m k (sym e ∙ h))

    pub unequal : (n ≡ k → ⊥) → r ≡ v → r ≡ cond (eqb m k) u v
    unequal h = failed (eqb m k) (ne_eqb m k (λ f. h (e ∙ f)))

    pub below : n < k → r ≡ u → r ≡ cond (ltb m k) u v
    below h = held (ltb m k) (lt-ltb m k (rw e at h))

    pub not-below : k ≤ n → r ≡ v → r ≡ cond (ltb m k) u v
    not-below h = failed (ltb m k) (le-ltb m k (rw e at h))

    pub from : k ≤ n → r ≡ u → r ≡ cond (leb k m) u v
    from h = held (leb k m) (le-leb k m (rw e at h))

    pub not-from : n < k → r ≡ v → r ≡ cond (leb k m) u v
    not-from h = failed (leb k m) (lt-leb k m (rw e at h))

-- a call's arguments are those of the definition
pub of_one : {A B : Type 0} (f : A → B) {r : B} {a c : A} → r ≡ f a → a ≡ c → r ≡ f c
of_one f q p = q ∙ ap f p

pub of_two : {A B C : Type 0} (f : A → B → C) {r : C} {a c : A} {b d : B} → r ≡ f a b → a ≡ c → b ≡ d → r ≡ f c d
of_two f q p s = rw (p, s) at q

pub ruleset lefts = (flag-failed, first-failed, unequal, not-below, not-from)

pub ruleset arms = (lefts, flag-held, first-held, equal, below, from)
