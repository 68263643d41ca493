-- A word's digits: what the loop of `word` keeps from digit to digit, and that a text spells 0 past its end. Assumes nothing.
use Rattle.std.proofs.Common.{◌≡◌, ℕ, zero, suc, ◌+◌, ◌*◌, ◌^◌, ◌<◌, ◌≤◌, List, length, get_or, refl, ap, ◌∙◌, lt_of_lt_of_le, pow-suc, add-one, arith, pow_mono}
use lib.ListN.{get_or-eq_default}
use Rattle.replay.specs.Words.{digit_of, spelled}

-- after i digits
pub record Spelled (text : List ℕ) (at value i : ℕ) : Type 0 where
  pub spells : value ≡ spelled text at i
  pub short : value < 2 ^ (4 * i)
  pub within : i ≤ 16

pub none : (text : List ℕ) (at : ℕ) → Spelled text at 0 0
unfolding spelled
none text at = record { spells = refl; short = omega arith; within = omega arith }

-- one digit more fits, since there were at most 15
pub fits : (value i : ℕ) → value < 2 ^ (4 * i) → i < 16 → value < 2 ^ 60
fits value i h k = lt_of_lt_of_le h (pow_mono (most i k))
  where
    most : (i : ℕ) → i < 16 → 4 * i ≤ 60
    most i k = omega arith

wider : (i : ℕ) → 2 ^ (4 * (i + 1)) ≡ 2 ^ (4 * i) * 16
wider i = ap (λ (n : ℕ). 2 ^ n) (four i) ∙ omega (arith, pow-suc 2 (4 * i), pow-suc 2 (suc (4 * i)), pow-suc 2 (suc (suc (4 * i))), pow-suc 2 (suc (suc (suc (4 * i)))))
  where
    four : (i : ℕ) → 4 * (i + 1) ≡ suc (suc (suc (suc (4 * i))))
    four i = omega arith

pub more : (text : List ℕ) (at value i d : ℕ) → Spelled text at value i → i < 16 → d ≡ digit_of (get_or text (at + i) 0) → d < 16 → Spelled text at (value * 16 + d) (i + 1)
unfolding spelled
more text at value i d h k e l = record {
  spells = rw (add-one, e, h.spells) refl;
  short = omega (arith, wider i, h.short);
  within = omega arith;
}

pub whole : {text : List ℕ} {at value i : ℕ} → Spelled text at value i → 16 ≤ i → value ≡ spelled text at 16
whole {text} {at} h k = h.spells ∙ ap (spelled text at) (omega (arith, h.within))

pub past : (text : List ℕ) (at n : ℕ) → length text ≤ at → spelled text at n ≡ 0
unfolding spelled digit_of
past text at zero h = refl
past text at (suc n) h = let k : length text ≤ at + n = omega arith in rw (past text at n h, get_or-eq_default text 0 k) refl
