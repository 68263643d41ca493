-- `arctangent::atan2` meets its contract: the arms of `atan2_of`. Assumes nothing.
use mathlib.Core.Path.{◌≡◌}
use Prim.Native.Nat.{ℕ}
use lib.Ieee.{Float}
use Rattle.arctangent.proofs.Arms.{arms, lefts, of_one, of_two}
use Rattle.arctangent.specs.Arc.{atan2_of, at_infinity, in_quadrant, switch}
use Rattle.arctangent.proofs.atan2.Goals as goal
use Rattle.arctangent.proofs.atan2.Goals.{then-is_nan-via-then-is_nan, then-is_nan-via-else-is_nan+then-is_nan-2}

switched : {r : Float} {m : ℕ} (n : ℕ) (a b c d : Float) → r ≡ switch m a b c d → m ≡ n → r ≡ switch n a b c d
switched n a b c d = of_one (λ k. switch k a b c d)

pub returns-then-is_nan : goal.returns-then-is_nan
unfolding atan2_of
returns-then-is_nan c =
    elim c.then-is_nan.branch [
      | then-is_nan-via-then-is_nan w ↦ search arms
      | then-is_nan-via-else-is_nan+then-is_nan-2 w ↦ search arms
    ]

pub returns-then-is_one : goal.returns-then-is_one
unfolding atan2_of
returns-then-is_one c = search arms

pub returns-then-is_zero : goal.returns-then-is_zero
unfolding atan2_of
returns-then-is_zero c = search (switched, arms)

pub returns-then-is_zero-2 : goal.returns-then-is_zero-2
unfolding atan2_of
returns-then-is_zero-2 c = search arms depth 8

pub returns-then-high_word-eq2146435072 : goal.returns-then-high_word-eq2146435072
unfolding atan2_of
returns-then-high_word-eq2146435072 c = search (of_two at_infinity, arms) depth 10 fits 3000

pub returns-then-iy-eq2146435072 : goal.returns-then-iy-eq2146435072
unfolding atan2_of
returns-then-iy-eq2146435072 c = search arms depth 10 fits 3000

pub returns : goal.returns
unfolding atan2_of
returns c = search (of_two in_quadrant, lefts) depth 10 fits 3000
