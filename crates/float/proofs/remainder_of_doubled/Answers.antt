-- `float::remainder_of_doubled` meets its contract: a remainder may be taken before a doubling as well as after it, and the shifts lose no digit. Assumes nothing.
use Rattle.std.proofs.Common.{◌≡◌, ℕ, ◌+◌, ◌-◌, ◌*◌, ◌%◌, ◌^◌, ◌<◌, ◌≤◌, sym, ap, ◌∙◌, mod-lt, mul_assoc, pow-add, arith}
use Rattle.std.proofs.lemmas.Nat.{mul-mod_first}
use lib.Pow.{shl_exact}
use Rattle.float.proofs.remainder_of_doubled.Goals as goal

-- one turn of the loop: eleven doublings
turn : (r j q : ℕ) → 11 ≤ j → r * 2048 % q * 2 ^ (j - 11) % q ≡ r * 2 ^ j % q
turn r j q h =
    let e : 11 + (j - 11) ≡ j = omega arith in
    mul-mod_first (r * 2048) (2 ^ (j - 11)) q ∙ ap (λ (z : ℕ). z % q) (mul_assoc r 2048 (2 ^ (j - 11)) ∙ ap (λ (z : ℕ). r * z) (sym (pow-add 2 11 (j - 11)) ∙ ap (λ (z : ℕ). 2 ^ z) e))

-- what is left of it is below the divisor
stays-small : (n q : ℕ) → 0 < q → q < 2 ^ 53 → n % q < 2 ^ 53
stays-small n q a b = omega (arith, mod-lt n a)

-- a number below 2 ^ 53 is shifted by ten places at most
shifted : (r j : ℕ) → r < 2 ^ 53 → j < 11 → r * 2 ^ j % 2 ^ 64 ≡ r * 2 ^ j
shifted r j a h = let d : 53 + j ≤ 64 = omega arith in shl_exact 53 j 64 a d

pub loop-left-preserved : goal.loop-left-preserved
loop-left-preserved c = record {
  small = stays-small (c.loop-left.rest * 2048) c.args.q c.requires.divisor c.requires.divisor_small;
  same = turn c.loop-left.rest c.loop-left.left c.args.q c.loop-left-test.true ∙ c.loop-left.invariant.same;
}

pub returns : goal.returns
returns c =
    ap (λ (z : ℕ). z % c.args.q) (shifted c.loop-left.rest c.loop-left.left c.loop-left.invariant.small c.loop-left-test.false)
    ∙ c.loop-left.invariant.same
