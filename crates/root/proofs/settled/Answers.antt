-- `root::settled` meets its contract: the squares of 2q - 1 and 2q + 1 by the square of r, in halves of 27 digits. Assumes nothing.
use Rattle.std.proofs.Common.{ℕ, ◌<◌, ◌*◌, ◌/◌, ◌%◌, ◌^◌, ◌≤◌, arith}
use Rattle.root.proofs.Laws.{upper-square-le, cross-le, lower-square-le, here, next, last_one}
use Rattle.root.proofs.settled.Goals as goal

-- no product here is above 2 ^ 54

small : (r : ℕ) → r < 2 ^ 53 → (r / 2 ^ 27 * (r / 2 ^ 27) ≤ 2 ^ 52) × (r / 2 ^ 27 * (r % 2 ^ 27) ≤ 2 ^ 53) × (r % 2 ^ 27 * (r % 2 ^ 27) ≤ 2 ^ 54)
small r h = (upper-square-le r h, cross-le r h, lower-square-le r)

pub overflow_mul-aa : goal.overflow_mul-aa
overflow_mul-aa c = omega (arith, small _ c.requires.1)

pub overflow_mul-aa-2 : goal.overflow_mul-aa-2
overflow_mul-aa-2 c = omega (arith, small _ c.requires.1)

pub overflow_mul-ab : goal.overflow_mul-ab
overflow_mul-ab c = omega (arith, small _ c.requires.1)

pub overflow_mul-bb : goal.overflow_mul-bb
overflow_mul-bb c = omega (arith, small _ c.requires.1)

pub overflow_add-bb : goal.overflow_add-bb
overflow_add-bb c = omega (arith, small _ c.requires.1)

pub overflow_add-ab : goal.overflow_add-ab
overflow_add-ab c = omega (arith, small _ c.requires.1)

pub overflow_add-bb-then-e-ab : goal.overflow_add-bb-then-e-ab
overflow_add-bb-then-e-ab c = omega (arith, small _ c.requires.1)

pub overflow_add-ab-then-e-ab : goal.overflow_add-ab-then-e-ab
overflow_add-ab-then-e-ab c = omega (arith, small _ c.requires.1)

pub returns-then-ab-bb : goal.returns-then-ab-bb
returns-then-ab-bb c =
    here c.args.m c.args.r c.requires.0 c.requires.1 c.if-m-aa.false c.if-e-ab.true c.if-ab-bb.true

pub overflow_add-bb-then-e-ab-2 : goal.overflow_add-bb-then-e-ab-2
overflow_add-bb-then-e-ab-2 c = omega (arith, small _ c.requires.1)

pub overflow_add-ab-then-e-ab-2 : goal.overflow_add-ab-then-e-ab-2
overflow_add-ab-then-e-ab-2 c = omega (arith, small _ c.requires.1)

pub returns-then-ab-bb-2 : goal.returns-then-ab-bb-2
returns-then-ab-bb-2 c =
    last_one c.args.m c.args.r c.requires.0 c.requires.1 c.if-m-aa.false c.if-ab-bb.false c.if-ab-bb-2.true

pub overflow_add-bb-2 : goal.overflow_add-bb-2
overflow_add-bb-2 c = omega (arith, small _ c.requires.1)

pub overflow_add-bb-3 : goal.overflow_add-bb-3
overflow_add-bb-3 c = omega (arith, small _ c.requires.1)

pub overflow_add-ab-2 : goal.overflow_add-ab-2
overflow_add-ab-2 c = omega (arith, small _ c.requires.1)

pub returns-then-e-ab-2 : goal.returns-then-e-ab-2
returns-then-e-ab-2 c =
    next c.args.m c.args.r c.requires.0 c.requires.1 c.if-m-aa.false c.if-e-ab.false c.if-e-ab-2.true
