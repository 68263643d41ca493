-- `pass_options::check_options` meets its contract: each return opens the definition and rewrites it by the tests and the calls on its way.
use mathlib.Core.Path.{ap}
use Rattle.std.specs.Prelude.{Err}
use Rattle.pass_options.proofs.check_options.Goals as goal

pub returns-then-bad_holomorphic : goal.returns-then-bad_holomorphic
returns-then-bad_holomorphic c = simp (← c.bad_holomorphic.ensures, c.if-bad_holomorphic.true) (ap Err c.refused.ensures)

pub returns-then-not_positive : goal.returns-then-not_positive
returns-then-not_positive c = simp (← c.bad_holomorphic.ensures, c.if-bad_holomorphic.false, ← c.not_positive.ensures, c.if-not_positive.true) (ap Err c.refused-then-not_positive.ensures)

pub returns-then-not-is_finite : goal.returns-then-not-is_finite
returns-then-not-is_finite c =
    simp (
      ← c.bad_holomorphic.ensures,
      c.if-bad_holomorphic.false,
      ←
          c.not_positive.ensures,
      c.if-not_positive.false,
      ← c.is_finite.ensures,
      c.if-not-is_finite.true,
    )
    (ap Err c.refused-then-not-is_finite.ensures)

pub returns-then-not_finite_or_below_zero : goal.returns-then-not_finite_or_below_zero
returns-then-not_finite_or_below_zero c =
    simp (
      ← c.bad_holomorphic.ensures,
      c.if-bad_holomorphic.false,
      ← c.not_positive.ensures,
      c.if-not_positive.false,
      ← c.is_finite.ensures,
      c.if-not-is_finite.false,
      ← c.not_finite_or_below_zero.ensures,
      c.if-not_finite_or_below_zero.true,
    )
    (ap Err c.refused-then-not_finite_or_below_zero.ensures)

pub returns-then-bad_boundary : goal.returns-then-bad_boundary
returns-then-bad_boundary c =
    simp (
      ← c.bad_holomorphic.ensures,
      c.if-bad_holomorphic.false,
      ← c.not_positive.ensures,
      c.if-not_positive.false,
      ← c.is_finite.ensures,
      c.if-not-is_finite.false,
      ←
          c.not_finite_or_below_zero.ensures,
      c.if-not_finite_or_below_zero.false,
      ←
          c.bad_boundary.ensures,
      c.if-bad_boundary.true,
    )
    (ap Err c.refused-then-bad_boundary.ensures)

pub returns : goal.returns
returns c =
    simp (
      ← c.bad_holomorphic.ensures,
      c.if-bad_holomorphic.false,
      ← c.not_positive.ensures,
      c.if-not_positive.false,
      ← c.is_finite.ensures,
      c.if-not-is_finite.false,
      ← c.not_finite_or_below_zero.ensures,
      c.if-not_finite_or_below_zero.false,
      ← c.bad_boundary.ensures,
      c.if-bad_boundary.false,
    )
