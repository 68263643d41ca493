-- `pass_options::check_guidance` meets its contract: each return opens the definition and rewrites it by the tests and the calls on its way.
use mathlib.Core.Path.{ap}
use borrow.Author.Tests.{eq-eqb, ne_eqb, le-ltb, lt-ltb}
use Rattle.std.specs.Prelude.{Err}
use Rattle.floor.specs.Checks.{lowest}
use Rattle.floor.proofs.Lowest.{found-some, found-none}
use Rattle.pass_options.proofs.check_guidance.Goals as goal

pub returns-then-not-guided : goal.returns-then-not-guided
unfolding lowest
returns-then-not-guided c = simp c.if-not-guided.true

pub returns-then-not_finite_or_below_zero : goal.returns-then-not_finite_or_below_zero
returns-then-not_finite_or_below_zero c = simp (c.if-not-guided.false, ← c.not_finite_or_below_zero.ensures, c.if-not_finite_or_below_zero.true) (ap Err c.refused.ensures)

pub returns-then-angles-n : goal.returns-then-angles-n
returns-then-angles-n c = simp (c.if-not-guided.false, ← c.not_finite_or_below_zero.ensures, c.if-not_finite_or_below_zero.false, ne_eqb _ _ c.if-angles-n.true) (ap Err c.refused-then-angles-n.ensures)

pub returns-in-Some : goal.returns-in-Some
returns-in-Some c =
    let at = found-some _ _ _ c.first_not_finite.ensures c.in-Some.is in
    simp (
      c.if-not-guided.false,
      ← c.not_finite_or_below_zero.ensures,
      c.if-not_finite_or_below_zero.false,
      eq-eqb _ _ c.if-angles-n.false,
      ← at.0,
      lt-ltb _ _ at.1,
    )
    (ap Err c.refused-in-Some.ensures)

pub returns : goal.returns
returns c =
    simp (
      c.if-not-guided.false,
      ← c.not_finite_or_below_zero.ensures,
      c.if-not_finite_or_below_zero.false,
      eq-eqb _ _ c.if-angles-n.false,
      le-ltb _ _ (found-none _ _ c.first_not_finite.ensures c.in_default.not-Some),
    )
