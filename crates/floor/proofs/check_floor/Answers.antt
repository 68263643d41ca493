-- `floor::check_floor` meets its contract: each return opens the definition and rewrites it by the tests and the calls on its way.
use borrow.Author.Tests.{eq-eqb, ne_eqb}
use mathlib.Core.Path.{refl, ap}
use Rattle.std.specs.Prelude.{Err}
use Rattle.floor.specs.Checks.{check_floor}
use Rattle.floor.proofs.Order.{counts-passed, row-holds, row-passed}
use Rattle.floor.proofs.check_floor.Goals as goal

pub returns-then-n-eq0 : goal.returns-then-n-eq0
unfolding check_floor
returns-then-n-eq0 c = simp (eq-eqb _ _ c.if-n-eq0.true) (ap Err c.refused.ensures)

pub returns-then-t-eq0 : goal.returns-then-t-eq0
unfolding check_floor
returns-then-t-eq0 c = simp (ne_eqb _ _ c.if-n-eq0.false, eq-eqb _ _ c.if-t-eq0.true) (ap Err c.refused-then-t-eq0.ensures)

pub returns-then-sizes-n : goal.returns-then-sizes-n
unfolding check_floor
returns-then-sizes-n c = simp (ne_eqb _ _ c.if-n-eq0.false, ne_eqb _ _ c.if-t-eq0.false, ne_eqb _ _ c.if-sizes-n.true) (ap Err c.refused-then-sizes-n.ensures)

pub returns-in-Some : goal.returns-in-Some
returns-in-Some c =
    counts-passed _ _ _ c.if-n-eq0.false c.if-t-eq0.false c.if-sizes-n.false
    (row-holds _ _ _ _ c.first_bad_point.ensures _ c.in-Some.is (ap Err c.refused-in-Some.ensures))

pub returns-in-Some-first_bad_size : goal.returns-in-Some-first_bad_size
returns-in-Some-first_bad_size c =
    counts-passed _ _ _ c.if-n-eq0.false c.if-t-eq0.false c.if-sizes-n.false
    (row-passed _ _ _ _ c.first_bad_point.ensures c.in_default.not-Some
    (row-holds _ _ _ _ c.first_bad_size.ensures _ c.in-Some-first_bad_size.is (ap Err c.refused-in-Some-first_bad_size.ensures)))

pub returns-in-Some-first_bad_corner : goal.returns-in-Some-first_bad_corner
returns-in-Some-first_bad_corner c =
    counts-passed _ _ _ c.if-n-eq0.false c.if-t-eq0.false c.if-sizes-n.false
    (row-passed _ _ _ _ c.first_bad_point.ensures c.in_default.not-Some
    (row-passed _ _ _ _ c.first_bad_size.ensures c.in_default-first_bad_size.not-Some
    (row-holds _ _ _ _ c.first_bad_corner.ensures _ c.in-Some-first_bad_corner.is (ap Err c.refused-in-Some-first_bad_corner.ensures))))

pub returns : goal.returns
returns c =
    counts-passed _ _ _ c.if-n-eq0.false c.if-t-eq0.false c.if-sizes-n.false
    (row-passed _ _ _ _ c.first_bad_point.ensures c.in_default.not-Some
    (row-passed _ _ _ _ c.first_bad_size.ensures c.in_default-first_bad_size.not-Some
    (row-passed _ _ _ _ c.first_bad_corner.ensures c.in_default-first_bad_corner.not-Some refl)))
