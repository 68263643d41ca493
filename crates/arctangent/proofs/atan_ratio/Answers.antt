-- `arctangent::atan_ratio` meets its contract: the arms of `atan_ratio`, by the sums that stand for k against 60 and -60. Assumes nothing.
use Rattle.arctangent.proofs.Shift.{is-above, not-above, is_below, not-below, and-false}
use Rattle.arctangent.specs.Arc.{atan_ratio}
use Rattle.arctangent.proofs.atan_ratio.Goals as goal

pub returns-then-ix-iy : goal.returns-then-ix-iy
unfolding atan_ratio
returns-then-ix-iy c = simp (← c.high_word-ix.ensures, ← c.high_word-iy.ensures, is-above c.high_word-iy.result c.high_word-ix.result c.if-ix-iy.true)

pub returns-then-is_sign_positive : goal.returns-then-is_sign_positive
unfolding atan_ratio
returns-then-is_sign_positive c =
    let y = c.high_word-iy in
    let x = c.high_word-ix in
    simp (
      ← x.ensures,
      ← y.ensures,
      not-above y.result x.result c.if-ix-iy.false,
      is_below y.result x.result c.if-iy-ix.true,
      ← c.is_sign_positive.ensures,
      c.if-is_sign_positive.true,
      ← c.abs.ensures,
      c.atan.ensures,
    )

pub returns-then-iy-ix : goal.returns-then-iy-ix
unfolding atan_ratio
returns-then-iy-ix c =
    let y = c.high_word-iy in
    let x = c.high_word-ix in
    simp (
      ← x.ensures,
      ← y.ensures,
      not-above y.result x.result c.if-ix-iy.false,
      is_below y.result x.result c.if-iy-ix.true,
      ← c.is_sign_positive.ensures,
      c.if-is_sign_positive.false,
    )

pub returns : goal.returns
unfolding atan_ratio
returns c =
    let y = c.high_word-iy in
    let x = c.high_word-ix in
    simp (
      ← x.ensures,
      ← y.ensures,
      not-above y.result x.result c.if-ix-iy.false,
      not-below y.result x.result c.if-iy-ix.false,
      ← c.abs-2.ensures,
      c.atan-2.ensures,
      and-false,
    )
