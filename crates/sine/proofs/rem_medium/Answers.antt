-- `sine::rem_medium` meets its contract: the arms of `rem_medium`. Assumes nothing.
use borrow.Author.Tests.{le-ltb, lt-ltb}
use Rattle.sine.specs.Sine.{rem_medium}
use Rattle.sine.proofs.rem_medium.Goals as goal

pub returns-then-is_clear : goal.returns-then-is_clear
unfolding rem_medium
returns-then-is_clear c = simp (← c.whole-n.ensures, ← c.from_whole-f.ensures, ← c.is_clear.ensures, c.if-is_clear.true, c.split.ensures)

pub returns-then-exponent-j : goal.returns-then-exponent-j
unfolding rem_medium
returns-then-exponent-j c =
    simp (
      ← c.whole-n.ensures,
      ← c.from_whole-f.ensures,
      ←
          c.is_clear.ensures,
      c.if-is_clear.false,
      ← c.exponent.ensures,
      lt-ltb _ _
          c.if-exponent-j.true,
      c.rem_deep.ensures,
    )

pub returns : goal.returns
unfolding rem_medium
returns c =
    simp (
      ← c.whole-n.ensures,
      ← c.from_whole-f.ensures,
      ←
          c.is_clear.ensures,
      c.if-is_clear.false,
      ← c.exponent.ensures,
      le-ltb _ _
          c.if-exponent-j.false,
      c.split-2.ensures,
    )
