-- `sine::rem_pio2` meets its contract: the arms of `rem_pio2` above pi/4. Assumes nothing.
use borrow.Author.Tests.{eq-eqb, le-ltb, lt-leb, lt-ltb, ne_eqb}
use Prim.Native.Nat.{◌<◌, ◌/◌, ◌%◌}
use native.Mathlib.Omega.{arith}
use Rattle.sine.specs.Sine.{rem_pio2}
use Rattle.sine.proofs.Quarters.{quarters-neg}
use Rattle.sine.proofs.rem_pio2.Goals as goal

pub returns-then-ix-lt1073928572 : goal.returns-then-ix-lt1073928572
unfolding rem_pio2
returns-then-ix-lt1073928572 c = let h : 0x3fe9_21fb < c.args.b % 0x8000_0000_0000_0000 / 0x1_0000_0000 = omega arith in simp (← c.requires.fact_1.1, lt-leb _ _ h, lt-ltb _ _ c.if-ix-lt1073928572.true, c.rem_near.ensures)

pub returns-then-positive : goal.returns-then-positive
unfolding rem_pio2
returns-then-positive c =
    let h : 0x3fe9_21fb < c.args.b % 0x8000_0000_0000_0000 / 0x1_0000_0000 = omega arith in simp (
      ← c.requires.fact_1.0,
      ← c.requires.fact_1.1,
      lt-leb _ _ h,
      le-ltb _ _ c.if-ix-lt1073928572.false,
      eq-eqb
          _ _ c.if-positive.true,
      c.rem_medium-p.ensures,
    )

pub returns : goal.returns
unfolding rem_pio2
returns c =
    let h : 0x3fe9_21fb < c.args.b % 0x8000_0000_0000_0000 / 0x1_0000_0000 = omega arith in simp (
      ← c.requires.fact_1.0,
      ← c.requires.fact_1.1,
      lt-leb _ _ h,
      le-ltb _ _ c.if-ix-lt1073928572.false,
      ne_eqb
          _ _ c.if-positive.false,
      c.rem_medium-p.ensures,
      quarters-neg,
    )
