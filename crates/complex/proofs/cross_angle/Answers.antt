-- `complex::cross_angle` meets its contract: each return opens the definition and rewrites it by the tests and the calls on its way.
use Rattle.float.specs.Double.{lit}
use Rattle.complex.proofs.Range.{crossed}
use Rattle.complex.specs.Angle.{cross_angle, in_range}
use Rattle.complex.proofs.cross_angle.Goals as goal
use Rattle.complex.proofs.cross_angle.Goals.{else-angle-via-then-angle+else-angle-2, else-angle-via-else-angle}

pub returns-then-angle-2 : goal.returns-then-angle-2
unfolding cross_angle in_range
returns-then-angle-2 c = let all = crossed c.args.value c.rem_euclid-angle.result (simp (← c.argument.ensures, ← c.rem_euclid-angle.ensures, c.if-angle.true, c.if-angle-2.true)) in record { value = all.0; range = all.1 }

pub returns : goal.returns
unfolding cross_angle in_range
returns c =
    let all = crossed c.args.value (lit 0)
    (elim c.else-angle.branch [
      | else-angle-via-then-angle+else-angle-2 w ↦ simp (← c.argument.ensures, ← c.rem_euclid-angle.ensures, w.if-angle.true, w.if-angle-2.false)
      | else-angle-via-else-angle w ↦ simp (← c.argument.ensures, ← c.rem_euclid-angle.ensures, w.if-angle.false)
    ]) in
    record { value = all.0; range = all.1 }
