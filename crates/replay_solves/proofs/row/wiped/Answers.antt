-- `replay_solves::row::wiped` meets its contract: what is called answers by its definition, and each test decides its arm.
use native.Mathlib.Omega.{arith}
use borrow.Author.Tests.{eq-eqb, ne_eqb, lt-ltb, le-ltb}
use Rattle.replay_solves.specs.Solve.{wiped_in}
use Rattle.replay_solves.proofs.row.wiped.Goals as goal

pub returns-then-number-eq0 : goal.returns-then-number-eq0
unfolding wiped_in
returns-then-number-eq0 c = (simp (← c.quarter-number.ensures, eq-eqb _ _ c.if-number-eq0.true, c.count.ensures.0), c.count.ensures.1)

pub returns-then-number-gt18 : goal.returns-then-number-gt18
unfolding wiped_in
returns-then-number-gt18 c = (simp (← c.quarter-number.ensures, ne_eqb _ _ c.if-number-eq0.false, lt-ltb _ _ c.if-number-gt18.true, c.count-then-number-gt18.ensures.0), c.count-then-number-gt18.ensures.1)

pub returns : goal.returns
unfolding wiped_in
returns c = (simp (← c.quarter-number.ensures, ne_eqb _ _ c.if-number-eq0.false, le-ltb _ _ c.if-number-gt18.false), omega arith)
