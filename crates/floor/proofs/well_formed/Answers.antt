-- `floor::well_formed` meets its contract: each return opens the definition and rewrites it by the tests and the calls on its way.
use borrow.Author.Tests.{eq-eqb, ne_eqb, le-leb, lt-leb}
use Rattle.floor.specs.Checks.{well_formed}
use Rattle.floor.proofs.well_formed.Goals as goal

pub returns-then-numbers-ne0 : goal.returns-then-numbers-ne0
unfolding well_formed
returns-then-numbers-ne0 c = simp (ne_eqb _ _ c.if-numbers-ne0.true)

pub returns-then-corners-ne0 : goal.returns-then-corners-ne0
unfolding well_formed
returns-then-corners-ne0 c = simp (eq-eqb _ _ c.if-numbers-ne0.false, ne_eqb _ _ c.if-corners-ne0.true)

pub returns-then-numbers-le-MOST_POINTS : goal.returns-then-numbers-le-MOST_POINTS
unfolding well_formed
returns-then-numbers-le-MOST_POINTS c = simp (eq-eqb _ _ c.if-numbers-ne0.false, eq-eqb _ _ c.if-corners-ne0.false, le-leb _ _ c.if-numbers-le-MOST_POINTS.true)

pub returns-else-numbers-le-MOST_POINTS : goal.returns-else-numbers-le-MOST_POINTS
unfolding well_formed
returns-else-numbers-le-MOST_POINTS c = simp (eq-eqb _ _ c.if-numbers-ne0.false, eq-eqb _ _ c.if-corners-ne0.false, lt-leb _ _ c.if-numbers-le-MOST_POINTS.false)
