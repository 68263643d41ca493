-- `singularities::count_singularities` meets its contract: each return opens the definition and rewrites it by the tests and the calls on its way.
use borrow.Author.Tests.{eq-eqb, ne_eqb}
use Rattle.singularities.specs.Count.{singularities}
use Rattle.singularities.proofs.count_singularities.Goals as goal

pub returns-then-tris-ne0 : goal.returns-then-tris-ne0
unfolding singularities
returns-then-tris-ne0 c = simp (ne_eqb _ _ c.if-tris-ne0.true)

pub returns : goal.returns
unfolding singularities
returns c = simp (eq-eqb _ _ c.if-tris-ne0.false, c.count_triangles.ensures)
