-- `pass_terms::of_triangle` meets its contract: the definition by the holonomy, or the flat one where that is the same (proofs/Flat).
use Rattle.pass_terms.specs.Terms.{terms_of}
use mathlib.Core.Path.{◌∙◌}
use Rattle.pass_terms.proofs.Flat.{terms-flat}
use Rattle.pass_terms.proofs.of_triangle.Goals as goal

pub returns-then-m : goal.returns-then-m
unfolding terms_of
returns-then-m c = simp (c.terms_by.ensures, c.holonomy.ensures)

pub returns-then-m-2 : goal.returns-then-m-2
returns-then-m-2 c = c.flat_terms.ensures ∙ terms-flat _ _ _ _ _ _ c.if-m.false c.if-m-2.true

pub returns : goal.returns
unfolding terms_of
returns c = simp (c.terms_by-2.ensures, c.holonomy-2.ensures)
