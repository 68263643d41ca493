-- `pass_terms::holomorphic_entry` meets its contract: each return opens the definition and rewrites it by the tests and the calls on its way.
use Rattle.pass_terms.specs.Terms.{holomorphic_entry}
use Rattle.pass_terms.proofs.holomorphic_entry.Goals as goal

pub returns-then-h : goal.returns-then-h
unfolding holomorphic_entry
returns-then-h c = simp c.if-h.true

pub returns : goal.returns
unfolding holomorphic_entry
returns c = simp (c.corrected_entry.ensures, c.if-h.false)
