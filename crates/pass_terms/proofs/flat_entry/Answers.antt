-- `pass_terms::flat_entry` meets its contract: each return opens the definition and rewrites it by the tests and the calls on its way.
use Rattle.pass_terms.specs.Terms.{flat_entry}
use Rattle.pass_terms.proofs.flat_entry.Goals as goal

pub returns : goal.returns
unfolding flat_entry
returns c = simp (c.scale.ensures, c.dot2.ensures, c.conj.ensures, c.sub2-b.ensures, c.sub2-a.ensures)
