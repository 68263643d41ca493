-- `pass_terms::entry_with` meets its contract: the definition is its calls.
use Rattle.pass_terms.specs.Terms.{entry_with}
use Rattle.pass_terms.proofs.entry_with.Goals as goal

pub returns : goal.returns
unfolding entry_with
returns c = simp (c.holomorphic_entry.ensures, c.mass_entry-mass.ensures)
