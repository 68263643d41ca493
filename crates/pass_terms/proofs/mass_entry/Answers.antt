-- `pass_terms::mass_entry` meets its contract: the definition is its calls.
use Rattle.pass_terms.specs.Terms.{mass_entry}
use Rattle.pass_terms.proofs.mass_entry.Goals as goal

pub returns : goal.returns
unfolding mass_entry
returns c = cc
