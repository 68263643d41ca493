-- `pass_terms::corrected_entry` meets its contract: each return opens the definition and rewrites it by the tests and the calls on its way.
use Rattle.pass_terms.specs.Terms.{corrected_entry}
use Rattle.pass_terms.proofs.corrected_entry.Goals as goal

pub returns : goal.returns
unfolding corrected_entry
returns c = cc
