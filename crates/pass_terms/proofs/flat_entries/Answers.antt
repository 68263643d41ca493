-- `pass_terms::flat_entries` meets its contract: the definition is its calls.
use lib.Ieee.{of_int, of_bits}
use Rattle.pass_terms.specs.Flat.{flat_entries}
use Rattle.pass_terms.proofs.flat_entries.Goals as goal

pub returns : goal.returns
unfolding flat_entries of_int of_bits
returns c = simp (c.flat_entry.ensures, c.mass_entry-mass.ensures, c.new.ensures)
