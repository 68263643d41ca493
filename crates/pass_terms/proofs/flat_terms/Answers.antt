-- `pass_terms::flat_terms` meets its contract: the definition is its calls.
use Rattle.pass_terms.specs.Flat.{flat_terms}
use Rattle.pass_terms.proofs.flat_terms.Goals as goal

pub returns : goal.returns
unfolding flat_terms
returns c =
    simp (
      c.parts.ensures,
      c.mass_corner.ensures,
      c.energy_corners-energy.ensures,
      c.flat_entries-ki.ensures,
      c.flat_entries-jk.ensures,
      c.flat_entries-ij.ensures,
      c.scale_in-scale.ensures,
    )
