-- `pass_terms::terms_by` meets its contract: the definition is its calls.
use Rattle.pass_terms.specs.Terms.{entry_of, terms_with}
use Rattle.pass_terms.proofs.Given.{factors-given}
use Rattle.pass_terms.proofs.terms_by.Goals as goal

pub mass_scalar-scalar-requires : goal.mass_scalar-scalar-requires
mass_scalar-scalar-requires c = (factors-given _ _ c.factors_in-f.ensures).0

pub energy_entry-ij-requires : goal.energy_entry-ij-requires
energy_entry-ij-requires c = (factors-given _ _ c.factors_in-f.ensures).0

pub energy_entry-jk-requires : goal.energy_entry-jk-requires
energy_entry-jk-requires c = (factors-given _ _ c.factors_in-f.ensures).0

pub energy_entry-ki-requires : goal.energy_entry-ki-requires
energy_entry-ki-requires c = (factors-given _ _ c.factors_in-f.ensures).0

pub returns : goal.returns
unfolding terms_with entry_of
returns c =
    simp (
      c.parts.ensures,
      c.correction.ensures,
      c.mass_corner.ensures,
      c.energy_corners-energy.ensures,
      c.entry_with-c.ensures,
      c.entry_with-b.ensures,
      c.entry_with-a.ensures,
      c.energy_entry-ki.ensures,
      c.energy_entry-jk.ensures,
      c.energy_entry-ij.ensures,
      c.scale_in-scale.ensures,
      c.mass_scalar-scalar.ensures,
      (factors-given _ _ c.factors_in-f.ensures).1,
    )
