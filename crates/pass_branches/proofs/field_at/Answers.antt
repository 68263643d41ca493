-- `pass_branches::field_at` meets its contract: the parts of the u32 work and the matrices are those of the layout; the laws are in proofs/Placed.
use Rattle.pass_layout.proofs.Regions.{countable}
use Rattle.pass_branches.proofs.Placed.{by-requires, at-leaves}
use Rattle.pass_branches.proofs.field_at.Goals as goal

pub packing_at-copy-requires : goal.packing_at-copy-requires
packing_at-copy-requires c =
    countable _ _ c.requires.ordered c.requires.packs.0.few

pub source_at-source-requires : goal.source_at-source-requires
source_at-source-requires c =
    countable _ _ c.requires.ordered c.requires.packs.0.few

pub field_by-requires : goal.field_by-requires
field_by-requires c = let all = by-requires c.args.l _ c.args.o c.args.s _ _ c.requires.ordered c.requires.packs.0 c.energy_at-energy.ensures
    c.mass_at-mass.ensures c.terms_of-terms.ensures c.vectors_at-vectors.ensures
    c.packing_at-copy.ensures c.source_at-source.ensures c.requires.packs.1 in record { branch_room = all.0; graphs = all.1.0; system_value = all.1.1.0; copy_room = all.1.1.1 }

pub returns : goal.returns
returns c =
    at-leaves c.args.l _ c.args.o c.args.s _ _ c.requires.ordered c.requires.packs.0 c.energy_at-energy.ensures c.mass_at-mass.ensures c.terms_of-terms.ensures
    c.vectors_at-vectors.ensures c.packing_at-copy.ensures
    c.source_at-source.ensures c.field_by.ensures
