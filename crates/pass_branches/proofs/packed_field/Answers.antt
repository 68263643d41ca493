-- `pass_branches::packed_field` meets its contract: what the field depends on is left by the copy; the laws are in proofs/Packing.
use Rattle.pass_branches.proofs.Packing.{pack-requires, packed-ordered, packed-edges, packed-bounds, leaves-packed}
use Rattle.pass_branches.proofs.packed_field.Goals as goal

pub pack_edges-requires : goal.pack_edges-requires
pack_edges-requires c = let all = pack-requires c.args.l _ _ c.requires.ordered c.requires.edged.0 in record { countable = all.0; ends = all.1 }

pub field_at-requires : goal.field_at-requires
field_at-requires c = record {
  ordered = packed-ordered c.args.l _ _ c.requires.ordered c.requires.edged.0 c.pack_edges.ensures;
  packs = (
    packed-edges c.args.l _ _ c.requires.ordered c.requires.edged.0 c.pack_edges.ensures,
    packed-bounds c.args.l _ _ c.requires.ordered c.requires.edged.0 c.pack_edges.ensures _
        c.args.o c.args.s c.requires.edged.1,
  );
}

pub returns : goal.returns
returns c =
    leaves-packed c.args.l _ _ c.requires.ordered c.requires.edged.0 c.pack_edges.ensures _ c.args.o c.args.s c.field_at.ensures
