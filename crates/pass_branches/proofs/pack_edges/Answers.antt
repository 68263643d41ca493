-- `pass_branches::pack_edges` meets its contract: the copy is that of the layout.
use Rattle.pass_branches.proofs.Packing.{pack-at, packed-at}
use Rattle.pass_branches.proofs.pack_edges.Goals as goal

pub packing_at-requires : goal.packing_at-requires
packing_at-requires c = c.requires.countable.0

pub source_at-requires : goal.source_at-requires
source_at-requires c = c.requires.countable.0

pub pack-requires : goal.pack-requires
pack-requires c = let all = pack-at c.args.l _ _ c.packing_at.ensures c.source_at.ensures c.requires.countable.1 c.requires.ends in record { pack_room = all.0; ends = all.1 }

pub returns : goal.returns
returns c =
    packed-at c.args.l _ _ c.packing_at.ensures c.source_at.ensures c.pack.ensures
