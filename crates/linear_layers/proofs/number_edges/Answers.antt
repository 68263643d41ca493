-- `linear_layers::number_edges` meets its contract: the ends are laid out, and the numbers made of them; the laws are in proofs/Tests.
use Rattle.linear_layers.proofs.Tests.{counted, from-fits, to-fits, pack-needs, edges-numbered}
use Rattle.linear_layers.proofs.number_edges.Goals as goal

pub packing_for-copy-requires : goal.packing_for-copy-requires
packing_for-copy-requires c = counted _ _ _ c.requires.from_value

pub source_for-source-requires : goal.source_for-source-requires
source_for-source-requires c = counted _ _ _ c.requires.from_value

pub put_ends-requires : goal.put_ends-requires
put_ends-requires c =
    from-fits c.args.numbers.now _ _ _ c.requires.from_value c.requires.graph c.packing_for-copy.ensures c.source_for-source.ensures

pub put_ends-requires-2 : goal.put_ends-requires-2
put_ends-requires-2 c =
    to-fits _ _ _ _ c.requires.from_value c.requires.graph c.packing_for-copy.ensures c.source_for-source.ensures
    c.put_ends.ensures

pub pack-requires : goal.pack-requires
pack-requires c = let all = pack-needs _ _ _ _ c.requires.from_value c.requires.graph c.packing_for-copy.ensures c.source_for-source.ensures c.put_ends.ensures c.put_ends-2.ensures in record { pack_room = all.0; ends = all.1 }

pub returns : goal.returns
returns c =
    edges-numbered _ _ _ _ c.requires.from_value c.requires.graph c.packing_for-copy.ensures c.source_for-source.ensures c.put_ends.ensures
    c.put_ends-2.ensures c.pack.ensures
