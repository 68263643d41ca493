-- `linear_adjacency::build` meets its contract: the ends stand beside the part that the lists are made in; the laws are in proofs/Ends.
use Rattle.linear_adjacency.proofs.Ends.{from-outside, to-outside, part-room, part-ends, part-all}
use Rattle.linear_adjacency.proofs.build.Goals as goal

pub outside-a-requires : goal.outside-a-requires
outside-a-requires c =
    from-outside _ _ _ _ _ _ c.requires.build_room c.requires.ends
    c.split_at_mut-before.ensures.front c.split_at_mut-before.ensures.back c.split_at_mut-lists.ensures.front c.split_at_mut-lists.ensures.back

pub outside-b-requires : goal.outside-b-requires
outside-b-requires c =
    to-outside _ _ _ _ _ _ c.requires.build_room c.requires.ends
    c.split_at_mut-before.ensures.front c.split_at_mut-before.ensures.back c.split_at_mut-lists.ensures.front c.split_at_mut-lists.ensures.back

pub build-requires : goal.build-requires
build-requires c = record {
  list_room = part-room _ _ _ _ _ _ c.requires.build_room c.requires.ends
      c.split_at_mut-before.ensures.front c.split_at_mut-before.ensures.back c.split_at_mut-lists.ensures.front c.split_at_mut-lists.ensures.back
      c.outside-a.ensures c.outside-b.ensures;
  ends = part-ends _ _ _ _ _ _ c.requires.build_room c.requires.ends
      c.split_at_mut-before.ensures.front c.split_at_mut-before.ensures.back c.split_at_mut-lists.ensures.front c.split_at_mut-lists.ensures.back
      c.outside-a.ensures c.outside-b.ensures;
}

pub returns : goal.returns
returns c =
    part-all _ _ _ _ _ _ c.requires.build_room c.requires.ends
    c.split_at_mut-before.ensures.front c.split_at_mut-before.ensures.back c.split_at_mut-lists.ensures.front c.split_at_mut-lists.ensures.back
    c.outside-a.ensures c.outside-b.ensures c.build.ensures
