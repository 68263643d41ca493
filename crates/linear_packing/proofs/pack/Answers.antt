-- `linear_packing::pack` meets its contract: each return rewrites the definition by the calls on its way; the laws are in proofs/Whole.
use Rattle.linear_packing.proofs.Whole.{build-room, stage-laid, stage-interleaved, stage-copied, stage-all}
use Rattle.linear_packing.proofs.pack.Goals as goal

pub build-requires : goal.build-requires
build-requires c = record { build_room = build-room _ _ _ c.requires.pack_room c.requires.ends; ends = c.requires.ends }

pub interleave-requires : goal.interleave-requires
interleave-requires c =
    stage-laid _ _ _ c.requires.pack_room c.requires.ends c.build.ensures

pub neighbours-requires : goal.neighbours-requires
neighbours-requires c =
    stage-interleaved _ _ _ c.requires.pack_room c.requires.ends c.build.ensures c.interleave.ensures

pub marks-requires : goal.marks-requires
marks-requires c =
    stage-copied _ _ _ c.requires.pack_room c.requires.ends c.build.ensures c.interleave.ensures c.neighbours.ensures

pub returns : goal.returns
returns c =
    stage-all _ _ _ c.requires.pack_room c.requires.ends c.build.ensures c.interleave.ensures c.neighbours.ensures c.marks.ensures
