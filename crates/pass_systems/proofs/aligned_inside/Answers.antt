-- `pass_systems::aligned_inside` meets its contract: the calls in order; the laws are in proofs/Made.
use Rattle.pass_soft.proofs.Systems.{same-soft}
use Rattle.pass_systems.proofs.Made.{aligned-inside}
use borrow.Author.Rules.{rules}
use Rattle.pass_systems.proofs.aligned_inside.Goals as goal

pub add_inside-requires : goal.add_inside-requires
add_inside-requires c = record { soft_room = same-soft (search rules) _ _ _ c.requires.system_room.soft-room; graph = c.requires.graph }

pub returns : goal.returns
returns c =
    aligned-inside _ _ _ _ _ c.requires.system_room c.align.ensures c.add_inside.ensures
