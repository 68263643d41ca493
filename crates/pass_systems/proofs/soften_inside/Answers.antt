-- `pass_systems::soften_inside` meets its contract: the calls in order; the laws are in proofs/Made.
use Rattle.pass_systems.proofs.Made.{same-system, inside_both}
use borrow.Author.Rules.{rules}
use Rattle.pass_systems.proofs.soften_inside.Goals as goal

pub aligned_inside-requires : goal.aligned_inside-requires
aligned_inside-requires c = record { system_room = same-system _ (search rules) c.requires.system_room; graph = c.requires.graph }

pub returns : goal.returns
returns c =
    inside_both _ _ _ _ _ c.requires.system_room c.guided_inside.ensures c.aligned_inside.ensures
