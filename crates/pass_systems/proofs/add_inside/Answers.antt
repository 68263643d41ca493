-- `pass_systems::add_inside` meets its contract: the calls in order; the laws are in proofs/Made.
use Rattle.pass_soft.proofs.Systems.{same-soft}
use Rattle.pass_systems.proofs.Made.{inside-added}
use borrow.Author.Rules.{rules}
use Rattle.pass_systems.proofs.add_inside.Goals as goal

pub add_term-requires : goal.add_term-requires
add_term-requires c = record { soft_room = same-soft (search rules) _ _ _ c.requires.soft_room; graph = c.requires.graph.0 }

pub returns : goal.returns
returns c =
    inside-added c.args.s _ _ _ _ c.requires.soft_room _ c.blank.ensures c.add_term.ensures
