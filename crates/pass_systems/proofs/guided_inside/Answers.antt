-- `pass_systems::guided_inside` meets its contract: each return is one case; the laws are in proofs/Made.
use native.Mathlib.Omega.{arith}
use Rattle.linear_cells.proofs.Loops.{apart}
use Rattle.pass_soft.proofs.Systems.{same-soft}
use Rattle.pass_systems.proofs.Made.{guided-outside, guided-inside}
use borrow.Author.Rules.{rules}
use Rattle.pass_systems.proofs.guided_inside.Goals as goal

pub returns-then-not-s : goal.returns-then-not-s
returns-then-not-s c = guided-outside c.args.s _ _ _ _ c.if-not-s.true

pub guide-requires : goal.guide-requires
guide-requires c =
    omega (arith, apart, c.requires.system_room.soft-room.h-room.vector-room.vectors-in)

pub add_inside-requires : goal.add_inside-requires
add_inside-requires c = record { soft_room = same-soft (search rules) _ _ _ c.requires.system_room.soft-room; graph = c.requires.graph }

pub returns : goal.returns
returns c =
    guided-inside _ _ _ _ _ c.requires.system_room c.if-not-s.false c.guide.ensures c.add_inside.ensures
