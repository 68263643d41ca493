-- `pass_boundary::boundary_targets` meets its contract: each return follows from the calls on its way; the laws are in proofs/Whole.
use Rattle.pass_boundary.proofs.Steps.{still-facts}
use Rattle.pass_boundary.proofs.Whole.{bounded, walk-facts}
use Rattle.pass_boundary.proofs.boundary_targets.Goals as goal

pub mark_all-sides-requires : goal.mark_all-sides-requires
mark_all-sides-requires c = let all = walk-facts c.args.l c.args.p _ _ c.requires.list_room.0 c.requires.list_room.1 c.requires.sided.0 c.count_sides.ensures c.clear.ensures in record { list_room = all.0; sided = all.1 }

pub settle-requires : goal.settle-requires
settle-requires c =
    let f = still-facts (walk-facts c.args.l c.args.p _ _ c.requires.list_room.0 c.requires.list_room.1 c.requires.sided.0 c.count_sides.ensures c.clear.ensures) c.mark_all-sides.ensures.added in (f.0.1, f.0.0.flags-in)

pub returns : goal.returns
returns c =
    bounded c.args.l c.args.p _ _ c.requires.list_room.0 c.requires.list_room.1 c.count_sides.ensures c.clear.ensures c.mark_all-sides.ensures c.settle.ensures
