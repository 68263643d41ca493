-- `linear_adjacency::lent::has_room` meets its contract: the laws are in proofs/Tests.
use mathlib.Core.Path.{refl}
use native.Mathlib.Omega.{arith}
use Rattle.linear_adjacency.proofs.Tests.{room-many, room-short, room-enough, less-over}
use Rattle.linear_adjacency.proofs.lent.has_room.Goals as goal

pub returns-then-edges-ge-TOO_MANY_EDGES : goal.returns-then-edges-ge-TOO_MANY_EDGES
returns-then-edges-ge-TOO_MANY_EDGES c = room-many _ _ _ c.if-edges-ge-TOO_MANY_EDGES.true

pub returns-then-room-n : goal.returns-then-room-n
returns-then-room-n c = room-short _ _ _ (omega (arith, c.if-room-n.true))

pub returns : goal.returns
returns c = room-enough _ _ _ c.if-edges-ge-TOO_MANY_EDGES.false (less-over c.args.n c.args.edges c.args.room (omega (arith, c.if-room-n.false)) refl)
