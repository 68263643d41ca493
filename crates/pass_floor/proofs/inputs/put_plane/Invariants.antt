use Rattle.edges.specs.Table.{cuts_in}
use Rattle.pass_floor.specs.Planes.{coordinate_at}
use Rattle.linear_cells.specs.Region.{put}
use Rattle.linear_cells.proofs.Writes.{write_to}
use lib.Ieee.{nan}
use lib.ListN.{length}
use mathlib.Core.Path.{◌≡◌}
use Prim.Native.Nat.{◌+◌, ◌/◌, ◌-◌, ◌≤◌}
use Rattle.pass_floor.proofs.inputs.put_plane.Given as goal

abbrev pub invariant-loop-v : goal.invariant-loop-v
invariant-loop-v l =
    (l.v ≤ l.count) × (length l.work ≡ length l.initial.work) × (l.count ≡ length l.points / 3 + l.table.sides) × (l.work ≡ put l.initial.work l.at (write_to nan l.initial.work l.at l.count (coordinate_at l.points (cuts_in l.table l.numbers) l.k) l.v))

abbrev pub decreases-loop-v : goal.decreases-loop-v
decreases-loop-v l = l.count - l.v
