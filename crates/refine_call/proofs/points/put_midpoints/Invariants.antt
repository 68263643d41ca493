use mathlib.Core.Path.{◌≡◌}
use lib.Seq.{sets}
use Rattle.mesh.specs.Points.{midpoints}
use Rattle.edges.specs.TwoSlices.{sides_at}
use Rattle.refine_call.proofs.points.put_midpoints.Given as goal

abbrev pub invariant-loop-k : goal.invariant-loop-k
invariant-loop-k l = l.out ≡ sets l.initial.out l.at (midpoints l.points (sides_at l.ends l.k))
