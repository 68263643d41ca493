use mathlib.Core.Path.{◌≡◌}
use lib.Seq.{sets}
use Rattle.mesh.specs.Points.{mid_sizes}
use Rattle.edges.specs.TwoSlices.{sides_at}
use Rattle.refine_call.proofs.points.put_mid_sizes.Given as goal

abbrev pub invariant-loop-k : goal.invariant-loop-k
invariant-loop-k l = l.out ≡ sets l.initial.out l.at (mid_sizes l.sizes (sides_at l.ends l.k))
