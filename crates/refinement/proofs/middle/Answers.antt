-- `refinement::middle` meets its contract: the midpoint's number is that of the side behind the points.
use Rattle.mesh.specs.Mesh.{mid}
use Rattle.refinement.proofs.middle.Goals as goal

pub returns-in_err-number : goal.returns-in_err-number
unfolding mid
returns-in_err-number c = rw (← c.in_err-number.ensures.0, c.from_residual.ensures)

pub returns : goal.returns
unfolding mid
returns c = rw (← c.in_ok-number.ensures.0)
