-- `pass_floor::lay_points` meets its contract: what its calls ensure, one after the other.
use Rattle.pass_floor.specs.Lay.{points_laid}
use mathlib.Core.Path.{◌∙◌}
use Rattle.pass_floor.proofs.lay_points.Goals as goal

pub returns : goal.returns
unfolding points_laid
returns c =
    c.put_values.ensures ∙ rw (c.put_plane-2.ensures, c.put_plane.ensures)
