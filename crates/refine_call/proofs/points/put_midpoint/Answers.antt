-- `refine_call::points::put_midpoint` meets its contract: what its calls ensure, stored one behind the other.
use mathlib.Core.Path.{◌∙◌}
use Rattle.refine_call.proofs.points.put_midpoint.Goals as goal

pub returns : goal.returns
returns c =
    c.copy.ensures ∙ rw (
      c.half_sum-y.ensures,
      c.half_sum-x.ensures,
      c.y_of-2.ensures,
      c.y_of.ensures,
      c.x_of-2.ensures,
      c.x_of.ensures,
    )
