-- `arctangent::in_quadrant` meets its contract: the arms of `in_quadrant`; turning the sign's bit of a double negates it. Assumes nothing.
use mathlib.Core.Path.{sym, subst}
use lib.Dec.{T}
use Rattle.float.proofs.Facts.{sign-turned}
use Rattle.arctangent.specs.Arc.{in_quadrant}
use Rattle.arctangent.proofs.in_quadrant.Goals as goal

pub returns : goal.returns
unfolding in_quadrant
returns c = simp (c.switch_of.ensures, sign-turned c.args.z (subst T (sym c.well_formed.1.0.1) tt))
