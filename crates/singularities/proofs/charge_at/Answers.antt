-- `singularities::charge_at` meets its contract: each return opens the definition and rewrites it by the tests and the calls on its way.
use mir.Syntax.{w64}
use mir.Facts.{to_z-of_z}
use mathlib.Core.Path.{◌∙◌}
use Rattle.singularities.specs.Count.{charge_at}
use Rattle.singularities.proofs.charge_at.Goals as goal

pub returns : goal.returns
unfolding charge_at
returns c = to_z-of_z {w = w64} {z = c.charge_of.result} (record { sfits = c.charge_of.type_inv }) ∙ simp (c.charge_of.ensures, c.index-k.ensures, c.index-j.ensures, c.index-i.ensures, c.corners-c.ensures)
