-- `singularities::count_triangles` meets its contract: the loop keeps what `Inv-loop` says; the laws are in proofs/Count.
use native.Mathlib.Omega.{arith}
use mir.Facts.{to_z-of_z}
use mir.Syntax.{w64}
use mathlib.Core.Path.{◌≡◌, ap, ◌∙◌}
use Rattle.singularities.specs.Count.{count_of}
use Rattle.singularities.proofs.Count.{tallied-none, tallied-more}
use Rattle.singularities.proofs.count_triangles.Goals as goal

pub loop-t-init : goal.loop-t-init
loop-t-init c = tallied-none _ _

pub loop-t-preserved : goal.loop-t-preserved
loop-t-preserved c = tallied-more c.loop-t.invariant (to_z-of_z {w = w64} {z = c.charge_at.result} (record { sfits = c.charge_at.type_inv }) ∙ c.charge_at.ensures) c.add_charge-counts.ensures

pub returns : goal.returns
returns c = let e : c.loop-t.t ≡ c.args.triangles = omega arith in c.loop-t.invariant.is ∙ ap (count_of c.args.alpha.now c.args.tris.now) e
