-- `refinement::refine_triangles_within` meets its contract: after i iterations the pieces of the first i triangles stand; the laws are in proofs/Stands.
use Rattle.refinement.proofs.Stands.{within_none, within-again}
use mathlib.Core.Path.{◌≡◌}
use native.Mathlib.Omega.{arith}
use Rattle.refinement.proofs.refine_triangles_within.Goals as goal

pub loop-i-init : goal.loop-i-init
loop-i-init c = within_none _ _ _ _ _ c.requires.held_in

pub refine_triangle_within-k-requires : goal.refine_triangle_within-k-requires
refine_triangle_within-k-requires c = record { held_in = c.loop-i.invariant.held; i_in_bounds = (omega arith, (c.requires.count_in_bounds.0.1, omega (arith, c.loop-i.invariant.stands.few, c.loop-i.invariant.stands.same_length))) }

pub loop-i-preserved : goal.loop-i-preserved
loop-i-preserved c =
    within-again c.requires.count_in_bounds.1.0 c.requires.held_in c.loop-i.invariant c.refine_triangle_within-k.ensures

pub returns : goal.returns
returns c = let e : c.loop-i.i ≡ c.args.count = omega arith in rw e at c.loop-i.invariant.stands.stored
