-- `pass_gradients::gather_triangle` meets its contract: each return follows from the tests and the calls on its way; the laws are in proofs/Steps.
use native.Mathlib.Omega.{arith}
use mathlib.Core.Path.{refl}
use Rattle.pass_geometries.proofs.Steps.{corners-below}
use Rattle.pass_gradients.proofs.Steps.{added}
use Rattle.pass_gradients.proofs.gather_triangle.Goals as goal

pub gradient_of-d-requires : goal.gradient_of-d-requires
gradient_of-d-requires c =
    let a = c.args in record {
      points_in_bounds = (omega (arith, c.requires.gradients_room.0), omega (arith, c.requires.gradients_room.0), omega (arith, c.requires.gradients_room.0));
      cornered = rw (
        c.index-i.ensures,
        c.index-j.ensures,
        c.index-k.ensures,
        c.corners-c.ensures,
      )
          (corners-below a.p.points a.p.wound a.words.now a.t (λ j l. c.requires.below j (omega arith)));
    }

pub add_triangle-requires : goal.add_triangle-requires
add_triangle-requires c =
    let a = c.args in (rw (c.index-i.ensures, c.index-j.ensures, c.index-k.ensures, c.corners-c.ensures) (corners-below a.p.points a.p.wound a.words.now a.t (λ j l. c.requires.below j (omega arith))), c.requires.gradients_room.0.sums-in)

pub returns : goal.returns
returns c =
    let a = c.args in let e = c.corners-c.ensures in added a.p a.t a.words.now a.work.now _
    (rw e at c.index-i.ensures) (rw e at c.index-j.ensures) (rw e at c.index-k.ensures) refl
    c.gradient_of-d.ensures c.add_triangle.ensures
