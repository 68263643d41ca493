-- `pass_geometries::geometry_at` meets its contract: each return follows from the tests and the calls on its way; the laws are in proofs/Steps.
use native.Mathlib.Omega.{arith}
use mathlib.Core.Path.{◌∙◌}
use Rattle.pass_geometries.proofs.Steps.{corners-below}
use Rattle.pass_geometries.proofs.geometry_at.Goals as goal

pub geometry_of-requires : goal.geometry_of-requires
geometry_of-requires c =
    let a = c.args in record {
      points_in_bounds = (omega (arith, c.requires.geometries_room.0), omega (arith, c.requires.geometries_room.0));
      cornered = rw
          (c.index-i.ensures, c.index-j.ensures, c.index-k.ensures, c.corners-c.ensures)
          (corners-below a.p.points a.p.given a.words.now a.t (λ j l. c.requires.below j (omega arith)));
    }

pub returns : goal.returns
returns c = c.geometry_of.ensures ∙ rw (c.index-i.ensures, c.index-j.ensures, c.index-k.ensures, c.corners-c.ensures)
