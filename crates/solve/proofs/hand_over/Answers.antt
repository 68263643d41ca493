-- `solve::hand_over` meets its contract: the part is the region, and a run of stores from 0 on fills the front.
use native.Mathlib.Omega.{arith}
use mathlib.Core.Path.{refl, ap, ◌∙◌}
use mathlib.Core.List.{List}
use lib.Seq.{sets}
use Prim.Native.Nat.{◌+◌}
use lib.Ieee.{Float, nan}
use Rattle.linear_cells.specs.Region.{region}
use Rattle.linear_cells.proofs.Regions.{length-region}
use Rattle.refinement.proofs.Runs.{front}
use Rattle.solve.proofs.Cuts.{part-is}
use Rattle.solve.proofs.hand_over.Goals as goal

pub returns : goal.returns
returns c =
    c.copy.ensures ∙ ap (λ (x : List Float). sets c.args.angles.now 0 x)
    (part-is c.args.work.now c.args.at (c.args.at + c.args.k) c.args.k refl c.requires.0) ∙ front
    c.args.angles.now (region nan c.args.work.now c.args.at c.args.k)
    (omega (arith, length-region nan c.args.work.now c.args.at c.args.k, c.requires.1))
