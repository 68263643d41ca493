-- `linear_cells::copy` meets its contract: the law of a copied part is in proofs/Parts.
use mathlib.Core.Path.{◌≡◌, ◌∙◌}
use Prim.Native.Nat.{◌+◌, ◌-◌}
use native.Mathlib.Omega.{arith}
use lib.Ieee.{nan}
use Rattle.linear_cells.proofs.Parts.{part-copy}
use Rattle.linear_cells.proofs.copy.Goals as goal

pub returns : goal.returns
returns c =
    let size : c.args.from + c.args.n - c.args.from ≡ c.args.n = omega arith in
    c.copy_within.ensures.after ∙ rw size (part-copy nan c.args.work.now c.args.to c.args.from c.args.n c.requires.0 c.requires.1)
