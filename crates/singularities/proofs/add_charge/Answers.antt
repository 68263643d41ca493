-- `singularities::add_charge` meets its contract: each return opens the definition and rewrites it by the tests and the calls on its way; the laws are in proofs/Count.
use Rattle.singularities.proofs.Count.{above, below, level}
use mir.Facts.{to_z-of_z}
use lib.Signed.{lt_z}
use lib.IntN.{ℤ, pos}
use mathlib.Core.Bool.{true, false}
use mathlib.Core.Path.{◌≡◌, subst}
use Rattle.singularities.proofs.add_charge.Goals as goal

pub returns-then-charge-gt0 : goal.returns-then-charge-gt0
returns-then-charge-gt0 c = above c.args.counts c.args.charge (subst (λ (z : ℤ). lt_z (pos 0) z ≡ true) (to_z-of_z c.ranges.charge) c.if-charge-gt0.true)

pub returns-then-charge-lt0 : goal.returns-then-charge-lt0
returns-then-charge-lt0 c = below c.args.counts c.args.charge (subst (λ (z : ℤ). lt_z z (pos 0) ≡ true) (to_z-of_z c.ranges.charge) c.if-charge-lt0.true)

pub returns : goal.returns
returns c = level c.args.counts c.args.charge (subst (λ (z : ℤ). lt_z (pos 0) z ≡ false) (to_z-of_z c.ranges.charge) c.if-charge-gt0.false) (subst (λ (z : ℤ). lt_z z (pos 0) ≡ false) (to_z-of_z c.ranges.charge) c.if-charge-lt0.false)
