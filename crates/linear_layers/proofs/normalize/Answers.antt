-- `linear_layers::normalize` meets its contract: each return opens the definition and rewrites it by the tests and the calls on its way; the laws are in proofs/Tests.
use lib.Ieee.{nan}
use native.Mathlib.Omega.{arith}
use Rattle.linear_layers.proofs.Tests.{normalize-refused, normalize-normal, small, normalize-needs}
use Rattle.linear_layers.proofs.normalize.Goals as goal

pub returns-then-not-is_good : goal.returns-then-not-is_good
returns-then-not-is_good c = normalize-refused _ _ _ _ nan 0 c.is_good.ensures c.if-not-is_good.true

pub vectors_for-l-requires : goal.vectors_for-l-requires
vectors_for-l-requires c = omega (arith, small _ _ _ _ c.is_good.ensures c.if-not-is_good.false)

pub normalize_in_mass-requires : goal.normalize_in_mass-requires
normalize_in_mass-requires c = let all = normalize-needs _ _ _ _ c.is_good.ensures c.if-not-is_good.false c.matrix_for-h.ensures c.vectors_for-l.ensures in record { apply_room = all.0; graph = all.1 }

pub returns : goal.returns
returns c =
    normalize-normal _ _ _ _ nan 0 c.is_good.ensures c.if-not-is_good.false
    c.matrix_for-h.ensures c.vectors_for-l.ensures c.normalize_in_mass.ensures
