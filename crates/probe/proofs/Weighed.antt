-- What a weight that is given, or none, says of its test. Assumes nothing.
use mathlib.Core.Path.{◌≡◌, refl}
use mathlib.Core.Bool.{Bool, true, false, cond}
use lib.Ieee.{Float}
use Rattle.std.specs.Prelude.{Option, Some, None}
use Rattle.plane.specs.declared.Pair.{Pair}
use Rattle.probe.specs.Weights.{within, weight, weight_within}

pub weight-given : (p a b : Pair) (d w : Float) → Some w ≡ weight_within p a b d → (within (weight p a b d) ≡ true) × (w ≡ weight p a b d)
unfolding weight_within
weight-given p a b d w = go (within (weight p a b d)) (weight p a b d)
  where
    go : (t : Bool) (v : Float) → Some w ≡ cond t (Some v) None → (t ≡ true) × (w ≡ v)
    go true v h = (refl, cc)
    go false v h = absurd (cc)

pub weight-none : (p a b : Pair) (d : Float) → None ≡ weight_within p a b d → within (weight p a b d) ≡ false
unfolding weight_within
weight-none p a b d = go (within (weight p a b d)) (weight p a b d)
  where
    go : (t : Bool) (v : Float) → ◌≡◌ {A = Option Float} None (cond t (Some v) None) → t ≡ false
    go true v h = absurd (cc)
    go false v h = refl
