-- The charge of a triangle in the Rust's count_singularities, step by step. Definitions only.
use Rattle.std.specs.Prelude.{cond, ◌&&◌, ℤ, pos, Float}
use Rattle.std.specs.Float.Ieee.{to_signed}
use Rattle.float.specs.Double.{is_finite, round_away, TAU, ◌⊕◌, ◌⊖◌, ◌⊗◌, ◌⊘◌}
use Rattle.complex.specs.Angle.{FIELD-SYMMETRY, wrap_to_pi}

-- the turn of the fourfold direction along a side, wrapped to (-PI, PI]
abbrev pub along : Float → Float → Float
along a b = wrap_to_pi (FIELD-SYMMETRY ⊗ (b ⊖ a))

unfoldable pub winding : Float → Float → Float → Float
winding a b c = along a b ⊕ along b c ⊕ along c a

-- the winding in whole turns, a half away from zero, as an i64
unfoldable pub turns : Float → ℤ
turns w = to_signed 63 (round_away (w ⊘ TAU))

-- document 01's charge; a triangle with an angle that is not finite has charge 0
unfoldable pub charge : Float → Float → Float → ℤ
charge a b c = cond (is_finite a && is_finite b && is_finite c) (turns (winding a b c)) (pos 0)
