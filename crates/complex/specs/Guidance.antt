-- Extended guidance: the Rust's extend_guidance at one midpoint. Definitions only.
use Rattle.std.specs.Prelude.{cond, ◌&&◌, Float}
use Rattle.std.specs.Float.Ieee.{lt}
use Rattle.float.specs.Double.{lit, is_finite, ◌⊕◌, ◌⊗◌}
use Rattle.root.specs.Root.{root_of}
use Rattle.complex.specs.declared.Complex.{Complex}
use Rattle.complex.specs.Complex.{from_angle, cadd}
use Rattle.complex.specs.Angle.{FIELD-SYMMETRY, cross_angle}

-- the fourfold direction of an angle
unfoldable pub fourfold : Float → Complex
fourfold angle = from_angle (FIELD-SYMMETRY ⊗ angle)

-- the Rust's `(sum.re * sum.re + sum.im * sum.im).sqrt()`
unfoldable pub norm_of : Complex → Float
norm_of z = root_of (z.re ⊗ z.re ⊕ z.im ⊗ z.im)

-- 1e-12, here and at the boundary
abbrev pub SMALLEST-NORM : Float
SMALLEST-NORM = lit 0x3d71_9799_812d_ea11

-- "the cross angle of the summed fourfold directions, or the lower end's angle if the sum's norm is not above 1e-12", or not finite
unfoldable pub mean_or : Float → Complex → Float
mean_or low sum = cond (is_finite (norm_of sum) && lt SMALLEST-NORM (norm_of sum)) (cross_angle sum) low

unfoldable pub mid_angle : Float → Float → Float
mid_angle low high = mean_or low (cadd (fourfold low) (fourfold high))
