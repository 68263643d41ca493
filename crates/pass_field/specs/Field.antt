-- The Rust's `angles_from`, lines 1210 to 1219: the cross angle of each value of a vector, or reason 13 where one is not finite. Definitions only.
use Rattle.std.specs.Prelude.{Bool, true, cond, ◌&&◌, List, [], ◌∷◌, length, get_or, Float}
use Rattle.float.specs.Double.{is_finite}
use Rattle.complex.specs.declared.Complex.{Complex}
use Rattle.complex.specs.Complex.{cnan}
use Rattle.complex.specs.Angle.{cross_angle}
use Rattle.linear_cells.specs.Region.{tab}

-- an angle for each value, or none
pub data Angles : Type 0 where
  angles : List Float → Angles
  endless : Angles

unfoldable pub finite : Complex → Bool
finite z = is_finite z.re && is_finite z.im

unfoldable pub all_finite : List Complex → Bool
all_finite [] = true
all_finite (z ∷ zs) = finite z && all_finite zs

unfoldable pub cross_angles : List Complex → List Float
cross_angles x = tab (λ i. cross_angle (get_or x i cnan)) (length x)

unfoldable pub field_of : List Complex → Angles
field_of x = cond (all_finite x) (angles (cross_angles x)) endless
