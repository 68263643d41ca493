-- Guidance on a refined floor: the Rust's extend_guidance, the old angles and then one for each cut side. Definitions only.
use Rattle.std.specs.Prelude.{List, ◌++◌, map, get_or, Float}
use Rattle.std.specs.Float.{nan}
use Rattle.mesh.specs.Mesh.{Side, side}
use Rattle.complex.specs.Guidance.{mid_angle}

-- the angle at the midpoint of a side, from those at its ends, the lower end's first
abbrev pub mid_angle_on : List Float → Side → Float
mid_angle_on angles (side u v) = mid_angle (get_or angles u nan) (get_or angles v nan)

unfoldable pub mid_angles : List Float → List Side → List Float
mid_angles angles l = map (mid_angle_on angles) l

-- the guidance of the floor refined at the cut sides l
unfoldable pub more_angles : List Float → List Side → List Float
more_angles angles l = angles ++ mid_angles angles l
