-- The points and the sizes of a refined floor: the old ones, then each cut side's midpoint, in refine_once's operation order. Definitions only.
use Rattle.std.specs.Prelude.{ℕ, ◌+◌, ◌*◌, List, [], ◌∷◌, ◌++◌, map, get_or, Float}
use Rattle.std.specs.Float.{nan}
use Rattle.float.specs.Double.{lit}
use Rattle.mesh.specs.Mesh.{Side, side}
use Rattle.mesh.specs.Area.{halfway}

-- a floor's points are its numbers x, y, z, in one list
abbrev pub x_of : List Float → ℕ → Float
x_of pts v = get_or pts (3 * v) nan

abbrev pub y_of : List Float → ℕ → Float
y_of pts v = get_or pts (3 * v + 1) nan

abbrev pub z_of : List Float → ℕ → Float
z_of pts v = get_or pts (3 * v + 2) nan

-- a floor's sizes are one number for each point
abbrev pub size_of : List Float → ℕ → Float
size_of sizes v = get_or sizes v nan

-- a midpoint's x and y; its z is 0, whatever its ends' are
abbrev pub mid_x : List Float → Side → Float
mid_x pts (side u v) = halfway (x_of pts u) (x_of pts v)

abbrev pub mid_y : List Float → Side → Float
mid_y pts (side u v) = halfway (y_of pts u) (y_of pts v)

abbrev pub midpoint : List Float → Side → List Float
midpoint pts s = mid_x pts s ∷ mid_y pts s ∷ lit 0 ∷ []

unfoldable pub midpoints : List Float → List Side → List Float
midpoints pts [] = []
midpoints pts (s ∷ l) = midpoint pts s ++ midpoints pts l

-- the points of the floor refined at the cut sides l
unfoldable pub more_points : List Float → List Side → List Float
more_points pts l = pts ++ midpoints pts l

-- a midpoint's size: half the sum
abbrev pub mid_size : List Float → Side → Float
mid_size sizes (side u v) = halfway (size_of sizes u) (size_of sizes v)

unfoldable pub mid_sizes : List Float → List Side → List Float
mid_sizes sizes l = map (mid_size sizes) l

unfoldable pub more_sizes : List Float → List Side → List Float
more_sizes sizes l = sizes ++ mid_sizes sizes l
