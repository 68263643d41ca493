-- sub2, dot2, cross2, rotate_90 and scale2 of the Rust, on pairs of doubles, each operation rounded once. Definitions only.
use Rattle.std.specs.Prelude.{List, get_or, Float}
use Rattle.std.specs.Float.{nan}
use Rattle.std.specs.Float.Ieee.{neg}
use Rattle.float.specs.Double.{◌⊕◌, ◌⊖◌, ◌⊗◌}
use Rattle.plane.specs.declared.Pair.{Pair}

abbrev pub sub2 : Pair → Pair → Pair
sub2 a b = record { x = a.x ⊖ b.x; y = a.y ⊖ b.y }

abbrev pub dot2 : Pair → Pair → Float
dot2 a b = a.x ⊗ b.x ⊕ a.y ⊗ b.y

abbrev pub cross2 : Pair → Pair → Float
cross2 a b = a.x ⊗ b.y ⊖ a.y ⊗ b.x

abbrev pub rotate90 : Pair → Pair
rotate90 a = record { x = neg a.y; y = a.x }

abbrev pub scale2 : Pair → Float → Pair
scale2 a k = record { x = a.x ⊗ k; y = a.y ⊗ k }

-- what stands past the end of a list of pairs
abbrev pub no-pair : Pair
no-pair = record { x = nan; y = nan }

-- twice the signed area of the triangle a b c
unfoldable pub orientation : Pair → Pair → Pair → Float
orientation a b c = cross2 (sub2 b a) (sub2 c a)

-- the same of an array of three
abbrev pub orientation_of : List Pair → Float
orientation_of ps = orientation (get_or ps 0 no-pair) (get_or ps 1 no-pair) (get_or ps 2 no-pair)
