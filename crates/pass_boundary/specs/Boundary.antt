-- The sides that lie in exactly one triangle, and the targets of the points on them: the Rust's boundary_targets, lines 854 to 914, over lists.
-- Point v has the coordinates X v and Y v. The triangles are those given, not those put counter-clockwise. Definitions only.
use Rattle.std.specs.Prelude.{ℕ, Bool, false, not, cond, ◌&&◌, ◌||◌, List, [], ◌∷◌, ◌++◌, eqb, Float}
use Rattle.std.specs.Float.Ieee.{lt}
use Rattle.float.specs.Double.{is_finite, recip_of, ◌⊖◌}
use Rattle.arctangent.specs.Arc.{atan2_of}
use Rattle.complex.specs.declared.Complex.{Complex}
use Rattle.complex.specs.Complex.{czero, cone, cadd, cscale}
use Rattle.linear_cells.specs.Region.{tab}
use Rattle.mesh.specs.Mesh.{Side, side, key, Tri, tri, one}
use Rattle.edges.specs.Sides.{times, listed}
use Rattle.complex.specs.Guidance.{fourfold, norm_of, SMALLEST-NORM}

-- ---- which sides

-- lines 876 to 880: the sides of a triangle, each from u to v, in the order in which the Rust goes through them
abbrev pub around : Tri → List Side
around (tri a b c) = side a b ∷ side b c ∷ side c a ∷ []

unfoldable pub walked : List Tri → List Side
walked [] = []
walked (t ∷ ts) = around t ++ walked ts

-- line 882: exactly one triangle has the side, by the count of listed sides, either way round, of lines 859 to 869
unfoldable pub once : List Tri → Side → Bool
once ts (side u v) = eqb (times (key u v) (listed ts)) 1

-- no side of a triangle does
unfoldable pub is_inner : List Tri → Tri → Bool
is_inner ts (tri a b c) = not (once ts (side a b) || (once ts (side b c) || once ts (side c a)))

-- those that pass a test
unfoldable pub kept : (Side → Bool) → List Side → List Side
kept f [] = []
kept f (s ∷ ss) = cond (f s) (s ∷ kept f ss) (kept f ss)

-- the boundary sides, as given, in the order of the list. There are as many as the Rust's `edges`
unfoldable pub boundary_sides : List Tri → List Side
boundary_sides ts = kept (once ts) (walked ts)

-- ---- what they add

-- lines 886 and 887: the fourfold direction of a side
unfoldable pub side_tangent : (ℕ → Float) → (ℕ → Float) → Side → Complex
side_tangent X Y (side u v) = fourfold (atan2_of (Y v ⊖ Y u) (X v ⊖ X u))

-- a value that is added at a point
pub record Mark : Type 0 where
  pub point : ℕ
  pub value : Complex

abbrev pub mark : ℕ → Complex → Mark
mark v z = record { point = v; value = z }

-- line 888: `for vertex in [u, v]`
abbrev pub ends : (ℕ → Float) → (ℕ → Float) → Side → List Mark
ends X Y (side u v) = mark u (side_tangent X Y (side u v)) ∷ mark v (side_tangent X Y (side u v)) ∷ []

unfoldable pub marks : (ℕ → Float) → (ℕ → Float) → List Side → List Mark
marks X Y [] = []
marks X Y (s ∷ ss) = ends X Y s ++ marks X Y ss

-- ---- at a point

-- line 889, the Rust's `is_boundary`: v is an end of one of the sides
unfoldable pub touched : List Side → ℕ → Bool
touched [] v = false
touched (side a b ∷ ss) v = eqb v a || (eqb v b || touched ss v)

-- line 890: the sum of what is added there, after z
unfoldable pub sum_from : ℕ → Complex → List Mark → Complex
sum_from v z [] = z
sum_from v z (m ∷ ms) = sum_from v (cond (eqb v m.point) (cadd z m.value) z) ms

-- lines 891 to 894: the first value that is added there, or z
unfoldable pub first_or : ℕ → Complex → List Mark → Complex
first_or v z [] = z
first_or v z (m ∷ ms) = cond (eqb v m.point) m.value (first_or v z ms)

-- lines 907 to 911: `norm.is_finite() && norm > 1e-12`
unfoldable pub normalised : Complex → Complex → Complex
normalised sum first = cond (is_finite (norm_of sum) && lt SMALLEST-NORM (norm_of sum)) (cscale sum (recip_of (norm_of sum))) first

-- lines 902 to 912, of the boundary's sides and what they add
unfoldable pub target_at : List Side → List Mark → ℕ → Complex
target_at ss ms v = cond (touched ss v) (normalised (sum_from v czero ms) (first_or v cone ms)) czero

-- ---- of n points

-- what the boundary adds
unfoldable pub marks_of : (ℕ → Float) → (ℕ → Float) → List Tri → List Mark
marks_of X Y ts = marks X Y (boundary_sides ts)

-- the Rust's `targets`
unfoldable pub targets_of : (ℕ → Float) → (ℕ → Float) → List Tri → ℕ → List Complex
targets_of X Y ts n = tab (target_at (boundary_sides ts) (marks_of X Y ts)) n

-- the Rust's `first`
unfoldable pub firsts_of : (ℕ → Float) → (ℕ → Float) → List Tri → ℕ → List Complex
firsts_of X Y ts n = tab (λ v. first_or v cone (marks_of X Y ts)) n

-- the Rust's `is_boundary`, as 1 and 0
unfoldable pub flags_of : List Tri → ℕ → List ℕ
flags_of ts n = tab (λ v. one (touched (boundary_sides ts) v)) n
