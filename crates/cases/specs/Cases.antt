-- Document 01's thirteen proved cases ("Leaves"), one record: each field says what a definition that the contracts cite comes to. Definitions only.
-- A double is written by its pattern: `lit 0x3ff0_0000_0000_0000` is 1.
use Rattle.std.specs.Prelude.{◌≡◌, ℕ, List, [], ◌∷◌, pos, negsuc, Float}
use Rattle.std.proofs.Math.Option.{none, some}
use Rattle.std.specs.Float.{nan, binary64}
use Rattle.std.specs.Float.Ieee.{neg, of_int}
use Rattle.float.specs.Double.{lit, FRAC-PI-4, PI, ◌⊘◌}
use Rattle.complex.specs.Complex.{cnew}
use Rattle.complex.specs.Angle.{cross_angle, wrap_to_pi}
use Rattle.geometry.specs.Edge.{alignment_weight}
use Rattle.mesh.specs.Mesh.{Tri, tri, split}
use Rattle.refinement.specs.Floor.{Refined, refinement_of}
use Rattle.text_answer.specs.Printed.{printed}
use Rattle.text_answer.specs.Listing.{given, expected}
use Rattle.singularities.specs.Charge.{charge}
use Rattle.root.specs.Root.{root_of}

-- 1
abbrev pub one : Float
one = lit 0x3ff0_0000_0000_0000

-- n / 1024 radian
abbrev pub part : ℕ → Float
part n = of_int binary64 (pos n) ⊘ of_int binary64 (pos 1024)

abbrev pub whole : ℕ → Float
whole n = of_int binary64 (pos n)

-- the square of the listing: its points, angles, sizes and triangles
unfoldable pub square : List Float
square = whole 0 ∷ whole 0 ∷ lit 0 ∷ whole 2 ∷ whole 0 ∷ lit 0 ∷ whole 2 ∷ whole 2 ∷ lit 0 ∷ whole 0 ∷ whole 2 ∷ lit 0 ∷ []

unfoldable pub angles : List Float
angles = part 0 ∷ part 384 ∷ part 0 ∷ part 0 ∷ []

unfoldable pub ones : List Float
ones = whole 1 ∷ whole 1 ∷ whole 1 ∷ whole 1 ∷ []

unfoldable pub two : List Tri
two = tri 0 1 2 ∷ tri 0 2 3 ∷ []

-- its refinement with the threshold n / 1024
abbrev pub refined : ℕ → Refined
refined n = refinement_of (part n) angles square ones two

-- the seven points of its answer: the four given, and the midpoints of the sides 01, 12 and 02
unfoldable pub seven : List Float
seven =
    whole 0 ∷ whole 0 ∷ lit 0 ∷ whole 2 ∷ whole 0 ∷ lit 0 ∷ whole 2 ∷ whole 2 ∷ lit 0 ∷ whole 0 ∷ whole 2 ∷ lit 0
    ∷ whole 1 ∷ whole 0 ∷ lit 0 ∷ whole 2 ∷ whole 1 ∷ lit 0 ∷ whole 1 ∷ whole 1 ∷ lit 0 ∷ []

pub record Cases : Type 0 where
  -- (1) the listing: the bytes of refine.in print the bytes of its answer, and the answer's seven points
  pub case-1 : (printed given ≡ expected) × ((refined 256).points ≡ seven)
  -- (2) threshold 384 flags none there
  pub case-2 : ((refined 384).triangles ≡ two) × ((refined 384).flagged ≡ 0)
  -- (3) 0 1 2 cut on 01, 12 gives 1 3 4, 3 0 2, 3 2 4
  pub case-3 : split 0 1 2 (some 3) (some 4) none ≡ tri 1 3 4 ∷ tri 3 0 2 ∷ tri 3 2 4 ∷ []
  -- (4) cut on 12, 20: 2 3 4, 3 1 0, 3 0 4
  pub case-4 : split 0 1 2 none (some 3) (some 4) ≡ tri 2 3 4 ∷ tri 3 1 0 ∷ tri 3 0 4 ∷ []
  -- (5) the cross angle of (1, -1e-300) is 0
  pub case-5 : cross_angle (cnew one (lit 0x81a5_6e1f_c2f8_f359)) ≡ lit 0
  -- (6) of (1, -0) it is -0
  pub case-6 : cross_angle (cnew one (lit 0x8000_0000_0000_0000)) ≡ lit 0x8000_0000_0000_0000
  -- (7) of (-1, 0) it is FRAC_PI_4
  pub case-7 : cross_angle (cnew (neg one) (lit 0)) ≡ FRAC-PI-4
  -- (8) of NaN it is 0: in the first part, in the second, in both
  pub case-8 : (cross_angle (cnew nan one) ≡ lit 0) × (cross_angle (cnew one nan) ≡ lit 0) × (cross_angle (cnew nan nan) ≡ lit 0)
  -- (9) root of 9 is 3
  pub case-9 : root_of (lit 0x4022_0000_0000_0000) ≡ lit 0x4008_0000_0000_0000
  -- (10) π and -π both wrap to π
  pub case-10 : (wrap_to_pi PI ≡ PI) × (wrap_to_pi (neg PI) ≡ PI)
  -- (11) the angles 0, 0.5, 1 have charge 1
  pub case-11 : charge (lit 0) (lit 0x3fe0_0000_0000_0000) one ≡ pos 1
  -- (12) 0, 1, 0.5 have charge -1
  pub case-12 : charge (lit 0) one (lit 0x3fe0_0000_0000_0000) ≡ negsuc 0
  -- (13) anisotropy 2 weighs 0.25
  pub case-13 : alignment_weight (lit 0x4000_0000_0000_0000) ≡ lit 0x3fd0_0000_0000_0000
