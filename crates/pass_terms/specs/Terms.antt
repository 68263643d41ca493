-- What one triangle adds to the mass and the energy matrix: lines 1302 to 1406 of the Rust's solve_mesh, each operation in its order. Definitions only.
-- The triangle has the corners i, j and k at p, q and r, counter-clockwise; z ij is the transport from i to j, ω the holonomy's angle.
use Rattle.std.specs.Prelude.{Bool, cond, List, get_or, Float}
use Rattle.std.specs.Float.Ieee.{neg, eq}
use Rattle.float.specs.Double.{HALF, whole, lit, recip_of, ◌⊗◌, ◌⊘◌}
use Rattle.complex.specs.declared.Complex.{Complex}
use Rattle.complex.specs.Complex.{cone, cnew, cadd, csub, cmul, cscale, cconj, argument_of}
use Rattle.plane.specs.declared.Pair.{Pair}
use Rattle.plane.specs.Pair.{sub2, dot2, no-pair}
use Rattle.integrals.specs.Integrals.{mass_integral, dirichlet_integral, diagonal_at}
use Rattle.pass_terms.specs.declared.Mode.{Mode}
use Rattle.pass_terms.specs.declared.Corners.{Corners}
use Rattle.pass_terms.specs.declared.Sides.{Sides}
use Rattle.pass_terms.specs.declared.Entry.{Entry}
use Rattle.pass_terms.specs.declared.Terms.{Terms}

-- lines 1307 to 1325. The product begins with ONE, which can turn -0 to 0
unfoldable pub holonomy_of : Sides → Float
holonomy_of z = argument_of (cmul (cmul (cmul cone z.ij) z.jk) z.ki)

-- ---- at the corners

-- lines 1302 to 1304
unfoldable pub mass_corner : Float → Float
mass_corner area = area ⊘ (whole 6)

-- lines 1332 to 1338: at the first of three corners, in cyclic order, from the side opposite to it
unfoldable pub flat_corner : Float → Pair → Pair → Float
flat_corner area next previous = dot2 (sub2 previous next) (sub2 previous next) ⊗ recip_of ((whole 4) ⊗ area)

-- lines 1327 to 1339
unfoldable pub energy_corner : Bool → Float → Float → Pair → Pair → Pair → Float
energy_corner accurate ω area center next previous = cond accurate (diagonal_at ω area center next previous) (flat_corner area next previous)

unfoldable pub energy_corners : Bool → Float → Float → Pair → Pair → Pair → Corners
energy_corners accurate ω area p q r = record {
  i = energy_corner accurate ω area p q r;
  j = energy_corner accurate ω area q r p;
  k = energy_corner accurate ω area r p q;
}

-- lines 1344 to 1349: what is added again at each corner, where h is not 0. -0 is 0
abbrev pub is_plain : Float → Bool
is_plain h = eq h (lit 0)

unfoldable pub correction_of : Float → Float → Float
correction_of h ω = neg h ⊗ ω ⊘ (whole 6)

-- 0 stands for it elsewhere
unfoldable pub correction_in : Float → Float → Float
correction_in h ω = cond (is_plain h) (lit 0) (correction_of h ω)

-- ---- along a side, from its first corner at p to its second at q; o is the third corner, and z the transport along the side

-- lines 1384 to 1389
unfoldable pub mass_scalar : Bool → Float → Complex
mass_scalar accurate ω = cond accurate (mass_integral ω) (cnew ((whole 1) ⊘ (whole 12)) (lit 0))

unfoldable pub mass_entry : Complex → Float → Complex → Complex
mass_entry scalar area z = cscale (cmul (cconj z) scalar) area

-- lines 1378 to 1382, 1390 to 1396, from the reciprocal that the energy is scaled by, which depends on the area alone
unfoldable pub scale_in : Bool → Float → Float
scale_in accurate area = cond accurate (recip_of area) (recip_of ((whole 4) ⊗ area))

unfoldable pub accurate_entry : Float → Float → Complex → Pair → Pair → Pair → Complex
accurate_entry ω scale z p q o =
    let a = sub2 p o in
    let b = sub2 q o in
    cscale (cmul (cconj z) (dirichlet_integral ω (dot2 a a) (dot2 a b) (dot2 b b))) scale

unfoldable pub flat_entry : Float → Complex → Pair → Pair → Pair → Complex
flat_entry scale z p q o = cscale (cconj z) (neg (dot2 (sub2 p o) (sub2 q o)) ⊗ scale)

unfoldable pub energy_entry : Bool → Float → Float → Complex → Pair → Pair → Pair → Complex
energy_entry accurate ω scale z p q o = cond accurate (accurate_entry ω scale z p q o) (flat_entry scale z p q o)

-- lines 1402 to 1406, where h is not 0
unfoldable pub corrected_entry : Float → Float → Float → Complex → Complex → Complex → Complex
corrected_entry h ω area z mass energy =
    cadd (csub energy (cscale mass (h ⊗ ω ⊘ area))) (cmul (cnew (lit 0) (HALF ⊗ h)) (cconj z))

unfoldable pub holomorphic_entry : Float → Float → Float → Complex → Complex → Complex → Complex
holomorphic_entry h ω area z mass energy = cond (is_plain h) energy (corrected_entry h ω area z mass energy)

-- both entries, from the scalar of the mass and the energy along the side
unfoldable pub entry_with : Float → Float → Complex → Float → Complex → Complex → Entry
entry_with h ω scalar area z energy =
    let mass = mass_entry scalar area z in
    record { mass = mass; energy = holomorphic_entry h ω area z mass energy }

unfoldable pub entry_of : Mode → Float → Float → Complex → Pair → Pair → Pair → Entry
entry_of m ω area z p q o = entry_with m.holomorphic ω (mass_scalar m.accurate ω) area z (energy_entry m.accurate ω (scale_in m.accurate area) z p q o)

-- ---- of the whole triangle: the pairs (0, 1, 2), (1, 2, 0) and (2, 0, 1) of line 1353

abbrev pub sides_of : Complex → Complex → Complex → Sides
sides_of ij jk ki = record { ij = ij; jk = jk; ki = ki }

unfoldable pub parts_of : Float → Corners → Float → Entry → Entry → Entry → Terms
parts_of mass energy correction a b c = record {
  mass = record { corners = record { i = mass; j = mass; k = mass }; sides = sides_of a.mass b.mass c.mass };
  energy = record { corners = energy; sides = sides_of a.energy b.energy c.energy };
  correction = correction;
}

unfoldable pub terms_with : Mode → Float → Float → Sides → Pair → Pair → Pair → Terms
terms_with m ω area z p q r =
    parts_of
    (mass_corner area)
    (energy_corners m.accurate ω area p q r)
    (correction_in m.holomorphic ω)
    (entry_of m ω area z.ij p q r)
    (entry_of m ω area z.jk q r p)
    (entry_of m ω area z.ki r p q)

unfoldable pub terms_of : Mode → Float → Sides → Pair → Pair → Pair → Terms
terms_of m area z p q r = terms_with m (holonomy_of z) area z p q r

-- ---- the same of arrays of three, which is how the program passes positions
abbrev pub corner_in : Bool → Float → Float → List Pair → Float
corner_in accurate ω area p = energy_corner accurate ω area (get_or p 0 no-pair) (get_or p 1 no-pair) (get_or p 2 no-pair)

abbrev pub corners_in : Bool → Float → Float → List Pair → Corners
corners_in accurate ω area p = energy_corners accurate ω area (get_or p 0 no-pair) (get_or p 1 no-pair) (get_or p 2 no-pair)

abbrev pub terms_by : Mode → Float → Float → Sides → List Pair → Terms
terms_by m ω area z p = terms_with m ω area z (get_or p 0 no-pair) (get_or p 1 no-pair) (get_or p 2 no-pair)

abbrev pub terms_in : Mode → Float → Sides → List Pair → Terms
terms_in m area z p = terms_of m area z (get_or p 0 no-pair) (get_or p 1 no-pair) (get_or p 2 no-pair)
