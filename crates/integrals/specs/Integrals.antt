-- mass_integral, dirichlet_integral and dirichlet_diagonal of the Rust: each operation in the order in which it writes them.
-- Below |ω| = 0.1 both integrals are Taylor series, from 0.1 on closed forms. Definitions only.
use Rattle.std.specs.Prelude.{Bool, cond, List, get_or, Float}
use Rattle.std.specs.Float.Ieee.{lt, neg}
use Rattle.float.specs.Double.{HALF, whole, lit, mag, recip_of, ◌⊕◌, ◌⊖◌, ◌⊗◌, ◌⊘◌}
use Rattle.complex.specs.declared.Complex.{Complex}
use Rattle.complex.specs.Complex.{cnew, from_angle, cadd, csub, cmul, cscale}
use Rattle.plane.specs.declared.Pair.{Pair}
use Rattle.plane.specs.Pair.{sub2, dot2, no-pair}
use Rattle.integrals.specs.Consts.{quarter, tenth}

-- the series serve strictly below 0.1, INTEGRAL_SERIES_THRESHOLD
unfoldable pub by_series : Float → Bool
by_series ω = lt (mag ω) tenth

-- ---- mass_integral
unfoldable pub mass_series : Float → Complex
mass_series ω =
    let o2 = ω ⊗ ω in
    let o4 = o2 ⊗ o2 in
    let o6 = o4 ⊗ o2 in
    let o8 = o4 ⊗ o4 in
    cnew ((whole 1) ⊘ (whole 12) ⊖ o2 ⊘ (whole 360) ⊕ o4 ⊘ (whole 20160) ⊖ o6 ⊘ (whole 1814400) ⊕ o8 ⊘ (whole 239500800)) (ω ⊗ ((whole 1) ⊘ (whole 60) ⊖ o2 ⊘ (whole 2520) ⊕ o4 ⊘ (whole 181440) ⊖ o6 ⊘ (whole 19958400)))

unfoldable pub mass_closed : Float → Complex
mass_closed ω =
    let phase = from_angle ω in
    let a = csub (cscale phase (whole 6)) (cnew (whole 6) (lit 0)) in
    let b = csub a (cnew (lit 0) ((whole 6) ⊗ ω)) in
    let c = cadd b (cnew ((whole 3) ⊗ ω ⊗ ω) (lit 0)) in
    let numerator = cadd c (cnew (lit 0) (ω ⊗ ω ⊗ ω)) in
    cscale numerator (recip_of ((whole 3) ⊗ ω ⊗ ω ⊗ ω ⊗ ω))

unfoldable pub mass_integral : Float → Complex
mass_integral ω = cond (by_series ω) (mass_series ω) (mass_closed ω)

-- ---- dirichlet_integral
unfoldable pub dirichlet_series : Float → Float → Float → Float → Complex
dirichlet_series ω g11 g12 g22 =
    let o2 = ω ⊗ ω in
    let o4 = o2 ⊗ o2 in
    let o6 = o4 ⊗ o2 in
    let o8 = o4 ⊗ o4 in
    let edges = g11 ⊕ g22 in
    cnew
    (neg quarter ⊗ g12
    ⊕ edges ⊗ (o2 ⊘ (whole 120) ⊖ o4 ⊘ (whole 2688) ⊕ o6 ⊘ (whole 129600) ⊖ o8 ⊘ (whole 10644480))
    ⊕ g12 ⊗ (o2 ⊘ (whole 45) ⊖ o4 ⊘ (whole 1120) ⊕ o6 ⊘ (whole 56700) ⊖ o8 ⊘ (whole 4790016)))
    (ω ⊗ (edges ⊗ (neg (whole 1) ⊘ (whole 24) ⊕ o2 ⊘ (whole 504) ⊖ o4 ⊘ (whole 17280) ⊕ o6 ⊘ (whole 1108800))
    ⊕ g12 ⊗ (neg (whole 1) ⊘ (whole 24) ⊕ (whole 5) ⊗ o2 ⊘ (whole 1008) ⊖ (whole 7) ⊗ o4 ⊘ (whole 51840) ⊕ o6 ⊘ (whole 492800))))

unfoldable pub dirichlet_closed : Float → Float → Float → Float → Complex
dirichlet_closed ω g11 g12 g22 =
    let o2 = ω ⊗ ω in
    let o3 = o2 ⊗ ω in
    let o4 = o2 ⊗ o2 in
    let o5 = o4 ⊗ ω in
    let a = (whole 3) ⊗ g11 ⊕ (whole 4) ⊗ g12 ⊕ (whole 3) ⊗ g22 in
    let b = g11 ⊕ g12 ⊕ g22 in
    let c = g11 ⊖ (whole 2) ⊗ g12 ⊕ g22 in
    let d = g11 ⊕ (whole 2) ⊗ g12 ⊕ g22 in
    let e = (whole 2) ⊗ g11 ⊕ (whole 3) ⊗ g12 ⊕ (whole 2) ⊗ g22 in
    let tail = cmul (cnew (neg a ⊕ HALF ⊗ o2 ⊗ d) (ω ⊗ e)) (from_angle ω) in
    let bracket = cadd (cnew (a ⊕ o4 ⊗ c ⊘ (whole 24)) (ω ⊗ b ⊖ o3 ⊗ g12 ⊘ (whole 6) ⊖ o5 ⊗ c ⊘ (whole 60))) tail in
    cscale bracket (recip_of o4)

unfoldable pub dirichlet_integral : Float → Float → Float → Float → Complex
dirichlet_integral ω g11 g12 g22 = cond (by_series ω) (dirichlet_series ω g11 g12 g22) (dirichlet_closed ω g11 g12 g22)

-- ---- dirichlet_diagonal: of the first of three positions in counter-clockwise order
unfoldable pub diagonal_at : Float → Float → Pair → Pair → Pair → Float
diagonal_at ω area center next previous =
    let p-cu = sub2 next center in
    let p-cv = sub2 previous center in
    let opposite = sub2 previous next in
    let numerator = dot2 opposite opposite ⊕ ω ⊗ ω ⊗ (dot2 p-cu p-cu ⊕ dot2 p-cu p-cv ⊕ dot2 p-cv p-cv) ⊘ (whole 90) in
    numerator ⊘ ((whole 4) ⊗ area)

abbrev pub dirichlet_diagonal : Float → Float → List Pair → Float
dirichlet_diagonal ω area p = diagonal_at ω area (get_or p 0 no-pair) (get_or p 1 no-pair) (get_or p 2 no-pair)
