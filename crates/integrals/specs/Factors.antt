-- What the integrals take of the holonomy ω alone: the four sums of `dirichlet_series`, or the phase and the reciprocal of the closed forms. Definitions only.
use Rattle.std.specs.Prelude.{cond, Float}
use Rattle.std.specs.Float.Ieee.{neg}
use Rattle.float.specs.Double.{whole, recip_of, ◌⊕◌, ◌⊖◌, ◌⊗◌, ◌⊘◌}
use Rattle.complex.specs.Complex.{from_angle}
use Rattle.integrals.specs.Integrals.{by_series}
use Rattle.integrals.specs.declared.Series as S
use Rattle.integrals.specs.declared.Closed as C
use Rattle.integrals.specs.declared.Factors.{Factors}
use Rattle.integrals.specs.declared.Factors.TheVariants.{Series, Closed}

unfoldable pub series_of : Float → S.Series
series_of ω =
    let o2 = ω ⊗ ω in
    let o4 = o2 ⊗ o2 in
    let o6 = o4 ⊗ o2 in
    let o8 = o4 ⊗ o4 in
    record {
      edges_re = o2 ⊘ (whole 120) ⊖ o4 ⊘ (whole 2688) ⊕ o6 ⊘ (whole 129600) ⊖ o8 ⊘ (whole 10644480);
      g12_re = o2 ⊘ (whole 45) ⊖ o4 ⊘ (whole 1120) ⊕ o6 ⊘ (whole 56700) ⊖ o8 ⊘ (whole 4790016);
      edges_im = neg (whole 1) ⊘ (whole 24) ⊕ o2 ⊘ (whole 504) ⊖ o4 ⊘ (whole 17280) ⊕ o6 ⊘ (whole 1108800);
      g12_im = neg (whole 1) ⊘ (whole 24) ⊕ (whole 5) ⊗ o2 ⊘ (whole 1008) ⊖ (whole 7) ⊗ o4 ⊘ (whole 51840) ⊕ o6 ⊘ (whole 492800);
    }

unfoldable pub closed_of : Float → C.Closed
closed_of ω =
    let o2 = ω ⊗ ω in
    record { phase = from_angle ω; recip = recip_of (o2 ⊗ o2) }

unfoldable pub factors_of : Float → Factors
factors_of ω = cond (by_series ω) (Series (series_of ω)) (Closed (closed_of ω))
