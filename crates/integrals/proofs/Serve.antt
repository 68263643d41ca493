-- Which factors a holonomy has says whether the series serve it. Assumes nothing.
use mathlib.Core.Path.{◌≡◌, refl, sym, ◌∙◌}
use mathlib.Core.Bool.{Bool, true, false, cond}
use lib.Ieee.{Float}
use Rattle.integrals.specs.Integrals.{by_series}
use Rattle.integrals.specs.Factors.{series_of, closed_of, factors_of}
use Rattle.integrals.specs.declared.Series as S
use Rattle.integrals.specs.declared.Closed as C
use Rattle.integrals.specs.declared.Factors.{Factors}
use Rattle.integrals.specs.declared.Factors.TheVariants.{Series, Closed}

is-series : (b : Bool) (s t : S.Series) (k : C.Closed) → Series t ≡ cond b (Series s) (Closed k) → (b ≡ true) × (t ≡ s)
is-series true s t k e = (refl, cc)
is-series false s t k e = (cc, cc)

is-closed : (b : Bool) (s : S.Series) (k t : C.Closed) → Closed t ≡ cond b (Series s) (Closed k) → (b ≡ false) × (t ≡ k)
is-closed true s k t e = (cc, cc)
is-closed false s k t e = (refl, cc)

pub series-serve : (ω : Float) (f : Factors) (t : S.Series) → f ≡ factors_of ω → f ≡ Series t → (by_series ω ≡ true) × (t ≡ series_of ω)
unfolding factors_of
series-serve ω f t e g = is-series (by_series ω) (series_of ω) t (closed_of ω) (sym g ∙ e)

pub closed-serve : (ω : Float) (f : Factors) (t : C.Closed) → f ≡ factors_of ω → f ≡ Closed t → (by_series ω ≡ false) × (t ≡ closed_of ω)
unfolding factors_of
closed-serve ω f t e g = is-closed (by_series ω) (series_of ω) (closed_of ω) t (sym g ∙ e)
