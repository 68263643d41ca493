-- The real part of conj u * v with one sign less: a * b - (-c) * d is a * b + c * d, for every a, b, c and d. Assumes nothing.
use mathlib.Core.Path.{◌≡◌, refl, sym, ap, ◌∙◌}
use mathlib.Core.Bool.{Bool, true, false, not, cond}
use Prim.Native.Nat.{◌*◌}
use lib.Dec.{eqb}
use lib.Ieee.{Float, nan, inf, fin, Format, binary64, up, down, neg, add, sub, mul, unlike}
use Rattle.float.specs.Double.{◌⊕◌, ◌⊖◌, ◌⊗◌}
use Rattle.float.proofs.Sign.{round-neg}
use Rattle.complex.specs.declared.Complex.{Complex}
use Rattle.complex.specs.Complex.{cadd, cmul, cconj}
use Rattle.linear_hermitian.specs.Work.{re_term}

not-not : (s : Bool) → not (not s) ≡ s
not-not true = refl
not-not false = refl

neg-neg : (x : Float) → neg (neg x) ≡ x
unfolding neg
neg-neg nan = refl
neg-neg (inf s) = ap inf (not-not s)
neg-neg (fin s m e) = rw not-not

unlike-not : (s t : Bool) → unlike (not s) t ≡ not (unlike s t)
unlike-not true true = refl
unlike-not true false = refl
unlike-not false true = refl
unlike-not false false = refl

mul-neg : (f : Format) (x y : Float) → mul f (neg x) y ≡ neg (mul f x y)
unfolding mul neg
mul-neg f nan y = refl
mul-neg f (inf s) nan = refl
mul-neg f (inf s) (inf t) = ap inf (unlike-not s t)
mul-neg f (inf s) (fin t n d) = either (eqb n 0) s t
  where
    either : (b s t : Bool) → cond b nan (inf (unlike (not s) t)) ≡ neg (cond b nan (inf (unlike s t)))
    either true s t = refl
    either false s t = ap inf (unlike-not s t)
mul-neg f (fin s m e) nan = refl
mul-neg f (fin s m e) (inf t) = either (eqb m 0) s t
  where
    either : (b s t : Bool) → cond b nan (inf (unlike (not s) t)) ≡ neg (cond b nan (inf (unlike s t)))
    either true s t = refl
    either false s t = ap inf (unlike-not s t)
mul-neg f (fin s m e) (fin t n d) = rw unlike-not (sym (round-neg f (unlike s t) (m * up e * (n * up d)) (down e * down d)))

sub-neg : (f : Format) (x y : Float) → sub f x (neg y) ≡ add f x y
unfolding sub
sub-neg f x y = ap (add f x) (neg-neg y)

pub re-term : (s u v : Complex) → (cadd s (cmul (cconj u) v)).re ≡ s.re ⊕ re_term u v
unfolding cadd cmul cconj re_term
re-term s u v =
    ap (λ t. s.re ⊕ (u.re ⊗ v.re ⊖ t)) (mul-neg binary64 u.im v.im)
    ∙ ap (λ t. s.re ⊕ t) (sub-neg binary64 (u.re ⊗ v.re) (u.im ⊗ v.im))
