-- What `map_err` leaves of a verdict: it is done exactly if the verdict was, and its error is made from the verdict's. Assumes nothing.
use mathlib.Core.Path.{◌≡◌, refl}
use Rattle.std.specs.Prelude.{Ok, Err, MatchResult, IsErrAnd}
use Rattle.refusals.specs.declared.Refusal.{Refusal}
use Rattle.refusals.specs.Refusal.{Verdict}

pub mapped-ok : (v m : Verdict) (P : Refusal → Refusal → Type 0) → MatchResult v (λ x. m ≡ Ok x) (λ e. IsErrAnd m (P e)) → m ≡ Ok tt → v ≡ Ok tt
mapped-ok (Ok u) m P h e = refl
mapped-ok (Err x) (Ok u) P h e = absurd h
mapped-ok (Err x) (Err y) P h e = absurd (cc)

pub record Mapped (v : Verdict) (P : Refusal → Refusal → Type 0) (y : Refusal) : Type 0 where
  pub error : Refusal
  pub was : v ≡ Err error
  pub made : P error y

pub mapped-err : (v m : Verdict) (P : Refusal → Refusal → Type 0) (y : Refusal) → MatchResult v (λ x. m ≡ Ok x) (λ e. IsErrAnd m (P e)) → m ≡ Err y → Mapped v P y
mapped-err (Ok u) m P y h e = absurd (cc)
mapped-err (Err x) (Ok u) P y h e = absurd h
mapped-err (Err x) (Err z) P y h e = let q : z ≡ y = cc in record { error = x; was = refl; made = rw q at h }
