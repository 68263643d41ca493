-- A table of refusals gives each row exactly if its condition is the first that holds. Assumes nothing.
use Prim.Native.Nat.{ℕ, zero, suc, ◌+◌, ◌<◌}
use native.Mathlib.Omega.{arith}
use mathlib.Core.Path.{◌≡◌, refl, sym, ap, ◌∙◌, subst}
use mathlib.Core.Bool.{Bool, true, false, cond}
use mathlib.Core.List.{List, [], ◌∷◌}
use lib.ListN.{length, get_or}
use Rattle.std.specs.Prelude.{Ok, Err}
use Rattle.refusals.specs.declared.Refusal.{Refusal}
use Rattle.refusals.specs.Refusal.{row_at, Verdict}
use Rattle.pass_options.specs.Table.{Row, no_row, first_of, FirstHolds, ByTable}

differ : {A : Type 0} (x : Refusal) → ◌≡◌ {A = Verdict} (Err x) (Ok tt) → A
differ x e = let z : ◌≡◌ {A = ℕ} 0 1 = cc in absurd (omega arith)

passed : (b : Bool) (x : Refusal) (rest : Verdict) → cond b (Err x) rest ≡ Ok tt → (b ≡ false) × (rest ≡ Ok tt)
passed true x rest e = differ x e
passed false x rest e = (refl, e)

pub first-sound : (rs : List Row) → first_of rs ≡ Ok tt → (j : ℕ) → j < length rs → (get_or rs j no_row).holds ≡ false
first-sound [] e j h = absurd (omega arith)
first-sound (r ∷ rs) e zero h = (passed r.holds (row_at r.number r.place) (first_of rs) e).0
first-sound (r ∷ rs) e (suc j) h = first-sound rs (passed r.holds (row_at r.number r.place) (first_of rs) e).1 j (omega arith)

first-none : (rs : List Row) → ((j : ℕ) → j < length rs → (get_or rs j no_row).holds ≡ false) → first_of rs ≡ Ok tt
first-none [] h = refl
first-none (r ∷ rs) h = rw (h 0 (omega arith)) (first-none rs (λ j l. h (suc j) (omega arith)))

first-if : (rs : List Row) (i : ℕ) → FirstHolds rs i → first_of rs ≡ Err (row_at (get_or rs i no_row).number (get_or rs i no_row).place)
first-if [] i f = absurd (omega (arith, f.within))
first-if (r ∷ rs) zero f = rw f.holds
first-if (r ∷ rs) (suc i) f = rw (f.no-earlier 0 (omega arith)) (first-if rs i (record { within = omega (arith, f.within); holds = f.holds; no-earlier = λ j k. f.no-earlier (suc j) (omega arith) }))

-- which row a refusal comes from
pub record From (rs : List Row) (x : Refusal) : Type 0 where
  pub i : ℕ
  pub first : FirstHolds rs i
  pub is : x ≡ row_at (get_or rs i no_row).number (get_or rs i no_row).place

from-later : (r : Row) (rs : List Row) (x : Refusal) → r.holds ≡ false → From rs x → From (r ∷ rs) x
from-later r rs x e f = record { i = suc f.i; first = record { within = omega (arith, f.first.within); holds = f.first.holds; no-earlier = before }; is = f.is }
  where
    before : (j : ℕ) → j < suc f.i → (get_or (r ∷ rs) j no_row).holds ≡ false
    before zero l = e
    before (suc j) l = f.first.no-earlier j (omega arith)

pub first-from : (rs : List Row) (x : Refusal) → first_of rs ≡ Err x → From rs x
first-from [] x e = differ x (sym e)
first-from (r ∷ rs) x e = go r.holds refl e (first-from rs x)
  where
    go : (b : Bool) → r.holds ≡ b → cond b (Err (row_at r.number r.place)) (first_of rs) ≡ Err x → (first_of rs ≡ Err x → From rs x) → From (r ∷ rs) x
    go true h g ih = record { i = 0; first = record { within = omega arith; holds = h; no-earlier = λ j l. absurd (omega arith) }; is = cc }
    go false h g ih = from-later r rs x h (ih g)

-- rows numbered one after another
abbrev pub NumberedFrom : ℕ → List Row → Type 0
NumberedFrom k [] = Unit {0}
NumberedFrom k (r ∷ rs) = (r.number ≡ k) × NumberedFrom (suc k) rs

pub number_at : (k : ℕ) (rs : List Row) → NumberedFrom k rs → (i : ℕ) → i < length rs → (get_or rs i no_row).number ≡ k + i
number_at k [] h i l = absurd (omega arith)
number_at k (r ∷ rs) h zero l = h.0 ∙ omega arith
number_at k (r ∷ rs) h (suc i) l = number_at (suc k) rs h.1 i (omega arith) ∙ omega arith

pub by-table : (rs : List Row) → NumberedFrom 1 rs → ByTable rs (first_of rs)
by-table rs h = record {
  rows = λ i. record {
    given = λ p e. found i p (first-from rs (row_at (suc i) p) e);
    if = λ f. first-if rs i f ∙ ap (λ (k : ℕ). Err (row_at k (get_or rs i no_row).place)) (number_at 1 rs h i f.within ∙ omega arith);
  };
  sound = (first-sound rs, first-none rs);
}
  where
    found : (i p : ℕ) → From rs (row_at (suc i) p) → FirstHolds rs i × (p ≡ (get_or rs i no_row).place)
    found i p f =
        let e : suc i ≡ (get_or rs f.i no_row).number = ap (λ (x : Refusal). x.number) f.is in
        let same : f.i ≡ i = omega (arith, e, number_at 1 rs h f.i f.first.within) in
        subst (λ (k : ℕ). FirstHolds rs k × (p ≡ (get_or rs k no_row).place)) same (f.first, ap (λ (x : Refusal). x.place) f.is)
