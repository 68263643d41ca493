-- The loops of `reduce` as they stand: so many iterations from the entry's slice, and from the sums given. Assumes nothing.
use mathlib.Core.Path.{◌≡◌, sym, ap, ◌∙◌}
use mathlib.Core.List.{List}
use Prim.Native.Nat.{ℕ, ◌+◌, ◌*◌, ◌/◌, ◌%◌, ◌≤◌}
use native.Mathlib.Omega.{arith}
use lib.Ieee.{Float}
use Rattle.linear_cells.specs.Iter.{iter}
use Rattle.linear_cells.specs.Cell.{set_c}
use Rattle.linear_cells.proofs.Loops.{iter-none, iter-more}
use Rattle.linear_vectors.specs.declared.residual.Sums.{Sums}
use Rattle.linear_vectors.specs.declared.residual.Term.{Term}
use Rattle.linear_vectors.specs.ResidualWork.{term_at, put_term, term_step, put_pair, pair_step, no_sums, add_c, add_step, Lag, lag, lag_at, lag_step}

-- two places
pub pair-at-all : (w : List Float) (r q inverse n : ℕ) (alpha : Float) (i : ℕ) {w₁ w₂ : List Float} {t u : Term} → t ≡ term_at w r q inverse n alpha i → u ≡ term_at w r q inverse n alpha (i + 1)
    → w₁ ≡ set_c (set_c w r n i t.residual) r n (i + 1) u.residual → w₂ ≡ set_c (set_c w₁ q n i t.products) q n (i + 1) u.products
    → w₂ ≡ pair_step r q inverse n alpha i w
unfolding pair_step put_pair
pair-at-all w r q inverse n alpha i et eu e₁ e₂ = e₂ ∙ rw (e₁, et, eu)

-- the end of each loop
ended : {S : Type 0} (step : ℕ → S → S) (s : S) {t : S} {k c : ℕ} → k ≤ c → c ≤ k → t ≡ iter step k s → t ≡ iter step c s
ended step s {t} {k} {c} g h e = let z : k ≡ c = omega arith in e ∙ ap (λ k. iter step k s) z

module _ (w : List Float) (r q inverse n : ℕ) (alpha : Float) (first : ℕ) where
  unfoldable pub terms_to : ℕ → List Float
  terms_to k = iter (term_step r q inverse n alpha first) k w

  pub terms-none : w ≡ terms_to 0
  unfolding terms_to
  terms-none = sym (iter-none _ w)

  pub terms-again : (k : ℕ) {w₁ w₂ : List Float} → w₁ ≡ terms_to k → w₂ ≡ put_term w₁ r q n (first + k) (term_at w₁ r q inverse n alpha (first + k)) → w₂ ≡ terms_to (k + 1)
  unfolding terms_to term_step
  terms-again k e₁ e₂ = e₂ ∙ rw e₁ (sym (iter-more (term_step r q inverse n alpha first) k w))

  pub terms-done : {w₁ : List Float} {k c : ℕ} → k ≤ c → c ≤ k → w₁ ≡ terms_to k → w₁ ≡ iter (term_step r q inverse n alpha first) c w
  unfolding terms_to
  terms-done g h e = ended (term_step r q inverse n alpha first) w g h e

module _ (w : List Float) (q n first : ℕ) (s : Sums) where
  unfoldable pub add_to : ℕ → Sums
  add_to k = iter (add_step w q n first) k s

  pub add_none : s ≡ add_to 0
  unfolding add_to
  add_none = sym (iter-none _ s)

  pub add-again : (k : ℕ) {t u : Sums} → t ≡ add_to k → u ≡ add_c w q n (first + k) t → u ≡ add_to (k + 1)
  unfolding add_to add_step
  add-again k e₁ e₂ = e₂ ∙ rw e₁ (sym (iter-more (add_step w q n first) k s))

  pub add_done : {t : Sums} {k c : ℕ} → k ≤ c → c ≤ k → t ≡ add_to k → t ≡ iter (add_step w q n first) c s
  unfolding add_to
  add_done g h e = ended (add_step w q n first) s g h e

module _ (w : List Float) (r q inverse n : ℕ) (alpha : Float) where
  unfoldable pub lag_to : ℕ → Lag
  lag_to k = iter (lag_step r q inverse n alpha) k (lag w no_sums)

  -- by the place i that comes next: i / 2 pairs are put
  pub lag-none : lag w no_sums ≡ lag_to 0
  unfolding lag_to
  lag-none = sym (iter-none _ (lag w no_sums))

  pub lag-again : (i : ℕ) {w₁ w₂ : List Float} {s t : Sums} → i % 2 ≡ 0 → lag w₁ s ≡ lag_to (i / 2) → lag w₂ t ≡ lag_at r q inverse n alpha i (lag w₁ s) → lag w₂ t ≡ lag_to ((i + 2) / 2)
  unfolding lag_to lag_step
  lag-again i even e₁ e₂ =
      let z : (i + 2) / 2 ≡ i / 2 + 1 = omega arith in
      let k : 2 * (i / 2) ≡ i = omega arith in
      rw (z, iter-more, k) (e₂ ∙ ap (lag_at r q inverse n alpha i) e₁)

  pub lag-done : {w₁ : List Float} {s : Sums} {i : ℕ} (c : ℕ) → 2 * c ≤ i → i ≤ 2 * c → lag w₁ s ≡ lag_to (i / 2) → lag w₁ s ≡ iter (lag_step r q inverse n alpha) c (lag w no_sums)
  unfolding lag_to
  lag-done {i = i} c g h e = let z : i / 2 ≡ c = omega arith in e ∙ rw z

  pub lag-at-all : (i : ℕ) (s : Sums) {w₁ : List Float} {t u : Sums} → w₁ ≡ pair_step r q inverse n alpha (i + 2) w → t ≡ add_c w₁ q n i s → u ≡ add_c w₁ q n (i + 1) t
      → lag w₁ u ≡ lag_at r q inverse n alpha i (lag w s)
  unfolding lag_at
  lag-at-all i s e₁ et eu = rw (eu, et, e₁)
