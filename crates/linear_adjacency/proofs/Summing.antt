-- The iterations of the loop that adds the counts up, over lists of numbers. Assumes nothing.
use mathlib.Core.Path.{◌≡◌, refl, sym, ap, ◌∙◌}
use mathlib.Core.List.{List}
use Prim.Native.Nat.{ℕ, zero, suc, ◌+◌, ◌^◌, ◌≤◌, ◌<◌}
use native.Mathlib.Decide.{ℕ_discrete}
use native.Mathlib.Numerals.{add-one}
use native.Mathlib.Omega.{arith}
use lib.ListN.{length, get_or, set}
use Rattle.linear_cells.specs.Region.{region, put}
use Rattle.linear_cells.proofs.Regions.{length-region, get_or-region, put-within, put-region}
use Rattle.linear_cells.proofs.Over.{over, over_none, length_over, over-all, over-region, over-todo}
use Rattle.linear_adjacency.specs.Build.{total, totals}

module _ (w : List ℕ) (at m : ℕ) where
  total-more : (v : ℕ) → total w at (v + 1) ≡ total w at v + get_or w (at + v) 0
  unfolding total
  total-more v = rw (add-one, total)

  total_mono : (v k : ℕ) → v ≤ k → total w at v ≤ total w at k
  total_mono v zero l = let z : v ≡ 0 = omega arith in rw z (omega arith)
  total_mono v (suc k) l = rest (ℕ_discrete v (suc k)) (λ h. total_mono v k h)
    where
      rest : Dec (v ≡ suc k) → (v ≤ k → total w at v ≤ total w at k) → total w at v ≤ total w at (suc k)
      rest (yes z) more = rw z (omega arith)
      rest (no f) more = let z : total w at (suc k) ≡ total w at k + get_or w (at + k) 0 = rw add-one at (total-more k) in omega (arith, more (omega arith))

  total_at : ℕ → ℕ → ℕ
  total_at v z = total w at (v + 1)

  unfoldable pub totals_to : ℕ → List ℕ
  unfolding total_at
  totals_to i = over total_at 0 i (region 0 w at m)

  pub sums_none : w ≡ put w at (totals_to 0)
  unfolding totals_to
  sums_none = rw (over_none, put-region)

  pub total-none : 0 ≡ total w at 0
  unfolding total
  total-none = refl

  sums-read : at + m ≤ length w → (v : ℕ) → v < m → {w₁ : List ℕ} → w₁ ≡ put w at (totals_to v) → get_or w₁ (at + v) 0 ≡ get_or w (at + v) 0
  unfolding totals_to
  sums-read h v l e₁ =
      let size : length (totals_to v) ≡ m = length_over total_at 0 v (region 0 w at m) ∙ length-region 0 w at m in
      ap (λ t. get_or t (at + v) 0) e₁ ∙ put-within w at (totals_to v) v 0 (omega arith) (omega arith)
      ∙ over-todo total_at 0 v (region 0 w at m) v (omega arith) ∙ get_or-region w at m v 0 l

  pub sums-fits : at + m ≤ length w → total w at m < 2 ^ 32 → (v : ℕ) → v < m → {w₁ : List ℕ} {s : ℕ} → s ≡ total w at v → w₁ ≡ put w at (totals_to v) → s + get_or w₁ (at + v) 0 < 2 ^ 32
  sums-fits h k v l es e₁ = rw (sums-read h v l e₁) (omega (arith, total-more v, total_mono (v + 1) m (omega arith)))

  pub sums-sum : at + m ≤ length w → (v : ℕ) → v < m → {w₁ : List ℕ} {s r : ℕ} → s ≡ total w at v → w₁ ≡ put w at (totals_to v) → r ≡ s + get_or w₁ (at + v) 0 → r ≡ total w at (v + 1)
  sums-sum h v l es e₁ er = er ∙ rw (sums-read h v l e₁, es) (sym (total-more v))

  pub sums-again : at + m ≤ length w → (v : ℕ) → v < m → {w₁ w₂ : List ℕ} {s : ℕ} → s ≡ total w at v → w₁ ≡ put w at (totals_to v)
      → w₂ ≡ set w₁ (at + v) (s + get_or w₁ (at + v) 0) → w₂ ≡ put w at (totals_to (v + 1))
  unfolding totals_to total_at
  sums-again h v l {w₁} {w₂} {s} es e₁ e₂ =
      let z : s + get_or w₁ (at + v) 0 ≡ total w at (v + 1) = rw (sums-read h v l e₁, es) (sym (total-more v)) in
      e₂ ∙ ap (set w₁ (at + v)) z ∙ rw e₁ (over-region total_at 0 w at (region 0 w at m) (length-region 0 w at m) h v l)

  pub sums-done : {w₁ : List ℕ} {i : ℕ} → i ≤ m → m ≤ i → w₁ ≡ put w at (totals_to i) → w₁ ≡ put w at (totals w at m)
  unfolding totals_to totals total_at
  sums-done {w₁} {i} l g e = let z : i ≡ m = omega arith in e ∙ rw z (ap (put w at) (over-all total_at 0 (region 0 w at m) (length-region 0 w at m)))
