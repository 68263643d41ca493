-- What two slices have in common below an index: each region there; and the other way round. Assumes nothing.
use Prim.Native.Nat.{ℕ, ◌+◌, ◌≤◌, ◌<◌}
use native.Mathlib.Omega.{arith}
use mathlib.Core.Path.{◌≡◌, sym, ap, ◌∙◌, subst}
use mathlib.Core.List.{List}
use lib.ListN.{get_or}
use Rattle.linear_cells.specs.Region.{region}
use Rattle.linear_cells.proofs.Loops.{tab-ext}
use Rattle.linear_cells.proofs.Regions.{get_or-region}

module _ {A : Type 0} (d : A) (k : ℕ) (xs ys : List A) where
  pub region-below : ((j : ℕ) → j < k → get_or ys j d ≡ get_or xs j d) → (b n : ℕ) → b + n ≤ k → region d ys b n ≡ region d xs b n
  unfolding region
  region-below same b n h = tab-ext _ _ n (λ i g. same (b + i) (omega arith))

  pub below-regions : ((b n : ℕ) → b + n ≤ k → region d ys b n ≡ region d xs b n) → (j : ℕ) → j < k → get_or ys j d ≡ get_or xs j d
  below-regions same j h =
      let e : j + 0 ≡ j = omega arith in
      subst (λ (i : ℕ). get_or ys i d ≡ get_or xs i d) e
      (sym (get_or-region ys j 1 0 d (omega arith)) ∙ ap (λ (v : List A). get_or v 0 d) (same j 1 (omega arith)) ∙ get_or-region xs j 1 0 d (omega arith))
