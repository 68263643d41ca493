-- The loops of the start vector: the bounds of coordinates, and the ramp. Assumes nothing.
use mathlib.Core.Path.{◌≡◌, sym, ap, ◌∙◌}
use mathlib.Core.List.{List}
use Prim.Native.Nat.{ℕ, ◌+◌, ◌≤◌, ◌<◌}
use native.Mathlib.Omega.{arith}
use lib.Ieee.{Float, nan}
use lib.ListN.{length, get_or}
use Rattle.float.specs.Double.{lit, max_of, min_of}
use Rattle.complex.specs.declared.Complex.{Complex}
use Rattle.linear_cells.specs.Iter.{iter}
use Rattle.linear_cells.specs.Region.{region}
use Rattle.linear_cells.specs.Cell.{set_c, put_c}
use Rattle.linear_cells.proofs.Loops.{iter-none, iter-more, tab-ext}
use Rattle.linear_cells.proofs.Regions.{get_or-region, length-region}
use Rattle.linear_cells.proofs.Each.{each_to, each_none, each-real, each_again, each-done}
use Rattle.pass_inverse_iteration.specs.declared.start.Extent.{Extent}
use Rattle.pass_inverse_iteration.specs.declared.start.Ramp.{Ramp}
use Rattle.pass_inverse_iteration.specs.Start.{low_step, high_step, bounds_of, ramp_of, start_at, ramped_by, start_of, StartRoom}

-- ---- bounds

module _ (w : List Float) (b n : ℕ) where
  unfoldable pub bounds_to : ℕ → Extent
  bounds_to i = record {
    low = iter (low_step (region nan w b n)) i (lit 0x7ff0_0000_0000_0000);
    high = iter (high_step (region nan w b n)) i (lit 0xfff0_0000_0000_0000);
  }

  pub bounds-none : record { low = lit 0x7ff0_0000_0000_0000; high = lit 0xfff0_0000_0000_0000 } ≡ bounds_to 0
  unfolding bounds_to
  bounds-none =
      let low : lit 0x7ff0_0000_0000_0000 ≡ (bounds_to 0).low = sym (iter-none (low_step (region nan w b n)) (lit 0x7ff0_0000_0000_0000)) in
      let high : lit 0xfff0_0000_0000_0000 ≡ (bounds_to 0).high = sym (iter-none (high_step (region nan w b n)) (lit 0xfff0_0000_0000_0000)) in
      λ k. record { low = low k; high = high k }

  pub bounds-again : (i : ℕ) → i < n → {s r : Extent} → s ≡ bounds_to i
      → (r.low ≡ min_of s.low (get_or w (b + i) nan)) × (r.high ≡ max_of s.high (get_or w (b + i) nan)) → r ≡ bounds_to (i + 1)
  unfolding bounds_to low_step high_step
  bounds-again i l {s} {r} e₁ e₂ =
      let low : r.low ≡ (bounds_to (i + 1)).low = e₂.0 ∙ rw (e₁, iter-more, get_or-region w b n i nan l) in
      let high : r.high ≡ (bounds_to (i + 1)).high = e₂.1 ∙ rw (e₁, iter-more, get_or-region w b n i nan l) in
      λ k. record { low = low k; high = high k }

  pub bounds-done : {i : ℕ} {s : Extent} → i ≤ n → n ≤ i → s ≡ bounds_to i → s ≡ bounds_of (region nan w b n)
  unfolding bounds_to bounds_of
  bounds-done {i} l g e = let z : i ≡ n = omega arith in e ∙ rw (z, length-region)

-- ---- the ramp

module _ (w : List Float) (x y at n : ℕ) (r : Ramp) where
  at_point : ℕ → Complex → Complex
  at_point i z = start_at r (get_or w (x + i) nan) (get_or w (y + i) nan)

  unfoldable pub ramp_to : ℕ → List Complex
  unfolding at_point
  ramp_to i = each_to at_point w at n i

  pub ramp-none : w ≡ put_c w at (ramp_to 0)
  unfolding ramp_to
  ramp-none = each_none at_point w at n

  pub ramp-again : StartRoom (length w) x y at n → (i : ℕ) → i < n → {w₁ w₂ : List Float} → w₁ ≡ put_c w at (ramp_to i)
      → w₂ ≡ set_c w₁ at n i (start_at r (get_or w₁ (x + i) nan) (get_or w₁ (y + i) nan)) → w₂ ≡ put_c w at (ramp_to (i + 1))
  unfolding ramp_to at_point
  ramp-again ok i l {w₁} e₁ e₂ =
      each_again at_point w at n ok.at_in i l e₁ e₂ (rw (each-real at_point w at n x n i i ok.at_x l e₁, each-real at_point w at n y n i i ok.at_y l e₁))

  pub ramp-done : {w₁ : List Float} {i : ℕ} → i ≤ n → n ≤ i → w₁ ≡ put_c w at (ramp_to i) → w₁ ≡ put_c w at (ramped_by r (region nan w x n) (region nan w y n))
  unfolding ramp_to ramped_by at_point
  ramp-done l g e =
      each-done at_point w at n l g e
      ∙ ap (put_c w at) (sym (rw length-region (tab-ext _ _ n (λ i h. rw (get_or-region w x n i nan h, get_or-region w y n i nan h)))))

pub start-all : (w : List Float) (x y at n : ℕ) {p q : Extent} {r : Ramp} {w₁ : List Float} → p ≡ bounds_of (region nan w x n) → q ≡ bounds_of (region nan w y n) → r ≡ ramp_of p q
    → w₁ ≡ put_c w at (ramped_by r (region nan w x n) (region nan w y n)) → w₁ ≡ put_c w at (start_of (region nan w x n) (region nan w y n))
unfolding start_of
start-all w x y at n ep eq er e = e ∙ rw (er, ep, eq)
