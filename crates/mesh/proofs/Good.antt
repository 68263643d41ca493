-- The refined list has corners in range and pairwise different again, the points being the old ones and the midpoints: what the pass on the refined
-- floor needs. Assumes nothing.
use Prim.Native.Nat.{ℕ, ◌+◌, ◌≤◌, ◌<◌}
use native.Mathlib.Omega.{arith}
use mathlib.Core.Path.{◌≡◌, refl}
use mathlib.Core.Bool.{Bool}
use mathlib.Core.List.{List, [], ◌∷◌}
use mathlib.Core.Option.{Option, none, some}
use lib.ListN.{length}
use Rattle.mesh.specs.Mesh.{Tri, tri, Good, All, cuts, mid, split, pieces, refined, refine, Distinct}
use Rattle.mesh.specs.Claim.{InRange}
use Rattle.mesh.proofs.Whole.{All-append, All-map, All-both, refined-distinct}
use Rattle.mesh.proofs.Cuts.{mids}
use Rattle.mesh.proofs.Theorem.{refines}

module _ (n k : ℕ) (m : ℕ → ℕ → Option ℕ) (low : n ≤ k) (below : (u v p : ℕ) → m u v ≡ some p → p < k) where
  split-in-range : (a b c : ℕ) (o₁ o₂ o₃ : Option ℕ) → Good n (tri a b c) → m a b ≡ o₁ → m b c ≡ o₂ → m c a ≡ o₃ → All (InRange k) (split a b c o₁ o₂ o₃)
  split-in-range a b c none none none g e₁ e₂ e₃ = omega arith
  split-in-range a b c (some p) none none g e₁ e₂ e₃ = omega (arith, below a b p e₁)
  split-in-range a b c none (some q) none g e₁ e₂ e₃ = omega (arith, below b c q e₂)
  split-in-range a b c none none (some r) g e₁ e₂ e₃ = omega (arith, below c a r e₃)
  split-in-range a b c (some p) (some q) none g e₁ e₂ e₃ = omega (arith, below a b p e₁, below b c q e₂)
  split-in-range a b c none (some q) (some r) g e₁ e₂ e₃ = omega (arith, below b c q e₂, below c a r e₃)
  split-in-range a b c (some p) none (some r) g e₁ e₂ e₃ = omega (arith, below a b p e₁, below c a r e₃)
  split-in-range a b c (some p) (some q) (some r) g e₁ e₂ e₃ = omega (arith, below a b p e₁, below b c q e₂, below c a r e₃)

  refined-in-range : (ts : List Tri) → All (Good n) ts → All (InRange k) (refined m ts)
  refined-in-range [] h = tt
  refined-in-range (tri a b c ∷ ts) h =
      All-append (InRange k) (pieces m (tri a b c)) (refined m ts) (split-in-range a b c (m a b) (m b c) (m c a) h.0 refl refl refl) (refined-in-range ts h.1)

good_of : (k : ℕ) (t : Tri) → InRange k t × Distinct t → Good k t
good_of k (tri a b c) h = (h.0.0, h.0.1, h.0.2, h.1.0, h.1.1, h.1.2)

pub both-good : (k : ℕ) (ts : List Tri) → All (InRange k) ts → All Distinct ts → All (Good k) ts
both-good k ts r d = All-map _ (Good k) (good_of k) ts (All-both (InRange k) Distinct ts r d)

pub refined-good : (n : ℕ) (f : Tri → Bool) (ts : List Tri) → All (Good n) ts → All (Good (n + length (cuts f ts))) (refine n f ts)
unfolding refine
refined-good n f ts good =
    let m = mid n (cuts f ts) in
    let k = n + length (cuts f ts) in
    let in-range = refined-in-range n k m (omega arith) (λ u v p e. ((refines n f ts good).midpoint u v p e).1) ts good in
    both-good k (refined m ts) in-range (refined-distinct n m (mids n (cuts f ts)) ts good)
