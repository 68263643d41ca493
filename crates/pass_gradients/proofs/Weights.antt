-- The sum of positive doubles at a point: 0 where no triangle has the point, and above zero otherwise. Assumes nothing.
use Prim.Native.Nat.{ℕ, zero, suc, ◌<◌}
use native.Mathlib.Omega.{arith}
use native.Mathlib.Decide.{ℕ_discrete}
use mathlib.Core.Path.{◌≡◌, refl, sym, ◌∙◌, subst}
use mathlib.Core.Logic.{◌≢◌, ◌⊎◌, inl, inr}
use borrow.Author.Tests.{eq-eqb, ne_eqb}
use lib.Dec.{T}
use lib.Ieee.{Float, binary64, fits}
use lib.Ieee.Positive.{positive, above}
use Rattle.float.specs.Double.{lit}
use Rattle.float.proofs.Sign.{Plain}
use Rattle.float.proofs.Above.{add-above, above-plain, zero-plain}
use Rattle.mesh.specs.Mesh.{Tri, tri}
use Rattle.pass_gradients.specs.Gradients.{add_corner, add_tri, sum_to}

-- the triangle does not have the point v
abbrev pub Misses : ℕ → Tri → Type 0
Misses v (tri a b c) = (v ≢ a) × (v ≢ b) × (v ≢ c)

-- a sum so far: above zero, or 0 where nothing was added
abbrev So : Type 0 → Float → Type 0
So Q sum = T (above sum) ⊎ (Q × (sum ≡ lit 0))

so-plain : (Q : Type 0) (sum : Float) → So Q sum → Plain sum
so-plain Q sum (inl a) = above-plain sum a
so-plain Q sum (inr e) = subst Plain (sym e.1) zero-plain

module _ (v : ℕ) (x : Float) (p : T (positive x)) (q : T (fits binary64 x)) where
  so-corner : (Q : Type 0) (i : ℕ) (sum : Float) → So Q sum → So (Q × (v ≢ i)) (add_corner v i x sum)
  so-corner Q i sum s = go (ℕ_discrete v i) s
    where
      go : Dec (v ≡ i) → So Q sum → So (Q × (v ≢ i)) (add_corner v i x sum)
      go (yes e) s = inl (rw (eq-eqb v i e) (add-above sum x (so-plain Q sum s) p q))
      go (no e) (inl a) = inl (rw (ne_eqb v i e) a)
      go (no e) (inr z) = inr ((z.0, e), rw (ne_eqb v i e) z.1)

  so-tri : (Q : Type 0) (s : Tri) (sum : Float) → So Q sum → So (Q × Misses v s) (add_tri v s x sum)
  so-tri Q (tri a b c) sum s = go (so-corner _ c _ (so-corner _ b _ (so-corner Q a sum s)))
    where
      go : So (((Q × (v ≢ a)) × (v ≢ b)) × (v ≢ c)) (add_tri v (tri a b c) x sum) → So (Q × Misses v (tri a b c)) (add_tri v (tri a b c) x sum)
      go (inl h) = inl h
      go (inr h) = inr ((h.0.0.0.0, (h.0.0.0.1, h.0.0.1, h.0.1)), h.1)

module _ (ts : ℕ → Tri) (f : ℕ → Float) (v : ℕ) where
  -- the first t triangles, each of which adds a positive double
  pub so-sum : (t : ℕ) → ((i : ℕ) → i < t → T (positive (f i)) × T (fits binary64 (f i))) → T (above (sum_to ts f v t)) ⊎ (((i : ℕ) → i < t → Misses v (ts i)) × (sum_to ts f v t ≡ lit 0))
  unfolding sum_to
  so-sum zero h = inr (λ i l. absurd (omega arith), refl)
  so-sum (suc t) h = go (so-tri v (f t) (h t (omega arith)).0 (h t (omega arith)).1 _ (ts t) (sum_to ts f v t) (so-sum t (λ i l. h i (omega arith))))
    where
      go : So (((i : ℕ) → i < t → Misses v (ts i)) × Misses v (ts t)) (add_tri v (ts t) (f t) (sum_to ts f v t)) → So ((i : ℕ) → i < suc t → Misses v (ts i)) (add_tri v (ts t) (f t) (sum_to ts f v t))
      go (inl a) = inl a
      go (inr z) = inr (λ i l. last i l (ℕ_discrete i t), z.1)
        where
          last : (i : ℕ) → i < suc t → Dec (i ≡ t) → Misses v (ts i)
          last i l (yes e) = subst (λ (k : ℕ). Misses v (ts k)) (sym e) z.0.1
          last i l (no e) = z.0.0 i (omega arith)

  missed : (s : Tri) (x sum : Float) → Misses v s → add_tri v s x sum ≡ sum
  missed (tri a b c) x sum h = rw (ne_eqb v a h.0, ne_eqb v b h.1, ne_eqb v c h.2)

  -- and what none of them has
  pub none-sum : (t : ℕ) → ((i : ℕ) → i < t → Misses v (ts i)) → sum_to ts f v t ≡ lit 0
  unfolding sum_to
  none-sum zero h = refl
  none-sum (suc t) h = missed (ts t) (f t) (sum_to ts f v t) (h t (omega arith)) ∙ none-sum t (λ i l. h i (omega arith))
