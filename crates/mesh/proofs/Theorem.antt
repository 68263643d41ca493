-- The claim `Refines` of specs/Claim.antt, for every list of triangles with corners in range and pairwise different. Assumes nothing.
use Prim.Native.Nat.{ℕ, zero, suc, ◌+◌, ◌≤◌, ◌<◌}
use native.Mathlib.Omega.{arith}
use mathlib.Core.Path.{◌≡◌, refl, sym, ap, ap₂, ◌∙◌}
use mathlib.Core.Logic.{◌≢◌, ◌↔◌, inl, inr}
use mathlib.Core.Bool.{Bool, and_comm}
use mathlib.Core.List.{List, [], ◌∷◌, ◌++◌, append_assoc}
use mathlib.Core.Option.{Option, none, some}
use lib.ListN.{length}
use Rattle.mesh.specs.Mesh.{Tri, tri, Side, key, next, index_in, mid, cuts, above, marked, Good, All, at, lies, one, total, count, split, pieces, refined, refine, Distinct}
use Rattle.mesh.specs.Claim.{listed, InRange, Refines, cuts_of}
use Rattle.mesh.proofs.Weigh.{F, F-zero, F-one, around}
use Rattle.mesh.proofs.Whole.{All-map, all-distinct, good-in-range, count-around, total-zero, old-side, half-side}
use Rattle.mesh.proofs.Inner.{inner-side}
pub use Rattle.mesh.proofs.Cuts.{index_below}
use Rattle.mesh.proofs.Cuts.{key-same, same_key, side-discrete, index-here, index-past, next-none, above-some, above-none, never, mids, marked_all}
use Rattle.mesh.proofs.Order.{cuts-met, cut-sides, good-ends}

-- ---- which sides are cut

cons-out : (s t : Side) (l : List Side) → (index_in s (t ∷ l) ≡ none) ↔ ((s ≢ t) × (index_in s l ≡ none))
cons-out s t l = (λ e. (λ q. never (index_in s (t ∷ l)) zero e (index-here s t l q), go e (side-discrete s t)), λ e. index-past s t l e.0 ∙ ap next e.1)
  where
    go : index_in s (t ∷ l) ≡ none → Dec (s ≡ t) → index_in s l ≡ none
    go e (yes q) = never (index_in s (t ∷ l)) zero e (index-here s t l q)
    go e (no q) = next-none (index_in s l) (sym (index-past s t l q) ∙ e)

-- a side that is none of a triangle's
abbrev Lacks : Side → Tri → Type 0
Lacks s (tri a b c) = (s ≢ key a b) × (s ≢ key b c) × (s ≢ key c a)

listed-out : (s : Side) (ts : List Tri) → (index_in s (listed ts) ≡ none) ↔ All (Lacks s) ts
unfolding listed
listed-out s [] = (λ e. tt, λ e. unfold index_in in refl)
listed-out s (tri a b c ∷ ts) =
    let o₁ = cons-out s (key a b) (key b c ∷ key c a ∷ listed ts) in
    let o₂ = cons-out s (key b c) (key c a ∷ listed ts) in
    let o₃ = cons-out s (key c a) (listed ts) in
    let ih = listed-out s ts in (
      λ e.
          let r₁ = o₁.0 e in
          let r₂ = o₂.0 r₁.1 in
          let r₃ = o₃.0 r₂.1 in
          ((r₁.0, r₂.0, r₃.0), ih.0 r₃.1),
      λ e. o₁.1 (e.0.0, o₂.1 (e.0.1, o₃.1 (e.0.2, ih.1 e.1))),
    )

lacks-zero : (u v : ℕ) (t : Tri) → Lacks (key u v) t → around (F u v) t ≡ 0
lacks-zero u v (tri a b c) h = omega (arith, one_side a b h.0, one_side b c h.1, one_side c a h.2)
  where
    one_side : (a b : ℕ) → key u v ≢ key a b → F u v a b ≡ 0
    one_side a b d = F-zero u v a b (λ s t. d (same_key u v a b (inl (s, t)))) (λ s t. d (same_key u v a b (inr (s, t))))

zero-lacks : (u v : ℕ) → u ≢ v → (t : Tri) → around (F u v) t ≡ 0 → Lacks (key u v) t
zero-lacks u v ne (tri a b c) h = (λ q. omega (arith, one_side a b q), λ q. omega (arith, one_side b c q), λ q. omega (arith, one_side c a q))
  where
    one_side : (a b : ℕ) → key u v ≡ key a b → F u v a b ≡ 1
    one_side a b q = F-one u v a b ne (key-same u v a b q)

zero-total : (f : Tri → ℕ) (ts : List Tri) → All (λ t. f t ≡ 0) ts → total f ts ≡ 0
zero-total f [] h = refl
zero-total f (t ∷ ts) h = omega (arith, h.0, zero-total f ts h.1)

-- (a) a side is not cut exactly where it lies in no flagged triangle
uncut : (n u v : ℕ) (f : Tri → Bool) (ts : List Tri) → u ≢ v → All Distinct ts → (mid n (cuts f ts) u v ≡ none) ↔ (count u v (marked f ts) ≡ 0)
unfolding mid
uncut n u v f ts ne h =
    let c = count-around u v ne (marked f ts) (marked_all Distinct f ts h) in
    let o = listed-out (key u v) (marked f ts) in
    let same = (cuts-met f ts).same (key u v) in (
      λ e.
          c ∙ zero-total (around (F u v)) (marked f ts) (
          All-map (Lacks (key u v)) (λ t. around (F u v) t ≡ 0) (lacks-zero u v) (marked f ts) (o.0 (same.0 (above-none n _ e)))
          ),
      λ e.
          ap (above n) (same.1 (o.1 (
          All-map (λ t. around (F u v) t ≡ 0) (Lacks (key u v)) (zero-lacks u v ne) (marked f ts) (total-zero (around (F u v)) (marked f ts) (sym c ∙ e))
          ))),
    )

-- ---- the claim

pub count-swap : (x y : ℕ) (ts : List Tri) → count x y ts ≡ count y x ts
unfolding lies
count-swap x y [] = refl
count-swap x y (t ∷ ts) = ap₂ ◌+◌ (ap one (and_comm (at x t) (at y t))) (count-swap x y ts)

split-length : (a b c : ℕ) (o₁ o₂ o₃ : Option ℕ) (m : ℕ → ℕ → Option ℕ) → m a b ≡ o₁ → m b c ≡ o₂ → m c a ≡ o₃ → length (split a b c o₁ o₂ o₃) ≡ suc (cuts_of m (tri a b c))
split-length a b c none none none m e₁ e₂ e₃ = rw (e₁, e₂, e₃)
split-length a b c (some p) none none m e₁ e₂ e₃ = rw (e₁, e₂, e₃)
split-length a b c none (some q) none m e₁ e₂ e₃ = rw (e₁, e₂, e₃)
split-length a b c none none (some r) m e₁ e₂ e₃ = rw (e₁, e₂, e₃)
split-length a b c (some p) (some q) none m e₁ e₂ e₃ = rw (e₁, e₂, e₃)
split-length a b c none (some q) (some r) m e₁ e₂ e₃ = rw (e₁, e₂, e₃)
split-length a b c (some p) none (some r) m e₁ e₂ e₃ = rw (e₁, e₂, e₃)
split-length a b c (some p) (some q) (some r) m e₁ e₂ e₃ = rw (e₁, e₂, e₃)

pieces-length : (m : ℕ → ℕ → Option ℕ) (t : Tri) → length (pieces m t) ≡ suc (cuts_of m t)
pieces-length m (tri a b c) = split-length a b c (m a b) (m b c) (m c a) m refl refl refl

pub refined-append : (m : ℕ → ℕ → Option ℕ) (s r : List Tri) → refined m (s ++ r) ≡ refined m s ++ refined m r
refined-append m [] r = refl
refined-append m (t ∷ s) r = ap (λ (l : List Tri). pieces m t ++ l) (refined-append m s r) ∙ sym (append_assoc (pieces m t) (refined m s) (refined m r))

module _ (n : ℕ) (f : Tri → Bool) (ts : List Tri) (good : All (Good n) ts) where
  cut-iff : (u v : ℕ) → u ≢ v → ((k : ℕ) × (mid n (cuts f ts) u v ≡ some k)) ↔ (count u v (marked f ts) ≢ 0)
  cut-iff u v ne = (λ k z. never (mid n (cuts f ts) u v) k.0 (iff.1 z) k.1, λ h. go (mid n (cuts f ts) u v) refl h)
    where
      iff : (mid n (cuts f ts) u v ≡ none) ↔ (count u v (marked f ts) ≡ 0)
      iff = uncut n u v f ts ne (all-distinct n ts good)

      go : (o : Option ℕ) → mid n (cuts f ts) u v ≡ o → count u v (marked f ts) ≢ 0 → (k : ℕ) × (mid n (cuts f ts) u v ≡ some k)
      go none e h = absurd (h (iff.0 e))
      go (some k) e h = (k, e)

  midpoint-range : (u v k : ℕ) → mid n (cuts f ts) u v ≡ some k → (n ≤ k) × (k < n + length (cuts f ts))
  unfolding mid
  midpoint-range u v k h = let d = above-some n (index_in (key u v) (cuts f ts)) k h in omega (arith, d.2, index_below (key u v) (cuts f ts) d.0 d.1)

  number_of : (u v k : ℕ) → (mid n (cuts f ts) u v ≡ some (n + k)) ↔ (index_in (key u v) (cuts f ts) ≡ some k)
  unfolding mid
  number_of u v k = (λ h. let d = above-some n (index_in (key u v) (cuts f ts)) (n + k) h in d.1 ∙ ap some (omega (arith, d.2)), λ h. ap (above n) h)

  pub refines : Refines n f ts (refine n f ts) (cuts f ts) (mid n (cuts f ts))
  unfolding refine
  refines =
      let m = mid n (cuts f ts) in
      let M = mids n (cuts f ts) in
      record {
        cut = cut-iff;
        cut-sides = cut-sides n f ts (All-map (Good n) (InRange n) (good-in-range n) ts good);
        two_ends = good-ends n f ts good;
        numbers = number_of;
        midpoint = midpoint-range;
        only = M.only;
        flip = M.flip;
        uncut = λ x y hx hy ne e. old-side n m M x y hx hy ne ts good ∙ rw e (omega arith);
        gone = λ x y k hx hy ne e. old-side n m M x y hx hy ne ts good ∙ rw e (omega arith);
        halves = λ x y k hx hy ne e. (
          half-side n m M x y k hx hy ne e ts good,
          count-swap k y (refined m ts) ∙ half-side n m M y x k hy hx (λ q. ne (sym q)) (M.flip y x ∙ e) ts good ∙ count-swap y x ts,
        );
        inner = λ d x y ne h z w. inner-side n m M x y ne w ts good d h z;
        order = λ s r t e. ap (refined m) e ∙ refined-append m s (t ∷ r);
        pieces_of = pieces-length m;
      }
