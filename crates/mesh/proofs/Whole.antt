-- The whole list: in how many places each side lies after the refinement. Assumes nothing.
use Prim.Native.Nat.{ℕ, ◌+◌, ◌*◌, ◌≤◌, ◌<◌}
use native.Mathlib.Omega.{arith}
use mathlib.Core.Path.{◌≡◌, refl, sym, ap, ap₂, ◌∙◌}
use mathlib.Core.Logic.{◌≢◌}
use mathlib.Core.List.{List, [], ◌∷◌, ◌++◌}
use mathlib.Core.Option.{Option, some}
use Rattle.mesh.specs.Mesh.{Tri, tri, Mids, Good, All, one, is_none, total, count, pieces, refined, Distinct}
use Rattle.mesh.specs.Claim.{InRange}
use Rattle.mesh.proofs.Weigh.{F, around, places-around}
use Rattle.mesh.proofs.Local.{split-distinct, old-pieces, half-pieces}

pub total-append : (f : Tri → ℕ) (s t : List Tri) → total f (s ++ t) ≡ total f s + total f t
total-append f [] t = omega arith
total-append f (x ∷ s) t = omega (arith, total-append f s t)

pub total-times : (k : ℕ) (f : Tri → ℕ) (ts : List Tri) → total (λ t. k * f t) ts ≡ k * total f ts
total-times k f [] = omega arith
total-times k f (t ∷ ts) = omega (arith, total-times k f ts)

pub All-append : {A : Type 0} (P : A → Type 0) (s t : List A) → All P s → All P t → All P (s ++ t)
All-append P [] t h k = k
All-append P (x ∷ s) t h k = (h.0, All-append P s t h.1 k)

pub All-map : {A : Type 0} (P Q : A → Type 0) → ((t : A) → P t → Q t) → (ts : List A) → All P ts → All Q ts
All-map P Q f [] h = tt
All-map P Q f (t ∷ ts) h = (f t h.0, All-map P Q f ts h.1)

pub good-distinct : (n : ℕ) (t : Tri) → Good n t → Distinct t
good-distinct n (tri a b c) g = (g.3, g.4, g.5)

pub good-in-range : (n : ℕ) (t : Tri) → Good n t → InRange n t
good-in-range n (tri a b c) g = (g.0, g.1, g.2)

pub All-both : (P Q : Tri → Type 0) (ts : List Tri) → All P ts → All Q ts → All (λ t. P t × Q t) ts
All-both P Q [] h k = tt
All-both P Q (t ∷ ts) h k = ((h.0, k.0), All-both P Q ts h.1 k.1)

pub all-distinct : (n : ℕ) (ts : List Tri) → All (Good n) ts → All Distinct ts
all-distinct n = All-map (Good n) Distinct (good-distinct n)

pub total-zero : (f : Tri → ℕ) (ts : List Tri) → total f ts ≡ 0 → All (λ t. f t ≡ 0) ts
total-zero f [] h = tt
total-zero f (t ∷ ts) h = (omega arith, total-zero f ts (omega arith))

-- the places of x y, by the weights of sides
pub count-around : (x y : ℕ) → x ≢ y → (ts : List Tri) → All Distinct ts → count x y ts ≡ total (around (F x y)) ts
count-around x y ne [] h = refl
count-around x y ne (tri a b c ∷ ts) h =
    ap₂ ◌+◌ (places-around x y a b c ne h.0.0 h.0.1 h.0.2) (count-around x y ne ts h.1)

module _ (n : ℕ) (m : ℕ → ℕ → Option ℕ) (M : Mids n m) where
  pub refined-distinct : (ts : List Tri) → All (Good n) ts → All Distinct (refined m ts)
  refined-distinct [] h = tt
  refined-distinct (tri a b c ∷ ts) h =
      All-append Distinct (pieces m (tri a b c)) (refined m ts)
      (split-distinct n m M a b c (m a b) (m b c) (m c a) h.0 refl refl refl)
      (refined-distinct ts h.1)

  refined-total : (P : Tri → Type 0) (f g : Tri → ℕ) → ((t : Tri) → P t → total f (pieces m t) ≡ g t) → (ts : List Tri) → All P ts → total f (refined m ts) ≡ total g ts
  refined-total P f g step [] h = refl
  refined-total P f g step (t ∷ ts) h =
      total-append f (pieces m t) (refined m ts) ∙ ap₂ ◌+◌ (step t h.0) (refined-total P f g step ts h.1)

  -- from the count in the pieces of each triangle to that in the list
  pub counted : (P : Tri → Type 0) (x y : ℕ) → x ≢ y → (g : Tri → ℕ) → ((t : Tri) → P t → total (around (F x y)) (pieces m t) ≡ g t)
      → (ts : List Tri) → All (Good n) ts → All P ts → count x y (refined m ts) ≡ total g ts
  counted P x y ne g step ts h k = count-around x y ne (refined m ts) (refined-distinct ts h) ∙ refined-total P (around (F x y)) g step ts k

  -- (b) an old side lies whole as often as before, or never where it is cut
  pub old-side : (x y : ℕ) → x < n → y < n → x ≢ y → (ts : List Tri) → All (Good n) ts → count x y (refined m ts) ≡ one (is_none (m x y)) * count x y ts
  old-side x y hx hy ne ts h =
      counted (Good n) x y ne (λ t. one (is_none (m x y)) * around (F x y) t) (λ t g. old-pieces n m M x y hx hy t) ts h h
      ∙ total-times (one (is_none (m x y))) (around (F x y)) ts
      ∙ ap (λ (z : ℕ). one (is_none (m x y)) * z) (sym (count-around x y ne ts (all-distinct n ts h)))

  -- (b) the half of x y at x, for each cut side x y, lies as often as x y did
  pub half-side : (x y k : ℕ) → x < n → y < n → x ≢ y → m x y ≡ some k → (ts : List Tri) → All (Good n) ts → count x k (refined m ts) ≡ count x y ts
  half-side x y k hx hy ne cut ts h =
      let q : n ≤ k = M.high x y k cut in
      counted (Good n) x k (omega arith) (around (F x y)) (half-pieces n m M x y k hx hy ne cut) ts h h
      ∙ sym (count-around x y ne ts (all-distinct n ts h))
