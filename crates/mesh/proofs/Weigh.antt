-- Sides counted by numbers: a triangle of three different points holds the side x y as often as its three sides are x y, and the sides of the
-- pieces of a triangle are the parts of its own three sides, once each, and its inner sides, twice each. Assumes nothing.
use Prim.Native.Nat.{ℕ, ◌+◌, ◌*◌, ◌≤◌}
use native.Mathlib.Nat.{zero-mul, mul-zero}
use native.Mathlib.Omega.{arith}
use native.Mathlib.Decide.{ℕ_discrete}
use mathlib.Core.Path.{◌≡◌, refl, sym, ap, ap₂, ◌∙◌, subst}
use mathlib.Core.Logic.{◌≢◌, ◌⊎◌, inl, inr, ⊎_elim}
use mathlib.Core.Bool.{Bool, true, false, ◌&&◌, ◌||◌}
use mathlib.Core.Option.{Option, none, some}
use lib.Dec.{T, eqb, eqb→eq, eqb_refl}
use Rattle.mesh.specs.Mesh.{Tri, tri, Same, one, at, lies, total, places, split}

-- ---- tests as numbers

one-and : (p q : Bool) → one (p && q) ≡ one p * one q
one-and true true = refl
one-and true false = refl
one-and false true = refl
one-and false false = refl

one-or : (p q : Bool) → (T p → T q → ⊥) → one (p || q) ≡ one p + one q
one-or true true h = absurd (h tt tt)
one-or true false h = refl
one-or false true h = refl
one-or false false h = refl

pub or-T : (p q : Bool) → T (p || q) → T p ⊎ T q
or-T true q t = inl tt
or-T false q t = inr t

one-T : (p : Bool) → T p → one p ≡ 1
one-T true t = refl
one-T false t = absurd t

one-F : (p : Bool) → (T p → ⊥) → one p ≡ 0
one-F true t = absurd (t tt)
one-F false t = refl

-- 1 where the two numbers are one, and otherwise 0
unfoldable pub e : ℕ → ℕ → ℕ
e x a = one (eqb x a)

pub e-yes : (x a : ℕ) → x ≡ a → e x a ≡ 1
unfolding e
e-yes x a h = one-T (eqb x a) (subst (λ (z : ℕ). T (eqb x z)) h (eqb_refl x))

pub e-no : (x a : ℕ) → x ≢ a → e x a ≡ 0
unfolding e
e-no x a h = one-F (eqb x a) (λ t. h (eqb→eq x a t))

-- no number is both x and y
e-ne : (x y a : ℕ) → x ≢ y → e x a * e y a ≡ 0
e-ne x y a h = go (ℕ_discrete x a)
  where
    go : Dec (x ≡ a) → e x a * e y a ≡ 0
    go (yes p) = rw (e-no y a (λ q. h (p ∙ sym q))) (mul-zero (e x a))
    go (no p) = rw (e-no x a p) (zero-mul (e y a))

-- ---- a side against a side

-- 1 where the side of x and y is the side of a and b, and otherwise 0: for x that is not y
unfoldable pub F : ℕ → ℕ → ℕ → ℕ → ℕ
F x y a b = e x a * e y b + e x b * e y a

pub F-sym : (x y a b : ℕ) → F x y a b ≡ F x y b a
unfolding F
F-sym x y a b = omega arith

pub F-zero : (x y a b : ℕ) → (x ≡ a → y ≡ b → ⊥) → (x ≡ b → y ≡ a → ⊥) → F x y a b ≡ 0
unfolding F
F-zero x y a b h k = ap₂ ◌+◌ (zero_of a b h) (zero_of b a k)
  where
    zero_of : (c d : ℕ) → (x ≡ c → y ≡ d → ⊥) → e x c * e y d ≡ 0
    zero_of c d g = go (ℕ_discrete x c)
      where
        go : Dec (x ≡ c) → e x c * e y d ≡ 0
        go (yes p) = rw (e-no y d (g p)) (mul-zero (e x c))
        go (no p) = rw (e-no x c p) (zero-mul (e y d))

pub F-one : (x y a b : ℕ) → x ≢ y → Same x y a b → F x y a b ≡ 1
unfolding F
F-one x y a b n (inl h) = simp (e-yes x a h.0, e-yes y b h.1, e-no x b (λ k. n (k ∙ sym h.1))) (omega arith)
F-one x y a b n (inr h) = simp (e-yes x b h.0, e-yes y a h.1, e-no x a (λ k. n (k ∙ sym h.1))) (omega arith)

-- a side is not another, or is
pub F-cases : (x y a b : ℕ) → x ≢ y → (F x y a b ≡ 0) ⊎ ((F x y a b ≡ 1) × Same x y a b)
F-cases x y a b ne = go (ℕ_discrete x a) (ℕ_discrete y b) (ℕ_discrete x b) (ℕ_discrete y a)
  where
    here : Same x y a b → (F x y a b ≡ 0) ⊎ ((F x y a b ≡ 1) × Same x y a b)
    here s = inr (F-one x y a b ne s, s)

    go : Dec (x ≡ a) → Dec (y ≡ b) → Dec (x ≡ b) → Dec (y ≡ a) → (F x y a b ≡ 0) ⊎ ((F x y a b ≡ 1) × Same x y a b)
    go (yes p) (yes q) r s = here (inl (p, q))
    go (yes p) (no q) r s = inl (F-zero x y a b (λ h k. q k) (λ h k. ne (p ∙ sym k)))
    go (no p) q (yes r) (yes s) = here (inr (r, s))
    go (no p) q (yes r) (no s) = inl (F-zero x y a b (λ h k. p h) (λ h k. s k))
    go (no p) q (no r) s = inl (F-zero x y a b (λ h k. p h) (λ h k. r h))

pub F-le : (x y a b : ℕ) → x ≢ y → F x y a b ≤ 1
F-le x y a b ne = ⊎_elim (λ h. omega arith) (λ h. omega arith) (F-cases x y a b ne)

-- of two sides that differ at most one is x y
pub F-pair : (x y a b c d : ℕ) → x ≢ y → (a ≡ c → b ≡ d → ⊥) → (a ≡ d → b ≡ c → ⊥) → F x y a b + F x y c d ≤ 1
F-pair x y a b c d ne h k = go (F-cases x y a b ne) (F-cases x y c d ne)
  where
    go : (F x y a b ≡ 0) ⊎ ((F x y a b ≡ 1) × Same x y a b) → (F x y c d ≡ 0) ⊎ ((F x y c d ≡ 1) × Same x y c d) → F x y a b + F x y c d ≤ 1
    go (inl p) (inl q) = omega arith
    go (inl p) (inr q) = omega arith
    go (inr p) (inl q) = omega arith
    go (inr (p, inl s)) (inr (q, inl t)) = absurd (h (sym s.0 ∙ t.0) (sym s.1 ∙ t.1))
    go (inr (p, inl s)) (inr (q, inr t)) = absurd (k (sym s.0 ∙ t.0) (sym s.1 ∙ t.1))
    go (inr (p, inr s)) (inr (q, inl t)) = absurd (k (sym s.1 ∙ t.1) (sym s.0 ∙ t.0))
    go (inr (p, inr s)) (inr (q, inr t)) = absurd (h (sym s.1 ∙ t.1) (sym s.0 ∙ t.0))

at_sum : (x a b c : ℕ) → a ≢ b → b ≢ c → c ≢ a → one (at x (tri a b c)) ≡ e x a + (e x b + e x c)
unfolding e
at_sum x a b c p q r =
    one-or (eqb x a) (eqb x b || eqb x c) (λ s t. ⊎_elim (λ u. p (sym (eqb→eq x a s) ∙ eqb→eq x b u)) (λ u. r (sym (eqb→eq x c u) ∙ eqb→eq x a s)) (or-T (eqb x b) (eqb x c) t))
    ∙ ap (λ (z : ℕ). one (eqb x a) + z) (one-or (eqb x b) (eqb x c) (λ s t. q (sym (eqb→eq x b s) ∙ eqb→eq x c t)))

-- what a triangle's sides weigh, by the weights of sides
abbrev pub around : (ℕ → ℕ → ℕ) → Tri → ℕ
around W (tri a b c) = W a b + (W b c + W c a)

pub places-around : (x y a b c : ℕ) → x ≢ y → a ≢ b → b ≢ c → c ≢ a → places x y (tri a b c) ≡ around (F x y) (tri a b c)
unfolding F lies
places-around x y a b c h p q r =
    one-and (at x (tri a b c)) (at y (tri a b c)) ∙ ap₂ ◌*◌ (at_sum x a b c p q r) (at_sum y a b c p q r)
    ∙ omega (arith, e-ne x y a h, e-ne x y b h, e-ne x y c h)

-- ---- the sides of the pieces

-- a side by its parts
abbrev pub parts : (ℕ → ℕ → ℕ) → ℕ → ℕ → Option ℕ → ℕ
parts W a b none = W a b
parts W a b (some p) = W a p + W p b

-- the sides inside a triangle
abbrev pub inner : (ℕ → ℕ → ℕ) → ℕ → ℕ → ℕ → Option ℕ → Option ℕ → Option ℕ → ℕ
inner W a b c none none none = 0
inner W a b c (some p) none none = W p c
inner W a b c none (some q) none = W q a
inner W a b c none none (some r) = W r b
inner W a b c (some p) (some q) none = W p q + W p c
inner W a b c none (some q) (some r) = W q r + W q a
inner W a b c (some p) none (some r) = W r p + W p c
inner W a b c (some p) (some q) (some r) = W p q + (W q r + W r p)

module _ (W : ℕ → ℕ → ℕ) (flip : (a b : ℕ) → W a b ≡ W b a) where
  pub split-weighs : (a b c : ℕ) (o₁ o₂ o₃ : Option ℕ)
      → total (around W) (split a b c o₁ o₂ o₃) ≡ parts W a b o₁ + (parts W b c o₂ + parts W c a o₃) + 2 * inner W a b c o₁ o₂ o₃
  split-weighs a b c none none none = omega arith
  split-weighs a b c (some p) none none = omega (arith, flip p c)
  split-weighs a b c none (some q) none = omega (arith, flip q a)
  split-weighs a b c none none (some r) = omega (arith, flip r b)
  split-weighs a b c (some p) (some q) none = omega (arith, flip p q, flip b p, flip q b, flip p a, flip a c, flip c p, flip c q, flip q p)
  split-weighs a b c none (some q) (some r) = omega (arith, flip q r, flip c q, flip r c, flip q b, flip b a, flip a q, flip a r, flip r q)
  split-weighs a b c (some p) none (some r) = omega (arith, flip r p, flip p c, flip a p, flip r a, flip c r)
  split-weighs a b c (some p) (some q) (some r) = omega (arith, flip p q, flip q r, flip r p)
