-- The order of the values, and the largest of several against a threshold. Assumes nothing.
use Rattle.std.proofs.Common.{◌≡◌, ℕ, suc, ◌+◌, ◌*◌, ◌<◌, ◌≤◌, Bool, true, false, cond, not, ◌||◌, T, ltb, ℤ, sym, refl, ap, ◌∙◌, subst, le_trans, le_of_eq, mul-le-mul_right, add-mul, lt_of_mul-lt-mul_right, mul-lt-mul_of_pos_right, zero-mul, mul_right_comm, arith, ltb-false, ltb-true, le-ltb, lt-ltb, eq-eqb}
use lib.Ieee.{Float, nan, inf, fin, up, down, below, level, lt, ne}
use lib.Ieee.Fits.{down_pos}
use lib.Ieee.Compare.{differs_from_itself}
use Rattle.float.specs.Double.{max_of}

no : {A : Type 0} → false ≡ true → A
no h = absurd (subst T (sym h) tt)

no' : {A : Type 0} → true ≡ false → A
no' h = absurd (subst T h tt)

-- ---- signed fractions: (p - q) / d
abbrev over : Bool → ℕ → ℕ
over s a = cond s 0 a

abbrev under : Bool → ℕ → ℕ
under s a = cond s a 0

below-is : (s t : Bool) (a b : ℕ) → below s a t b ≡ ltb (over s a + under t b) (over t b + under s a)
below-is false false a b = ltb-alike (omega arith) (omega arith)
  where
    ltb-alike : a ≡ a + 0 → b ≡ b + 0 → ltb a b ≡ ltb (a + 0) (b + 0)
    ltb-alike p q = rw (← p, ← q)
below-is false true a b = sym (le-ltb (a + b) (0 + 0) (omega arith))
below-is true false a b = ltb-zero
  where
    e : a + b ≡ b + a
    e = omega arith

    ltb-zero : ltb 0 (a + b) ≡ ltb (0 + 0) (b + a)
    ltb-zero = rw e
below-is true true a b = alike
  where
    p : 0 + b ≡ b
    p = omega arith

    q : 0 + a ≡ a
    q = omega arith

    alike : ltb b a ≡ ltb (0 + b) (0 + a)
    alike = rw (p, q)

over_by : (s : Bool) (a d : ℕ) → over s (a * d) ≡ over s a * d
over_by true a d = sym (zero-mul d)
over_by false a d = refl

under-by : (s : Bool) (a d : ℕ) → under s (a * d) ≡ under s a * d
under-by true a d = refl
under-by false a d = sym (zero-mul d)

lt-is : (s : Bool) (m : ℕ) (e : ℤ) (t : Bool) (n : ℕ) (d : ℤ)
    → lt (fin s m e) (fin t n d) ≡ ltb (over s (m * up e) * down d + under t (n * up d) * down e) (over t (n * up d) * down e + under s (m * up e) * down d)
unfolding lt
lt-is s m e t n d =
    below-is s t (m * up e * down d) (n * up d * down e)
    ∙ rw (over_by s (m * up e) (down d), under-by t (n * up d) (down e), over_by t (n * up d) (down e), under-by s (m * up e) (down d))

-- x < y and y ≤ z
less-through : (p q d p' q' d' p'' q'' d'' : ℕ) → 0 < d → 0 < d' → 0 < d'' → p * d' + q' * d < p' * d + q * d' → p' * d'' + q'' * d' ≤ p'' * d' + q' * d'' → p * d'' + q'' * d < p'' * d + q * d''
less-through p q d p' q' d' p'' q'' d'' D D' D'' h g =
    lt_of_mul-lt-mul_right d'
    (cut (p * d' * d'') (q' * d * d'') (p' * d * d'') (q * d' * d'') (p' * d'' * d) (q'' * d' * d) (p'' * d' * d) (q' * d'' * d) (p * d'' * d') (q'' * d * d') (p'' * d * d') (q * d'' * d')
    (le_trans (le_of_eq (ap suc (sym (add-mul (p * d') (q' * d) d'')))) (le_trans (mul-lt-mul_of_pos_right h D'') (le_of_eq (add-mul (p' * d) (q * d') d''))))
    (le_trans (le_of_eq (sym (add-mul (p' * d'') (q'' * d') d))) (le_trans (mul-le-mul_right d g) (le_of_eq (add-mul (p'' * d') (q' * d'') d))))
    (mul_right_comm p' d d'') (mul_right_comm q' d d'') (mul_right_comm p d' d'') (mul_right_comm q d' d'') (mul_right_comm q'' d' d) (mul_right_comm p'' d' d) (add-mul (p * d'') (q'' * d) d') (add-mul (p'' * d) (q * d'') d'))
  where
    cut : (a b c e a' b' c' e' x y z w : ℕ) {l r : ℕ} → a + b < c + e → a' + b' ≤ c' + e' → c ≡ a' → b ≡ e' → a ≡ x → e ≡ w → b' ≡ y → c' ≡ z → l ≡ x + y → r ≡ z + w → l < r
    cut a b c e a' b' c' e' x y z w h g i j k l m n o p = omega arith

fin-through : (s : Bool) (m : ℕ) (e : ℤ) (t : Bool) (n : ℕ) (d : ℤ) (u : Bool) (k : ℕ) (c : ℤ) → lt (fin s m e) (fin t n d) ≡ true → lt (fin u k c) (fin t n d) ≡ false → lt (fin s m e) (fin u k c) ≡ true
fin-through s m e t n d u k c h g =
    lt-is s m e u k c
    ∙ lt-ltb _ _
    (less-through (over s (m * up e)) (under s (m * up e)) (down e) (over t (n * up d)) (under t (n * up d)) (down d) (over u (k * up c)) (under u (k * up c)) (down c) (down_pos e) (down_pos d) (down_pos c)
    (ltb-true _ _ (sym (lt-is s m e t n d) ∙ h)) (ltb-false _ _ (sym (lt-is u k c t n d) ∙ g)))

fin-asym : (s : Bool) (m : ℕ) (e : ℤ) (t : Bool) (n : ℕ) (d : ℤ) → lt (fin s m e) (fin t n d) ≡ true → lt (fin t n d) (fin s m e) ≡ false
fin-asym s m e t n d h =
    lt-is t n d s m e
    ∙ le-ltb (over t (n * up d) * down e + under s (m * up e) * down d) (over s (m * up e) * down d + under t (n * up d) * down e)
    (omega (arith, ltb-true (over s (m * up e) * down d + under t (n * up d) * down e) (over t (n * up d) * down e + under s (m * up e) * down d) (sym (lt-is s m e t n d) ∙ h)))

pub level-self : (s : Bool) (a : ℕ) → level s a s a ≡ true
level-self true a = rw (eq-eqb a a refl)
level-self false a = rw (eq-eqb a a refl)

-- what is larger than something is a number
pub right-number : (a b : Float) → lt a b ≡ true → ne b b ≡ false
unfolding lt ne
right-number nan b h = no h
right-number (inf s) nan h = no h
right-number (inf s) (inf true) h = refl
right-number (inf s) (inf false) h = refl
right-number (inf s) (fin t n d) h = ap not (level-self t (n * up d * down d))
right-number (fin s m e) nan h = no h
right-number (fin s m e) (inf true) h = refl
right-number (fin s m e) (inf false) h = refl
right-number (fin s m e) (fin t n d) h = ap not (level-self t (n * up d * down d))

lt-nan : (t a : Float) → ne a a ≡ true → lt t a ≡ false
lt-nan t a h = subst (λ (z : Float). lt t z ≡ false) (sym (differs_from_itself a (subst T (sym h) tt))) (go t)
  where
    go : (t : Float) → lt t nan ≡ false
    go nan = unfold lt in refl
    go (inf s) = unfold lt in refl
    go (fin s m e) = unfold lt in refl

-- t < b and not a < b: t < a
pub through-ge : (t a b : Float) → ne a a ≡ false → lt t b ≡ true → lt a b ≡ false → lt t a ≡ true
unfolding lt ne
through-ge t nan b z h g = no' z
through-ge nan (inf s) b z h g = no h
through-ge nan (fin s m e) b z h g = no h
through-ge (inf true) (inf true) nan z h g = no h
through-ge (inf true) (inf true) (inf true) z h g = no h
through-ge (inf true) (inf true) (inf false) z h g = no' g
through-ge (inf true) (inf true) (fin u k c) z h g = no' g
through-ge (inf true) (inf false) b z h g = refl
through-ge (inf true) (fin s m e) b z h g = refl
through-ge (inf false) (inf s) nan z h g = no h
through-ge (inf false) (inf s) (inf u) z h g = no h
through-ge (inf false) (inf s) (fin u k c) z h g = no h
through-ge (inf false) (fin s m e) nan z h g = no h
through-ge (inf false) (fin s m e) (inf u) z h g = no h
through-ge (inf false) (fin s m e) (fin u k c) z h g = no h
through-ge (fin s m e) (inf true) nan z h g = no h
through-ge (fin s m e) (inf true) (inf true) z h g = no h
through-ge (fin s m e) (inf true) (inf false) z h g = no' g
through-ge (fin s m e) (inf true) (fin u k c) z h g = no' g
through-ge (fin s m e) (inf false) b z h g = refl
through-ge (fin s m e) (fin t n d) nan z h g = no h
through-ge (fin s m e) (fin t n d) (inf true) z h g = no h
through-ge (fin s m e) (fin t n d) (inf false) z h g = no' g
through-ge (fin s m e) (fin t n d) (fin u k c) z h g = fin-through s m e u k c t n d h g

asym : (a b : Float) → lt a b ≡ true → lt b a ≡ false
unfolding lt
asym nan b h = no h
asym (inf s) nan h = no h
asym (inf true) (inf true) h = no h
asym (inf true) (inf false) h = refl
asym (inf false) (inf true) h = no h
asym (inf false) (inf false) h = no h
asym (inf true) (fin t n d) h = refl
asym (inf false) (fin t n d) h = no h
asym (fin s m e) nan h = no h
asym (fin s m e) (inf true) h = no h
asym (fin s m e) (inf false) h = refl
asym (fin s m e) (fin t n d) h = fin-asym s m e t n d h

-- a number's `not less`, turned round
pub trans : (t a b : Float) → lt t a ≡ true → lt a b ≡ true → lt t b ≡ true
trans t a b h g = through-ge t b a (right-number a b g) h (asym a b g)

-- the largest of two passes t exactly where one of them does
pub lt-max : (t a b : Float) → lt t (max_of a b) ≡ lt t a || lt t b
lt-max t a b = go (lt a b) (ne a a) refl refl
  where
    one : (x y : Bool) → (x ≡ true → y ≡ true) → y ≡ x || y
    one true y f = f refl
    one false y f = refl

    two : (x y : Bool) → (y ≡ true → x ≡ true) → x ≡ x || y
    two true y f = refl
    two false true f = f refl
    two false false f = refl

    go : (l z : Bool) → lt a b ≡ l → ne a a ≡ z → lt t (cond l b (cond z b a)) ≡ lt t a || lt t b
    go true z p q = one (lt t a) (lt t b) (λ h. trans t a b h p)
    go false true p q = one (lt t a) (lt t b) (λ h. no (sym (lt-nan t a q) ∙ h))
    go false false p q = two (lt t a) (lt t b) (λ h. through-ge t a b q h p)
