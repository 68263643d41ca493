-- The inner sides: each lies in two new triangles, if no two triangles have the same three corners. An inner side joins the midpoint of a side to
-- the corner opposite, or the midpoints of two sides; either way the corners below its two ends are the three of its triangle. Assumes nothing.
use Prim.Native.Nat.{ℕ, ◌+◌, ◌*◌, ◌≤◌, ◌<◌}
use native.Mathlib.Omega.{arith}
use native.Mathlib.Decide.{ℕ_discrete}
use mathlib.Core.Path.{◌≡◌, refl, sym, ◌∙◌, subst}
use mathlib.Core.Logic.{◌≢◌, ◌↔◌, ◌⊎◌, inl, inr, ⊎_elim}
use mathlib.Core.Bool.{Bool, true, false, ◌||◌}
use mathlib.Core.List.{List, [], ◌∷◌}
use mathlib.Core.Option.{Option, none, some}
use lib.Dec.{T, eqb, eqb→eq, eqb_refl}
use Rattle.mesh.specs.Mesh.{Tri, tri, Same, Mids, Good, All, AllDifferent, SameCorners, at, total, count, pieces, refined}
use Rattle.mesh.proofs.Weigh.{F, F-sym, F-zero, F-pair, F-le, or-T, around, parts, inner}
use Rattle.mesh.proofs.Local.{inner-zero, mids-differ, weighed}
use Rattle.mesh.proofs.Whole.{all-distinct, count-around, counted, total-times, total-zero}

-- v is a corner
abbrev Corner : ℕ → ℕ → ℕ → ℕ → Type 0
Corner v a b c = (v ≡ a) ⊎ (v ≡ b) ⊎ (v ≡ c)

or_left : (p q : Bool) → T p → T (p || q)
or_left true q t = tt
or_left false q t = absurd t

or_right : (p q : Bool) → T q → T (p || q)
or_right true q t = tt
or_right false q t = t

eq→eqb : (x a : ℕ) → x ≡ a → T (eqb x a)
eq→eqb x a h = subst (λ (z : ℕ). T (eqb x z)) h (eqb_refl x)

at→corner : (v a b c : ℕ) → T (at v (tri a b c)) → Corner v a b c
at→corner v a b c t =
    ⊎_elim (λ u. inl (eqb→eq v a u)) (λ u. inr (⊎_elim (λ w. inl (eqb→eq v b w)) (λ w. inr (eqb→eq v c w)) (or-T (eqb v b) (eqb v c) u)))
    (or-T (eqb v a) (eqb v b || eqb v c) t)

corner→at : (v a b c : ℕ) → Corner v a b c → T (at v (tri a b c))
corner→at v a b c (inl h) = or_left (eqb v a) (eqb v b || eqb v c) (eq→eqb v a h)
corner→at v a b c (inr (inl h)) = or_right (eqb v a) (eqb v b || eqb v c) (or_left (eqb v b) (eqb v c) (eq→eqb v b h))
corner→at v a b c (inr (inr h)) = or_right (eqb v a) (eqb v b || eqb v c) (or_right (eqb v b) (eqb v c) (eq→eqb v c h))

turn : (v a b c : ℕ) → Corner v a b c → Corner v b c a
turn v a b c (inl h) = inr (inr h)
turn v a b c (inr (inl h)) = inl h
turn v a b c (inr (inr h)) = inr (inl h)

corner-low : (n v a b c : ℕ) → Good n (tri a b c) → Corner v a b c → v < n
corner-low n v a b c g (inl h) = omega arith
corner-low n v a b c g (inr (inl h)) = omega arith
corner-low n v a b c g (inr (inr h)) = omega arith

-- a number of each triangle that is 0 or 1, and not 0 in triangles of the same corners only, is 1 in one place at most
module _ (P : Tri → Type 0) (f : Tri → ℕ) (apart : (s t : Tri) → P s → P t → ¬ SameCorners s t → f s ≢ 0 → f t ≡ 0) where
  none_left : (s : Tri) (ts : List Tri) → P s → All P ts → All (λ t. ¬ SameCorners s t) ts → f s ≢ 0 → total f ts ≡ 0
  none_left s [] p h d k = refl
  none_left s (t ∷ ts) p h d k = omega (arith, apart s t p h.0 d.0 k, none_left s ts p h.1 d.1 k)

  one_place : ((t : Tri) → P t → f t ≤ 1) → (ts : List Tri) → All P ts → AllDifferent ts → total f ts ≤ 1
  one_place le [] h d = omega arith
  one_place le (t ∷ ts) h d = go (ℕ_discrete (f t) 0) (one_place le ts h.1 d.1)
    where
      go : Dec (f t ≡ 0) → total f ts ≤ 1 → f t + total f ts ≤ 1
      go (yes e) r = omega arith
      go (no e) r = omega (arith, le t h.0, none_left t ts h.0 h.1 d.0 e)

module _ (n : ℕ) (m : ℕ → ℕ → Option ℕ) (M : Mids n m) where
  -- v is the point z, or an end of the side whose midpoint is z
  Under : ℕ → ℕ → Type 0
  Under v z = (v ≡ z) ⊎ ((w : ℕ) × (m v w ≡ some z))

  Span : ℕ → ℕ → ℕ → Type 0
  Span v x y = Under v x ⊎ Under v y

  Span-swap : (v x y : ℕ) → Span v x y → Span v y x
  unfolding Span
  Span-swap v x y (inl h) = inr h
  Span-swap v x y (inr h) = inl h

  under-mid : (v a b p : ℕ) → v < n → m a b ≡ some p → Under v p → (v ≡ a) ⊎ (v ≡ b)
  unfolding Under
  under-mid v a b p h e (inl u) = let k : n ≤ p = M.high a b p e in absurd (omega arith)
  under-mid v a b p h e (inr (w, u)) = ⊎_elim (λ s. inl s.0) (λ s. inr s.0) (M.only v w a b p u e)

  under_low : (v c : ℕ) → c < n → Under v c → v ≡ c
  unfolding Under
  under_low v c h (inl u) = u
  under_low v c h (inr (w, u)) = let k : n ≤ c = M.high v w c u in absurd (omega arith)

  mid-under : (v a b p : ℕ) → m a b ≡ some p → (v ≡ a) ⊎ (v ≡ b) → Under v p
  unfolding Under
  mid-under v a b p e (inl u) = inr (b, cc)
  mid-under v a b p e (inr u) = inr (a, cc (M.flip a b))

  -- a side from the midpoint p of a b, to c or to the midpoint of b c
  data Kind₁ (x y a b c : ℕ) : Type 0 where
    opp : (p : ℕ) → m a b ≡ some p → Same x y p c → Kind₁ x y a b c
    two : (p q : ℕ) → m a b ≡ some p → m b c ≡ some q → Same x y p q → Kind₁ x y a b c

  Kind : ℕ → ℕ → ℕ → ℕ → ℕ → Type 0
  Kind x y a b c = Kind₁ x y a b c ⊎ Kind₁ x y b c a ⊎ Kind₁ x y c a b

  opp-span : (v a b c p : ℕ) → v < n → c < n → m a b ≡ some p → Corner v a b c ↔ Span v p c
  unfolding Span
  opp-span v a b c p hv hc e = (go, back)
    where
      go : Corner v a b c → Under v p ⊎ Under v c
      go (inl h) = inl (mid-under v a b p e (inl h))
      go (inr (inl h)) = inl (mid-under v a b p e (inr h))
      go (inr (inr h)) = inr (unfold Under in inl h)

      back : Under v p ⊎ Under v c → Corner v a b c
      back (inl u) = ⊎_elim (λ h. inl h) (λ h. inr (inl h)) (under-mid v a b p hv e u)
      back (inr u) = inr (inr (under_low v c hc u))

  two-span : (v a b c p q : ℕ) → v < n → m a b ≡ some p → m b c ≡ some q → Corner v a b c ↔ Span v p q
  unfolding Span
  two-span v a b c p q hv e f = (go, back)
    where
      go : Corner v a b c → Under v p ⊎ Under v q
      go (inl h) = inl (mid-under v a b p e (inl h))
      go (inr (inl h)) = inl (mid-under v a b p e (inr h))
      go (inr (inr h)) = inr (mid-under v b c q f (inr h))

      back : Under v p ⊎ Under v q → Corner v a b c
      back (inl u) = ⊎_elim (λ h. inl h) (λ h. inr (inl h)) (under-mid v a b p hv e u)
      back (inr u) = ⊎_elim (λ h. inr (inl h)) (λ h. inr (inr h)) (under-mid v b c q hv f u)

  same_span : (P : Type 0) (v x y p q : ℕ) → Same x y p q → P ↔ Span v p q → P ↔ Span v x y
  same_span P v x y p q (inl s) h = rw (s.0, s.1) h
  same_span P v x y p q (inr s) h = rw (s.0, s.1) (λ u. Span-swap v p q (h.0 u), λ u. h.1 (Span-swap v q p u))

  kind₁-span : (v x y a b c : ℕ) → v < n → c < n → Kind₁ x y a b c → Corner v a b c ↔ Span v x y
  kind₁-span v x y a b c hv hc (opp p e s) = same_span (Corner v a b c) v x y p c s (opp-span v a b c p hv hc e)
  kind₁-span v x y a b c hv hc (two p q e f s) = same_span (Corner v a b c) v x y p q s (two-span v a b c p q hv e f)

  -- the corners of a triangle are the points below the ends of its inner side
  kind-span : (v x y a b c : ℕ) → Good n (tri a b c) → v < n → Kind x y a b c → Corner v a b c ↔ Span v x y
  unfolding Kind
  kind-span v x y a b c g hv (inl k) = kind₁-span v x y a b c hv g.2 k
  kind-span v x y a b c g hv (inr (inl k)) =
      let h = kind₁-span v x y b c a hv g.0 k in
      (λ u. h.0 (turn v a b c u), λ u. turn v c a b (turn v b c a (h.1 u)))
  kind-span v x y a b c g hv (inr (inr k)) =
      let h = kind₁-span v x y c a b hv g.1 k in
      (λ u. h.0 (turn v b c a (turn v a b c u)), λ u. turn v c a b (h.1 u))

  -- two triangles with one inner side have the same corners
  kind-corners : (x y a b c a' b' c' : ℕ) → Good n (tri a b c) → Good n (tri a' b' c') → Kind x y a b c → Kind x y a' b' c' → SameCorners (tri a b c) (tri a' b' c')
  kind-corners x y a b c a' b' c' g g' k k' v = (half a b c a' b' c' g g' k k', half a' b' c' a b c g' g k' k)
    where
      half : (a b c a' b' c' : ℕ) → Good n (tri a b c) → Good n (tri a' b' c') → Kind x y a b c → Kind x y a' b' c' → T (at v (tri a b c)) → T (at v (tri a' b' c'))
      half a b c a' b' c' g g' k k' t =
          let u = at→corner v a b c t in
          let hv = corner-low n v a b c g u in
          corner→at v a' b' c' ((kind-span v x y a' b' c' g' hv k').1 ((kind-span v x y a b c g hv k).0 u))

  no-side : (x y p z : ℕ) → (Same x y p z → ⊥) → F x y p z ≡ 0
  no-side x y p z h = F-zero x y p z (λ s t. h (inl (s, t))) (λ s t. h (inr (s, t)))

  pub inn : ℕ → ℕ → Tri → ℕ
  inn x y (tri a b c) = inner (F x y) a b c (m a b) (m b c) (m c a)

  no_kind : (x y a b c : ℕ) → (Kind x y a b c → ⊥) → inn x y (tri a b c) ≡ 0
  unfolding Kind inn
  no_kind x y a b c h =
      inner-zero (F x y) a b c (m a b) (m b c) (m c a)
      (λ p e. no-side x y p c (λ s. h (inl (opp p e s))))
      (λ q e. no-side x y q a (λ s. h (inr (inl (opp q e s)))))
      (λ r e. no-side x y r b (λ s. h (inr (inr (opp r e s)))))
      (λ p q e f. no-side x y p q (λ s. h (inl (two p q e f s))))
      (λ q r e f. no-side x y q r (λ s. h (inr (inl (two q r e f s)))))
      (λ r p e f. no-side x y r p (λ s. h (inr (inr (two r p e f s)))))

  -- a side is inner in triangles of the same corners only
  inn-apart : (x y : ℕ) (s t : Tri) → Good n s → Good n t → ¬ SameCorners s t → inn x y s ≢ 0 → inn x y t ≡ 0
  inn-apart x y (tri a b c) (tri a' b' c') g g' d h =
      no_kind x y a' b' c' (λ k'. h (no_kind x y a b c (λ k. d (kind-corners x y a b c a' b' c' g g' k k'))))

  -- in one triangle it is inner once
  inner-once : (x y a b c : ℕ) (o₁ o₂ o₃ : Option ℕ) → x ≢ y → Good n (tri a b c) → m a b ≡ o₁ → m b c ≡ o₂ → m c a ≡ o₃ → inner (F x y) a b c o₁ o₂ o₃ ≤ 1
  inner-once x y a b c none none none ne g e₁ e₂ e₃ = omega arith
  inner-once x y a b c (some p) none none ne g e₁ e₂ e₃ = F-le x y p c ne
  inner-once x y a b c none (some q) none ne g e₁ e₂ e₃ = F-le x y q a ne
  inner-once x y a b c none none (some r) ne g e₁ e₂ e₃ = F-le x y r b ne
  inner-once x y a b c (some p) (some q) none ne g e₁ e₂ e₃ =
      let j : n ≤ q = M.high b c q e₂ in
      F-pair x y p q p c ne (λ s t. omega arith) (λ s t. omega arith)
  inner-once x y a b c none (some q) (some r) ne g e₁ e₂ e₃ =
      let j : n ≤ r = M.high c a r e₃ in
      F-pair x y q r q a ne (λ s t. omega arith) (λ s t. omega arith)
  inner-once x y a b c (some p) none (some r) ne g e₁ e₂ e₃ =
      let j : n ≤ r = M.high c a r e₃ in
      F-pair x y r p p c ne (λ s t. omega arith) (λ s t. omega arith)
  inner-once x y a b c (some p) (some q) (some r) ne g e₁ e₂ e₃ =
      let d₁ : p ≢ q = mids-differ n m M a b c p q g.3 g.5 e₁ e₂ in
      let d₂ : q ≢ r = mids-differ n m M b c a q r g.4 g.3 e₂ e₃ in
      let d₃ : r ≢ p = mids-differ n m M c a b r p g.5 g.4 e₃ e₁ in
      omega (
        arith,
        F-pair x y p q q r ne (λ s t. omega arith) (λ s t. omega arith),
        F-pair x y q r r p ne (λ s t. omega arith) (λ s t. omega arith),
        F-pair x y r p p q ne (λ s t. omega arith) (λ s t. omega arith),
      )

  inn-once : (x y : ℕ) → x ≢ y → (t : Tri) → Good n t → inn x y t ≤ 1
  unfolding inn
  inn-once x y ne (tri a b c) g = inner-once x y a b c (m a b) (m b c) (m c a) ne g refl refl refl

  module _ (x y : ℕ) (ne : x ≢ y) (whole : (u v k : ℕ) → m u v ≡ some k → Same x y u k → ⊥) where
    no-parts : (a b : ℕ) (o : Option ℕ) → m a b ≡ o → F x y a b ≡ 0 → parts (F x y) a b o ≡ 0
    no-parts a b none e h = h
    no-parts a b (some p) e h =
        omega (arith, no-side x y a p (whole a b p e), no-side x y b p (whole b a p (M.flip b a ∙ e)), F-sym x y p b)

    inner-pieces : (t : Tri) → around (F x y) t ≡ 0 → total (around (F x y)) (pieces m t) ≡ 2 * inn x y t
    unfolding inn
    inner-pieces (tri a b c) z =
        weighed n m M (F x y) (F-sym x y) _ _ _ _ a b c
        (no-parts a b (m a b) refl (omega arith))
        (no-parts b c (m b c) refl (omega arith))
        (no-parts c a (m c a) refl (omega arith))
        refl
        ∙ omega arith

    -- (c) a side of a new triangle that is no old side and no half lies in two new triangles
    pub inner-side : (ts : List Tri) → All (Good n) ts → AllDifferent ts → count x y (refined m ts) ≢ 0 → count x y ts ≡ 0 → count x y (refined m ts) ≡ 2
    inner-side ts h d some-new no_old =
        let zero-old : All (λ t. around (F x y) t ≡ 0) ts = total-zero (around (F x y)) ts (sym (count-around x y ne ts (all-distinct n ts h)) ∙ no_old) in
        let twice : count x y (refined m ts) ≡ 2 * total (inn x y) ts =
        counted n m M (λ t. around (F x y) t ≡ 0) x y ne (λ t. 2 * inn x y t) inner-pieces ts h zero-old ∙ total-times 2 (inn x y) ts in
        let once : total (inn x y) ts ≤ 1 = one_place (Good n) (inn x y) (inn-apart x y) (inn-once x y ne) ts h d in
        omega arith
