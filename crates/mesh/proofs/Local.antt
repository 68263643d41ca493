-- One triangle: how often a side of each kind lies in its pieces. Assumes nothing.
use Prim.Native.Nat.{ℕ, ◌+◌, ◌*◌, ◌≤◌, ◌<◌}
use native.Mathlib.Omega.{arith}
use native.Mathlib.Decide.{ℕ_discrete}
use mathlib.Core.Path.{◌≡◌, refl, sym, ◌∙◌}
use mathlib.Core.Logic.{◌≢◌, inl, inr, ⊎_elim}
use mathlib.Core.Option.{Option, none, some}
use Rattle.mesh.specs.Mesh.{Tri, tri, Same, Mids, Good, All, one, is_none, total, split, pieces, Distinct}
use Rattle.mesh.proofs.Weigh.{F, F-sym, F-zero, F-one, around, parts, inner, split-weighs}

-- the inner sides weigh nothing where each does
pub inner-zero : (W : ℕ → ℕ → ℕ) (a b c : ℕ) (o₁ o₂ o₃ : Option ℕ)
    → ((p : ℕ) → o₁ ≡ some p → W p c ≡ 0) → ((q : ℕ) → o₂ ≡ some q → W q a ≡ 0) → ((r : ℕ) → o₃ ≡ some r → W r b ≡ 0)
    → ((p q : ℕ) → o₁ ≡ some p → o₂ ≡ some q → W p q ≡ 0) → ((q r : ℕ) → o₂ ≡ some q → o₃ ≡ some r → W q r ≡ 0)
    → ((r p : ℕ) → o₃ ≡ some r → o₁ ≡ some p → W r p ≡ 0) → inner W a b c o₁ o₂ o₃ ≡ 0
inner-zero W a b c none none none P Q R PQ QR RP = refl
inner-zero W a b c (some p) none none P Q R PQ QR RP = P p refl
inner-zero W a b c none (some q) none P Q R PQ QR RP = Q q refl
inner-zero W a b c none none (some r) P Q R PQ QR RP = R r refl
inner-zero W a b c (some p) (some q) none P Q R PQ QR RP = omega (arith, PQ p q refl refl, P p refl)
inner-zero W a b c none (some q) (some r) P Q R PQ QR RP = omega (arith, QR q r refl refl, Q q refl)
inner-zero W a b c (some p) none (some r) P Q R PQ QR RP = omega (arith, RP r p refl refl, P p refl)
inner-zero W a b c (some p) (some q) (some r) P Q R PQ QR RP = omega (arith, PQ p q refl refl, QR q r refl refl, RP r p refl refl)

module _ (n : ℕ) (m : ℕ → ℕ → Option ℕ) (M : Mids n m) where
  -- two sides of a triangle have different midpoints
  pub mids-differ : (a b c p q : ℕ) → a ≢ b → c ≢ a → m a b ≡ some p → m b c ≡ some q → p ≢ q
  mids-differ a b c p q h k e₁ e₂ s = ⊎_elim (λ u. h u.0) (λ u. k (sym u.0)) (M.only a b b c p e₁ (rw (← s) at e₂))

  -- the pieces are triangles of three different points
  pub split-distinct : (a b c : ℕ) (o₁ o₂ o₃ : Option ℕ) → Good n (tri a b c) → m a b ≡ o₁ → m b c ≡ o₂ → m c a ≡ o₃ → All Distinct (split a b c o₁ o₂ o₃)
  split-distinct a b c none none none g e₁ e₂ e₃ = omega arith
  split-distinct a b c (some p) none none g e₁ e₂ e₃ = omega (arith, M.high a b p e₁)
  split-distinct a b c none (some q) none g e₁ e₂ e₃ = omega (arith, M.high b c q e₂)
  split-distinct a b c none none (some r) g e₁ e₂ e₃ = omega (arith, M.high c a r e₃)
  split-distinct a b c (some p) (some q) none g e₁ e₂ e₃ =
      omega (arith, M.high a b p e₁, M.high b c q e₂, mids-differ a b c p q g.3 g.5 e₁ e₂)
  split-distinct a b c none (some q) (some r) g e₁ e₂ e₃ =
      omega (arith, M.high b c q e₂, M.high c a r e₃, mids-differ b c a q r g.4 g.3 e₂ e₃)
  split-distinct a b c (some p) none (some r) g e₁ e₂ e₃ =
      omega (arith, M.high a b p e₁, M.high c a r e₃, mids-differ c a b r p g.5 g.4 e₃ e₁)
  split-distinct a b c (some p) (some q) (some r) g e₁ e₂ e₃ =
      omega (arith, M.high a b p e₁, M.high b c q e₂, M.high c a r e₃, mids-differ a b c p q g.3 g.5 e₁ e₂, mids-differ b c a q r g.4 g.3 e₂ e₃, mids-differ c a b r p g.5 g.4 e₃ e₁)

  -- what the pieces of a triangle weigh, by the weights of sides
  pub weighed : (W : ℕ → ℕ → ℕ) → ((a b : ℕ) → W a b ≡ W b a) → (g₁ g₂ g₃ i a b c : ℕ) → parts W a b (m a b) ≡ g₁ → parts W b c (m b c) ≡ g₂
      → parts W c a (m c a) ≡ g₃ → inner W a b c (m a b) (m b c) (m c a) ≡ i → total (around W) (pieces m (tri a b c)) ≡ g₁ + (g₂ + g₃) + 2 * i
  weighed W w g₁ g₂ g₃ i a b c h₁ h₂ h₃ k = split-weighs W w a b c (m a b) (m b c) (m c a) ∙ omega arith

  -- ---- an old side: it lies whole in the pieces, as often as in the triangle, where it is not cut, and otherwise never
  module _ (x y : ℕ) (hx : x < n) (hy : y < n) where
    clash : (a b p : ℕ) → m a b ≡ none → m x y ≡ some p → Same x y a b → ⊥
    clash a b p e k (inl s) = let z : ◌≡◌ {A = ℕ} 0 1 = cc in omega arith
    clash a b p e k (inr s) = let z : ◌≡◌ {A = ℕ} 0 1 = cc (M.flip x y) in omega arith

    clash' : (a b p : ℕ) → m a b ≡ some p → m x y ≡ none → Same x y a b → ⊥
    clash' a b p e k (inl s) = let z : ◌≡◌ {A = ℕ} 0 1 = cc in omega arith
    clash' a b p e k (inr s) = let z : ◌≡◌ {A = ℕ} 0 1 = cc (M.flip x y) in omega arith

    far : (p z : ℕ) → n ≤ p → F x y p z ≡ 0
    far p z h = F-zero x y p z (λ s t. omega arith) (λ s t. omega arith)

    old-parts : (a b : ℕ) (o o' : Option ℕ) → m a b ≡ o → m x y ≡ o' → parts (F x y) a b o ≡ one (is_none o') * F x y a b
    old-parts a b none none e k = omega arith
    old-parts a b none (some p) e k = omega (arith, F-zero x y a b (λ s t. clash a b p e k (inl (s, t))) (λ s t. clash a b p e k (inr (s, t))))
    old-parts a b (some p) none e k =
        let h : n ≤ p = M.high a b p e in
        omega (arith, far p a h, F-sym x y a p, far p b h, F-zero x y a b (λ s t. clash' a b p e k (inl (s, t))) (λ s t. clash' a b p e k (inr (s, t))))
    old-parts a b (some p) (some q) e k = let h : n ≤ p = M.high a b p e in omega (arith, far p a h, F-sym x y a p, far p b h)

    old-inner : (a b c : ℕ) → inner (F x y) a b c (m a b) (m b c) (m c a) ≡ 0
    old-inner a b c =
        inner-zero (F x y) a b c (m a b) (m b c) (m c a)
        (λ p e. far p c (M.high a b p e))
        (λ q e. far q a (M.high b c q e))
        (λ r e. far r b (M.high c a r e))
        (λ p q e f. far p q (M.high a b p e))
        (λ q r e f. far q r (M.high b c q e))
        (λ r p e f. far r p (M.high c a r e))

    pub old-pieces : (t : Tri) → total (around (F x y)) (pieces m t) ≡ one (is_none (m x y)) * around (F x y) t
    old-pieces (tri a b c) =
        weighed (F x y) (F-sym x y) _ _ _ _ a b c
        (old-parts a b (m a b) (m x y) refl refl)
        (old-parts b c (m b c) (m x y) refl refl)
        (old-parts c a (m c a) (m x y) refl refl)
        (old-inner a b c)
        ∙ omega arith

  -- ---- the half of x y at x, for the cut side x y with midpoint k: it lies in the pieces as often as x y in the triangle
  module _ (x y k : ℕ) (hx : x < n) (hy : y < n) (ne : x ≢ y) (cut : m x y ≡ some k) where
    hk : n ≤ k
    hk = M.high x y k cut

    half-yes : (a b p : ℕ) → a < n → b < n → m a b ≡ some p → p ≡ k → Same a b x y → F x k a p + F x k p b ≡ F x y a b
    half-yes a b p ha hb e h (inl s) =
        let q : n ≤ k = hk in
        omega (
          arith,
          F-one x k a p (omega arith) (inl (sym s.0, sym h)),
          F-zero x k p b (λ u v. omega arith) (λ u v. omega arith),
          F-one x y a b ne (inl (sym s.0, sym s.1)),
        )
    half-yes a b p ha hb e h (inr s) =
        let q : n ≤ k = hk in
        omega (
          arith,
          F-one x k p b (omega arith) (inr (sym s.1, sym h)),
          F-zero x k a p (λ u v. omega arith) (λ u v. omega arith),
          F-one x y a b ne (inr (sym s.1, sym s.0)),
        )

    half-parts : (a b : ℕ) (o : Option ℕ) → a < n → b < n → m a b ≡ o → parts (F x k) a b o ≡ F x y a b
    half-parts a b none ha hb e =
        let q : n ≤ k = hk in
        omega (
          arith,
          F-zero x k a b (λ u v. omega arith) (λ u v. omega arith),
          F-zero x y a b (λ s t. clash x y hx hy a b k e cut (inl (s, t))) (λ s t. clash x y hx hy a b k e cut (inr (s, t))),
        )
    half-parts a b (some p) ha hb e = go (ℕ_discrete p k)
      where
        go : Dec (p ≡ k) → F x k a p + F x k p b ≡ F x y a b
        go (yes h) = half-yes a b p ha hb e h (M.only a b x y p e (rw h cut))
        go (no h) =
            let q : n ≤ p = M.high a b p e in
            omega (
              arith,
              F-zero x k a p (λ u v. omega arith) (λ u v. omega arith),
              F-zero x k p b (λ u v. omega arith) (λ u v. omega arith),
              F-zero x y a b (λ s t. h (cc)) (λ s t. h (cc (M.flip x y))),
            )

    half-opp : (a b c p : ℕ) → c ≢ a → b ≢ c → m a b ≡ some p → F x k p c ≡ 0
    half-opp a b c p h₁ h₂ e =
        let q : n ≤ p = M.high a b p e in
        F-zero x k p c (λ u v. omega arith) (λ u v. ⊎_elim (λ s. omega arith) (λ s. omega arith) (M.only a b x y p e (rw (← v) cut)))

    half_high : (p q : ℕ) → n ≤ p → n ≤ q → F x k p q ≡ 0
    half_high p q h₁ h₂ = F-zero x k p q (λ u v. omega arith) (λ u v. omega arith)

    half-inner : (a b c : ℕ) → a ≢ b → b ≢ c → c ≢ a → inner (F x k) a b c (m a b) (m b c) (m c a) ≡ 0
    half-inner a b c h₁ h₂ h₃ =
        inner-zero (F x k) a b c (m a b) (m b c) (m c a)
        (λ p e. half-opp a b c p h₃ h₂ e)
        (λ q e. half-opp b c a q h₁ h₃ e)
        (λ r e. half-opp c a b r h₂ h₁ e)
        (λ p q e f. half_high p q (M.high a b p e) (M.high b c q f))
        (λ q r e f. half_high q r (M.high b c q e) (M.high c a r f))
        (λ r p e f. half_high r p (M.high c a r e) (M.high a b p f))

    pub half-pieces : (t : Tri) → Good n t → total (around (F x k)) (pieces m t) ≡ around (F x y) t
    half-pieces (tri a b c) g =
        weighed (F x k) (F-sym x k) _ _ _ _ a b c
        (half-parts a b (m a b) g.0 g.1 refl)
        (half-parts b c (m b c) g.1 g.2 refl)
        (half-parts c a (m c a) g.2 g.0 refl)
        (half-inner a b c g.3 g.4 g.5)
        ∙ omega arith
