-- The pieces of a triangle, on whole coordinates: each has a half or a quarter of its signed area, or of that turned round, and their sizes add to its size. Assumes nothing.
use mathlib.Core.Path.{◌≡◌, refl, sym, ap, ◌∙◌}
use Prim.Native.Nat.{ℕ, ◌+◌, ◌*◌, ◌≤◌}
use native.Mathlib.Omega.{arith}
use mathlib.Core.List.{List, [], ◌∷◌}
use mathlib.Core.Option.{Option, none, some}
use lib.IntN.{ℤ, pos, nat_abs, sub_ℕ, ◌+ℤ◌, ◌-ℤ◌, ◌*ℤ◌}
use Rattle.mesh.specs.Mesh.{Tri, tri, total, split}
use Rattle.mesh.specs.Area.{cross, signed, twice, Middle, shares, Shared}
use Rattle.mesh.proofs.Diff.{raise, lift, diff-back, abs-mul, diff-same, neg-diff, add-diff, mul-diff}

-- the two halves of the shoelace sum
abbrev pub P : ℕ → ℕ → ℕ → ℕ → ℕ → ℕ → ℕ
P ax ay bx by cx cy = ax * by + (bx * cy + cx * ay)

abbrev pub N : ℕ → ℕ → ℕ → ℕ → ℕ → ℕ → ℕ
N ax ay bx by cx cy = ay * bx + (by * cx + cy * ax)

less : (k a b : ℕ) → sub_ℕ a k -ℤ sub_ℕ b k ≡ sub_ℕ a b
less k a b = rw (neg-diff b k, add-diff a k k b) (diff-same (a + k) (k + b) a b (omega arith))

-- the signed area of points whose coordinates are these less k
pub shoelace : (k ax ay bx by cx cy : ℕ) → cross (sub_ℕ ax k) (sub_ℕ ay k) (sub_ℕ bx k) (sub_ℕ by k) (sub_ℕ cx k) (sub_ℕ cy k) ≡ sub_ℕ (P ax ay bx by cx cy) (N ax ay bx by cx cy)
shoelace k ax ay bx by cx cy =
    rw (less k bx ax, less k cy ay, less k by ay, less k cx ax, mul-diff bx ax cy ay, mul-diff by ay cx ax, neg-diff, add-diff)
    (diff-same (bx * cy + ax * ay + (by * ax + ay * cx)) (bx * ay + ax * cy + (by * cx + ay * ax)) (P ax ay bx by cx cy) (N ax ay bx by cx cy) (omega arith))

double-P : (ax ay bx by cx cy ux uy vx vy wx wy : ℕ) → 2 * ax ≡ ux → 2 * ay ≡ uy → 2 * bx ≡ vx → 2 * by ≡ vy → 2 * cx ≡ wx → 2 * cy ≡ wy
    → 4 * P ax ay bx by cx cy ≡ P ux uy vx vy wx wy
double-P ax ay bx by cx cy ux uy vx vy wx wy a b c d e f = rw (← a, ← b, ← c, ← d, ← e, ← f) (omega arith)

double-N : (ax ay bx by cx cy ux uy vx vy wx wy : ℕ) → 2 * ax ≡ ux → 2 * ay ≡ uy → 2 * bx ≡ vx → 2 * by ≡ vy → 2 * cx ≡ wx → 2 * cy ≡ wy
    → 4 * N ax ay bx by cx cy ≡ N ux uy vx vy wx wy
double-N ax ay bx by cx cy ux uy vx vy wx wy a b c d e f = rw (← a, ← b, ← c, ← d, ← e, ← f) (omega arith)

-- ---- one piece
-- the point's coordinates are of size at most k
abbrev pub Near : ℕ → (ℕ → ℤ) → (ℕ → ℤ) → ℕ → Type 0
Near k X Y v = (nat_abs (X v) ≤ k) × (nat_abs (Y v) ≤ k)

middle : (k : ℕ) (p a b : ℤ) → nat_abs p ≤ k → nat_abs a ≤ k → nat_abs b ≤ k → p +ℤ p ≡ a +ℤ b → 2 * raise k p ≡ raise k a + raise k b
middle k p a b hp ha hb e =
    let f : sub_ℕ (raise k p + raise k p) (k + k) ≡ sub_ℕ (raise k a + raise k b) (k + k) =
    sym (add-diff (raise k p) k (raise k p) k) ∙ sym (ap (λ (z : ℤ). z +ℤ z) (lift k p hp)) ∙ e ∙ ap (λ (z : ℤ). z +ℤ b) (lift k a ha) ∙ ap (λ (z : ℤ). sub_ℕ (raise k a) k +ℤ z) (lift k b hb) ∙ add-diff (raise k a) k (raise k b) k in
    omega (arith, diff-back (raise k p + raise k p) (k + k) (raise k a + raise k b) (k + k) f)

cross-of : (k ax ay bx by cx cy : ℕ) (z₁ z₂ z₃ z₄ z₅ z₆ : ℤ) → z₁ ≡ sub_ℕ ax k → z₂ ≡ sub_ℕ ay k → z₃ ≡ sub_ℕ bx k → z₄ ≡ sub_ℕ by k → z₅ ≡ sub_ℕ cx k → z₆ ≡ sub_ℕ cy k
    → cross z₁ z₂ z₃ z₄ z₅ z₆ ≡ sub_ℕ (P ax ay bx by cx cy) (N ax ay bx by cx cy)
cross-of k ax ay bx by cx cy z₁ z₂ z₃ z₄ z₅ z₆ a b c d e f = rw (a, b, c, d, e, f) (shoelace k ax ay bx by cx cy)

-- from four times the piece's two sums to its share g - h of the triangle's area
four : (p n q m g h u v : ℕ) → 4 * p ≡ u → 4 * n ≡ v → u + (g * m + h * q) ≡ v + (g * q + h * m) → pos 4 *ℤ sub_ℕ p n ≡ sub_ℕ g h *ℤ sub_ℕ q m
four p n q m g h u v a b e = mul-diff 4 0 p n ∙ diff-same (4 * p + 0 * n) (4 * n + 0 * p) (g * q + h * m) (g * m + h * q) (omega arith) ∙ sym (mul-diff g h q m)

module _ (k : ℕ) (X Y : ℕ → ℤ) where
  abbrev U : ℕ → ℕ
  U v = raise k (X v)

  abbrev W : ℕ → ℕ
  W v = raise k (Y v)

  -- x is half of x1 + x2
  abbrev Half : ℕ → ℕ → ℕ → Type 0
  Half x x1 x2 = (2 * U x ≡ U x1 + U x2) × (2 * W x ≡ W x1 + W x2)

  own : (x : ℕ) → Half x x x
  own x = omega arith

  half : (p a b : ℕ) → Near k X Y p → Near k X Y a → Near k X Y b → Middle X Y X Y p a b → Half p a b
  half p a b hp ha hb e = (middle k (X p) (X a) (X b) hp.0 ha.0 hb.0 e.0, middle k (Y p) (Y a) (Y b) hp.1 ha.1 hb.1 e.1)

  abbrev area-P : ℕ → ℕ → ℕ → ℕ
  area-P a b c = P (U a) (W a) (U b) (W b) (U c) (W c)

  abbrev area-N : ℕ → ℕ → ℕ → ℕ
  area-N a b c = N (U a) (W a) (U b) (W b) (U c) (W c)

  signed_is : (a b c : ℕ) → Near k X Y a → Near k X Y b → Near k X Y c → signed X Y (tri a b c) ≡ sub_ℕ (area-P a b c) (area-N a b c)
  unfolding signed
  signed_is a b c ha hb hc =
      cross-of k (U a) (W a) (U b) (W b) (U c) (W c) (X a) (Y a) (X b) (Y b) (X c) (Y c) (lift k (X a) ha.0) (lift k (Y a) ha.1) (lift k (X b) hb.0) (lift k (Y b) hb.1) (lift k (X c) hc.0) (lift k (Y c) hc.1)

  -- the corners x y z of a piece, each halfway between two corners of the triangle a b c: its share is g - h quarters
  part : (a b c x x₁ x₂ y y₁ y₂ z z₁ z₂ g h : ℕ) → Near k X Y a → Near k X Y b → Near k X Y c → Near k X Y x → Near k X Y y → Near k X Y z → Half x x₁ x₂ → Half y y₁ y₂ → Half z z₁ z₂
      → P (U x₁ + U x₂) (W x₁ + W x₂) (U y₁ + U y₂) (W y₁ + W y₂) (U z₁ + U z₂) (W z₁ + W z₂) + (g * area-N a b c + h * area-P a b c)
      ≡ N (U x₁ + U x₂) (W x₁ + W x₂) (U y₁ + U y₂) (W y₁ + W y₂) (U z₁ + U z₂) (W z₁ + W z₂) + (g * area-P a b c + h * area-N a b c)
      → pos 4 *ℤ signed X Y (tri x y z) ≡ sub_ℕ g h *ℤ signed X Y (tri a b c)
  part a b c x x₁ x₂ y y₁ y₂ z z₁ z₂ g h ha hb hc hx hy hz ex ey ez e =
      rw (signed_is x y z hx hy hz, signed_is a b c ha hb hc)
      (four (area-P x y z) (area-N x y z) (area-P a b c) (area-N a b c) g h
      (P (U x₁ + U x₂) (W x₁ + W x₂) (U y₁ + U y₂) (W y₁ + W y₂) (U z₁ + U z₂) (W z₁ + W z₂)) (N (U x₁ + U x₂) (W x₁ + W x₂) (U y₁ + U y₂) (W y₁ + W y₂) (U z₁ + U z₂) (W z₁ + W z₂))
      (double-P (U x) (W x) (U y) (W y) (U z) (W z) _ _ _ _ _ _ ex.0 ex.1 ey.0 ey.1 ez.0 ez.1)
      (double-N (U x) (W x) (U y) (W y) (U z) (W z) _ _ _ _ _ _ ex.0 ex.1 ey.0 ey.1 ez.0 ez.1)
      e)

  -- a cut side's midpoint
  abbrev pub Cut : Option ℕ → ℕ → ℕ → Type 0
  Cut none a b = Unit {0}
  Cut (some p) a b = Near k X Y p × Middle X Y X Y p a b

  pub split-shares : (a b c : ℕ) (o₁ o₂ o₃ : Option ℕ) → Near k X Y a → Near k X Y b → Near k X Y c → Cut o₁ a b → Cut o₂ b c → Cut o₃ c a
      → Shared X Y (signed X Y (tri a b c)) (split a b c o₁ o₂ o₃) (shares o₁ o₂ o₃)
  split-shares a b c none none none ha hb hc h₁ h₂ h₃ = (
    refl,
    tt,
  )
  split-shares a b c (some p) none none ha hb hc h₁ h₂ h₃ = (
    part a b c a a a p a b c c c 2 0 ha hb hc ha h₁.0 hc (own a) (half p a b h₁.0 ha hb h₁.1) (own c) (omega arith),
    (
      part a b c p a b b b b c c c 2 0 ha hb hc h₁.0 hb hc (half p a b h₁.0 ha hb h₁.1) (own b) (own c) (omega arith),
      tt,
    ),
  )
  split-shares a b c none (some q) none ha hb hc h₁ h₂ h₃ = (
    part a b c a a a b b b q b c 2 0 ha hb hc ha hb h₂.0 (own a) (own b) (half q b c h₂.0 hb hc h₂.1) (omega arith),
    (
      part a b c a a a q b c c c c 2 0 ha hb hc ha h₂.0 hc (own a) (half q b c h₂.0 hb hc h₂.1) (own c) (omega arith),
      tt,
    ),
  )
  split-shares a b c none none (some r) ha hb hc h₁ h₂ h₃ = (
    part a b c a a a b b b r c a 2 0 ha hb hc ha hb h₃.0 (own a) (own b) (half r c a h₃.0 hc ha h₃.1) (omega arith),
    (
      part a b c r c a b b b c c c 2 0 ha hb hc h₃.0 hb hc (half r c a h₃.0 hc ha h₃.1) (own b) (own c) (omega arith),
      tt,
    ),
  )
  split-shares a b c (some p) (some q) none ha hb hc h₁ h₂ h₃ = (
    part a b c b b b p a b q b c 0 1 ha hb hc hb h₁.0 h₂.0 (own b) (half p a b h₁.0 ha hb h₁.1) (half q b c h₂.0 hb hc h₂.1) (omega arith),
    (
      part a b c p a b a a a c c c 0 2 ha hb hc h₁.0 ha hc (half p a b h₁.0 ha hb h₁.1) (own a) (own c) (omega arith),
      (
        part a b c p a b c c c q b c 0 1 ha hb hc h₁.0 hc h₂.0 (half p a b h₁.0 ha hb h₁.1) (own c) (half q b c h₂.0 hb hc h₂.1) (omega arith),
        tt,
      ),
    ),
  )
  split-shares a b c none (some q) (some r) ha hb hc h₁ h₂ h₃ = (
    part a b c c c c q b c r c a 0 1 ha hb hc hc h₂.0 h₃.0 (own c) (half q b c h₂.0 hb hc h₂.1) (half r c a h₃.0 hc ha h₃.1) (omega arith),
    (
      part a b c q b c b b b a a a 0 2 ha hb hc h₂.0 hb ha (half q b c h₂.0 hb hc h₂.1) (own b) (own a) (omega arith),
      (
        part a b c q b c a a a r c a 0 1 ha hb hc h₂.0 ha h₃.0 (half q b c h₂.0 hb hc h₂.1) (own a) (half r c a h₃.0 hc ha h₃.1) (omega arith),
        tt,
      ),
    ),
  )
  split-shares a b c (some p) none (some r) ha hb hc h₁ h₂ h₃ = (
    part a b c a a a p a b r c a 1 0 ha hb hc ha h₁.0 h₃.0 (own a) (half p a b h₁.0 ha hb h₁.1) (half r c a h₃.0 hc ha h₃.1) (omega arith),
    (
      part a b c p a b b b b c c c 2 0 ha hb hc h₁.0 hb hc (half p a b h₁.0 ha hb h₁.1) (own b) (own c) (omega arith),
      (
        part a b c p a b c c c r c a 1 0 ha hb hc h₁.0 hc h₃.0 (half p a b h₁.0 ha hb h₁.1) (own c) (half r c a h₃.0 hc ha h₃.1) (omega arith),
        tt,
      ),
    ),
  )
  split-shares a b c (some p) (some q) (some r) ha hb hc h₁ h₂ h₃ = (
    part a b c a a a p a b r c a 1 0 ha hb hc ha h₁.0 h₃.0 (own a) (half p a b h₁.0 ha hb h₁.1) (half r c a h₃.0 hc ha h₃.1) (omega arith),
    (
      part a b c p a b b b b q b c 1 0 ha hb hc h₁.0 hb h₂.0 (half p a b h₁.0 ha hb h₁.1) (own b) (half q b c h₂.0 hb hc h₂.1) (omega arith),
      (
        part a b c r c a q b c c c c 1 0 ha hb hc h₃.0 h₂.0 hc (half r c a h₃.0 hc ha h₃.1) (half q b c h₂.0 hb hc h₂.1) (own c) (omega arith),
        (
          part a b c p a b q b c r c a 1 0 ha hb hc h₁.0 h₂.0 h₃.0 (half p a b h₁.0 ha hb h₁.1) (half q b c h₂.0 hb hc h₂.1) (half r c a h₃.0 hc ha h₃.1) (omega arith),
          tt,
        ),
      ),
    ),
  )

-- ---- sizes
abbrev sizes : List ℤ → ℕ
sizes [] = 0
sizes (k ∷ ks) = nat_abs k + sizes ks

sized : (s t k : ℤ) → pos 4 *ℤ s ≡ k *ℤ t → 4 * nat_abs s ≡ nat_abs k * nat_abs t
sized s t k e = sym (abs-mul (pos 4) s) ∙ ap nat_abs e ∙ abs-mul k t

add-four : (x y g h n : ℕ) → 4 * x ≡ g * n → 4 * y ≡ h * n → 4 * (x + y) ≡ (g + h) * n
add-four x y g h n a b = omega arith

shared-total : (X Y : ℕ → ℤ) (s : ℤ) (ts : List Tri) (ks : List ℤ) → Shared X Y s ts ks → 4 * total (twice X Y) ts ≡ sizes ks * nat_abs s
unfolding twice
shared-total X Y s [] [] h = omega arith
shared-total X Y s [] (k ∷ ks) h = absurd h
shared-total X Y s (t ∷ ts) [] h = absurd h
shared-total X Y s (t ∷ ts) (k ∷ ks) h = add-four (nat_abs (signed X Y t)) (total (twice X Y) ts) (nat_abs k) (sizes ks) (nat_abs s) (sized (signed X Y t) s k h.0) (shared-total X Y s ts ks h.1)

shares-four : (o₁ o₂ o₃ : Option ℕ) → sizes (shares o₁ o₂ o₃) ≡ 4
shares-four none none none = refl
shares-four none none (some r) = refl
shares-four none (some q) none = refl
shares-four none (some q) (some r) = refl
shares-four (some p) none none = refl
shares-four (some p) none (some r) = refl
shares-four (some p) (some q) none = refl
shares-four (some p) (some q) (some r) = refl

-- the sizes of the pieces add to the triangle's
pub shared-area : (X Y : ℕ → ℤ) (t : Tri) (ts : List Tri) (o₁ o₂ o₃ : Option ℕ) → Shared X Y (signed X Y t) ts (shares o₁ o₂ o₃) → total (twice X Y) ts ≡ twice X Y t
unfolding twice
shared-area X Y t ts o₁ o₂ o₃ h =
    let e : 4 * total (twice X Y) ts ≡ 4 * nat_abs (signed X Y t) = shared-total X Y (signed X Y t) ts (shares o₁ o₂ o₃) h ∙ ap (λ (n : ℕ). n * nat_abs (signed X Y t)) (shares-four o₁ o₂ o₃) in
    quarter (total (twice X Y) ts) (nat_abs (signed X Y t)) e
  where
    quarter : (a b : ℕ) → 4 * a ≡ 4 * b → a ≡ b
    quarter a b e = omega arith
