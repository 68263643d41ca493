-- What a triangle that row 19 lets through has: a positive area, and, where its corners are finite doubles, no coordinate of 2 ^ 1022 or more. So its
-- midpoints are finite: the square of its longest side is finite, and two different doubles of that size are too far apart for it, so that all three
-- corners would have one x or one y. Assumes nothing.
use Prim.Native.Nat.{ℕ, zero, suc, ◌*◌, ◌^◌}
use native.Mathlib.Omega.{arith}
use mathlib.Core.Path.{◌≡◌, refl, sym, ap, ◌∙◌, subst}
use mathlib.Core.Logic.{◌⊎◌, inl, inr, ◌≢◌}
use mathlib.Core.Bool.{Bool, true, false, not, cond, ◌||◌}
use lib.Dec.{T, lt→ltb}
use lib.IntN.{ℤ}
use lib.Ieee.{Float, nan, inf, fin, binary64, up, down, add, mul, lt, le, eq, ne, of_bits, fits}
use lib.Ieee.Positive.{positive}
use Rattle.float.specs.Double.{lit, mag, is_finite, max_of, ◌⊕◌, ◌⊖◌, ◌⊗◌}
use Rattle.float.proofs.Sign.{Flat, Plain, Number, plain-round, flat-le, mul-either, sub_number, square-plain}
use Rattle.float.proofs.Within.{Within}
use Rattle.float.proofs.Far.{Far, Large, far_apart, far-square, large-or}
use Rattle.plane.specs.declared.Pair.{Pair}
use Rattle.std.specs.Prelude.{Result, Err}
use Rattle.geometry.specs.declared.Degenerate.{Degenerate}
use Rattle.geometry.specs.declared.TriangleGeometry.{TriangleGeometry}
use Rattle.plane.specs.Pair.{orientation}
use Rattle.geometry.specs.Triangle.{side2, longest, area_of, SMALLEST-AREA, degenerate, placed, geometry, number}
use Rattle.geometry.proofs.Orientation.{Bare, side-bare, Way, longest-plain, orientation-ways, scaled-plain, sub_self, sub-flat, mul-flat, flat-degenerate}

-- ---- the area

record Passed (w y : Float) : Type 0 where
  finite : is_finite w ≡ true
  larger : le w y ≡ false

passed : (w y : Float) → not (is_finite w) || le w y ≡ false → Passed w y
passed w y h = go (is_finite w) refl h
  where
    go : (b : Bool) → is_finite w ≡ b → not b || le w y ≡ false → Passed w y
    go true e h = record { finite = e; larger = h }
    go false e h = absurd (subst T h tt)

le-inf : (m : ℕ) (e : ℤ) → le (fin false m e) (inf false) ≡ true
unfolding le
le-inf m e = refl

-- an area that is finite, not negative, and above a share that is not negative either
above-share : (w y : Float) → Plain w → Plain y → Passed w y → T (positive w) × (y ≢ inf false)
above-share nan y p q h = absurd p
above-share (inf s) y p q h = absurd (subst T (sym h.finite) tt)
above-share (fin true m e) y p q h = absurd (subst T p tt)
above-share (fin false zero e) y p q h = absurd (subst T (sym (flat-le 0 e y refl q) ∙ h.larger) tt)
above-share (fin false (suc m) e) y p q h = (lt→ltb 0 (suc m) (omega arith), λ z. absurd (subst T (sym (le-inf (suc m) e) ∙ ap (le (fin false (suc m) e)) (sym z) ∙ h.larger) tt))

area-plain : (t : Float) → is_finite (area_of t) ≡ true → Number t × Plain (area_of t)
unfolding area_of mag mul of_bits
area-plain nan h = absurd (subst T (sym h) tt)
area-plain (inf s) h = absurd (subst T (sym h) tt)
area-plain (fin s m e) h = (tt, plain-round binary64 (1 * 1 * (m * up e)) (2 * down e))

scaled-inf : SMALLEST-AREA ⊗ inf false ≡ inf false
unfolding mul of_bits
scaled-inf = refl

-- the area is positive, and the longest side's square is finite
let_through : (p q r : Pair) (t : Float) → (Number t → Way p q) → degenerate p q r (area_of t) ≡ false → T (positive (area_of t)) × (longest p q r ≢ inf false)
unfolding degenerate
let_through p q r t way h =
    let y = SMALLEST-AREA ⊗ longest p q r in
    let k = passed (area_of t) y h in
    let a = area-plain t k.finite in
    let b = above-share (area_of t) y a.1 (scaled-plain (longest p q r) (longest-plain p q r (way a.0))) k in
    (b.0, λ z. b.1 (ap (λ (l : Float). SMALLEST-AREA ⊗ l) z ∙ scaled-inf))

-- ---- the sides

max-left : (b : Float) → max_of (inf false) b ≡ inf false
unfolding lt ne eq
max-left nan = refl
max-left (inf true) = refl
max-left (inf false) = refl
max-left (fin s m e) = refl

max-right : (a : Float) → Bare a → max_of a (inf false) ≡ inf false
unfolding lt ne eq
max-right nan h = refl
max-right (inf true) h = absurd (subst T h tt)
max-right (inf false) h = refl
max-right (fin s m e) h = refl

max-bare : (a b : Float) → Bare a → Bare b → Bare (max_of a b)
max-bare a b h g = go (lt a b) (ne a a)
  where
    go : (u v : Bool) → Bare (cond u b (cond v b a))
    go true v = g
    go false true = g
    go false false = h

-- so is each side's
each-finite : (p q r : Pair) → longest p q r ≢ inf false → (side2 p q ≢ inf false) × (side2 q r ≢ inf false) × (side2 r p ≢ inf false)
unfolding longest
each-finite p q r h = (
  λ z. h (ap (λ (x : Float). max_of (max_of x (side2 q r)) (side2 r p)) z ∙ ap (λ (x : Float). max_of x (side2 r p)) (max-left (side2 q r)) ∙ max-left (side2 r p)),
  λ z. h (ap (λ (x : Float). max_of (max_of (side2 p q) x) (side2 r p)) z ∙ ap (λ (x : Float). max_of x (side2 r p)) (max-right (side2 p q) (side-bare p q)) ∙ max-left (side2 r p)),
  λ z. h (ap (λ (x : Float). max_of (max_of (side2 p q) (side2 q r)) x) z ∙ max-right (max_of (side2 p q) (side2 q r)) (max-bare (side2 p q) (side2 q r) (side-bare p q) (side-bare q r))),
)

-- a finite double, and a point with two of them
abbrev pub Double : Float → Type 0
Double x = T (is_finite x) × T (fits binary64 x)

abbrev pub Spot : Pair → Type 0
Spot p = Double p.x × Double p.y

add_left : (y : Float) → Plain y → inf false ⊕ y ≡ inf false
unfolding add
add_left nan h = absurd h
add_left (inf true) h = absurd (subst T h tt)
add_left (inf false) h = refl
add_left (fin s m e) h = refl

add_right : (x : Float) → Plain x → x ⊕ inf false ≡ inf false
unfolding add
add_right nan h = absurd h
add_right (inf true) h = absurd (subst T h tt)
add_right (inf false) h = refl
add_right (fin s m e) h = refl

square : (a b : Float) → Double a → Double b → Plain ((b ⊖ a) ⊗ (b ⊖ a))
square a b h g = square-plain binary64 (b ⊖ a) (sub_number binary64 b a g.0 h.0)

-- where one of two coordinates is large and the square of their difference finite, they are one
near : (a b : Float) → Double a → Double b → (b ⊖ a) ⊗ (b ⊖ a) ≢ inf false → Large a ⊎ Large b → a ≡ b
near a b h g n (inl l) = go (far_apart a b h.1 g.1 l g.0)
  where
    go : (a ≡ b) ⊎ (Far (a ⊖ b) × Far (b ⊖ a)) → a ≡ b
    go (inl e) = e
    go (inr f) = absurd (n (far-square (b ⊖ a) f.1))
near a b h g n (inr l) = go (far_apart b a g.1 h.1 l h.0)
  where
    go : (b ≡ a) ⊎ (Far (b ⊖ a) × Far (a ⊖ b)) → a ≡ b
    go (inl e) = sym e
    go (inr f) = absurd (n (far-square (b ⊖ a) f.0))

abbrev Near : Pair → Pair → Type 0
Near p q = (Large p.x ⊎ Large q.x → p.x ≡ q.x) × (Large p.y ⊎ Large q.y → p.y ≡ q.y)

side-near : (p q : Pair) → Spot p → Spot q → side2 p q ≢ inf false → Near p q
unfolding side2
side-near p q h g n = (
  near p.x q.x h.0 g.0 (λ z. n (ap (λ (w : Float). w ⊕ (q.y ⊖ p.y) ⊗ (q.y ⊖ p.y)) z ∙ add_left _ (square p.y q.y h.1 g.1))),
  near p.y q.y h.1 g.1 (λ z. n (ap (λ (w : Float). (q.x ⊖ p.x) ⊗ (q.x ⊖ p.x) ⊕ w) z ∙ add_right _ (square p.x q.x h.0 g.0))),
)

-- ---- one x, or one y, is flat

level : (a b : Float) → a ≡ b → Flat (b ⊖ a)
level a b e = subst (λ (z : Float). Flat (z ⊖ a)) e (sub_self binary64 a)

mul-flat-right : (x y : Float) → Flat y → Flat (x ⊗ y)
mul-flat-right x y h = subst Flat (mul-either binary64 y x) (mul-flat binary64 y x h)

flat-x : (p q r : Pair) → p.x ≡ q.x → p.x ≡ r.x → Flat (orientation p q r)
unfolding orientation
flat-x p q r e g =
    sub-flat binary64 ((q.x ⊖ p.x) ⊗ (r.y ⊖ p.y)) ((q.y ⊖ p.y) ⊗ (r.x ⊖ p.x))
    (mul-flat binary64 (q.x ⊖ p.x) (r.y ⊖ p.y) (level p.x q.x e)) (mul-flat-right (q.y ⊖ p.y) (r.x ⊖ p.x) (level p.x r.x g))

flat-y : (p q r : Pair) → p.y ≡ q.y → p.y ≡ r.y → Flat (orientation p q r)
unfolding orientation
flat-y p q r e g =
    sub-flat binary64 ((q.x ⊖ p.x) ⊗ (r.y ⊖ p.y)) ((q.y ⊖ p.y) ⊗ (r.x ⊖ p.x))
    (mul-flat-right (q.x ⊖ p.x) (r.y ⊖ p.y) (level p.y r.y g)) (mul-flat binary64 (q.y ⊖ p.y) (r.x ⊖ p.x) (level p.y q.y e))

-- ---- a triangle that row 19 lets through

-- the three sides, each one way or the other
record Sides (p q r : Pair) : Type 0 where
  first : (side2 p q ≢ inf false) ⊎ (side2 q p ≢ inf false)
  second : (side2 q r ≢ inf false) ⊎ (side2 r q ≢ inf false)
  third : (side2 r p ≢ inf false) ⊎ (side2 p r ≢ inf false)

module _ (i j k t : ℕ) (p q r : Pair) (sound : number (geometry i j k p q r t) ≡ 0) where
  kept : (a b c : ℕ) (u v w : Pair) → number (placed a b c u v w (area_of (orientation p q r)) t) ≡ 0 → degenerate u v w (area_of (orientation p q r)) ≡ false
  unfolding placed
  kept a b c u v w h = go _ (degenerate u v w (area_of (orientation p q r))) h
    where
      go : (g : Result TriangleGeometry Degenerate) (d : Bool) → number (cond d (Err (record { triangle = t })) g) ≡ 0 → d ≡ false
      go g true h = absurd (omega arith)
      go g false h = refl

  area-and-sides : T (positive (area_of (orientation p q r))) × Sides p q r
  unfolding geometry
  area-and-sides = go (lt (orientation p q r) (lit 0)) sound
    where
      ways : Number (orientation p q r) → Way p q × Way p r
      ways = orientation-ways p q r

      go : (l : Bool) → number (cond l (placed i k j p r q (area_of (orientation p q r)) t) (placed i j k p q r (area_of (orientation p q r)) t)) ≡ 0 → T (positive (area_of (orientation p q r))) × Sides p q r
      go true h =
          let a = let_through p r q (orientation p q r) (λ n. (ways n).1) (kept i k j p r q h) in
          let e = each-finite p r q a.1 in
          (a.0, record { first = inr e.2; second = inr e.1; third = inr e.0 })
      go false h =
          let a = let_through p q r (orientation p q r) (λ n. (ways n).0) (kept i j k p q r h) in
          let e = each-finite p q r a.1 in
          (a.0, record { first = inl e.0; second = inl e.1; third = inl e.2 })

  pub positive-area : T (positive (area_of (orientation p q r)))
  positive-area = area-and-sides.0

  not-flat : Flat (orientation p q r) → ⊥
  not-flat f = let z : number (Err (record { triangle = t })) ≡ 0 = sym (ap number (flat-degenerate i j k t p q r f)) ∙ sound in absurd (omega (arith, z))

  module _ (P : Spot p) (Q : Spot q) (R : Spot r) where
    either : (u v : Pair) → Spot u → Spot v → (side2 u v ≢ inf false) ⊎ (side2 v u ≢ inf false) → Near u v
    either u v h g (inl n) = side-near u v h g n
    either u v h g (inr n) = let b = side-near v u g h n in (λ l. sym (b.0 (swap l)), λ l. sym (b.1 (swap l)))
      where
        swap : {A B : Type 0} → A ⊎ B → B ⊎ A
        swap (inl a) = inr a
        swap (inr b) = inl b

    pq : Near p q
    pq = either p q P Q area-and-sides.1.first

    qr : Near q r
    qr = either q r Q R area-and-sides.1.second

    rp : Near r p
    rp = either r p R P area-and-sides.1.third

    small : (x : Float) → T (is_finite x) → (Large x → ⊥) → Within x (2 ^ 1022) 1
    small x h n = go (large-or x h)
      where
        go : Large x ⊎ Within x (2 ^ 1022) 1 → Within x (2 ^ 1022) 1
        go (inl l) = absurd (n l)
        go (inr w) = w

    -- no coordinate is 2 ^ 1022 or more in size
    abbrev pub Small : Pair → Type 0
    Small u = Within u.x (2 ^ 1022) 1 × Within u.y (2 ^ 1022) 1

    pub small-corners : Small p × Small q × Small r
    small-corners = (
      (small p.x P.0.0 (λ l. not-flat (flat-x p q r (pq.0 (inl l)) (sym (rp.0 (inr l))))), small p.y P.1.0 (λ l. not-flat (flat-y p q r (pq.1 (inl l)) (sym (rp.1 (inr l)))))),
      (small q.x Q.0.0 (λ l. not-flat (flat-x p q r (pq.0 (inr l)) (pq.0 (inr l) ∙ qr.0 (inl l)))), small q.y Q.1.0 (λ l. not-flat (flat-y p q r (pq.1 (inr l)) (pq.1 (inr l) ∙ qr.1 (inl l))))),
      (small r.x R.0.0 (λ l. not-flat (flat-x p q r (sym (rp.0 (inl l)) ∙ sym (qr.0 (inr l))) (sym (rp.0 (inl l))))), small r.y R.1.0 (λ l. not-flat (flat-y p q r (sym (rp.1 (inl l)) ∙ sym (qr.1 (inr l))) (sym (rp.1 (inl l)))))),
    )
