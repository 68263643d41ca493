-- Row 19 refuses a triangle with two corners at one point, so an accepted one has three different corners (`three-corners`); and the exchange of
-- the second and third corner changes nothing in what triangle_geometry answers (`exchanged`): the orientation is negated, or both orientations are flat and both refused.
-- Positions are any: midpoints may overflow, and a NaN or an infinity changes nothing. No value is computed: an orientation is flat (NaN, or a zero) where two
-- corners meet. The area of a NaN orientation is no finite number. A zero orientation has numbers for its differences, so that the sides from the first corner are numbers
-- too, the longest one also, which drops a NaN; and its area is at most any such longest side's share.
use mathlib.Core.Path.{◌≡◌, refl, sym, ap, ◌∙◌, subst}
use mathlib.Core.Logic.{◌⊎◌, inl, inr, ⊎_elim, ◌≢◌}
use Prim.Native.Nat.{ℕ, ◌+◌, ◌-◌, ◌*◌, ◌<◌}
use native.Mathlib.Nat.{mul-pos, zero-mul, zero-lt-suc}
use native.Mathlib.Omega.{arith}
use mathlib.Core.Bool.{Bool, true, false, not, cond, ◌&&◌, ◌||◌, beq}
use borrow.Author.Tests.{ltb-true, eq-eqb}
use lib.Dec.{T, ltb}
use lib.Ieee.{Float, nan, inf, fin, Format, binary64, up, down, round, sum, neg, add, sub, mul, lt, le, eq, ne, of_bits, unlike}
use lib.Ieee.Fits.{down_pos}
use Rattle.float.specs.Double.{lit, mag, is_finite, max_of, ◌⊖◌, ◌⊗◌}
use Rattle.float.proofs.Less.{level-self}
use Rattle.float.proofs.Sign.{Flat, Plain, Number, Opposite, flat-round, plain-round, mul-either, sub-opposite, mag-neg, lt-neg, flat-between, square-plain, add-plain, max-plain, mul-plain, flat-le}
use Rattle.plane.specs.declared.Pair.{Pair}
use Rattle.std.specs.Prelude.{Err}
use Rattle.plane.specs.Pair.{orientation}
use Rattle.geometry.specs.Triangle.{side2, longest, area_of, degenerate, placed, geometry, number, at}

-- ---- zeros
zero-sum : (f : Format) (s t : Bool) (a b c : ℕ) → 0 < c → a ≡ 0 → b ≡ 0 → Flat (sum f s a t b c)
unfolding sum
zero-sum f s t a b c C h g = go (beq s t) (ltb a b)
  where
    go : (d l : Bool) → Flat (cond d (round f s (a + b) c) (cond l (round f t (b - a) c) (round f (s && ltb b a) (a - b) c)))
    go true l = flat-round f s (a + b) c C (omega arith)
    go false true = flat-round f t (b - a) c C (omega arith)
    go false false = flat-round f (s && ltb b a) (a - b) c C (omega arith)

zero-product : (m u d : ℕ) → m ≡ 0 → m * u * d ≡ 0
zero-product m u d h = rw h (simp zero-mul)

pub sub-flat : (f : Format) (x y : Float) → Flat x → Flat y → Flat (sub f x y)
unfolding sub
sub-flat f nan y h g = tt
sub-flat f (inf s) y h g = absurd h
sub-flat f (fin s m e) nan h g = tt
sub-flat f (fin s m e) (inf t) h g = absurd g
sub-flat f (fin s m e) (fin t n d) h g = zero-sum f s (not t) (m * up e * down d) (n * up d * down e) (down e * down d) (mul-pos (down_pos e) (down_pos d)) (zero-product m (up e) (down d) h) (zero-product n (up d) (down e) g)

self-sum : (f : Format) (s : Bool) (a c : ℕ) → 0 < c → Flat (sum f s a (not s) a c)
unfolding sum
self-sum f s a c C = go s (ltb a a) refl
  where
    go : (s l : Bool) → ltb a a ≡ l → Flat (cond (beq s (not s)) (round f s (a + a) c) (cond l (round f (not s) (a - a) c) (round f (s && l) (a - a) c)))
    go true l e = level l
      where
        level : (l : Bool) → Flat (cond l (round f false (a - a) c) (round f (true && l) (a - a) c))
        level true = flat-round f false (a - a) c C (omega arith)
        level false = flat-round f false (a - a) c C (omega arith)
    go false l e = level l
      where
        level : (l : Bool) → Flat (cond l (round f true (a - a) c) (round f (false && l) (a - a) c))
        level true = flat-round f true (a - a) c C (omega arith)
        level false = flat-round f false (a - a) c C (omega arith)

-- x - x, of every value
pub sub_self : (f : Format) (x : Float) → Flat (sub f x x)
unfolding sub
sub_self f nan = tt
sub_self f (inf true) = tt
sub_self f (inf false) = tt
sub_self f (fin s m e) = self-sum f s (m * up e * down e) (down e * down e) (mul-pos (down_pos e) (down_pos e))

pub mul-flat : (f : Format) (x y : Float) → Flat x → Flat (mul f x y)
unfolding mul
mul-flat f nan y g = tt
mul-flat f (inf s) y g = absurd g
mul-flat f (fin s m e) nan g = tt
mul-flat f (fin s m e) (inf t) g = rw (eq-eqb m 0 g) tt
mul-flat f (fin s m e) (fin t n d) g = flat-round f (unlike s t) (m * up e * (n * up d)) (down e * down d) (mul-pos (down_pos e) (down_pos d)) (zero-product m (up e) (n * up d) g)

-- ---- what a number is made of
sub_parts : (f : Format) (x y : Float) → Number (sub f x y) → Number x × Number y
unfolding sub
sub_parts f nan y h = absurd h
sub_parts f (inf s) nan h = absurd h
sub_parts f (inf s) (inf t) h = (tt, tt)
sub_parts f (inf s) (fin t n d) h = (tt, tt)
sub_parts f (fin s m e) nan h = absurd h
sub_parts f (fin s m e) (inf t) h = (tt, tt)
sub_parts f (fin s m e) (fin t n d) h = (tt, tt)

mul-parts : (f : Format) (x y : Float) → Number (mul f x y) → Number x × Number y
unfolding mul
mul-parts f nan y h = absurd h
mul-parts f (inf s) nan h = absurd h
mul-parts f (inf s) (inf t) h = (tt, tt)
mul-parts f (inf s) (fin t n d) h = (tt, tt)
mul-parts f (fin s m e) nan h = absurd h
mul-parts f (fin s m e) (inf t) h = (tt, tt)
mul-parts f (fin s m e) (fin t n d) h = (tt, tt)

-- ---- values that are not negative, or no number: a squared side
abbrev pub Bare : Float → Type 0
Bare nan = Unit {0}
Bare (inf s) = s ≡ false
Bare (fin s m e) = s ≡ false

bare-plain : (x : Float) → Plain x → Bare x
bare-plain nan h = tt
bare-plain (inf s) h = h
bare-plain (fin s m e) h = h

square-bare : (f : Format) (x : Float) → Bare (mul f x x)
square-bare f nan = unfold mul in tt
square-bare f (inf s) = bare-plain (mul f (inf s) (inf s)) (square-plain f (inf s) tt)
square-bare f (fin s m e) = bare-plain (mul f (fin s m e) (fin s m e)) (square-plain f (fin s m e) tt)

add-bare : (f : Format) (x y : Float) → Bare x → Bare y → Bare (add f x y)
add-bare f nan y h g = unfold add in tt
add-bare f (inf s) nan h g = unfold add in tt
add-bare f (inf s) (inf t) h g = bare-plain (add f (inf s) (inf t)) (add-plain f (inf s) (inf t) h g)
add-bare f (inf s) (fin t n d) h g = bare-plain (add f (inf s) (fin t n d)) (add-plain f (inf s) (fin t n d) h g)
add-bare f (fin s m e) nan h g = unfold add in tt
add-bare f (fin s m e) (inf t) h g = bare-plain (add f (fin s m e) (inf t)) (add-plain f (fin s m e) (inf t) h g)
add-bare f (fin s m e) (fin t n d) h g = bare-plain (add f (fin s m e) (fin t n d)) (add-plain f (fin s m e) (fin t n d) h g)

-- the larger of a number and a NaN is the number
max-nan : (x : Float) → Plain x → Plain (max_of x nan)
unfolding lt ne eq
max-nan nan h = absurd h
max-nan (inf true) h = h
max-nan (inf false) h = h
max-nan (fin true m e) h = rw (level-self true (m * up e * down e)) h
max-nan (fin false m e) h = rw (level-self false (m * up e * down e)) h

max-bare : (x y : Float) → Plain x → Bare y → Plain (max_of x y)
max-bare x nan h g = max-nan x h
max-bare x (inf t) h g = max-plain x (inf t) h g
max-bare x (fin t n d) h g = max-plain x (fin t n d) h g

-- ---- a flat orientation is refused
pub side-bare : (p q : Pair) → Bare (side2 p q)
unfolding side2
side-bare p q = add-bare binary64 ((q.x ⊖ p.x) ⊗ (q.x ⊖ p.x)) ((q.y ⊖ p.y) ⊗ (q.y ⊖ p.y)) (square-bare binary64 (q.x ⊖ p.x)) (square-bare binary64 (q.y ⊖ p.y))

-- the way from p to q is of numbers
abbrev pub Way : Pair → Pair → Type 0
Way p q = Number (q.x ⊖ p.x) × Number (q.y ⊖ p.y)

pub side-plain : (p q : Pair) → Way p q → Plain (side2 p q)
unfolding side2
side-plain p q h = add-plain binary64 ((q.x ⊖ p.x) ⊗ (q.x ⊖ p.x)) ((q.y ⊖ p.y) ⊗ (q.y ⊖ p.y)) (square-plain binary64 (q.x ⊖ p.x) h.0) (square-plain binary64 (q.y ⊖ p.y) h.1)

pub longest-plain : (p q r : Pair) → Way p q → Plain (longest p q r)
unfolding longest
longest-plain p q r h = max-bare (max_of (side2 p q) (side2 q r)) (side2 r p) (max-bare (side2 p q) (side2 q r) (side-plain p q h) (side-bare q r)) (side-bare r p)

-- both ways from the first corner are, where the orientation is a number
pub orientation-ways : (p q r : Pair) → Number (orientation p q r) → Way p q × Way p r
unfolding orientation
orientation-ways p q r h =
    let d = sub_parts binary64 ((q.x ⊖ p.x) ⊗ (r.y ⊖ p.y)) ((q.y ⊖ p.y) ⊗ (r.x ⊖ p.x)) h in
    let a = mul-parts binary64 (q.x ⊖ p.x) (r.y ⊖ p.y) d.0 in
    let b = mul-parts binary64 (q.y ⊖ p.y) (r.x ⊖ p.x) d.1 in
    ((a.0, b.0), (b.1, a.1))

pub scaled-plain : (y : Float) → Plain y → Plain (lit 0x3d06_849b_86a1_2b9b ⊗ y)
unfolding of_bits
scaled-plain y h = mul-plain binary64 _ _ y refl h

small-area : (z y : Float) → Flat z → Plain z → Plain y → not (is_finite z) || le z y ≡ true
small-area nan y h g k = absurd g
small-area (inf s) y h g k = absurd h
small-area (fin true m e) y h g k = absurd (subst T g tt)
small-area (fin false m e) y h g k = flat-le m e y h k

flat-area : (t y : Float) → Flat t → (Number t → Plain y) → not (is_finite (area_of t)) || le (area_of t) y ≡ true
unfolding area_of mag mul of_bits
flat-area nan y h k = refl
flat-area (inf s) y h k = absurd h
flat-area (fin s m e) y h k =
    small-area (round binary64 false (1 * 1 * (m * up e)) (2 * down e)) y (flat-round binary64 false (1 * 1 * (m * up e)) (2 * down e) (mul-pos (zero-lt-suc 1) (down_pos e)) (rw h (simp zero-mul))) (plain-round binary64 (1 * 1 * (m * up e)) (2 * down e)) (k tt)

flat-placed : (i j k t : ℕ) (p q r : Pair) (w : Float) → Flat w → (Number w → Way p q) → placed i j k p q r (area_of w) t ≡ Err (record { triangle = t })
unfolding placed degenerate
flat-placed i j k t p q r w h way = rw (flat-area w (lit 0x3d06_849b_86a1_2b9b ⊗ longest p q r) h (λ n. scaled-plain (longest p q r) (longest-plain p q r (way n))))

pub flat-degenerate : (i j k t : ℕ) (p q r : Pair) → Flat (orientation p q r) → geometry i j k p q r t ≡ Err (record { triangle = t })
unfolding geometry
flat-degenerate i j k t p q r h = go (lt (orientation p q r) (lit 0))
  where
    go : (l : Bool) → cond l (placed i k j p r q (area_of (orientation p q r)) t) (placed i j k p q r (area_of (orientation p q r)) t) ≡ Err (record { triangle = t })
    go true = flat-placed i k j t p r q (orientation p q r) h (λ n. (orientation-ways p q r n).1)
    go false = flat-placed i j k t p q r (orientation p q r) h (λ n. (orientation-ways p q r n).0)

-- ---- two corners at one point
flat-12 : (a c : Pair) → Flat (orientation a a c)
unfolding orientation
flat-12 a c =
    sub-flat binary64 ((a.x ⊖ a.x) ⊗ (c.y ⊖ a.y)) ((a.y ⊖ a.y) ⊗ (c.x ⊖ a.x))
    (mul-flat binary64 (a.x ⊖ a.x) (c.y ⊖ a.y) (sub_self binary64 a.x)) (mul-flat binary64 (a.y ⊖ a.y) (c.x ⊖ a.x) (sub_self binary64 a.y))

flat-23 : (a b : Pair) → Flat (orientation a b b)
unfolding orientation
flat-23 a b = rw (mul-either binary64 (b.x ⊖ a.x) (b.y ⊖ a.y)) (sub_self binary64 ((b.y ⊖ a.y) ⊗ (b.x ⊖ a.x)))

-- the orientation of b and c exchanged
orientation-exchanged : (a b c : Pair) → orientation a c b ≡ sub binary64 ((b.y ⊖ a.y) ⊗ (c.x ⊖ a.x)) ((b.x ⊖ a.x) ⊗ (c.y ⊖ a.y))
unfolding orientation
orientation-exchanged a b c = rw (mul-either binary64 (c.x ⊖ a.x) (b.y ⊖ a.y), mul-either binary64 (c.y ⊖ a.y) (b.x ⊖ a.x))

pub orientation-opposite : (a b c : Pair) → Opposite (orientation a b c) (orientation a c b)
unfolding orientation
orientation-opposite a b c = subst (λ (z : Float). Opposite (orientation a b c) z) (sym (orientation-exchanged a b c)) (sub-opposite binary64 ((b.x ⊖ a.x) ⊗ (c.y ⊖ a.y)) ((b.y ⊖ a.y) ⊗ (c.x ⊖ a.x)))

flat-neg : (x : Float) → Flat x → Flat (neg x)
unfolding neg
flat-neg nan h = tt
flat-neg (inf s) h = h
flat-neg (fin s m e) h = h

flat-opposite : (x y : Float) → Opposite x y → Flat x → Flat y
flat-opposite x y (inl e) h = subst Flat (sym e) (flat-neg x h)
flat-opposite x y (inr e) h = subst Flat (sym e.0) h

flat-13 : (a b : Pair) → Flat (orientation a b a)
flat-13 a b = flat-opposite (orientation a a b) (orientation a b a) (orientation-opposite a a b) (flat-12 a b)

-- two corners that are one point: refusal 19
pub same-12 : (i j k t : ℕ) (p r : Pair) → geometry i j k p p r t ≡ Err (record { triangle = t })
same-12 i j k t p r = flat-degenerate i j k t p p r (flat-12 p r)

pub same-23 : (i j k t : ℕ) (p q : Pair) → geometry i j k p q q t ≡ Err (record { triangle = t })
same-23 i j k t p q = flat-degenerate i j k t p q q (flat-23 p q)

pub same-31 : (i j k t : ℕ) (p q : Pair) → geometry i j k p q p t ≡ Err (record { triangle = t })
same-31 i j k t p q = flat-degenerate i j k t p q p (flat-13 p q)

never : {A : Type 0} {t : Bool} → t ≡ true → t ≡ false → A
never h g = absurd (subst T (sym h ∙ g) tt)

-- an accepted triangle has three different corners, wherever its points lie
pub three-corners : (x y : ℕ → Float) (u v w t : ℕ) → number (geometry u v w (at x y u) (at x y v) (at x y w) t) ≡ 0 → (u ≢ v) × (v ≢ w) × (w ≢ u)
three-corners x y u v w t h =
    let refuse : geometry u v w (at x y u) (at x y v) (at x y w) t ≡ Err (record { triangle = t }) → ⊥ = λ e. nineteen (sym (ap number e) ∙ h) in
    (λ e. refuse (rw e (same-12 v v w t (at x y v) (at x y w))), λ e. refuse (rw e (same-23 u w w t (at x y u) (at x y w))), λ e. refuse (rw e (same-31 u v u t (at x y u) (at x y v))))
  where
    nineteen : ◌≡◌ {A = ℕ} 19 0 → ⊥
    nineteen e = omega arith

-- ---- the second and third corner exchanged
negative-positive : (x : Float) → lt x (lit 0) ≡ true → lt (lit 0) x ≡ false
unfolding lt of_bits
negative-positive nan h = refl
negative-positive (inf true) h = refl
negative-positive (inf false) h = never refl (sym h)
negative-positive (fin true m e) h = refl
negative-positive (fin false m e) h = absurd (omega (arith, ltb-true (m * up e * 1) (0 * 1 * down e) h))

area-neg : (t : Float) → area_of (neg t) ≡ area_of t
unfolding area_of
area-neg t = ap (λ (z : Float). lit 0x3fe0_0000_0000_0000 ⊗ z) (mag-neg t)

module _ (i j k t : ℕ) (p q r : Pair) where
  negated : (l g : Bool) → lt (orientation p q r) (lit 0) ≡ l → lt (lit 0) (orientation p q r) ≡ g → (l ≡ true) ⊎ (g ≡ true) → orientation p r q ≡ neg (orientation p q r) → geometry i k j p r q t ≡ geometry i j k p q r t
  unfolding geometry
  negated true g e f d n = rw (e, n, lt-neg (orientation p q r), negative-positive (orientation p q r) e, area-neg (orientation p q r))
  negated false true e f d n = rw (e, n, lt-neg (orientation p q r), f, area-neg (orientation p q r))
  negated false false e f d n = ⊎_elim (λ z. never z refl) (λ z. never z refl) d

-- the answer is the same in every bit: corners, positions and area, or refusal 19
pub exchanged : (i j k t : ℕ) (p q r : Pair) → geometry i k j p r q t ≡ geometry i j k p q r t
exchanged i j k t p q r = go (lt (orientation p q r) (lit 0)) (lt (lit 0) (orientation p q r)) refl refl (orientation-opposite p q r)
  where
    both : Flat (orientation p q r) → geometry i k j p r q t ≡ geometry i j k p q r t
    both f = flat-degenerate i k j t p r q (flat-opposite (orientation p q r) (orientation p r q) (orientation-opposite p q r) f) ∙ sym (flat-degenerate i j k t p q r f)

    go : (l g : Bool) → lt (orientation p q r) (lit 0) ≡ l → lt (lit 0) (orientation p q r) ≡ g → Opposite (orientation p q r) (orientation p r q) → geometry i k j p r q t ≡ geometry i j k p q r t
    go l g e f (inr n) = both n.1
    go true g e f (inl n) = negated i j k t p q r true g e f (inl refl) n
    go false true e f (inl n) = negated i j k t p q r false true e f (inr refl) n
    go false false e f (inl n) = both (flat-between (orientation p q r) e f)
