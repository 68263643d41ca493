-- fdlibm 5.3's e_rem_pio2.c for |x| up to 2^19 * pi/2, s_sin.c and s_cos.c, step by step; docs/FDLIBM.md has the C's steps. Definitions only.
use Rattle.std.specs.Prelude.{ℕ, ◌+◌, ◌-◌, ◌/◌, ◌%◌, Bool, not, cond, ◌&&◌, List, [], ◌∷◌, ltb, leb, eqb, get_or, ℤ, pos, negsuc, neg_ℤ, Float}
use Rattle.std.specs.Float.{nan, binary64}
use Rattle.std.specs.Float.Ieee.{neg, le, of_int, to_unsigned}
use Rattle.float.specs.Double.{mag, high, field, sign, ◌⊕◌, ◌⊖◌, ◌⊗◌}
use Rattle.sine.specs.Kernel.{kernel_sin, kernel_cos}
use Rattle.sine.specs.Consts.{half, zero, invpio2, pio2-1, pio2-1t, pio2-2, pio2-2t, pio2-3, pio2-3t, limit}

-- what __ieee754_rem_pio2(x, y) hands back: x is n * pi/2 + (y[0] + y[1]), and n is a signed int
pub record Remainder : Type 0 where
  pub n : ℤ
  pub y0 : Float
  pub y1 : Float

-- ---- |x| < 3pi/4: n is 1 or -1, by one branch for each sign
-- y[0] = z - w;  y[1] = (z - y[0]) - w
abbrev pub less : ℤ → Float → Float → Remainder
less n z w = record { n = n; y0 = z ⊖ w; y1 = z ⊖ (z ⊖ w) ⊖ w }

-- y[0] = z + w;  y[1] = (z - y[0]) + w
abbrev pub plus : ℤ → Float → Float → Remainder
plus n z w = record { n = n; y0 = z ⊕ w; y1 = z ⊖ (z ⊕ w) ⊕ w }

-- 0x3ff921fb is the upper word of pi/2, near which 33 + 53 digits of pi are not enough
unfoldable pub rem_near : Float → ℕ → Remainder
rem_near x ix =
    cond (eqb (sign x) 0)
    (let z = x ⊖ pio2-1 in
    cond (not (eqb ix 0x3ff9_21fb)) (less (pos 1) z pio2-1t) (less (pos 1) (z ⊖ pio2-2) pio2-2t))
    (let z = x ⊕ pio2-1 in
    cond (not (eqb ix 0x3ff9_21fb)) (plus (negsuc 0) z pio2-1t) (plus (negsuc 0) (z ⊕ pio2-2) pio2-2t))

-- ---- |x| from 3pi/4 to 2^19 * pi/2
-- npio2_hw: the upper words of n * pi/2, for n from 1 to 32. The 0 in front makes the index n, where the C's is n - 1
abbrev pub npio2-hw : List ℕ
npio2-hw =
    0 ∷ 0x3ff921fb ∷ 0x400921fb ∷ 0x4012d97c ∷ 0x401921fb ∷ 0x401f6a7a ∷ 0x4022d97c ∷ 0x4025fdbb ∷ 0x402921fb
    ∷ 0x402c463a ∷ 0x402f6a7a ∷ 0x4031475c ∷ 0x4032d97c ∷ 0x40346b9c ∷ 0x4035fdbb ∷ 0x40378fdb ∷ 0x403921fb
    ∷ 0x403ab41b ∷ 0x403c463a ∷ 0x403dd85a ∷ 0x403f6a7a ∷ 0x40407e4c ∷ 0x4041475c ∷ 0x4042106c ∷ 0x4042d97c
    ∷ 0x4043a28c ∷ 0x40446b9c ∷ 0x404534ac ∷ 0x4045fdbb ∷ 0x4046c6cb ∷ 0x40478fdb ∷ 0x404858eb ∷ 0x404921fb
    ∷ []

-- n < 32 && ix != npio2_hw[n-1]: r - w lost no digits
unfoldable pub is_clear : ℕ → ℕ → Bool
is_clear n ix = ltb n 32 && not (eqb ix (get_or npio2-hw n 0))

-- i > k, where i = j - ((__HI(y0) >> 20) & 0x7ff): how many digits y0 has lost against x, whose exponent's field is j
abbrev pub lost : ℕ → Float → ℕ → Bool
lost j y0 k = ltb (field y0 + k) j

-- the second and the third iteration, good to 118 and to 151 digits of pi: what is left of t after fn * pio2_2, and of that after fn * pio2_3
unfoldable pub rem_deep : ℤ → ℕ → Float → Float → Remainder
rem_deep n j fn t =
    let w₂ = fn ⊗ pio2-2 in
    let r₂ = t ⊖ w₂ in
    let v₂ = fn ⊗ pio2-2t ⊖ (t ⊖ r₂ ⊖ w₂) in
    let w₃ = fn ⊗ pio2-3 in
    let r₃ = r₂ ⊖ w₃ in
    let v₃ = fn ⊗ pio2-3t ⊖ (r₂ ⊖ r₃ ⊖ w₃) in
    cond (lost j (r₂ ⊖ v₂) 49) (less n r₃ v₃) (less n r₂ v₂)

-- t is |x|, and n = (int)(t * invpio2 + half)
unfoldable pub rem_medium : Float → ℕ → Remainder
rem_medium t ix =
    let n = to_unsigned 64 (t ⊗ invpio2 ⊕ half) in
    let fn = of_int binary64 (pos n) in
    let r = t ⊖ fn ⊗ pio2-1 in
    let w = fn ⊗ pio2-1t in
    let j = ix / 0x10_0000 in
    cond (is_clear n ix) (less (pos n) r w)
    (cond (lost j (r ⊖ w) 16) (rem_deep (pos n) j fn r) (less (pos n) r w))

-- if (hx < 0) { y[0] = -y[0]; y[1] = -y[1]; return -n; }
abbrev pub opposite : Remainder → Remainder
opposite p = record { n = neg_ℤ p.n; y0 = neg p.y0; y1 = neg p.y1 }

-- __ieee754_rem_pio2. What it does above 2^19 * pi/2 (0x413921fb) is left out: sin and cos refuse such an x
unfoldable pub rem_pio2 : Float → Remainder
rem_pio2 x =
    let ix = high x in
    cond (leb ix 0x3fe9_21fb) (record { n = pos 0; y0 = x; y1 = zero })
    (cond (ltb ix 0x4002_d97c) (rem_near x ix)
    (cond (eqb (sign x) 0) (rem_medium (mag x) ix) (opposite (rem_medium (mag x) ix))))

-- ---- sin and cos
-- n & 3, of a signed n
abbrev pub quarters : ℤ → ℕ
quarters (pos n) = n % 4
quarters (negsuc n) = 3 - n % 4

-- sin's switch over n & 3
unfoldable pub sin_switch : ℕ → Float → Float → Float
sin_switch q y0 y1 =
    cond (eqb q 0) (kernel_sin y0 y1 1)
    (cond (eqb q 1) (kernel_cos y0 y1)
    (cond (eqb q 2) (neg (kernel_sin y0 y1 1)) (neg (kernel_cos y0 y1))))

-- cos's
unfoldable pub cos_switch : ℕ → Float → Float → Float
cos_switch q y0 y1 =
    cond (eqb q 0) (kernel_cos y0 y1)
    (cond (eqb q 1) (neg (kernel_sin y0 y1 1))
    (cond (eqb q 2) (neg (kernel_cos y0 y1)) (kernel_sin y0 y1 1)))

-- sin(x) and cos(x): above pi/4, NaN for infinities, NaN and |x| above 524,288
unfoldable pub sin_of : Float → Float
sin_of x =
    let p = rem_pio2 x in
    cond (leb (high x) 0x3fe9_21fb) (kernel_sin x zero 0)
    (cond (le (mag x) limit) (sin_switch (quarters p.n) p.y0 p.y1) nan)

unfoldable pub cos_of : Float → Float
cos_of x =
    let p = rem_pio2 x in
    cond (leb (high x) 0x3fe9_21fb) (kernel_cos x zero)
    (cond (le (mag x) limit) (cos_switch (quarters p.n) p.y0 p.y1) nan)
