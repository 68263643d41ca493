-- fdlibm 5.3's k_sin.c and k_cos.c, step by step, over the binary64 operations of `lib.Ieee`; docs/FDLIBM.md has the C's steps. Definitions only.
-- The C's test `(int)x == 0` under `ix < 0x3e400000` always holds, since |x| is below 2^-27 there: it only raises the inexact flag.
use Rattle.std.specs.Prelude.{ℕ, ◌-◌, ◌*◌, cond, ltb, eqb, Float}
use Rattle.float.specs.Double.{lit, high, ◌⊕◌, ◌⊖◌, ◌⊗◌}
use Rattle.sine.specs.Consts.{half, one, S1, S2, S3, S4, S5, S6, C1, C2, C3, C4, C5, C6, nine_thirty_seconds}

-- __kernel_sin(x, y, iy): the sine of x + y, for |x| up to pi/4 and y the tail of x; iy is 0 where y is 0
unfoldable pub kernel_sin : Float → Float → ℕ → Float
kernel_sin x y iy =
    let z = x ⊗ x in
    let v = z ⊗ x in
    let r = S2 ⊕ z ⊗ (S3 ⊕ z ⊗ (S4 ⊕ z ⊗ (S5 ⊕ z ⊗ S6))) in
    cond (ltb (high x) 0x3e40_0000) x
    (cond (eqb iy 0) (x ⊕ v ⊗ (S1 ⊕ z ⊗ r))
    (x ⊖ (z ⊗ (half ⊗ y ⊖ v ⊗ r) ⊖ y ⊖ v ⊗ S1)))

-- qx: about |x| / 4, of which only the upper word is kept; 0.28125 for |x| above 0.78125
abbrev pub quarter : ℕ → Float
quarter ix = cond (ltb 0x3fe9_0000 ix) nine_thirty_seconds (lit ((ix - 0x20_0000) * 0x1_0000_0000))

-- __kernel_cos(x, y): the cosine of x + y, likewise
unfoldable pub kernel_cos : Float → Float → Float
kernel_cos x y =
    let ix = high x in
    let z = x ⊗ x in
    let r = z ⊗ (C1 ⊕ z ⊗ (C2 ⊕ z ⊗ (C3 ⊕ z ⊗ (C4 ⊕ z ⊗ (C5 ⊕ z ⊗ C6))))) in
    let qx = quarter ix in
    let hz = half ⊗ z ⊖ qx in
    let a = one ⊖ qx in
    cond (ltb ix 0x3e40_0000) one
    (cond (ltb ix 0x3fd3_3333) (one ⊖ (half ⊗ z ⊖ (z ⊗ r ⊖ x ⊗ y)))
    (a ⊖ (hz ⊖ (z ⊗ r ⊖ x ⊗ y))))
