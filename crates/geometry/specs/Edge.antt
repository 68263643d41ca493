-- transport_coefficient and anisotropy_alignment_weight of the Rust, step by step; and row 22 of the refusals. Definitions only.
use Rattle.std.specs.Prelude.{ℕ, not, cond, ◌||◌, Float, Result, Ok, Err}
use Rattle.std.specs.Float.Ieee.{neg, le, eq}
use Rattle.float.specs.Double.{lit, HALF, is_finite, recip_of, ◌⊕◌, ◌⊖◌, ◌⊗◌, ◌⊘◌}
use Rattle.arctangent.specs.Arc.{atan2_of}
use Rattle.complex.specs.declared.Complex.{Complex}
use Rattle.complex.specs.Complex.{from_angle}
use Rattle.complex.specs.Angle.{FIELD-SYMMETRY}
use Rattle.plane.specs.Pair.{sub2}
use Rattle.geometry.specs.declared.End.{End}
use Rattle.geometry.specs.declared.MeanSize.{MeanSize}

-- half the sum of the ends' sizes
abbrev pub mean_size : End → End → Float
mean_size a b = HALF ⊗ (a.size ⊕ b.size)

-- θ of Algorithm 1, lines 2 to 11: g is the mean gradient, s the way from a to b
unfoldable pub transport_angle : End → End → Float → Float
transport_angle a b σ =
    let gx = HALF ⊗ (a.gradient.x ⊕ b.gradient.x) in
    let gy = HALF ⊗ (a.gradient.y ⊕ b.gradient.y) in
    let s = sub2 b.position a.position in
    let dvx = (gx ⊗ s.x ⊕ gy ⊗ s.y) ⊘ σ in
    let dvy = (gy ⊗ s.x ⊖ gx ⊗ s.y) ⊘ σ in
    atan2_of dvy (lit 0x3ff0_0000_0000_0000 ⊕ dvx)

-- exp(-4 i θ), where the mean size is finite and positive
unfoldable pub transport_of : End → End → Result Complex MeanSize
transport_of a b =
    let σ = mean_size a b in
    cond (not (is_finite σ) || le σ (lit 0)) (Err (record { from = a.vertex; to = b.vertex })) (Ok (from_angle (neg FIELD-SYMMETRY ⊗ transport_angle a b σ)))

-- the refusal's number that an answer stands for, 0 where it is none. Its place, the edge's ends, is in the answer
abbrev pub number : Result Complex MeanSize → ℕ
number (Ok z) = 0
number (Err e) = 22

-- (a + 1/a - 2)², and 0 at 1
unfoldable pub alignment_weight : Float → Float
alignment_weight a =
    let m = a ⊕ recip_of a ⊖ lit 0x4000_0000_0000_0000 in
    cond (eq a (lit 0x3ff0_0000_0000_0000)) (lit 0) (m ⊗ m)
