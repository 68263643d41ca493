-- Where the code is shorter than fdlibm: n & 3 of -n, cos's switch as sin's one quarter turn on, and both switches as one. Assumes nothing.
use mathlib.Core.Path.{◌≡◌, refl}
use Prim.Native.Nat.{ℕ, zero, suc, ◌+◌, ◌-◌, ◌%◌, ◌<◌}
use native.Mathlib.Omega.{arith}
use lib.IntN.{ℤ, pos, negsuc, neg_ℤ}
use lib.Ieee.{Float}
use Rattle.sine.specs.Taken.{pair_switch}
use Rattle.sine.specs.Kernel.{kernel_sin, kernel_cos}
use Rattle.sine.specs.Sine.{Remainder, quarters, sin_switch, cos_switch}

pub quarters-neg : (z : ℤ) → quarters (neg_ℤ z) ≡ (4 - quarters z % 4) % 4
quarters-neg (pos zero) = refl
quarters-neg (pos (suc n)) = omega arith
quarters-neg (negsuc n) = omega arith

quarters-lt : (z : ℤ) → quarters z < 4
quarters-lt (pos n) = omega arith
quarters-lt (negsuc n) = omega arith

switch-on : (q : ℕ) (y0 y1 : Float) → q < 4 → cos_switch q y0 y1 ≡ sin_switch ((q % 4 + 1) % 4) y0 y1
unfolding sin_switch cos_switch
switch-on zero y0 y1 h = refl
switch-on (suc zero) y0 y1 h = refl
switch-on (suc (suc zero)) y0 y1 h = refl
switch-on (suc (suc (suc zero))) y0 y1 h = refl
switch-on (suc (suc (suc (suc q)))) y0 y1 h = absurd (omega arith)

pub cos-switch : (p : Remainder) → cos_switch (quarters p.n) p.y0 p.y1 ≡ sin_switch ((quarters p.n % 4 + 1) % 4) p.y0 p.y1
cos-switch p = switch-on (quarters p.n) p.y0 p.y1 (quarters-lt p.n)

pair-on : (q : ℕ) (y0 y1 : Float) → q < 4 → pair_switch q (kernel_sin y0 y1 1) (kernel_cos y0 y1) ≡ record { sin = sin_switch q y0 y1; cos = cos_switch q y0 y1 }
unfolding pair_switch sin_switch cos_switch
pair-on zero y0 y1 h = refl
pair-on (suc zero) y0 y1 h = refl
pair-on (suc (suc zero)) y0 y1 h = refl
pair-on (suc (suc (suc zero))) y0 y1 h = refl
pair-on (suc (suc (suc (suc q)))) y0 y1 h = absurd (omega arith)

pub pair-switch : (p : Remainder) → pair_switch (quarters p.n) (kernel_sin p.y0 p.y1 1) (kernel_cos p.y0 p.y1) ≡ record { sin = sin_switch (quarters p.n) p.y0 p.y1; cos = cos_switch (quarters p.n) p.y0 p.y1 }
pair-switch p = pair-on (quarters p.n) p.y0 p.y1 (quarters-lt p.n)
