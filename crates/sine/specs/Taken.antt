-- What the code's reduction hands on of `Remainder`: the two low digits of n, and y[0] and y[1]; what its switches answer; a sine and a cosine together. Definitions only.
use Rattle.std.specs.Prelude.{ℕ, cond, eqb, Float}
use Rattle.std.specs.Float.Ieee.{neg}
use Rattle.sine.specs.Kernel.{kernel_sin, kernel_cos}
use Rattle.sine.specs.Sine.{Remainder, quarters, sin_switch, cos_switch, sin_of, cos_of}
use Rattle.sine.specs.declared.Reduced.{Reduced}
use Rattle.sine.specs.declared.SinCos.{SinCos}
use Rattle.sine.specs.declared.Asked.{Asked}
use Rattle.sine.specs.declared.Asked.TheVariants.{Sin, Cos, Both}

abbrev pub taken : Remainder → Reduced
taken p = record { n = quarters p.n; hi = p.y0; lo = p.y1 }

-- both switches at once: s and c are the kernels' values
unfoldable pub pair_switch : ℕ → Float → Float → SinCos
pair_switch q s c =
    cond (eqb q 0) (record { sin = s; cos = c })
    (cond (eqb q 1) (record { sin = c; cos = neg s })
    (cond (eqb q 2) (record { sin = neg s; cos = neg c }) (record { sin = neg c; cos = s })))

-- sin's switch in both parts, or cos's, or each in its own
abbrev pub switched : Asked → Remainder → SinCos
switched Sin p = record { sin = sin_switch (quarters p.n) p.y0 p.y1; cos = sin_switch (quarters p.n) p.y0 p.y1 }
switched Cos p = record { sin = cos_switch (quarters p.n) p.y0 p.y1; cos = cos_switch (quarters p.n) p.y0 p.y1 }
switched Both p = pair_switch (quarters p.n) (kernel_sin p.y0 p.y1 1) (kernel_cos p.y0 p.y1)

-- sin(x) and cos(x)
abbrev pub sin_cos_of : Float → SinCos
sin_cos_of x = record { sin = sin_of x; cos = cos_of x }
