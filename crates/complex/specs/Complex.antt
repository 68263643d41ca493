-- Complex arithmetic over doubles: the methods of the Rust's `Complex`, each operation rounded once, in its order. Definitions only.
use Rattle.std.specs.Prelude.{Bool, ◌&&◌, Float}
use Rattle.std.specs.Float.{nan}
use Rattle.std.specs.Float.Ieee.{neg, eq}
use Rattle.float.specs.Double.{lit, ◌⊕◌, ◌⊖◌, ◌⊗◌}
use Rattle.sine.specs.Sine.{sin_of, cos_of}
use Rattle.arctangent.specs.Arc.{atan2_of}
use Rattle.complex.specs.declared.Complex.{Complex}

abbrev pub cnew : Float → Float → Complex
cnew re im = record { re = re; im = im }

-- Complex::ZERO and Complex::ONE
abbrev pub czero : Complex
czero = record { re = lit 0; im = lit 0 }

abbrev pub cone : Complex
cone = record { re = lit 0x3ff0_0000_0000_0000; im = lit 0 }

-- cos angle + i sin angle
unfoldable pub from_angle : Float → Complex
from_angle angle = record { re = cos_of angle; im = sin_of angle }

unfoldable pub cadd : Complex → Complex → Complex
cadd a b = record { re = a.re ⊕ b.re; im = a.im ⊕ b.im }

unfoldable pub csub : Complex → Complex → Complex
csub a b = record { re = a.re ⊖ b.re; im = a.im ⊖ b.im }

unfoldable pub cmul : Complex → Complex → Complex
cmul a b = record { re = a.re ⊗ b.re ⊖ a.im ⊗ b.im; im = a.re ⊗ b.im ⊕ a.im ⊗ b.re }

unfoldable pub cscale : Complex → Float → Complex
cscale a k = record { re = a.re ⊗ k; im = a.im ⊗ k }

unfoldable pub cconj : Complex → Complex
cconj a = record { re = a.re; im = neg a.im }

-- both parts are 0, of either sign
abbrev pub is_zero : Complex → Bool
is_zero a = eq a.re czero.re && eq a.im czero.im

unfoldable pub argument_of : Complex → Float
argument_of a = atan2_of a.im a.re

-- what stands past the end of a list of complex numbers
abbrev pub cnan : Complex
cnan = record { re = nan; im = nan }
