-- The fractions that the integrals name, each by its bit pattern; whole numbers are `whole 360`. Definitions only.
use Rattle.std.specs.Prelude.{Float}
use Rattle.float.specs.Double.{lit}

abbrev pub quarter : Float
quarter = lit 0x3fd0_0000_0000_0000

-- INTEGRAL_SERIES_THRESHOLD
abbrev pub tenth : Float
tenth = lit 0x3fb9_9999_9999_999a
