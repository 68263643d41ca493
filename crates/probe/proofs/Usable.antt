-- A denominator's test by its sign: above MIN_POSITIVE and below the infinity, or the same below zero. Assumes nothing.
use mathlib.Core.Path.{◌≡◌, refl, sym, subst}
use Prim.Native.Nat.{ℕ, ◌*◌, ◌^◌}
use mathlib.Core.Bool.{true, false, not, ◌&&◌, ◌||◌}
use lib.Dec.{T, ltb, eqb}
use lib.Ieee.{Float, nan, inf, fin, binary64, up, down, lt, le, neg, div, of_bits}
use Rattle.float.specs.Double.{lit, mag}
use Rattle.probe.specs.Weights.{usable}
use Rattle.probe.proofs.Kept.{below-is}

-- MIN_POSITIVE and 1
abbrev least : Float
least = lit 0x0010_0000_0000_0000

abbrev one : Float
one = lit 0x3ff0_0000_0000_0000

no : {A : Type 0} → false ≡ true → A
no h = absurd (subst T (sym h) tt)

-- a test of a / 1 against b / 2 ^ 1022, either way round
over : (a b : ℕ) → ltb b a ≡ true → true ≡ not (ltb a b || (eqb a b && true))
over a b h = rw (below-is a b, h)

under : (a b : ℕ) → ltb b a ≡ false → false ≡ not (ltb a b || (eqb a b && true))
under a b h = rw (below-is a b, h)

pub usable-above : (d : Float) → lt least d ≡ true → lt d (div binary64 one (lit 0)) ≡ usable d
unfolding usable lt le neg div mag of_bits
usable-above nan h = no h
usable-above (inf true) h = no h
usable-above (inf false) h = refl
usable-above (fin true m e) h = no h
usable-above (fin false m e) h = over (m * up e * 2 ^ 1022) (1 * 1 * down e) h

pub usable-below : (d : Float) → lt d (neg least) ≡ true → lt (div binary64 (neg one) (lit 0)) d ≡ usable d
unfolding usable lt le neg div mag of_bits
usable-below nan h = no h
usable-below (inf true) h = refl
usable-below (inf false) h = no h
usable-below (fin true m e) h = over (m * up e * 2 ^ 1022) (1 * 1 * down e) h
usable-below (fin false m e) h = no h

pub usable-none : (d : Float) → lt least d ≡ false → lt d (neg least) ≡ false → false ≡ usable d
unfolding usable lt le neg mag of_bits
usable-none nan h g = refl
usable-none (inf s) h g = refl
usable-none (fin true m e) h g = under (m * up e * 2 ^ 1022) (1 * 1 * down e) g
usable-none (fin false m e) h g = under (m * up e * 2 ^ 1022) (1 * 1 * down e) h
