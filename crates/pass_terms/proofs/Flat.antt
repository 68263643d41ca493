-- Where neither the accurate integrals nor the holomorphic correction are asked for, a triangle's terms are the flat ones, whatever its holonomy. Assumes nothing.
use mathlib.Core.Path.{◌≡◌, refl}
use mathlib.Core.Bool.{true, false}
use lib.Ieee.{Float}
use Rattle.plane.specs.declared.Pair.{Pair}
use Rattle.pass_terms.specs.declared.Mode.{Mode}
use Rattle.pass_terms.specs.declared.Sides.{Sides}
use Rattle.pass_terms.specs.Terms.{is_plain, correction_in, energy_corner, energy_corners, mass_scalar, energy_entry, holomorphic_entry, entry_with, entry_of, terms_with, terms_of}
use Rattle.pass_terms.specs.Flat.{flat_entries, flat_terms}

pub terms-flat : (m : Mode) (area : Float) (z : Sides) (p q r : Pair) → m.accurate ≡ false → is_plain m.holomorphic ≡ true → flat_terms area z p q r ≡ terms_of m area z p q r
unfolding terms_of terms_with energy_corners energy_corner correction_in entry_of entry_with mass_scalar energy_entry holomorphic_entry flat_terms flat_entries
terms-flat m area z p q r a h = rw (a, h) refl
