-- What a triangle adds flat and without the holomorphic correction, where nothing depends on its holonomy. That it is `terms_of` of such a mode is
-- proofs/Flat.antt. Definitions only.
use Rattle.std.specs.Prelude.{false, List, get_or, Float}
use Rattle.float.specs.Double.{whole, lit, ◌⊘◌}
use Rattle.complex.specs.declared.Complex.{Complex}
use Rattle.complex.specs.Complex.{cnew}
use Rattle.plane.specs.declared.Pair.{Pair}
use Rattle.plane.specs.Pair.{no-pair}
use Rattle.pass_terms.specs.declared.Sides.{Sides}
use Rattle.pass_terms.specs.declared.Entry.{Entry}
use Rattle.pass_terms.specs.declared.Terms.{Terms}
use Rattle.pass_terms.specs.Terms.{mass_corner, energy_corners, mass_entry, scale_in, flat_entry, parts_of}

unfoldable pub flat_entries : Float → Float → Complex → Pair → Pair → Pair → Entry
flat_entries area scale z p q o = record { mass = mass_entry (cnew ((whole 1) ⊘ (whole 12)) (lit 0)) area z; energy = flat_entry scale z p q o }

unfoldable pub flat_terms : Float → Sides → Pair → Pair → Pair → Terms
flat_terms area z p q r =
    parts_of
    (mass_corner area)
    (energy_corners false (lit 0) area p q r)
    (lit 0)
    (flat_entries area (scale_in false area) z.ij p q r)
    (flat_entries area (scale_in false area) z.jk q r p)
    (flat_entries area (scale_in false area) z.ki r p q)

-- the same of an array of three
abbrev pub flat_terms_in : Float → Sides → List Pair → Terms
flat_terms_in area z p = flat_terms area z (get_or p 0 no-pair) (get_or p 1 no-pair) (get_or p 2 no-pair)
