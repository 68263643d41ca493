-- count_singularities over slices: angles by point, corners by threes. Definitions only.
use Rattle.std.specs.Prelude.{ℕ, zero, suc, ◌+◌, ◌*◌, ◌/◌, ◌%◌, cond, ◌&&◌, List, ltb, eqb, get_or, length, ℤ, pos, negsuc, Float, Result, Ok, Err}
use Rattle.std.specs.Float.{nan}
use Rattle.singularities.specs.declared.Counts.{Counts}
use Rattle.singularities.specs.declared.NotTriples.{NotTriples}
use Rattle.singularities.specs.Charge.{charge}

-- of three points, 0 where one of them has no angle
unfoldable pub charge_of : List Float → ℕ → ℕ → ℕ → ℤ
charge_of alpha i j k =
    cond (ltb i (length alpha) && ltb j (length alpha) && ltb k (length alpha)) (charge (get_or alpha i nan) (get_or alpha j nan) (get_or alpha k nan)) (pos 0)

-- of triangle t
unfoldable pub charge_at : List Float → List ℕ → ℕ → ℤ
charge_at alpha tris t = charge_of alpha (get_or tris (3 * t) 0) (get_or tris (3 * t + 1) 0) (get_or tris (3 * t + 2) 0)

-- a charge above 0 counts as valence 3, one below as valence 5
abbrev pub counted : Counts → ℤ → Counts
counted n (pos zero) = n
counted n (pos (suc k)) = record { valence_3 = n.valence_3 + 1; valence_5 = n.valence_5 }
counted n (negsuc k) = record { valence_3 = n.valence_3; valence_5 = n.valence_5 + 1 }

-- of the first t triangles
unfoldable pub count_of : List Float → List ℕ → ℕ → Counts
count_of alpha tris zero = record { valence_3 = 0; valence_5 = 0 }
count_of alpha tris (suc t) = counted (count_of alpha tris t) (charge_at alpha tris t)

-- the call: refusal 1 where the triangle slice is not of whole triples
unfoldable pub singularities : List Float → List ℕ → Result Counts NotTriples
singularities alpha tris = cond (eqb (length tris % 3) 0) (Ok (count_of alpha tris (length tris / 3))) (Err (record {}))

-- the answer's number: 1 is document 01's refusal, 0 is counts. It has no place
abbrev pub number : Result Counts NotTriples → ℕ
number (Ok c) = 0
number (Err e) = 1

-- its values, or what was held where it has none
abbrev pub threes : Result Counts NotTriples → ℕ → ℕ
threes (Ok c) held = c.valence_3
threes (Err e) held = held

abbrev pub fives : Result Counts NotTriples → ℕ → ℕ
fives (Ok c) held = c.valence_5
fives (Err e) held = held
