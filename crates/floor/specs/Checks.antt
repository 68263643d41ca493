-- Rows 1 and 3 to 8 of document 01's table, as they are tested: what is wrong with a floor, and where first. Definitions only.
use Rattle.std.specs.Prelude.{ℕ, zero, suc, ◌+◌, ◌*◌, ◌/◌, ◌%◌, Bool, not, cond, ◌&&◌, ◌||◌, List, eqb, ltb, leb, length, get_or, Float, Option, Some, None, Ok, Err}
use Rattle.std.specs.Float.{nan}
use Rattle.std.specs.Float.Ieee.{lt}
use Rattle.float.specs.Double.{lit, is_finite, not_positive}
use Rattle.mesh.specs.Points.{x_of, y_of}
use Rattle.refusals.specs.Refusal.{row, row_at, Verdict}

-- what was found below i, or else i where it holds here, or else the next
abbrev pub or_here : Bool → ℕ → ℕ → ℕ
or_here here i found = cond (ltb found i) found (cond here i (suc i))

-- "within a row the lowest index is reported": the lowest index below n at which p holds, or n
unfoldable pub lowest : (ℕ → Bool) → ℕ → ℕ
lowest p zero = zero
lowest p (suc i) = or_here (p i) i (lowest p i)

-- that index, where there is one
unfoldable pub found_below : (ℕ → Bool) → ℕ → Option ℕ
found_below p n = cond (ltb (lowest p n) n) (Some (lowest p n)) None

-- the most that row 1 lets through
abbrev pub MOST-POINTS : ℕ
MOST-POINTS = 16384

abbrev pub MOST-TRIANGLES : ℕ
MOST-TRIANGLES = 32768

-- row 1, of the lengths of the two slices: whole triples, and not too many
unfoldable pub well_formed : ℕ → ℕ → Bool
well_formed numbers corners = eqb (numbers % 3) 0 && (eqb (corners % 3) 0 && (leb (numbers / 3) MOST-POINTS && leb (corners / 3) MOST-TRIANGLES))

-- rows 12, 13 and 14: "not finite or below 0"
unfoldable pub not_finite_or_below_zero : Float → Bool
not_finite_or_below_zero x = not (is_finite x) || lt x (lit 0)

-- row 6
unfoldable pub bad_point : List Float → ℕ → Bool
bad_point points i = not (is_finite (x_of points i)) || not (is_finite (y_of points i))

-- row 7: "not finite and positive"
unfoldable pub bad_size : List Float → ℕ → Bool
bad_size sizes i = not_positive (get_or sizes i nan)

-- row 8, with n points
unfoldable pub bad_corner : List ℕ → ℕ → ℕ → Bool
bad_corner triangles n i = leb n (get_or triangles (3 * i) 0) || (leb n (get_or triangles (3 * i + 1) 0) || leb n (get_or triangles (3 * i + 2) 0))

-- a row whose place is the lowest of n at which p holds, and the rows after it
abbrev pub row_by : ℕ → (ℕ → Bool) → ℕ → Verdict → Verdict
row_by k p n rest = cond (ltb (lowest p n) n) (Err (row_at k (lowest p n))) rest

-- the rows after those that a check has passed
abbrev pub and_then : Verdict → Verdict → Verdict
and_then (Ok _) rest = rest
and_then (Err r) rest = Err r

-- rows 3 to 8, in table order
unfoldable pub check_floor : List Float → List ℕ → List Float → Verdict
check_floor points triangles sizes =
    cond (eqb (length points / 3) 0) (Err (row 3))
    (cond (eqb (length triangles / 3) 0) (Err (row 4))
    (cond (not (eqb (length sizes) (length points / 3))) (Err (row 5))
    (row_by 6 (bad_point points) (length points / 3)
    (row_by 7 (bad_size sizes) (length sizes)
    (row_by 8 (bad_corner triangles (length points / 3)) (length triangles / 3) (Ok tt))))))
