-- What the refinement program prints, as a function of the bytes that it reads (document 01, "A program reads refine.in"). Definitions only.
-- `is_text` and the floor of a text are those of crate text_floor, the refusals and the refinement those of the refinement call.
use Rattle.std.specs.Prelude.{ℕ, Bool, true, false, not, cond, ◌&&◌, List, leb, length, Ok, Err}
use Rattle.floor.specs.Checks.{not_finite_or_below_zero, check_floor}
use Rattle.refinement.specs.Floor.{Refined, refinement_of, tris_of, over}
use Rattle.refine_call.specs.Call.{counts_of}
use Rattle.text_floor.specs.Text.{is_text, points_in, angles_in, corners_in, sizes_in, threshold_in}
use Rattle.text_answer.specs.Lines.{lines_of, refused_line}
use Rattle.refusals.specs.Refusal.{Verdict}

-- ---- what is printed

-- the lines of a refined floor
abbrev pub written : Refined → List ℕ
written r = lines_of (counts_of r) r.triangles r.cut

abbrev pub is_sound : Verdict → Bool
is_sound (Ok _) = true
is_sound (Err x) = false

-- a text whose floor and threshold refinement takes: rows 3 to 8, and 12
unfoldable pub accepted : List ℕ → Bool
accepted s = is_text s && (is_sound (check_floor (points_in s) (corners_in s) (sizes_in s)) && not (not_finite_or_below_zero (threshold_in s)))

unfoldable pub printed : List ℕ → List ℕ
printed s = cond (accepted s) (written (refinement_of (threshold_in s) (angles_in s) (points_in s) (sizes_in s) (tris_of (corners_in s)))) refused_line

-- ---- what the call answers and fills

-- the longest answer, of 1,024 triangles and 768 cut sides
abbrev pub longest : ℕ
longest = 29465

-- the front of a slice that has room for any answer, and how many bytes; a shorter one stays as it is
abbrev pub filled_by : List ℕ → List ℕ → List ℕ
filled_by s out = cond (leb longest (length out)) (over (printed s) out) out

abbrev pub count_by : List ℕ → List ℕ → ℕ
count_by s out = cond (leb longest (length out)) (length (printed s)) 0
