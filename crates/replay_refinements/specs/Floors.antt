-- Rows that hold a call of refinement: counts, threshold, lengths of the result slices, the answer's counts, then what is given and the refined floor, each at
-- its own place. data/README.md has the words. Definitions only.
use Rattle.std.specs.Prelude.{ℕ, ◌*◌, ◌≡◌, Bool, false, cond, List, ◌++◌, eqb, length, drop, Float, Ok, Err}
use Rattle.refinement.specs.Floor.{Refined, refinement_of, tris_of, corners_of, ends_of, over}
use Rattle.refine_call.specs.declared.Counts.{Counts}
use Rattle.refine_call.specs.Call.{Answer, check_call, answer_of, left}
use Rattle.replay.specs.Words.{word_at}
use Rattle.replay.specs.Rows.{double_at, doubles_at, corners_at, at_most, marks, word_marks, front, same_as, same_all}
use Rattle.refusals.specs.Refusal.{Verdict}

-- ---- the answer

abbrev pub same_counts : List ℕ → Counts → Bool
same_counts row n = cond (eqb n.points (word_at row 11)) (cond (eqb n.triangles (word_at row 12)) (cond (eqb n.flagged (word_at row 13)) (eqb n.cut (word_at row 14)) false) false) false

-- 0 and the counts, or the row of document 01's table and the place
abbrev pub same_answer : List ℕ → Answer → Bool
same_answer row (Ok n) = cond (eqb (word_at row 9) 0) (same_counts row n) false
same_answer row (Err x) = cond (eqb (word_at row 9) x.number) (eqb x.place (word_at row 10)) false

-- points, sizes, corners and ends of cut sides
abbrev pub same_four : List Float → List Float → List ℕ → List ℕ → List Float → List Float → List ℕ → List ℕ → Bool
same_four p s c e p' s' c' e' = cond (same_all same_as p p') (cond (same_all same_as s s') (cond (same_all eqb c c') (same_all eqb e e') false) false) false

-- the result slices begin with the recorded floor, and hold the marks behind it; the counts of a refused call are recorded as 0
unfoldable pub same_floor : List ℕ → List Float → List Float → List ℕ → List ℕ → Bool
same_floor row p s c e =
    let n = at_most 23 (word_at row 11) in
    let t = at_most 20 (word_at row 12) in
    let m = at_most 15 (word_at row 14) in
    same_four p s c e (over (doubles_at row 70 (3 * n)) (marks 72)) (over (doubles_at row 139 n) (marks 24)) (over (corners_at row 162 (3 * t)) (word_marks 64)) (over (corners_at row 222 (2 * m)) (word_marks 44))

-- ---- the call

-- a slice whose front, as long as word k says, was lent to a call that found c and made `new`
abbrev pub lent : {A : Type 0} → List ℕ → ℕ → Verdict → List A → List A → List A
lent row k c new old = left c new (front row k old) ++ drop (at_most (length old) (word_at row k)) old

-- the answer, and the four slices whose fronts were lent: what is found, c, and the floor that is made, r, decide them
pub record Lends (row : List ℕ) (c : Verdict) (r : Refined) (points sizes : List Float) (corners ends : List ℕ) (a : Answer) (points' sizes' : List Float) (corners' ends' : List ℕ) : Type 0 where
  pub answer : a ≡ answer_of c r
  pub points-left : points' ≡ lent row 5 c r.points points
  pub sizes-left : sizes' ≡ lent row 6 c r.sizes sizes
  pub corners-left : corners' ≡ lent row 7 c (corners_of r.triangles) corners
  pub ends-left : ends' ≡ lent row 8 c (ends_of r.cut) ends

-- what is found of given slices, where so long fronts of the result slices are lent
abbrev pub found_for : List ℕ → List Float → List ℕ → List Float → List Float → List Float → List Float → List ℕ → List ℕ → Verdict
found_for row points tris sizes angles new_points new_sizes new_corners ends =
    check_call points tris sizes (length angles) (double_at row 4) (length (front row 5 new_points)) (length (front row 6 new_sizes)) (length (front row 7 new_corners)) (length (front row 8 ends))

abbrev pub made_for : List ℕ → List Float → List ℕ → List Float → List Float → Refined
made_for row points tris sizes angles = refinement_of (double_at row 4) angles points sizes (tris_of tris)

-- the call on marked slices is as recorded
abbrev pub as_recorded : List ℕ → Verdict → Refined → Bool
as_recorded row c r =
    cond (same_answer row (answer_of c r))
    (same_floor row (lent row 5 c r.points (marks 72)) (lent row 6 c r.sizes (marks 24)) (lent row 7 c (corners_of r.triangles) (word_marks 64)) (lent row 8 c (ends_of r.cut) (word_marks 44)))
    false

unfoldable pub refinement_on : List ℕ → List Float → List ℕ → List Float → List Float → Bool
refinement_on row points tris sizes angles = as_recorded row (found_for row points tris sizes angles (marks 72) (marks 24) (word_marks 64) (word_marks 44)) (made_for row points tris sizes angles)

-- at 15 the points, at 39 the sizes, at 47 the angles, at 55 the corners
abbrev pub refinement_row : List ℕ → Bool
refinement_row row = refinement_on row (front row 0 (doubles_at row 15 24)) (front row 1 (corners_at row 55 15)) (front row 2 (doubles_at row 39 8)) (front row 3 (doubles_at row 47 8))
