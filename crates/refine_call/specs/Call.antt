-- The refinement call, with the angles given: what it answers, and what it leaves in its four result slices. Document 01, "Refinement is also a call
-- of its own". Definitions only.
use Rattle.std.specs.Prelude.{ℕ, ◌+◌, ◌*◌, ◌/◌, ◌≡◌, Bool, not, cond, ◌||◌, List, eqb, ltb, length, Float, Result, Ok, Err}
use Rattle.refusals.specs.declared.Refusal.{Refusal}
use Rattle.refusals.specs.Refusal.{row, Verdict}
use Rattle.floor.specs.Checks.{well_formed, not_finite_or_below_zero, and_then, check_floor}
use Rattle.refinement.specs.Floor.{Refined, refinement_of, tris_of, corners_of, ends_of, over}
use Rattle.refine_call.specs.declared.Counts.{Counts}

-- row 18, of n points, t triangles and the lengths of the four result slices: n' = n + 3 t points and sizes, t' = 4 t triangles, 4 t cut sides of two ends
unfoldable pub short : ℕ → ℕ → ℕ → ℕ → ℕ → ℕ → Bool
short n t points sizes triangles ends = ltb points (3 * (n + 3 * t)) || (ltb sizes (n + 3 * t) || (ltb triangles (12 * t) || ltb ends (8 * t)))

-- what follows the rows of the floor: 5 by the count of angles, 12 and 18
unfoldable pub check_rest : ℕ → ℕ → ℕ → Float → ℕ → ℕ → ℕ → ℕ → Verdict
check_rest n t angles threshold new_points new_sizes new_triangles cut_ends =
    cond (not (eqb angles n)) (Err (row 5))
    (cond (not_finite_or_below_zero threshold) (Err (row 12))
    (cond (short n t new_points new_sizes new_triangles cut_ends) (Err (row 18)) (Ok tt)))

-- rows 1 and 3 to 8, then 5, 12 and 18
unfoldable pub check_call : List Float → List ℕ → List Float → ℕ → Float → ℕ → ℕ → ℕ → ℕ → Verdict
check_call points triangles sizes angles threshold new_points new_sizes new_triangles cut_ends =
    cond (well_formed (length points) (length triangles)) (and_then (check_floor points triangles sizes) (check_rest (length points / 3) (length triangles / 3) angles threshold new_points new_sizes new_triangles cut_ends)) (Err (row 1))

-- the counts of an accepted call: of cut sides, each once, as many as the list of them has (`Refinement` of crate refinement, `sides.cut-sides`)
abbrev pub counts_of : Refined → Counts
counts_of r = record { points = length r.points / 3; triangles = length r.triangles; flagged = r.flagged; cut = length r.cut }

-- what the call answers: the counts, or a refusal
abbrev pub Answer : Type 0
Answer = Result Counts Refusal

-- a refusal found below is passed up
abbrev pub answer_of : Verdict → Refined → Answer
answer_of (Ok tt) r = Ok (counts_of r)
answer_of (Err x) r = Err x

-- refused, a slice is as it was; accepted, its front is filled and the rest stays
abbrev pub left : {A : Type 0} → Verdict → List A → List A → List A
left (Ok tt) new old = over new old
left (Err x) new old = old

-- what is found, c, and the floor that is made, r, decide the answer a and the four result slices
pub record Called (c : Verdict) (r : Refined) (new_points new_sizes : List Float) (new_triangles cut_ends : List ℕ) (a : Answer) (new_points' new_sizes' : List Float) (new_triangles' cut_ends' : List ℕ) : Type 0 where
  pub answer : a ≡ answer_of c r
  pub points : new_points' ≡ left c r.points new_points
  pub sizes : new_sizes' ≡ left c r.sizes new_sizes
  pub triangles : new_triangles' ≡ left c (corners_of r.triangles) new_triangles
  pub ends : cut_ends' ≡ left c (ends_of r.cut) cut_ends

-- the whole call: its points, triangles, sizes, angles and threshold, the four result slices, the answer, and the slices after it
abbrev pub CalledOn : List Float → List ℕ → List Float → List Float → Float → List Float → List Float → List ℕ → List ℕ → Answer → List Float → List Float → List ℕ → List ℕ → Type 0
CalledOn points triangles sizes angles threshold new_points new_sizes new_triangles cut_ends =
    Called (check_call points triangles sizes (length angles) threshold (length new_points) (length new_sizes) (length new_triangles) (length cut_ends)) (refinement_of threshold angles points sizes (tris_of triangles)) new_points new_sizes new_triangles cut_ends
