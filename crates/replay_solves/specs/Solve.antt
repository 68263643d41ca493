-- A row that holds a whole solve: the call that it asks for, and the outcome and the four slices compared with what is recorded. data/README.md has the words.
-- Definitions only.
use Rattle.std.specs.Prelude.{ℕ, ◌+◌, ◌≡◌, Bool, not, false, cond, List, ◌++◌, eqb, ltb, length, take, drop, replicate, Float, Ok, Err}
use Rattle.float.specs.Double.{lit}
use Rattle.refusals.specs.declared.Refusal.{Refusal}
use Rattle.refinement.specs.Floor.{over}
use Rattle.pass_options.specs.declared.BoundaryMode.{BoundaryMode}
use Rattle.pass_options.specs.declared.BoundaryMode.TheVariants as boundary
use Rattle.pass_options.specs.declared.Options.{Options}
use Rattle.pass.specs.declared.Asked.{Asked}
use Rattle.pass.specs.Pass.{pass_of}
use Rattle.calls.specs.Checks.{Lent, Outcome}
use Rattle.calls.specs.Solve.{Ended, solve_of}
use Rattle.solve.specs.Passes.{call_for}
use Rattle.replay.specs.Words.{word_at}
use Rattle.replay.specs.Rows.{double_at, doubles_at, corners_at, marks, word_marks, same_as, same_all}
use Rattle.replay_solves.specs.Row.{quarter_at, count_at}

-- ---- what is asked for

abbrev pub boundary_in : List ℕ → BoundaryMode
boundary_in row = cond (eqb (quarter_at row 3 2) 0) boundary.None (cond (eqb (quarter_at row 3 2) 1) boundary.Tangent (boundary.Weak (double_at row 8)))

abbrev pub options_in : List ℕ → Options
options_in row = record {
  accurate = not (eqb (quarter_at row 3 1) 0);
  holomorphic = double_at row 5;
  anisotropy = double_at row 6;
  anisotropy_angle = double_at row 7;
  boundary = boundary_in row;
  adaptive = double_at row 9;
}

abbrev pub asked_in : List ℕ → Asked
asked_in row = record { guided = not (eqb (quarter_at row 3 0) 0); weight = double_at row 4; iterations = word_at row 10 }

-- ---- what is recorded

-- number, reason and pass of a refusal, and its places
abbrev pub same_refusal : List ℕ → Refusal → Bool
same_refusal row r =
    cond (eqb r.number (quarter_at row 11 0)) (cond (eqb r.reason (quarter_at row 11 1)) (cond (eqb r.pass (quarter_at row 11 2))
    (cond (eqb r.place (quarter_at row 12 0)) (eqb r.other (quarter_at row 12 1)) false) false) false) false

-- a refusal, or 0 and the counts
abbrev pub same_outcome : List ℕ → Outcome → Bool
same_outcome row (Ok c) = cond (eqb (quarter_at row 11 0) 0) (cond (eqb c.flagged (quarter_at row 12 2)) (eqb c.cut (quarter_at row 12 3)) false) false
same_outcome row (Err r) = same_refusal row r

-- the angle slices begin with the recorded angles, from word k on, and hold the marks behind them
unfoldable pub same_angles : List ℕ → ℕ → List Float → List Float → Bool
same_angles row k coarse fine =
    let n = count_at row 3 3 24 in
    cond (same_all same_as coarse (over (doubles_at row k n) (marks 24))) (same_all same_as fine (over (doubles_at row (k + n) (count_at row 11 3 64)) (marks 64))) false

-- how much of a lent slice ends as zeros: nothing by rows 1 to 18, then all
unfoldable pub wiped_in : List ℕ → ℕ → ℕ → ℕ
wiped_in row i most = cond (eqb (quarter_at row 11 0) 0) (count_at row 2 i most) (cond (ltb 18 (quarter_at row 11 0)) (count_at row 2 i most) 0)

unfoldable pub same_work : List ℕ → List Float → List ℕ → Bool
same_work row work words =
    cond (same_all same_as work (over (replicate (wiped_in row 2 4640) (lit 0)) (marks 4640))) (same_all eqb words (over (replicate (wiped_in row 3 2336) 0) (word_marks 2336))) false

-- ---- the call

-- the fronts of the four slices, as long as word 2 says
abbrev pub fronts_of : List ℕ → Lent → Lent
fronts_of row l = record {
  coarse = take (count_at row 2 0 (length l.coarse)) l.coarse;
  fine = take (count_at row 2 1 (length l.fine)) l.fine;
  work = take (count_at row 2 2 (length l.work)) l.work;
  words = take (count_at row 2 3 (length l.words)) l.words;
}

-- the four slices l after a call that left e in their fronts
abbrev pub put_back : List ℕ → Lent → Lent → Lent
put_back row l e = record {
  coarse = e.coarse ++ drop (count_at row 2 0 (length l.coarse)) l.coarse;
  fine = e.fine ++ drop (count_at row 2 1 (length l.fine)) l.fine;
  work = e.work ++ drop (count_at row 2 2 (length l.work)) l.work;
  words = e.words ++ drop (count_at row 2 3 (length l.words)) l.words;
}

abbrev pub solved_on : List ℕ → List Float → List ℕ → List Float → List Float → Lent → Ended
solved_on row points tris sizes angles l = solve_of pass_of (call_for points tris sizes angles (options_in row) (asked_in row)) (fronts_of row l)

-- the outcome, and the four slices whose fronts were lent
pub record Lends (row : List ℕ) (e : Ended) (l : Lent) (r : Outcome) (coarse fine work : List Float) (words : List ℕ) : Type 0 where
  pub outcome : r ≡ e.outcome
  pub coarse-left : coarse ≡ (put_back row l e.lent).coarse
  pub fine-left : fine ≡ (put_back row l e.lent).fine
  pub work-left : work ≡ (put_back row l e.lent).work
  pub words_left : words ≡ (put_back row l e.lent).words

abbrev pub marked : Lent
marked = record { coarse = marks 24; fine = marks 64; work = marks 4640; words = word_marks 2336 }

-- the outcome and the slices are as recorded; the angles stand from word k on
abbrev pub as_recorded : List ℕ → ℕ → Outcome → Lent → Bool
as_recorded row k r l = cond (same_outcome row r) (cond (same_angles row k l.coarse l.fine) (same_work row l.work l.words) false) false

-- the call on marked slices
unfoldable pub solve_on : List ℕ → ℕ → List Float → List ℕ → List Float → List Float → Bool
solve_on row k points tris sizes angles = let e = solved_on row points tris sizes angles marked in as_recorded row k e.outcome (put_back row marked e.lent)

-- from word 13 on: points, sizes, guidance angles, corners, and the recorded angles
unfoldable pub solve_row : List ℕ → Bool
solve_row row =
    let s = 13 + count_at row 1 0 40 in
    let g = s + count_at row 1 2 16 in
    let t = g + count_at row 1 3 16 in
    solve_on row (t + count_at row 1 1 40) (doubles_at row 13 (count_at row 1 0 40)) (corners_at row t (count_at row 1 1 40)) (doubles_at row s (count_at row 1 2 16)) (doubles_at row g (count_at row 1 3 16))
