-- What the passes of a call find, where they leave it in the work slices, and how it gets from there to the angle slices. `solve_of` of crate calls is
-- put together from these in proofs/Whole. Definitions only.
use Rattle.std.specs.Prelude.{ℕ, ◌+◌, ◌*◌, ◌/◌, ◌^◌, ◌≤◌, ◌<◌, ◌≡◌, true, cond, ◌&&◌, List, length, Float, Option, Some, None, Result, Ok, Err}
use Rattle.std.specs.Float.{nan}
use Rattle.std.specs.Float.Ieee.{lt}
use Rattle.float.specs.Double.{lit}
use Rattle.linear_cells.specs.Region.{region}
use Rattle.mesh.specs.Mesh.{cuts, marked}
use Rattle.edges.specs.Table.{Held, sides_in}
use Rattle.floor.specs.Checks.{MOST-TRIANGLES}
use Rattle.refinement.specs.declared.Cut.{Cut}
use Rattle.refinement.specs.Flag.{flagged_tri}
use Rattle.refinement.specs.Floor.{tris_of, over}
use Rattle.pass_options.specs.declared.Options.{Options}
use Rattle.pass_options.specs.Pass.{Passed, field, faulty}
use Rattle.pass.specs.declared.Asked.{Asked}
use Rattle.pass.specs.Pass.{pass_of}
use Rattle.calls.specs.declared.Lengths.{Lengths}
use Rattle.calls.specs.Checks.{Call, Lent, call_of, points_in, triangles_in, is_adaptive, Ready, Outcome}
use Rattle.refusals.specs.declared.Refusal.{Refusal}
use Rattle.calls.specs.declared.Counts.{Counts}
use Rattle.calls.specs.Solve.{first_pass, second_pass, refined_by, refines, in_pass}

-- ---- the parameters of `solve`

-- as a call
abbrev pub call_for : List Float → List ℕ → List Float → List Float → Options → Asked → Call
call_for points corners sizes guidance o a = call_of points corners sizes o a.guided a.weight guidance a.iterations

-- as the slices that it is lent
abbrev pub lent : List Float → List Float → List Float → List ℕ → Lent
lent coarse fine work words = record { coarse = coarse; fine = fine; work = work; words = words }

-- what the second pass is asked for: "the Rust drops guidance whose weight is not above 0"
abbrev pub again : Asked → Asked
again a = record { guided = a.guided && lt (lit 0) a.weight; weight = a.weight; iterations = a.iterations }

-- a call that passed rows 1 to 18 with these work slices; its angle slices are as long as they need be
abbrev pub lengths_for : Call → ℕ → ℕ → Lengths
lengths_for c work words = record { coarse = points_in c; fine = points_in c + 3 * triangles_in c; work = work; words = words }

abbrev pub ReadyFor : Call → List Float → List ℕ → Type 0
ReadyFor c w u = Ready c (lengths_for c (length w) (length u))

-- ---- what is found

-- one field in the f64 work, or a second behind it where a triangle was flagged; or a refusal
abbrev pub Found : Type 0
Found = Result (Option Counts) Refusal

-- the counts of a call that refines, by the first pass's angles alpha
abbrev pub counts_by : Call → List Float → Counts
counts_by c alpha = record { flagged = (refined_by c alpha).flagged; cut = length (refined_by c alpha).cut }

abbrev pub found_second : Call → List Float → Passed → Found
found_second c alpha (faulty x) = Err (in_pass 2 x)
found_second c alpha (field beta) = Ok (Some (counts_by c alpha))

unfoldable pub found_after : Call → List Float → Found
found_after c alpha = cond (refines c alpha) (found_second c alpha (second_pass pass_of c alpha)) (Ok None)

abbrev pub found_first : Call → Passed → Found
found_first c (faulty x) = Err (in_pass 1 x)
found_first c (field alpha) = found_after c alpha

unfoldable pub found_of : Call → Found
found_of c = found_first c (first_pass pass_of c)

-- ---- where it stands: the first pass's angles at the front of the f64 work, the second's behind them

-- the first n numbers, and the k behind them
abbrev pub first_in : ℕ → List Float → List Float
first_in n w = region nan w 0 n

abbrev pub second_in : ℕ → ℕ → List Float → List Float
second_in n k w = region nan w n k

-- the first pass was accepted, and its angles stand there; the threshold is above 0
pub record FirstStands (c : Call) (w : List Float) : Type 0 where
  pub accepted : first_pass pass_of c ≡ field (first_in (points_in c) w)
  pub above : is_adaptive c.options ≡ true

-- the second pass's angles stand there, where it was accepted
abbrev pub SecondStands : Call → List Float → List Float → Type 0
SecondStands c alpha w = (beta : List Float) → refines c alpha ≡ true → second_pass pass_of c alpha ≡ field beta
    → second_in (points_in c) (points_in c + length (refined_by c alpha).cut) w ≡ beta

-- both work slices are as long as they were
pub record SameLengths (w w' : List Float) (u u' : List ℕ) : Type 0 where
  pub all-reals : length w' ≡ length w
  pub all_words : length u' ≡ length u

-- ---- the cut sides, in a table at the front of the u32 work: a bucket a point, and room for three sides a triangle behind them

-- of the lengths of the triangle and the work slices, with n points
pub record CutRoom (corners n work words : ℕ) : Type 0 where
  pub some : 0 < n
  pub few-buckets : n ≤ 2 ^ 32
  pub few : corners / 3 ≤ MOST-TRIANGLES
  pub angles-in : n ≤ work
  pub table-in : n + 12 * (corners / 3) ≤ words

-- the sides that the angles at the front of w cut stand in the table; all behind it is as it was
pub record CutsBy (corners : List ℕ) (n : ℕ) (threshold : Float) (w : List Float) (u u' : List ℕ) (r : Cut) : Type 0 where
  pub held : Held 0 n u' r.sides
  pub cut : sides_in 0 n u' r.sides ≡ cuts (flagged_tri threshold (first_in n w)) (tris_of corners)
  pub flagged : r.flagged ≡ length (marked (flagged_tri threshold (first_in n w)) (tris_of corners))
  pub few : r.sides ≤ 3 * (length corners / 3)
  pub same_length : length u' ≡ length u

-- ---- the passes

-- the second pass was made, by the first pass's angles at the front of w
pub record SecondMade (c : Call) (w w' : List Float) (u u' : List ℕ) (r : Found) : Type 0 where
  pub answer : r ≡ found_after c (first_in (points_in c) w)
  pub first-stays : first_in (points_in c) w' ≡ first_in (points_in c) w
  pub second-stands : SecondStands c (first_in (points_in c) w) w'
  pub lengths : SameLengths w w' u u'

-- all passes of the call were made
pub record PassesMade (c : Call) (w w' : List Float) (u u' : List ℕ) (r : Found) : Type 0 where
  pub answer : r ≡ found_of c
  pub first-stands : (alpha : List Float) → first_pass pass_of c ≡ field alpha → first_in (points_in c) w' ≡ alpha
  pub second-stands : (alpha : List Float) → first_pass pass_of c ≡ field alpha → SecondStands c alpha w'
  pub lengths : SameLengths w w' u u'

-- ---- from the work slice to the angle slices

abbrev pub outcome_of : Found → Outcome
outcome_of (Ok None) = Ok (record { flagged = 0; cut = 0 })
outcome_of (Ok (Some counts)) = Ok counts
outcome_of (Err x) = Err x

abbrev pub coarse_left : Found → ℕ → List Float → List Float → List Float
coarse_left (Ok None) n w old = over (first_in n w) old
coarse_left (Ok (Some counts)) n w old = over (first_in n w) old
coarse_left (Err x) n w old = old

abbrev pub fine_left : Found → ℕ → List Float → List Float → List Float
fine_left (Ok None) n w old = old
fine_left (Ok (Some counts)) n w old = over (second_in n (n + counts.cut) w) old
fine_left (Err x) n w old = old

-- the angles of the second pass have room, in the work and in the fine slice
abbrev pub SecondFits : Found → ℕ → ℕ → ℕ → Type 0
SecondFits (Ok None) n work fine = Unit {0}
SecondFits (Ok (Some counts)) n work fine = (n + (n + counts.cut) ≤ work) × (n + counts.cut ≤ fine)
SecondFits (Err x) n work fine = Unit {0}

pub record FinishRoom (found : Found) (n work coarse fine : ℕ) : Type 0 where
  pub first-in : n ≤ work
  pub coarse-room : n ≤ coarse
  pub second_fits : SecondFits found n work fine

pub record Finished (found : Found) (n : ℕ) (w coarse fine coarse' fine' : List Float) (r : Outcome) : Type 0 where
  pub outcome : r ≡ outcome_of found
  pub coarse-left : coarse' ≡ coarse_left found n w coarse
  pub fine-left : fine' ≡ fine_left found n w fine
