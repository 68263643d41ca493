-- What is owed of a whole solve, as claims on what the function `solve` answers and leaves: r is its outcome, coarse, fine, work and words are the lent
-- slices as they are when it returns. Proved in proofs/Demands of everything that meets the contract of `solve`. Definitions only.
use Rattle.std.specs.Prelude.{ℕ, ◌≡◌, ◌↔◌, List, length, take, replicate, Float, true, Ok, Err}
use Rattle.std.specs.Float.Ieee.{lt}
use Rattle.float.specs.Double.{lit}
use Rattle.mesh.specs.Mesh.{Tri}
use Rattle.pass_options.specs.Table.{FirstHolds}
use Rattle.pass_options.specs.Pass.{field}
use Rattle.pass.specs.Pass.{pass_of}
use Rattle.pass.specs.Rows.{PassRows}
use Rattle.refusals.specs.declared.Refusal.{Refusal}
use Rattle.calls.specs.declared.Counts.{Counts}
use Rattle.calls.specs.Checks.{Call, Lent, lengths_of, points_in, table, Outcome}
use Rattle.calls.specs.Solve.{first_floor, first_pass, refined_by, second_floor, without_threshold, extended, refines, answer_part}
use Rattle.calls.specs.Claim.{old, Listed, Turns, RefiningSolve}
use Rattle.calls.specs.Refusals.{RefusedBy, Passes}
use Rattle.calls.specs.Accepted.{Accepted}
use Rattle.solve.specs.Sound.{Doubles, SecondSound}

-- "every accepted solve that refines": the threshold is above 0, and the first pass's angles alpha flag a triangle
pub record Refines (c : Call) (r : Outcome) (counts : Counts) (alpha : List Float) : Type 0 where
  pub accepted : r ≡ Ok counts
  pub first : first_pass pass_of c ≡ field alpha
  pub above : lt (lit 0) c.options.adaptive ≡ true
  pub flags : (t : Tri) × Listed (old c) t × Turns c alpha t

-- demand 3 of that solve: `RefiningSolve` of crate calls, whose fields follow the demand's sentences, and its answer in the slices as they are left:
-- "the answer equals, bit for bit, the first n angles of the second pass on that floor"
pub record DemandThree (c : Call) (lent : Lent) (counts : Counts) (alpha coarse fine : List Float) : Type 0 where
  pub claim : RefiningSolve pass_of c lent counts alpha
  pub answer : answer_part (points_in c) counts.flagged coarse fine ≡ take (points_in c) claim.beta

-- demand 1, of a call whose outcome is r: "every solve ends in a field or in a refusal with its number and place from document 01's table"
pub record DemandOne (c : Call) (lent : Lent) (r : Outcome) (coarse fine work : List Float) (words : List ℕ) : Type 0 where
  -- a refusal is given exactly if its row holds and no earlier one does: rows 1 to 18 by the table, and each pass's rows 19 to 24 ..
  pub refused : (x : Refusal) → (r ≡ Err x) ↔ RefusedBy pass_of c lent x
  -- .. in the table's words, over the floors that the checks and the first pass leave
  pub first_rows : Doubles c → Passes c lent → PassRows (first_floor c) c.options c.guidance c.iterations
  pub second-rows : Doubles c → Passes c lent → (alpha : List Float) → first_pass pass_of c ≡ field alpha → refines c alpha ≡ true
      → PassRows (second_floor c alpha) (without_threshold c.options) (extended c.guidance (refined_by c alpha).cut) c.iterations
  -- rows 2 to 16, which the Rust tests again in its second pass, do not hold there
  pub second-sound : Doubles c → Passes c lent → (alpha : List Float) → first_pass pass_of c ≡ field alpha → refines c alpha ≡ true → SecondSound c alpha
  -- "a refusal leaves the answer slices untouched"
  pub no-angles : (x : Refusal) → r ≡ Err x → (coarse ≡ lent.coarse) × (fine ≡ lent.fine)
  -- "through row 18 work is untouched; later, accepted or refused, all of it ends as zeros"
  pub untouched : (i : ℕ) → FirstHolds (table c (lengths_of lent)) i → (work ≡ lent.work) × (words ≡ lent.words)
  pub zeros : Passes c lent → (work ≡ replicate (length lent.work) (lit 0)) × (words ≡ replicate (length lent.words) 0)
  -- an accepted solve gives the first pass's field, and the second's where it refines
  pub accepted : (counts : Counts) → r ≡ Ok counts → Accepted pass_of c lent counts coarse fine

pub record Demands (c : Call) (lent : Lent) (r : Outcome) (coarse fine work : List Float) (words : List ℕ) : Type 0 where
  pub one : DemandOne c lent r coarse fine work words
  pub three : (counts : Counts) (alpha : List Float) → Refines c r counts alpha → DemandThree c lent counts alpha coarse fine
