-- Demand 1's other half, of a whole solve: what an accepted solve gives, with one pass or two. Definitions only.
use Rattle.std.specs.Prelude.{ℕ, ◌<◌, ◌≡◌, true, false, List, length, get_or, Float}
use Rattle.std.specs.Float.{nan}
use Rattle.complex.specs.Angle.{IsCross}
use Rattle.floor.specs.Floor.{point_count}
use Rattle.refinement.specs.Floor.{over}
use Rattle.pass_options.specs.Pass.{Pass, field}
use Rattle.calls.specs.declared.Counts.{Counts}
use Rattle.calls.specs.Checks.{Call, Lent, points_in}
use Rattle.calls.specs.Solve.{first_pass, second_floor, second_pass, refines, answer_part}

-- alpha is an angle for each of n points, "all in [0, FRAC_PI_2)"
pub record IsField (n : ℕ) (alpha : List Float) : Type 0 where
  pub as_many : length alpha ≡ n
  pub range : (i : ℕ) → i < n → IsCross (get_or alpha i nan)

-- "acceptance fills the first n coarse angles with the first pass's field .. the rest stays"
pub record FillsCoarse (pass : Pass) (c : Call) (lent : Lent) (alpha coarse : List Float) : Type 0 where
  pub first : first_pass pass c ≡ field alpha
  pub is_field : IsField (points_in c) alpha
  pub coarse-left : coarse ≡ over alpha lent.coarse

-- no triangle is flagged, or the threshold is 0: the fine slice stays, both counts are 0, and the answer is the first pass's field
pub record OnePass (c : Call) (lent : Lent) (counts : Counts) (alpha coarse fine : List Float) : Type 0 where
  pub fine-left : fine ≡ lent.fine
  pub none-flagged : counts.flagged ≡ 0
  pub none-cut : counts.cut ≡ 0
  pub answer : answer_part (points_in c) counts.flagged coarse fine ≡ alpha

-- "and, where a triangle was flagged, the fine angles of the whole refined floor with the second's; the rest stays"
pub record FillsFine (pass : Pass) (c : Call) (lent : Lent) (alpha fine : List Float) : Type 0 where
  pub beta : List Float
  pub second : second_pass pass c alpha ≡ field beta
  pub is_field : IsField (point_count (second_floor c alpha)) beta
  pub fine-left : fine ≡ over beta lent.fine

-- an accepted solve that gave these counts and left coarse and fine. Demand 3 has more of one that refines
pub record Accepted (pass : Pass) (c : Call) (lent : Lent) (counts : Counts) (coarse fine : List Float) : Type 0 where
  pub alpha : List Float
  pub first_field : FillsCoarse pass c lent alpha coarse
  pub once : refines c alpha ≡ false → OnePass c lent counts alpha coarse fine
  pub twice : refines c alpha ≡ true → FillsFine pass c lent alpha fine
