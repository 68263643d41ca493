-- Memory of the angles: what `angles_from` leaves in a work slice, and the room that it requires.
use Rattle.std.specs.Prelude.{◌≡◌, List, ℕ, ◌+◌, ◌*◌, ◌≤◌, Float, Ok, Err}
use Rattle.linear_cells.specs.Region.{put, Apart}
use Rattle.linear_cells.specs.Cell.{region_c}
use Rattle.refusals.specs.Refusal.{gave_up, Verdict}
use Rattle.pass_field.specs.Field.{Angles, angles, endless, field_of}

pub record FieldRoom (len x at n : ℕ) : Type 0 where
  pub x-in : x + 2 * n ≤ len
  pub at_in : at + n ≤ len
  pub at_x : Apart at n x (2 * n)

-- the angles stand at `at`, and nothing is written where there are none
unfoldable pub written : List Float → ℕ → Angles → List Float
written w at (angles a) = put w at a
written w at endless = w

unfoldable pub angles_stage : Angles → Verdict
angles_stage (angles a) = Ok tt
angles_stage endless = Err (gave_up 13 0)

pub record Fields (w w' : List Float) (x at n : ℕ) (r : Verdict) : Type 0 where
  pub work : w' ≡ written w at (field_of (region_c w x n))
  pub stage : r ≡ angles_stage (field_of (region_c w x n))
