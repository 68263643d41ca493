-- The floors of a call's two passes as its checks leave them. The Rust tests rows 2 to 16 again in its second pass; `pass_of` tests none of them, and none
-- of them holds there: `second-sound` in proofs/Sound. Definitions only.
use Rattle.std.specs.Prelude.{ℕ, ◌≡◌, ◌≢◌, List, T, get_or, Float, Ok}
use Rattle.std.specs.Float.{nan, binary64}
use Rattle.std.specs.Float.Ieee.{fits}
use Rattle.floor.specs.Floor.{point_count}
use Rattle.pass_options.specs.Table.{first_of}
use Rattle.pass_options.specs.Options.{option_rows, guidance_rows}
use Rattle.pass_setup.specs.Rows.{SoundFloor}
use Rattle.calls.specs.Checks.{Call}
use Rattle.calls.specs.Solve.{refined_by, second_floor, without_threshold, extended}

-- the coordinates and the sizes of a call are doubles. Those of every call are: a slice of f64 holds nothing else
pub record Doubles (c : Call) : Type 0 where
  pub points : (i : ℕ) → T (fits binary64 (get_or c.points i nan))
  pub sizes : (i : ℕ) → T (fits binary64 (get_or c.sizes i nan))

-- the second pass of a call, by the first pass's angles alpha
pub record SecondSound (c : Call) (alpha : List Float) : Type 0 where
  -- row 2
  pub iterations : c.iterations ≢ 0
  -- rows 3 to 8, of the refined floor
  pub floor : SoundFloor (second_floor c alpha)
  -- rows 9 to 13, of the options without their threshold
  pub options : first_of (option_rows (without_threshold c.options)) ≡ Ok tt
  -- rows 14 to 16, of the extended guidance
  pub guidance : first_of (guidance_rows (point_count (second_floor c alpha)) (extended c.guidance (refined_by c alpha).cut)) ≡ Ok tt
