-- The pass over a floor as given, from the lent slices: where it begins, what it finds, and how much room it takes. Definitions only.
use Rattle.std.specs.Prelude.{ℕ, ◌*◌, ◌/◌, ◌^◌, ◌≤◌, ◌<◌, ◌≡◌, Bool, true, List, Float}
use Rattle.refinement.specs.Floor.{tris_of}
use Rattle.pass_layout.specs.declared.Base.{Base}
use Rattle.pass_layout.specs.Layout.{reals_of, words_of}
use Rattle.pass_options.specs.declared.Options.{Options}
use Rattle.pass_options.specs.Options.{guidance_of}
use Rattle.pass_options.specs.Pass.{Passed, floor_of}
use Rattle.pass.specs.declared.Asked.{Asked}
use Rattle.pass.specs.Pass.{pass_of}

-- of the lengths of the point and the triangle slice
abbrev pub first_base : ℕ → ℕ → Base
first_base points corners = record { reals = 0; words = 0; points = points / 3; triangles = corners / 3 }

abbrev pub first_over : Options → Asked → List Float → List ℕ → List Float → List Float → Passed
first_over o a points corners sizes guidance = pass_of (floor_of points (tris_of corners) sizes) o (guidance_of a.guided a.weight guidance) a.iterations

-- of the lengths of all slices
pub record FirstRoom (guided : Bool) (points corners sizes guidance work words : ℕ) : Type 0 where
  pub whole : points ≡ 3 * (points / 3)
  pub whole-corners : corners ≡ 3 * (corners / 3)
  pub sized : sizes ≡ points / 3
  pub guided-all : guided ≡ true → guidance ≡ points / 3
  pub few-points : points / 3 < 2 ^ 24
  pub few-triangles : corners / 3 < 2 ^ 24
  pub reals-fit : reals_of (points / 3) (corners / 3) ≤ work
  pub words-fit : words_of (points / 3) (corners / 3) ≤ words
