-- The rows of the leaves' lists. Definitions only.
use Rattle.std.specs.Prelude.{ℕ, Bool, List}
use Rattle.sine.specs.Sine.{sin_of, cos_of}
use Rattle.arctangent.specs.Arc.{atan2_of}
use Rattle.root.specs.Root.{root_of}
use Rattle.replay.specs.Rows.{double_at, same_as}
use Rattle.replay_leaves.specs.declared.Leaf.{Leaf}
use Rattle.replay_leaves.specs.declared.Leaf.TheVariants.{Sin, Cos, Atan2, Sqrt}

-- the words of a row: `x sin cos`, `y x atan2` or `x sqrt`
abbrev pub width_of : Leaf → ℕ
width_of Sin = 3
width_of Cos = 3
width_of Atan2 = 3
width_of Sqrt = 2

-- whether a row is what its function gives
abbrev pub holds_of : Leaf → List ℕ → Bool
holds_of Sin row = same_as (sin_of (double_at row 0)) (double_at row 1)
holds_of Cos row = same_as (cos_of (double_at row 0)) (double_at row 2)
holds_of Atan2 row = same_as (atan2_of (double_at row 0) (double_at row 1)) (double_at row 2)
holds_of Sqrt row = same_as (root_of (double_at row 0)) (double_at row 1)
