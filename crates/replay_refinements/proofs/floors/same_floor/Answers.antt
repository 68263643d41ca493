-- `replay_refinements::floors::same_floor` meets its contract: the recorded floor stands over marks.
use native.Mathlib.Omega.{arith}
use mathlib.Core.Path.{ap}
use Prim.Native.Nat.{ℕ, ◌*◌}
use Rattle.replay.proofs.Fill.{fill-over}
use Rattle.replay_refinements.specs.Floors.{same_floor}
use Rattle.replay.specs.Rows.{marks, word_marks}
use Rattle.replay_refinements.proofs.Asked.{same-four}
use Rattle.replay_refinements.proofs.floors.same_floor.Goals as goal

pub returns : goal.returns
unfolding same_floor
returns c = same-four _ _ _ _
    (fill-over _ (marks 72)
    (ap (λ (k : ℕ). 3 * k)
    c.count-n.ensures.0)
    (omega (
      arith,
      c.count-n.ensures.1,
    ))
    c.doubles.ensures)
    (fill-over _ (marks 24)
    c.count-n.ensures.0
    (omega (
      arith,
      c.count-n.ensures.1,
    ))
    c.doubles-2.ensures)
    (fill-over _ (word_marks 64)
    (ap (λ (k : ℕ). 3 * k)
    c.count-t.ensures.0)
    (omega (
      arith,
      c.count-t.ensures.1,
    ))
    c.corners.ensures)
    (fill-over _ (word_marks 44)
    (ap (λ (k : ℕ). 2 * k)
    c.count-m.ensures.0)
    (omega (
      arith,
      c.count-m.ensures.1,
    ))
    c.corners-2.ensures)
    c.same_four.ensures
