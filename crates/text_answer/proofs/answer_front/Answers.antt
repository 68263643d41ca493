-- `text_answer::answer_front` meets its contract: the lines of the four fronts. Assumes nothing.
use native.Mathlib.Omega.{arith}
use mathlib.Core.Path.{◌≡◌}
use Prim.Native.Nat.{◌-◌, ◌*◌}
use lib.ListN.{length-take}
use Rattle.text_answer.proofs.answer_front.Goals as goal

pub answer_floor-requires : goal.answer_floor-requires
answer_floor-requires c =
    (omega (arith, length-take (3 * c.args.t) c.args.corners.now), c.requires.n_bound.1)

pub returns : goal.returns
returns c =
    let e₁ : 3 * c.args.n - 0 ≡ 3 * c.args.n = omega arith in let e₂ : 3 * c.args.t - 0 ≡ 3 * c.args.t = omega arith in let e₃ : c.args.n - 0 ≡ c.args.n = omega arith in rw (e₁, e₂, e₃) at c.answer_floor.ensures
