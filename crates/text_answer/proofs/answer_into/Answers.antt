-- `text_answer::answer_into` meets its contract: the lines of the call's answer are those of the refined floor; the laws are in proofs/Call. Assumes nothing.
use mathlib.Core.Path.{ap, ◌∙◌}
use Prim.Native.Nat.{ℕ}
use lib.ListN.{length}
use lib.Seq.{sets}
use mathlib.Core.List.{List}
use Rattle.text_answer.proofs.Call.{few, holds, call-lines}
use Rattle.text_answer.proofs.answer_into.Goals as goal

pub write_answer-requires : goal.write_answer-requires
write_answer-requires c =
    holds c.args.triangles.now _ _ _
    (few c.args.threshold c.args.angles.now c.args.points.now c.args.sizes.now c.args.triangles.now)
    c.requires.few (c.new_triangles-1.given ∙ c.requires.in-triangles)
    (c.cut_ends-1.given ∙ c.requires.in-ends) c.requires.roomy c.refine-answer.ensures

pub returns : goal.returns
returns c =
    let e = call-lines c.args.points.now c.args.sizes.now c.args.triangles.now _ c.args.threshold _
    c.requires c.refine-answer.ensures in (
      c.write_answer.ensures.0 ∙ ap (λ (b : List ℕ). sets c.args.out.now 0 b) e,
      c.write_answer.ensures.1 ∙ ap length e,
    )
