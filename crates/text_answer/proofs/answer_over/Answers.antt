-- `text_answer::answer_over` meets its contract: what was read is the text's floor, or the text is refused; the laws are in proofs/Whole. Assumes nothing.
use native.Mathlib.Omega.{arith}
use mathlib.Core.Path.{sym, ap, ◌∙◌}
use Prim.Native.Nat.{ℕ}
use lib.ListN.{length, length-replicate}
use lib.Seq.{sets}
use mathlib.Core.List.{List}
use lib.Ieee.{Float}
use Rattle.float.specs.Double.{lit}
use Rattle.text_floor.proofs.Lines.{known}
use Rattle.text_answer.proofs.Whole.{floor-read, other-read, text-prints}
use Rattle.text_answer.proofs.answer_over.Goals as goal

pub returns-in_default : goal.returns-in_default
returns-in_default c =
    let e = other-read c.args.text.now c.read_floor.ensures.answer c.in_default.is in (
      c.put_refused.ensures.0 ∙ ap (λ (b : List ℕ). sets c.args.out.now 0 b) (sym e),
      c.put_refused.ensures.1 ∙ sym (ap length e),
    )

pub answer_front-requires : goal.answer_front-requires
answer_front-requires c =
    let f = floor-read c.args.text.now c.read_floor.ensures.answer c.in-Some.is
    in let k = known _ f.text in record {
      n_bound = ((omega (arith, f.points, k.few-points), omega (arith, f.triangles, k.few-triangles)), c.requires.sizes_value.1);
      points_len = (
        c.points-1.given ∙ c.requires.points_len.0,
        (
          c.corners-1.given ∙ c.requires.points_len.1.1,
          (
            ap length c.requires.sizes_value.0 ∙ length-replicate {A = Float} 256 (lit 0x3ff0_0000_0000_0000),
            c.angles-1.given ∙
                c.requires.points_len.1.0,
          ),
        ),
      );
    }

pub returns : goal.returns
returns c =
    let e = text-prints c.args.text.now c.read_floor.ensures
    (floor-read c.args.text.now c.read_floor.ensures.answer c.in-Some.is) c.requires.points_len.0 c.requires.points_len.1.0
    c.requires.points_len.1.1 c.requires.sizes_value.0 in (
      c.answer_front.ensures.0 ∙ ap (λ (b : List ℕ). sets c.args.out.now 0 b) e,
      c.answer_front.ensures.1 ∙ ap length e,
    )
