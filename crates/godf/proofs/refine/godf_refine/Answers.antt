-- `godf::refine::godf_refine` meets its contract: each return opens the definition and rewrites it by the tests and the calls on its way.
use Prim.Native.Nat.{ℕ}
use mathlib.Core.Path.{refl, ap, ◌∙◌}
use mathlib.Core.List.{List}
use lib.Seq.{sets}
use Rattle.godf.specs.Report.{code_of, numbers_of}
use Rattle.godf.proofs.refine.godf_refine.Goals as goal

pub returns : goal.returns
returns c =
    let e = c.refine-answer.ensures in record {
      called = record { answer = refl; points = e.points; sizes = e.sizes; triangles = e.triangles; ends = e.ends };
      told =
          c.tell.ensures.0 ∙ ap code_of e.answer;
      numbers = c.tell.ensures.1 ∙ ap
          (λ (l : List ℕ). sets c.args.report.now 0 l) (ap numbers_of e.answer);
    }
