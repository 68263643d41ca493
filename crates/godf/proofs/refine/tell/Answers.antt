-- `godf::refine::tell` meets its contract: each return opens the definition and rewrites it by the tests and the calls on its way.
use Prim.Native.Nat.{ℕ}
use mathlib.Core.Path.{sym, ap, ◌∙◌}
use mathlib.Core.List.{List}
use lib.Seq.{sets}
use Rattle.godf.specs.Report.{code_of, numbers_of}
use Rattle.godf.proofs.refine.tell.Goals as goal

pub returns-in-Ok : goal.returns-in-Ok
returns-in-Ok c =
    (sym (ap code_of c.in-Ok.is), c.put_four.ensures ∙ ap (λ (l : List ℕ). sets c.args.report.now 0 l) (sym (ap numbers_of c.in-Ok.is)))

pub returns-in-Err : goal.returns-in-Err
returns-in-Err c =
    (sym (ap code_of c.in-Err.is), c.put_four-in-Err.ensures ∙ ap (λ (l : List ℕ). sets c.args.report.now 0 l) (sym (ap numbers_of c.in-Err.is)))
