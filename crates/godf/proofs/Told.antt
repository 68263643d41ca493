-- What C is told of a solve, from what the solve leaves. Assumes nothing.
use Prim.Native.Nat.{ℕ}
use mathlib.Core.Path.{◌≡◌, ap, ◌∙◌}
use mathlib.Core.List.{List}
use lib.Ieee.{Float}
use Rattle.pass_options.specs.declared.Options.{Options}
use Rattle.pass.specs.declared.Asked.{Asked}
use Rattle.pass.specs.Pass.{pass_of}
use Rattle.calls.specs.Checks.{Lent, Outcome}
use Rattle.calls.specs.Solve.{solve_of, Ends, number_of}
use Rattle.solve.specs.Passes.{call_for}
use Rattle.godf.specs.Solve.{report_of, SolveTold}

module _ (points : List Float) (triangles : List ℕ) (sizes angles : List Float) (l : Lent) {o o' : Options} {a a' : Asked}
    {r : Outcome} {coarse fine work : List Float} {words : List ℕ} {number : ℕ} {report : List ℕ} where
  -- the options and what is asked, as read from C's numbers
  pub solve-told : o ≡ o' → a ≡ a' → Ends (solve_of pass_of (call_for points triangles sizes angles o a) l) r coarse fine work words →
      number ≡ number_of r → report ≡ report_of r → SolveTold (solve_of pass_of (call_for points triangles sizes angles o' a') l) number coarse fine work words report
  solve-told eo ea e en er = rw (← eo, ← ea) (record {
    told = en ∙ ap number_of e.outcome;
    coarse-left = e.coarse-left;
    fine-left = e.fine-left;
    work-left = e.work-left;
    words_left = e.words_left;
    reported = er ∙ ap report_of e.outcome;
  })
