-- Demands 1 and 3 of everything that meets the contract of `solve`: the claims of crate calls, over the pass of this project, on the outcome and the slices
-- as `Ends` has them. Assumes nothing.
use Prim.Native.Nat.{ℕ}
use mathlib.Core.Path.{◌≡◌, sym, ap, ◌∙◌}
use mathlib.Core.Logic.{◌↔◌}
use mathlib.Core.List.{List}
use lib.Ieee.{Float}
use Rattle.std.specs.Prelude.{Err}
use Rattle.pass.specs.Pass.{pass_of}
use Rattle.pass.proofs.Facts.{pass-facts}
use Rattle.pass.proofs.Rows.{pass-rows}
use Rattle.refusals.specs.declared.Refusal.{Refusal}
use Rattle.calls.specs.declared.Counts.{Counts}
use Rattle.calls.specs.Checks.{Call, Lent, Outcome}
use Rattle.calls.specs.Solve.{first_floor, refined_by, second_floor, without_threshold, extended, solve_of, Ends}
use Rattle.calls.specs.Refusals.{RefusedBy, Refusals}
use Rattle.calls.specs.Claim.{RefiningSolve}
use Rattle.calls.proofs.Refusals.{refusals}
use Rattle.calls.proofs.Claim.{refining-solve}
use Rattle.calls.proofs.Accepted.{solve-accepted}
use Rattle.solve.specs.Demands.{Refines, DemandThree, DemandOne, Demands}
use Rattle.solve.proofs.Sound.{first-sound, second-sound}

module _ (c : Call) (lent : Lent) {r : Outcome} {coarse fine work : List Float} {words : List ℕ} (ends : Ends (solve_of pass_of c lent) r coarse fine work words) where
  by_rows : Refusals pass_of c lent
  by_rows = refusals pass_of c lent

  refused-when : (x : Refusal) → (r ≡ Err x) ↔ RefusedBy pass_of c lent x
  refused-when x = (λ h. (by_rows.exactly x).0 (sym ends.outcome ∙ h), λ h. ends.outcome ∙ (by_rows.exactly x).1 h)

  refining : (counts : Counts) (alpha : List Float) → Refines c r counts alpha → DemandThree c lent counts alpha coarse fine
  refining counts alpha h =
      let claim : RefiningSolve pass_of c lent counts alpha = refining-solve pass_of pass-facts c lent counts alpha
      (record { accepted = sym ends.outcome ∙ h.accepted; first = h.first; above = h.above; flags = h.flags }) in
      record { claim = claim; answer = rw (ends.coarse-left, ends.fine-left) claim.answer }

  demand-one : DemandOne c lent r coarse fine work words
  demand-one = record {
    refused = refused-when;
    first_rows = λ d p. pass-rows (first_floor c) c.options c.guidance c.iterations (first-sound c lent p d);
    second-rows = λ d p alpha f g.
        pass-rows (second_floor c alpha) (without_threshold c.options) (extended c.guidance (refined_by c alpha).cut) c.iterations (second-sound c lent p d alpha f g).floor;
    second-sound = λ d p alpha f g. second-sound c lent p d alpha f g;
    no-angles = λ x h. let e = by_rows.no-angles x (sym ends.outcome ∙ h) in (ends.coarse-left ∙ e.0, ends.fine-left ∙ e.1);
    untouched = λ i h. let e = by_rows.untouched i h in (ends.work-left ∙ ap (λ (l : Lent). l.work) e, ends.words_left ∙ ap (λ (l : Lent). l.words) e);
    zeros = λ s. let e = by_rows.zeros s in (ends.work-left ∙ e.0, ends.words_left ∙ e.1);
    accepted = λ counts h. rw (ends.coarse-left, ends.fine-left) (solve-accepted pass_of pass-facts c lent counts (sym ends.outcome ∙ h));
  }

  pub demands : Demands c lent r coarse fine work words
  demands = record { one = demand-one; three = refining }
