-- `text_columns::step_on` meets its contract: each arm is the clause of `step`. Assumes nothing.
use Prim.Native.Nat.{ℕ}
use mathlib.Core.Path.{◌≡◌, subst}
use mathlib.Core.Bool.{Bool, true, false, cond}
use Rattle.std.specs.Prelude.{Option, MatchOption}
use Rattle.std.specs.declared.option.Option.TheVariants.{None, Some}
use Rattle.text_columns.specs.Columns.{step}
use Rattle.text_columns.specs.declared.Scan.{Scan}
use Rattle.text_columns.specs.declared.Scan.TheVariants.{Bad}
use Rattle.text_columns.proofs.step_on.Goals as goal

-- a number with one more digit, if there is one, and otherwise none
more : (t : Bool) (m : ℕ) (o : Option ℕ) (make : ℕ → Scan) (r : Scan) → o ≡ cond t (Some m) None → MatchOption o (r ≡ Bad) (λ x. r ≡ make x) → r ≡ cond t (make m) Bad
more true m o make r e h = subst (λ p. MatchOption p (r ≡ Bad) (λ x. r ≡ make x)) e h
more false m o make r e h = subst (λ p. MatchOption p (r ≡ Bad) (λ x. r ≡ make x)) e h

pub returns-in-Whole : goal.returns-in-Whole
unfolding step
returns-in-Whole c = rw c.in-Whole.is (more _ _ _ _ _ c.with_digit.ensures c.map_or.ensures)

pub returns-in-Negative : goal.returns-in-Negative
unfolding step
returns-in-Negative c = rw c.in-Negative.is (more _ _ _ _ _ c.with_digit-in-Negative.ensures c.map_or-in-Negative.ensures)
