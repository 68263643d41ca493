-- `pass_solution::refusal_of` meets its contract: each return is the refusal of the variant that was met.
use mathlib.Core.Path.{◌∙◌, sym, ap}
use Rattle.linear_conjugate_gradient.specs.Answer.{reason, place}
use Rattle.pass_solution.specs.Work.{refusal_of}
use Rattle.pass_solution.proofs.refusal_of.Goals as goal

pub returns-in-RightHandNorm : goal.returns-in-RightHandNorm
unfolding reason place
returns-in-RightHandNorm c = c.gave_up.ensures ∙ sym (ap refusal_of c.in-RightHandNorm.is)

pub returns-in-Diagonal : goal.returns-in-Diagonal
unfolding reason place
returns-in-Diagonal c = c.gave_up-in-Diagonal.ensures ∙ sym (ap refusal_of c.in-Diagonal.is)

pub returns-in-FirstResidual : goal.returns-in-FirstResidual
unfolding reason place
returns-in-FirstResidual c = c.gave_up-in-FirstResidual.ensures ∙ sym (ap refusal_of c.in-FirstResidual.is)

pub returns-in-Denominator : goal.returns-in-Denominator
unfolding reason place
returns-in-Denominator c = c.gave_up-in-Denominator.ensures ∙ sym (ap refusal_of c.in-Denominator.is)

pub returns-in-LostDefiniteness : goal.returns-in-LostDefiniteness
unfolding reason place
returns-in-LostDefiniteness c = c.gave_up-in-LostDefiniteness.ensures ∙ sym (ap refusal_of c.in-LostDefiniteness.is)

pub returns-in-CountSpent : goal.returns-in-CountSpent
unfolding reason place
returns-in-CountSpent c = c.gave_up-in-CountSpent.ensures ∙ sym (ap refusal_of c.in-CountSpent.is)

pub returns-in-MassOfIterate : goal.returns-in-MassOfIterate
unfolding reason place
returns-in-MassOfIterate c = c.gave_up-in-MassOfIterate.ensures ∙ sym (ap refusal_of c.in-MassOfIterate.is)
