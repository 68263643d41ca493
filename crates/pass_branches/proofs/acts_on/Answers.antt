-- `pass_branches::acts_on` meets its contract: each arm is a clause of the definition.
use mathlib.Core.Path.{sym, ap}
use Rattle.pass_branches.specs.Branches.{acts}
use Rattle.pass_branches.proofs.acts_on.Goals as goal

pub returns-in-Weak : goal.returns-in-Weak
returns-in-Weak c = sym (ap acts c.in-Weak.is)
