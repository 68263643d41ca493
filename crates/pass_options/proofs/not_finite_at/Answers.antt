-- `pass_options::not_finite_at` meets its contract: each return opens the definition and rewrites it by the tests and the calls on its way.
use Rattle.pass_options.specs.Options.{not_finite_at}
use Rattle.pass_options.proofs.not_finite_at.Goals as goal

pub returns : goal.returns
unfolding not_finite_at
returns c = rw (← c.read.ensures, ← c.is_finite.ensures)
