-- `pass_options::too_large` meets its contract: each return opens the definition and rewrites it by the tests and the calls on its way.
use Rattle.pass_options.specs.Options.{too_large}
use Rattle.pass_options.proofs.too_large.Goals as goal

pub returns : goal.returns
unfolding too_large
returns c = rw (← c.abs.ensures)
