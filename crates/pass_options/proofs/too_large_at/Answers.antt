-- `pass_options::too_large_at` meets its contract: each return opens the definition and rewrites it by the tests and the calls on its way.
use Rattle.pass_options.specs.Options.{too_large_at}
use Rattle.pass_options.proofs.too_large_at.Goals as goal

pub returns : goal.returns
unfolding too_large_at
returns c = rw (← c.read.ensures) c.too_large.ensures
