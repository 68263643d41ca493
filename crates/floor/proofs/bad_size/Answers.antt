-- `floor::bad_size` meets its contract: the definition is opened and rewritten by the calls.
use Rattle.floor.specs.Checks.{bad_size}
use Rattle.floor.proofs.bad_size.Goals as goal

pub returns : goal.returns
unfolding bad_size
returns c = rw (← c.read.ensures) c.not_positive.ensures
