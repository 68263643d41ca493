-- `linear_layers::layers_conjugate_gradient` meets its contract: whether `solve` returned an answer; the law is in proofs/Tests.
use Rattle.linear_layers.proofs.Tests.{told}
use Rattle.linear_layers.proofs.layers_conjugate_gradient.Goals as goal

pub returns : goal.returns
returns c = rw c.is_some.ensures (told _ _ _ _ _ _ _ c.solve.ensures)
