-- `linear_conjugate_gradient::norm` meets its contract: each return opens the definition and rewrites it by the tests and the calls on its way.
use Rattle.root.specs.Root.{root_of}
use mathlib.Core.Path.{◌∙◌, ap}
use Rattle.linear_conjugate_gradient.proofs.norm.Goals as goal

pub returns : goal.returns
returns c = c.sqrt.ensures.value ∙ ap root_of c.max.ensures
