-- `complex::guidance::norm` meets its contract: each return opens the definition and rewrites it by the tests and the calls on its way.
use Rattle.complex.specs.Guidance.{norm_of}
use Rattle.complex.proofs.guidance.norm.Goals as goal

pub returns : goal.returns
unfolding norm_of
returns c = c.sqrt.ensures.value
