-- `pass_assembly::clear` meets its contract: each return opens the definition and rewrites it by the tests and the calls on its way.
use mathlib.Core.Path.{◌∙◌}
use Rattle.pass_assembly.specs.Work.{cleared}
use Rattle.pass_assembly.proofs.clear.Goals as goal

pub returns : goal.returns
unfolding cleared
returns c =
    c.fill-2.ensures ∙ rw c.fill.ensures
