-- `godf::refine::put_four` meets its contract: each return opens the definition and rewrites it by the tests and the calls on its way.
use mathlib.Core.Path.{◌∙◌}
use Rattle.godf.proofs.refine.put_four.Goals as goal

pub returns : goal.returns
returns c =
    c.put-4.ensures ∙ rw (c.put-3.ensures, c.put-2.ensures, c.put.ensures)
