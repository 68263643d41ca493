-- `linear_hermitian::edge_at` meets its contract: each return opens the definition and rewrites it by the tests and the calls on its way.
use mathlib.Core.Path.{◌∙◌}
use Rattle.linear_hermitian.proofs.edge_at.Goals as goal

pub returns : goal.returns
returns c = c.edge_one.ensures ∙ rw (c.wide.ensures, c.wide-2.ensures)
