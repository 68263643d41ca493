-- `linear_rows::plus_edge` meets its contract: each return rewrites the definition by the calls on its way; the laws are in proofs/Loops.
use mathlib.Core.Path.{◌∙◌}
use native.Mathlib.Omega.{arith}
use Rattle.linear_rows.proofs.Loops.{edge-term}
use Rattle.linear_rows.proofs.plus_edge.Goals as goal

pub plus_ends-requires : goal.plus_ends-requires
plus_ends-requires c =
    omega (arith, c.requires.graph.a-below c.args.e (omega (arith, c.requires.graph.all-a)), c.requires.graph.b-below c.args.e (omega (arith, c.requires.graph.all-b)))

pub returns : goal.returns
returns c =
    edge-term _ _ _ _ _ _ _ c.requires.e_lt_edges c.requires.graph _ (c.plus_ends.ensures ∙ rw (c.wide.ensures, c.wide-2.ensures))
