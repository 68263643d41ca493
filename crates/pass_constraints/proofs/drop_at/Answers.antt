-- `pass_constraints::drop_at` meets its contract: each return opens the definition and rewrites it by the calls on its way.
use native.Mathlib.Omega.{arith}
use mathlib.Core.Path.{◌∙◌}
use Rattle.pass_constraints.specs.Constraints.{dropped_at}
use Rattle.pass_constraints.specs.Work.{drop_c}
use Rattle.pass_constraints.proofs.drop_at.Goals as goal

pub touches-yes-requires : goal.touches-yes-requires
touches-yes-requires c = (
  (omega (arith, c.requires.graph.0.all-a), omega (arith, c.requires.graph.0.all-b)),
  (
    omega (arith, c.requires.graph.1, c.requires.graph.0.a-below c.args.e (omega (arith, c.requires.graph.0.all-a))),
    omega
        (arith, c.requires.graph.1, c.requires.graph.0.b-below c.args.e (omega (arith, c.requires.graph.0.all-b))),
  ),
)

pub returns : goal.returns
unfolding drop_c dropped_at
returns c =
    c.store.ensures ∙ rw (c.pick.ensures, c.load-z.ensures, c.touches-yes.ensures)
