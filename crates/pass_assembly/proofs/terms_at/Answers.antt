-- `pass_assembly::terms_at` meets its contract: each return opens the definition and rewrites it by the tests and the calls on its way.
use Rattle.pass_assembly.specs.Assembly.{terms_on}
use Rattle.pass_assembly.specs.Work.{terms_from}
use Rattle.pass_assembly.proofs.terms_at.Goals as goal

pub returns : goal.returns
unfolding terms_from terms_on
returns c =
    simp (
      c.directed_terms.ensures,
      c.of_triangle.ensures,
      c.load_real-area.ensures,
      c.transports_on-z.ensures,
      c.position-r.ensures,
      c.position-q.ensures,
      c.position-p.ensures,
    )
