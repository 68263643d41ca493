-- `pass_terms::accurate_entry` meets its contract: each return opens the definition and rewrites it by the tests and the calls on its way.
use Rattle.pass_terms.specs.Terms.{accurate_entry}
use Rattle.pass_terms.proofs.accurate_entry.Goals as goal

pub returns : goal.returns
unfolding accurate_entry
returns c =
    simp (
      c.scale.ensures,
      c.mul.ensures,
      c.conj.ensures,
      c.dirichlet_by-integral.ensures,
      c.dot2-3.ensures,
      c.dot2-2.ensures,
      c.dot2.ensures,
      c.sub2-b.ensures,
      c.sub2-a.ensures,
    )
