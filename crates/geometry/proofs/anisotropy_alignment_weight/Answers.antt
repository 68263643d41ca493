-- `geometry::anisotropy_alignment_weight` meets its contract: each return opens the definition and rewrites it by the tests and the calls on its way.
use Rattle.geometry.specs.Edge.{alignment_weight}
use Rattle.geometry.proofs.anisotropy_alignment_weight.Goals as goal

pub returns-then-anisotropy : goal.returns-then-anisotropy
unfolding alignment_weight
returns-then-anisotropy c = simp c.if-anisotropy.true

pub returns : goal.returns
unfolding alignment_weight
returns c = simp (c.if-anisotropy.false, c.recip.ensures)
