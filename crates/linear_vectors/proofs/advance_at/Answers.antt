-- `linear_vectors::advance_at` meets its contract: each return opens the definition and rewrites it by the tests and the calls on its way.
use Rattle.linear_vectors.proofs.advance_at.Goals as goal

pub returns : goal.returns
returns c = cc
