-- `linear_hermitian::dot_re_at` meets its contract: each return opens the definition and rewrites it by the tests and the calls on its way.
use Rattle.linear_hermitian.specs.Work.{re_term}
use Rattle.linear_hermitian.proofs.dot_re_at.Goals as goal

pub returns : goal.returns
unfolding re_term
returns c = cc
