-- `linear_rows::diagonal_term` meets its contract: each return rewrites the definition by the calls on its way.
use Rattle.linear_rows.proofs.diagonal_term.Goals as goal

pub returns : goal.returns
returns c = cc
