-- `linear_rows::row_at` meets its contract: each return rewrites the definition by the calls on its way.
use Rattle.linear_rows.proofs.row_at.Goals as goal

pub returns : goal.returns
returns c = cc
