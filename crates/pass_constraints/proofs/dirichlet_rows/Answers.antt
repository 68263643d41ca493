-- `pass_constraints::dirichlet_rows` meets its contract: each return follows from the calls on its way; the laws are in proofs/Systems.
use Rattle.pass_constraints.proofs.Systems.{rows_all}
use Rattle.pass_constraints.proofs.dirichlet_rows.Goals as goal

pub returns : goal.returns
returns c =
    rows_all c.args.h _ _ _ _ c.requires.matrix_room c.drop_entries.ensures c.fix_diagonal.ensures
