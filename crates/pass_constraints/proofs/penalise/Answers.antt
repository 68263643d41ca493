-- `pass_constraints::penalise` meets its contract: each return follows from the calls on its way; the laws are in proofs/Systems.
use Rattle.pass_constraints.proofs.Systems.{weak-all, weak-room}
use Rattle.pass_constraints.proofs.penalise.Goals as goal

pub penalise_rhs-requires : goal.penalise_rhs-requires
penalise_rhs-requires c =
    (c.requires.0, weak-room c.args.l _ _ _ c.requires.1 c.penalise_diagonal.ensures)

pub returns : goal.returns
returns c =
    weak-all c.args.l _ _ _ c.requires.1 c.penalise_diagonal.ensures c.penalise_rhs.ensures
