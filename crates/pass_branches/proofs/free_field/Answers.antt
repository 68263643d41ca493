-- `pass_branches::free_field` meets its contract: each return is one case of proofs/Modes.
use Rattle.pass_branches.proofs.Modes.{free_vector, free-soft}
use Rattle.pass_branches.proofs.free_field.Goals as goal

pub vector_field-requires : goal.vector_field-requires
vector_field-requires c = record { branch_room = c.requires.branch_room; graphs = c.requires.graphs; copy_room = c.requires.copy_room }

pub returns-then-none_acts : goal.returns-then-none_acts
returns-then-none_acts c =
    free_vector c.args.b _ _ _ _ c.none_acts.ensures c.if-none_acts.true c.vector_field.ensures

pub soft_field-requires : goal.soft_field-requires
soft_field-requires c = record { branch_room = c.requires.branch_room; graphs = c.requires.graphs; copy_room = (c.requires.copy_room.0.0, c.requires.copy_room.1) }

pub returns : goal.returns
returns c =
    free-soft c.args.b _ _ _ _ c.none_acts.ensures c.if-none_acts.false c.soft_field.ensures
