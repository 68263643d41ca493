-- `pass_branches::field_by` meets its contract: each return is one case of proofs/Modes.
use Rattle.pass_branches.proofs.Modes.{by-none, by-tangent, by_weak, by-idle}
use Rattle.pass_branches.proofs.field_by.Goals as goal

pub free_field-requires : goal.free_field-requires
free_field-requires c = record { branch_room = c.requires.branch_room.0; graphs = c.requires.graphs.0; copy_room = c.requires.copy_room }

pub tangent_field-requires : goal.tangent_field-requires
tangent_field-requires c = record { branch_room = c.requires.branch_room; graphs = c.requires.graphs; system_value = c.requires.system_value c.in-Tangent.is; copy_room = (c.requires.copy_room.0.0, c.requires.copy_room.1) }

pub weak_field-requires : goal.weak_field-requires
weak_field-requires c = record { branch_room = c.requires.branch_room; graphs = c.requires.graphs; copy_room = (c.requires.copy_room.0.0, c.requires.copy_room.1) }

pub returns-then-weight : goal.returns-then-weight
returns-then-weight c =
    by_weak c.args.b _ _ _ _ _ _ c.in-Weak.is c.if-weight.true c.weak_field.ensures

pub free_field-requires-in-Weak : goal.free_field-requires-in-Weak
free_field-requires-in-Weak c = record { branch_room = c.requires.branch_room.0; graphs = c.requires.graphs.0; copy_room = c.requires.copy_room }

pub returns-in-None : goal.returns-in-None
returns-in-None c =
    by-none c.args.b _ _ _ _ _ _ c.in-None.is c.free_field.ensures

pub returns-in-Tangent : goal.returns-in-Tangent
returns-in-Tangent c =
    by-tangent c.args.b _ _ _ _ _ _ c.in-Tangent.is c.tangent_field.ensures

pub returns-else-weight : goal.returns-else-weight
returns-else-weight c =
    by-idle c.args.b _ _ _ _ _ _ c.in-Weak.is c.if-weight.false c.free_field-in-Weak.ensures
