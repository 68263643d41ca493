-- `pass_branches::held_field` meets its contract: row 23, or the field with the flags and targets of the floor; the laws are in proofs/Held.
use mathlib.Core.Path.{ap}
use Rattle.std.specs.Prelude.{Err}
use Rattle.pass_branches.proofs.Held.{boundary-room, bounds, still-ordered, still-edged, held-refused, held-finds}
use Rattle.pass_branches.proofs.held_field.Goals as goal

pub boundary_targets-sides-requires : goal.boundary_targets-sides-requires
boundary_targets-sides-requires c = record { list_room = boundary-room c.args.l _ c.requires.ordered c.requires.edged.0.few; sided = (c.requires.edged.0.sided, c.requires.edged.0.numbers) }

pub returns-then-sides-eq0 : goal.returns-then-sides-eq0
returns-then-sides-eq0 c =
    held-refused c.args.l _ _ _ c.requires.ordered c.requires.edged.0 c.boundary_targets-sides.ensures c.args.o c.args.s
    c.requires.edged.1 c.if-sides-eq0.true (ap Err c.refused.ensures)

pub packed_field-requires : goal.packed_field-requires
packed_field-requires c = record {
  ordered = still-ordered c.args.l _ _ _ c.requires.ordered c.requires.edged.0 c.boundary_targets-sides.ensures;
  edged = (
    still-edged c.args.l _ _ _ c.requires.ordered c.requires.edged.0 c.boundary_targets-sides.ensures,
    λ t. bounds c.args.l _ _ _ c.requires.ordered c.requires.edged.0
        c.boundary_targets-sides.ensures,
  );
}

pub returns : goal.returns
returns c =
    held-finds c.args.l _ _ _ c.requires.ordered c.requires.edged.0 c.boundary_targets-sides.ensures c.args.o c.args.s c.requires.edged.1 c.if-sides-eq0.false
    c.packed_field.ensures
