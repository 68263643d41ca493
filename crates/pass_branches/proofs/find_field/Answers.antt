-- `pass_branches::find_field` meets its contract: each return is one case of proofs/Held.
use mathlib.Core.Path.{sym, ◌∙◌}
use Rattle.pass_branches.proofs.Held.{idle-bounds, idle-finds}
use Rattle.pass_branches.proofs.find_field.Goals as goal

pub held_field-requires : goal.held_field-requires
held_field-requires c = record { ordered = c.requires.ordered; edged = (c.requires.edged, sym c.acts_on.ensures ∙ c.if-acts_on.true) }

pub packed_field-requires : goal.packed_field-requires
packed_field-requires c = record { ordered = c.requires.ordered; edged = (c.requires.edged, λ t. absurd (idle-bounds c.args.o c.acts_on.ensures c.if-acts_on.false t)) }

pub returns : goal.returns
returns c =
    idle-finds c.args.l _ c.args.o c.args.s _ _ c.requires.ordered c.acts_on.ensures c.if-acts_on.false c.packed_field.ensures
