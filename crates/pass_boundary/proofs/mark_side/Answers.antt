-- `pass_boundary::mark_side` meets its contract: each return follows from the test and the calls on its way; the laws are in proofs/Steps.
use native.Mathlib.Omega.{arith}
use mathlib.Core.Path.{sym, ◌∙◌}
use Rattle.pass_boundary.proofs.Steps.{marked-no, marked-yes}
use Rattle.pass_boundary.proofs.mark_side.Goals as goal

pub add_mark-requires : goal.add_mark-requires
add_mark-requires c =
    (c.requires.list_room.1, (omega (arith, c.index-i.ensures, c.requires.a_lt_points.0), c.requires.list_room.0.flags-in))

pub returns-then-is_boundary : goal.returns-then-is_boundary
returns-then-is_boundary c =
    marked-yes (sym c.is_boundary.ensures ∙ c.if-is_boundary.true) c.index-i.ensures c.index-j.ensures c.direction-z.ensures c.add_mark.ensures c.add_mark-then-is_boundary.ensures

pub returns : goal.returns
returns c = marked-no (sym c.is_boundary.ensures ∙ c.if-is_boundary.false)
