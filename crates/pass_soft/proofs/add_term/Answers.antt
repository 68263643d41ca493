-- `pass_soft::add_term` meets its contract: the calls in order; the laws are in proofs/Systems.
use mathlib.Core.Bool.{not}
use mathlib.Core.Path.{ap}
use native.Mathlib.Omega.{arith}
use Rattle.linear_cells.proofs.Loops.{apart}
use Rattle.pass_soft.proofs.Systems.{same-shift, term-off, term-added}
use borrow.Author.Rules.{rules}
use Rattle.pass_soft.proofs.add_term.Goals as goal

pub returns-then-not-weight : goal.returns-then-not-weight
returns-then-not-weight c = term-off _ _ _ _ _ _ _ c.requires.soft_room (ap not c.if-not-weight.true)

pub apply-requires : goal.apply-requires
apply-requires c = record { apply_room = omega (arith, apart); graph = c.requires.graph }

pub advance-requires : goal.advance-requires
advance-requires c = omega (arith, apart)

pub shifted-requires : goal.shifted-requires
shifted-requires c =
    same-shift (search rules) _ _ c.requires.soft_room.shift-room

pub returns : goal.returns
returns c =
    term-added _ _ _ _ _ _ _ c.requires.soft_room (ap not c.if-not-weight.false) c.apply.ensures c.advance.ensures c.shifted.ensures
