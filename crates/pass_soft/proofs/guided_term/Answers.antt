-- `pass_soft::guided_term` meets its contract: each return is one case; the laws are in proofs/Systems.
use native.Mathlib.Omega.{arith}
use Rattle.linear_cells.proofs.Loops.{apart}
use Rattle.pass_soft.proofs.Systems.{same-soft, guided-off, guided-added}
use borrow.Author.Rules.{rules}
use Rattle.pass_soft.proofs.guided_term.Goals as goal

pub returns-then-not-t : goal.returns-then-not-t
returns-then-not-t c = guided-off _ _ _ _ _ _ c.args.t c.if-not-t.true

pub guide-requires : goal.guide-requires
guide-requires c = omega (arith, apart)

pub add_term-requires : goal.add_term-requires
add_term-requires c = record { soft_room = same-soft (search rules) _ _ _ c.requires.soft_room.0; graph = c.requires.graph }

pub returns : goal.returns
returns c =
    guided-added _ _ _ _ _ _ c.args.t c.requires.soft_room.0 c.if-not-t.false c.guide.ensures c.add_term.ensures
