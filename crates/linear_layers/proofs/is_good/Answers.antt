-- `linear_layers::is_good` meets its contract: each return opens the definition and rewrites it by the tests and the calls on its way; the laws are in proofs/Tests.
use native.Mathlib.Omega.{arith}
use Rattle.linear_layers.proofs.Tests.{good-short, good-edges}
use Rattle.linear_layers.proofs.is_good.Goals as goal

pub returns-then-work-n : goal.returns-then-work-n
returns-then-work-n c = good-short _ _ _ _ (omega (arith, c.if-work-n.true))

pub returns-then-work-from : goal.returns-then-work-from
returns-then-work-from c = good-short _ _ _ _ (omega (arith, c.if-work-from.true))

pub returns-then-work-n-2 : goal.returns-then-work-n-2
returns-then-work-n-2 c = good-short _ _ _ _ c.if-work-n-2.true

pub returns : goal.returns
returns c = good-edges _ _ _ _ c.if-work-n-2.false c.are_edges.ensures
