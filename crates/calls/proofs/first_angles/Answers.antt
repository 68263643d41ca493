-- `calls::first_angles` meets its contract: each return opens the definition and rewrites it by the tests and the calls on its way.
use Rattle.calls.proofs.Checks.{from_zero}
use borrow.Author.Tests.{le-ltb, lt-ltb}
use Rattle.calls.proofs.first_angles.Goals as goal

pub returns-then-s-n : goal.returns-then-s-n
returns-then-s-n c = simp (lt-ltb _ _ c.if-s-n.true)

pub returns : goal.returns
returns c = simp (le-ltb _ _ c.if-s-n.false) (from_zero c.args.s.now c.args.n)
