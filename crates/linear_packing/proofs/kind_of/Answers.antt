-- `linear_packing::kind_of` meets its contract: each return rewrites the definition by the tests on its way.
use native.Mathlib.Omega.{arith}
use borrow.Author.Tests.{lt-ltb, le-ltb}
use Rattle.linear_packing.specs.Slots.{kind_of}
use Rattle.linear_packing.proofs.kind_of.Goals as goal

pub returns-then-q-p : goal.returns-then-q-p
unfolding kind_of
returns-then-q-p c = rw (lt-ltb c.args.q c.args.p c.if-q-p.true)

pub returns-then-p-q : goal.returns-then-p-q
unfolding kind_of
returns-then-p-q c =
    rw (le-ltb c.args.q c.args.p (omega (arith, c.if-q-p.false)), lt-ltb c.args.p c.args.q c.if-p-q.true)

pub returns-then-adjacent : goal.returns-then-adjacent
unfolding kind_of
returns-then-adjacent c =
    rw (le-ltb c.args.q c.args.p (omega (arith, c.if-q-p.false)), le-ltb c.args.p c.args.q (omega (arith, c.if-p-q.false)), c.if-adjacent.true)

pub returns : goal.returns
unfolding kind_of
returns c =
    rw (le-ltb c.args.q c.args.p (omega (arith, c.if-q-p.false)), le-ltb c.args.p c.args.q (omega (arith, c.if-p-q.false)), c.if-adjacent.false)
