-- `edges::walk` meets its contract: the loop keeps a `Walk` to the side, and goes on to later sides only; the laws are in proofs/Tree.
use native.Mathlib.Omega.{arith}
use mathlib.Core.Path.{refl, sym, ◌∙◌}
use Rattle.edges.proofs.Tree.{going_start, going_on, going-in, going-found, going-none}
use Rattle.edges.proofs.walk.Goals as goal

pub bounds-w-k : goal.bounds-w-k
bounds-w-k c = omega (arith, going-in c.loop-at.invariant.1 c.in-Some.is)

pub bounds-w-k-in-Some : goal.bounds-w-k-in-Some
bounds-w-k-in-Some c = omega (arith, going-in c.loop-at.invariant.1 c.in-Some.is)

pub bounds-w-position-in-Some : goal.bounds-w-position-in-Some
bounds-w-position-in-Some c = omega (arith, going-in c.loop-at.invariant.1 c.in-Some.is)

pub loop-at-init : goal.loop-at-init
loop-at-init c = (c.requires, going_start c.requires.trees c.requires.numbered c.slot.ensures refl c.path-rest.ensures c.held-at.ensures)

pub returns-then-same_side : goal.returns-then-same_side
returns-then-same_side c = going-found c.loop-at.invariant.1 c.in-Some.is (sym c.same_side.ensures ∙ c.if-same_side.true)

pub loop-at-smaller : goal.loop-at-smaller
loop-at-smaller c = (going_on c.loop-at.invariant.1 c.in-Some.is (sym c.same_side.ensures ∙ c.if-same_side.false) c.held-at-in-Some.ensures).1

pub loop-at-preserved : goal.loop-at-preserved
loop-at-preserved c =
    (c.loop-at.invariant.0, (going_on c.loop-at.invariant.1 c.in-Some.is (sym c.same_side.ensures ∙ c.if-same_side.false) c.held-at-in-Some.ensures).0)

pub returns : goal.returns
returns c = going-none c.loop-at.invariant.1 c.in_default.is
