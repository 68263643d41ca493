-- `edges::two_slices::walk` meets its contract: the loop keeps a `Walk` to the side, and goes on to later sides only; the laws are in proofs/Tree.
use native.Mathlib.Omega.{arith}
use mathlib.Core.Path.{refl, sym, ◌∙◌}
use Rattle.edges.proofs.Tree.{going_start, going_on, going-in, going-found, going-none}
use Rattle.edges.proofs.two_slices.walk.Goals as goal

pub bounds-ends-k : goal.bounds-ends-k
bounds-ends-k c = omega (arith, going-in c.loop-at.invariant.1 c.in-Some.is)

pub bounds-ends-k-in-Some : goal.bounds-ends-k-in-Some
bounds-ends-k-in-Some c = omega (arith, going-in c.loop-at.invariant.1 c.in-Some.is)

pub bounds-links-position-in-Some : goal.bounds-links-position-in-Some
bounds-links-position-in-Some c = omega (arith, going-in c.loop-at.invariant.1 c.in-Some.is)

pub loop-at-init : goal.loop-at-init
loop-at-init c = (c.requires, going_start c.requires.trees c.requires.numbered c.slot.ensures refl c.path-rest.ensures c.held-at.ensures)

pub returns-then-same_side : goal.returns-then-same_side
returns-then-same_side c = going-found c.loop-at.invariant.1 c.in-Some.is (sym c.same_side.ensures ∙ c.if-same_side.true)

pub loop-at-smaller : goal.loop-at-smaller
loop-at-smaller c = (going_on c.loop-at.invariant.1 c.in-Some.is (sym c.same_side.ensures ∙ c.if-same_side.false) c.held-at-in-Some.ensures).1

pub loop-at-preserved : goal.loop-at-preserved
loop-at-preserved c =
    (c.loop-at.invariant.0, (going_on c.loop-at.invariant.1 c.in-Some.is (sym c.same_side.ensures ∙ c.if-same_side.false) c.held-at-in-Some.ensures).0)

pub returns : goal.returns
returns c = going-none c.loop-at.invariant.1 c.in_default.is
