-- `pass_boundary::is_inner` meets its contract: the counts at a triangle's numbers are those of its sides, in some order; the laws are in proofs/Steps.
use native.Mathlib.Omega.{arith}
use mathlib.Core.Path.{◌∙◌, sym}
use borrow.Author.Tests.{eq-eqb, ne_eqb}
use Rattle.pass_boundary.proofs.Steps.{inner-at, counts-there}
use Rattle.pass_boundary.proofs.is_inner.Goals as goal

pub bounds-u-l : goal.bounds-u-l
bounds-u-l c = let h = c.requires in let e = rw c.corners-c.ensures at c.index.ensures in omega (arith, e, (counts-there h.0 h.1.0 _ h.1.1.1).0)

pub returns-then-u-l-eq1 : goal.returns-then-u-l-eq1
returns-then-u-l-eq1 c =
    let h = c.requires in let x = rw (c.index.ensures, c.corners-c.ensures) at c.if-u-l-eq1.true in sym (inner-at h.1.0 h.1.1.0 _ h.1.1.1 ∙ rw (eq-eqb _ 1 x))

pub bounds-u-l-2 : goal.bounds-u-l-2
bounds-u-l-2 c =
    let h = c.requires in let e = rw c.corners-c.ensures at c.index-2.ensures in omega (arith, e, (counts-there h.0 h.1.0 _ h.1.1.1).1.0)

pub returns-then-u-l-eq1-2 : goal.returns-then-u-l-eq1-2
returns-then-u-l-eq1-2 c =
    let h = c.requires in let x = rw (c.index.ensures, c.corners-c.ensures) at c.if-u-l-eq1.false in let y =
    rw (c.index-2.ensures, c.corners-c.ensures) at c.if-u-l-eq1-2.true in sym
    (inner-at h.1.0 h.1.1.0 _ h.1.1.1 ∙ rw (ne_eqb _ 1 x, eq-eqb _ 1 y))

pub bounds-u-l-3 : goal.bounds-u-l-3
bounds-u-l-3 c =
    let h = c.requires in let e = rw c.corners-c.ensures at c.index-3.ensures in omega (arith, e, (counts-there h.0 h.1.0 _ h.1.1.1).1.1)

pub returns : goal.returns
returns c =
    let h = c.requires in let x = rw (c.index.ensures, c.corners-c.ensures) at c.if-u-l-eq1.false in let y = rw
    (c.index-2.ensures, c.corners-c.ensures) at c.if-u-l-eq1-2.false in
    let z = rw c.corners-c.ensures at c.index-3.ensures in sym
    (inner-at h.1.0 h.1.1.0 _ h.1.1.1 ∙ rw (ne_eqb _ 1 x, ne_eqb _ 1 y, z))
