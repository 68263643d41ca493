-- `floor::bad_corner` meets its contract: each return opens the definition and rewrites it by the tests and the calls on its way.
use borrow.Author.Tests.{le-leb, lt-leb}
use Rattle.floor.specs.Checks.{bad_corner}
use Rattle.floor.proofs.bad_corner.Goals as goal

pub returns-then-n-index : goal.returns-then-n-index
unfolding bad_corner
returns-then-n-index c = let e = c.corners-c.ensures in simp (rw (c.index.ensures, e) at (le-leb _ _ c.if-n-index.true))

pub returns-then-n-index-2 : goal.returns-then-n-index-2
unfolding bad_corner
returns-then-n-index-2 c = let e = c.corners-c.ensures in let t = le-leb _ _ c.if-n-index-2.true in simp (rw (c.index.ensures, e) at (lt-leb _ _ c.if-n-index.false), rw (c.index-2.ensures, e) at t) t

pub returns-else-n-index-2 : goal.returns-else-n-index-2
unfolding bad_corner
returns-else-n-index-2 c =
    let e = c.corners-c.ensures in simp (
      c.index-else-n-index-2.ensures,
      e,
      rw (c.index.ensures, e) at (lt-leb _ _ c.if-n-index.false),
      rw
          (c.index-2.ensures, e) at (lt-leb _ _ c.if-n-index-2.false),
    )
