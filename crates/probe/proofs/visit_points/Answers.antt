-- `probe::visit_points` meets its contract: each return opens the definition and rewrites it by the tests and the calls on its way.
use borrow.Author.Tests.{lt-ltb, le-ltb}
use Rattle.probe.specs.Probe.{visit_of}
use Rattle.probe.proofs.visit_points.Goals as goal
use Rattle.probe.proofs.visit_points.Goals.{else-i-alpha-via-then-i-alpha+then-j-alpha+else-k-alpha, else-i-alpha-via-then-i-alpha+else-j-alpha, else-i-alpha-via-else-i-alpha}

pub returns-then-k-alpha : goal.returns-then-k-alpha
unfolding visit_of
returns-then-k-alpha c =
    simp (
      lt-ltb _ _ c.if-i-alpha.true,
      lt-ltb _ _ c.if-j-alpha.true,
      lt-ltb _ _ c.if-k-alpha.true,
      c.visit_corners.ensures,
      c.position.ensures,
      c.position-then-k-alpha.ensures,
      c.position-then-k-alpha-2.ensures,
    )

pub returns : goal.returns
unfolding visit_of
returns c =
    elim c.else-i-alpha.branch [
      | else-i-alpha-via-then-i-alpha+then-j-alpha+else-k-alpha w ↦
          simp (lt-ltb _ _ w.if-i-alpha.true, lt-ltb _ _ w.if-j-alpha.true, le-ltb _ _ w.if-k-alpha.false)
      | else-i-alpha-via-then-i-alpha+else-j-alpha w ↦ simp (lt-ltb _ _ w.if-i-alpha.true, le-ltb _ _ w.if-j-alpha.false)
      | else-i-alpha-via-else-i-alpha w ↦ simp (le-ltb _ _ w.if-i-alpha.false)
    ]
