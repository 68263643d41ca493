-- `calls::is_short` meets its contract: each return opens the definition and rewrites it by the tests and the calls on its way; the laws are in proofs/Checks.
use Rattle.calls.proofs.Checks.{short-of, and_left, and_right, only-last}
use borrow.Author.Tests.{le-ltb, lt-ltb}
use Rattle.calls.proofs.is_short.Goals as goal

pub returns-then-l-n : goal.returns-then-l-n
returns-then-l-n c = short-of _ _ _ _ _ _ _ c.most_points-p.ensures.0 c.most_triangles-q.ensures.0 (simp (lt-ltb _ _ c.if-l-n.true))

pub returns-then-l-p : goal.returns-then-l-p
returns-then-l-p c =
    short-of _ _ _ _ _ _ _ c.most_points-p.ensures.0
    c.most_triangles-q.ensures.0
    (simp (le-ltb _ _ c.if-l-n.false, c.if-adaptive.true, lt-ltb _ _ c.if-l-p.true))

pub returns-then-l-p-2 : goal.returns-then-l-p-2
returns-then-l-p-2 c =
    short-of _ _ _ _ _ _ _ c.most_points-p.ensures.0 c.most_triangles-q.ensures.0 (simp (le-ltb _ _ c.if-l-n.false, c.if-adaptive.true, le-ltb _ _ c.if-l-p.false, lt-ltb _ _ c.if-l-p-2.true))

pub returns-then-adaptive : goal.returns-then-adaptive
returns-then-adaptive c =
    short-of _ _ _ _ _ _ _ c.most_points-p.ensures.0 c.most_triangles-q.ensures.0
    (only-last _ _ _ _ (le-ltb _ _ c.if-l-n.false)
    (and_right c.args.adaptive _ (le-ltb _ _ c.if-l-p.false)) (le-ltb _ _ c.if-l-p-2.false))

pub returns-then-l-p-3 : goal.returns-then-l-p-3
returns-then-l-p-3 c =
    short-of _ _ _ _ _ _ _ c.most_points-p.ensures.0
    c.most_triangles-q.ensures.0
    (simp (le-ltb _ _ c.if-l-n.false, c.if-adaptive.false, lt-ltb _ _ c.if-l-p-3.true))

pub returns : goal.returns
returns c =
    short-of _ _ _ _ _ _ _ c.most_points-p.ensures.0 c.most_triangles-q.ensures.0
    (only-last _ _ _ _ (le-ltb _ _ c.if-l-n.false) (and_left _ _ c.if-adaptive.false)
    (le-ltb _ _ c.if-l-p-3.false))
