-- `godf::solve_call::boundary_of` meets its contract: each return opens the definition and rewrites it by the tests and the calls on its way.
use Rattle.godf.specs.Solve.{boundary_of}
use Rattle.godf.proofs.solve_call.boundary_of.Goals as goal

pub returns-then-mode : goal.returns-then-mode
unfolding boundary_of
returns-then-mode c = rw c.if-mode.true

pub returns-then-mode-2 : goal.returns-then-mode-2
unfolding boundary_of
returns-then-mode-2 c = rw (c.if-mode.false, c.if-mode-2.true)

pub returns-then-mode-3 : goal.returns-then-mode-3
unfolding boundary_of
returns-then-mode-3 c = rw (c.if-mode.false, c.if-mode-2.false, c.if-mode-3.true)

pub returns : goal.returns
unfolding boundary_of
returns c = rw (c.if-mode.false, c.if-mode-2.false, c.if-mode-3.false)
