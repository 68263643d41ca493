-- `solve::solve` meets its contract: the laws of proofs/Whole, of what its calls ensure.
use borrow.Author.Rules.{rules}
use Rattle.solve.specs.Passes.{call_for, lent}
use mathlib.Core.Path.{sym, ◌∙◌}
use Rattle.solve.proofs.Whole.{ready_for, finish-room, ends-early, ends-late}
use Rattle.solve.proofs.solve.Goals as goal

pub returns-in_err-check_solve : goal.returns-in_err-check_solve
returns-in_err-check_solve c =
    ends-early
    (call_for c.args.points.now c.args.triangles.now c.args.sizes.now c.args.guidance.now c.args.o
    c.args.a)
    (lent c.args.coarse.now c.args.fine.now c.args.work.now c.args.words.now)
    c.check_solve.ensures _ c.in_err-check_solve.was (search rules)

pub passes-found-requires : goal.passes-found-requires
passes-found-requires c =
    ready_for
    (call_for c.args.points.now c.args.triangles.now c.args.sizes.now c.args.guidance.now c.args.o
    c.args.a)
    (lent c.args.coarse.now c.args.fine.now c.args.work.now c.args.words.now)
    (sym c.check_solve.ensures ∙ c.in_ok-check_solve.was)

pub finish-outcome-requires : goal.finish-outcome-requires
finish-outcome-requires c =
    finish-room
    (call_for c.args.points.now c.args.triangles.now c.args.sizes.now c.args.guidance.now c.args.o
    c.args.a)
    (lent c.args.coarse.now c.args.fine.now c.args.work.now c.args.words.now)
    (sym c.check_solve.ensures ∙ c.in_ok-check_solve.was) c.passes-found.ensures

pub returns : goal.returns
returns c =
    ends-late
    (call_for c.args.points.now c.args.triangles.now c.args.sizes.now c.args.guidance.now c.args.o
    c.args.a)
    (lent c.args.coarse.now c.args.fine.now c.args.work.now c.args.words.now)
    (sym c.check_solve.ensures ∙ c.in_ok-check_solve.was) c.passes-found.ensures c.finish-outcome.ensures
    (c.fill.ensures.after (λ y e. e)) (c.fill-2.ensures.after (λ y e. e))
