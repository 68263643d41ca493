-- `probe::search` meets its contract: the loop keeps what `Inv-loop` says; the laws are in proofs/Kept.
use mathlib.Core.Path.{sym, ap, ◌∙◌}
use Rattle.std.specs.Prelude.{Ok, Err}
use Rattle.std.proofs.lemmas.Result.{err_from_is_err_and}
use Rattle.probe.specs.Probe.{visit_at}
use Rattle.probe.proofs.Kept.{found-more, found-failed, found_here, found-done}
use Rattle.probe.proofs.search.Goals as goal

pub returns-in_err-angle : goal.returns-in_err-angle
returns-in_err-angle c =
    let p = err_from_is_err_and c.from_residual.result c.from_residual.ensures.1 in
    p.1 ∙ ap Err p.2
    ∙ found-failed (visit_at c.args.alpha.now c.args.points.now c.args.tris.now c.args.at) c.args.triangles
    c.loop-t.t _ c.loop-t-test.true c.loop-t.invariant (sym c.in_err-angle.ensures)

pub returns-in-Some : goal.returns-in-Some
returns-in-Some c =
    found_here (visit_at c.args.alpha.now c.args.points.now c.args.tris.now c.args.at) c.args.triangles
    c.loop-t.t _ c.loop-t-test.true c.loop-t.invariant (sym c.in_ok-angle.ensures ∙ ap Ok c.in-Some.is)

pub loop-t-preserved : goal.loop-t-preserved
loop-t-preserved c =
    found-more (visit_at c.args.alpha.now c.args.points.now c.args.tris.now c.args.at)
    c.args.triangles c.loop-t.t c.loop-t-test.true c.loop-t.invariant (sym c.in_ok-angle.ensures ∙ ap Ok c.in_default.is)

pub returns : goal.returns
returns c =
    found-done (visit_at c.args.alpha.now c.args.points.now c.args.tris.now c.args.at) c.args.triangles c.loop-t.t c.loop-t-test.false c.loop-t.invariant
