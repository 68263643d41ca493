-- `godf::refine::put` meets its contract: each return opens the definition and rewrites it by the tests and the calls on its way.
use mathlib.Core.Path.{sym}
use lib.Seq.{set_out}
use Rattle.godf.proofs.refine.put.Goals as goal

pub returns-else-i-report : goal.returns-else-i-report
returns-else-i-report c = sym (set_out c.args.report.now c.args.i c.args.x c.if-i-report.false)
