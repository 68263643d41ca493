-- `text_columns::scan_column` meets its contract: after i bytes the state is what the first i bytes show. Assumes nothing.
use native.Mathlib.Omega.{arith}
use mathlib.Core.Path.{sym, subst}
use Prim.Native.Nat.{◌<◌}
use Rattle.text_columns.specs.Columns.{size_of}
use Rattle.text_columns.specs.declared.Scan.{Scan}
use Rattle.text_columns.proofs.Columns.{few, scan-none, scan-again}
use Rattle.text_columns.proofs.scan_column.Goals as goal

pub loop-b-init : goal.loop-b-init
loop-b-init c = scan-none c.args.column.now

pub step_on-s-requires : goal.step_on-s-requires
step_on-s-requires c = subst (λ (s : Scan). size_of s < 1000000) (sym c.loop-b.invariant) (few c.args.column.now c.loop-b.b-index (omega arith))

pub loop-b-preserved : goal.loop-b-preserved
loop-b-preserved c = scan-again c.args.column.now c.loop-b.b-index c.loop-b.invariant c.step_on-s.ensures
