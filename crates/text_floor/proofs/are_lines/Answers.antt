-- `text_floor::are_lines` meets its contract: the lines passed are all right; the laws are in proofs/Lines. Assumes nothing.
use mathlib.Core.Path.{sym, ◌∙◌}
use Rattle.text_floor.proofs.Lines.{every-none, every-again, every-stops}
use Rattle.text_floor.proofs.are_lines.Goals as goal

pub loop-i-init : goal.loop-i-init
loop-i-init c = every-none _ _

pub returns-then-not-is_line : goal.returns-then-not-is_line
returns-then-not-is_line c =
    sym (every-stops _ c.args.from c.loop-i.i c.args.k c.loop-i-test.true (sym c.is_line.ensures ∙ c.if-not-is_line.true))

pub loop-i-preserved : goal.loop-i-preserved
loop-i-preserved c = every-again _ c.args.from c.loop-i.i c.loop-i.invariant (sym c.is_line.ensures ∙ c.if-not-is_line.false)
