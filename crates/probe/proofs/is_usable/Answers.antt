-- `probe::is_usable` meets its contract: `usable` by the denominator's sign; the laws are in proofs/Usable.
use Rattle.probe.proofs.Usable.{usable-above, usable-below, usable-none}
use Rattle.probe.proofs.is_usable.Goals as goal

pub returns-then-denominator : goal.returns-then-denominator
returns-then-denominator c = usable-above c.args.denominator c.if-denominator.true

pub returns-then-denominator-2 : goal.returns-then-denominator-2
returns-then-denominator-2 c = usable-below c.args.denominator c.if-denominator-2.true

pub returns : goal.returns
returns c = usable-none c.args.denominator c.if-denominator.false c.if-denominator-2.false
