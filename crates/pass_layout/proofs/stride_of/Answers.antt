-- `pass_layout::stride_of` meets its contract: each return is the definition's branch by its test; the laws are in proofs/Regions.
use Rattle.pass_layout.proofs.Regions.{stride-none, stride-gap}
use Rattle.pass_layout.proofs.stride_of.Goals as goal

pub returns-then-n-lt-PAGE : goal.returns-then-n-lt-PAGE
returns-then-n-lt-PAGE c = stride-none _ c.if-n-lt-PAGE.true

pub returns : goal.returns
returns c = stride-gap _ c.if-n-lt-PAGE.false
