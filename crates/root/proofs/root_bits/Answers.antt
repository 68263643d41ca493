-- `root::root_bits` meets its contract: the two kinds of pattern that `significand` and `exponent_of` tell apart. Assumes nothing.
use Rattle.root.proofs.Small.{normal-bits}
use Rattle.std.proofs.Common.{sym, ◌∙◌}
use Rattle.root.proofs.root_bits.Goals as goal

pub returns : goal.returns
returns c = c.root_at.ensures ∙ sym (normal-bits c.args.b c.if-b-lt4503599627370496.false)
