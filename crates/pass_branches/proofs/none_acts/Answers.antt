-- `pass_branches::none_acts` meets its contract: each return is one case of proofs/Modes.
use Rattle.pass_branches.proofs.Modes.{aligned-acts, guided-acts, neither-acts}
use Rattle.pass_branches.proofs.none_acts.Goals as goal

pub returns-then-t : goal.returns-then-t
returns-then-t c = aligned-acts c.args.t c.if-t.true

pub returns-then-t-2 : goal.returns-then-t-2
returns-then-t-2 c = guided-acts c.args.t c.if-t.false c.if-t-2.true

pub returns : goal.returns
returns c = neither-acts c.args.t c.if-t.false c.if-t-2.false
