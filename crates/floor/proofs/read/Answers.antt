-- `floor::read` meets its contract: each return opens the definition and rewrites it by the tests and the calls on its way.
use mathlib.Core.Path.{sym}
use lib.ListN.{get_or-eq_default}
use lib.Ieee.{div, nan, of_bits}
use Rattle.floor.proofs.read.Goals as goal

pub returns : goal.returns
unfolding div of_bits
returns c = sym (get_or-eq_default c.args.s.now nan c.if-i-s.false)
