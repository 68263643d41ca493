-- `pass_assembly::directed_to` meets its contract: each return opens the definition and rewrites it by the tests and the calls on its way.
use mathlib.Core.Path.{◌∙◌}
use borrow.Author.Tests.{lt-ltb, le-ltb}
use Rattle.pass_assembly.specs.Assembly.{toward_upper}
use Rattle.pass_assembly.proofs.directed_to.Goals as goal

pub returns-then-i-j : goal.returns-then-i-j
unfolding toward_upper
returns-then-i-j c = rw (lt-ltb _ _ c.if-i-j.true)

pub returns : goal.returns
unfolding toward_upper
returns c = c.conj.ensures ∙ rw (le-ltb _ _ c.if-i-j.false)
