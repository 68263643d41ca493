-- `pass_field::all_finite` meets its contract: the loop keeps what `Inv-loop` says, and what is left to do falls at each iteration; the laws are in proofs/Angles.
use Rattle.pass_field.proofs.Angles.{finite-none, finite-again, finite-found, finite-done}
use borrow.Author.Rules.{rules}
use Rattle.pass_field.proofs.all_finite.Goals as goal

pub loop-i-init : goal.loop-i-init
loop-i-init c = (search rules, finite-none _ _ _)

pub returns-then-not-is_finite : goal.returns-then-not-is_finite
returns-then-not-is_finite c = search finite-found

pub loop-i-preserved : goal.loop-i-preserved
loop-i-preserved c = (search rules, search finite-again)

pub returns : goal.returns
returns c = search finite-done
