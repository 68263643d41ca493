-- `arctangent::upright_of` meets its contract: the arms of `upright`. Assumes nothing.
use Rattle.arctangent.proofs.Arms.{arms}
use Rattle.arctangent.proofs.upright_of.Goals as goal

pub returns-then-is_sign_positive : goal.returns-then-is_sign_positive
returns-then-is_sign_positive c = search arms

pub returns : goal.returns
returns c = search arms
