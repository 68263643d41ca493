-- `arctangent::atan` meets its contract: the arms of `atan_of`. Assumes nothing.
use Rattle.arctangent.proofs.Arms.{arms, of_two}
use mathlib.Core.Path.{ap}
use lib.Ieee.{neg}
use Rattle.arctangent.specs.Arc.{atan_of, atan_size}
use Rattle.arctangent.proofs.atan.Goals as goal

pub returns-then-is_nan : goal.returns-then-is_nan
unfolding atan_of
returns-then-is_nan c = search arms

pub returns-then-is_sign_positive : goal.returns-then-is_sign_positive
unfolding atan_of
returns-then-is_sign_positive c = search arms

pub returns-then-ix-ge1141899264 : goal.returns-then-ix-ge1141899264
unfolding atan_of
returns-then-ix-ge1141899264 c = search arms

pub returns-then-ix-lt1042284544 : goal.returns-then-ix-lt1042284544
unfolding atan_of
returns-then-ix-lt1042284544 c = search arms

pub returns-then-ix-lt1071382528 : goal.returns-then-ix-lt1071382528
unfolding atan_of
returns-then-ix-lt1071382528 c = rw c.atan_tail.ensures (search arms)

pub returns-then-is_sign_positive-2 : goal.returns-then-is_sign_positive-2
unfolding atan_of
returns-then-is_sign_positive-2 c = search (of_two atan_size, arms)

pub returns : goal.returns
unfolding atan_of
returns c = search (ap neg, of_two atan_size, arms)
