-- `pass_field::angles_from` meets its contract: its two returns; the laws are in proofs/Angles.
use Rattle.pass_field.proofs.Angles.{from-endless, from-angles}
use Rattle.pass_field.proofs.angles_from.Goals as goal

pub returns-then-not-all_finite : goal.returns-then-not-all_finite
returns-then-not-all_finite c = search from-endless

pub returns : goal.returns
returns c = search from-angles
