-- `pass_field::angle_at` meets its contract: the definition by what its calls ensure.
use Rattle.pass_field.proofs.angle_at.Goals as goal

pub returns : goal.returns
returns c = cc
