-- `pass_assembly::shift::traces_of` meets its contract: the definition, opened, by what its calls ensure.
use Rattle.pass_assembly.specs.Shift.{traces_of}
use Rattle.pass_assembly.proofs.shift.traces_of.Goals as goal

pub returns : goal.returns
unfolding traces_of
returns c = cc
