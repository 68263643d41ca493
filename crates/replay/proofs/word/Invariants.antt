use Rattle.replay.proofs.Spell.{Spelled}
use Rattle.replay.proofs.word.Given as goal

abbrev pub invariant-loop-i : goal.invariant-loop-i
invariant-loop-i l = Spelled l.text l.at l.value l.i
