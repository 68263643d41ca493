-- `pass_inverse_iteration::judge` meets its contract: each return is one case of the judgement; the laws are in proofs/Judgements.
use mathlib.Core.Path.{refl, ap}
use mathlib.Core.Bool.{not}
use Rattle.pass_inverse_iteration.proofs.Judgements.{same-vectors, judge-denominator, judge-estimate, judge-ended}
use borrow.Author.Rules.{rules}
use Rattle.std.specs.Prelude.{Err}
use Rattle.pass_inverse_iteration.proofs.judge.Goals as goal

pub rayleigh-q-requires : goal.rayleigh-q-requires
rayleigh-q-requires c = record { pencil_room = c.requires.pencil_room; graphs = c.requires.graphs }

pub returns-then-not_positive : goal.returns-then-not_positive
returns-then-not_positive c =
    judge-denominator _ _ _ _ _ c.requires.pencil_room c.rayleigh-q.ensures c.not_positive.ensures c.if-not_positive.true (ap Err c.gave_up.ensures)

pub returns-then-not-is_finite : goal.returns-then-not-is_finite
returns-then-not-is_finite c =
    judge-estimate _ _ _ _ _ c.requires.pencil_room c.rayleigh-q.ensures c.not_positive.ensures c.if-not_positive.false c.is_finite.ensures (ap not c.if-not-is_finite.true) (ap Err c.gave_up-then-not-is_finite.ensures)

pub relative-requires : goal.relative-requires
relative-requires c =
    same-vectors (search rules) _ _ c.requires.pencil_room.energy-room.vector-room

pub returns : goal.returns
returns c =
    judge-ended _ _ _ _ _ c.requires.pencil_room c.rayleigh-q.ensures c.not_positive.ensures c.if-not_positive.false
    c.is_finite.ensures (ap not c.if-not-is_finite.false)
    c.relative.ensures _ refl
