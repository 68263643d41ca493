-- `replay_solves::row::same_outcome` meets its contract: what is called answers by its definition, and each test decides its arm.
use mathlib.Core.Path.{refl}
use Rattle.replay.proofs.Told.{told, untold, last}
use Rattle.replay_solves.proofs.row.same_outcome.Goals as goal

pub returns-then-quarter-ne0 : goal.returns-then-quarter-ne0
returns-then-quarter-ne0 c = rw c.in-Ok.is (untold _ c.if-quarter-ne0.true c.quarter.ensures refl)

pub returns-then-c-quarter : goal.returns-then-c-quarter
returns-then-c-quarter c = rw c.in-Ok.is (told c.if-quarter-ne0.false c.quarter.ensures refl (untold _ c.if-c-quarter.true refl c.quarter-in-Ok.ensures))

pub returns-else-c-quarter : goal.returns-else-c-quarter
returns-else-c-quarter c = rw c.in-Ok.is (told c.if-quarter-ne0.false c.quarter.ensures refl (told c.if-c-quarter.false refl c.quarter-in-Ok.ensures (last _ c.quarter-in-Ok-2.ensures)))

pub returns-in-Err : goal.returns-in-Err
returns-in-Err c = rw c.in-Err.is c.same_refusal.ensures
