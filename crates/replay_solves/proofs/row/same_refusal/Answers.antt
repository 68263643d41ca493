-- `replay_solves::row::same_refusal` meets its contract: what is called answers by its definition, and each test decides its arm.
use mathlib.Core.Path.{refl}
use Rattle.replay.proofs.Told.{told, untold, last}
use Rattle.replay_solves.proofs.row.same_refusal.Goals as goal

pub returns-then-r-quarter : goal.returns-then-r-quarter
returns-then-r-quarter c = untold _ c.if-r-quarter.true refl c.quarter.ensures

pub returns-then-r-quarter-2 : goal.returns-then-r-quarter-2
returns-then-r-quarter-2 c = told c.if-r-quarter.false refl c.quarter.ensures (untold _ c.if-r-quarter-2.true refl c.quarter-2.ensures)

pub returns-then-r-quarter-3 : goal.returns-then-r-quarter-3
returns-then-r-quarter-3 c =
    told c.if-r-quarter.false refl c.quarter.ensures (told c.if-r-quarter-2.false refl c.quarter-2.ensures (untold _ c.if-r-quarter-3.true refl c.quarter-3.ensures))

pub returns-then-r-quarter-4 : goal.returns-then-r-quarter-4
returns-then-r-quarter-4 c =
    told c.if-r-quarter.false refl c.quarter.ensures
    (told c.if-r-quarter-2.false refl c.quarter-2.ensures
    (told c.if-r-quarter-3.false refl c.quarter-3.ensures
    (untold _ c.if-r-quarter-4.true refl c.quarter-4.ensures)))

pub returns : goal.returns
returns c =
    told c.if-r-quarter.false refl c.quarter.ensures
    (told c.if-r-quarter-2.false refl c.quarter-2.ensures
    (told c.if-r-quarter-3.false refl c.quarter-3.ensures
    (told c.if-r-quarter-4.false refl c.quarter-4.ensures (last _ c.quarter-5.ensures))))
