-- `replay_solves::row::same_work` meets its contract: what is called answers by its definition, and each test decides its arm.
use lib.Dec.{eqb}
use Rattle.replay.specs.Rows.{marks, word_marks, same_as}
use Rattle.replay.proofs.Told.{held, unheld, compared}
use Rattle.replay_solves.specs.Solve.{same_work}
use Rattle.replay_solves.proofs.Asked.{wiped-as}
use Rattle.replay_solves.proofs.row.same_work.Goals as goal

pub returns-then-same_doubles : goal.returns-then-same_doubles
unfolding same_work
returns-then-same_doubles c =
    held c.if-same_doubles.true
    (compared same_as _ (wiped-as _ (marks 4640) c.wiped.ensures.0 c.wipe.ensures)
    c.same_doubles.ensures)
    (compared eqb _
    (wiped-as _ (word_marks 2336) c.wiped-2.ensures.0 c.wipe_u32.ensures)
    c.same_numbers.ensures)

pub returns : goal.returns
unfolding same_work
returns c =
    unheld _ c.if-same_doubles.false (compared same_as _ (wiped-as _ (marks 4640) c.wiped.ensures.0 c.wipe.ensures) c.same_doubles.ensures)
