-- `text_answer::answer` meets its contract: a slice that is too short stays, and any other has room; the laws are in proofs/Whole. Assumes nothing.
use Rattle.text_answer.proofs.Whole.{answer-short, answer-long}
use Rattle.text_answer.proofs.answer.Goals as goal

pub returns-then-out-lt-LONGEST : goal.returns-then-out-lt-LONGEST
returns-then-out-lt-LONGEST c = answer-short c.args.text.now c.args.out.now c.if-out-lt-LONGEST.true

pub returns : goal.returns
returns c =
    answer-long c.args.text.now c.args.out.now c.if-out-lt-LONGEST.false c.answer_text.ensures
