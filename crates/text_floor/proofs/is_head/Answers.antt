-- `text_floor::is_head` meets its contract: each return is what the tests on its way say. Assumes nothing.
use borrow.Author.Tests.{lt-leb}
use Rattle.text_floor.specs.Text.{is_head, is_line}
use Rattle.text_floor.proofs.Lines.{tests}
use Rattle.text_floor.proofs.is_head.Goals as goal

pub returns-then-not-is_line : goal.returns-then-not-is_line
unfolding is_head is_line
returns-then-not-is_line c = search tests

pub returns-then-not-fits_at : goal.returns-then-not-fits_at
unfolding is_head is_line
returns-then-not-fits_at c = search tests

pub returns-then-not-fits_at-2 : goal.returns-then-not-fits_at-2
unfolding is_head is_line
returns-then-not-fits_at-2 c = search tests

pub returns-then-size_at-le256 : goal.returns-then-size_at-le256
unfolding is_head is_line
returns-then-size_at-le256 c = search tests depth 8 fits 3000

pub returns-else-size_at-le256 : goal.returns-else-size_at-le256
unfolding is_head is_line
returns-else-size_at-le256 c = simp (← c.size_at.ensures, lt-leb _ _ c.if-size_at-le256.false) (search tests depth 8 fits 3000)
