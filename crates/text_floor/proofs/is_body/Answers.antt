-- `text_floor::is_body` meets its contract: each return is `is_text` by the tests on its way. Assumes nothing.
use borrow.Author.Tests.{eq-eqb, ne_eqb}
use Rattle.text_floor.specs.Text.{is_text, is_line, is_corners}
use Rattle.text_floor.proofs.is_body.Goals as goal

pub returns-then-text-n : goal.returns-then-text-n
unfolding is_text is_line is_corners
returns-then-text-n c = simp (c.requires.n_value.1.1, ← c.requires.n_value.0, ← c.requires.n_value.1.0, ne_eqb _ _ c.if-text-n.true)

pub returns-then-not-are_lines : goal.returns-then-not-are_lines
unfolding is_text is_line is_corners
returns-then-not-are_lines c =
    simp (c.requires.n_value.1.1, ← c.requires.n_value.0, ← c.requires.n_value.1.0, eq-eqb _ _ c.if-text-n.false, ← c.are_lines.ensures, c.if-not-are_lines.true)

pub returns : goal.returns
unfolding is_text is_line is_corners
returns c =
    simp (c.requires.n_value.1.1, ← c.requires.n_value.0, ← c.requires.n_value.1.0, eq-eqb _ _ c.if-text-n.false, ← c.are_lines.ensures, c.if-not-are_lines.false) c.are_lines-2.ensures
