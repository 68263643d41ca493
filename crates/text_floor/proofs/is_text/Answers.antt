-- `text_floor::is_text` meets its contract: fewer bytes than a line are no text, and neither is one whose line 0 is wrong. Assumes nothing.
use native.Mathlib.Omega.{arith}
use mathlib.Core.Path.{sym, ◌∙◌}
use Rattle.text_floor.proofs.Lines.{head_small, short-text, no-head}
use Rattle.text_floor.proofs.is_text.Goals as goal

pub returns-then-text-lt19 : goal.returns-then-text-lt19
returns-then-text-lt19 c = short-text _ c.if-text-lt19.true

pub returns-then-not-is_head : goal.returns-then-not-is_head
returns-then-not-is_head c = no-head _ (sym c.is_head.ensures ∙ c.if-not-is_head.true)

pub is_body-requires : goal.is_body-requires
is_body-requires c =
    let h = sym c.is_head.ensures ∙ c.if-not-is_head.false in let k = head_small _ h in record { n_bound = (omega (arith, k.0, c.size_at-n.ensures), omega (arith, k.1, c.size_at-t.ensures)); n_value = (c.size_at-n.ensures, (c.size_at-t.ensures, h)) }

pub returns : goal.returns
returns c = c.is_body.ensures
