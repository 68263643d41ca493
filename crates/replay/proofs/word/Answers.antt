-- `replay::word` meets its contract: after i iterations the value is what the first i digits spell, and a word past the end spells 0. Assumes nothing.
use Rattle.std.proofs.Common.{◌*◌, ◌≤◌, length, arith}
use Rattle.replay.specs.Words.{word_at}
use Rattle.replay.proofs.Spell.{none, fits, more, whole, past}
use Rattle.replay.proofs.word.Goals as goal

pub returns-then-k-text : goal.returns-then-k-text
unfolding word_at
returns-then-k-text c = let h : length c.args.text.now ≤ 17 * c.args.k = omega arith in rw (past _ (17 * c.args.k) 16 h)

pub loop-i-init : goal.loop-i-init
loop-i-init c = none _ _

pub overflow_mul-value : goal.overflow_mul-value
overflow_mul-value c = omega (arith, fits c.loop-i.value c.loop-i.i c.loop-i.invariant.short c.loop-i-test.true)

pub overflow_add-value : goal.overflow_add-value
overflow_add-value c = omega (arith, fits c.loop-i.value c.loop-i.i c.loop-i.invariant.short c.loop-i-test.true, c.digit_at.ensures.1)

pub loop-i-preserved : goal.loop-i-preserved
loop-i-preserved c = more _ _ _ _ _ c.loop-i.invariant c.loop-i-test.true c.digit_at.ensures.0 c.digit_at.ensures.1

pub returns : goal.returns
unfolding word_at
returns c = whole c.loop-i.invariant c.loop-i-test.false
