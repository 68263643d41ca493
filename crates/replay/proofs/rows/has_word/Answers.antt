-- `replay::rows::has_word` meets its contract: what `any` says of the numbers below n; the laws are in proofs/Any.
use Rattle.std.proofs.Common.{◌≡◌, ◌+◌, eqb, true, false, refl, rules}
use native.Mathlib.Nat.{sub-zero}
use Rattle.std.proofs.lemmas.Iterator.{cases_from_any, YieldsList-from_range}
use Rattle.replay.specs.Words.{word_at}
use Rattle.replay.proofs.Any.{any_by}
use Rattle.replay.proofs.rows.has_word.Goals as goal

pub returns : goal.returns
returns c =
    any_by (λ i. eqb (word_at c.args.row.now (c.args.k + i)) c.args.w) c.args.n _
    (cases_from_any _ _ _ (λ x. eqb (word_at c.args.row.now (c.args.k + x)) c.args.w ≡ true) (λ x. eqb (word_at c.args.row.now (c.args.k + x)) c.args.w ≡ false) c.any.ensures.ran
    (YieldsList-from_range 0 c.args.n c.args.n refl (sub-zero _))
    (λ x q k. search rules)
    (λ x q k. search rules))
