-- `replay::rows::has_nan` meets its contract: what `any` says of the numbers below n; the laws are in proofs/Any.
use Rattle.std.proofs.Common.{◌≡◌, ◌+◌, true, false, refl, rules}
use native.Mathlib.Nat.{sub-zero}
use Rattle.std.proofs.lemmas.Iterator.{cases_from_any, YieldsList-from_range}
use Rattle.replay.specs.Words.{word_at, nan_pattern}
use Rattle.replay.proofs.Any.{any_by}
use Rattle.replay.proofs.rows.has_nan.Goals as goal

pub returns : goal.returns
returns c =
    any_by (λ i. nan_pattern (word_at c.args.row.now (c.args.k + i))) c.args.n _
    (cases_from_any _ _ _ (λ x. nan_pattern (word_at c.args.row.now (c.args.k + x)) ≡ true) (λ x. nan_pattern (word_at c.args.row.now (c.args.k + x)) ≡ false) c.any.ensures.ran
    (YieldsList-from_range 0 c.args.n c.args.n refl (sub-zero _))
    (λ x q k. search rules)
    (λ x q k. search rules))
