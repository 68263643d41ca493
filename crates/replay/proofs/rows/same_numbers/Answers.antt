-- `replay::rows::same_numbers` meets its contract: `==` compares as `same_all` does; the law is in proofs/Same.
use Rattle.std.proofs.Common.{◌∙◌}
use Rattle.replay.proofs.Same.{same_eq}
use Rattle.replay.proofs.rows.same_numbers.Goals as goal

pub returns : goal.returns
returns c = c.eq.ensures ∙ same_eq c.args.a.now c.args.b.now
