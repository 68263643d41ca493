-- `linear_vectors::residual::reduce` meets its contract: each return opens the definition and rewrites it by the tests and the calls on its way; the laws are in proofs/Residuals.
use Rattle.linear_vectors.proofs.Residuals.{half, rest_in, reduce-few, reduce-all}
use borrow.Author.Rules.{rules}
use Rattle.linear_vectors.proofs.residual.reduce.Goals as goal

pub returns-then-n-lt2 : goal.returns-then-n-lt2
returns-then-n-lt2 c =
    reduce-few _ _ _ _ _ _ c.requires c.terms.ensures c.no_sums.ensures c.add_cells.ensures

pub lagged-s-requires : goal.lagged-s-requires
lagged-s-requires c = (search rules, half _ c.if-n-lt2.false)

pub terms-requires-2 : goal.terms-requires-2
terms-requires-2 c =
    (search rules, rest_in _ _ (half _ c.if-n-lt2.false))

pub returns : goal.returns
returns c =
    reduce-all _ _ _ _ _ _ c.requires _ (half _ c.if-n-lt2.false) c.pair_at.ensures c.lagged-s.ensures c.terms-2.ensures c.add_cells-2.ensures
