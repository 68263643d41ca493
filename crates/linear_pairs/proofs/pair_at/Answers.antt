-- `linear_pairs::pair_at` meets its contract: each return rewrites the definition by the calls on its way; the laws are in proofs/Sums.
use mathlib.Core.Path.{◌∙◌, sym}
use borrow.Author.Tests.{eqb-true, eqb-false}
use native.Mathlib.Omega.{arith}
use Rattle.linear_pairs.proofs.Sums.{both-sizes, pair_fits, even-sizes, even-end, adjacent-pair, first-longer, second-longer, pair-even, pair-first, pair-second}
use Rattle.linear_pairs.proofs.pair_at.Goals as goal

pub overflow_mul-rest : goal.overflow_mul-rest
overflow_mul-rest c =
    let mark = c.load_number-mark.ensures in
    omega (arith, pair_fits c.requires.pair_in mark, c.requires.pair_in.third, c.requires.stream_in.neighbours-in, c.ranges)

pub overflow_add-rest : goal.overflow_add-rest
overflow_add-rest c =
    let mark = c.load_number-mark.ensures in
    omega (arith, pair_fits c.requires.pair_in mark, c.requires.pair_in.third, c.requires.stream_in.neighbours-in, c.ranges)

pub adjacent_terms-s-requires : goal.adjacent_terms-s-requires
adjacent_terms-s-requires c =
    let mark = c.load_number-mark.ensures in record { stream_in = c.requires.stream_in; m_bound = omega (arith, pair_fits c.requires.pair_in mark, c.requires.pair_in.third); adjacent = adjacent-pair c.requires.pair_in mark (eqb-true _ _ (sym c.is_of.ensures ∙ c.if-is_of.true)) }

pub finish-sum-requires : goal.finish-sum-requires
finish-sum-requires c =
    (c.requires.pair_in.v-in, c.requires.stream_in.x-in, c.requires.pair_in.y-in)

pub returns-then-is_of : goal.returns-then-is_of
returns-then-is_of c =
    let mark = c.load_number-mark.ensures in
    let test = (eqb-true _ _ (sym c.is_of.ensures ∙ c.if-is_of.true)) in
    record {
      finished = pair-even _ _ _ _ _ _ _ _ c.requires.pair_in.slot (both-sizes c.requires.pair_in mark) c.firsts-first.ensures c.adjacent_terms-s.ensures
          (even-sizes c.requires.pair_in mark (omega (arith, test))) c.finish-sum.ensures;
      next = even-end c.requires.pair_in mark (omega (arith, test));
    }

pub pair_terms-s-requires : goal.pair_terms-s-requires
pair_terms-s-requires c =
    let mark = c.load_number-mark.ensures in record { stream_in = c.requires.stream_in; m_bound = omega (arith, pair_fits c.requires.pair_in mark, c.requires.pair_in.third) }

pub finish-sum-requires-then-is_of-2 : goal.finish-sum-requires-then-is_of-2
finish-sum-requires-then-is_of-2 c =
    (c.requires.pair_in.v-in, c.requires.stream_in.x-in, c.requires.pair_in.y-in)

pub returns-then-is_of-2 : goal.returns-then-is_of-2
returns-then-is_of-2 c =
    let mark = c.load_number-mark.ensures in
    let test = (eqb-true _ _ (sym c.is_of-2.ensures ∙ c.if-is_of-2.true)) in
    record {
      finished = pair-even _ _ _ _ _ _ _ _ c.requires.pair_in.slot (both-sizes c.requires.pair_in mark) c.firsts-first.ensures c.pair_terms-s.ensures
          (even-sizes c.requires.pair_in mark (omega (arith, test))) c.finish-sum-then-is_of-2.ensures;
      next = even-end c.requires.pair_in mark (omega (arith, test));
    }

pub overflow_sub-end : goal.overflow_sub-end
overflow_sub-end c =
    let mark = c.load_number-mark.ensures in
    let end = c.load_number-end.ensures in
    omega (arith, pair_fits c.requires.pair_in mark, end, c.requires.pair_in.end)

pub terms-a-requires : goal.terms-a-requires
terms-a-requires c =
    let mark = c.load_number-mark.ensures in
    let end = c.load_number-end.ensures in record { stream_in = c.requires.stream_in; m_bound = omega (arith, pair_fits c.requires.pair_in mark, end, c.requires.pair_in.end, c.requires.pair_in.third) }

pub finish-sum-requires-then-is_of-3 : goal.finish-sum-requires-then-is_of-3
finish-sum-requires-then-is_of-3 c =
    (c.requires.pair_in.v-in, c.requires.stream_in.x-in, c.requires.pair_in.y-in)

pub returns-then-is_of-3 : goal.returns-then-is_of-3
returns-then-is_of-3 c =
    let mark = c.load_number-mark.ensures in
    let end = c.load_number-end.ensures ∙ c.requires.pair_in.end in
    let diagonal = c.firsts-first.ensures in
    let pairs = c.pair_terms-s.ensures in
    let longer = first-longer c.requires.pair_in mark (eqb-true _ _ (sym c.is_of-3.ensures ∙ c.if-is_of-3.true)) in
    record {
      finished = pair-first _ _ _ _ _ _ _ _ c.requires.pair_in.slot (both-sizes c.requires.pair_in mark) end diagonal pairs c.terms-a.ensures longer c.requires.pair_in.second
          c.finish-sum-then-is_of-3.ensures;
      next = end;
    }

pub overflow_sub-end-2 : goal.overflow_sub-end-2
overflow_sub-end-2 c =
    let mark = c.load_number-mark.ensures in
    let end = c.load_number-end.ensures in
    omega (arith, pair_fits c.requires.pair_in mark, end, c.requires.pair_in.end)

pub terms-b-requires : goal.terms-b-requires
terms-b-requires c =
    let mark = c.load_number-mark.ensures in
    let end = c.load_number-end.ensures in record { stream_in = c.requires.stream_in; m_bound = omega (arith, pair_fits c.requires.pair_in mark, end, c.requires.pair_in.end, c.requires.pair_in.third) }

pub finish-sum-requires-2 : goal.finish-sum-requires-2
finish-sum-requires-2 c =
    (c.requires.pair_in.v-in, c.requires.stream_in.x-in, c.requires.pair_in.y-in)

pub returns : goal.returns
returns c =
    let mark = c.load_number-mark.ensures in
    let end = c.load_number-end.ensures ∙ c.requires.pair_in.end in
    let diagonal = c.firsts-first.ensures in
    let pairs = c.pair_terms-s.ensures in
    let longer = second-longer c.requires.pair_in mark (eqb-false _ _ (sym c.is_of.ensures ∙ c.if-is_of.false)) (eqb-false _ _ (sym c.is_of-2.ensures ∙ c.if-is_of-2.false)) (eqb-false _ _ (sym c.is_of-3.ensures ∙ c.if-is_of-3.false)) in
    record {
      finished = pair-second _ _ _ _ _ _ _ _ c.requires.pair_in.slot (both-sizes c.requires.pair_in mark) end diagonal pairs c.terms-b.ensures longer c.requires.pair_in.first
          c.finish-sum-2.ensures;
      next = end;
    }
