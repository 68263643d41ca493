-- `linear_adjacency::lent::build` meets its contract: each return rewrites the definition by the calls on its way; the laws are in proofs/Stages.
use native.Mathlib.Omega.{arith}
use Rattle.linear_adjacency.proofs.Stages.{filled, build-sums, build-all, lent-count, lent-fill}
use Rattle.linear_adjacency.proofs.lent.build.Goals as goal

pub count-requires : goal.count-requires
count-requires c =
    let q = lent-count _ _ _ _ _ c.requires.list_room c.requires.ends (filled c.args.w.now c.args.at c.args.n _ c.requires.list_room.room (c.fill.ensures.after (λ y e. e))) in record { list_room = q.0; ends = q.1; n_value = q.2 }

pub sums-requires : goal.sums-requires
sums-requires c =
    (omega (arith, c.requires.list_room.room), build-sums _ _ _ _ _ c.requires.list_room c.requires.ends (filled c.args.w.now c.args.at c.args.n _ c.requires.list_room.room (c.fill.ensures.after (λ y e. e))) c.count.ensures)

pub fill-requires-2 : goal.fill-requires-2
fill-requires-2 c =
    let q = lent-fill _ _ _ _ _ c.requires.list_room c.requires.ends (filled c.args.w.now c.args.at c.args.n _ c.requires.list_room.room (c.fill.ensures.after (λ y e. e))) c.count.ensures c.sums.ensures in record { list_room = q.0; ends = q.1; n_value = q.2 }

pub returns : goal.returns
returns c =
    build-all _ _ _ _ _ c.requires.list_room c.requires.ends (filled c.args.w.now c.args.at c.args.n _ c.requires.list_room.room (c.fill.ensures.after (λ y e. e))) c.count.ensures c.sums.ensures c.fill-2.ensures
