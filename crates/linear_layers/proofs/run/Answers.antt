-- `linear_layers::run` meets its contract: the copy is made, and the system solved by it; the laws are in proofs/Tests.
use native.Mathlib.Omega.{arith}
use Rattle.linear_layers.proofs.Tests.{counted, fits, graph, entries-needs, run-gradient, run-made}
use Rattle.linear_layers.proofs.run.Goals as goal

pub number_edges-requires : goal.number_edges-requires
number_edges-requires c = record { from_value = c.requires.from_value; graph = graph _ _ _ _ c.requires.to_value }

pub vectors_for-l-requires : goal.vectors_for-l-requires
vectors_for-l-requires c =
    omega (arith, fits _ _ _ _ c.requires.to_value)

pub packing_for-copy-requires : goal.packing_for-copy-requires
packing_for-copy-requires c =
    counted _ _ _ c.requires.from_value

pub source_for-source-requires : goal.source_for-source-requires
source_for-source-requires c =
    counted _ _ _ c.requires.from_value

pub entries-requires : goal.entries-requires
entries-requires c = let all = entries-needs c.args.work.now _ _ _ _ c.args.tolerance c.args.most c.requires.to_value c.requires.from_value c.number_edges.ensures
    c.matrix_for-h.ensures c.packing_for-copy.ensures c.source_for-source.ensures in record { interleaved = all.0; entries_room = all.1 }

pub conjugate_gradient-requires : goal.conjugate_gradient-requires
conjugate_gradient-requires c = let all = run-gradient _ _ _ _ _ c.args.tolerance c.args.most c.requires.to_value c.requires.from_value c.number_edges.ensures c.matrix_for-h.ensures c.vectors_for-l.ensures
    c.packing_for-copy.ensures c.source_for-source.ensures c.entries.ensures in record { solver_room = all.0; graph = all.1.0; engine = all.1.1 }

pub returns : goal.returns
returns c =
    run-made _ _ _ _ _ _ _ c.requires.to_value c.requires.from_value c.number_edges.ensures c.matrix_for-h.ensures c.vectors_for-l.ensures c.packing_for-copy.ensures
    c.source_for-source.ensures c.entries.ensures c.conjugate_gradient.ensures
