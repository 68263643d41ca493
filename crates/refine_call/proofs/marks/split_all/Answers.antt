-- `refine_call::marks::split_all` meets its contract: the pieces of the triangles from i on stand; the laws are in proofs/Splitting.
use native.Mathlib.Omega.{arith}
use Rattle.refine_call.proofs.Splitting.{split-start, split-bounds, split-room, split-on, split-long, split_done}
use Rattle.refine_call.proofs.marks.split_all.Goals as goal

pub loop-i-init : goal.loop-i-init
loop-i-init c = split-start _ _ _ _ c.requires.pieces_value

pub split_marked-before-requires : goal.split_marked-before-requires
split_marked-before-requires c =
    record {
      i_in_bounds = (
        omega arith,
        (
          omega (arith, split-long c.loop-i.invariant, split-bounds c.loop-i.invariant, c.requires.count_in_bounds, c.requires.pieces_value),
          omega (arith, split-long c.loop-i.invariant, split-bounds c.loop-i.invariant, c.requires.count_in_bounds, c.requires.pieces_value),
        ),
      );
      i_len_bound = split-room c.loop-i.invariant _ (omega arith);
    }

pub loop-i-preserved : goal.loop-i-preserved
loop-i-preserved c = split-on c.loop-i.invariant _ (omega arith) c.split_marked-before.ensures.0 c.split_marked-before.ensures.1

pub returns : goal.returns
returns c = split_done c.loop-i.invariant (omega arith)
