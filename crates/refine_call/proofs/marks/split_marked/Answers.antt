-- `refine_call::marks::split_marked` meets its contract: the rows of its pieces, stored; the law is in proofs/Parts.
use native.Mathlib.Omega.{arith}
use Rattle.refinement.proofs.Stands.{pieces-put}
use Rattle.refine_call.proofs.marks.split_marked.Goals as goal

pub overflow_sub-first : goal.overflow_sub-first
overflow_sub-first c =
    let s = rw (c.midpoint.ensures, c.midpoint-2.ensures, c.midpoint-3.ensures, c.corners-c.ensures, c.corners-m.ensures) at c.split_triangle-p.ensures in omega (arith, s.many, c.requires.i_len_bound)

pub put_rows-requires : goal.put_rows-requires
put_rows-requires c =
    let s = rw (c.midpoint.ensures, c.midpoint-2.ensures, c.midpoint-3.ensures, c.corners-c.ensures, c.corners-m.ensures) at c.split_triangle-p.ensures in (omega (arith, s.few), omega (arith, s.many, c.requires.i_in_bounds, c.requires.i_len_bound))

pub returns : goal.returns
returns c =
    let s = rw (c.midpoint.ensures, c.midpoint-2.ensures, c.midpoint-3.ensures, c.corners-c.ensures, c.corners-m.ensures) at c.split_triangle-p.ensures in (omega (arith, s.many, c.requires.i_len_bound), (pieces-put c.args.marks.now _ 0 s c.put_rows.ensures).stands)
