-- `pass_boundary::mark_triangle` meets its contract: each return follows from the calls on its way; the laws are in proofs/Steps.
use native.Mathlib.Omega.{arith}
use mathlib.Core.Path.{◌∙◌, sym}
use Rattle.pass_boundary.proofs.Steps.{marked-inner, marked-then, marked-few, added_then, three-below, ready-after}
use Rattle.pass_boundary.proofs.mark_triangle.Goals as goal

pub returns-then-is_inner : goal.returns-then-is_inner
returns-then-is_inner c = marked-inner _ (sym c.is_inner.ensures ∙ c.if-is_inner.true)

pub mark_side-ab-requires : goal.mark_side-ab-requires
mark_side-ab-requires c =
    let e = c.corners-c.ensures in
    let b = three-below c.requires.list_room.0 c.requires.sided.0 _ c.requires.sided.1.1 in
    let s = c.requires.sided.0.all_in _ c.requires.sided.1.1 in
    rw e (record { list_room = c.requires.list_room; sided = (c.requires.sided.0, (c.requires.sided.1.0, s.0)); a_lt_points = (b.0, b.1.0) })

pub mark_side-bc-requires : goal.mark_side-bc-requires
mark_side-bc-requires c =
    let e = c.corners-c.ensures in let b = three-below c.requires.list_room.0 c.requires.sided.0 _ c.requires.sided.1.1 in let s = c.requires.sided.0.all_in _
    c.requires.sided.1.1 in record {
      list_room =
          (ready-after _ _ (c.requires.list_room, (c.requires.sided.0, c.requires.sided.1.0)) c.mark_side-ab.ensures.added s.1.0
          b.1.0 b.1.1).0;
      sided = rw e
          (ready-after _ _ (c.requires.list_room, (c.requires.sided.0, c.requires.sided.1.0)) c.mark_side-ab.ensures.added s.1.0
          b.1.0 b.1.1).1.0;
      a_lt_points = rw e
          (ready-after _ _ (c.requires.list_room, (c.requires.sided.0, c.requires.sided.1.0)) c.mark_side-ab.ensures.added s.1.0
          b.1.0 b.1.1).1.1;
    }

pub mark_side-ca-requires : goal.mark_side-ca-requires
mark_side-ca-requires c =
    let e = c.corners-c.ensures in let b = three-below c.requires.list_room.0 c.requires.sided.0 _ c.requires.sided.1.1 in let s = c.requires.sided.0.all_in _
    c.requires.sided.1.1 in record {
      list_room =
          (ready-after _ _ (c.requires.list_room, (c.requires.sided.0, c.requires.sided.1.0))
          (added_then c.mark_side-ab.ensures.added c.mark_side-bc.ensures.added) s.1.1
          b.1.1 b.0).0;
      sided = rw e
          (ready-after _ _ (c.requires.list_room, (c.requires.sided.0, c.requires.sided.1.0))
          (added_then c.mark_side-ab.ensures.added c.mark_side-bc.ensures.added) s.1.1
          b.1.1 b.0).1.0;
      a_lt_points = rw e
          (ready-after _ _ (c.requires.list_room, (c.requires.sided.0, c.requires.sided.1.0))
          (added_then c.mark_side-ab.ensures.added c.mark_side-bc.ensures.added) s.1.1
          b.1.1 b.0).1.1;
    }

pub overflow_add-result : goal.overflow_add-result
overflow_add-result c =
    omega (arith, marked-few c.mark_side-ab.ensures, marked-few c.mark_side-bc.ensures)

pub overflow_add-result-2 : goal.overflow_add-result-2
overflow_add-result-2 c =
    omega (arith, marked-few c.mark_side-ab.ensures, marked-few c.mark_side-bc.ensures, marked-few c.mark_side-ca.ensures)

pub returns : goal.returns
returns c =
    let h = c.requires.list_room in let e = c.corners-c.ensures in rw e at (marked-then h.0 h.1 (marked-then h.0 h.1 c.mark_side-ab.ensures c.mark_side-bc.ensures) c.mark_side-ca.ensures)
