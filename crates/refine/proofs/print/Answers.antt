-- `refine::print` prints the front of the array, which is what the text prints: it fits there. Assumes nothing.
use Rattle.std.proofs.Common.{◌≡◌, ℕ, ◌≤◌, List, length, take, subst, sym, refl, arith}
use borrow.Author.Tests.{le-leb}
use lib.ListN.{replicate, length-replicate}
use lib.Seq.{length-take-le, take_at}
use Rattle.std.specs.Io.KnownBytes.{Appends}
use Rattle.std.proofs.lemmas.Result.{on_ok_weaker}
use Rattle.text_answer.specs.Printed.{filled_by, count_by, longest, printed}
use Rattle.text_answer.proofs.Whole.{count_fits}
use Rattle.refine.proofs.print.Goals as goal

shown : (s out : List ℕ) {out' : List ℕ} {n : ℕ} → longest ≤ length out → out' ≡ filled_by s out → n ≡ count_by s out → take n out' ≡ printed s
shown s out h e k = rw (e, k, le-leb longest (length out) h) (take_at (printed s) _ (length (printed s)) refl)

room : longest ≤ length (replicate {A = ℕ} 29465 0)
room = omega (arith, length-replicate {A = ℕ} 29465 0)

pub slice_bounds-out-end : goal.slice_bounds-out-end
slice_bounds-out-end g c = omega (arith, c.answer-n.ensures.1, count_fits c.args.text.now (replicate {A = ℕ} 29465 0), room)

pub slice_bounds-write_all-end : goal.slice_bounds-write_all-end
slice_bounds-write_all-end g c =
    sym (length-take-le c.answer-n.result c.answer-n.new.out (omega (arith, c.answer-n.ensures.1, count_fits c.args.text.now (replicate {A = ℕ} 29465 0), room)))

pub returns : goal.returns
returns g c = on_ok_weaker _ (subst (Appends _ _) (shown c.args.text.now (replicate {A = ℕ} 29465 0) room c.answer-n.ensures.0 c.answer-n.ensures.1)) c.write_all.ensures.bytes
