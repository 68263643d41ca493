-- What a write to a part of a slice leaves, as stores into the whole. Assumes nothing.
use Rattle.std.proofs.Common.{ℕ, ◌≡◌, ◌+◌, ◌-◌, ◌≤◌, List, ◌∙◌, refl, sym, length, arith}
use lib.Seq.{take-length}
use Rattle.std.proofs.lemmas.List.Edits.{sets, sets-eq}
use Rattle.std.proofs.lemmas.Slice.{put_mid-paste}
use borrow.Rule.Slice.PartMut.{put_mid}

pub put_mid-sets : {X : Type 0} (xs ys : List X) (a e : ℕ) → e ≡ a + length ys → e ≤ length xs → put_mid a (e - a) xs ys ≡ sets xs a ys
put_mid-sets xs ys a e end fits =
    rw take-length at (put_mid-paste a (e - a) xs ys ys (length ys) refl (omega arith) refl) ∙ sym (sets-eq ys xs a (omega arith))
