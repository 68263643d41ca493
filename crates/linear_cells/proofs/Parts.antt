-- Parts of a list: what a store into one, a write of one and a copy of one leave. Assumes nothing.
use mathlib.Core.Path.{◌≡◌, refl, sym, ◌∙◌}
use mathlib.Core.List.{List}
use Prim.Native.Nat.{ℕ, ◌+◌, ◌-◌, ◌≤◌, ◌<◌}
use native.Mathlib.Nat.{le_refl}
use native.Mathlib.Omega.{arith}
use lib.ListN.{length, set, take, drop}
use lib.Seq.{take-length, sets-eq, paste}
use borrow.Rule.Slice.PartMut.{put_mid, set_mid_at, mid_len}
use Rattle.std.proofs.lemmas.Slice.{put_mid-paste}
use Rattle.linear_cells.specs.Region.{region, put}
use Rattle.linear_cells.proofs.Regions.{length-region}
use Rattle.linear_cells.proofs.Changes.{part-region}

-- a store into the part from `b` on: element i of it is element b + i of the list
module _ {A : Type 0} (w : List A) (b i : ℕ) where
  pub part-write : (v : A) → b + i < length w → put_mid b (length w - b) w (set (take (length w - b) (drop b w)) i v) ≡ set w (b + i) v
  part-write v h = set_mid_at b (length w - b) i w v (omega (arith, mid_len b (length w) w (le_refl (length w))))

-- what a write to a part leaves: its new elements are put where it begins
pub part-put : {A : Type 0} (xs ys : List A) (a e : ℕ) → e ≡ a + length ys → e ≤ length xs → put_mid a (e - a) xs ys ≡ put xs a ys
unfolding put
part-put xs ys a e h k = rw take-length at (put_mid-paste a (e - a) xs ys ys (length ys) refl (omega arith) refl) ∙ sym (sets-eq ys xs a (omega arith))

-- what a copy of n elements at b to a leaves
pub part-copy : {A : Type 0} (d : A) (xs : List A) (a b n : ℕ) → a + n ≤ length xs → b + n ≤ length xs → paste xs a (drop b xs) n ≡ put xs a (region d xs b n)
unfolding put
part-copy d xs a b n h k =
    let e : length (region d xs b n) ≡ n = length-region d xs b n in
    rw (part-region d xs b n k) (sym (sets-eq (region d xs b n) xs a (omega arith) ∙ rw e))
