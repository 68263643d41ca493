-- What a check in table order returns is the first row that holds: one law for a row that holds, one for a row that does not. Assumes nothing.
use Prim.Native.Nat.{ℕ, ◌/◌}
use mathlib.Core.Path.{◌≡◌, ap, ◌∙◌}
use mathlib.Core.Bool.{Bool}
use mathlib.Core.List.{List}
use borrow.Author.Tests.{eq-eqb, le-ltb, lt-ltb, ne_eqb}
use lib.ListN.{length}
use lib.Ieee.{Float}
use Rattle.std.specs.Prelude.{Option, Some, Ok, Err}
use Rattle.refusals.specs.Refusal.{row_at, Verdict}
use Rattle.floor.specs.Checks.{lowest, found_below, bad_point, bad_size, bad_corner, row_by, check_floor}
use Rattle.floor.proofs.Lowest.{found-some, found-none}

-- the code's search found the place i of row k, or none; r is what it returns
module _ {found : Option ℕ} {r : Verdict} (k : ℕ) (p : ℕ → Bool) (n : ℕ) (rest : Verdict) (f : found ≡ found_below p n) where
  pub row-holds : (i : ℕ) → found ≡ Some i → r ≡ Err (row_at k i) → r ≡ row_by k p n rest
  row-holds i s q = let at = found-some p n i f s in rw (lt-ltb (lowest p n) n (rw (at.0) at at.1)) (q ∙ ap (λ j. Err (row_at k j)) at.0)

  pub row-passed : ((i : ℕ) → found ≡ Some i → ⊥) → r ≡ rest → r ≡ row_by k p n rest
  row-passed none q = rw (le-ltb (lowest p n) n (found-none p n f none)) q

-- past rows 3, 4 and 5
pub counts-passed : {r : Verdict} (points : List Float) (triangles : List ℕ) (sizes : List Float) → ¬ (length points / 3 ≡ 0) → ¬ (length triangles / 3 ≡ 0) → length sizes ≡ length points / 3
    → r ≡ row_by 6 (bad_point points) (length points / 3) (row_by 7 (bad_size sizes) (length sizes) (row_by 8 (bad_corner triangles (length points / 3)) (length triangles / 3) (Ok tt))) → r ≡ check_floor points triangles sizes
unfolding check_floor
counts-passed points triangles sizes a b e q = rw (ne_eqb (length points / 3) 0 a, ne_eqb (length triangles / 3) 0 b, eq-eqb (length sizes) (length points / 3) e) q

pub ruleset order = (row-holds, row-passed)
