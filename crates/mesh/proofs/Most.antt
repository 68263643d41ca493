-- How many sides are cut at most: a side that is met lengthens the list by at most one, a triangle by at most three. Assumes nothing.
use Prim.Native.Nat.{suc, ◌+◌, ◌*◌, ◌≤◌}
use native.Mathlib.Omega.{arith}
use mathlib.Core.Bool.{Bool, true, false, cond}
use mathlib.Core.List.{List, [], ◌∷◌, ◌++◌}
use lib.ListN.{length, length-append}
use Rattle.mesh.specs.Mesh.{Tri, tri, Side, index_in, is_none, met, met_all, sides, sides_after, marked, cuts}

met-most : (l : List Side) (s : Side) → length (met l s) ≤ length l + 1
unfolding met
met-most l s = go (is_none (index_in s l))
  where
    go : (b : Bool) → length (cond b (l ++ (s ∷ [])) l) ≤ length l + 1
    go true = omega (arith, length-append l (s ∷ []))
    go false = omega arith

all_most : (l ss : List Side) → length (met_all l ss) ≤ length l + length ss
unfolding met_all
all_most l [] = omega arith
all_most l (s ∷ ss) = omega (arith, all_most (met l s) ss, met-most l s)

after-most : (l : List Side) (ts : List Tri) → length (sides_after l ts) ≤ length l + 3 * length ts
unfolding sides_after
after-most l [] = omega arith
after-most l (tri a b c ∷ ts) = omega (arith, after-most (met_all l (sides (tri a b c))) ts, all_most l (sides (tri a b c)))

marked-most : (f : Tri → Bool) (ts : List Tri) → length (marked f ts) ≤ length ts
unfolding marked
marked-most f [] = omega arith
marked-most f (t ∷ ts) = go (f t) (marked-most f ts)
  where
    go : (b : Bool) → length (marked f ts) ≤ length ts → length (cond b (t ∷ marked f ts) (marked f ts)) ≤ suc (length ts)
    go true h = omega arith
    go false h = omega arith

-- a triangle has three sides, so at most three cut sides for each
pub cuts-most : (f : Tri → Bool) (ts : List Tri) → length (cuts f ts) ≤ 3 * length ts
unfolding cuts
cuts-most f ts = omega (arith, after-most [] (marked f ts), marked-most f ts)
