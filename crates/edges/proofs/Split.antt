-- The ends of a table's sides, copied behind it: the lower ones, and then the upper ones, each every fourth number of the table. Assumes nothing.
use Prim.Native.Nat.{ℕ, zero, suc, ◌+◌, ◌*◌, ◌≤◌, ◌<◌}
use native.Mathlib.Omega.{arith}
use native.Mathlib.Numerals.{add-one}
use mathlib.Core.Path.{◌≡◌, refl, ap, ◌∙◌}
use mathlib.Core.List.{List, [], ◌∷◌, map, map-append}
use lib.ListN.{length, length-append, get_or, set}
use lib.Seq.{sets, length-sets}
use Rattle.mesh.specs.Mesh.{Side, side}
use Rattle.slices.proofs.Runs.{sets-before, sets-within, sets-next}
use Rattle.edges.proofs.Tree.{length_pairs}
use Rattle.edges.specs.Table.{pairs, lo_of, hi_of, sides_in, fourths, split}
use Rattle.edges.specs.Sides.{lower, upper}

length-fourths : (a : ℕ) (w : List ℕ) (m : ℕ) → length (fourths a w m) ≡ m
unfolding fourths
length-fourths a w zero = refl
length-fourths a w (suc k) = length-append (fourths a w k) (get_or w (a + 4 * k) 0 ∷ []) ∙ omega (arith, length-fourths a w k)

fourths-same : (a : ℕ) (w w' : List ℕ) (m : ℕ) → ((k : ℕ) → k < m → get_or w' (a + 4 * k) 0 ≡ get_or w (a + 4 * k) 0) → fourths a w' m ≡ fourths a w m
unfolding fourths
fourths-same a w w' zero h = refl
fourths-same a w w' (suc k) h = rw (fourths-same a w w' k (λ j l. h j (omega arith)), h k (omega arith))

-- ---- the loop

pub fourths-none : (a to : ℕ) (w : List ℕ) → w ≡ sets w to (fourths a w 0)
unfolding fourths
fourths-none a to w = refl

pub fourths-length : (a to k : ℕ) (w : List ℕ) {w₁ : List ℕ} → w₁ ≡ sets w to (fourths a w k) → length w₁ ≡ length w
fourths-length a to k w e = ap length e ∙ length-sets w to (fourths a w k)

pub fourths-more : (a to m k : ℕ) (w : List ℕ) {w₁ w₂ : List ℕ} → a + 4 * m ≤ to + 3 → k < m → w₁ ≡ sets w to (fourths a w k) → w₂ ≡ set w₁ (to + k) (get_or w₁ (a + 4 * k) 0) → w₂ ≡ sets w to (fourths a w (k + 1))
unfolding fourths
fourths-more a to m k w {w₁} room h so_far e =
    let read : get_or w₁ (a + 4 * k) 0 ≡ get_or w (a + 4 * k) 0 = ap (λ (l : List ℕ). get_or l (a + 4 * k) 0) so_far ∙ sets-before w to (fourths a w k) (a + 4 * k) 0 (omega arith) in
    e ∙ rw (add-one k, read, so_far) (sets-next w to (to + k) (fourths a w k) (get_or w (a + 4 * k) 0 ∷ []) (omega (arith, length-fourths a w k)))

pub length-map : {A B : Type 0} (f : A → B) (l : List A) → length (map f l) ≡ length l
length-map f [] = refl
length-map f (a ∷ l) = ap suc (length-map f l)

-- ---- what is copied

lowers : (o N : ℕ) (w : List ℕ) (m : ℕ) → fourths (o + N) w m ≡ map lower (sides_in o N w m)
unfolding fourths pairs
lowers o N w zero = refl
lowers o N w (suc k) = rw (lowers o N w k, map-append lower (sides_in o N w k) (side (lo_of o N w k) (hi_of o N w k) ∷ []))

uppers : (o N : ℕ) (w : List ℕ) (m : ℕ) → fourths (o + N + 1) w m ≡ map upper (sides_in o N w m)
unfolding fourths pairs
uppers o N w zero = refl
uppers o N w (suc k) =
    let e : o + N + 1 + 4 * k ≡ o + N + 4 * k + 1 = omega arith in
    rw (uppers o N w k, e, map-append upper (sides_in o N w k) (side (lo_of o N w k) (hi_of o N w k) ∷ []))

pub split_done : (o N m from to : ℕ) (w : List ℕ) {w₁ w₂ : List ℕ} → o + N + 4 * m ≤ from → w₁ ≡ sets w from (fourths (o + N) w m) → w₂ ≡ sets w₁ to (fourths (o + N + 1) w₁ m) → w₂ ≡ split o N m from to w
unfolding split
split_done o N m from to w {w₁} h p q =
    let same : fourths (o + N + 1) w₁ m ≡ fourths (o + N + 1) w m =
    fourths-same (o + N + 1) w w₁ m (λ k l. ap (λ (v : List ℕ). get_or v (o + N + 1 + 4 * k) 0) p ∙ sets-before w from (fourths (o + N) w m) (o + N + 1 + 4 * k) 0 (omega arith)) in
    q ∙ rw (same, p, lowers o N w m, uppers o N w m)

-- ---- the slice after that

module _ (o N m from to : ℕ) (w : List ℕ) where
  many : (f : Side → ℕ) → length (map f (sides_in o N w m)) ≡ m
  many f = length-map f (sides_in o N w m) ∙ length_pairs (lo_of o N w) (hi_of o N w) m

  pub split-length : length (split o N m from to w) ≡ length w
  unfolding split
  split-length = length-sets (sets w from (map lower (sides_in o N w m))) to (map upper (sides_in o N w m)) ∙ length-sets w from (map lower (sides_in o N w m))

  pub split-before : (j : ℕ) → j < from → from ≤ to → get_or (split o N m from to w) j 0 ≡ get_or w j 0
  unfolding split
  split-before j h e =
      sets-before (sets w from (map lower (sides_in o N w m))) to (map upper (sides_in o N w m)) j 0 (omega arith)
      ∙ sets-before w from (map lower (sides_in o N w m)) j 0 h

  pub split-lower : (k : ℕ) → k < m → from + m ≤ to → to + m ≤ length w → get_or (split o N m from to w) (from + k) 0 ≡ get_or (map lower (sides_in o N w m)) k 0
  unfolding split
  split-lower k h e g =
      sets-before (sets w from (map lower (sides_in o N w m))) to (map upper (sides_in o N w m)) (from + k) 0 (omega arith)
      ∙ sets-within w from (map lower (sides_in o N w m)) k 0 (omega (arith, many lower)) (omega (arith, many lower))

  pub split-upper : (k : ℕ) → k < m → to + m ≤ length w → get_or (split o N m from to w) (to + k) 0 ≡ get_or (map upper (sides_in o N w m)) k 0
  unfolding split
  split-upper k h g =
      sets-within (sets w from (map lower (sides_in o N w m))) to (map upper (sides_in o N w m)) k 0 (omega (arith, many upper, length-sets w from (map lower (sides_in o N w m)))) (omega (arith, many upper))
