-- One edge placed in a vertex's list, and regions one after another, over lists of numbers. Assumes nothing.
use mathlib.Core.Path.{◌≡◌, sym, ap, ◌∙◌}
use mathlib.Core.List.{List, [], ◌∷◌, ◌++◌}
use Prim.Native.Nat.{ℕ, zero, suc, ◌+◌, ◌-◌, ◌≤◌, ◌<◌}
use native.Mathlib.Nat.{add_assoc, zero-add, suc-add}
use native.Mathlib.Omega.{arith}
use lib.ListN.{length, get_or, set, length-set, length-append, get_or-append}
use lib.Seq.{get_or-set_other, set-append_left}
use Rattle.linear_cells.specs.Region.{tab, region, put}
use Rattle.linear_cells.proofs.Loops.{tab-ext}
use Rattle.linear_cells.proofs.Regions.{put-within, set-put}
use Rattle.linear_adjacency.specs.Build.{placed, PlaceIn}

-- ---- place

set_append_right : (xs ys : List ℕ) (i v : ℕ) → set (xs ++ ys) (length xs + i) v ≡ xs ++ set ys i v
set_append_right [] ys i v = rw zero-add
set_append_right (x ∷ xs) ys i v = rw (suc-add, set_append_right xs ys i v)

placed-length : (w : List ℕ) (at n v e : ℕ) → length (placed w at n v e) ≡ length w
unfolding placed
placed-length w at n v e = simp length-set

placed-other : (w : List ℕ) (at n v e u : ℕ) → u < n → (v ≡ u → ⊥) → get_or (placed w at n v e) (at + u) 0 ≡ get_or w (at + u) 0
unfolding placed
placed-other w at n v e u l f =
    get_or-set_other (set w (at + v) (get_or w (at + v) 0 - 1)) (at + (n + 1) + (get_or w (at + v) 0 - 1)) (at + u) e 0 (λ h. omega arith)
    ∙ get_or-set_other w (at + v) (at + u) (get_or w (at + v) 0 - 1) 0 (λ h. f (omega arith))

pub placed-in : (w : List ℕ) (at n a b e : ℕ) → PlaceIn w at n b e → (a ≡ b → ⊥) → {w₁ : List ℕ} → w₁ ≡ placed w at n a e → PlaceIn w₁ at n b e
placed-in w at n a b e p f {w₁} h =
    let z : get_or w₁ (at + b) 0 ≡ get_or w (at + b) 0 = ap (λ t. get_or t (at + b) 0) h ∙ placed-other w at n a e b p.v-in f in
    let size : length w₁ ≡ length w = ap length h ∙ placed-length w at n a e in
    record { v-in = p.v-in; some = omega (arith, p.some); room = omega (arith, p.room); narrow = p.narrow }

-- on cursors t and lists l
pub placed-put : (w : List ℕ) (at n : ℕ) (t l : List ℕ) (m : ℕ) → length t ≡ n + 1 → length l ≡ m → at + (n + 1) + m ≤ length w → (v : ℕ) → v < n → (e p : ℕ) → get_or t v 0 ≡ p + 1 → p < m
    → placed (put w at (t ++ l)) at n v e ≡ put w at (set t v p ++ set l p e)
unfolding placed
placed-put w at n t l m st sl h v lv e p ep lp =
    let size : length (t ++ l) ≡ n + 1 + m = length-append t l ∙ rw (st, sl) in
    let read : get_or (put w at (t ++ l)) (at + v) 0 - 1 ≡ p =
    ap (λ z. z - 1) (put-within w at (t ++ l) v 0 (omega arith) (omega arith) ∙ get_or-append t l 0 v (omega arith) ∙ ep) ∙ omega arith in
    let one : set (put w at (t ++ l)) (at + v) p ≡ put w at (set t v p ++ l) = set-put w at (t ++ l) v p (omega arith) ∙ ap (put w at) (set-append_left t l v p (omega arith)) in
    let size' : length (set t v p) ≡ n + 1 = length-set t v p ∙ st in
    let right : set (set t v p ++ l) (n + 1 + p) e ≡ set t v p ++ set l p e = rw (← size') (set_append_right (set t v p) l p e) in
    rw (read, one, add_assoc at (n + 1) p)
    (set-put w at (set t v p ++ l) (n + 1 + p) e (omega (arith, length-append (set t v p) l)) ∙ ap (put w at) right)

-- ---- regions one after another

tab-append : (f : ℕ → ℕ) (n m : ℕ) → tab f (n + m) ≡ tab f n ++ tab (λ i. f (n + i)) m
unfolding tab
tab-append f zero m = ap (tab f) (zero-add m) ∙ tab-ext f (λ i. f (0 + i)) m (λ i l. ap f (sym (zero-add i)))
tab-append f (suc n) m =
    ap (tab f) (suc-add n m) ∙ ap (λ t. f 0 ∷ t) (tab-append (λ i. f (suc i)) n m)
    ∙ ap (λ t. f 0 ∷ tab (λ i. f (suc i)) n ++ t) (tab-ext (λ i. f (suc (n + i))) (λ i. f (suc n + i)) m (λ i l. ap f (sym (suc-add n i))))

pub region-append : (w : List ℕ) (at n m : ℕ) → region 0 w at (n + m) ≡ region 0 w at n ++ region 0 w (at + n) m
unfolding region
region-append w at n m = tab-append (λ i. get_or w (at + i) 0) n m ∙ ap (λ t. tab (λ i. get_or w (at + i) 0) n ++ t) (tab-ext _ _ m (λ i l. ap (λ j. get_or w j 0) (sym (add_assoc at n i))))
