-- Laws of the definitions over lists: of two lists of sides or of values, one after the other. Assumes nothing.
use Prim.Native.Nat.{ℕ, suc, ◌≤◌}
use native.Mathlib.Omega.{arith}
use mathlib.Core.Path.{◌≡◌, refl, sym, ap}
use mathlib.Core.Bool.{Bool, true, false, cond, ◌||◌}
use mathlib.Core.List.{List, [], ◌∷◌, ◌++◌, append_assoc}
use lib.Dec.{eqb}
use lib.ListN.{length}
use lib.Ieee.{Float}
use Rattle.complex.specs.declared.Complex.{Complex}
use Rattle.complex.specs.Complex.{cadd}
use Rattle.mesh.specs.Mesh.{Side, side, Tri, tri}
use Rattle.pass_boundary.specs.Boundary.{around, walked, kept, Mark, ends, marks, sum_from, first_or, touched}
use Rattle.pass_boundary.specs.Work.{is_marked}

-- ---- sides

pub walked-snoc : (ts : List Tri) (t : Tri) → walked (ts ++ (t ∷ [])) ≡ walked ts ++ around t
unfolding walked
walked-snoc [] (tri a b c) = refl
walked-snoc (tri a b c ∷ ts) t = ap (λ (l : List Side). around (tri a b c) ++ l) (walked-snoc ts t)

pub kept_append : (f : Side → Bool) (xs ys : List Side) → kept f (xs ++ ys) ≡ kept f xs ++ kept f ys
unfolding kept
kept_append f [] ys = refl
kept_append f (s ∷ xs) ys = rw (kept_append f xs ys) (go (f s))
  where
    go : (b : Bool) → cond b (s ∷ kept f xs ++ kept f ys) (kept f xs ++ kept f ys) ≡ cond b (s ∷ kept f xs) (kept f xs) ++ kept f ys
    go true = refl
    go false = refl

pub kept-few : (f : Side → Bool) (xs : List Side) → length (kept f xs) ≤ length xs
unfolding kept
kept-few f [] = omega arith
kept-few f (s ∷ xs) = go (f s) (kept-few f xs)
  where
    go : (b : Bool) → length (kept f xs) ≤ length xs → length (cond b (s ∷ kept f xs) (kept f xs)) ≤ suc (length xs)
    go true h = omega arith
    go false h = omega arith

-- ---- values

pub marks-append : (X Y : ℕ → Float) (xs ys : List Side) → marks X Y (xs ++ ys) ≡ marks X Y xs ++ marks X Y ys
unfolding marks
marks-append X Y [] ys = refl
marks-append X Y (s ∷ xs) ys = rw (marks-append X Y xs ys) (sym (append_assoc (ends X Y s) (marks X Y xs) (marks X Y ys)))

pub sum-append : (v : ℕ) (z : Complex) (ms ns : List Mark) → sum_from v z (ms ++ ns) ≡ sum_from v (sum_from v z ms) ns
unfolding sum_from
sum-append v z [] ns = refl
sum-append v z (m ∷ ms) ns = sum-append v (cond (eqb v m.point) (cadd z m.value) z) ms ns

pub flag-append : (v x : ℕ) (ms ns : List Mark) → cond (is_marked v (ms ++ ns)) 1 x ≡ cond (is_marked v ns) 1 (cond (is_marked v ms) 1 x)
unfolding is_marked
flag-append v x [] ns = refl
flag-append v x (m ∷ ms) ns = go (eqb v m.point) (is_marked v ns) (flag-append v x ms ns)
  where
    go : (b c : Bool) → cond (is_marked v (ms ++ ns)) 1 x ≡ cond c 1 (cond (is_marked v ms) 1 x) → cond (b || is_marked v (ms ++ ns)) 1 x ≡ cond c 1 (cond (b || is_marked v ms) 1 x)
    go true true h = refl
    go true false h = refl
    go false c h = h

-- the first value at v is in the front list if there is one
first-marked : (v : ℕ) (z : Complex) (ms ns : List Mark) → is_marked v ms ≡ true → first_or v z (ms ++ ns) ≡ first_or v z ms
unfolding is_marked first_or
first-marked v z [] ns h = let n : ◌≡◌ {A = ℕ} 0 1 = ap (λ (b : Bool). cond b 1 0) h in absurd (omega arith)
first-marked v z (m ∷ ms) ns h = go (eqb v m.point) h (first-marked v z ms ns)
  where
    go : (b : Bool) → (b || is_marked v ms) ≡ true → (is_marked v ms ≡ true → first_or v z (ms ++ ns) ≡ first_or v z ms) → cond b m.value (first_or v z (ms ++ ns)) ≡ cond b m.value (first_or v z ms)
    go true h more = refl
    go false h more = more h

first-unmarked : (v : ℕ) (z : Complex) (ms ns : List Mark) → is_marked v ms ≡ false → (first_or v z (ms ++ ns) ≡ first_or v z ns) × (first_or v z ms ≡ z)
unfolding is_marked first_or
first-unmarked v z [] ns h = (refl, refl)
first-unmarked v z (m ∷ ms) ns h = go (eqb v m.point) h (first-unmarked v z ms ns)
  where
    go : (b : Bool) → (b || is_marked v ms) ≡ false → (is_marked v ms ≡ false → (first_or v z (ms ++ ns) ≡ first_or v z ns) × (first_or v z ms ≡ z)) → (cond b m.value (first_or v z (ms ++ ns)) ≡ first_or v z ns) × (cond b m.value (first_or v z ms) ≡ z)
    go true h more = let n : ◌≡◌ {A = ℕ} 1 0 = ap (λ (b : Bool). cond b 1 0) h in absurd (omega arith)
    go false h more = more h

-- the first value after both, where x is the flag and z the value before them
pub first-append : (v x : ℕ) (z : Complex) (ms ns : List Mark)
    → cond (eqb (cond (is_marked v ms) 1 x) 0) (first_or v (cond (eqb x 0) (first_or v z ms) z) ns) (cond (eqb x 0) (first_or v z ms) z) ≡ cond (eqb x 0) (first_or v z (ms ++ ns)) z
first-append v x z ms ns = go (is_marked v ms) refl (eqb x 0) refl
  where
    go : (b : Bool) → is_marked v ms ≡ b → (e : Bool) → eqb x 0 ≡ e
        → cond (eqb (cond b 1 x) 0) (first_or v (cond e (first_or v z ms) z) ns) (cond e (first_or v z ms) z) ≡ cond e (first_or v z (ms ++ ns)) z
    go true h true k = sym (first-marked v z ms ns h)
    go true h false k = refl
    go false h true k = rw (k, (first-unmarked v z ms ns h).0, (first-unmarked v z ms ns h).1)
    go false h false k = rw k

-- a point has a flag exactly if it is an end
pub marked-touched : (X Y : ℕ → Float) (ss : List Side) (v : ℕ) → is_marked v (marks X Y ss) ≡ touched ss v
unfolding marks is_marked touched
marked-touched X Y [] v = refl
marked-touched X Y (side a b ∷ ss) v = rw (marked-touched X Y ss v)
