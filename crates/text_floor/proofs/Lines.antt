-- What the loops over the lines of a text keep, and what a right text knows of its counts. Assumes nothing.
use Prim.Native.Nat.{ℕ, zero, suc, ◌+◌, ◌-◌, ◌*◌, ◌≤◌, ◌<◌}
use native.Mathlib.Omega.{arith}
use native.Mathlib.Numerals.{add-one}
use mathlib.Core.Path.{◌≡◌, refl, sym, ap, ◌∙◌}
use mathlib.Core.Bool.{Bool, true, false, not, ◌&&◌}
use mathlib.Core.List.{List, [], ◌∷◌, ◌++◌}
use borrow.Author.Tests.{eqb-true, le-leb, leb-true, ne_eqb}
use lib.Dec.{eqb, leb}
use lib.ListN.{length, length-append, length-take, take, drop}
use lib.Seq.{sets}
use lib.Ieee.{Float}
use Rattle.float.specs.Double.{lit}
use Rattle.text_columns.specs.Columns.{is_whole, size_of, double_of}
use Rattle.text_columns.proofs.Columns.{few, and_both}
use Rattle.slices.proofs.Runs.{sets-next}
use Rattle.text_floor.specs.Text.{column_at, first, second, third, is_line, every, point_count, triangle_count, is_head, is_text, radians, points_up_to, angles_up_to, sizes_at, corners_up_to, threshold_in, ReadTo}
use Rattle.std.specs.Prelude.{None, Some}

-- a column has at most six digits
pub small-column : (s : List ℕ) (a : ℕ) → size_of (column_at s a) < 1000000
small-column s a = few (take 6 (drop a s)) (length (take 6 (drop a s))) (omega (arith, length-take 6 (drop a s)))

-- ---- tests

pub not-true : (a : Bool) → not a ≡ true → a ≡ false
not-true false e = refl
not-true true e = let z : ◌≡◌ {A = ℕ} 0 1 = cc in absurd (omega arith)

pub not-false : (a : Bool) → not a ≡ false → a ≡ true
not-false true e = refl
not-false false e = let z : ◌≡◌ {A = ℕ} 0 1 = cc in absurd (omega arith)

-- what a chain of tests returns is their conjunction: a flag b of the code is the test t, or a number n is the m that is tested
module _ {b r : Bool} (t s : Bool) (e : b ≡ t) where
  pub stops : not b ≡ true → r ≡ false → r ≡ t && s
  stops h q = rw (sym e ∙ not-true b h) q

  pub goes : not b ≡ false → r ≡ s → r ≡ t && s
  goes h q = rw (sym e ∙ not-false b h) q

pub within : {n : ℕ} {r : Bool} (m k : ℕ) (s : Bool) → n ≡ m → n ≤ k → r ≡ s → r ≡ leb m k && s
within m k s e h q = rw (le-leb m k (rw e at h)) q

pub within-last : (n m k : ℕ) → n ≡ m → leb n k ≡ leb m k
within-last n m k e = ap (λ i. leb i k) e

pub ruleset tests = (stops, goes, within, within-last)

and_no : (a : Bool) → (a && false) ≡ false
and_no true = refl
and_no false = refl

pub every-none : (p : ℕ → Bool) (from : ℕ) → every p from 0 ≡ true
unfolding every
every-none p from = refl

pub every-again : (p : ℕ → Bool) (from i : ℕ) → every p from i ≡ true → p (from + i) ≡ true → every p from (i + 1) ≡ true
unfolding every
every-again p from i h e = rw (add-one i, h, e) refl

-- where the test fails at i it does not hold of more numbers
every-fails : (p : ℕ → Bool) (from i d : ℕ) → p (from + i) ≡ false → every p from (suc i + d) ≡ false
unfolding every
every-fails p from i zero e = let z : suc i + 0 ≡ suc i = omega arith in rw (z, e) (and_no (every p from i))
every-fails p from i (suc d) e = let z : suc i + suc d ≡ suc (suc i + d) = omega arith in rw (z, every-fails p from i d e) refl

pub every-stops : (p : ℕ → Bool) (from i k : ℕ) → i < k → p (from + i) ≡ false → every p from k ≡ false
every-stops p from i k h e = let z : k ≡ suc i + (k - suc i) = omega arith in rw z (every-fails p from i (k - suc i) e)

pub head_small : (s : List ℕ) → is_head s ≡ true → (point_count s ≤ 256) × (triangle_count s ≤ 256)
unfolding is_head
head_small s e =
    let a = and_both (is_line s 0) _ e in
    let b = and_both (is_whole (first s 0)) _ a.1 in
    let c = and_both (is_whole (second s 0)) _ b.1 in
    let d = and_both (leb (point_count s) 256) _ c.1 in
    (leb-true (point_count s) 256 d.0, leb-true (triangle_count s) 256 d.1)

-- fewer bytes than a line are no text
pub short-text : (s : List ℕ) → length s < 19 → false ≡ is_text s
unfolding is_text
short-text s h =
    let z : ¬ (length s ≡ 19 * (1 + point_count s + triangle_count s)) = λ e. omega arith in
    rw (ne_eqb (length s) (19 * (1 + point_count s + triangle_count s)) z) (sym (and_no (is_head s)))

pub no-head : (s : List ℕ) → is_head s ≡ false → false ≡ is_text s
unfolding is_text
no-head s e = rw e refl

-- what a text is known by
pub record Known (s : List ℕ) : Type 0 where
  pub few-points : point_count s ≤ 256
  pub few-triangles : triangle_count s ≤ 256
  pub long : length s ≡ 19 * (1 + point_count s + triangle_count s)

pub known : (s : List ℕ) → is_text s ≡ true → Known s
unfolding is_text
known s e =
    let a = and_both (is_head s) _ e in
    let b = and_both (eqb (length s) (19 * (1 + point_count s + triangle_count s))) _ a.1 in
    let h = head_small s a.0 in
    record { few-points = h.0; few-triangles = h.1; long = eqb-true (length s) (19 * (1 + point_count s + triangle_count s)) b.0 }

-- ---- the slices

module _ (s : List ℕ) where
  pub points-length : (n : ℕ) → length (points_up_to s n) ≡ 3 * n
  unfolding points_up_to
  points-length zero = refl
  points-length (suc n) = length-append (points_up_to s n) _ ∙ omega (arith, points-length n)

  pub angles-length : (n : ℕ) → length (angles_up_to s n) ≡ n
  unfolding angles_up_to
  angles-length zero = refl
  angles-length (suc n) = length-append (angles_up_to s n) _ ∙ omega (arith, angles-length n)

  pub corners-length : (n t : ℕ) → length (corners_up_to s n t) ≡ 3 * t
  unfolding corners_up_to
  corners-length n zero = refl
  corners-length n (suc t) = length-append (corners_up_to s n t) _ ∙ omega (arith, corners-length n t)

-- lists g that grow by f i in step i, where they have reached the place `at i`
pub record Grows {A : Type 0} (g f : ℕ → List A) (at : ℕ → ℕ) : Type 0 where
  pub none : g 0 ≡ []
  pub next : (i : ℕ) → g (suc i) ≡ g i ++ f i
  pub place : (i : ℕ) → length (g i) ≡ at i

pub points-grow : (s : List ℕ) → Grows (points_up_to s) (λ i. double_of (first s (1 + i)) ∷ double_of (second s (1 + i)) ∷ lit 0 ∷ []) (λ i. 3 * i)
unfolding points_up_to
points-grow s = record { none = refl; next = λ i. refl; place = points-length s }

pub angles-grow : (s : List ℕ) → Grows (angles_up_to s) (λ i. radians (third s (1 + i)) ∷ []) (λ i. i)
unfolding angles_up_to
angles-grow s = record { none = refl; next = λ i. refl; place = angles-length s }

pub corners-grow : (s : List ℕ) (n : ℕ) → Grows (corners_up_to s n) (λ i. sizes_at s (1 + n + i)) (λ i. 3 * i)
unfolding corners_up_to
corners-grow s n = record { none = refl; next = λ i. refl; place = corners-length s n }

-- a slice with the first i steps written
module _ {A : Type 0} {g f : ℕ → List A} {at : ℕ → ℕ} (w : Grows g f at) (out₀ : List A) where
  pub put-none : out₀ ≡ sets out₀ 0 (g 0)
  put-none = rw w.none refl

  pub put-again : {out out' : List A} (i : ℕ) → out ≡ sets out₀ 0 (g i) → out' ≡ sets out (at i) (f i) → out' ≡ sets out₀ 0 (g (i + 1))
  put-again {out} {out'} i h e = rw (add-one i, w.next i) (e ∙ rw h (sets-next out₀ 0 (at i) (g i) (f i) (omega (arith, w.place i))))

-- ---- the answer

pub read_done : {p α p' α' : List Float} {k k' : List ℕ} {n t : ℕ} {x : Float} (s : List ℕ) → is_text s ≡ true → n ≡ point_count s → t ≡ triangle_count s → x ≡ threshold_in s
    → p' ≡ sets p 0 (points_up_to s n) → α' ≡ sets α 0 (angles_up_to s n) → k' ≡ sets k 0 (corners_up_to s n t) → ReadTo s p α k (Some (record { points = n; triangles = t; threshold = x })) p' α' k'
read_done s e a b c hp hα hk = record { answer = rw (e, a, b, c) refl; points = rw (e, ← a) hp; angles = rw (e, ← a) hα; corners = rw (e, ← a, ← b) hk }

pub read-other : {p α : List Float} {k : List ℕ} (s : List ℕ) → is_text s ≡ false → ReadTo s p α k None p α k
read-other s e = record { answer = rw e refl; points = rw e refl; angles = rw e refl; corners = rw e refl }
