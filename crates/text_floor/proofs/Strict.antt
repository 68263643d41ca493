-- Why a text's reading is strict: two texts whose columns show the same numbers are the same bytes. Assumes nothing.
use Prim.Native.Nat.{ℕ, zero, suc, ◌+◌, ◌-◌, ◌*◌, ◌/◌, ◌%◌, ◌≤◌, ◌<◌}
use native.Mathlib.Omega.{arith}
use mathlib.Core.Path.{◌≡◌, refl, sym, ap, ◌∙◌, subst}
use mathlib.Core.Bool.{Bool, true, false}
use mathlib.Core.List.{List}
use borrow.Author.Tests.{eqb-true, ltb-true, ltb-false}
use lib.Dec.{eqb, ltb}
use lib.IntN.{nat_abs}
use lib.ListN.{length, get_or, take, drop, length-drop}
use lib.Seq.{ext_get_or, get_or-take, get_or-drop, length-take-le}
use Rattle.text_columns.specs.declared.Scan.{Scan}
use Rattle.text_columns.specs.declared.Scan.TheVariants.{Blank, Minus, Zero, Whole, Negative, Bad}
use Rattle.text_columns.specs.Columns.{is_number, is_whole, size_of, value_of}
use Rattle.text_columns.proofs.Columns.{and_both}
use Rattle.text_columns.proofs.Strict.{alike}
use Rattle.text_floor.specs.Text.{column_at, first, second, third, is_line, is_corners, every, point_count, triangle_count, is_head, is_text}
use Rattle.text_floor.proofs.Lines.{known}

-- ---- every line of a text is a line of numbers

whole-number : (x : Scan) → is_whole x ≡ true → is_number x ≡ true
whole-number Blank e = e
whole-number Minus e = e
whole-number Zero e = e
whole-number (Whole n) e = e
whole-number (Negative n) e = refl
whole-number Bad e = e

-- line i: three numbers and a line feed
pub record Line (s : List ℕ) (i : ℕ) : Type 0 where
  pub first : is_number (first s i) ≡ true
  pub second : is_number (second s i) ≡ true
  pub third : is_number (third s i) ≡ true
  pub feed : get_or s (19 * i + 18) 0 ≡ 10

line_of : (s : List ℕ) (i : ℕ) → is_line s i ≡ true → Line s i
unfolding is_line
line_of s i e =
    let a = and_both (is_number (column_at s (19 * i))) _ e in
    let b = and_both (is_number (column_at s (19 * i + 6))) _ a.1 in
    let c = and_both (is_number (column_at s (19 * i + 12))) _ b.1 in
    record { first = a.0; second = b.0; third = c.0; feed = eqb-true (get_or s (19 * i + 18) 0) 10 c.1 }

corners-line : (s : List ℕ) (i : ℕ) → is_corners s i ≡ true → Line s i
unfolding is_corners
corners-line s i e =
    let a = and_both (is_whole (column_at s (19 * i))) _ e in
    let b = and_both (is_whole (column_at s (19 * i + 6))) _ a.1 in
    let c = and_both (is_whole (column_at s (19 * i + 12))) _ b.1 in
    record {
      first = whole-number (column_at s (19 * i)) a.0;
      second = whole-number (column_at s (19 * i + 6)) b.0;
      third = whole-number (column_at s (19 * i + 12)) c.0;
      feed = eqb-true (get_or s (19 * i + 18) 0) 10 c.1;
    }

every-at : (p : ℕ → Bool) (from k i : ℕ) → every p from k ≡ true → i < k → p (from + i) ≡ true
unfolding every
every-at p from zero i e h = absurd (omega arith)
every-at p from (suc k) i e h = let d = and_both (every p from k) _ e in pick (ltb i k) refl (λ l. every-at p from k i d.0 l) d.1
  where
    pick : (b : Bool) → ltb i k ≡ b → (i < k → p (from + i) ≡ true) → p (from + k) ≡ true → p (from + i) ≡ true
    pick true l below last = below (ltb-true i k l)
    pick false l below last = let z : k ≡ i = omega (arith, ltb-false i k l) in rw z at last

line-by : (s : List ℕ) (i j : ℕ) → j ≡ i → Line s j → Line s i
line-by s i j e h = subst (Line s) e h

lines : (s : List ℕ) → is_text s ≡ true → (i : ℕ) → i < 1 + point_count s + triangle_count s → Line s i
unfolding is_text is_head
lines s e zero h = line_of s 0 (and_both (is_line s 0) _ (and_both (is_head s) _ e).0).0
lines s e (suc i) h =
    let a = and_both (is_head s) _ e in
    let b = and_both (eqb (length s) (19 * (1 + point_count s + triangle_count s))) _ a.1 in
    let c = and_both (every (is_line s) 1 (point_count s)) _ b.1 in
    pick (ltb i (point_count s)) refl c.0 c.1
  where
    pick : (b : Bool) → ltb i (point_count s) ≡ b → every (is_line s) 1 (point_count s) ≡ true → every (is_corners s) (1 + point_count s) (triangle_count s) ≡ true → Line s (suc i)
    pick true l p c = line-by s (suc i) (1 + i) (omega arith) (line_of s (1 + i) (every-at (is_line s) 1 (point_count s) i p (ltb-true i (point_count s) l)))
    pick false l p c =
        let n = point_count s in
        let g = ltb-false i n l in
        line-by s (suc i) (1 + n + (i - n)) (omega (arith, g)) (corners-line s (1 + n + (i - n)) (every-at (is_corners s) (1 + n) (triangle_count s) (i - n) c (omega (arith, g))))

-- ---- columns that show the same number are the same bytes

same-column : (s t : List ℕ) (a : ℕ) → a + 6 ≤ length s → a + 6 ≤ length t → is_number (column_at s a) ≡ true → is_number (column_at t a) ≡ true → value_of (column_at s a) ≡ value_of (column_at t a) → take 6 (drop a s) ≡ take 6 (drop a t)
same-column s t a h k d e v = alike (take 6 (drop a s)) (take 6 (drop a t)) (length-take-le 6 (drop a s) (omega (arith, length-drop a s))) (length-take-le 6 (drop a t) (omega (arith, length-drop a t))) d e v

byte-in : (s t : List ℕ) (a r : ℕ) → r < 6 → take 6 (drop a s) ≡ take 6 (drop a t) → get_or s (a + r) 0 ≡ get_or t (a + r) 0
byte-in s t a r h e = sym (get_or-take 6 (drop a s) r 0 h ∙ get_or-drop a s r 0) ∙ ap (λ (l : List ℕ). get_or l r 0) e ∙ (get_or-take 6 (drop a t) r 0 h ∙ get_or-drop a t r 0)

-- the columns of two texts show the same numbers
pub record Alike (s t : List ℕ) (i : ℕ) : Type 0 where
  pub first : value_of (first s i) ≡ value_of (first t i)
  pub second : value_of (second s i) ≡ value_of (second t i)
  pub third : value_of (third s i) ≡ value_of (third t i)

module _ (s t : List ℕ) (i : ℕ) (in-s : 19 * i + 19 ≤ length s) (in-t : 19 * i + 19 ≤ length t) (p : Line s i) (q : Line t i) (v : Alike s t i) where
  line-byte : (r : ℕ) → r < 19 → get_or s (19 * i + r) 0 ≡ get_or t (19 * i + r) 0
  line-byte r h = go (ltb r 6) (ltb r 12) (ltb r 18) refl refl refl
    where
      go : (x y z : Bool) → ltb r 6 ≡ x → ltb r 12 ≡ y → ltb r 18 ≡ z → get_or s (19 * i + r) 0 ≡ get_or t (19 * i + r) 0
      go true y z e f g = byte-in s t (19 * i) r (ltb-true r 6 e) (same-column s t (19 * i) (omega arith) (omega arith) p.first q.first v.first)
      go false true z e f g =
          let k : 19 * i + r ≡ 19 * i + 6 + (r - 6) = omega (arith, ltb-false r 6 e) in
          rw k (byte-in s t (19 * i + 6) (r - 6) (omega (arith, ltb-false r 6 e, ltb-true r 12 f)) (same-column s t (19 * i + 6) (omega arith) (omega arith) p.second q.second v.second))
      go false false true e f g =
          let k : 19 * i + r ≡ 19 * i + 12 + (r - 12) = omega (arith, ltb-false r 12 f) in
          rw k (byte-in s t (19 * i + 12) (r - 12) (omega (arith, ltb-false r 12 f, ltb-true r 18 g)) (same-column s t (19 * i + 12) (omega arith) (omega arith) p.third q.third v.third))
      go false false false e f g =
          let k : r ≡ 18 = omega (arith, ltb-false r 18 g) in
          rw k (p.feed ∙ sym q.feed)

-- counts that have the same value have the same size
same_size : (x y : Scan) → value_of x ≡ value_of y → size_of x ≡ size_of y
same_size x y v = sym (size_is x) ∙ ap nat_abs v ∙ size_is y
  where
    size_is : (x : Scan) → nat_abs (value_of x) ≡ size_of x
    size_is Blank = refl
    size_is Minus = refl
    size_is Zero = refl
    size_is (Whole n) = refl
    size_is (Negative zero) = refl
    size_is (Negative (suc n)) = refl
    size_is Bad = refl

-- two texts whose columns show the same numbers are the same bytes
pub strict : (s t : List ℕ) → is_text s ≡ true → is_text t ≡ true → ((i : ℕ) → i < 1 + point_count s + triangle_count s → Alike s t i) → s ≡ t
strict s t d e v = ext_get_or 0 s t long byte
  where
    m : point_count s ≡ point_count t
    m = same_size (first s 0) (first t 0) (v 0 (omega arith)).first

    n : triangle_count s ≡ triangle_count t
    n = same_size (second s 0) (second t 0) (v 0 (omega arith)).second

    long : length s ≡ length t
    long = omega (arith, m, n, (known s d).long, (known t e).long)

    byte : (k : ℕ) → k < length s → get_or s k 0 ≡ get_or t k 0
    byte k h =
        let i : k / 19 < 1 + point_count s + triangle_count s = omega (arith, (known s d).long) in
        let j : k / 19 < 1 + point_count t + triangle_count t = omega (arith, m, n) in
        let z : k ≡ 19 * (k / 19) + k % 19 = omega arith in
        subst (λ (x : ℕ). get_or s x 0 ≡ get_or t x 0) (sym z) (line-byte s t (k / 19) (omega (arith, (known s d).long)) (omega (arith, m, n, (known s d).long, (known t e).long)) (lines s d (k / 19) i) (lines t e (k / 19) j) (v (k / 19) i) (k % 19) (omega arith))
