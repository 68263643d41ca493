-- A column byte by byte: what the loops of `scan_column` and `put_columns` keep, and the six bytes of a column. Assumes nothing.
use Prim.Native.Nat.{ℕ, zero, suc, ◌+◌, ◌-◌, ◌*◌, ◌/◌, ◌%◌, ◌^◌, ◌≤◌, ◌<◌}
use native.Mathlib.Omega.{arith}
use native.Mathlib.Nat.{pow-suc}
use native.Mathlib.Numerals.{add-one}
use mathlib.Core.Path.{◌≡◌, refl, sym, ap, ◌∙◌}
use mathlib.Core.Bool.{Bool, true, false, cond, ◌&&◌}
use mathlib.Core.List.{List, [], ◌∷◌, ◌++◌, append_assoc, append-nil}
use borrow.Author.Tests.{eqb-true, ltb-true}
use lib.Dec.{eqb, ltb}
use lib.ListN.{length, get_or, take, replicate, length-append, replicate-append-replicate}
use lib.Seq.{sets, take-suc, length-take-le}
use Rattle.text_columns.specs.declared.Scan.{Scan}
use Rattle.text_columns.specs.declared.Scan.TheVariants.{Blank, Minus, Zero, Whole, Negative, Bad}
use Rattle.text_columns.specs.Columns.{lead, in_six, column_of, columns_of, line_of, blank_or_digit, is_lead, is_digit, after_blank, after_minus, step, scan, size_of}
use Rattle.slices.proofs.Runs.{sets-next}

-- ---- tests

pub and_both : (a b : Bool) → (a && b) ≡ true → (a ≡ true) × (b ≡ true)
and_both true b e = (refl, e)
and_both false b e = let z : ◌≡◌ {A = ℕ} 0 1 = cc in absurd (omega arith)

pub lead-range : (b : ℕ) → is_lead b ≡ true → (48 < b) × (b < 58)
unfolding is_lead
lead-range b e = let h = and_both (ltb 48 b) _ e in (ltb-true 48 b h.0, ltb-true b 58 h.1)

pub digit-range : (b : ℕ) → is_digit b ≡ true → (47 < b) × (b < 58)
unfolding is_digit
digit-range b e = let h = and_both (ltb 47 b) _ e in (ltb-true 47 b h.0, ltb-true b 58 h.1)

-- ---- a number of i digits is below 10 ^ i

pub size_step : (s : Scan) (b : ℕ) → size_of (step s b) < 10 * (size_of s + 1)
unfolding step after_blank after_minus
size_step Blank b = go (eqb b 32) (eqb b 45) (eqb b 48) (is_lead b) refl
  where
    go : (u v w x : Bool) → is_lead b ≡ x → size_of (cond u Blank (cond v Minus (cond w Zero (cond x (Whole (b - 48)) Bad)))) < 10
    go true v w x e = omega arith
    go false true w x e = omega arith
    go false false true x e = omega arith
    go false false false true e = omega (arith, (lead-range b e).1)
    go false false false false e = omega arith
size_step Minus b = go (is_lead b) refl
  where
    go : (x : Bool) → is_lead b ≡ x → size_of (cond x (Negative (b - 48)) Bad) < 10
    go true e = omega (arith, (lead-range b e).1)
    go false e = omega arith
size_step Zero b = omega arith
size_step (Whole n) b = go (is_digit b) refl
  where
    go : (x : Bool) → is_digit b ≡ x → size_of (cond x (Whole (10 * n + (b - 48))) Bad) < 10 * (n + 1)
    go true e = omega (arith, (digit-range b e).1)
    go false e = omega arith
size_step (Negative n) b = go (is_digit b) refl
  where
    go : (x : Bool) → is_digit b ≡ x → size_of (cond x (Negative (10 * n + (b - 48))) Bad) < 10 * (n + 1)
    go true e = omega (arith, (digit-range b e).1)
    go false e = omega arith
size_step Bad b = omega arith

size-scan : (l : List ℕ) (i : ℕ) → size_of (scan l i) < 10 ^ i
unfolding scan
size-scan l zero = omega arith
size-scan l (suc i) = omega (arith, size-scan l i, size_step (scan l i) (get_or l i 0), pow-suc 10 i)

pub few : (l : List ℕ) (i : ℕ) → i ≤ 6 → size_of (scan l i) < 1000000
few l zero h = omega (arith, size-scan l 0)
few l (suc zero) h = omega (arith, size-scan l 1)
few l (suc (suc zero)) h = omega (arith, size-scan l 2)
few l (suc (suc (suc zero))) h = omega (arith, size-scan l 3)
few l (suc (suc (suc (suc zero)))) h = omega (arith, size-scan l 4)
few l (suc (suc (suc (suc (suc zero))))) h = omega (arith, size-scan l 5)
few l (suc (suc (suc (suc (suc (suc zero)))))) h = omega (arith, size-scan l 6)
few l (suc (suc (suc (suc (suc (suc (suc i))))))) h = absurd (omega arith)

pub scan-none : (l : List ℕ) → Blank ≡ scan l 0
unfolding scan
scan-none l = refl

pub scan-again : (l : List ℕ) (i : ℕ) {s s' : Scan} → s ≡ scan l i → s' ≡ step s (get_or l i 0) → s' ≡ scan l (i + 1)
unfolding scan
scan-again l i e h = rw (add-one i) (rw e at h)

-- ---- the six bytes of a column

pub blanks : (w : ℕ) → lead false w 0 ≡ replicate w 32
unfolding lead
blanks zero = refl
blanks (suc w) = replicate-append-replicate w 1 32 ∙ ap (λ (n : ℕ). replicate n 32) (add-one w)

one-digit : (w n : ℕ) → lead false (suc w) n ≡ lead false w (n / 10) ++ (blank_or_digit n ∷ [])
unfolding lead blank_or_digit
one-digit w n = go (eqb n 0) refl
  where
    go : (b : Bool) → eqb n 0 ≡ b → cond b (replicate w 32 ++ (32 ∷ [])) (lead false w (n / 10) ++ ((48 + n % 10) ∷ [])) ≡ lead false w (n / 10) ++ (cond b 32 (48 + n % 10) ∷ [])
    go true e = let z : n / 10 ≡ 0 = omega (arith, eqb-true n 0 e) in rw (z, blanks w)
    go false e = refl

no_digit : (m : ℕ) → lead false 0 m ≡ []
unfolding lead
no_digit m = refl

pub six-bytes : (n : ℕ) → column_of n ≡ blank_or_digit (n / 10 / 10 / 10 / 10 / 10) ∷ blank_or_digit (n / 10 / 10 / 10 / 10) ∷ blank_or_digit (n / 10 / 10 / 10) ∷ blank_or_digit (n / 10 / 10) ∷ blank_or_digit (n / 10) ∷ (48 + n % 10) ∷ []
unfolding in_six
six-bytes n = rw (one-digit 4 (n / 10), one-digit 3 (n / 10 / 10), one-digit 2 (n / 10 / 10 / 10), one-digit 1 (n / 10 / 10 / 10 / 10), one-digit 0 (n / 10 / 10 / 10 / 10 / 10), no_digit (n / 10 / 10 / 10 / 10 / 10 / 10))

pub column-length : (n : ℕ) → length (column_of n) ≡ 6
column-length n = ap length (six-bytes n)

pub columns-length : (ns : List ℕ) → length (columns_of ns) ≡ 6 * length ns
unfolding columns_of
columns-length [] = refl
columns-length (n ∷ ns) = length-append (column_of n) (columns_of ns) ∙ omega (arith, column-length n, columns-length ns)

pub line-length : (ns : List ℕ) → length (line_of ns) ≡ 6 * length ns + 1
unfolding line_of
line-length ns = length-append (columns_of ns) (10 ∷ []) ∙ omega (arith, columns-length ns)

-- ---- a row of columns

columns-append : (s t : List ℕ) → columns_of (s ++ t) ≡ columns_of s ++ columns_of t
unfolding columns_of
columns-append [] t = refl
columns-append (n ∷ s) t = ap (λ (l : List ℕ). column_of n ++ l) (columns-append s t) ∙ sym (append_assoc (column_of n) (columns_of s) (columns_of t))

single : (m : ℕ) → columns_of (m ∷ []) ≡ column_of m
unfolding columns_of
single m = append-nil (column_of m)

pub columns-none : (row out : List ℕ) (at : ℕ) → out ≡ sets out at (columns_of (take 0 row))
unfolding columns_of
columns-none row out at = refl

pub columns-again : (row out₀ : List ℕ) {out out' : List ℕ} (at j : ℕ) → j < length row → out ≡ sets out₀ at (columns_of (take j row)) → out' ≡ sets out (at + 6 * j) (column_of (get_or row j 0))
    → out' ≡ sets out₀ at (columns_of (take (j + 1) row))
columns-again row out₀ {out} {out'} at j h e s =
    let n : length (take j row) ≡ j = length-take-le j row (omega arith) in
    let p : at + 6 * j ≡ at + length (columns_of (take j row)) = omega (arith, columns-length (take j row), n) in
    let z : take (j + 1) row ≡ take j row ++ (get_or row j 0 ∷ []) = rw add-one (take-suc row j 0 h) in
    s ∙ rw e (sets-next out₀ at (at + 6 * j) (columns_of (take j row)) (column_of (get_or row j 0)) p) ∙ ap (sets out₀ at) (sym (ap columns_of z ∙ columns-append (take j row) (get_or row j 0 ∷ []) ∙ ap (λ (l : List ℕ). columns_of (take j row) ++ l) (single (get_or row j 0))))

-- the line feed behind a row
pub line-done : (row out₀ : List ℕ) {out out' : List ℕ} (at end : ℕ) → end ≡ at + 6 * length row → out ≡ sets out₀ at (columns_of row) → out' ≡ sets out end (10 ∷ []) → out' ≡ sets out₀ at (line_of row)
unfolding line_of
line-done row out₀ at end p e s = s ∙ rw e (sets-next out₀ at end (columns_of row) (10 ∷ []) (omega (arith, columns-length row)))
