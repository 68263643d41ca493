-- Why the reading is strict: the column of a number reads as that number, and a column that reads as a number is that number's column.
-- So two columns that read alike have the same bytes, and a number is read exactly. Assumes nothing.
use Prim.Native.Nat.{ℕ, zero, suc, ◌+◌, ◌-◌, ◌*◌, ◌/◌, ◌%◌, ◌^◌, ◌≤◌, ◌<◌, compare}
use native.Mathlib.Omega.{arith}
use native.Mathlib.Nat.{pow-suc}
use native.Mathlib.Numerals.{add-one}
use mathlib.Core.Path.{◌≡◌, refl, sym, ap, ◌∙◌, subst}
use mathlib.Core.Bool.{Bool, true, false, cond}
use mathlib.Core.List.{List, [], ◌∷◌, ◌++◌}
use borrow.Author.Tests.{eqb-true, ne_eqb, lt-ltb}
use lib.Dec.{eqb, ltb}
use lib.IntN.{ℤ, pos, negsuc}
use lib.Ieee.{Format, binary64, prec, emax, low, inf, size, nearest, odd, units, round, neg, of_int, of_bits}
use Rattle.float.specs.Double.{lit}
use lib.ListN.{length, get_or, take, replicate, length-append, length-replicate, get_or-replicate, replicate-append-replicate, get_or-append}
use lib.Seq.{take-suc, take-length, get_or-append_seam}
use Rattle.text_columns.specs.declared.Scan.{Scan}
use Rattle.text_columns.specs.declared.Scan.TheVariants.{Blank, Minus, Zero, Whole, Negative, Bad}
use Rattle.text_columns.specs.Columns.{mark, lead, in_six, column, InColumn, is_lead, is_digit, after_blank, after_minus, step, scan, shown, is_number, value_of, double_of}
use Rattle.text_columns.proofs.Columns.{lead-range, digit-range, blanks}

-- ---- one byte more

-- what stands behind the first i bytes does not show in them
scan-front : (p q : List ℕ) (i : ℕ) → i ≤ length p → scan (p ++ q) i ≡ scan p i
unfolding scan
scan-front p q zero h = refl
scan-front p q (suc i) h = rw (scan-front p q i (omega arith), get_or-append p q 0 i (omega arith))

pub shown-snoc : (p : List ℕ) (b : ℕ) → shown (p ++ (b ∷ [])) ≡ step (shown p) b
unfolding scan
shown-snoc p b = ap (scan (p ++ (b ∷ []))) (length-append p (b ∷ []) ∙ add-one (length p)) ∙ rw (scan-front p (b ∷ []) (length p) (omega arith), get_or-append_seam p b [] 0)

digit-here : (d : ℕ) → d < 10 → is_digit (48 + d) ≡ true
unfolding is_digit
digit-here d h = rw (lt-ltb 47 (48 + d) (omega arith), lt-ltb (48 + d) 58 (omega arith))

lead-here : (d : ℕ) → 0 < d → d < 10 → is_lead (48 + d) ≡ true
unfolding is_lead
lead-here d l h = rw (lt-ltb 48 (48 + d) (omega arith), lt-ltb (48 + d) 58 (omega arith))

-- ---- the column of a number reads as that number

blank-scan : (w i : ℕ) → i ≤ w → scan (replicate w 32) i ≡ Blank
unfolding scan step after_blank
blank-scan w zero h = refl
blank-scan w (suc i) h = rw (blank-scan w i (omega arith), get_or-replicate {A = ℕ} w i 32 0 (omega arith)) refl

blanks-shown : (w : ℕ) → shown (replicate w 32) ≡ Blank
blanks-shown w = ap (scan (replicate w 32)) (length-replicate w 32) ∙ blank-scan w w (omega arith)

-- what the digits of n show, with a blank and with a minus before them
abbrev plain : ℕ → Scan
plain zero = Blank
plain (suc n) = Whole (suc n)

abbrev signed : ℕ → Scan
signed zero = Minus
signed (suc n) = Negative (suc n)

after-plain : (q d n : ℕ) → n ≡ 10 * q + d → d < 10 → 0 < n → step (plain q) (48 + d) ≡ Whole n
unfolding step after_blank
after-plain zero d n e h l =
    let p : 0 < d = omega arith in
    let v : 48 + d - 48 ≡ n = omega arith in
    rw (ne_eqb (48 + d) 32 (omega arith), ne_eqb (48 + d) 45 (omega arith), ne_eqb (48 + d) 48 (omega arith), lead-here d p h) (ap Whole v)
after-plain (suc q) d n e h l =
    let v : 10 * suc q + (48 + d - 48) ≡ n = omega arith in
    rw (digit-here d h) (ap Whole v)

after-signed : (q d n : ℕ) → n ≡ 10 * q + d → d < 10 → 0 < n → step (signed q) (48 + d) ≡ Negative n
unfolding step after_minus
after-signed zero d n e h l =
    let p : 0 < d = omega arith in
    let v : 48 + d - 48 ≡ n = omega arith in
    rw (lead-here d p h) (ap Negative v)
after-signed (suc q) d n e h l =
    let v : 10 * suc q + (48 + d - 48) ≡ n = omega arith in
    rw (digit-here d h) (ap Negative v)

-- the digits of a number above 0: its last digit behind those of its tenth
lead-more : (minus : Bool) (w q d n : ℕ) → n ≡ 10 * q + d → d < 10 → 0 < n → lead minus (suc w) n ≡ lead minus w q ++ ((48 + d) ∷ [])
unfolding lead
lead-more minus w q d n e h l =
    let a : n / 10 ≡ q = omega arith in
    let b : n % 10 ≡ d = omega arith in
    rw (ne_eqb n 0 (omega arith), a, b) refl

lead-none : (minus : Bool) (w : ℕ) → lead minus (suc w) 0 ≡ replicate w 32 ++ (mark minus ∷ [])
unfolding lead
lead-none minus w = refl

no-digits : (minus : Bool) (n : ℕ) → shown (lead minus 0 n) ≡ Blank
unfolding lead scan
no-digits minus n = refl

plain-shown : (w n : ℕ) → n < 10 ^ w → shown (lead false w n) ≡ plain n
unfolding step after_blank
plain-shown zero zero h = no-digits false 0
plain-shown zero (suc n) h = absurd (omega arith)
plain-shown (suc w) zero h = ap shown (lead-none false w) ∙ shown-snoc (replicate w 32) 32 ∙ rw (blanks-shown w) refl
plain-shown (suc w) (suc n) h =
    let q = suc n / 10 in
    let d = suc n % 10 in
    let e : suc n ≡ 10 * (suc n / 10) + suc n % 10 = omega arith in
    let l : suc n / 10 < 10 ^ w = omega (arith, pow-suc 10 w) in
    ap shown (lead-more false w q d (suc n) e (omega arith) (omega arith)) ∙ shown-snoc (lead false w q) (48 + d)
    ∙ ap (λ (s : Scan). step s (48 + d)) (plain-shown w q l) ∙ after-plain q d (suc n) e (omega arith) (omega arith)

minus-shown : (w : ℕ) → shown (lead true (suc w) 0) ≡ Minus
unfolding step after_blank
minus-shown w = ap shown (lead-none true w) ∙ shown-snoc (replicate w 32) 45 ∙ rw (blanks-shown w) refl

signed-shown : (w n : ℕ) → n < 10 ^ w → shown (lead true (suc w) n) ≡ signed n
signed-shown zero zero h = minus-shown 0
signed-shown zero (suc n) h = absurd (omega arith)
signed-shown (suc w) zero h = minus-shown (suc w)
signed-shown (suc w) (suc n) h =
    let q = suc n / 10 in
    let d = suc n % 10 in
    let e : suc n ≡ 10 * (suc n / 10) + suc n % 10 = omega arith in
    let l : suc n / 10 < 10 ^ w = omega (arith, pow-suc 10 w) in
    ap shown (lead-more true (suc w) q d (suc n) e (omega arith) (omega arith)) ∙ shown-snoc (lead true (suc w) q) (48 + d)
    ∙ ap (λ (s : Scan). step s (48 + d)) (signed-shown w q l) ∙ after-signed q d (suc n) e (omega arith) (omega arith)

abbrev whole : ℕ → Scan
whole zero = Zero
whole (suc n) = Whole (suc n)

whole-shown : (n : ℕ) → n < 1000000 → shown (column (pos n)) ≡ whole n
unfolding in_six step after_blank
whole-shown zero h = shown-snoc (lead false 5 0) 48 ∙ rw (plain-shown 5 0 (omega arith)) refl
whole-shown (suc n) h =
    let e : suc n ≡ 10 * (suc n / 10) + suc n % 10 = omega arith in
    let l : suc n / 10 < 100000 = omega arith in
    shown-snoc (lead false 5 (suc n / 10)) (48 + suc n % 10) ∙ ap (λ (s : Scan). step s (48 + suc n % 10)) (plain-shown 5 (suc n / 10) l) ∙ after-plain (suc n / 10) (suc n % 10) (suc n) e (omega arith) (omega arith)

negative-shown : (n : ℕ) → suc n < 100000 → shown (column (negsuc n)) ≡ Negative (suc n)
unfolding in_six
negative-shown n h =
    let e : suc n ≡ 10 * (suc n / 10) + suc n % 10 = omega arith in
    let l : suc n / 10 < 10000 = omega arith in
    shown-snoc (lead true 5 (suc n / 10)) (48 + suc n % 10) ∙ ap (λ (s : Scan). step s (48 + suc n % 10)) (signed-shown 4 (suc n / 10) l) ∙ after-signed (suc n / 10) (suc n % 10) (suc n) e (omega arith) (omega arith)

pub column-reads : (z : ℤ) → InColumn z → (is_number (shown (column z)) ≡ true) × (value_of (shown (column z)) ≡ z)
column-reads (pos zero) h = (ap is_number (whole-shown 0 h), ap value_of (whole-shown 0 h))
column-reads (pos (suc n)) h = (ap is_number (whole-shown (suc n) h), ap value_of (whole-shown (suc n) h))
column-reads (negsuc n) h = (ap is_number (negative-shown n h), ap value_of (negative-shown n h))

-- ---- a column that reads as a number is that number's

-- the only w bytes p after which a reading stands at s
abbrev Shape : ℕ → List ℕ → Scan → Type 0
Shape w p Blank = p ≡ replicate w 32
Shape w p Minus = (p ≡ lead true w 0) × (0 < w)
Shape w p Zero = p ≡ replicate (w - 1) 32 ++ (48 ∷ [])
Shape w p (Whole n) = (p ≡ lead false w n) × (0 < n)
Shape w p (Negative n) = (p ≡ lead true w n) × (0 < n)
Shape w p Bad = Unit {0}

more-blanks : (w : ℕ) → ◌++◌ {A = ℕ} (replicate w 32) (32 ∷ []) ≡ replicate (suc w) 32
more-blanks w = replicate-append-replicate w 1 32 ∙ ap (λ (n : ℕ). replicate n 32) (add-one w)

-- a digit d behind the digits of q
digit-shape : (minus : Bool) (w q n b : ℕ) (p : List ℕ) → p ≡ lead minus w q → n ≡ 10 * q + (b - 48) → 47 < b → b < 58 → 0 < n → (p ++ (b ∷ []) ≡ lead minus (suc w) n) × (0 < n)
digit-shape minus w q n b p e v l h o =
    let z : b ≡ 48 + (b - 48) = omega arith in
    (rw e (ap (λ (x : ℕ). lead minus w q ++ (x ∷ [])) z) ∙ sym (lead-more minus w q (b - 48) n v (omega arith) o), o)

shape-blank : (w b : ℕ) (p : List ℕ) (t u v x : Bool) → eqb b 32 ≡ t → eqb b 45 ≡ u → eqb b 48 ≡ v → is_lead b ≡ x → p ≡ replicate w 32
    → Shape (suc w) (p ++ (b ∷ [])) (cond t Blank (cond u Minus (cond v Zero (cond x (Whole (b - 48)) Bad))))
shape-blank w b p true u v x e₁ e₂ e₃ e₄ h = rw (h, eqb-true b 32 e₁) (more-blanks w)
shape-blank w b p false true v x e₁ e₂ e₃ e₄ h = (rw (h, eqb-true b 45 e₂) (sym (lead-none true w)), omega arith)
shape-blank w b p false false true x e₁ e₂ e₃ e₄ h = let z : suc w - 1 ≡ w = omega arith in rw (h, eqb-true b 48 e₃, z) refl
shape-blank w b p false false false true e₁ e₂ e₃ e₄ h =
    let r = lead-range b e₄ in
    digit-shape false w 0 (b - 48) b p (h ∙ sym (blanks w)) (omega arith) (omega (arith, r.0)) r.1 (omega (arith, r.0))
shape-blank w b p false false false false e₁ e₂ e₃ e₄ h = tt

shape-minus : (w b : ℕ) (p : List ℕ) (x : Bool) → is_lead b ≡ x → (p ≡ lead true w 0) × (0 < w) → Shape (suc w) (p ++ (b ∷ [])) (cond x (Negative (b - 48)) Bad)
shape-minus w b p true e h =
    let r = lead-range b e in
    digit-shape true w 0 (b - 48) b p h.0 (omega arith) (omega (arith, r.0)) r.1 (omega (arith, r.0))
shape-minus w b p false e h = tt

shape-whole : (w q b : ℕ) (p : List ℕ) (x : Bool) → is_digit b ≡ x → (p ≡ lead false w q) × (0 < q) → Shape (suc w) (p ++ (b ∷ [])) (cond x (Whole (10 * q + (b - 48))) Bad)
shape-whole w q b p true e h = let r = digit-range b e in digit-shape false w q (10 * q + (b - 48)) b p h.0 refl r.0 r.1 (omega arith)
shape-whole w q b p false e h = tt

shape-negative : (w q b : ℕ) (p : List ℕ) (x : Bool) → is_digit b ≡ x → (p ≡ lead true w q) × (0 < q) → Shape (suc w) (p ++ (b ∷ [])) (cond x (Negative (10 * q + (b - 48))) Bad)
shape-negative w q b p true e h = let r = digit-range b e in digit-shape true w q (10 * q + (b - 48)) b p h.0 refl r.0 r.1 (omega arith)
shape-negative w q b p false e h = tt

shape-step : (w b : ℕ) (p : List ℕ) (s : Scan) → Shape w p s → Shape (suc w) (p ++ (b ∷ [])) (step s b)
unfolding step after_blank after_minus
shape-step w b p Blank h = shape-blank w b p _ _ _ _ refl refl refl refl h
shape-step w b p Minus h = shape-minus w b p _ refl h
shape-step w b p Zero h = tt
shape-step w b p (Whole q) h = shape-whole w q b p _ refl h
shape-step w b p (Negative q) h = shape-negative w q b p _ refl h
shape-step w b p Bad h = tt

shape-scan : (l : List ℕ) (i : ℕ) → i ≤ length l → Shape i (take i l) (scan l i)
unfolding scan
shape-scan l zero h = refl
shape-scan l (suc i) h = rw (take-suc l i 0 (omega arith)) (shape-step i (get_or l i 0) (take i l) (scan l i) (shape-scan l i (omega arith)))

shaped : (l : List ℕ) → length l ≡ 6 → Shape 6 l (shown l)
shaped l e = subst (λ (n : ℕ). Shape n l (shown l)) e (subst (λ (p : List ℕ). Shape (length l) p (shown l)) (take-length l) (shape-scan l (length l) (omega arith)))

six-of : (minus : Bool) (n : ℕ) → 0 < n → lead minus 6 n ≡ in_six minus n
unfolding in_six
six-of minus n h = lead-more minus 5 (n / 10) (n % 10) n (omega arith) (omega arith) h

zero-six : replicate 5 32 ++ (48 ∷ []) ≡ in_six false 0
unfolding in_six lead
zero-six = refl

number-shape : (l : List ℕ) (s : Scan) → Shape 6 l s → is_number s ≡ true → l ≡ column (value_of s)
number-shape l Blank h e = let z : ◌≡◌ {A = ℕ} 0 1 = cc in absurd (omega arith)
number-shape l Minus h e = let z : ◌≡◌ {A = ℕ} 0 1 = cc in absurd (omega arith)
number-shape l Zero h e = h ∙ zero-six
number-shape l (Whole n) h e = h.0 ∙ six-of false n h.1
number-shape l (Negative zero) h e = absurd (omega arith)
number-shape l (Negative (suc n)) h e = h.0 ∙ six-of true (suc n) h.1
number-shape l Bad h e = let z : ◌≡◌ {A = ℕ} 0 1 = cc in absurd (omega arith)

pub read-is-column : (l : List ℕ) → length l ≡ 6 → is_number (shown l) ≡ true → l ≡ column (value_of (shown l))
read-is-column l n e = number-shape l (shown l) (shaped l n) e

-- two columns that read alike are the same bytes
pub alike : (k l : List ℕ) → length k ≡ 6 → length l ≡ 6 → is_number (shown k) ≡ true → is_number (shown l) ≡ true → value_of (shown k) ≡ value_of (shown l) → k ≡ l
alike k l m n d e h = read-is-column k m d ∙ ap column h ∙ sym (read-is-column l n e)

-- ---- the double of a column is its value, exactly as an integer is cast

neg-odd : (d q k l : ℕ) → neg (odd d false q k l) ≡ odd d true q k l
unfolding odd neg
neg-odd d zero k l = refl
neg-odd d (suc q) k l = refl

neg-units : (f : Format) (q k : ℕ) → neg (units f false q k) ≡ units f true q k
unfolding units neg
neg-units f q k = go (ltb (q * 2 ^ k) (2 ^ (low f + suc (emax f))))
  where
    go : (b : Bool) → neg (cond b (odd (suc (prec f)) false q k (low f)) (inf false)) ≡ cond b (odd (suc (prec f)) true q k (low f)) (inf true)
    go true = neg-odd (suc (prec f)) q k (low f)
    go false = refl

neg-round : (f : Format) (num den : ℕ) → neg (round f false num den) ≡ round f true num den
unfolding round
neg-round f num den =
    let n = num * 2 ^ low f in
    let k = size (n / den) - prec f in
    let u = den * 2 ^ k in
    neg-units f (nearest (n / u) (compare (n % u * 2) u)) k

neg-int : (m : ℕ) → neg (of_int binary64 (pos (suc m))) ≡ of_int binary64 (negsuc m)
unfolding of_int
neg-int m = neg-round binary64 (suc m) 1

zero-double : lit 0 ≡ of_int binary64 (pos 0)
unfolding of_int of_bits
zero-double = refl

pub exact : (l : List ℕ) → length l ≡ 6 → is_number (shown l) ≡ true → double_of (shown l) ≡ of_int binary64 (value_of (shown l))
exact l n e = go (shown l) (shaped l n)
  where
    go : (s : Scan) → Shape 6 l s → double_of s ≡ of_int binary64 (value_of s)
    go Blank h = zero-double
    go Minus h = zero-double
    go Zero h = zero-double
    go (Whole m) h = refl
    go (Negative zero) h = absurd (omega arith)
    go (Negative (suc m)) h = neg-int m
    go Bad h = zero-double
