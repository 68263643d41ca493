-- What one store, or stores in one region, change in a flat list, and what stays. Assumes nothing.
use Prim.Native.Nat.{ℕ, zero, suc, ◌+◌, ◌-◌, ◌*◌, ◌≤◌, ◌<◌}
use native.Mathlib.Omega.{arith}
use native.Mathlib.Decide.{ℕ_discrete, dec_le}
use mathlib.Core.Path.{◌≡◌, refl, sym, ap, ◌∙◌, subst}
use mathlib.Core.Logic.{◌⊎◌, inl, inr, ⊎_elim}
use mathlib.Core.Bool.{cond}
use mathlib.Core.List.{List, ◌∷◌, ◌++◌, map}
use borrow.Author.Tests.{eq-eqb, ne_eqb}
use lib.Dec.{eqb}
use lib.ListN.{length, length-set, length-take, length-drop, take, drop, get_or, set, replicate, replicate-append-replicate}
use lib.Seq.{get_or-set_same, get_or-set_other, get_or-take, get_or-drop, ext_get_or}
use lib.Ieee.{Float, nan}
use Rattle.float.specs.Double.{lit}
use Rattle.complex.specs.declared.Complex.{Complex}
use Rattle.complex.specs.Complex.{czero, cnan}
use Rattle.linear_cells.specs.Region.{region, put, Apart}
use Rattle.linear_cells.specs.Cell.{get_c, set_c, re_of, im_of, flat, region_c, put_c}
use Rattle.linear_cells.proofs.Loops.{apart, tab-ext}
use Rattle.linear_cells.proofs.Regions.{length-put, put-within, put-else, get_or-region, length-region}
use Rattle.linear_cells.proofs.Cells.{length-region_c, get_or-region_c, put_c-region_c, put_c-at, put_c-set, put_c-else}

-- ---- one cell of a vector

module _ (w : List Float) (b n i : ℕ) (z : Complex) (l : i < n) where
  set-as-put : set_c w b n i z ≡ put_c w b (set (region_c w b n) i z)
  set-as-put = ap (λ (t : List Float). set_c t b n i z) (sym (put_c-region_c w b n)) ∙ put_c-set w b (region_c w b n) (length-region_c w b n) i z l

  sized : length (set (region_c w b n) i z) ≡ n
  sized = length-set (region_c w b n) i z ∙ length-region_c w b n

  pub cell_at : (j : ℕ) → j < n → b + 2 * n ≤ length w → get_c (set_c w b n i z) b n j ≡ cond (eqb j i) z (get_c w b n j)
  cell_at j k h = ap (λ (t : List Float). get_c t b n j) set-as-put ∙ put_c-at w b (set (region_c w b n) i z) sized j k h ∙ go (ℕ_discrete j i)
    where
      go : Dec (j ≡ i) → get_or (set (region_c w b n) i z) j cnan ≡ cond (eqb j i) z (get_c w b n j)
      go (yes e) = rw (eq-eqb j i e, e) (get_or-set_same (region_c w b n) i z cnan (omega (arith, length-region_c w b n)))
      go (no e) = rw (ne_eqb j i e) (get_or-set_other (region_c w b n) i j z cnan e ∙ get_or-region_c w b n j k)

  pub cell-else : (c m j : ℕ) → Apart b (2 * n) c (2 * m) → j < m → get_c (set_c w b n i z) c m j ≡ get_c w c m j
  cell-else c m j a k = ap (λ (t : List Float). get_c t c m j) set-as-put ∙ put_c-else w b (set (region_c w b n) i z) sized c m j a k

  pub real-else : (j : ℕ) → (j < b) ⊎ (b + 2 * n ≤ j) → get_or (set_c w b n i z) j nan ≡ get_or w j nan
  unfolding set_c
  real-else j h =
      get_or-set_other (set w (b + i) z.re) (b + n + i) j z.im nan (⊎_elim (λ q. omega arith) (λ q. omega arith) h)
      ∙ get_or-set_other w (b + i) j z.re nan (⊎_elim (λ q. omega arith) (λ q. omega arith) h)

-- ---- a region that alone has changed

module _ {A : Type 0} (d : A) (xs : List A) (a : ℕ) (vs : List A) {n : ℕ} (k : length vs ≡ n) where
  pub put-out : (j : ℕ) → (j < a) ⊎ (a + n ≤ j) → get_or (put xs a vs) j d ≡ get_or xs j d
  put-out j o =
      let z : j + 0 ≡ j = omega arith in
      subst (λ (i : ℕ). get_or (put xs a vs) i d ≡ get_or xs i d) z
      (put-else xs a vs k d j 1 0 (⊎_elim (λ q. apart a n j 1 (omega arith)) (λ q. apart a n j 1 (omega arith)) o) (omega arith))

module _ {A : Type 0} (d : A) (xs ys : List A) (a n : ℕ) where
  pub region-same : ((j : ℕ) → j < n → get_or ys (a + j) d ≡ get_or xs (a + j) d) → region d ys a n ≡ region d xs a n
  unfolding region
  region-same h = tab-ext _ _ n h

  back : (j : ℕ) → a ≤ j → j < a + n → j < length xs → get_or (put xs a (region d ys a n)) j d ≡ get_or ys j d
  back j p q l =
      let i = j - a in
      let z : a + i ≡ j = omega arith in
      subst (λ (i : ℕ). get_or (put xs a (region d ys a n)) i d ≡ get_or ys i d) z
      (put-within xs a (region d ys a n) i d (omega (arith, length-region d ys a n)) (omega arith) ∙ get_or-region ys a n i d (omega arith))

  pub put-changed : length ys ≡ length xs → ((j : ℕ) → (j < a) ⊎ (a + n ≤ j) → get_or ys j d ≡ get_or xs j d) → ys ≡ put xs a (region d ys a n)
  put-changed e h = ext_get_or d ys (put xs a (region d ys a n)) (e ∙ sym (length-put xs a (region d ys a n))) (λ j l. go j l (dec_le a j) (dec_le (a + n) j))
    where
      out : (j : ℕ) → (j < a) ⊎ (a + n ≤ j) → get_or ys j d ≡ get_or (put xs a (region d ys a n)) j d
      out j o = h j o ∙ sym (put-out d xs a (region d ys a n) (length-region d ys a n) j o)

      go : (j : ℕ) → j < length ys → Dec (a ≤ j) → Dec (a + n ≤ j) → get_or ys j d ≡ get_or (put xs a (region d ys a n)) j d
      go j l (no p) q = out j (inl (omega arith))
      go j l (yes p) (yes q) = out j (inr q)
      go j l (yes p) (no q) = sym (back j p (omega arith) (omega arith))

-- two regions, one behind the other
module _ {A : Type 0} (d : A) (xs ys : List A) (a n b m : ℕ) (fits : a + n ≤ length xs) (e : length ys ≡ length xs) where
  pub puts-changed : ((j : ℕ) → (j < a) ⊎ (b + m ≤ j) → get_or ys j d ≡ get_or xs j d) → ((j : ℕ) → a + n ≤ j → j < b → get_or ys j d ≡ get_or xs j d) → a + n ≤ b
      → ys ≡ put (put xs a (region d ys a n)) b (region d ys b m)
  puts-changed h g r = put-changed d (put xs a (region d ys a n)) ys b m (e ∙ sym (length-put xs a (region d ys a n))) (λ j o. out j o (dec_le a j) (dec_le (a + n) j))
    where
      rest : (j : ℕ) → (j < a) ⊎ (a + n ≤ j) → get_or ys j d ≡ get_or xs j d → get_or ys j d ≡ get_or (put xs a (region d ys a n)) j d
      rest j o f = f ∙ sym (put-out d xs a (region d ys a n) (length-region d ys a n) j o)

      out : (j : ℕ) → (j < b) ⊎ (b + m ≤ j) → Dec (a ≤ j) → Dec (a + n ≤ j) → get_or ys j d ≡ get_or (put xs a (region d ys a n)) j d
      out j o (no p) q = rest j (inl (omega arith)) (h j (inl (omega arith)))
      out j o (yes p) (no q) = sym (back d xs ys a n j p (omega arith) (omega arith))
      out j (inl o) (yes p) (yes q) = rest j (inr q) (g j q o)
      out j (inr o) (yes p) (yes q) = rest j (inr q) (h j (inr o))

-- one element of a region
pub region-one : {A : Type 0} (d : A) (xs ys : List A) (j : ℕ) → region d ys j 1 ≡ region d xs j 1 → get_or ys j d ≡ get_or xs j d
region-one d xs ys j e =
    let z : j + 0 ≡ j = omega arith in
    let k : 0 < 1 = omega arith in
    subst (λ (i : ℕ). get_or ys i d ≡ get_or xs i d) z (sym (get_or-region ys j 1 0 d k) ∙ ap (λ v. get_or v 0 d) e ∙ get_or-region xs j 1 0 d k)

-- a part of a list is a region of it
pub part-region : {A : Type 0} (d : A) (l : List A) (a n : ℕ) → a + n ≤ length l → take n (drop a l) ≡ region d l a n
part-region d l a n h =
    let k : length (take n (drop a l)) ≡ n = length-take n (drop a l) ∙ simp length-drop (omega arith) in
    ext_get_or d (take n (drop a l)) (region d l a n) (k ∙ sym (length-region d l a n)) (λ i m.
    let g : i < n = omega arith in
    get_or-take n (drop a l) i d g ∙ get_or-drop a l i d ∙ sym (get_or-region l a n i d g))

-- ---- the same value throughout

map-replicate : (f : Complex → Float) (n : ℕ) (z : Complex) → map f (replicate n z) ≡ replicate n (f z)
map-replicate f zero z = refl
map-replicate f (suc n) z = ap (λ (l : List Float). f z ∷ l) (map-replicate f n z)

pub flat-replicate : (n : ℕ) (z : Complex) → flat (replicate n z) ≡ replicate n z.re ++ replicate n z.im
unfolding flat
flat-replicate n z = rw (map-replicate re_of n z, map-replicate im_of n z)

-- zeros in a vector's region are a vector of zeros
pub zeros : (w : List Float) (b n : ℕ) {w₁ : List Float} → w₁ ≡ put w b (replicate (2 * n) (lit 0)) → w₁ ≡ put_c w b (replicate n czero)
unfolding put_c
zeros w b n e =
    let k : n + n ≡ 2 * n = omega arith in
    e ∙ ap (put w b) (sym (flat-replicate n czero ∙ replicate-append-replicate n n (lit 0) ∙ ap (λ (i : ℕ). replicate i (lit 0)) k))
