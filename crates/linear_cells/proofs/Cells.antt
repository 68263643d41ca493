-- Laws of complex vectors: `get_c`, `set_c`, `flat`, `region_c` and `put_c`. Assumes nothing.
use mathlib.Core.Path.{◌≡◌, refl, sym, ap, ◌∙◌}
use mathlib.Core.List.{List, [], ◌∷◌, ◌++◌, map}
use Prim.Native.Nat.{ℕ, zero, suc, ◌+◌, ◌-◌, ◌*◌, ◌≤◌, ◌<◌}
use native.Mathlib.Decide.{dec_le}
use native.Mathlib.Nat.{add_assoc, zero-add, suc-add}
use native.Mathlib.Omega.{arith}
use lib.Ieee.{Float, nan}
use lib.ListN.{length, get_or, set, length-set, length-append, length-map, get_or-append, get_or-map}
use lib.Seq.{ext_get_or, get_or-append-add, set-append_left}
use Rattle.complex.specs.declared.Complex.{Complex}
use Rattle.complex.specs.Complex.{cnan}
use Rattle.linear_cells.specs.Region.{region, put, Apart}
use Rattle.linear_cells.specs.Cell.{get_c, set_c, re_of, im_of, flat, region_c, put_c}
use Rattle.linear_cells.proofs.Loops.{length-tab, get_or-tab, tab-ext}
use Rattle.linear_cells.proofs.Regions.{length-region, get_or-region, length-put, put-within, set-put, put-else, region-else, put-put, put-apart, put-region}

-- ---- flat

map-set : (f : Complex → Float) (v : List Complex) (i : ℕ) (z : Complex) → map f (set v i z) ≡ set (map f v) i (f z)
map-set f [] i z = refl
map-set f (y ∷ v) zero z = refl
map-set f (y ∷ v) (suc i) z = rw (map-set f v i z)

set_append_right : (xs ys : List Float) (i : ℕ) (a : Float) → set (xs ++ ys) (length xs + i) a ≡ xs ++ set ys i a
set_append_right [] ys i a = rw zero-add
set_append_right (x ∷ xs) ys i a = rw (suc-add, set_append_right xs ys i a)

pub length-flat : (v : List Complex) {n : ℕ} → length v ≡ n → length (flat v) ≡ 2 * n
unfolding flat
length-flat v e = rw (length-append, length-map v re_of, length-map v im_of) (omega arith)

flat-re : (v : List Complex) (i : ℕ) → i < length v → get_or (flat v) i nan ≡ (get_or v i cnan).re
unfolding flat
flat-re v i l = get_or-append (map re_of v) (map im_of v) nan i (rw (length-map v re_of) l) ∙ get_or-map re_of v i cnan

flat-im : (v : List Complex) {n : ℕ} → length v ≡ n → (i : ℕ) → get_or (flat v) (n + i) nan ≡ (get_or v i cnan).im
unfolding flat
flat-im v {n} e i =
    let z : length (map re_of v) ≡ n = length-map v re_of ∙ e in
    ap (λ m. get_or (map re_of v ++ map im_of v) (m + i) nan) (sym z) ∙ get_or-append-add (map re_of v) (map im_of v) i nan ∙ get_or-map im_of v i cnan

flat-set : (v : List Complex) {n : ℕ} → length v ≡ n → (i : ℕ) (z : Complex) → i < n → flat (set v i z) ≡ set (set (flat v) i z.re) (n + i) z.im
unfolding flat
flat-set v {n} e i z l =
    let k : length (map re_of v) ≡ n = length-map v re_of ∙ e in
    let k' : length (set (map re_of v) i z.re) ≡ n = length-set (map re_of v) i z.re ∙ k in
    rw (map-set re_of v i z, map-set im_of v i z, set-append_left (map re_of v) (map im_of v) i z.re (rw k l))
    (sym (ap (λ m. set (set (map re_of v) i z.re ++ map im_of v) (m + i) z.im) (sym k') ∙ set_append_right (set (map re_of v) i z.re) (map im_of v) i z.im))

-- ---- lengths and cells

pub length-set_c : (w : List Float) (b n i : ℕ) (z : Complex) → length (set_c w b n i z) ≡ length w
unfolding set_c
length-set_c w b n i z = simp length-set

pub length-put_c : (w : List Float) (b : ℕ) (v : List Complex) → length (put_c w b v) ≡ length w
unfolding put_c
length-put_c w b v = length-put w b (flat v)

pub length-region_c : (w : List Float) (b n : ℕ) → length (region_c w b n) ≡ n
unfolding region_c
length-region_c w b n = length-tab (get_c w b n) n

pub get_or-region_c : (w : List Float) (b n i : ℕ) → i < n → get_or (region_c w b n) i cnan ≡ get_c w b n i
unfolding region_c
get_or-region_c w b n i l = get_or-tab (get_c w b n) n i cnan l

-- a vector's cells are its 2 n doubles
pub flat-region_c : (w : List Float) (b n : ℕ) → flat (region_c w b n) ≡ region nan w b (2 * n)
unfolding get_c
flat-region_c w b n =
    let v : List Complex = region_c w b n in
    let e : length v ≡ n = length-region_c w b n in
    let front : (i : ℕ) → i < n → get_or (flat v) i nan ≡ get_or w (b + i) nan = λ i l. flat-re v i (omega arith) ∙ ap re_of (get_or-region_c w b n i l) in
    let back : (i : ℕ) → i < n → get_or (flat v) (n + i) nan ≡ get_or w (b + (n + i)) nan =
    λ i l. flat-im v e i ∙ ap im_of (get_or-region_c w b n i l) ∙ rw add_assoc in
    let at : (i : ℕ) → Dec (n ≤ i) → i < 2 * n → get_or (flat v) i nan ≡ get_or w (b + i) nan =
    split (flat v) n front back in
    ext_get_or nan _ _ (length-flat v e ∙ sym (length-region nan w b (2 * n))) (λ i l.
    let l' : i < 2 * n = omega (arith, length-flat v e) in
    at i (dec_le n i) l' ∙ sym (get_or-region w b (2 * n) i nan l'))
  where
    split : (xs : List Float) (n : ℕ) → ((i : ℕ) → i < n → get_or xs i nan ≡ get_or w (b + i) nan) → ((i : ℕ) → i < n → get_or xs (n + i) nan ≡ get_or w (b + (n + i)) nan)
        → (i : ℕ) → Dec (n ≤ i) → i < 2 * n → get_or xs i nan ≡ get_or w (b + i) nan
    split xs n front back i (no f) l = front i (omega arith)
    split xs n front back i (yes h) l =
        let z : n + (i - n) ≡ i = omega arith in
        rw z at (back (i - n) (omega arith))

-- what is there, put there
pub put_c-region_c : (w : List Float) (b n : ℕ) → put_c w b (region_c w b n) ≡ w
unfolding put_c
put_c-region_c w b n = rw flat-region_c (put-region nan w b (2 * n))

-- ---- a vector that was put

module _ (w : List Float) (b : ℕ) (v : List Complex) {n : ℕ} (e : length v ≡ n) where
  -- a cell read, and a cell stored
  pub put_c-at : (i : ℕ) → i < n → b + 2 * n ≤ length w → get_c (put_c w b v) b n i ≡ get_or v i cnan
  unfolding put_c get_c
  put_c-at i l h =
      let x : get_or (put w b (flat v)) (b + i) nan ≡ (get_or v i cnan).re =
      put-within w b (flat v) i nan (omega (arith, length-flat v e)) (omega arith) ∙ flat-re v i (omega arith) in
      let y : get_or (put w b (flat v)) (b + n + i) nan ≡ (get_or v i cnan).im =
      rw add_assoc (put-within w b (flat v) (n + i) nan (omega (arith, length-flat v e)) (omega arith) ∙ flat-im v e i) in
      λ k. record { re = x k; im = y k }

  pub put_c-set : (i : ℕ) (z : Complex) → i < n → set_c (put_c w b v) b n i z ≡ put_c w b (set v i z)
  unfolding put_c set_c
  put_c-set i z l =
      ap (λ xs. set xs (b + n + i) z.im) (set-put w b (flat v) i z.re (omega (arith, length-flat v e)))
      ∙ rw add_assoc (set-put w b (set (flat v) i z.re) (n + i) z.im (rw length-set (omega (arith, length-flat v e))))
      ∙ ap (put w b) (sym (flat-set v e i z l))

  -- a read of anything else: a double, a cell, a region
  pub put_c-else-real : (c m j : ℕ) → Apart b (2 * n) c m → j < m → get_or (put_c w b v) (c + j) nan ≡ get_or w (c + j) nan
  unfolding put_c
  put_c-else-real c m j a l = put-else w b (flat v) (length-flat v e) nan c m j a l

  pub put_c-else : (c m j : ℕ) → Apart b (2 * n) c (2 * m) → j < m → get_c (put_c w b v) c m j ≡ get_c w c m j
  unfolding get_c
  put_c-else c m j a l =
      let y : get_or (put_c w b v) (c + m + j) nan ≡ get_or w (c + m + j) nan = rw add_assoc (put_c-else-real c (2 * m) (m + j) a (omega arith)) in
      λ k. record { re = put_c-else-real c (2 * m) j a (omega arith) k; im = y k }

  pub region_c-else : (c m : ℕ) → Apart b (2 * n) c (2 * m) → region_c (put_c w b v) c m ≡ region_c w c m
  unfolding region_c
  region_c-else c m a = tab-ext _ _ m (λ i l. put_c-else c m i a l)

  pub region_r-else : (c m : ℕ) → Apart b (2 * n) c m → region nan (put_c w b v) c m ≡ region nan w c m
  unfolding put_c
  region_r-else c m a = region-else w b (flat v) (length-flat v e) nan c m a

  -- the vector read back
  pub region_c-put_c : b + 2 * n ≤ length w → region_c (put_c w b v) b n ≡ v
  region_c-put_c h =
      ext_get_or cnan _ v (length-region_c _ b n ∙ sym e) (λ i l.
      let l' : i < n = rw length-region_c at l in
      get_or-region_c (put_c w b v) b n i l' ∙ put_c-at i l' h)

  pub put_c-put_c : (u : List Complex) → length u ≡ n → put_c (put_c w b u) b v ≡ put_c w b v
  unfolding put_c
  put_c-put_c u h = put-put w b (flat v) (length-flat v e) (flat u) (length-flat u h)

  pub put_c-apart : (c : ℕ) (u : List Complex) {m : ℕ} → length u ≡ m → Apart b (2 * n) c (2 * m) → put_c (put_c w b v) c u ≡ put_c (put_c w c u) b v
  unfolding put_c
  put_c-apart c u {m} h a = put-apart w b (flat v) (length-flat v e) c (flat u) (length-flat u h) a

-- a vector is what its 2 n doubles say
flat-only : (u v : List Complex) {n : ℕ} → length u ≡ n → length v ≡ n → flat u ≡ flat v → u ≡ v
flat-only u v {n} h k e =
    ext_get_or cnan u v (h ∙ sym k) (λ i l.
    let x : (get_or u i cnan).re ≡ (get_or v i cnan).re = sym (flat-re u i l) ∙ ap (λ t. get_or t i nan) e ∙ flat-re v i (omega arith) in
    let y : (get_or u i cnan).im ≡ (get_or v i cnan).im = sym (flat-im u h i) ∙ ap (λ t. get_or t (n + i) nan) e ∙ flat-im v k i in
    λ k. record { re = x k; im = y k })

pub region_c-flat : (w : List Float) (b n : ℕ) (v : List Complex) → length v ≡ n → region nan w b (2 * n) ≡ flat v → region_c w b n ≡ v
region_c-flat w b n v h e = flat-only (region_c w b n) v (length-region_c w b n) h (flat-region_c w b n ∙ e)

pub region_c-same : (w w' : List Float) (b n : ℕ) → region nan w b (2 * n) ≡ region nan w' b (2 * n) → region_c w b n ≡ region_c w' b n
region_c-same w w' b n e = region_c-flat w b n (region_c w' b n) (length-region_c w' b n) (e ∙ sym (flat-region_c w' b n))

-- a real region that was put leaves a vector elsewhere
pub region_c-put-else : (w : List Float) (b : ℕ) (v : List Float) {n : ℕ} → length v ≡ n → (c m : ℕ) → Apart b n c (2 * m) → region_c (put w b v) c m ≡ region_c w c m
region_c-put-else w b v {n} e c m a = region_c-same (put w b v) w c m (region-else w b v e nan c (2 * m) a)
