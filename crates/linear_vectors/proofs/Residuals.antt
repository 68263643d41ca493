-- `reduce`: the residual's step and the terms of its two products at each place, in any order of places, and the sums of the terms
-- in theirs. Assumes nothing.
use mathlib.Core.Path.{◌≡◌, refl, sym, ap, ◌∙◌}
use mathlib.Core.List.{List}
use Prim.Native.Nat.{ℕ, zero, suc, ◌+◌, ◌-◌, ◌*◌, ◌/◌, ◌≤◌, ◌<◌}
use native.Mathlib.Nat.{le_refl}
use native.Mathlib.Omega.{arith}
use lib.Ieee.{Float, nan}
use lib.ListN.{length, get_or, set}
use lib.Seq.{set_comm, ext_get_or}
use Rattle.complex.specs.declared.Complex.{Complex}
use Rattle.complex.specs.Complex.{cnan}
use Rattle.linear_cells.specs.Iter.{iter}
use Rattle.linear_cells.specs.Region.{region, Apart}
use Rattle.linear_cells.specs.Cell.{get_c, set_c, region_c, put_c}
use Rattle.linear_cells.proofs.Loops.{apart_other, length-tab, get_or-tab}
use Rattle.linear_cells.proofs.Regions.{get_or-region}
use Rattle.linear_cells.proofs.Cells.{length-put_c, get_or-region_c, length-region_c, put_c-else, put_c-else-real, put_c-apart}
use Rattle.linear_hermitian.specs.Hermitian.{scaled}
use Rattle.linear_hermitian.proofs.Loops.{re_sum, re-sum-none, re-sum-more, re-sum-all}
use Rattle.linear_hermitian.proofs.Product.{length-scaled}
use Rattle.linear_vectors.specs.declared.residual.Sums.{Sums}
use Rattle.linear_vectors.specs.Vectors.{zip_of, sub_scaled}
use Rattle.linear_vectors.specs.Residual.{products_at, products_of}
use Rattle.linear_vectors.specs.ResidualWork.{ReduceRoom, Reduced, term_at, put_term, term_step, put_pair, pair_step, no_sums, add_c, add_step, Lag, lag, lag_at, lag_step}
use Rattle.linear_vectors.proofs.Zip.{length-zip_of, get_or-zip_of, get_or-scaled, zip_to, length-zip_to, zip-none, zip-todo, zip-done, zip-cell, zip_to-all}

pub length-products_of : (d : List Float) (r : List Complex) → length (products_of d r) ≡ length r
unfolding products_of
length-products_of d r = length-tab _ (length r)

-- two cells stored part by part
pub both-all : (w : List Float) (b n i : ℕ) (y z : Complex) → i + 1 < n → {w₁ w₂ : List Float} → w₁ ≡ set (set w (b + i) y.re) (b + (i + 1)) z.re
    → w₂ ≡ set (set w₁ (b + n + i) y.im) (b + n + (i + 1)) z.im → w₂ ≡ set_c (set_c w b n i y) b n (i + 1) z
unfolding set_c
both-all w b n i y z l e₁ e₂ =
    e₂ ∙ rw (e₁, set_comm (set w (b + i) y.re) (b + (i + 1)) (b + n + i) z.re y.im (λ e. omega arith))

-- the pairs but the first, and what they leave over
pub half : (n : ℕ) → 2 ≤ n → 2 * (n / 2 - 1) + 2 ≤ n
half n l = omega arith

pub rest_in : (n c : ℕ) → 2 * c + 2 ≤ n → 2 * c + 2 + (n - (2 * c + 2)) ≤ n
rest_in n c l = omega arith

-- the second of two
abbrev pub second : Complex → Complex → Complex
second y z = z

module _ (w : List Float) (r q inverse n : ℕ) (alpha : Float) where
  -- the residual after its step, the inverse diagonal, the terms
  abbrev pub new_r : List Complex
  new_r = zip_of (sub_scaled alpha) (region_c w r n) (region_c w q n)

  abbrev pub inverse_of : List Float
  inverse_of = region nan w inverse n

  abbrev pub products : List Complex
  products = products_of inverse_of new_r

  length-new_r : length new_r ≡ n
  length-new_r = length-zip_of (sub_scaled alpha) (region_c w r n) (region_c w q n) ∙ length-region_c w r n

  length-products : length products ≡ n
  length-products = length-products_of inverse_of new_r ∙ length-new_r

  get_or-new_r : (i : ℕ) → i < n → get_or new_r i cnan ≡ sub_scaled alpha (get_c w r n i) (get_c w q n i)
  get_or-new_r i l =
      get_or-zip_of (sub_scaled alpha) (region_c w r n) (region_c w q n) (length-region_c w r n) i l
      ∙ rw (get_or-region_c w r n i l, get_or-region_c w q n i l)

  get_or-products : (i : ℕ) → i < n → get_or products i cnan ≡ products_at (get_or new_r i cnan) (get_or inverse_of i nan)
  unfolding products_of
  get_or-products i l = get_or-tab _ (length new_r) i cnan (rw length-new_r l)

  -- ---- the slice after i places

  abbrev r_to : ℕ → List Complex
  r_to i = zip_to w r n (sub_scaled alpha) (region_c w q n) i

  abbrev q_to : ℕ → List Complex
  q_to i = zip_to w q n second products i

  unfoldable pub done_to : ℕ → List Float
  done_to i = put_c (put_c w r (r_to i)) q (q_to i)

  r_to-n : (i : ℕ) → length (r_to i) ≡ n
  r_to-n i = length-zip_to w r n (sub_scaled alpha) (region_c w q n) i

  q_to-n : (i : ℕ) → length (q_to i) ≡ n
  q_to-n i = length-zip_to w q n second products i

  pub done_none : w ≡ done_to 0
  unfolding done_to
  done_none = zip-none w q n second products ∙ ap (λ t. put_c t q (q_to 0)) (zip-none w r n (sub_scaled alpha) (region_c w q n))

  second-all : zip_of second (region_c w q n) products ≡ products
  unfolding zip_of
  second-all =
      ext_get_or cnan _ products (length-tab _ (length (region_c w q n)) ∙ length-region_c w q n ∙ sym length-products) (λ i l.
      get_or-tab _ (length (region_c w q n)) i cnan (omega (arith, length-tab (λ i. get_or products i cnan) (length (region_c w q n)))))

  pub done_all : done_to n ≡ put_c (put_c w r new_r) q products
  unfolding done_to
  done_all = rw (zip_to-all w r n (sub_scaled alpha) (region_c w q n), zip_to-all w q n second products, second-all)

  module _ (ok : ReduceRoom (length w) r q inverse n) where
    q-r : Apart q (2 * n) r (2 * n)
    q-r = apart_other r (2 * n) q (2 * n) ok.r-q

    -- what is yet to be reduced is read as it stood
    term-todo : (i j : ℕ) → i ≤ j → j < n → term_at (done_to i) r q inverse n alpha j ≡ record { residual = get_or new_r j cnan; products = get_or products j cnan }
    unfolding term_at done_to
    term-todo i j g l =
        let v : List Float = put_c w r (r_to i) in
        let er : get_c (done_to i) r n j ≡ get_c w r n j =
        put_c-else v q (q_to i) (q_to-n i) r n j q-r l ∙ zip-todo w r n (sub_scaled alpha) (region_c w q n) w ok.r-in i j g l in
        let eq : get_c (done_to i) q n j ≡ get_c w q n j = zip-todo w q n second products v (rw length-put_c ok.q-in) i j g l in
        let ei : get_or (done_to i) (inverse + j) nan ≡ get_or inverse_of j nan =
        put_c-else-real v q (q_to i) (q_to-n i) inverse n j ok.q-inverse l
        ∙ put_c-else-real w r (r_to i) (r_to-n i) inverse n j ok.r-inverse l
        ∙ sym (get_or-region w inverse n j nan l) in
        rw (er, eq, ei, get_or-products j l, get_or-new_r j l)

    -- one place, and two
    r-cell : (v : List Float) → r + 2 * n ≤ length v → (i : ℕ) → i < n → set_c (put_c v r (r_to i)) r n i (get_or new_r i cnan) ≡ put_c v r (r_to (i + 1))
    r-cell v h i l = rw (get_or-new_r i l, ← get_or-region_c w q n i l) (zip-cell w r n (sub_scaled alpha) (region_c w q n) v h i l)

    q-cell : (v : List Float) → q + 2 * n ≤ length v → (i : ℕ) → i < n → set_c (put_c v q (q_to i)) q n i (get_or products i cnan) ≡ put_c v q (q_to (i + 1))
    q-cell v h i l = zip-cell w q n second products v h i l

    swap : (i j : ℕ) → put_c (put_c w r (r_to i)) q (q_to j) ≡ put_c (put_c w q (q_to j)) r (r_to i)
    swap i j = put_c-apart w r (r_to i) (r_to-n i) q (q_to j) (q_to-n j) ok.r-q

    r-in' : (v : List Complex) → r + 2 * n ≤ length (put_c w q v)
    r-in' v = rw length-put_c ok.r-in

    q-in' : (v : List Complex) → q + 2 * n ≤ length (put_c w r v)
    q-in' v = rw length-put_c ok.q-in

    term-stored : (i : ℕ) → i < n → put_term (done_to i) r q n i (record { residual = get_or new_r i cnan; products = get_or products i cnan }) ≡ done_to (i + 1)
    unfolding put_term done_to
    term-stored i l =
        rw (swap i i, r-cell (put_c w q (q_to i)) (r-in' (q_to i)) i l, ← swap (i + 1) i) (q-cell (put_c w r (r_to (i + 1))) (q-in' (r_to (i + 1))) i l)

    pub term-more : (i : ℕ) → i < n → put_term (done_to i) r q n i (term_at (done_to i) r q inverse n alpha i) ≡ done_to (i + 1)
    term-more i l = rw (term-todo i i (le_refl i) l) (term-stored i l)

    two : (i : ℕ) → i + 1 + 1 ≡ i + 2
    two i = omega arith

    pair-stored : (i : ℕ) → i + 1 < n
        → put_pair (done_to i) r q n i (record { residual = get_or new_r i cnan; products = get_or products i cnan }) (record { residual = get_or new_r (i + 1) cnan; products = get_or products (i + 1) cnan })
        ≡ done_to (i + 2)
    unfolding put_pair done_to
    pair-stored i l =
        rw (
          swap i i,
          r-cell (put_c w q (q_to i)) (r-in' (q_to i)) i (omega arith),
          r-cell (put_c w q (q_to i)) (r-in' (q_to i)) (i + 1) l,
          two i,
          ← swap (i + 2) i,
          q-cell (put_c w r (r_to (i + 2))) (q-in' (r_to (i + 2))) i (omega arith),
        )
        (q-cell (put_c w r (r_to (i + 2))) (q-in' (r_to (i + 2))) (i + 1) l ∙ rw (two i))

    pub pair-more : (i : ℕ) → i + 1 < n → pair_step r q inverse n alpha i (done_to i) ≡ done_to (i + 2)
    unfolding pair_step
    pair-more i l = rw (term-todo i i (le_refl i) (omega arith), term-todo i (i + 1) (omega arith) l) (pair-stored i l)

    -- ---- the sums

    abbrev sums_at : ℕ → Sums
    sums_at j = record { square = re_sum new_r new_r j; next = re_sum (scaled inverse_of new_r) new_r j }

    sums_none : no_sums ≡ sums_at 0
    sums_none = λ k. record { square = re-sum-none new_r new_r k; next = re-sum-none (scaled inverse_of new_r) new_r k }

    pub sums-more : (i j : ℕ) → j < i → i ≤ n → add_c (done_to i) q n j (sums_at j) ≡ sums_at (j + 1)
    unfolding add_c done_to
    sums-more i j g l =
        let lj : j < n = omega arith in
        let z : Complex = get_or new_r j cnan in
        let e : get_c (done_to i) q n j ≡ products_at z (get_or inverse_of j nan) =
        zip-done w q n second products (put_c w r (r_to i)) (q-in' (r_to i)) i j g l ∙ get_or-products j lj in
        rw (e, re-sum-more new_r new_r j, re-sum-more (scaled inverse_of new_r) new_r j, get_or-scaled inverse_of new_r length-new_r j lj) (unfold products_at in refl)

    -- ---- the loops

    terms-from : (a c : ℕ) → a + c ≤ n → iter (term_step r q inverse n alpha a) c (done_to a) ≡ done_to (a + c)
    unfolding iter term_step
    terms-from a zero l = ap done_to (none a)
      where
        none : (a : ℕ) → a ≡ a + 0
        none a = omega arith
    terms-from a (suc c) l = rw (terms-from a c (omega arith)) (term-more (a + c) (omega arith) ∙ ap done_to (more a c))
      where
        more : (a c : ℕ) → a + c + 1 ≡ a + suc c
        more a c = omega arith

    sums-from : (a c : ℕ) → a + c ≤ n → iter (add_step (done_to n) q n a) c (sums_at a) ≡ sums_at (a + c)
    unfolding iter add_step
    sums-from a zero l = ap sums_at (none a)
      where
        none : (a : ℕ) → a ≡ a + 0
        none a = omega arith
    sums-from a (suc c) l = rw (sums-from a c (omega arith)) (sums-more n (a + c) (omega arith) (le_refl n) ∙ ap sums_at (more a c))
      where
        more : (a c : ℕ) → a + c + 1 ≡ a + suc c
        more a c = omega arith

    lag-from : (c : ℕ) → 2 * c + 2 ≤ n → iter (lag_step r q inverse n alpha) c (lag (done_to 2) (sums_at 0)) ≡ lag (done_to (2 * c + 2)) (sums_at (2 * c))
    unfolding iter lag_at lag_step
    lag-from zero l = refl
    lag-from (suc c) l =
        rw (
          lag-from c (omega arith),
          pair-more (2 * c + 2) (omega arith),
          sums-more (2 * c + 2 + 2) (2 * c) (omega arith) (omega arith),
          sums-more (2 * c + 2 + 2) (2 * c + 1) (omega arith) (omega arith),
        )
        (λ k. lag (done_to (pairs c k)) (sums_at (twice c k)))
      where
        pairs : (c : ℕ) → 2 * c + 2 + 2 ≡ 2 * suc c + 2
        pairs c = omega arith

        twice : (c : ℕ) → 2 * c + 1 + 1 ≡ 2 * suc c
        twice c = omega arith

    -- ---- the whole

    reduced-is : {w₁ : List Float} {s : Sums} → w₁ ≡ done_to n → s ≡ sums_at n → Reduced w w₁ r q inverse n alpha s
    reduced-is e es = record {
      work = e ∙ done_all;
      square = ap (λ (t : Sums). t.square) es ∙ re-sum-all new_r new_r length-new_r;
      next = ap (λ (t : Sums). t.next) es ∙ re-sum-all (scaled inverse_of new_r) new_r (rw length-scaled length-new_r);
    }

    pub reduce-few : {w₁ : List Float} {s t : Sums} → w₁ ≡ iter (term_step r q inverse n alpha 0) n w → s ≡ no_sums → t ≡ iter (add_step w₁ q n 0) n s
        → Reduced w w₁ r q inverse n alpha t
    reduce-few {w₁} {s} {t} e₁ es et =
        let k : 0 + n ≡ n = omega arith in
        let f : w₁ ≡ done_to n = e₁ ∙ ap (iter (term_step r q inverse n alpha 0) n) done_none ∙ terms-from 0 n (omega arith) ∙ ap done_to k in
        reduced-is f (et ∙ rw (f, es, sums_none) (sums-from 0 n (omega arith) ∙ ap sums_at k))

    pub reduce-all : (c : ℕ) → 2 * c + 2 ≤ n → {w₁ w₂ w₃ : List Float} {s t : Sums} → w₁ ≡ pair_step r q inverse n alpha 0 w
        → lag w₂ s ≡ iter (lag_step r q inverse n alpha) c (lag w₁ no_sums)
        → w₃ ≡ iter (term_step r q inverse n alpha (2 * c + 2)) (n - (2 * c + 2)) w₂ → t ≡ iter (add_step w₃ q n (2 * c)) (n - 2 * c) s
        → Reduced w w₃ r q inverse n alpha t
    reduce-all c l {w₁} {w₂} {w₃} {s} {t} e₁ el e₃ et =
        let a : ℕ = 2 * c + 2 in
        let ka : a + (n - a) ≡ n = omega arith in
        let kc : 2 * c + (n - 2 * c) ≡ n = omega arith in
        let f₁ : w₁ ≡ done_to 2 = e₁ ∙ ap (pair_step r q inverse n alpha 0) done_none ∙ pair-more 0 (omega arith) in
        let fl : lag w₂ s ≡ lag (done_to a) (sums_at (2 * c)) = el ∙ rw (f₁, sums_none) (lag-from c l) in
        let f₂ : w₂ ≡ done_to a = ap (λ (u : Lag). u.work) fl in
        let fs : s ≡ sums_at (2 * c) = ap (λ (u : Lag). u.sums) fl in
        let f₃ : w₃ ≡ done_to n = e₃ ∙ rw f₂ (terms-from a (n - a) (omega arith) ∙ ap done_to ka) in
        reduced-is f₃ (et ∙ rw (f₃, fs) (sums-from (2 * c) (n - 2 * c) (omega arith) ∙ ap sums_at kc))
