-- The iterations of the loop that counts each vertex's edges, over lists of numbers. Assumes nothing.
use mathlib.Core.Path.{◌≡◌, sym, ap, ◌∙◌}
use mathlib.Core.List.{List}
use Prim.Native.Nat.{ℕ, ◌+◌, ◌^◌, ◌≤◌, ◌<◌}
use native.Mathlib.Decide.{ℕ_discrete}
use native.Mathlib.Omega.{arith}
use lib.ListN.{length, get_or, set, replicate, length-set, length-replicate, get_or-replicate}
use lib.Seq.{get_or-set_same, get_or-set_other, ext_get_or}
use Rattle.linear_cells.specs.Region.{region, put}
use Rattle.linear_cells.proofs.Loops.{length-tab, get_or-tab}
use Rattle.linear_cells.proofs.Regions.{length-put, put-within, set-put, put-region}
use Rattle.linear_adjacency.specs.Adjacency.{degree, Ends}
use Rattle.linear_adjacency.specs.Build.{degrees, counted, ListRoom, CountIn}
use Rattle.linear_adjacency.proofs.Degrees.{degree-a, degree-b, degree-else, degree-none, degree-few}

-- ---- one more, twice

length-counted : (t : List ℕ) (i : ℕ) → length (counted t i) ≡ length t
unfolding counted
length-counted t i = length-set t i (get_or t i 0 + 1)

counted_same : (t : List ℕ) (i : ℕ) → i < length t → get_or (counted t i) i 0 ≡ get_or t i 0 + 1
unfolding counted
counted_same t i l = get_or-set_same t i (get_or t i 0 + 1) 0 l

counted-other : (t : List ℕ) (i v : ℕ) → (i ≡ v → ⊥) → get_or (counted t i) v 0 ≡ get_or t v 0
unfolding counted
counted-other t i v f = get_or-set_other t i v (get_or t i 0 + 1) 0 (λ e. f (sym e))

pub counted-fits : (w : List ℕ) (i j : ℕ) → CountIn w i j → {w₁ : List ℕ} → w₁ ≡ counted w i → (j < length w₁) × (get_or w₁ j 0 + 1 < 2 ^ 32)
counted-fits w i j p e = rw e (omega (arith, length-counted w i, p.j-in), rw (counted-other w i j p.different) p.j-fits)

counted-put : (w : List ℕ) (at : ℕ) (t : List ℕ) (m : ℕ) → length t ≡ m → at + m ≤ length w → (i : ℕ) → i < m → counted (put w at t) (at + i) ≡ put w at (counted t i)
unfolding counted
counted-put w at t m e h i l =
    ap (λ z. set (put w at t) (at + i) (z + 1)) (put-within w at t i 0 (omega arith) (omega arith)) ∙ set-put w at t i _ (omega arith)

-- ---- count

module _ (a b : List ℕ) (n : ℕ) where
  pub length-degrees : (e : ℕ) → length (degrees a b n e) ≡ n + 1
  unfolding degrees
  length-degrees e = length-tab _ (n + 1)

  pub get_or-degrees : (e v : ℕ) → v < n + 1 → get_or (degrees a b n e) v 0 ≡ degree a b v e
  unfolding degrees
  get_or-degrees e v l = get_or-tab _ (n + 1) v 0 l

  count-start : replicate (n + 1) 0 ≡ degrees a b n 0
  count-start =
      ext_get_or 0 _ _ (length-replicate (n + 1) 0 ∙ sym (length-degrees 0)) (λ v l.
      let l' : v < n + 1 = omega (arith, length-replicate {A = ℕ} (n + 1) 0) in
      get_or-replicate (n + 1) v 0 0 l' ∙ sym (get_or-degrees 0 v l' ∙ degree-none a b v))

  count_at : (e v : ℕ) → v < n + 1 → get_or a e 0 < n → get_or b e 0 < n → (get_or a e 0 ≡ get_or b e 0 → ⊥) → Dec (get_or a e 0 ≡ v) → Dec (get_or b e 0 ≡ v)
      → get_or (counted (counted (degrees a b n e) (get_or a e 0)) (get_or b e 0)) v 0 ≡ degree a b v (e + 1)
  count_at e v l la lb f (yes h) (yes g) = absurd (f (h ∙ sym g))
  count_at e v l la lb f (yes h) (no g) =
      counted-other (counted (degrees a b n e) (get_or a e 0)) (get_or b e 0) v g
      ∙ rw h (counted_same (degrees a b n e) v (omega (arith, length-degrees e)) ∙ ap (λ z. z + 1) (get_or-degrees e v l)) ∙ sym (degree-a a b v e h)
  count_at e v l la lb f (no h) (yes g) =
      rw g (counted_same (counted (degrees a b n e) (get_or a e 0)) v (omega (arith, length-counted (degrees a b n e) (get_or a e 0), length-degrees e)))
      ∙ ap (λ z. z + 1) (counted-other (degrees a b n e) (get_or a e 0) v h ∙ get_or-degrees e v l) ∙ sym (degree-b a b v e g)
  count_at e v l la lb f (no h) (no g) =
      counted-other (counted (degrees a b n e) (get_or a e 0)) (get_or b e 0) v g
      ∙ counted-other (degrees a b n e) (get_or a e 0) v h ∙ get_or-degrees e v l ∙ sym (degree-else a b v e h g)

  count-step : (e : ℕ) → get_or a e 0 < n → get_or b e 0 < n → (get_or a e 0 ≡ get_or b e 0 → ⊥)
      → counted (counted (degrees a b n e) (get_or a e 0)) (get_or b e 0) ≡ degrees a b n (e + 1)
  count-step e la lb f =
      let size : length (counted (counted (degrees a b n e) (get_or a e 0)) (get_or b e 0)) ≡ n + 1 =
      length-counted (counted (degrees a b n e) (get_or a e 0)) (get_or b e 0) ∙ length-counted (degrees a b n e) (get_or a e 0) ∙ length-degrees e in
      ext_get_or 0 _ _ (size ∙ sym (length-degrees (e + 1))) (λ v l.
      let l' : v < n + 1 = omega arith in
      count_at e v l' la lb f (ℕ_discrete _ v) (ℕ_discrete _ v) ∙ sym (get_or-degrees (e + 1) v l'))

  module _ (w : List ℕ) (at : ℕ) where
    pub count_none : region 0 w at (n + 1) ≡ replicate (n + 1) 0 → w ≡ put w at (degrees a b n 0)
    count_none h = sym (ap (put w at) (sym (h ∙ count-start)) ∙ put-region 0 w at (n + 1))

    pub count-in : ListRoom (length w) at n (length a) → Ends n a b → (e : ℕ) → e < length a → {w₁ : List ℕ} → w₁ ≡ put w at (degrees a b n e) → {i j : ℕ} → i ≡ get_or a e 0 → j ≡ get_or b e 0 → CountIn w₁ (at + i) (at + j)
    count-in p g e l {w₁} h {i} {j} ei ej =
        let size : length w₁ ≡ length w = ap length h ∙ length-put w at (degrees a b n e) in
        let read : (v : ℕ) → v < n → get_or w₁ (at + v) 0 ≡ degree a b v e =
        λ v lv. ap (λ t. get_or t (at + v) 0) h ∙ put-within w at (degrees a b n e) v 0 (omega (arith, length-degrees e)) (omega (arith, p.room)) ∙ get_or-degrees e v (omega arith) in
        let la : get_or a e 0 < n = g.a-below e l in
        let lb : get_or b e 0 < n = g.b-below e l in
        let ra : get_or w₁ (at + i) 0 ≡ degree a b (get_or a e 0) e = rw ei (read (get_or a e 0) la) in
        let rb : get_or w₁ (at + j) 0 ≡ degree a b (get_or b e 0) e = rw ej (read (get_or b e 0) lb) in
        record {
          i-in = omega (arith, p.room);
          j-in = omega (arith, p.room);
          i-fits = omega (arith, p.narrow, degree-few a b (get_or a e 0) e);
          j-fits = omega (arith, p.narrow, degree-few a b (get_or b e 0) e);
          different = λ z. g.different e l (omega arith);
        }

    pub count-again : ListRoom (length w) at n (length a) → Ends n a b → (e : ℕ) → e < length a → {w₁ w₂ : List ℕ} {i j : ℕ} → w₁ ≡ put w at (degrees a b n e)
        → i ≡ get_or a e 0 → j ≡ get_or b e 0 → w₂ ≡ counted (counted w₁ (at + i)) (at + j) → w₂ ≡ put w at (degrees a b n (e + 1))
    count-again p g e l {w₁} {w₂} e₁ ei ej e₂ =
        let la : get_or a e 0 < n = g.a-below e l in
        let lb : get_or b e 0 < n = g.b-below e l in
        let t : List ℕ = degrees a b n e in
        e₂ ∙ rw (
          e₁,
          ei,
          ej,
          counted-put w at t (n + 1) (length-degrees e) (omega (arith, p.room)) (get_or a e 0) (omega arith),
          counted-put w at (counted t (get_or a e 0)) (n + 1) (length-counted t (get_or a e 0) ∙ length-degrees e) (omega (arith, p.room)) (get_or b e 0) (omega arith),
          count-step e la lb (g.different e l),
        )

    pub count-done : {w₁ : List ℕ} {e m : ℕ} → m ≡ length a → e ≤ length a → m ≤ e → w₁ ≡ put w at (degrees a b n e) → w₁ ≡ put w at (degrees a b n (length a))
    count-done {w₁} {e} k l g h = let z : e ≡ length a = omega arith in h ∙ rw z
