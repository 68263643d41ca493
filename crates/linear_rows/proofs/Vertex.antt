-- The product at one vertex on lent slices: the tests and the loop of its code, over lists; and what the slices hold where the tests pass. Assumes nothing.
use mathlib.Core.Path.{◌≡◌, refl, sym, ap, ◌∙◌}
use mathlib.Core.Bool.{Bool, true, false, ◌&&◌}
use mathlib.Core.List.{List, [], ◌∷◌, ◌++◌}
use Prim.Native.Nat.{ℕ, zero, suc, ◌+◌, ◌*◌, ◌-◌, ◌/◌, ◌≤◌, ◌<◌}
use native.Mathlib.Decide.{dec_le}
use native.Mathlib.Omega.{arith}
use borrow.Author.Tests.{ltb-true, lt-ltb, le-ltb, leb-true, le-leb, lt-leb, eq-eqb, ne_eqb}
use lib.Dec.{ltb, leb}
use lib.ListN.{length, get_or}
use lib.Ieee.{Float, nan}
use Rattle.complex.specs.declared.Complex.{Complex}
use Rattle.complex.specs.Complex.{cnan, cadd, cmul, cconj, cscale}
use Rattle.linear_cells.specs.Region.{region}
use Rattle.linear_cells.proofs.Loops.{length-tab, get_or-tab}
use Rattle.linear_hermitian.specs.Hermitian.{Matrix}
use Rattle.linear_adjacency.specs.Incidence.{list_in}
use Rattle.linear_adjacency.proofs.Tests.{and-false, and-true}
use Rattle.std.specs.Prelude.{Option, Some, None}
use Rattle.linear_rows.specs.Rows.{entry_at, other_end, plus_edge, plus_edges, diagonal_at}
use Rattle.linear_rows.specs.Vertex.{pairs_of, lent_matrix, is_inside, all_inside, has_list, entry_of, term_of, product_over, vertex_product}
use Rattle.linear_rows.proofs.Scatter.{plus-snoc}
use Rattle.linear_rows.proofs.Loops.{region-more, region-none}

-- ---- pairs

pub pair_is : (z : List Float) (i : ℕ) → i < length z / 2 → record { re = get_or z (2 * i) nan; im = get_or z (2 * i + 1) nan } ≡ get_or (pairs_of z) i cnan
unfolding pairs_of
pair_is z i l = sym (get_or-tab _ (length z / 2) i cnan l)

pub length_pairs : (z : List Float) → length (pairs_of z) ≡ length z / 2
unfolding pairs_of
length_pairs z = length-tab _ (length z / 2)

-- ---- an edge

module _ (from to : List ℕ) (v e : ℕ) {a : ℕ} (ea : a ≡ get_or from e 0) where
  pub end_same : {b : ℕ} → b ≡ get_or to e 0 → a ≡ v → b ≡ other_end from to v e
  unfolding other_end
  end_same eb h = rw (eq-eqb (get_or from e 0) v (sym ea ∙ h)) eb

  pub end-other : (a ≡ v → ⊥) → a ≡ other_end from to v e
  unfolding other_end
  end-other f = rw (ne_eqb (get_or from e 0) v (λ h. f (ea ∙ h))) ea

  module _ (off : List Complex) {z : Complex} (ez : z ≡ get_or off e cnan) where
    pub entry-same : a ≡ v → z ≡ entry_of off from v e
    unfolding entry_of
    entry-same h = rw (eq-eqb (get_or from e 0) v (sym ea ∙ h)) ez

    pub entry_other : (a ≡ v → ⊥) → {r : Complex} → r ≡ cconj z → r ≡ entry_of off from v e
    unfolding entry_of
    entry_other f er = rw (ne_eqb (get_or from e 0) v (λ h. f (ea ∙ h))) (er ∙ ap cconj ez)

module _ (off : List Complex) (from to : List ℕ) (x : List Complex) (v e : ℕ) where
  pub outside-from : length from ≤ e → false ≡ is_inside off from to x v e
  unfolding is_inside
  outside-from h = rw (le-ltb e (length from) h)

  pub outside-to : length to ≤ e → false ≡ is_inside off from to x v e
  unfolding is_inside
  outside-to h = rw (le-ltb e (length to) h) (sym (and-false (ltb e (length from))))

  pub outside-off : length off ≤ e → false ≡ is_inside off from to x v e
  unfolding is_inside
  outside-off h = rw (le-ltb e (length off) h, and-false (ltb e (length to))) (sym (and-false (ltb e (length from))))

  pub inside-end : e < length from → e < length to → e < length off → {r : Bool} → r ≡ ltb (other_end from to v e) (length x) → r ≡ is_inside off from to x v e
  unfolding is_inside
  inside-end l m k er = rw (lt-ltb e (length from) l, lt-ltb e (length to) m, lt-ltb e (length off) k) er

  pub inside-parts : is_inside off from to x v e ≡ true → (e < length from) × (e < length to) × (e < length off) × (other_end from to v e < length x)
  unfolding is_inside
  inside-parts t =
      let p = and-true (ltb e (length from)) _ t in
      let q = and-true (ltb e (length to)) _ p.1 in
      let s = and-true (ltb e (length off)) _ q.1 in
      (ltb-true e (length from) p.0, ltb-true e (length to) q.0, ltb-true e (length off) s.0, ltb-true (other_end from to v e) (length x) s.1)

  pub inside-all : e < length from → e < length to → e < length off → other_end from to v e < length x → is_inside off from to x v e ≡ true
  unfolding is_inside
  inside-all l m k h = rw (lt-ltb e (length from) l, lt-ltb e (length to) m, lt-ltb e (length off) k) (lt-ltb (other_end from to v e) (length x) h)

  pub term_is : {z y r : Complex} → z ≡ entry_of off from v e → {j : ℕ} → j ≡ other_end from to v e → y ≡ get_or x j cnan → r ≡ cmul z y → r ≡ term_of off from to x v e
  unfolding term_of
  term_is ez ej ey er = er ∙ rw (ez, ey, ej)

-- on slices of pairs
module _ (off : List Float) (from to : List ℕ) (x : List Float) (v e : ℕ) where
  pub pairs-off : length off / 2 ≤ e → false ≡ is_inside (pairs_of off) from to (pairs_of x) v e
  pairs-off h = outside-off (pairs_of off) from to (pairs_of x) v e (omega (arith, length_pairs off))

  pub pairs_end : e < length from → e < length to → e < length off / 2 → {j : ℕ} → j ≡ other_end from to v e → ltb j (length x / 2) ≡ is_inside (pairs_of off) from to (pairs_of x) v e
  pairs_end l m k ej = inside-end (pairs_of off) from to (pairs_of x) v e l m (omega (arith, length_pairs off)) (rw (ej, length_pairs x))

  pub pairs-parts : is_inside (pairs_of off) from to (pairs_of x) v e ≡ true → (e < length from) × (e < length to) × (e < length off / 2) × (other_end from to v e < length x / 2)
  pairs-parts t =
      let p = inside-parts (pairs_of off) from to (pairs_of x) v e t in
      (p.0, p.1, omega (arith, length_pairs off, p.2), omega (arith, length_pairs x, p.3))

-- ---- the loop

module _ (m : Matrix) (x : List Complex) (v : ℕ) where
  plus-term : (e : ℕ) (s : Complex) → plus_edge m x v e s ≡ cadd s (term_of m.off m.edge_a m.edge_b x v e)
  unfolding plus_edge entry_at term_of entry_of
  plus-term e s = refl

  inside_snoc : (es : List ℕ) (e : ℕ) → all_inside m x v (es ++ (e ∷ [])) ≡ all_inside m x v es && is_inside m.off m.edge_a m.edge_b x v e
  unfolding all_inside
  inside_snoc [] e = last (is_inside m.off m.edge_a m.edge_b x v e)
    where
      last : (t : Bool) → t && true ≡ t
      last true = refl
      last false = refl
  inside_snoc (d ∷ es) e = rw (inside_snoc es e) (regrouped (is_inside m.off m.edge_a m.edge_b x v d) (all_inside m x v es) _)
    where
      regrouped : (p q r : Bool) → p && (q && r) ≡ (p && q) && r
      regrouped true q r = refl
      regrouped false q r = refl

  inside-append : (es fs : List ℕ) → all_inside m x v es ≡ false → all_inside m x v (es ++ fs) ≡ false
  unfolding all_inside
  inside-append [] fs h = absurd-path h
    where
      absurd-path : true ≡ false → all_inside m x v fs ≡ false
      absurd-path p = cc
  inside-append (d ∷ es) fs h = rest (is_inside m.off m.edge_a m.edge_b x v d) (λ g. inside-append es fs g) h
    where
      rest : (t : Bool) → (all_inside m x v es ≡ false → all_inside m x v (es ++ fs) ≡ false) → t && all_inside m x v es ≡ false → t && all_inside m x v (es ++ fs) ≡ false
      rest true more g = more g
      rest false more g = refl

  module _ (lists : List ℕ) (at : ℕ) where
    pub over-inside : all_inside m x v (region 0 lists at 0) ≡ true
    unfolding all_inside
    over-inside = rw region-none

    pub over_first : {s : Complex} → s ≡ diagonal_at m x v → s ≡ plus_edges m x v (region 0 lists at 0) (diagonal_at m x v)
    unfolding plus_edges
    over_first e = rw region-none e

    module _ (k : ℕ) {e : ℕ} (ee : e ≡ get_or lists (at + k) 0) {t : Bool} (et : t ≡ is_inside m.off m.edge_a m.edge_b x v e) (h : all_inside m x v (region 0 lists at k) ≡ true) where
      pub over-still : t ≡ true → all_inside m x v (region 0 lists at (k + 1)) ≡ true
      over-still q = rw (region-more lists at k, inside_snoc, h, ← ee) (sym et ∙ q)

      pub over-outside : t ≡ false → (count : ℕ) → k < count → None ≡ product_over m x v (region 0 lists at count)
      unfolding product_over
      over-outside q count l =
          let here : all_inside m x v (region 0 lists at (k + 1)) ≡ false = rw (region-more lists at k, inside_snoc, h, ← ee) (sym et ∙ q) in
          let all : all_inside m x v (region 0 lists at count) ≡ false = rest count (k + 1) (omega arith) here in
          rw all
        where
          up : (i : ℕ) (d : ℕ) → all_inside m x v (region 0 lists at i) ≡ false → all_inside m x v (region 0 lists at (i + d)) ≡ false
          up i zero g = let z : i + 0 ≡ i = omega arith in rw z g
          up i (suc d) g =
              let z : i + suc d ≡ (i + d) + 1 = omega arith in
              rw (z, region-more lists at (i + d)) (inside-append (region 0 lists at (i + d)) _ (up i d g))

          rest : (count i : ℕ) → i ≤ count → all_inside m x v (region 0 lists at i) ≡ false → all_inside m x v (region 0 lists at count) ≡ false
          rest count i g f = let z : count ≡ i + (count - i) = omega arith in rw z (up i (count - i) f)

      pub over-again : {s s' y : Complex} → s ≡ plus_edges m x v (region 0 lists at k) (diagonal_at m x v) → y ≡ term_of m.off m.edge_a m.edge_b x v e → s' ≡ cadd s y
          → s' ≡ plus_edges m x v (region 0 lists at (k + 1)) (diagonal_at m x v)
      over-again es ey e₂ = e₂ ∙ rw (es, ey, region-more lists at k, plus-snoc, plus-term, ← ee)

    pub over_done : {k count : ℕ} {s : Complex} → k ≤ count → count ≤ k → all_inside m x v (region 0 lists at k) ≡ true
        → s ≡ plus_edges m x v (region 0 lists at k) (diagonal_at m x v) → Some s ≡ product_over m x v (region 0 lists at count)
    unfolding product_over
    over_done {k} {count} l g h e = let z : count ≡ k = omega arith in rw (z, h) (ap Some e)

-- the diagonal's term, as the code makes it
pub lent-diagonal : (diagonal off : List Float) (from to : List ℕ) (x : List Complex) (v : ℕ) {z s : Complex} → z ≡ get_or x v cnan → s ≡ cscale z (get_or diagonal v nan)
    → s ≡ diagonal_at (lent_matrix diagonal off from to) x v
unfolding diagonal_at
lent-diagonal diagonal off from to x v ez es = es ∙ rw ez

-- ---- the list of a vertex

module _ (l : List ℕ) (n v : ℕ) where
  pub list-no-vertex : n ≤ v → false ≡ has_list l n v
  unfolding has_list
  list-no-vertex h = rw (le-ltb v n h)

  pub list-short : length l ≤ n → false ≡ has_list l n v
  unfolding has_list
  list-short h = rw (lt-leb (n + 1 + get_or l (v + 1) 0) (length l) (omega arith), and-false (leb (get_or l v 0) (get_or l (v + 1) 0))) (sym (and-false (ltb v n)))

  module _ {begin end : ℕ} (eb : begin ≡ get_or l v 0) (ee : end ≡ get_or l (v + 1) 0) where
    pub list-backwards : end < begin → false ≡ has_list l n v
    unfolding has_list
    list-backwards h = rw (lt-leb (get_or l v 0) (get_or l (v + 1) 0) (omega (arith, eb, ee))) (sym (and-false (ltb v n)))

    pub list-end : v < n → n < length l → begin ≤ end → ltb end (length l - n) ≡ has_list l n v
    unfolding has_list
    list-end lv ln h = rw (lt-ltb v n lv, le-leb (get_or l v 0) (get_or l (v + 1) 0) (omega (arith, eb, ee))) (same (dec_le (length l - n) end))
      where
        same : Dec (length l - n ≤ end) → ltb end (length l - n) ≡ leb (n + 1 + get_or l (v + 1) 0) (length l)
        same (yes g) = rw (le-ltb end (length l - n) g) (sym (lt-leb (n + 1 + get_or l (v + 1) 0) (length l) (omega (arith, ee))))
        same (no f) = rw (lt-ltb end (length l - n) (omega arith)) (sym (le-leb (n + 1 + get_or l (v + 1) 0) (length l) (omega (arith, ee))))

  pub list-parts : has_list l n v ≡ true → (v < n) × (get_or l v 0 ≤ get_or l (v + 1) 0) × (n + 1 + get_or l (v + 1) 0 ≤ length l)
  unfolding has_list
  list-parts t =
      let p = and-true (ltb v n) _ t in
      let q = and-true (leb (get_or l v 0) (get_or l (v + 1) 0)) _ p.1 in
      (ltb-true v n p.0, leb-true (get_or l v 0) (get_or l (v + 1) 0) q.0, leb-true (n + 1 + get_or l (v + 1) 0) (length l) q.1)

  pub list_all : v < n → get_or l v 0 ≤ get_or l (v + 1) 0 → n + 1 + get_or l (v + 1) 0 ≤ length l → has_list l n v ≡ true
  unfolding has_list
  list_all lv h k = rw (lt-ltb v n lv, le-leb (get_or l v 0) (get_or l (v + 1) 0) h) (le-leb (n + 1 + get_or l (v + 1) 0) (length l) k)

-- ---- the product

module _ (diagonal off : List Float) (from to : List ℕ) (x : List Float) (l : List ℕ) (v : ℕ) {t : Bool} (et : t ≡ has_list l (length diagonal) v) where
  abbrev M : Matrix
  M = lent_matrix diagonal off from to

  pub vertex-no-list : t ≡ false → None ≡ vertex_product M (pairs_of x) l v
  unfolding vertex_product
  vertex-no-list q = rw (sym et ∙ q)

  module _ (q : t ≡ true) where
    pub vertex-past : length x / 2 ≤ v → None ≡ vertex_product M (pairs_of x) l v
    unfolding vertex_product
    vertex-past h = rw (sym et ∙ q, length_pairs x, le-ltb v (length x / 2) h)

    pub vertex-is : v < length x / 2 → {n begin end : ℕ} → n ≡ length diagonal → begin ≡ get_or l v 0 → end ≡ get_or l (v + 1) 0 → {r : Option Complex}
        → r ≡ product_over M (pairs_of x) v (region 0 l (n + 1 + begin) (end - begin)) → r ≡ vertex_product M (pairs_of x) l v
    unfolding vertex_product list_in
    vertex-is h en eb ee er = er ∙ rw (en, eb, ee, sym et ∙ q, length_pairs x, lt-ltb v (length x / 2) h)
