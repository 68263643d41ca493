-- What the tests of lent slices say: their loops, and what follows where they pass. Assumes nothing.
use mathlib.Core.Path.{◌≡◌, refl, sym, ◌∙◌}
use mathlib.Core.Bool.{Bool, true, false, not, ◌&&◌}
use mathlib.Core.Logic.{⊎_elim}
use mathlib.Core.List.{List}
use Prim.Native.Nat.{ℕ, zero, suc, ◌+◌, ◌*◌, ◌-◌, ◌^◌, ◌≤◌, ◌<◌}
use native.Mathlib.Nat.{not-suc-le-zero, eq-or-lt_of_le, le_of_suc-le-suc}
use native.Mathlib.Numerals.{add-one}
use native.Mathlib.Decide.{dec_le}
use native.Mathlib.Omega.{arith}
use borrow.Author.Tests.{ltb-true, lt-ltb, le-ltb, eqb-true, eqb-false, eq-eqb, ne_eqb}
use lib.Dec.{ltb, eqb}
use lib.ListN.{length, get_or}
use Rattle.linear_cells.specs.Region.{put}
use Rattle.linear_adjacency.specs.Adjacency.{Ends, adjacency}
use Rattle.linear_adjacency.specs.Build.{ListRoom}
use Rattle.linear_adjacency.specs.Incidence.{is_edge, are_edges_to, are_edges, has_room, listable, VertexLists}

pub and-false : (a : Bool) → a && false ≡ false
and-false true = refl
and-false false = refl

pub and-true : (a b : Bool) → a && b ≡ true → (a ≡ true) × (b ≡ true)
and-true true b e = (refl, e)
and-true false b e = (e, cc)

pub not-true : (a : Bool) → not a ≡ true → a ≡ false
not-true true e = sym e
not-true false e = refl

pub not-false : (a : Bool) → not a ≡ false → a ≡ true
not-false true e = refl
not-false false e = sym e

-- ---- one edge

pub edge-high-a : (n a b : ℕ) → n ≤ a → false ≡ is_edge n a b
unfolding is_edge
edge-high-a n a b h = rw (le-ltb a n h)

pub edge-high-b : (n a b : ℕ) → n ≤ b → false ≡ is_edge n a b
unfolding is_edge
edge-high-b n a b h = rw (le-ltb b n h) (sym (and-false (ltb a n)))

pub edge-good : (n a b : ℕ) → a < n → b < n → not (eqb a b) ≡ is_edge n a b
unfolding is_edge
edge-good n a b h g = rw (lt-ltb a n h, lt-ltb b n g)

edge-parts : (n a b : ℕ) → is_edge n a b ≡ true → (a < n) × (b < n) × (a ≡ b → ⊥)
unfolding is_edge
edge-parts n a b h =
    let p = and-true (ltb a n) (ltb b n && not (eqb a b)) h in
    let q = and-true (ltb b n) (not (eqb a b)) p.1 in
    let f : eqb a b ≡ false = not-true (eqb a b) q.1 in
    (ltb-true a n p.0, ltb-true b n q.0, eqb-false a b f)

-- ---- all edges

module _ (n : ℕ) (from to : List ℕ) where
  pub edges_none : are_edges_to n from to 0 ≡ true
  unfolding are_edges_to
  edges_none = refl

  edges_more : (e : ℕ) → are_edges_to n from to (suc e) ≡ are_edges_to n from to e && is_edge n (get_or from e 0) (get_or to e 0)
  unfolding are_edges_to
  edges_more e = refl

  pub edges-again : (e : ℕ) {a b : ℕ} {r : Bool} → are_edges_to n from to e ≡ true → a ≡ get_or from e 0 → b ≡ get_or to e 0 → r ≡ is_edge n a b → r ≡ true
      → are_edges_to n from to (e + 1) ≡ true
  edges-again e h ea eb er t =
      let z : is_edge n (get_or from e 0) (get_or to e 0) ≡ true = rw (← ea, ← eb) (sym er ∙ t) in
      rw (add-one, edges_more, h, z)

  none_after : (m e : ℕ) → e < m → is_edge n (get_or from e 0) (get_or to e 0) ≡ false → are_edges_to n from to m ≡ false
  none_after zero e l h = absurd (not-suc-le-zero l)
  none_after (suc m) e l h =
      rw edges_more
      (⊎_elim (λ i. rw (← i, h) (and-false (are_edges_to n from to e))) (λ k. rw (none_after m e k h)) (eq-or-lt_of_le (le_of_suc-le-suc l)))

  edges_at : (m : ℕ) → are_edges_to n from to m ≡ true → (e : ℕ) → e < m → is_edge n (get_or from e 0) (get_or to e 0) ≡ true
  edges_at zero h e l = absurd (not-suc-le-zero l)
  edges_at (suc m) h e l =
      let p = and-true (are_edges_to n from to m) (is_edge n (get_or from m 0) (get_or to m 0)) (sym (edges_more m) ∙ h) in
      ⊎_elim (λ i. rw i p.1) (λ k. edges_at m p.0 e k) (eq-or-lt_of_le (le_of_suc-le-suc l))

  pub edges-unpaired : (length to ≡ length from → ⊥) → false ≡ are_edges n from to
  unfolding are_edges
  edges-unpaired h = rw (ne_eqb (length to) (length from) h)

  pub edges-not : length to ≡ length from → (e : ℕ) → e < length from → {a b : ℕ} {r : Bool} → a ≡ get_or from e 0 → b ≡ get_or to e 0 → r ≡ is_edge n a b → r ≡ false
      → false ≡ are_edges n from to
  unfolding are_edges
  edges-not h e l ea eb er t =
      let z : is_edge n (get_or from e 0) (get_or to e 0) ≡ false = rw (← ea, ← eb) (sym er ∙ t) in
      rw (eq-eqb (length to) (length from) h) (sym (none_after (length from) e l z))

  pub edges-done : length to ≡ length from → {e m : ℕ} → m ≡ length from → e ≤ length from → m ≤ e → are_edges_to n from to e ≡ true → true ≡ are_edges n from to
  unfolding are_edges
  edges-done h {e} k l g t = let z : e ≡ length from = omega arith in rw (eq-eqb (length to) (length from) h) (sym (rw z at t))

  -- where the test passes, the edges are what the lists are made of
  pub edges-ends : are_edges n from to ≡ true → Ends n from to
  unfolding are_edges
  edges-ends t =
      let p = and-true (eqb (length to) (length from)) (are_edges_to n from to (length from)) t in
      let one : (e : ℕ) → e < length from → (get_or from e 0 < n) × (get_or to e 0 < n) × (get_or from e 0 ≡ get_or to e 0 → ⊥) =
      λ e l. edge-parts n (get_or from e 0) (get_or to e 0) (edges_at (length from) p.1 e l) in
      record {
        paired = eqb-true (length to) (length from) p.0;
        a-below = λ e l. (one e l).0;
        b-below = λ e l. (one e l).1;
        different = λ e l. (one e l).2;
      }

-- ---- room

pub room-many : (n edges room : ℕ) → 2 ^ 31 ≤ edges → false ≡ has_room n edges room
unfolding has_room
room-many n edges room h = rw (le-ltb edges (2 ^ 31) h)

pub room-short : (n edges room : ℕ) → room ≤ n + 2 * edges → false ≡ has_room n edges room
unfolding has_room
room-short n edges room h = rw (le-ltb (n + 2 * edges) room h) (sym (and-false (ltb edges (2 ^ 31))))

-- both ways to test it
pub less-over : (n edges room : ℕ) → n ≤ room → {r : Bool} → r ≡ ltb (2 * edges) (room - n) → r ≡ ltb (n + 2 * edges) room
less-over n edges room h er = er ∙ rest (dec_le room (n + 2 * edges))
  where
    rest : Dec (room ≤ n + 2 * edges) → ltb (2 * edges) (room - n) ≡ ltb (n + 2 * edges) room
    rest (yes l) = rw (le-ltb (n + 2 * edges) room l) (le-ltb (2 * edges) (room - n) (omega arith))
    rest (no f) = rw (lt-ltb (n + 2 * edges) room (omega arith)) (lt-ltb (2 * edges) (room - n) (omega arith))

pub room-enough : (n edges room : ℕ) → edges < 2 ^ 31 → {r : Bool} → r ≡ ltb (n + 2 * edges) room → r ≡ has_room n edges room
unfolding has_room
room-enough n edges room h er = rw (lt-ltb edges (2 ^ 31) h) er

pub room-lists : (n edges room : ℕ) → has_room n edges room ≡ true → ListRoom room 0 n edges
unfolding has_room
room-lists n edges room t =
    let p = and-true (ltb edges (2 ^ 31)) (ltb (n + 2 * edges) room) t in
    record { room = omega (arith, ltb-true (n + 2 * edges) room p.1); narrow = omega (arith, ltb-true edges (2 ^ 31) p.0) }

-- ---- the answer

module _ (n : ℕ) (a b l : List ℕ) {good : Bool} (eg : good ≡ are_edges n a b) where
  pub lists-no-edges : good ≡ false → VertexLists n a b l l false
  unfolding listable
  lists-no-edges t = record { made = rw (sym eg ∙ t); lists = rw (sym eg ∙ t) }

  module _ (t : good ≡ true) {roomy : Bool} (er : roomy ≡ has_room n (length a) (length l)) where
    pub lists-no-room : roomy ≡ false → VertexLists n a b l l false
    unfolding listable
    lists-no-room q = record { made = rw (sym eg ∙ t, sym er ∙ q); lists = rw (sym eg ∙ t, sym er ∙ q) }

    pub lists-needs : roomy ≡ true → ListRoom (length l) 0 n (length a) × Ends n a b
    lists-needs q = (room-lists n (length a) (length l) (sym er ∙ q), edges-ends n a b (sym eg ∙ t))

    pub lists-made : roomy ≡ true → {l' : List ℕ} → l' ≡ put l 0 (adjacency a b n) → VertexLists n a b l l' true
    unfolding listable
    lists-made q e = record { made = rw (sym eg ∙ t, sym er ∙ q); lists = rw (sym eg ∙ t, sym er ∙ q) e }
