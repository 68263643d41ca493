-- What stays of what stands in the u32 work where its cells stay. Assumes nothing.
use Prim.Native.Nat.{ℕ, zero, suc, ◌+◌, ◌*◌, ◌≤◌, ◌<◌}
use native.Mathlib.Omega.{arith}
use mathlib.Core.Path.{◌≡◌, refl, sym, ◌∙◌, subst}
use mathlib.Core.List.{List}
use lib.ListN.{length, get_or}
use Rattle.mesh.specs.Mesh.{Side, Tri}
use Rattle.edges.specs.Numbering.{tri_from, tris_from, occurs}
use Rattle.edges.proofs.Numbering.{sides-same, held_same}
use Rattle.pass_boundary.specs.declared.Listing.{Listing}
use Rattle.pass_boundary.specs.Work.{tris_in, table_of, AllIn, EitherWay, ListRoom, Sided, Numbers, Counts}

-- ---- the triangles, the table, the numbers and the counts, where the cells up to the table's end, or before the flags, are the same

-- (edges has these two, private)
pub tris-same : (c i : ℕ) (u u' : List ℕ) → ((j : ℕ) → j < c + 3 * i → get_or u' j 0 ≡ get_or u j 0) → tris_from c u' i ≡ tris_from c u i
unfolding tris_from
tris-same c zero u u' h = refl
tris-same c (suc i) u u' h = rw (tris-same c i u u' (λ j g. h j (omega arith)), h (c + 3 * i) (omega arith), h (c + 3 * i + 1) (omega arith), h (c + 3 * i + 2) (omega arith))

occurs-same : (s e : ℕ) (w w' : List ℕ) (k : ℕ) → ((j : ℕ) → j < k → get_or w' (e + j) 0 ≡ get_or w (e + j) 0) → occurs s e w' k ≡ occurs s e w k
unfolding occurs
occurs-same s e w w' zero h = refl
occurs-same s e w w' (suc k) h = rw (h k (omega arith), occurs-same s e w w' k (λ j g. h j (omega arith)))

module _ {l : Listing} {n len : ℕ} (u u' : List ℕ) (room : ListRoom l n len) (same : (j : ℕ) → j < l.table + l.buckets + 4 * l.sides → get_or u' j 0 ≡ get_or u j 0) where
  pub tris-kept : tris_in l u' ≡ tris_in l u
  tris-kept = tris-same l.corners l.triangles u u' (λ j h. same j (omega (arith, room.corners-in)))

  cells : (j : ℕ) → l.table ≤ j → j < l.table + l.buckets + 4 * l.sides → get_or u' j 0 ≡ get_or u j 0
  cells j p q = same j q

  pub table_kept : table_of l u' ≡ table_of l u
  table_kept = sides-same l.table l.buckets u u' l.sides cells

  pub tri-kept : (i : ℕ) → i < l.triangles → tri_from l.corners u' i ≡ tri_from l.corners u i
  tri-kept i h =
      let p = same (l.corners + 3 * i) (omega (arith, room.corners-in)) in
      let q = same (l.corners + 3 * i + 1) (omega (arith, room.corners-in)) in
      let r = same (l.corners + 3 * i + 2) (omega (arith, room.corners-in)) in
      rw (p, q, r)

  pub sided-kept : length u' ≡ length u → Sided l n u → Sided l n u'
  sided-kept e s = record {
    held = held_same l.table l.buckets u u' l.sides cells e s.held;
    corners-below = λ j h. omega (arith, same (l.corners + j) (omega (arith, room.corners-in)), s.corners-below j h);
    all_in = λ i h. subst (λ (x : List Side). AllIn (tri_from l.corners u' i) x) (sym table_kept) (subst (λ (x : Tri). AllIn x (table_of l u)) (sym (tri-kept i h)) (s.all_in i h));
    either_way = λ i h.
        let p = same (l.numbers + 3 * i) (omega (arith, room.numbers-in)) in
        let q = same (l.numbers + 3 * i + 1) (omega (arith, room.numbers-in)) in
        let r = same (l.numbers + 3 * i + 2) (omega (arith, room.numbers-in)) in
        rw (p, q, r) (subst (λ (x : List Side). EitherWay (tri_from l.corners u' i) x (get_or u (l.numbers + 3 * i) 0) (get_or u (l.numbers + 3 * i + 1) 0) (get_or u (l.numbers + 3 * i + 2) 0)) (sym table_kept)
        (subst (λ (x : Tri). EitherWay x (table_of l u) (get_or u (l.numbers + 3 * i) 0) (get_or u (l.numbers + 3 * i + 1) 0) (get_or u (l.numbers + 3 * i + 2) 0)) (sym (tri-kept i h)) (s.either_way i h)));
  }

  pub numbers-kept : Numbers l u → Numbers l u'
  numbers-kept s = record {
    numbers-below = λ j h. omega (arith, same (l.numbers + j) (omega (arith, room.numbers-in)), s.numbers-below j h);
    occur = λ k h. rw (table_kept, tris-kept) (occurs-same k l.numbers u u' (3 * l.triangles) (λ j g. same (l.numbers + j) (omega (arith, room.numbers-in))) ∙ s.occur k h);
  }

pub counts-kept : {l : Listing} {n len : ℕ} (u u' : List ℕ) → ListRoom l n len → ((j : ℕ) → j < l.flags → get_or u' j 0 ≡ get_or u j 0) → Counts l u → Counts l u'
counts-kept {l} {n} {len} u u' room same c k h =
    let low : (j : ℕ) → j < l.table + l.buckets + 4 * l.sides → get_or u' j 0 ≡ get_or u j 0 = λ j g. same j (omega (arith, room.table-in, room.counts-in)) in
    rw (table_kept u u' room low, tris-kept u u' room low) (same (l.counts + k) (omega (arith, room.counts-in)) ∙ c k h)
