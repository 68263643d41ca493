-- The walk over the sides: one value, one side, one triangle more. Assumes nothing.
use Prim.Native.Nat.{ℕ, ◌+◌, ◌*◌, ◌≤◌, ◌<◌}
use native.Mathlib.Omega.{arith}
use native.Mathlib.Decide.{ℕ_discrete}
use native.Mathlib.Numerals.{add-one}
use mathlib.Core.Path.{◌≡◌, refl, sym, ap, ap₂, ◌∙◌, subst}
use mathlib.Core.Logic.{◌⊎◌, inl, inr, ⊎_elim}
use mathlib.Core.Bool.{Bool, true, false, not, cond, ◌||◌}
use mathlib.Core.List.{List, [], ◌∷◌, ◌++◌}
use mathlib.Core.Option.{Option, none, some}
use borrow.Author.Tests.{eq-eqb, ne_eqb}
use lib.Dec.{eqb}
use lib.ListN.{length, length-append, length-set, get_or, set}
use lib.Seq.{get_or-set_same, get_or-set_other}
use lib.Ieee.{Float, nan}
use Rattle.float.specs.Double.{◌⊖◌}
use Rattle.arctangent.specs.Arc.{atan2_of}
use Rattle.complex.specs.Guidance.{fourfold}
use Rattle.complex.specs.declared.Complex.{Complex}
use Rattle.complex.specs.Complex.{cadd}
use Rattle.linear_cells.specs.Region.{region, Apart}
use Rattle.linear_cells.specs.Cell.{get_c, set_c}
use Rattle.linear_cells.proofs.Loops.{apart}
use Rattle.linear_cells.proofs.Regions.{get_or-region}
use Rattle.linear_cells.proofs.Cells.{length-set_c}
use Rattle.linear_cells.proofs.Changes.{cell_at, cell-else, real-else, region-same}
use Rattle.mesh.specs.Mesh.{Side, side, key, Tri, tri, index_in, is_none}
use Rattle.mesh.proofs.Cuts.{key-flip, index-only, index_below}
use Rattle.edges.specs.Table.{lo_of, hi_of, Held}
use Rattle.edges.specs.Numbering.{tri_from, tris_from}
use Rattle.edges.specs.Sides.{times, listed}
use Rattle.edges.proofs.Tree.{length_pairs}
use Rattle.pass_boundary.specs.declared.Listing.{Listing}
use Rattle.pass_boundary.specs.declared.Planes.{Planes}
use Rattle.pass_boundary.specs.Boundary.{around, walked, once, is_inner, kept, side_tangent, Mark, mark, marks, sum_from, first_or}
use Rattle.pass_boundary.specs.Work.{xs_in, ys_in, tris_in, table_of, ListRoom, PlaneRoom, In, EitherWay, Sided, Counts, is_marked, Added, Marked}
use Rattle.pass_boundary.proofs.Marks.{walked-snoc, kept_append, kept-few, marks-append, sum-append, flag-append, first-append}
use Rattle.pass_boundary.proofs.Slices.{tris-kept, table_kept, tri-kept, sided-kept, counts-kept}

-- ---- a side's count

-- a side that is in the table has a number
number : (o : Option ℕ) → is_none o ≡ false → (k : ℕ) × (o ≡ some k)
number none h = let n : ◌≡◌ {A = ℕ} 1 0 = ap (λ (b : Bool). cond b 1 0) h in absurd (omega arith)
number (some k) h = (k, refl)

low-in : (l : Listing) (u : List ℕ) (s : Side) (k : ℕ) → index_in s (table_of l u) ≡ some k → k < l.sides
low-in l u s k e = omega (arith, index_below s (table_of l u) k e, length_pairs (lo_of l.table l.buckets u) (hi_of l.table l.buckets u) l.sides)

-- the count at a side's number says whether it lies on the boundary
pub count-once : (l : Listing) (u : List ℕ) (a b k : ℕ) → Held l.table l.buckets u l.sides → Counts l u → index_in (key a b) (table_of l u) ≡ some k
    → eqb (get_or u (l.counts + k) 0) 1 ≡ once (tris_in l u) (side a b)
unfolding once
count-once l u a b k held counts e =
    let low : k < l.sides = low-in l u (key a b) k e in
    let here : get_or (table_of l u) k (side 0 0) ≡ key a b =
    index-only (get_or (table_of l u) k (side 0 0)) (key a b) (table_of l u) k (held.numbered k (omega (arith, length_pairs (lo_of l.table l.buckets u) (hi_of l.table l.buckets u) l.sides))) e in
    ap (λ (c : ℕ). eqb c 1) (counts k low ∙ ap (λ (s : Side). times s (listed (tris_in l u))) here)

-- ---- a triangle's counts

both_ways : (ts : List Tri) (a b : ℕ) → once ts (side b a) ≡ once ts (side a b)
unfolding once
both_ways ts a b = ap (λ (s : Side). eqb (times s (listed ts)) 1) (key-flip b a)

turned : (x y z : Bool) → not (z || (y || x)) ≡ not (x || (y || z))
turned true true true = refl
turned true true false = refl
turned true false true = refl
turned true false false = refl
turned false true true = refl
turned false true false = refl
turned false false true = refl
turned false false false = refl

pub inner-by : (l : Listing) (u : List ℕ) (t : Tri) (p q r : ℕ) → Held l.table l.buckets u l.sides → Counts l u → EitherWay t (table_of l u) p q r
    → is_inner (tris_in l u) t ≡ not (eqb (get_or u (l.counts + p) 0) 1 || (eqb (get_or u (l.counts + q) 0) 1 || eqb (get_or u (l.counts + r) 0) 1))
unfolding is_inner
inner-by l u (tri a b c) p q r held counts (inl n) =
    rw (count-once l u a b p held counts n.0, count-once l u b c q held counts n.1, count-once l u c a r held counts n.2)
inner-by l u (tri a b c) p q r held counts (inr n) =
    rw (count-once l u a c p held counts n.0, count-once l u c b q held counts n.1, count-once l u b a r held counts n.2, both_ways (tris_in l u) c a, both_ways (tris_in l u) b c, both_ways (tris_in l u) a b)
    (turned (once (tris_in l u) (side c a)) (once (tris_in l u) (side b c)) (once (tris_in l u) (side a b)))

-- the numbers are below the count of sides
pub either-below : (l : Listing) (u : List ℕ) (t : Tri) (p q r : ℕ) → EitherWay t (table_of l u) p q r → (p < l.sides) × ((q < l.sides) × (r < l.sides))
either-below l u (tri a b c) p q r (inl n) = (low-in l u (key a b) p n.0, (low-in l u (key b c) q n.1, low-in l u (key c a) r n.2))
either-below l u (tri a b c) p q r (inr n) = (low-in l u (key a c) p n.0, (low-in l u (key c b) q n.1, low-in l u (key b a) r n.2))

-- the same of triangle i, and where its counts stand
pub inner-at : {l : Listing} {n : ℕ} {u : List ℕ} → Sided l n u → Counts l u → (i : ℕ) → i < l.triangles
    → is_inner (tris_in l u) (tri_from l.corners u i)
    ≡ not (eqb (get_or u (l.counts + get_or u (l.numbers + 3 * i) 0) 0) 1 || (eqb (get_or u (l.counts + get_or u (l.numbers + 3 * i + 1) 0) 0) 1 || eqb (get_or u (l.counts + get_or u (l.numbers + 3 * i + 2) 0) 0) 1))
inner-at {l} {n} {u} s c i h =
    inner-by l u (tri_from l.corners u i) (get_or u (l.numbers + 3 * i) 0) (get_or u (l.numbers + 3 * i + 1) 0) (get_or u (l.numbers + 3 * i + 2) 0) s.held c (s.either_way i h)

pub counts-there : {l : Listing} {n len : ℕ} {u : List ℕ} → ListRoom l n len → Sided l n u → (i : ℕ) → i < l.triangles
    → (l.counts + get_or u (l.numbers + 3 * i) 0 < len) × ((l.counts + get_or u (l.numbers + 3 * i + 1) 0 < len) × (l.counts + get_or u (l.numbers + 3 * i + 2) 0 < len))
counts-there {l} {n} {len} {u} room s i h =
    let b = either-below l u (tri_from l.corners u i) (get_or u (l.numbers + 3 * i) 0) (get_or u (l.numbers + 3 * i + 1) 0) (get_or u (l.numbers + 3 * i + 2) 0) (s.either_way i h) in
    (omega (arith, b.0, room.counts-in, room.flags-in), (omega (arith, b.1.0, room.counts-in, room.flags-in), omega (arith, b.1.1, room.counts-in, room.flags-in)))

-- ---- a side's direction

pub direction-of : (p : Planes) (w : List Float) (a b : ℕ) → a < p.points → b < p.points
    → fourfold (atan2_of (get_or w (p.y + b) nan ⊖ get_or w (p.y + a) nan) (get_or w (p.x + b) nan ⊖ get_or w (p.x + a) nan)) ≡ side_tangent (xs_in p w) (ys_in p w) (side a b)
unfolding side_tangent
direction-of p w a b ha hb =
    rw (
      get_or-region w p.y p.points b nan hb,
      get_or-region w p.y p.points a nan ha,
      get_or-region w p.x p.points b nan hb,
      get_or-region w p.x p.points a nan ha,
    )

-- ---- one value

pub added_none : (f : ℕ) (p : Planes) (u : List ℕ) (w : List Float) → Added f p [] u w u w
unfolding sum_from first_or is_marked
added_none f p u w = record {
  u-length = refl;
  w-length = refl;
  sums = λ v h. refl;
  firsts = λ v h. sym (either (eqb (get_or u (f + v) 0) 0) (get_c w p.first p.points v));
  flagged = λ v h. refl;
  u-else = λ j h. refl;
  w-else = λ j h. refl;
  w-between = λ j g h. refl;
}
  where
    either : (b : Bool) (z : Complex) → cond b z z ≡ z
    either true z = refl
    either false z = refl

pub added-one : {f : ℕ} {p : Planes} {u u' : List ℕ} {w w₁ w' : List Float} {v : ℕ} {z s first : Complex} → PlaneRoom p (length w) → v < p.points → f + p.points ≤ length u
    → first ≡ cond (eqb (get_or u (f + v) 0) 0) z (get_c w p.first p.points v) → s ≡ cadd (get_c w p.targets p.points v) z
    → w₁ ≡ set_c w p.targets p.points v s → w' ≡ set_c w₁ p.first p.points v first → u' ≡ set u (f + v) 1
    → Added f p (mark v z ∷ []) u w u' w'
unfolding sum_from first_or is_marked
added-one {f} {p} {u} {u'} {w} {w₁} {w'} {v} {z} {s} {first} room low fits ef es e₁ e₂ eu = record {
  u-length = ap length eu ∙ length-set u (f + v) 1;
  w-length = len₂ ∙ len₁;
  sums = λ q h. at-targets q h ∙ sum q h (ℕ_discrete q v);
  firsts = λ q h. at_first q h ∙ one q h (ℕ_discrete q v) (eqb (get_or u (f + q) 0) 0) refl;
  flagged = λ q h. ap (λ (t : List ℕ). get_or t (f + q) 0) eu ∙ flag q h (ℕ_discrete q v);
  u-else = λ j h. ap (λ (t : List ℕ). get_or t j 0) eu ∙ get_or-set_other u (f + v) j 1 0 (⊎_elim (λ b. omega arith) (λ b. omega arith) h);
  w-else = λ j h. out j (⊎_elim (λ b. inl (omega (arith, room.targets-in))) (λ b. inr b) h) (⊎_elim (λ b. inl b) (λ b. inr (omega (arith, room.targets-in))) h);
  w-between = λ j g h. out j (inl h) (inr g);
}
  where
    n : ℕ
    n = p.points

    len₁ : length w₁ ≡ length w
    len₁ = ap length e₁ ∙ length-set_c w p.targets p.points v s

    len₂ : length w' ≡ length w₁
    len₂ = ap length e₂ ∙ length-set_c w₁ p.first p.points v first

    ahead : Apart p.first (2 * p.points) p.targets (2 * p.points)
    ahead = apart p.first (2 * p.points) p.targets (2 * p.points) (omega (arith, room.targets-in))

    behind : Apart p.targets (2 * p.points) p.first (2 * p.points)
    behind = apart p.targets (2 * p.points) p.first (2 * p.points) (omega (arith, room.targets-in))

    at-targets : (q : ℕ) → q < p.points → get_c w' p.targets p.points q ≡ cond (eqb q v) s (get_c w p.targets p.points q)
    at-targets q h =
        ap (λ (t : List Float). get_c t p.targets p.points q) e₂ ∙ cell-else w₁ p.first p.points v first low p.targets p.points q ahead h
        ∙ ap (λ (t : List Float). get_c t p.targets p.points q) e₁ ∙ cell_at w p.targets p.points v s low q h (omega (arith, room.targets-in, room.first-in))

    at_first : (q : ℕ) → q < p.points → get_c w' p.first p.points q ≡ cond (eqb q v) first (get_c w p.first p.points q)
    at_first q h =
        ap (λ (t : List Float). get_c t p.first p.points q) e₂ ∙ cell_at w₁ p.first p.points v first low q h (omega (arith, room.first-in, len₁))
        ∙ ap (cond (eqb q v) first) (ap (λ (t : List Float). get_c t p.first p.points q) e₁ ∙ cell-else w p.targets p.points v s low p.first p.points q behind h)

    sum : (q : ℕ) → q < p.points → Dec (q ≡ v) → cond (eqb q v) s (get_c w p.targets p.points q) ≡ cond (eqb q v) (cadd (get_c w p.targets p.points q) z) (get_c w p.targets p.points q)
    sum q h (yes e) = rw (eq-eqb q v e, e) es
    sum q h (no e) = rw (ne_eqb q v e)

    one : (q : ℕ) → q < p.points → Dec (q ≡ v) → (b : Bool) → eqb (get_or u (f + q) 0) 0 ≡ b
        → cond (eqb q v) first (get_c w p.first p.points q) ≡ cond b (cond (eqb q v) z (get_c w p.first p.points q)) (get_c w p.first p.points q)
    one q h (yes e) b k = rw (eq-eqb q v e) (ef ∙ ap (λ (i : ℕ). cond (eqb (get_or u (f + i) 0) 0) z (get_c w p.first p.points i)) (sym e) ∙ ap (λ (c : Bool). cond c z (get_c w p.first p.points q)) k)
    one q h (no e) true k = rw (ne_eqb q v e)
    one q h (no e) false k = rw (ne_eqb q v e)

    flag : (q : ℕ) → q < p.points → Dec (q ≡ v) → get_or (set u (f + v) 1) (f + q) 0 ≡ cond (eqb q v || false) 1 (get_or u (f + q) 0)
    flag q h (yes e) = rw (eq-eqb q v e, e) (get_or-set_same u (f + v) 1 0 (omega arith))
    flag q h (no e) = rw (ne_eqb q v e) (get_or-set_other u (f + v) (f + q) 1 0 (omega arith))

    out : (j : ℕ) → (j < p.first) ⊎ (p.first + 2 * p.points ≤ j) → (j < p.targets) ⊎ (p.targets + 2 * p.points ≤ j) → get_or w' j nan ≡ get_or w j nan
    out j g h =
        ap (λ (t : List Float). get_or t j nan) e₂ ∙ real-else w₁ p.first p.points v first low j g
        ∙ ap (λ (t : List Float). get_or t j nan) e₁ ∙ real-else w p.targets p.points v s low j h

-- ---- values one after the other

pub added_then : {f : ℕ} {p : Planes} {ms ns : List Mark} {u u₁ u₂ : List ℕ} {w w₁ w₂ : List Float} → Added f p ms u w u₁ w₁ → Added f p ns u₁ w₁ u₂ w₂ → Added f p (ms ++ ns) u w u₂ w₂
added_then {f} {p} {ms} {ns} {u} {u₁} {u₂} {w} {w₁} {w₂} a b = record {
  u-length = b.u-length ∙ a.u-length;
  w-length = b.w-length ∙ a.w-length;
  sums = λ v h. b.sums v h ∙ ap (λ (z : Complex). sum_from v z ns) (a.sums v h) ∙ sym (sum-append v (get_c w p.targets p.points v) ms ns);
  firsts = λ v h. b.firsts v h ∙ rw (a.firsts v h, a.flagged v h) (first-append v (get_or u (f + v) 0) (get_c w p.first p.points v) ms ns);
  flagged = λ v h. b.flagged v h ∙ ap (cond (is_marked v ns) 1) (a.flagged v h) ∙ sym (flag-append v (get_or u (f + v) 0) ms ns);
  u-else = λ j h. b.u-else j h ∙ a.u-else j h;
  w-else = λ j h. b.w-else j h ∙ a.w-else j h;
  w-between = λ j g h. b.w-between j g h ∙ a.w-between j g h;
}

-- ---- what is read stays

module _ {l : Listing} {p : Planes} {len lenw : ℕ} {ms : List Mark} {u u' : List ℕ} {w w' : List Float} (room : ListRoom l p.points len) (planes : PlaneRoom p lenw) (a : Added l.flags p ms u w u' w') where
  before : (j : ℕ) → j < l.flags → get_or u' j 0 ≡ get_or u j 0
  before j h = a.u-else j (inl h)

  low : (j : ℕ) → j < l.table + l.buckets + 4 * l.sides → get_or u' j 0 ≡ get_or u j 0
  low j h = a.u-else j (inl (omega (arith, room.table-in, room.counts-in)))

  pub still-sided : Sided l p.points u → Sided l p.points u'
  still-sided s = sided-kept u u' room low a.u-length s

  pub still-counts : Counts l u → Counts l u'
  still-counts c = counts-kept u u' room before c

  pub still-table : table_of l u' ≡ table_of l u
  still-table = table_kept u u' room low

  pub still-tris : tris_in l u' ≡ tris_in l u
  still-tris = tris-kept u u' room low

  pub still-tri : (i : ℕ) → i < l.triangles → tri_from l.corners u' i ≡ tri_from l.corners u i
  still-tri i h = tri-kept u u' room low i h

  pub still-xs : region nan w' p.x p.points ≡ region nan w p.x p.points
  still-xs = region-same nan w w' p.x p.points (λ j h. a.w-else (p.x + j) (inl (omega (arith, planes.x-in))))

  pub still-ys : region nan w' p.y p.points ≡ region nan w p.y p.points
  still-ys = region-same nan w w' p.y p.points (λ j h. a.w-else (p.y + j) (inl (omega (arith, planes.y-in))))

-- ---- sides

pub marked-no : {l : Listing} {p : Planes} {u : List ℕ} {w : List Float} {a b : ℕ} → once (tris_in l u) (side a b) ≡ false → Marked l p (side a b ∷ []) u w u w 0
unfolding kept marks
marked-no {l} {p} {u} {w} h = record { added = rw h (added_none l.flags p u w); sides = rw h }

-- a triangle with no side on the boundary
pub marked-inner : {l : Listing} {p : Planes} {u : List ℕ} {w : List Float} (t : Tri) → is_inner (tris_in l u) t ≡ true → Marked l p (around t) u w u w 0
unfolding is_inner kept marks
marked-inner {l} {p} {u} {w} (tri a b c) h = go (once (tris_in l u) (side a b)) (once (tris_in l u) (side b c)) (once (tris_in l u) (side c a)) refl refl refl h
  where
    none : ◌≡◌ {A = Bool} false true → ⊥
    none f = let z : ◌≡◌ {A = ℕ} 0 1 = ap (λ (x : Bool). cond x 1 0) f in omega arith

    go : (x y z : Bool) → once (tris_in l u) (side a b) ≡ x → once (tris_in l u) (side b c) ≡ y → once (tris_in l u) (side c a) ≡ z → not (x || (y || z)) ≡ true → Marked l p (around (tri a b c)) u w u w 0
    go true y z ex ey ez e = absurd (none e)
    go false true z ex ey ez e = absurd (none e)
    go false false true ex ey ez e = absurd (none e)
    go false false false ex ey ez e = record { added = rw (ex, ey, ez) (added_none l.flags p u w); sides = rw (ex, ey, ez) }

pub marked-yes : {l : Listing} {p : Planes} {u u₁ u₂ : List ℕ} {w w₁ w₂ : List Float} {a b i j : ℕ} {z : Complex} → once (tris_in l u) (side a b) ≡ true → i ≡ a → j ≡ b
    → z ≡ side_tangent (xs_in p w) (ys_in p w) (side i j) → Added l.flags p (mark i z ∷ []) u w u₁ w₁ → Added l.flags p (mark j z ∷ []) u₁ w₁ u₂ w₂ → Marked l p (side a b ∷ []) u w u₂ w₂ 1
unfolding kept marks
marked-yes {l} {p} {u} {u₁} {u₂} {w} {w₁} {w₂} {a} {b} {i} {j} {z} h ei ej ez m₁ m₂ =
    let z' : z ≡ side_tangent (xs_in p w) (ys_in p w) (side a b) = ez ∙ ap₂ (λ (x y : ℕ). side_tangent (xs_in p w) (ys_in p w) (side x y)) ei ej in
    let m : Added l.flags p (mark i z ∷ mark j z ∷ []) u w u₂ w₂ = added_then m₁ m₂ in
    record {
      added = rw (h, ← ei, ← ej, ← ez) m;
      sides = rw h;
    }

pub marked-then : {l : Listing} {p : Planes} {len lenw : ℕ} {ss ts : List Side} {u u₁ u₂ : List ℕ} {w w₁ w₂ : List Float} {r s : ℕ} → ListRoom l p.points len → PlaneRoom p lenw
    → Marked l p ss u w u₁ w₁ r → Marked l p ts u₁ w₁ u₂ w₂ s → Marked l p (ss ++ ts) u w u₂ w₂ (r + s)
marked-then {l} {p} {len} {lenw} {ss} {ts} {u} {u₁} {u₂} {w} {w₁} {w₂} {r} {s} room planes a b =
    let f = once (tris_in l u) in
    let et = still-tris room planes a.added in
    let next : Added l.flags p (marks (xs_in p w) (ys_in p w) (kept f ts)) u₁ w₁ u₂ w₂ = rw (et, still-xs room planes a.added, still-ys room planes a.added) at b.added in
    let more : s ≡ length (kept f ts) = rw et at b.sides in
    record {
      added = rw (kept_append f ss ts, marks-append (xs_in p w) (ys_in p w) (kept f ss) (kept f ts)) (added_then a.added next);
      sides = rw (kept_append f ss ts, length-append (kept f ss) (kept f ts)) (omega (arith, a.sides, more));
    }

pub marked-none : (l : Listing) (p : Planes) (u : List ℕ) (w : List Float) → Marked l p (walked (tris_from l.corners u 0)) u w u w 0
unfolding tris_from walked kept marks
marked-none l p u w = record { added = added_none l.flags p u w; sides = refl }

pub marked_more : {l : Listing} {p : Planes} {len lenw i : ℕ} {u u₁ u₂ : List ℕ} {w w₁ w₂ : List Float} {r s : ℕ} → ListRoom l p.points len → PlaneRoom p lenw → i < l.triangles
    → Marked l p (walked (tris_from l.corners u i)) u w u₁ w₁ r → Marked l p (around (tri_from l.corners u₁ i)) u₁ w₁ u₂ w₂ s → Marked l p (walked (tris_from l.corners u (i + 1))) u w u₂ w₂ (r + s)
unfolding tris_from
marked_more {l} {p} {len} {lenw} {i} {u} {u₁} {u₂} {w} {w₁} {w₂} {r} {s} room planes h a b =
    let e : tri_from l.corners u₁ i ≡ tri_from l.corners u i = still-tri room planes a.added i h in
    let b' : Marked l p (around (tri_from l.corners u i)) u₁ w₁ u₂ w₂ s = subst (λ (t : Tri). Marked l p (around t) u₁ w₁ u₂ w₂ s) e b in
    rw (add-one i, walked-snoc (tris_from l.corners u i) (tri_from l.corners u i)) (marked-then room planes a b')

pub marked-few : {l : Listing} {p : Planes} {ss : List Side} {u u' : List ℕ} {w w' : List Float} {r : ℕ} → Marked l p ss u w u' w' r → r ≤ length ss
marked-few {l} {p} {ss} {u} m = omega (arith, m.sides, kept-few (once (tris_in l u)) ss)

-- ---- what a side wants

-- the three corners of a triangle are points
pub three-below : {l : Listing} {n len : ℕ} {u : List ℕ} → ListRoom l n len → Sided l n u → (i : ℕ) → i < l.triangles
    → (get_or u (l.corners + 3 * i) 0 < n) × ((get_or u (l.corners + 3 * i + 1) 0 < n) × (get_or u (l.corners + 3 * i + 2) 0 < n))
three-below {l} {n} {len} {u} room s i h =
    let e₁ : l.corners + (3 * i + 1) ≡ l.corners + 3 * i + 1 = omega arith in
    let e₂ : l.corners + (3 * i + 2) ≡ l.corners + 3 * i + 2 = omega arith in
    (s.corners-below (3 * i) (omega arith), (subst (λ (j : ℕ). get_or u j 0 < n) e₁ (s.corners-below (3 * i + 1) (omega arith)), subst (λ (j : ℕ). get_or u j 0 < n) e₂ (s.corners-below (3 * i + 2) (omega arith))))

-- all that stands before a walk stands after some of it
abbrev pub Facts : Listing → Planes → List ℕ → List Float → Type 0
Facts l p u w = (ListRoom l p.points (length u) × PlaneRoom p (length w)) × (Sided l p.points u × Counts l u)

pub still-facts : {l : Listing} {p : Planes} {ms : List Mark} {u u' : List ℕ} {w w' : List Float} → Facts l p u w → Added l.flags p ms u w u' w' → Facts l p u' w'
still-facts {l} {p} {ms} {u} {u'} {w} {w'} f a =
    ((subst (ListRoom l p.points) (sym a.u-length) f.0.0, subst (PlaneRoom p) (sym a.w-length) f.0.1), (still-sided f.0.0 f.0.1 a f.1.0, still-counts f.0.0 f.0.1 a f.1.1))

-- a side whose ends are points, and which is in the table
abbrev pub Ready : Listing → Planes → ℕ → ℕ → List ℕ → List Float → Type 0
Ready l p a b u w = (ListRoom l p.points (length u) × PlaneRoom p (length w)) × ((Sided l p.points u × (Counts l u × In (key a b) (table_of l u))) × ((a < p.points) × (b < p.points)))

pub ready-after : {l : Listing} {p : Planes} {ms : List Mark} {u u' : List ℕ} {w w' : List Float} (a b : ℕ) → Facts l p u w → Added l.flags p ms u w u' w' → In (key a b) (table_of l u) → a < p.points → b < p.points → Ready l p a b u' w'
ready-after {l} {p} {ms} {u} {u'} {w} {w'} a b f m found low high =
    let g = still-facts f m in
    (g.0, ((g.1.0, (g.1.1, subst (λ (t : List Side). In (key a b) t) (sym (still-table f.0.0 f.0.1 m)) found)), (low, high)))
