-- The whole of boundary_targets: the counts, the cleared sums, the walk, and the targets made of the sums. Assumes nothing.
use Prim.Native.Nat.{ℕ, ◌+◌, ◌*◌, ◌≤◌, ◌<◌}
use native.Mathlib.Omega.{arith}
use mathlib.Core.Path.{◌≡◌, refl, sym, ap, ◌∙◌, subst}
use mathlib.Core.Logic.{◌⊎◌, inl, inr, ⊎_elim}
use mathlib.Core.Bool.{Bool, true, false, cond}
use mathlib.Core.List.{List}
use lib.Dec.{eqb}
use lib.ListN.{length, get_or, replicate, length-replicate, get_or-replicate, replicate-append-replicate}
use lib.Seq.{sets}
use lib.Ieee.{Float, nan}
use Rattle.float.specs.Double.{lit}
use Rattle.complex.specs.declared.Complex.{Complex}
use Rattle.complex.specs.Complex.{czero, cone, cnan}
use Rattle.linear_cells.specs.Region.{tab, region, put, Apart}
use Rattle.linear_cells.specs.Cell.{get_c, flat, region_c, put_c}
use Rattle.linear_cells.proofs.Loops.{apart, length-tab, get_or-tab, tab-ext}
use Rattle.linear_cells.proofs.Regions.{length-put, put-sets, put_next, put-within, put-put, length-region, get_or-region}
use Rattle.linear_cells.proofs.Cells.{length-put_c, length-region_c, get_or-region_c, put_c-region_c, put_c-at, put_c-else, put_c-put_c, put_c-apart, flat-region_c, length-flat}
use Rattle.linear_cells.proofs.Over.{over, over_none, length_over, over-all, over-read, over-cell}
use Rattle.linear_cells.proofs.Changes.{put-out, region-same, put-changed, puts-changed, flat-replicate}
use Rattle.mesh.specs.Mesh.{Side, side, Tri, one}
use Rattle.edges.specs.Numbering.{Counted}
use Rattle.edges.specs.Sides.{times, listed}
use Rattle.pass_boundary.specs.declared.Listing.{Listing}
use Rattle.pass_boundary.specs.declared.Planes.{Planes}
use Rattle.pass_boundary.specs.Boundary.{walked, boundary_sides, Mark, marks, sum_from, first_or, target_at, marks_of, targets_of, firsts_of, touched, flags_of}
use Rattle.pass_boundary.specs.Work.{xs_in, ys_in, tris_in, table_of, ListRoom, PlaneRoom, Sided, Numbers, Counts, counts_of, counted, Added, Marked, settled_at, settled, settle_c, settled_in, cleared, Bounded}
use Rattle.pass_boundary.proofs.Marks.{marked-touched}
use Rattle.pass_boundary.proofs.Steps.{Facts}
use Rattle.pass_boundary.proofs.Slices.{tris-kept, table_kept, sided-kept}

-- ---- the targets, point by point

module _ (w : List Float) (u : List ℕ) (flags : ℕ) (p : Planes) where
  settle_at : ℕ → Complex → Complex
  settle_at v z = settled_at (get_or (region 0 u flags p.points) v 0) (get_or (region_c w p.first p.points) v cnan) z

  unfoldable pub settle_to : ℕ → List Complex
  unfolding settle_at
  settle_to v = over settle_at cnan v (region_c w p.targets p.points)

  pub settle-none : w ≡ put_c w p.targets (settle_to 0)
  unfolding settle_to
  settle-none = rw (over_none, put_c-region_c)

  pub settle-again : PlaneRoom p (length w) → (v : ℕ) → v < p.points → {w₁ w₂ : List Float} → w₁ ≡ put_c w p.targets (settle_to v)
      → w₂ ≡ settle_c p flags u v w₁ → w₂ ≡ put_c w p.targets (settle_to (v + 1))
  unfolding settle_to settle_at settle_c
  settle-again room v l {w₁} e₁ e₂ =
      let s : List Complex = region_c w p.targets p.points in
      let k : length s ≡ p.points = length-region_c w p.targets p.points in
      let k' : length (settle_to v) ≡ p.points = length_over _ cnan v s ∙ k in
      let fits : p.targets + 2 * p.points ≤ length w = omega (arith, room.targets-in, room.first-in) in
      let behind : Apart p.targets (2 * p.points) p.first (2 * p.points) = apart p.targets (2 * p.points) p.first (2 * p.points) (omega (arith, room.targets-in)) in
      e₂ ∙ rw (e₁, put_c-else w p.targets (settle_to v) k' p.first p.points v behind l, over-read settle_at w p.targets s k fits v l, ← get_or-region_c w p.first p.points v l, ← get_or-region u flags p.points v 0 l)
      (over-cell settle_at w p.targets s k fits v l)

  pub settle-done : {w₁ : List Float} {v : ℕ} → v ≤ p.points → p.points ≤ v → w₁ ≡ put_c w p.targets (settle_to v)
      → w₁ ≡ settled_in p flags u w
  unfolding settle_to settled settle_at settled_in
  settle-done {w₁} {v} l g e =
      let z : v ≡ p.points = omega arith in
      e ∙ rw z (ap (put_c w p.targets) (over-all settle_at cnan (region_c w p.targets p.points) (length-region_c w p.targets p.points) ∙ rw length-region_c))

-- ---- the counts

length-counts : (ss : List Side) (ts : List Tri) (m : ℕ) → length (counts_of ss ts m) ≡ m
unfolding counts_of
length-counts ss ts m = length-tab _ m

pub counted-all : {l : Listing} {n : ℕ} {u u₁ u₂ : List ℕ} → ListRoom l n (length u) → Numbers l u → Counted l.numbers (3 * l.triangles) l.counts l.sides u u₁ → u₂ ≡ sets u₁ l.flags (replicate n 0) → u₂ ≡ counted l n u
unfolding counted counts_of region
counted-all {l} {n} {u} {u₁} {u₂} room numbers c e =
    let same : region 0 u₁ l.counts l.sides ≡ counts_of (table_of l u) (tris_in l u) l.sides = tab-ext _ _ l.sides (λ k h. c.counts k h ∙ numbers.occur k h) in
    let e₁ : u₁ ≡ put u l.counts (region 0 u₁ l.counts l.sides) = put-changed 0 u u₁ l.counts l.sides c.same_length c.elsewhere in
    e ∙ sym (put-sets u₁ l.flags (replicate n 0)) ∙ ap (λ (t : List ℕ). put t l.flags (replicate n 0)) (e₁ ∙ ap (put u l.counts) same)

module _ (l : Listing) (n : ℕ) (u : List ℕ) (room : ListRoom l n (length u)) where
  C : List ℕ
  C = counts_of (table_of l u) (tris_in l u) l.sides

  pub counted-length : length (counted l n u) ≡ length u
  unfolding counted
  counted-length = length-put (put u l.counts (counts_of (table_of l u) (tris_in l u) l.sides)) l.flags (replicate n 0) ∙ length-put u l.counts (counts_of (table_of l u) (tris_in l u) l.sides)

  pub counted-before : (j : ℕ) → j < l.table + l.buckets + 4 * l.sides → get_or (counted l n u) j 0 ≡ get_or u j 0
  unfolding counted C
  counted-before j h =
      put-out 0 (put u l.counts C) l.flags (replicate n 0) (length-replicate n 0) j (inl (omega (arith, room.table-in, room.counts-in)))
      ∙ put-out 0 u l.counts C (length-counts (table_of l u) (tris_in l u) l.sides) j (inl (omega (arith, room.table-in)))

  at-counts : (k : ℕ) → k < l.sides → get_or (counted l n u) (l.counts + k) 0 ≡ times (get_or (table_of l u) k (side 0 0)) (listed (tris_in l u))
  unfolding counted C counts_of
  at-counts k h =
      put-out 0 (put u l.counts C) l.flags (replicate n 0) (length-replicate n 0) (l.counts + k) (inl (omega (arith, room.counts-in)))
      ∙ put-within u l.counts C k 0 (omega (arith, length-tab (λ (k : ℕ). times (get_or (table_of l u) k (side 0 0)) (listed (tris_in l u))) l.sides)) (omega (arith, room.counts-in, room.flags-in))
      ∙ get_or-tab (λ (k : ℕ). times (get_or (table_of l u) k (side 0 0)) (listed (tris_in l u))) l.sides k 0 h

  pub counted-flags : (v : ℕ) → v < n → get_or (counted l n u) (l.flags + v) 0 ≡ 0
  unfolding counted C
  counted-flags v h =
      put-within (put u l.counts C) l.flags (replicate n 0) v 0 (omega (arith, length-replicate {A = ℕ} n 0)) (omega (arith, room.flags-in, length-put u l.counts C))
      ∙ get_or-replicate n v 0 0 h

  pub counted-tris : tris_in l (counted l n u) ≡ tris_in l u
  counted-tris = tris-kept u (counted l n u) room counted-before

  pub counted-sided : Sided l n u → Sided l n (counted l n u)
  counted-sided s = sided-kept u (counted l n u) room counted-before counted-length s

  pub counted-counts : Counts l (counted l n u)
  counted-counts k h = at-counts k h ∙ rw (table_kept u (counted l n u) room counted-before, counted-tris)

-- ---- the cleared sums and first values

pub clear-all : (p : Planes) (w : List Float) {w₁ w₂ w₃ : List Float} → w₁ ≡ put w p.targets (replicate (2 * p.points) (lit 0)) → w₂ ≡ put w₁ p.first (replicate p.points (lit 0x3ff0_0000_0000_0000))
    → w₃ ≡ put w₂ (p.first + p.points) (replicate p.points (lit 0)) → w₃ ≡ cleared p w
unfolding put_c cleared
clear-all p w {w₁} {w₂} {w₃} e₁ e₂ e₃ =
    let n = p.points in
    let z : n + n ≡ 2 * n = omega arith in
    let zeros : flat (replicate n czero) ≡ replicate (2 * n) (lit 0) = flat-replicate n czero ∙ replicate-append-replicate n n (lit 0) ∙ ap (λ (k : ℕ). replicate k (lit 0)) z in
    e₃ ∙ ap (λ (t : List Float). put t (p.first + n) (replicate n (lit 0))) e₂
    ∙ put_next w₁ p.first (replicate n (lit 0x3ff0_0000_0000_0000)) (replicate n (lit 0)) (length-replicate n (lit 0x3ff0_0000_0000_0000))
    ∙ rw (flat-replicate n cone, zeros, e₁)

module _ (p : Planes) (w : List Float) (room : PlaneRoom p (length w)) where
  zeros-sized : length (replicate p.points czero) ≡ p.points
  zeros-sized = length-replicate p.points czero

  ones-sized : length (replicate p.points cone) ≡ p.points
  ones-sized = length-replicate p.points cone

  mid : List Float
  mid = put_c w p.targets (replicate p.points czero)

  mid-length : length mid ≡ length w
  unfolding mid
  mid-length = length-put_c w p.targets (replicate p.points czero)

  pub cleared-length : length (cleared p w) ≡ length w
  unfolding cleared mid
  cleared-length = length-put_c mid p.first (replicate p.points cone) ∙ mid-length

  cleared-out : (j : ℕ) → (j < p.targets) ⊎ (p.targets + 2 * p.points ≤ j) → (j < p.first) ⊎ (p.first + 2 * p.points ≤ j) → get_or (cleared p w) j nan ≡ get_or w j nan
  unfolding cleared mid put_c
  cleared-out j g h =
      put-out nan mid p.first (flat (replicate p.points cone)) (length-flat (replicate p.points cone) ones-sized) j h
      ∙ put-out nan w p.targets (flat (replicate p.points czero)) (length-flat (replicate p.points czero) zeros-sized) j g

  pub cleared-else : (j : ℕ) → (j < p.targets) ⊎ (p.first + 2 * p.points ≤ j) → get_or (cleared p w) j nan ≡ get_or w j nan
  cleared-else j h = cleared-out j (⊎_elim (λ b. inl b) (λ b. inr (omega (arith, room.targets-in))) h) (⊎_elim (λ b. inl (omega (arith, room.targets-in))) (λ b. inr b) h)

  pub cleared-between : (j : ℕ) → p.targets + 2 * p.points ≤ j → j < p.first → get_or (cleared p w) j nan ≡ get_or w j nan
  cleared-between j g h = cleared-out j (inr g) (inl h)

  pub cleared-sums : (v : ℕ) → v < p.points → get_c (cleared p w) p.targets p.points v ≡ czero
  unfolding cleared mid
  cleared-sums v h =
      put_c-else mid p.first (replicate p.points cone) ones-sized p.targets p.points v (apart p.first (2 * p.points) p.targets (2 * p.points) (omega (arith, room.targets-in))) h
      ∙ put_c-at w p.targets (replicate p.points czero) zeros-sized v h (omega (arith, room.targets-in, room.first-in)) ∙ get_or-replicate p.points v czero cnan h

  pub cleared-firsts : (v : ℕ) → v < p.points → get_c (cleared p w) p.first p.points v ≡ cone
  unfolding cleared mid
  cleared-firsts v h = put_c-at mid p.first (replicate p.points cone) ones-sized v h (omega (arith, room.first-in, mid-length)) ∙ get_or-replicate p.points v cone cnan h

  pub cleared-xs : region nan (cleared p w) p.x p.points ≡ region nan w p.x p.points
  cleared-xs = region-same nan w (cleared p w) p.x p.points (λ j h. cleared-else (p.x + j) (inl (omega (arith, room.x-in))))

  pub cleared-ys : region nan (cleared p w) p.y p.points ≡ region nan w p.y p.points
  cleared-ys = region-same nan w (cleared p w) p.y p.points (λ j h. cleared-else (p.y + j) (inl (omega (arith, room.y-in))))

-- ---- after the walk

flag-test : (b : Bool) → eqb (one b) 1 ≡ b
flag-test true = refl
flag-test false = refl

flag_one : (b : Bool) → cond b 1 0 ≡ one b
flag_one true = refl
flag_one false = refl

module _ (l : Listing) (p : Planes) (u : List ℕ) (w : List Float) (room : ListRoom l p.points (length u)) (planes : PlaneRoom p (length w)) where
  ms : List Mark
  ms = marks_of (xs_in p w) (ys_in p w) (tris_in l u)

  module _ {u₂ : List ℕ} {w₂ : List Float} (a : Added l.flags p ms (counted l p.points u) (cleared p w) u₂ w₂) where
    sums-are : region_c w₂ p.targets p.points ≡ tab (λ v. sum_from v czero ms) p.points
    unfolding region_c
    sums-are = tab-ext _ _ p.points (λ v h. a.sums v h ∙ ap (λ (z : Complex). sum_from v z ms) (cleared-sums p w planes v h))

    firsts-are : region_c w₂ p.first p.points ≡ firsts_of (xs_in p w) (ys_in p w) (tris_in l u) p.points
    unfolding region_c firsts_of ms
    firsts-are = tab-ext _ _ p.points (λ v h. a.firsts v h ∙ rw (cleared-firsts p w planes v h, counted-flags l p.points u room v h))

    flags-are : region 0 u₂ l.flags p.points ≡ flags_of (tris_in l u) p.points
    unfolding region flags_of ms marks_of
    flags-are = tab-ext _ _ p.points (λ v h.
        a.flagged v h ∙ rw (counted-flags l p.points u room v h, marked-touched (xs_in p w) (ys_in p w) (boundary_sides (tris_in l u)) v) (flag_one (touched (boundary_sides (tris_in l u)) v)))

    targets-are : settled (flags_of (tris_in l u) p.points) (firsts_of (xs_in p w) (ys_in p w) (tris_in l u) p.points) (tab (λ v. sum_from v czero ms) p.points) ≡ targets_of (xs_in p w) (ys_in p w) (tris_in l u) p.points
    unfolding settled targets_of flags_of firsts_of target_at settled_at ms marks_of
    targets-are =
        rw (length-tab (λ v. sum_from v czero (marks (xs_in p w) (ys_in p w) (boundary_sides (tris_in l u)))) p.points)
        (tab-ext _ _ p.points (λ v h.
        rw (
          get_or-tab (λ v. one (touched (boundary_sides (tris_in l u)) v)) p.points v 0 h,
          get_or-tab (λ v. first_or v cone (marks (xs_in p w) (ys_in p w) (boundary_sides (tris_in l u)))) p.points v cnan h,
          get_or-tab (λ v. sum_from v czero (marks (xs_in p w) (ys_in p w) (boundary_sides (tris_in l u)))) p.points v cnan h,
          flag-test (touched (boundary_sides (tris_in l u)) v),
        )))

    walk-reals : w₂ ≡ put_c (put_c w p.targets (region_c w₂ p.targets p.points)) p.first (region_c w₂ p.first p.points)
    unfolding put_c
    walk-reals =
        rw (flat-region_c w₂ p.targets p.points, flat-region_c w₂ p.first p.points)
        (puts-changed nan w w₂ p.targets (2 * p.points) p.first (2 * p.points) (omega (arith, planes.targets-in, planes.first-in)) (a.w-length ∙ cleared-length p w planes)
        (λ j h. a.w-else j h ∙ cleared-else p w planes j h) (λ j g h. a.w-between j g h ∙ cleared-between p w planes j g h) planes.targets-in)

    walk-words : u₂ ≡ put (put u l.counts (counts_of (table_of l u) (tris_in l u) l.sides)) l.flags (flags_of (tris_in l u) p.points)
    unfolding counted
    walk-words =
        put-changed 0 (counted l p.points u) u₂ l.flags p.points a.u-length a.u-else
        ∙ put-put (put u l.counts (counts_of (table_of l u) (tris_in l u) l.sides)) l.flags (region 0 u₂ l.flags p.points) (length-region 0 u₂ l.flags p.points) (replicate p.points 0) (length-replicate p.points 0)
        ∙ ap (put (put u l.counts (counts_of (table_of l u) (tris_in l u) l.sides)) l.flags) flags-are

    length-targets : length (targets_of (xs_in p w) (ys_in p w) (tris_in l u) p.points) ≡ p.points
    unfolding targets_of
    length-targets = length-tab _ p.points

    settled-reals : {w₃ : List Float} → w₃ ≡ settled_in p l.flags u₂ w₂
        → w₃ ≡ put_c (put_c w p.targets (targets_of (xs_in p w) (ys_in p w) (tris_in l u) p.points)) p.first (firsts_of (xs_in p w) (ys_in p w) (tris_in l u) p.points)
    unfolding settled_in
    settled-reals {w₃} e =
        let S = region_c w₂ p.targets p.points in
        let F = region_c w₂ p.first p.points in
        let T = targets_of (xs_in p w) (ys_in p w) (tris_in l u) p.points in
        let made : settled (region 0 u₂ l.flags p.points) F S ≡ T = rw (flags-are, firsts-are, sums-are) targets-are in
        e ∙ ap (put_c w₂ p.targets) made ∙ ap (λ (t : List Float). put_c t p.targets T) walk-reals
        ∙ put_c-apart (put_c w p.targets S) p.first F (length-region_c w₂ p.first p.points) p.targets T length-targets (apart p.first (2 * p.points) p.targets (2 * p.points) (omega (arith, planes.targets-in)))
        ∙ ap (λ (t : List Float). put_c t p.first F) (put_c-put_c w p.targets T length-targets S (length-region_c w₂ p.targets p.points))
        ∙ ap (put_c (put_c w p.targets T) p.first) firsts-are

  pub bounded : {u₁ u₂ : List ℕ} {w₁ w₂ w₃ : List Float} {r : ℕ} → u₁ ≡ counted l p.points u → w₁ ≡ cleared p w
      → Marked l p (walked (tris_in l u₁)) u₁ w₁ u₂ w₂ r → w₃ ≡ settled_in p l.flags u₂ w₂
      → Bounded l p u w u₂ w₃ r
  unfolding boundary_sides ms marks_of
  bounded {u₁} {u₂} {w₁} {w₂} {w₃} {r} eu ew m e₃ =
      let m₁ : Marked l p (walked (tris_in l (counted l p.points u))) (counted l p.points u) w₁ u₂ w₂ r = subst (λ (t : List ℕ). Marked l p (walked (tris_in l t)) t w₁ u₂ w₂ r) eu m in
      let m₂ : Marked l p (walked (tris_in l (counted l p.points u))) (counted l p.points u) (cleared p w) u₂ w₂ r = subst (λ (t : List Float). Marked l p (walked (tris_in l (counted l p.points u))) (counted l p.points u) t u₂ w₂ r) ew m₁ in
      let et = counted-tris l p.points u room in
      let a : Added l.flags p ms (counted l p.points u) (cleared p w) u₂ w₂ = rw (et, cleared-xs p w planes, cleared-ys p w planes) at m₂.added in
      let s : r ≡ length (boundary_sides (tris_in l u)) = rw et at m₂.sides in
      record { sides = s; reals = settled-reals a e₃; words = walk-words a }

  pub walk-facts : {u₁ : List ℕ} {w₁ : List Float} → Sided l p.points u → u₁ ≡ counted l p.points u → w₁ ≡ cleared p w → Facts l p u₁ w₁
  walk-facts {u₁} {w₁} s eu ew =
      let lu : length u₁ ≡ length u = ap length eu ∙ counted-length l p.points u room in
      let lw : length w₁ ≡ length w = ap length ew ∙ cleared-length p w planes in
      ((subst (ListRoom l p.points) (sym lu) room, subst (PlaneRoom p) (sym lw) planes), (subst (Sided l p.points) (sym eu) (counted-sided l p.points u room s), subst (Counts l) (sym eu) (counted-counts l p.points u room)))
