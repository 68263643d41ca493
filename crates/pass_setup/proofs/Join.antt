-- After the triangles put counter-clockwise were numbered and the ends of their sides copied: the edges of the floor stand in their regions, and each has
-- two different ends. Assumes nothing.
use Prim.Native.Nat.{ℕ, ◌+◌, ◌*◌, ◌≤◌, ◌<◌}
use native.Mathlib.Omega.{arith}
use mathlib.Core.Path.{◌≡◌, refl, sym, ap, ◌∙◌, subst}
use mathlib.Core.Logic.{⊎_elim, inl, inr}
use mathlib.Core.List.{List, [], map}
use lib.ListN.{length, get_or}
use lib.Seq.{ext_get_or, sets}
use lib.Ieee.{Float}
use Rattle.mesh.specs.Mesh.{Side, side, Tri, tri, sides_after, All}
use Rattle.pass_setup.proofs.Keyed.{Keyed}
use Rattle.linear_cells.specs.Region.{region}
use Rattle.linear_cells.proofs.Regions.{length-region, get_or-region}
use Rattle.slices.proofs.Runs.{sets_behind}
use Rattle.edges.specs.Table.{lo_of, hi_of, sides_in, split, NumbersOf}
use Rattle.edges.specs.Sides.{lower, upper}
use Rattle.edges.specs.Numbering.{tri_from, tris_from, NumberedTo}
use Rattle.edges.specs.Numbering as numbering
use Rattle.edges.proofs.Tree.{length_pairs}
use Rattle.edges.proofs.Numbering.{length-tris, tri-at}
use Rattle.edges.proofs.Split.{length-map, split-length, split-before, split-lower, split-upper}
use Rattle.linear_hermitian.specs.Work.{Graph}
use Rattle.pass_boundary.specs.Work.{ListRoom}
use Rattle.pass_boundary.proofs.Slices.{sided-kept, numbers-kept}
use Rattle.pass_boundary.proofs.Given.{Alike, numbered-sided, numbered-numbers}
use Rattle.floor.specs.Floor.{Floor, point_count, triangle_count, triangle_at}
use Rattle.pass_layout.specs.declared.Layout.{Layout}
use Rattle.pass_layout.specs.Layout.{Ordered}
use Rattle.pass_layout.specs.Matrices.{mass_at}
use Rattle.pass_layout.specs.Work.{floor_in, from_list, to_list, listing_at, Edged}
use Rattle.pass_layout.proofs.Regions.{floor-stays}
use Rattle.pass_setup.specs.Setup.{wound_of, edges_of, lowers_of, uppers_of}
use Rattle.pass_setup.specs.Work.{Averaged, Joined}
use Rattle.pass_setup.proofs.Floors.{at_all, get_d_map, length-wound, length-lowers, length-uppers, turned-at, wound-good, edges-keyed}
use Rattle.pass_setup.proofs.Slices.{points-of, triangles-of, given-at, in-range, Stays}

-- ---- the ends, over lists

ends : (n : ℕ) (s : Side) → Keyed n s → (lower s < upper s) × (upper s < n)
ends n (side a b) k = k

pub graph-of : (l : Layout) (f : Floor) (m : ℕ) → point_count f ≡ l.points → m ≡ length (edges_of f) → All (Keyed (point_count f)) (edges_of f) → Graph (mass_at l m) (lowers_of f) (uppers_of f)
unfolding lowers_of uppers_of
graph-of l f m n-of e k = record {
  all-a = length-lowers f ∙ sym e;
  all-b = length-uppers f ∙ sym e;
  a-below = λ i h. let q = at i (omega (arith, length-lowers f)) in omega (arith, low i (omega (arith, length-lowers f)), q.0, q.1, n-of);
  b-below = λ i h. let q = at i (omega (arith, length-uppers f)) in omega (arith, high i (omega (arith, length-uppers f)), q.1, n-of);
  different = λ i h z. let q = at i (omega (arith, length-lowers f)) in omega (arith, low i (omega (arith, length-lowers f)), high i (omega (arith, length-lowers f)), q.0);
}
  where
    at : (i : ℕ) → i < length (edges_of f) → (lower (get_or (edges_of f) i (side 0 0)) < upper (get_or (edges_of f) i (side 0 0))) × (upper (get_or (edges_of f) i (side 0 0)) < point_count f)
    at i h = ends (point_count f) (get_or (edges_of f) i (side 0 0)) (at_all (Keyed (point_count f)) (side 0 0) (edges_of f) k i h)

    low : (i : ℕ) → i < length (edges_of f) → get_or (map lower (edges_of f)) i 0 ≡ lower (get_or (edges_of f) i (side 0 0))
    low i h = get_d_map lower (edges_of f) i (side 0 0) 0 h

    high : (i : ℕ) → i < length (edges_of f) → get_or (map upper (edges_of f)) i 0 ≡ upper (get_or (edges_of f) i (side 0 0))
    high i h = get_d_map upper (edges_of f) i (side 0 0) 0 h

-- ---- in the slice

module _ (l : Layout) (w : List Float) (u : List ℕ) (f : Floor) (o : Ordered l (length w) (length u)) (a : Averaged l f w u) where
  pub number-room : numbering.NumberingRoom l.wound l.numbers l.table l.buckets l.triangles (length u)
  number-room = record { corners = o.wound-in; numbers = o.numbers-in; table = omega arith; narrow = omega arith; buckets = o.some-buckets; few-buckets = o.few-buckets }

  t_of : triangle_count f ≡ l.triangles
  t_of = triangles-of l w u f a.turned.floor

  tris : tris_from l.wound u l.triangles ≡ wound_of f
  tris =
      ext_get_or (tri 0 0 0) _ (wound_of f) (length-tris l.wound u l.triangles ∙ sym (length-wound f ∙ t_of)) (λ i h.
      let b : i < l.triangles = omega (arith, length-tris l.wound u l.triangles) in
      tri-at l.wound u l.triangles i (tri 0 0 0) b ∙ a.turned.corners i b)

  alike : (i : ℕ) → i < l.triangles → Alike (tri_from l.given u i) (tri_from l.wound u i)
  alike i h =
      ⊎_elim (λ e. inl (a.turned.corners i h ∙ e)) (λ e. inr (a.turned.corners i h ∙ e))
      (turned-at f a.turned.none i (omega (arith, t_of)) _ _ _ (sym (given-at l w u f a.turned.floor i h)))

  module _ {m : ℕ} {u₁ u₂ : List ℕ} (made : NumberedTo l.wound l.numbers l.table l.buckets l.triangles u u₁ m) (cut : u₂ ≡ split l.table l.buckets m l.from l.to u₁) where
    all-sides : sides_in l.table l.buckets u₁ m ≡ edges_of f
    unfolding edges_of
    all-sides = made.all-met ∙ ap (sides_after []) tris

    m-of : m ≡ length (edges_of f)
    m-of = sym (length_pairs (lo_of l.table l.buckets u₁) (hi_of l.table l.buckets u₁) m) ∙ ap length all-sides

    few : m ≤ 3 * l.triangles
    few = made.few

    -- the slice after the ends were copied
    same_length : length u₂ ≡ length u₁
    same_length = ap length cut ∙ split-length l.table l.buckets m l.from l.to u₁

    before-from : (j : ℕ) → j < l.from → get_or u₂ j 0 ≡ get_or u₁ j 0
    before-from j h = ap (λ (v : List ℕ). get_or v j 0) cut ∙ split-before l.table l.buckets m l.from l.to u₁ j h (omega (arith, o.from_in))

    before-numbers : (j : ℕ) → j < l.numbers → get_or u₂ j 0 ≡ get_or u j 0
    before-numbers j h = before-from j (omega (arith, o.numbers-in, o.table-in)) ∙ made.elsewhere j (inl (omega (arith, o.numbers-in))) (inl h)

    -- nothing behind the upper ends is written
    after : (j : ℕ) → l.to + 3 * l.triangles ≤ j → get_or u₂ j 0 ≡ get_or u j 0
    unfolding split
    after j h =
        ap (λ (v : List ℕ). get_or v j 0) cut
        ∙ sets_behind (sets u₁ l.from (map lower (sides_in l.table l.buckets u₁ m))) l.to (map upper (sides_in l.table l.buckets u₁ m)) j 0 (omega (arith, many upper, few))
        ∙ sets_behind u₁ l.from (map lower (sides_in l.table l.buckets u₁ m)) j 0 (omega (arith, many lower, few, o.from_in))
        ∙ made.elsewhere j (inr (omega (arith, few, o.table-in, o.from_in))) (inr (omega (arith, o.numbers-in, o.table-in, o.from_in)))
      where
        many : (g : Side → ℕ) → length (map g (sides_in l.table l.buckets u₁ m)) ≡ m
        many g = length-map g (sides_in l.table l.buckets u₁ m) ∙ length_pairs (lo_of l.table l.buckets u₁) (hi_of l.table l.buckets u₁) m

    end : l.to + m ≤ length u₁
    end = omega (arith, few, o.to_in, o.counts-in, o.flags-in, made.same_length)

    -- m numbers that stand from b on are those of the edges
    all-ends : (g : Side → ℕ) (b : ℕ) → ((k : ℕ) → k < m → get_or u₂ (b + k) 0 ≡ get_or (map g (sides_in l.table l.buckets u₁ m)) k 0) → region 0 u₂ b m ≡ map g (edges_of f)
    all-ends g b h =
        let many = length-map g (sides_in l.table l.buckets u₁ m) ∙ length_pairs (lo_of l.table l.buckets u₁) (hi_of l.table l.buckets u₁) m in
        ext_get_or 0 _ (map g (sides_in l.table l.buckets u₁ m)) (length-region 0 u₂ b m ∙ sym many) (λ k q.
        let c : k < m = omega (arith, length-region 0 u₂ b m) in
        get_or-region u₂ b m k 0 c ∙ h k c)
        ∙ ap (map g) all-sides

    all-lower : from_list l m u₂ ≡ lowers_of f
    unfolding lowers_of
    all-lower = all-ends lower l.from (λ k h. ap (λ (v : List ℕ). get_or v (l.from + k) 0) cut ∙ split-lower l.table l.buckets m l.from l.to u₁ k h (omega (arith, o.from_in, few)) end)

    all_upper : to_list l m u₂ ≡ uppers_of f
    unfolding uppers_of
    all_upper = all-ends upper l.to (λ k h. ap (λ (v : List ℕ). get_or v (l.to + k) 0) cut ∙ split-upper l.table l.buckets m l.from l.to u₁ k h end)

    pub stays : Stays l w u w u₂
    stays = record {
      floor = floor-stays l o w w u u₂ (λ j h. refl) (λ j h. before-numbers j (omega (arith, o.wound-in)));
      all-reals = refl;
      all_words = same_length ∙ made.same_length;
      reals-below = λ j h. refl;
      words-below = λ j h. before-numbers j (omega (arith, o.wound-in));
      reals-behind = λ j h. refl;
      words-behind = after;
    }

    list-room : ListRoom (listing_at l m) l.points (length u)
    list-room = record { corners-in = omega arith; numbers-in = omega arith; table-in = omega (arith, few); counts-in = omega (arith, few); flags-in = omega arith; narrow = omega arith }

    table_same : (j : ℕ) → j < l.table + l.buckets + 4 * m → get_or u₂ j 0 ≡ get_or u₁ j 0
    table_same j h = before-from j (omega (arith, o.table-in, few))

    edged : Edged l m u₂
    edged = record {
      few = few;
      sided = sided-kept u₁ u₂ list-room table_same same_length (numbered-sided (listing_at l m) l.points l.wound u u₁ (omega (arith, o.given-in, o.wound-in)) o.numbers-in alike made a.turned.given_below);
      numbers = numbers-kept u₁ u₂ list-room table_same (numbered-numbers (listing_at l m) l.points l.wound u u₁ (omega (arith, o.given-in, o.wound-in)) o.numbers-in alike made);
      graph = rw (all-lower, all_upper) (graph-of l f m (points-of l w u f a.turned.floor) m-of (edges-keyed f (wound-good f a.turned.none (in-range l w u f a.turned.floor a.turned.given_below))));
    }

    numbers-at : (i : ℕ) → i < l.triangles
        → NumbersOf (triangle_at (wound_of f) i) (edges_of f) (get_or u₂ (l.numbers + 3 * i) 0) (get_or u₂ (l.numbers + 3 * i + 1) 0) (get_or u₂ (l.numbers + 3 * i + 2) 0)
    numbers-at i h =
        let p = before-from (l.numbers + 3 * i) (omega (arith, o.numbers-in, o.table-in)) in
        let q = before-from (l.numbers + 3 * i + 1) (omega (arith, o.numbers-in, o.table-in)) in
        let r = before-from (l.numbers + 3 * i + 2) (omega (arith, o.numbers-in, o.table-in)) in
        subst (λ (s : Tri). NumbersOf s (edges_of f) (get_or u₂ (l.numbers + 3 * i) 0) (get_or u₂ (l.numbers + 3 * i + 1) 0) (get_or u₂ (l.numbers + 3 * i + 2) 0)) (a.turned.corners i h)
        (rw (p, q, r) (subst (λ (x : List Side). NumbersOf (tri_from l.wound u i) x (get_or u₁ (l.numbers + 3 * i) 0) (get_or u₁ (l.numbers + 3 * i + 1) 0) (get_or u₁ (l.numbers + 3 * i + 2) 0)) all-sides (made.numbers i h)))

    tri-same : (i : ℕ) → i < l.triangles → tri_from l.wound u₂ i ≡ tri_from l.wound u i
    tri-same i h =
        let p = before-numbers (l.wound + 3 * i) (omega (arith, o.wound-in)) in
        let q = before-numbers (l.wound + 3 * i + 1) (omega (arith, o.wound-in)) in
        let r = before-numbers (l.wound + 3 * i + 2) (omega (arith, o.wound-in)) in
        rw (p, q, r)

    joined : Joined l m f w u₂
    joined = record {
      averaged = record {
        turned = record {
          floor = stays.floor ∙ a.turned.floor;
          given_below = λ j h. rw (before-numbers (l.given + j) (omega (arith, o.given-in, o.wound-in))) (a.turned.given_below j h);
          none = a.turned.none;
          areas = a.turned.areas;
          corners = λ i h. tri-same i h ∙ a.turned.corners i h;
          corners-below = λ j h. rw (before-numbers (l.wound + j) (omega (arith, o.wound-in))) (a.turned.corners-below j h);
        };
        sound = a.sound;
        summed = a.summed;
        all-x = a.all-x;
        all-y = a.all-y;
      };
      all_edges = m-of;
      numbers = numbers-at;
      lowers = all-lower;
      uppers = all_upper;
      edged = edged;
    }

module _ (l : Layout) (w : List Float) (u : List ℕ) (o : Ordered l (length w) (length u)) (a : Averaged l (floor_in l w u) w u) {m : ℕ} {u₁ u₂ : List ℕ}
    (made : NumberedTo l.wound l.numbers l.table l.buckets l.triangles u u₁ m) (cut : u₂ ≡ split l.table l.buckets m l.from l.to u₁) where
  pub still-joined : Joined l m (floor_in l w u₂) w u₂
  still-joined = subst (λ (f : Floor). Joined l m f w u₂) (sym (stays l w u (floor_in l w u) o a made cut).floor) (joined l w u (floor_in l w u) o a made cut)
