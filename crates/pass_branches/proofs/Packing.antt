-- The packed copy is made over the table of sides: the edges and the flags stay, and all before the table. Assumes nothing.
use mathlib.Core.Path.{◌≡◌, refl, ap, ◌∙◌}
use mathlib.Core.List.{List, ◌++◌}
use Prim.Native.Nat.{ℕ, ◌+◌, ◌*◌, ◌/◌, ◌≤◌}
use native.Mathlib.Omega.{arith}
use lib.Ieee.{Float}
use lib.ListN.{length, get_or, length-append}
use Rattle.linear_cells.specs.Region.{tab, region}
use Rattle.linear_cells.proofs.Loops.{apart, length-tab}
use Rattle.linear_cells.proofs.Regions.{length-region, region-else}
use Rattle.linear_cells.proofs.Changes.{region-one}
use Rattle.linear_adjacency.specs.Adjacency.{start_of, Ends}
use Rattle.linear_packing.specs.declared.Packing.{Packing}
use Rattle.linear_packing.specs.declared.Source.{Source}
use Rattle.linear_packing.specs.Slots.{slots_of, neighbours_of, marks_of}
use Rattle.linear_packing.specs.Pack.{PackRoom, packed_in}
use Rattle.linear_packing.specs.Pack as pack
use Rattle.linear_packing.proofs.Slots.{slots-all}
use Rattle.linear_packing.proofs.Whole.{before-kept, behind-same, from-kept, to-kept, length-kept, ready}
use Rattle.linear_pairs.proofs.Product.{ends_of}
use Rattle.pass_options.specs.declared.Options.{Options}
use Rattle.pass_options.specs.declared.BoundaryMode.TheVariants.{Tangent}
use Rattle.pass_layout.specs.declared.Layout.{Layout}
use Rattle.pass_layout.specs.Layout.{Ordered}
use Rattle.pass_layout.specs.Matrices.{mass_at, packing_at, source_at, Countable}
use Rattle.pass_layout.specs.Work.{from_list, to_list, Edged}
use Rattle.pass_layout.proofs.Regions.{countable, pack-room}
use Rattle.pass_branches.specs.declared.Search.{Search}
use Rattle.pass_branches.specs.Work.{flags_at, Bounds, LeavesAt, Packs, LeavesPacked}
use Rattle.refusals.specs.Refusal.{Verdict}

-- what the code has for the copy's places is the layout's
module _ (l : Layout) (m : ℕ) (u : List ℕ) {t : Packing} (et : t ≡ packing_at l m) {s : Source} (es : s ≡ source_at l m) where
  pub pack-at : PackRoom (length u) (packing_at l m) (source_at l m) → Ends l.points (from_list l m u) (to_list l m u) → PackRoom (length u) t s × Ends t.size (pack.from_list s u) (pack.to_list s u)
  pack-at r g = rw (et, es) (r, g)

  pub packed-at : {u₁ : List ℕ} → u₁ ≡ packed_in t s u → u₁ ≡ packed_in (packing_at l m) (source_at l m) u
  packed-at e = rw (et, es) at e

module _ (l : Layout) (m : ℕ) (u : List ℕ) {reals : ℕ} (ok : Ordered l reals (length u)) (e : Edged l m u) where
  room : PackRoom (length u) (packing_at l m) (source_at l m)
  room = pack-room l m ok e.few

  ends : Ends l.points (from_list l m u) (to_list l m u)
  ends = ends_of (mass_at l m) (from_list l m u) (to_list l m u) l.points refl e.graph

  pub pack-requires : (Countable l m × PackRoom (length u) (packing_at l m) (source_at l m)) × Ends l.points (from_list l m u) (to_list l m u)
  pack-requires = ((countable l m ok e.few, room), ends)

  module _ {u₁ : List ℕ} (b : u₁ ≡ packed_in (packing_at l m) (source_at l m) u) where
    words-kept : length u₁ ≡ length u
    words-kept = length-kept u u₁ (packing_at l m) (source_at l m) room ends b

    -- nothing behind the marks is written
    words-past : (j : ℕ) → l.marks + l.points ≤ j → get_or u₁ j 0 ≡ get_or u j 0
    unfolding packed_in marks_of neighbours_of
    words-past j h =
        let from : List ℕ = from_list l m u in
        let to : List ℕ = to_list l m u in
        let many : length from ≡ m = length-region 0 u l.from m in
        let marks : length (marks_of from to l.points) ≡ 2 * (l.points / 2) = length-tab _ _ in
        let slots : length (slots_of from to l.points) ≡ 2 * length from = slots-all from to l.points ends in
        let starts : List ℕ = tab (start_of from to (length from)) (l.points + 1) in
        let all : length (starts ++ neighbours_of from to l.points) ≡ length starts + length (neighbours_of from to l.points) = length-append starts (neighbours_of from to l.points) in
        let some : length starts ≡ l.points + 1 = length-tab _ _ in
        let rest : length (neighbours_of from to l.points) ≡ 2 * length from = length-tab _ _ in
        region-one 0 u u₁ j
        (ap (λ v. region 0 v j 1) b
        ∙ region-else _ l.marks (marks_of from to l.points) marks 0 j 1 (apart l.marks (2 * (l.points / 2)) j 1 (omega arith))
        ∙ region-else _ (source_at l m).halves (slots_of from to l.points) slots 0 j 1 (apart (source_at l m).halves (2 * length from) j 1 (omega (arith, many, room.halves_in, room.from_in, room.to_in)))
        ∙ region-else u l.table (starts ++ neighbours_of from to l.points) all 0 j 1
        (apart l.table (length starts + length (neighbours_of from to l.points)) j 1 (omega (arith, some, rest, many, room.neighbours-in, room.halves_in, room.from_in, room.to_in))))

    lower : from_list l m u₁ ≡ from_list l m u
    lower = from-kept u u₁ (packing_at l m) (source_at l m) room ends b

    upper : to_list l m u₁ ≡ to_list l m u
    upper = to-kept u u₁ (packing_at l m) (source_at l m) room ends b

    flags-kept : flags_at l u₁ ≡ flags_at l u
    flags-kept = behind-same u u₁ (packing_at l m) (source_at l m) room ends b l.flags l.points (omega (arith, ok.from_in, ok.to_in, ok.counts-in)) ok.flags-in

    pub packed-ordered : Ordered l reals (length u₁)
    packed-ordered = rw words-kept ok

    pub packed-edges : Packs l m u₁
    packed-edges = record { few = e.few; graph = rw (lower, upper) e.graph; ready = ready u u₁ (packing_at l m) (source_at l m) room ends b }

    module _ (w : List Float) (o : Options) (s : Search) where
      pub packed-bounds : (o.boundary ≡ Tangent → Bounds l w u) → o.boundary ≡ Tangent → Bounds l w u₁
      packed-bounds f t = rw flags-kept (f t)

      pub leaves-packed : {w₁ : List Float} {r : Verdict} → LeavesAt l m o s w w₁ u₁ r → LeavesPacked l m o s w w₁ u u₁ r
      leaves-packed a = record {
        leaves = rw (lower, upper, flags-kept) at a;
        words = b;
        all_words = words-kept;
        words-below = before-kept u u₁ (packing_at l m) (source_at l m) room ends b;
        words-behind = words-past;
      }
