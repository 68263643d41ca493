-- After `geometries`: it found the first degenerate triangle of the floor (row 19), and where there is none, the corners counter-clockwise and the areas
-- stand in their regions. Assumes nothing.
use Prim.Native.Nat.{ℕ, ◌+◌, ◌*◌, ◌≤◌, ◌<◌}
use native.Mathlib.Omega.{arith}
use mathlib.Core.Path.{◌≡◌, refl, sym, ap, ◌∙◌, subst}
use mathlib.Core.Bool.{false}
use mathlib.Core.List.{List}
use borrow.Author.Tests.{lt-ltb}
use lib.ListN.{length, get_or}
use lib.Ieee.{Float, nan}
use Rattle.std.specs.Prelude.{Err}
use Rattle.linear_cells.specs.Region.{tab, region}
use Rattle.linear_cells.proofs.Loops.{tab-ext}
use Rattle.slices.proofs.Runs.{sets_behind}
use Rattle.edges.specs.Numbering.{tri_from, Below}
use Rattle.floor.specs.Floor.{Floor, triangle_count, value_at, triangle_at}
use Rattle.pass_geometries.specs.Geometries.{is_degenerate, corners_of, area_of, first_degenerate}
use Rattle.pass_geometries.specs.Work.{geometry_in, area_on, areas_up_to, wound_up_to, coords_from, Cornered}
use Rattle.pass_geometries.specs.Work as geometries
use Rattle.pass_geometries.proofs.Steps.{corners-below, kept-lengths, one-area}
use Rattle.pass_geometries.proofs.Joined.{joined_length}
use Rattle.pass_geometries.proofs.Good.{sound-before, first-most, wound-length}
use Rattle.pass_geometries.proofs.Lists as lists
use Rattle.pass_layout.specs.declared.Layout.{Layout}
use Rattle.pass_layout.specs.Layout.{Ordered}
use Rattle.pass_layout.specs.Work.{floor_in}
use Rattle.pass_layout.proofs.Regions.{floor-stays}
use Rattle.refusals.specs.Refusal.{row_at}
use Rattle.pass_setup.specs.Setup.{geometry_at, degenerate_of, areas_of, setup_of, Setup}
use Rattle.pass_setup.specs.Work.{geometries_at, Wound, Unjoined, SetUp}
use Rattle.pass_setup.proofs.Floors.{wound-at, fault-19}
use Rattle.pass_setup.proofs.Slices.{value-at, triangles-of, all-x, all-y, given-at, Stays, refused-by}

module _ (l : Layout) (w : List Float) (u : List ℕ) (o : Ordered l (length w) (length u)) (below : Below l.points l.given u (3 * l.triangles)) where
  pub room : geometries.GeometriesRoom (geometries_at l) (length w) (length u)
  room = record { x-in = omega arith; y-in = omega arith; areas-in = omega arith; given-in = omega arith; wound-in = omega arith; narrow = omega arith }

  cornered : (i : ℕ) → i < l.triangles → Cornered l.points (tri_from l.given u i)
  cornered i h = corners-below l.points l.given u i (λ j g. below j (omega arith))

  x-at : (v : ℕ) → v < l.points → coords_from w l.x v ≡ value_at (floor_in l w u).xs v
  x-at = value-at w l.x l.points (floor_in l w u).xs (all-x l w u (floor_in l w u) refl)

  y-at : (v : ℕ) → v < l.points → coords_from w l.y v ≡ value_at (floor_in l w u).ys v
  y-at = value-at w l.y l.points (floor_in l w u).ys (all-y l w u (floor_in l w u) refl)

  same : (i : ℕ) → i < l.triangles → geometry_in (geometries_at l) w u i ≡ geometry_at (floor_in l w u) i
  unfolding geometry_at
  same i h = lists.geometry-same _ _ _ _ l.points x-at y-at (tri_from l.given u i) (triangle_at (floor_in l w u).triangles i) i (given-at l w u (floor_in l w u) refl i h) (cornered i h)

  module _ {w₁ : List Float} {u₁ : List ℕ} {r : ℕ} (k : geometries.Kept (geometries_at l) w u w₁ u₁ r) where
    first : r ≡ degenerate_of (floor_in l w u)
    unfolding degenerate_of
    first =
        k.first
        ∙ lists.first-same _ _ _ _ l.points x-at y-at (tri_from l.given u) (triangle_at (floor_in l w u).triangles) l.triangles (given-at l w u (floor_in l w u) refl) cornered
        ∙ ap (first_degenerate (value_at (floor_in l w u).xs) (value_at (floor_in l w u).ys) (triangle_at (floor_in l w u).triangles)) (sym (triangles-of l w u (floor_in l w u) refl))

    most : r ≤ l.triangles
    most = rw k.first (first-most _ _ (tri_from l.given u) l.triangles)

    sound : (i : ℕ) → i < r → is_degenerate (geometry_in (geometries_at l) w u i) ≡ false
    sound i h = sound-before (coords_from w l.x) (coords_from w l.y) (tri_from l.given u) l.triangles i (omega (arith, k.first))

    -- nothing behind the areas, and nothing behind the corners, is written
    reals-after : (j : ℕ) → l.areas + l.triangles ≤ j → get_or w₁ j nan ≡ get_or w j nan
    unfolding areas_up_to
    reals-after j h =
        let size = joined_length (λ i. area_on (geometry_in (geometries_at l) w u i)) 1 r (λ i g. (one-area (geometry_in (geometries_at l) w u i) (sound i g)).0) in
        ap (λ (v : List Float). get_or v j nan) k.areas ∙ sets_behind w l.areas (areas_up_to (coords_from w l.x) (coords_from w l.y) (tri_from l.given u) r) j nan (omega (arith, size, most))

    words-after : (j : ℕ) → l.wound + 3 * l.triangles ≤ j → get_or u₁ j 0 ≡ get_or u j 0
    words-after j h =
        let size = wound-length (coords_from w l.x) (coords_from w l.y) (tri_from l.given u) r sound in
        ap (λ (v : List ℕ). get_or v j 0) k.wound ∙ sets_behind u l.wound (wound_up_to (coords_from w l.x) (coords_from w l.y) (tri_from l.given u) r) j 0 (omega (arith, size, most))

    pub stays : Stays l w u w₁ u₁
    stays = record {
      floor = floor-stays l o w w₁ u u₁ (lists.reals-before room below k) (lists.words-before room below k);
      all-reals = (kept-lengths k).0;
      all_words = (kept-lengths k).1;
      reals-below = lists.reals-before room below k;
      words-below = lists.words-before room below k;
      reals-behind = λ j h. reals-after j (omega arith);
      words-behind = λ j h. words-after j (omega arith);
    }

    pub unjoined : Unjoined l w u w₁ u₁
    unjoined = record { reals-behind = λ j h. reals-after j (omega arith); words-behind = words-after }

    pub row-19 : r < l.triangles → {s : Setup} → s ≡ Err (row_at 19 r) → SetUp l w u w₁ u₁ s
    row-19 h e =
        refused-by (row_at 19 r) stays e told (λ g. subst (geometries.Kept (geometries_at l) w u w₁ u₁) first k) (λ g. absurd (omega (arith, first)))
        (λ g. absurd (omega (arith, first))) (λ g. unjoined) (λ g p. absurd (omega (arith, first)))
      where
        below_all : degenerate_of (floor_in l w u) < triangle_count (floor_in l w u)
        below_all = rw (← first, triangles-of l w u (floor_in l w u) refl) h

        told : Err (row_at 19 r) ≡ setup_of (floor_in l w u)
        told = unfold setup_of in rw (fault-19 (floor_in l w u) below_all, ← first, triangles-of l w u (floor_in l w u) refl, lt-ltb r l.triangles h)

    all-areas : l.triangles ≤ r → region nan w₁ l.areas l.triangles ≡ areas_of (floor_in l w u)
    unfolding region areas_of
    all-areas e =
        tab-ext _ (λ i. area_of (geometry_at (floor_in l w u) i)) l.triangles (λ i h. lists.area-at room below k i (omega arith) ∙ ap area_of (same i h))
        ∙ ap (tab (λ i. area_of (geometry_at (floor_in l w u) i))) (sym (triangles-of l w u (floor_in l w u) refl))

    pub none : l.triangles ≤ r → l.triangles ≤ degenerate_of (floor_in l w u)
    none h = omega (arith, first)

    pub turned : l.triangles ≤ r → Wound l (floor_in l w₁ u₁) w₁ u₁
    turned e = subst (λ (f : Floor). Wound l f w₁ u₁) (sym stays.floor) (record {
      floor = stays.floor;
      given_below = λ j h. rw (stays.words-below (l.given + j) (omega (arith, o.given-in))) (below j h);
      none = omega (arith, first, most, triangles-of l w u (floor_in l w u) refl);
      areas = all-areas e;
      corners = λ i h. lists.tri-at room below k i (omega arith) ∙ ap corners_of (same i h) ∙ sym (wound-at (floor_in l w u) i (omega (arith, triangles-of l w u (floor_in l w u) refl)));
      corners-below = λ j h. lists.below-kept room below k j (omega arith);
    })
