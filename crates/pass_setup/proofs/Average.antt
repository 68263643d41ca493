-- After `gather` and `divide`: rows 20 and 21 are those of the floor, and where no point is refused, the size gradients stand in their regions.
-- Assumes nothing.
use Prim.Native.Nat.{ℕ, ◌+◌, ◌*◌, ◌≤◌, ◌<◌}
use native.Mathlib.Omega.{arith}
use mathlib.Core.Path.{◌≡◌, refl, sym, ap, ap₂, ◌∙◌, subst}
use mathlib.Core.Logic.{inl, inr}
use mathlib.Core.Bool.{not}
use mathlib.Core.List.{List}
use borrow.Author.Tests.{le-ltb}
use lib.Dec.{eqb}
use lib.ListN.{length, get_or}
use lib.Ieee.{Float, nan}
use Rattle.std.specs.Prelude.{Ok, Err}
use Rattle.float.specs.Double.{◌⊘◌}
use Rattle.linear_cells.specs.Region.{tab, region}
use Rattle.linear_cells.proofs.Loops.{tab-ext}
use Rattle.edges.specs.Numbering.{tri_from}
use Rattle.refusals.specs.declared.Refusal.{Refusal}
use Rattle.floor.specs.Checks.{lowest}
use Rattle.floor.proofs.Lowest.{lowest-most, lowest-same}
use Rattle.floor.specs.Floor.{Floor, point_count, triangle_count, value_at, triangle_at}
use Rattle.pass_geometries.specs.Work.{coords_from, Cornered}
use Rattle.pass_geometries.proofs.Steps.{corners-below}
use Rattle.pass_gradients.specs.Gradients.{sum_to, weighed_x, weighed_y, row_of_point, first_refused, check_means}
use Rattle.pass_gradients.specs.Work.{sums_x, sums_y, weights, GatheredTo, DividedTo, Divided}
use Rattle.pass_gradients.specs.Work as gradients
use Rattle.pass_gradients.proofs.Steps.{weighed-x-same, weighed-y-same, sum_same}
use Rattle.pass_gradients.proofs.Means.{check-same, sound-all}
use Rattle.pass_layout.specs.declared.Layout.{Layout}
use Rattle.pass_layout.specs.Layout.{Ordered}
use Rattle.pass_layout.specs.Work.{floor_in}
use Rattle.pass_layout.proofs.Regions.{floor-stays}
use Rattle.refusals.specs.Refusal.{row_at, Verdict}
use Rattle.pass_setup.specs.Setup.{wound_of, areas_of, sum_x, sum_y, weight_of, means_of, gradients_x, gradients_y, setup_of, Setup}
use Rattle.pass_setup.specs.Work.{gradients_at, Wound, refused_point, Summed, Averaged, Unjoined, SetUp}
use Rattle.pass_setup.proofs.Slices.{value-at, points-of, triangles-of, all-x, all-y, all-sizes, Stays, none-refused, refused-by}

module _ (l : Layout) (w : List Float) (u : List ℕ) (f : Floor) (o : Ordered l (length w) (length u)) (t : Wound l f w u) where
  pub room : gradients.GradientsRoom (gradients_at l) (length w) (length u)
  room = record { x-in = omega arith; y-in = omega arith; sizes-in = omega arith; areas-in = omega arith; sums-in = omega arith; wound-in = omega arith }

  n-of : point_count f ≡ l.points
  n-of = points-of l w u f t.floor

  t_of : triangle_count f ≡ l.triangles
  t_of = triangles-of l w u f t.floor

  x-at : (v : ℕ) → v < l.points → coords_from w l.x v ≡ value_at f.xs v
  x-at = value-at w l.x l.points f.xs (all-x l w u f t.floor)

  y-at : (v : ℕ) → v < l.points → coords_from w l.y v ≡ value_at f.ys v
  y-at = value-at w l.y l.points f.ys (all-y l w u f t.floor)

  size-at : (v : ℕ) → v < l.points → coords_from w l.sizes v ≡ value_at f.sizes v
  size-at = value-at w l.sizes l.points f.sizes (all-sizes l w u f t.floor)

  area-at : (i : ℕ) → i < l.triangles → coords_from w l.areas i ≡ value_at (areas_of f) i
  area-at = value-at w l.areas l.triangles (areas_of f) t.areas

  cornered : (i : ℕ) → i < l.triangles → Cornered l.points (tri_from l.wound u i)
  cornered i h = corners-below l.points l.wound u i (λ j g. t.corners-below j (omega arith))

  module _ {w₁ : List Float} (g : GatheredTo (gradients_at l) l.triangles u w w₁) where
    sum-x : (v : ℕ) → v < l.points → sums_x l.gradients l.points w₁ v ≡ sum_x f v
    unfolding sum_x
    sum-x v h =
        g.sums-x v h
        ∙ sum_same (tri_from l.wound u) (triangle_at (wound_of f)) _ (weighed_x (value_at f.xs) (value_at f.ys) (value_at f.sizes) (triangle_at (wound_of f)) (value_at (areas_of f))) v l.triangles t.corners
        (weighed-x-same _ _ _ _ _ _ _ _ (tri_from l.wound u) (triangle_at (wound_of f)) l.points l.triangles x-at y-at size-at area-at t.corners cornered)
        ∙ ap (sum_to (triangle_at (wound_of f)) (weighed_x (value_at f.xs) (value_at f.ys) (value_at f.sizes) (triangle_at (wound_of f)) (value_at (areas_of f))) v) (sym t_of)

    sum-y : (v : ℕ) → v < l.points → sums_y l.gradients l.points w₁ v ≡ sum_y f v
    unfolding sum_y
    sum-y v h =
        g.sums-y v h
        ∙ sum_same (tri_from l.wound u) (triangle_at (wound_of f)) _ (weighed_y (value_at f.xs) (value_at f.ys) (value_at f.sizes) (triangle_at (wound_of f)) (value_at (areas_of f))) v l.triangles t.corners
        (weighed-y-same _ _ _ _ _ _ _ _ (tri_from l.wound u) (triangle_at (wound_of f)) l.points l.triangles x-at y-at size-at area-at t.corners cornered)
        ∙ ap (sum_to (triangle_at (wound_of f)) (weighed_y (value_at f.xs) (value_at f.ys) (value_at f.sizes) (triangle_at (wound_of f)) (value_at (areas_of f))) v) (sym t_of)

    weight : (v : ℕ) → v < l.points → weights l.gradients l.points w₁ v ≡ weight_of f v
    unfolding weight_of
    weight v h =
        g.all-weights v h
        ∙ sum_same (tri_from l.wound u) (triangle_at (wound_of f)) _ (value_at (areas_of f)) v l.triangles t.corners area-at
        ∙ ap (sum_to (triangle_at (wound_of f)) (value_at (areas_of f)) v) (sym t_of)

    checked : check_means (sums_x l.gradients l.points w₁) (sums_y l.gradients l.points w₁) (weights l.gradients l.points w₁) l.points ≡ means_of f
    unfolding means_of
    checked = check-same _ _ _ (sum_x f) (sum_y f) (weight_of f) l.points sum-x sum-y weight ∙ ap (check_means (sum_x f) (sum_y f) (weight_of f)) (sym n-of)

    module _ {w₂ : List Float} {c : Verdict} (d : Divided l.gradients l.points w₁ w₂ c) where
      pub answered : c ≡ means_of f
      answered = d.answer ∙ checked

      before : (j : ℕ) → j < l.gradients → get_or w₂ j nan ≡ get_or w j nan
      before j h = d.means.elsewhere j (inl h) ∙ g.elsewhere j (inl h)

      -- how many points were divided
      abbrev many : ℕ
      many = first_refused (sums_x l.gradients l.points w₁) (sums_y l.gradients l.points w₁) (weights l.gradients l.points w₁) l.points

      fewer : many ≤ l.points
      fewer = unfold first_refused in lowest-most _ l.points

      many-are : many ≡ refused_point f
      unfolding refused_point first_refused
      many-are =
          lowest-same _ (λ v. not (eqb (row_of_point (sum_x f) (sum_y f) (weight_of f) v) 0)) l.points (λ v h. rw (sum-x v h, sum-y v h, weight v h))
          ∙ ap (lowest (λ v. not (eqb (row_of_point (sum_x f) (sum_y f) (weight_of f) v) 0))) (sym n-of)

      -- nothing behind the sums is written
      after : (j : ℕ) → l.gradients + 3 * l.points ≤ j → get_or w₂ j nan ≡ get_or w j nan
      after j h = d.means.elsewhere j (inr (inr (omega (arith, fewer)))) ∙ g.elsewhere j (inr h)

      pub summed : Summed l f w₂
      summed = record {
        mean-x = λ v h. d.means.mean-x v (omega (arith, many-are)) ∙ ap₂ ◌⊘◌ (sum-x v (omega (arith, many-are, fewer))) (weight v (omega (arith, many-are, fewer)));
        mean-y = λ v h. d.means.mean-y v (omega (arith, many-are)) ∙ ap₂ ◌⊘◌ (sum-y v (omega (arith, many-are, fewer))) (weight v (omega (arith, many-are, fewer)));
        sum-x = λ v h k. d.means.elsewhere (l.gradients + v) (inr (inl (omega (arith, many-are), omega arith))) ∙ sum-x v k;
        sum-y = λ v h k. d.means.elsewhere (l.gradients + l.points + v) (inr (inr (omega (arith, many-are)))) ∙ sum-y v k;
        all-weights = λ v h. d.means.elsewhere (l.gradients + 2 * l.points + v) (inr (inr (omega (arith, fewer)))) ∙ weight v h;
      }

      pub unjoined : Unjoined l w u w₂ u
      unjoined = record { reals-behind = after; words-behind = λ j h. refl }

      pub stays : Stays l w u w₂ u
      stays = record {
        floor = floor-stays l o w w₂ u u (λ j h. before j (omega (arith, o.areas-in))) (λ j h. refl);
        all-reals = d.means.same_length ∙ g.same_length;
        all_words = refl;
        reals-below = λ j h. before j (omega (arith, o.areas-in));
        words-below = λ j h. refl;
        reals-behind = λ j h. after j (omega (arith, o.gradients-in));
        words-behind = λ j h. refl;
      }

      to-all : c ≡ Ok tt → DividedTo l.gradients l.points l.points w₁ w₂
      to-all e = subst (λ (i : ℕ). DividedTo l.gradients l.points i w₁ w₂) (sound-all _ _ _ l.points (sym d.answer ∙ e)) d.means

      means-x : c ≡ Ok tt → region nan w₂ l.gradients l.points ≡ gradients_x f
      unfolding region gradients_x
      means-x e =
          tab-ext _ (λ v. sum_x f v ⊘ weight_of f v) l.points (λ v h. (to-all e).mean-x v h ∙ ap₂ ◌⊘◌ (sum-x v h) (weight v h)) ∙ ap (tab (λ v. sum_x f v ⊘ weight_of f v)) (sym n-of)

      means-y : c ≡ Ok tt → region nan w₂ (l.gradients + l.points) l.points ≡ gradients_y f
      unfolding region gradients_y
      means-y e =
          tab-ext _ (λ v. sum_y f v ⊘ weight_of f v) l.points (λ v h. (to-all e).mean-y v h ∙ ap₂ ◌⊘◌ (sum-y v h) (weight v h)) ∙ ap (tab (λ v. sum_y f v ⊘ weight_of f v)) (sym n-of)

      same-areas : region nan w₂ l.areas l.triangles ≡ region nan w l.areas l.triangles
      unfolding region
      same-areas = tab-ext _ _ l.triangles (λ i h. before (l.areas + i) (omega (arith, o.areas-in)))

      pub still-turned : Wound l f w₂ u
      still-turned = record {
        floor = stays.floor ∙ t.floor;
        given_below = t.given_below;
        none = t.none;
        areas = same-areas ∙ t.areas;
        corners = t.corners;
        corners-below = t.corners-below;
      }

      pub averaged : c ≡ Ok tt → Averaged l f w₂ u
      averaged e = record {
        turned = still-turned;
        sound = sym answered ∙ e;
        summed = summed;
        all-x = means-x e;
        all-y = means-y e;
      }

all_sound : (f : Floor) → point_count f ≤ refused_point f → means_of f ≡ Ok tt
unfolding means_of refused_point check_means
all_sound f h = rw (le-ltb (first_refused (sum_x f) (sum_y f) (weight_of f) (point_count f)) (point_count f) h)

-- rows 20 and 21
module _ (l : Layout) (w : List Float) (u : List ℕ) (o : Ordered l (length w) (length u)) (t : Wound l (floor_in l w u) w u) {w₁ w₂ : List Float}
    (g : GatheredTo (gradients_at l) l.triangles u w w₁) {c : Verdict} (d : Divided l.gradients l.points w₁ w₂ c) where
  pub row-20 : (x : Refusal) → c ≡ Err x → {s : Setup} → s ≡ Err (row_at x.number x.place) → SetUp l w u w₂ u s
  row-20 x e q =
      refused-by (row_at x.number x.place) (stays l w u (floor_in l w u) o t g d) q told (λ h. absurd (omega (arith, none-refused t))) (λ h. still-turned l w u (floor_in l w u) o t g d)
      (λ h. summed l w u (floor_in l w u) o t g d) (λ h. unjoined l w u (floor_in l w u) o t g d) (λ h p. absurd (some p))
    where
      some : l.points ≤ refused_point (floor_in l w u) → ⊥
      some p =
          let s : means_of (floor_in l w u) ≡ Ok tt = all_sound (floor_in l w u) (omega (arith, n-of l w u (floor_in l w u) o t)) in
          let q : c ≡ means_of (floor_in l w u) = answered l w u (floor_in l w u) o t g d in
          let z : ◌≡◌ {A = ℕ} 0 1 = cc in
          omega arith

      told : Err (row_at x.number x.place) ≡ setup_of (floor_in l w u)
      told = unfold setup_of in rw (t.none, le-ltb (triangle_count (floor_in l w u)) (triangle_count (floor_in l w u)) (omega arith), ← answered l w u (floor_in l w u) o t g d, e)

  pub still-averaged : c ≡ Ok tt → Averaged l (floor_in l w₂ u) w₂ u
  still-averaged e = subst (λ (f : Floor). Averaged l f w₂ u) (sym (stays l w u (floor_in l w u) o t g d).floor) (averaged l w u (floor_in l w u) o t g d e)
