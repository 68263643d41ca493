-- The floor that stands in the slices, place by place; and what a set-up left is what it leaves from slices with the same floor. Assumes nothing.
use Prim.Native.Nat.{ℕ, ◌+◌, ◌*◌, ◌≤◌, ◌<◌}
use native.Mathlib.Omega.{arith}
use mathlib.Core.Path.{◌≡◌, refl, sym, ap, ◌∙◌, subst}
use mathlib.Core.List.{List}
use lib.ListN.{length, get_or}
use lib.Ieee.{Float, nan}
use Rattle.std.specs.Prelude.{Ok, Err}
use Rattle.mesh.specs.Mesh.{tri, All}
use Rattle.linear_cells.specs.Region.{region}
use Rattle.linear_cells.proofs.Regions.{length-region, get_or-region}
use Rattle.edges.specs.Numbering.{tri_from, Below}
use Rattle.edges.proofs.Numbering.{length-tris, tri-at}
use Rattle.floor.specs.Floor.{Floor, point_count, triangle_count, value_at, triangle_at}
use Rattle.pass_geometries.specs.Work.{coords_from, Kept}
use Rattle.pass_geometries.proofs.Steps.{corners-below}
use Rattle.pass_gradients.proofs.Means.{sound-all}
use Rattle.mesh.specs.Claim.{InRange}
use Rattle.pass_layout.specs.declared.Layout.{Layout}
use Rattle.pass_layout.specs.Layout.{Ordered}
use Rattle.pass_layout.specs.Work.{floor_in}
use Rattle.refusals.specs.declared.Refusal.{Refusal}
use Rattle.pass_setup.specs.Setup.{degenerate_of, sum_x, sum_y, weight_of, means_of, edges_of, setup_of, Setup}
use Rattle.pass_setup.specs.Work.{geometries_at, Wound, refused_point, Summed, Joined, Stands, Unjoined, SetUp}
use Rattle.pass_setup.proofs.Floors.{all-at}

pub value-at : (w : List Float) (b n : ℕ) (xs : List Float) → region nan w b n ≡ xs → (v : ℕ) → v < n → coords_from w b v ≡ value_at xs v
value-at w b n xs e v h = sym (get_or-region w b n v nan h) ∙ ap (λ (l : List Float). get_or l v nan) e

module _ (l : Layout) (w : List Float) (u : List ℕ) (f : Floor) (floor : floor_in l w u ≡ f) where
  pub points-of : point_count f ≡ l.points
  unfolding floor_in
  points-of = ap (λ (f : Floor). point_count f) (sym floor) ∙ length-region nan w l.x l.points

  pub triangles-of : triangle_count f ≡ l.triangles
  unfolding floor_in
  triangles-of = ap (λ (f : Floor). triangle_count f) (sym floor) ∙ length-tris l.given u l.triangles

  pub all-x : region nan w l.x l.points ≡ f.xs
  unfolding floor_in
  all-x = ap (λ (f : Floor). f.xs) floor

  pub all-y : region nan w l.y l.points ≡ f.ys
  unfolding floor_in
  all-y = ap (λ (f : Floor). f.ys) floor

  pub all-sizes : region nan w l.sizes l.points ≡ f.sizes
  unfolding floor_in
  all-sizes = ap (λ (f : Floor). f.sizes) floor

  pub given-at : (i : ℕ) → i < l.triangles → tri_from l.given u i ≡ triangle_at f.triangles i
  unfolding floor_in
  given-at i h = sym (tri-at l.given u l.triangles i (tri 0 0 0) h) ∙ ap (λ (f : Floor). triangle_at f.triangles i) floor

  pub in-range : Below l.points l.given u (3 * l.triangles) → All (InRange (point_count f)) f.triangles
  in-range below =
      all-at (InRange (point_count f)) (tri 0 0 0) f.triangles (λ i h.
      let b = corners-below l.points l.given u i (λ j g. below j (omega (arith, triangles-of))) in
      subst (InRange (point_count f)) (given-at i (omega (arith, triangles-of))) (omega (arith, b.0, points-of), omega (arith, b.1.0, points-of), omega (arith, b.1.1, points-of)))

-- ---- what is left

-- row 19 refuses no triangle
pub none-refused : {l : Layout} {w : List Float} {u : List ℕ} → Wound l (floor_in l w u) w u → l.triangles ≤ degenerate_of (floor_in l w u)
none-refused {l} {w} {u} t = omega (arith, t.none, triangles-of l w u (floor_in l w u) refl)

-- nor do rows 20 and 21 a point
pub means-sound : {l : Layout} {w w₁ : List Float} {u u₁ : List ℕ} → means_of (floor_in l w u) ≡ Ok tt → refused_point (floor_in l w u) < l.points → Unjoined l w u w₁ u₁
unfolding refused_point means_of
means-sound {l} {w} {w₁} {u} {u₁} e h =
    let f : Floor = floor_in l w u in
    absurd (omega (arith, sound-all (sum_x f) (sum_y f) (weight_of f) (point_count f) e, points-of l w u f refl))

-- the slices w₁ and u₁ have what stands before the areas and before the counter-clockwise corners as w and u have it, and what stands behind the transports and
-- behind the upper ends
pub record Stays (l : Layout) (w : List Float) (u : List ℕ) (w₁ : List Float) (u₁ : List ℕ) : Type 0 where
  pub floor : floor_in l w₁ u₁ ≡ floor_in l w u
  pub all-reals : length w₁ ≡ length w
  pub all_words : length u₁ ≡ length u
  pub reals-below : (j : ℕ) → j < l.areas → get_or w₁ j nan ≡ get_or w j nan
  pub words-below : (j : ℕ) → j < l.wound → get_or u₁ j 0 ≡ get_or u j 0
  pub reals-behind : (j : ℕ) → l.transports + 6 * l.triangles ≤ j → get_or w₁ j nan ≡ get_or w j nan
  pub words-behind : (j : ℕ) → l.to + 3 * l.triangles ≤ j → get_or u₁ j 0 ≡ get_or u j 0

pub ordered-now : {l : Layout} {w w₁ : List Float} {u u₁ : List ℕ} → Stays l w u w₁ u₁ → Ordered l (length w) (length u) → Ordered l (length w₁) (length u₁)
ordered-now k o = rw (k.all-reals, k.all_words) o

pub refused-by : {l : Layout} {w w₁ : List Float} {u u₁ : List ℕ} (x : Refusal) {r : Setup} → Stays l w u w₁ u₁ → r ≡ Err x → Err x ≡ setup_of (floor_in l w u)
    → (degenerate_of (floor_in l w u) < l.triangles → Kept (geometries_at l) w u w₁ u₁ (degenerate_of (floor_in l w u)))
    → (l.triangles ≤ degenerate_of (floor_in l w u) → Wound l (floor_in l w u) w₁ u₁) → (l.triangles ≤ degenerate_of (floor_in l w u) → Summed l (floor_in l w u) w₁)
    → (refused_point (floor_in l w u) < l.points → Unjoined l w u w₁ u₁)
    → (l.triangles ≤ degenerate_of (floor_in l w u) → l.points ≤ refused_point (floor_in l w u) → Joined l (length (edges_of (floor_in l w u))) (floor_in l w u) w₁ u₁) → SetUp l w u w₁ u₁ r
refused-by x k e h g t s n j = record {
  answer = e ∙ h;
  all-reals = k.all-reals;
  all_words = k.all_words;
  reals-below = k.reals-below;
  words-below = k.words-below;
  reals-behind = k.reals-behind;
  words-behind = k.words-behind;
  row-19 = g;
  turned = t;
  summed = s;
  unjoined = n;
  joined = j;
  stands = λ m q. let z : ◌≡◌ {A = ℕ} 0 1 = cc in absurd (omega arith);
}

-- the rest of the work was done on them, since no triangle is degenerate
pub set-up-then : {l : Layout} {w w₁ w₂ : List Float} {u u₁ u₂ : List ℕ} {r : Setup} → l.triangles ≤ degenerate_of (floor_in l w u) → Stays l w u w₁ u₁
    → (refused_point (floor_in l w u) < l.points → Unjoined l w u w₁ u₁) → SetUp l w₁ u₁ w₂ u₂ r → SetUp l w u w₂ u₂ r
set-up-then {l} {w} {w₁} {w₂} {u} {u₁} {u₂} none k n s = record {
  answer = s.answer ∙ ap setup_of k.floor;
  all-reals = s.all-reals ∙ k.all-reals;
  all_words = s.all_words ∙ k.all_words;
  reals-below = λ j h. s.reals-below j h ∙ k.reals-below j h;
  words-below = λ j h. s.words-below j h ∙ k.words-below j h;
  reals-behind = λ j h. s.reals-behind j h ∙ k.reals-behind j h;
  words-behind = λ j h. s.words-behind j h ∙ k.words-behind j h;
  row-19 = λ h. absurd (omega arith);
  turned = λ h. subst (λ (f : Floor). Wound l f w₂ u₂) k.floor (s.turned (rw k.floor h));
  summed = λ h. subst (λ (f : Floor). Summed l f w₂) k.floor (s.summed (rw k.floor h));
  unjoined = λ h.
      let b : Unjoined l w₁ u₁ w₂ u₂ = s.unjoined (rw k.floor h) in
      record { reals-behind = λ j g. b.reals-behind j g ∙ (n h).reals-behind j g; words-behind = λ j g. b.words-behind j g ∙ (n h).words-behind j g };
  joined = λ h p. subst (λ (f : Floor). Joined l (length (edges_of f)) f w₂ u₂) k.floor (s.joined (rw k.floor h) (rw k.floor p));
  stands = λ m e. subst (λ (f : Floor). Stands l m f w₂ u₂) k.floor (s.stands m e);
}
