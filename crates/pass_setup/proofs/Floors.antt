-- A floor's set-up, over lists: how long its lists are, what a set-up without a refusal says of the floor, and that its triangles are good then.
-- Assumes nothing.
use Prim.Native.Nat.{ℕ, zero, suc, ◌≤◌, ◌<◌}
use native.Mathlib.Omega.{arith}
use mathlib.Core.Path.{◌≡◌, refl, sym, ap, ◌∙◌, subst}
use mathlib.Core.Logic.{◌⊎◌, ⊎_elim, inl, inr}
use mathlib.Core.Bool.{Bool, true, false, cond}
use mathlib.Core.List.{List, [], ◌∷◌, map}
use borrow.Author.Tests.{ltb-false}
use lib.Dec.{ltb}
use lib.ListN.{length, get_or}
use lib.Ieee.{nan}
use Rattle.std.specs.Prelude.{Ok, Err}
use Rattle.mesh.specs.Mesh.{Tri, tri, Good, All}
use Rattle.pass_setup.proofs.Keyed.{Keyed, cuts-keyed}
use Rattle.linear_cells.proofs.Loops.{length-tab, get_or-tab}
use Rattle.edges.specs.Sides.{lower, upper}
use Rattle.edges.proofs.Split.{length-map}
use Rattle.floor.specs.Floor.{Floor, point_count, triangle_count, value_at, triangle_at}
use Rattle.floor.proofs.Lowest.{lowest-holds}
use Rattle.pass_geometries.specs.Geometries.{geometry_on, is_degenerate, corners_of, area_of, first_degenerate}
use Rattle.pass_geometries.specs.Work.{Cornered}
use Rattle.pass_geometries.proofs.Steps.{kept-corners}
use Rattle.pass_geometries.proofs.Good.{sound-before, first-most, degenerate-at, good-at, good-swapped}
use Rattle.pass_transports.specs.Transports as transports
use Rattle.pass_transports.proofs.Lists.{length-coefficients}
use Rattle.mesh.specs.Claim.{InRange}
use Rattle.refusals.specs.Refusal.{row_at, Verdict}
use Rattle.pass_setup.specs.Setup.{geometry_at, degenerate_of, wound_of, areas_of, means_of, gradients_x, gradients_y, edges_of, lowers_of, uppers_of, points_in, transports_of, triangle_refusal, after_transports, after_means, setup_of, Setup}
use Rattle.pass_transports.specs.Transports.{Answer}

-- ---- what holds of all of a list, place by place

module _ {A : Type 0} (P : A → Type 0) (d : A) where
  pub all-at : (l : List A) → ((i : ℕ) → i < length l → P (get_or l i d)) → All P l
  all-at [] h = tt
  all-at (a ∷ l) h = (h 0 (omega arith), all-at l (λ i b. h (suc i) (omega arith)))

  pub at_all : (l : List A) → All P l → (i : ℕ) → i < length l → P (get_or l i d)
  at_all [] h i b = absurd (omega arith)
  at_all (a ∷ l) h zero b = h.0
  at_all (a ∷ l) h (suc i) b = at_all l h.1 i (omega arith)

pub get_d_map : {A B : Type 0} (f : A → B) (l : List A) (i : ℕ) (a : A) (b : B) → i < length l → get_or (map f l) i b ≡ f (get_or l i a)
get_d_map f [] i a b h = absurd (omega arith)
get_d_map f (x ∷ l) zero a b h = refl
get_d_map f (x ∷ l) (suc i) a b h = get_d_map f l i a b (omega arith)

-- ---- lengths

module _ (f : Floor) where
  pub length-wound : length (wound_of f) ≡ triangle_count f
  unfolding wound_of
  length-wound = length-tab _ (triangle_count f)

  pub length-areas : length (areas_of f) ≡ triangle_count f
  unfolding areas_of
  length-areas = length-tab _ (triangle_count f)

  pub length-gradients-x : length (gradients_x f) ≡ point_count f
  unfolding gradients_x
  length-gradients-x = length-tab _ (point_count f)

  pub length-gradients-y : length (gradients_y f) ≡ point_count f
  unfolding gradients_y
  length-gradients-y = length-tab _ (point_count f)

  pub length-lowers : length (lowers_of f) ≡ length (edges_of f)
  unfolding lowers_of
  length-lowers = length-map lower (edges_of f)

  pub length-uppers : length (uppers_of f) ≡ length (edges_of f)
  unfolding uppers_of
  length-uppers = length-map upper (edges_of f)

  pub length-transports : length (transports_of f) ≡ length (edges_of f)
  unfolding transports_of
  length-transports = length-coefficients (points_in f) (lowers_of f) (uppers_of f) ∙ length-lowers

  -- ---- one triangle

  pub wound-at : (i : ℕ) → i < triangle_count f → triangle_at (wound_of f) i ≡ corners_of (geometry_at f i)
  unfolding wound_of
  wound-at i h = get_or-tab _ (triangle_count f) i (tri 0 0 0) h

  pub area-at : (i : ℕ) → i < triangle_count f → value_at (areas_of f) i ≡ area_of (geometry_at f i)
  unfolding areas_of
  area-at i h = get_or-tab _ (triangle_count f) i nan h

  -- counter-clockwise, it is the one given or that with its second and third corners exchanged
  pub turned-at : degenerate_of f ≡ triangle_count f → (i : ℕ) → i < triangle_count f → (a b c : ℕ) → triangle_at f.triangles i ≡ tri a b c
      → (triangle_at (wound_of f) i ≡ tri a b c) ⊎ (triangle_at (wound_of f) i ≡ tri a c b)
  unfolding geometry_at degenerate_of
  turned-at none i h a b c e =
      let X = value_at f.xs in
      let Y = value_at f.ys in
      let given : triangle_at (wound_of f) i ≡ corners_of (geometry_on X Y (tri a b c) i) = wound-at i h ∙ ap (λ (s : Tri). corners_of (geometry_on X Y s i)) e in
      let sound : is_degenerate (geometry_on X Y (tri a b c) i) ≡ false =
      ap (λ (s : Tri). is_degenerate (geometry_on X Y s i)) (sym e) ∙ sound-before X Y (triangle_at f.triangles) (triangle_count f) i (omega arith) in
      ⊎_elim (λ p. inl (given ∙ p)) (λ p. inr (given ∙ p)) (kept-corners X Y a b c i sound)

  -- ---- row 19: the lowest degenerate triangle's number and place

  pub fault-19 : degenerate_of f < triangle_count f → triangle_refusal (geometry_at f (degenerate_of f)) ≡ row_at 19 (degenerate_of f)
  unfolding degenerate_of first_degenerate geometry_at
  fault-19 h =
      ap triangle_refusal
      (degenerate-at (value_at f.xs) (value_at f.ys) (triangle_at f.triangles (degenerate_of f)) (degenerate_of f)
      (lowest-holds (λ i. is_degenerate (geometry_on (value_at f.xs) (value_at f.ys) (triangle_at f.triangles i) i)) (triangle_count f) h))

  -- ---- no degenerate triangle: all are good

  cornered : All (InRange (point_count f)) f.triangles → (i : ℕ) → i < triangle_count f → Cornered (point_count f) (triangle_at f.triangles i)
  cornered h i b = corner (triangle_at f.triangles i) (at_all (InRange (point_count f)) (tri 0 0 0) f.triangles h i b)
    where
      corner : (s : Tri) → InRange (point_count f) s → Cornered (point_count f) s
      corner (tri a b c) r = (r.0, (r.1, r.2))

  pub given-good : degenerate_of f ≡ triangle_count f → All (InRange (point_count f)) f.triangles → All (Good (point_count f)) f.triangles
  unfolding degenerate_of
  given-good none h = all-at (Good (point_count f)) (tri 0 0 0) f.triangles (λ i b. good-at (value_at f.xs) (value_at f.ys) (point_count f) (triangle_count f) (triangle_at f.triangles) (cornered h) i (omega arith))

  pub wound-good : degenerate_of f ≡ triangle_count f → All (InRange (point_count f)) f.triangles → All (Good (point_count f)) (wound_of f)
  unfolding degenerate_of geometry_at
  wound-good none h =
      all-at (Good (point_count f)) (tri 0 0 0) (wound_of f) (λ i b.
      let l : i < triangle_count f = omega (arith, length-wound) in
      subst (Good (point_count f)) (sym (wound-at i l)) (good-swapped (value_at f.xs) (value_at f.ys) (point_count f) (triangle_count f) (triangle_at f.triangles) (cornered h) i (omega arith)))

  -- then each edge goes from a lower to an upper point
  pub edges-keyed : All (Good (point_count f)) (wound_of f) → All (Keyed (point_count f)) (edges_of f)
  unfolding edges_of
  edges-keyed g = cuts-keyed (point_count f) [] (wound_of f) tt g

-- ---- the answer

after-means : (c : Verdict) (next : Setup) {m : ℕ} → after_means c next ≡ Ok m → (c ≡ Ok tt) × (next ≡ Ok m)
after-means (Ok _) next h = (refl, h)
after-means (Err x) next h = let z : ◌≡◌ {A = ℕ} 0 1 = cc in absurd (omega arith)

after-transports : (k : ℕ) (a : Answer) {m : ℕ} → after_transports k a ≡ Ok m → (a ≡ Ok tt) × (k ≡ m)
after-transports k (Ok _) h = (refl, cc)
after-transports k (Err e) h = let z : ◌≡◌ {A = ℕ} 0 1 = cc in absurd (omega arith)

module _ (f : Floor) {m : ℕ} (h : setup_of f ≡ Ok m) where
  passed : (degenerate_of f ≡ triangle_count f) × (after_means (means_of f) (after_transports (length (edges_of f)) (transports.transports_answer (points_in f) (lowers_of f) (uppers_of f))) ≡ Ok m)
  unfolding setup_of
  passed = go (ltb (degenerate_of f) (triangle_count f)) refl h
    where
      most : degenerate_of f ≤ triangle_count f
      most = unfold degenerate_of in first-most (value_at f.xs) (value_at f.ys) (triangle_at f.triangles) (triangle_count f)

      go : (b : Bool) → ltb (degenerate_of f) (triangle_count f) ≡ b
          → cond b (Err (triangle_refusal (geometry_at f (degenerate_of f)))) (after_means (means_of f) (after_transports (length (edges_of f)) (transports.transports_answer (points_in f) (lowers_of f) (uppers_of f)))) ≡ Ok m
          → (degenerate_of f ≡ triangle_count f) × (after_means (means_of f) (after_transports (length (edges_of f)) (transports.transports_answer (points_in f) (lowers_of f) (uppers_of f))) ≡ Ok m)
      go true e z = let y : ◌≡◌ {A = ℕ} 0 1 = cc in absurd (omega arith)
      go false e z = (omega (arith, ltb-false (degenerate_of f) (triangle_count f) e, most), z)

  -- no triangle is degenerate, and m is the number of edges
  pub setup-none : degenerate_of f ≡ triangle_count f
  setup-none = passed.0

  pub setup-edges : length (edges_of f) ≡ m
  setup-edges =
      let a : Answer = transports.transports_answer (points_in f) (lowers_of f) (uppers_of f) in
      (after-transports (length (edges_of f)) a (after-means (means_of f) (after_transports (length (edges_of f)) a) passed.1).1).1

  pub setup-good : All (InRange (point_count f)) f.triangles → All (Good (point_count f)) f.triangles × All (Good (point_count f)) (wound_of f)
  setup-good r = (given-good f setup-none r, wound-good f setup-none r)
