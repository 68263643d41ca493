-- The pass over a floor as given: its triangles stand where they were laid, and a floor without cut sides is the floor as given. Assumes nothing.
use Prim.Native.Nat.{ℕ, ◌+◌, ◌*◌, ◌/◌, ◌≤◌, ◌<◌}
use native.Mathlib.Omega.{arith}
use mathlib.Core.Path.{◌≡◌, refl, ap, ◌∙◌, subst}
use mathlib.Core.List.{List, [], append-nil}
use lib.ListN.{length, get_or}
use lib.Ieee.{Float}
use Rattle.linear_cells.specs.Region.{region, put}
use Rattle.linear_cells.proofs.Loops.{apart}
use Rattle.linear_cells.proofs.Regions.{length-put, put-within, region-else}
use Rattle.linear_cells.proofs.Changes.{region-one}
use Rattle.mesh.specs.Points.{midpoints, more_points, mid_sizes, more_sizes}
use Rattle.edges.specs.Table.{pairs, cuts_in}
use Rattle.edges.specs.Numbering.{Below}
use Rattle.refinement.specs.Guidance.{mid_angles, more_angles}
use Rattle.refinement.proofs.Triangles.{tris-held}
use Rattle.edges.specs.declared.Table.{Table}
use Rattle.pass_options.specs.declared.Options.{Options}
use Rattle.pass_options.specs.Pass.{stage_of}
use Rattle.pass.specs.declared.Asked.{Asked}
use Rattle.pass_floor.specs.Lay.{pass_over, pass_at, LaidRoom, Made}
use Rattle.pass_floor.specs.First.{first_base, first_over, FirstRoom}
use Rattle.refusals.specs.Refusal.{Verdict}

-- no cut sides
abbrev pub no-cuts : Table
no-cuts = record { base = 0; buckets = 0; sides = 0 }

none-cut : (u : List ℕ) → cuts_in no-cuts u ≡ []
unfolding pairs
none-cut u = refl

same_points : (points : List Float) → more_points points [] ≡ points
unfolding more_points midpoints
same_points points = append-nil points

same-sizes : (sizes : List Float) → more_sizes sizes [] ≡ sizes
unfolding more_sizes mid_sizes
same-sizes sizes = append-nil sizes

same-angles : (angles : List Float) → more_angles angles [] ≡ angles
unfolding more_angles mid_angles
same-angles angles = append-nil angles

module _ (o : Options) (a : Asked) (points : List Float) (corners : List ℕ) (sizes angles : List Float) (w : List Float) (u : List ℕ)
    (ok : FirstRoom a.guided (length points) (length corners) (length sizes) (length angles) (length w) (length u)) {u₁ : List ℕ} (e : u₁ ≡ put u 0 corners) where
  long : length u₁ ≡ length u
  long = ap length e ∙ length-put u 0 corners

  stands : (j : ℕ) → j < length corners → get_or u₁ (0 + j) 0 ≡ get_or corners j 0
  stands j h = ap (λ (x : List ℕ). get_or x (0 + j) 0) e ∙ put-within u 0 corners j 0 h (omega (arith, ok.words-fit, ok.whole-corners))

  -- the corners are laid out at 0
  past : (j : ℕ) → length corners ≤ j → get_or u₁ j 0 ≡ get_or u j 0
  past j h = region-one 0 u u₁ j (ap (λ (x : List ℕ). region 0 x j 1) e ∙ region-else u 0 corners refl 0 j 1 (omega (arith, apart)))

  pub laid-room : LaidRoom (first_base (length points) (length corners)) a.guided (length points) (length sizes) (length angles) no-cuts (length w) (length u₁)
  laid-room = record {
    whole = ok.whole;
    sized = ok.sized;
    guided-all = ok.guided-all;
    table-in = omega arith;
    all-points = omega arith;
    fits = record { small = record { reals-small = omega arith; words_small = omega arith; points-small = ok.few-points; triangles-small = ok.few-triangles }; reals-fit = omega (arith, ok.reals-fit); words-fit = omega (arith, ok.words-fit, long) };
  }

  pub corners-laid : Below (length points / 3) 0 corners (length corners) → Below (length points / 3) 0 u₁ (3 * (length corners / 3))
  corners-laid h j g =
      let z : 0 + j ≡ j = omega arith in
      let b : get_or corners j 0 < length points / 3 = subst (λ (k : ℕ). get_or corners k 0 < length points / 3) z (h j (omega (arith, ok.whole-corners))) in
      omega (arith, stands j (omega (arith, ok.whole-corners)))

  same-pass : pass_at (first_base (length points) (length corners)) o a no-cuts points sizes angles u₁ ≡ first_over o a points corners sizes angles
  unfolding pass_over
  same-pass =
      rw (none-cut u₁, same_points points, same-sizes sizes, same-angles angles, tris-held 0 (length corners / 3) u₁ corners (λ j h. stands j (omega (arith, ok.whole-corners))))

  pub first_made : {w' : List Float} {u' : List ℕ} {r : Verdict} → Made (first_base (length points) (length corners)) (pass_at (first_base (length points) (length corners)) o a no-cuts points sizes angles u₁) w w' u₁ u' r
      → Made (first_base (length points) (length corners)) (first_over o a points corners sizes angles) w w' u u' r
  first_made m = record {
    answer = m.answer ∙ ap stage_of same-pass;
    found = λ alpha h. m.found alpha (same-pass ∙ h);
    all-reals = m.all-reals;
    all_words = m.all_words ∙ long;
    reals-below = m.reals-below;
    angles-stay = λ x h j g k. m.angles-stay x (same-pass ∙ h) j g k;
    reals-behind = m.reals-behind;
    words-below = λ j h. absurd (omega arith);
    words-behind = λ j h. m.words-behind j h ∙ past j (omega (arith, ok.whole-corners));
  }
