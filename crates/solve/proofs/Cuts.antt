-- The sides that the first pass's angles cut, from the table that was cleared and the sides that were met in it. And a part of a slice as a region.
-- Assumes nothing.
use Prim.Native.Nat.{ℕ, ◌+◌, ◌-◌, ◌/◌, ◌≤◌}
use native.Mathlib.Omega.{arith}
use mathlib.Core.Path.{◌≡◌, ap, ◌∙◌}
use mathlib.Core.List.{List}
use lib.ListN.{length, take, drop, replicate}
use lib.Seq.{sets, length-sets}
use lib.Ieee.{Float, nan}
use Rattle.linear_cells.specs.Region.{region}
use Rattle.linear_cells.proofs.Changes.{part-region}
use Rattle.refinement.specs.declared.Cut.{Cut}
use Rattle.refinement.specs.Flag.{flagged_tri}
use Rattle.refinement.specs.Steps.{CutTo}
use Rattle.solve.specs.Passes.{CutRoom, CutsBy}

-- the part of w from b to e, e excluded, of k numbers
pub part-is : (w : List Float) (b e k : ℕ) → e ≡ b + k → e ≤ length w → take (e - b) (drop b w) ≡ region nan w b k
part-is w b e k z h = let y : e - b ≡ k = omega arith in ap (λ (j : ℕ). take j (drop b w)) y ∙ part-region nan w b k (omega arith)

pub cuts-by : (corners : List ℕ) (n : ℕ) (threshold : Float) (w : List Float) (u : List ℕ) → CutRoom (length corners) n (length w) (length u) → {u₁ u' : List ℕ} {r : Cut}
    → u₁ ≡ sets u 0 (replicate n 0)
    → CutTo (record { base = 0; buckets = n; sides = 0 }) (flagged_tri threshold (take (n - 0) (drop 0 w))) corners (length corners / 3) u₁ u' r
    → CutsBy corners n threshold w u u' r
cuts-by corners n threshold w u room e done =
    let z = part-is w 0 n n (omega arith) room.angles-in in
    record {
      held = done.held;
      cut = rw z at done.all-cut;
      flagged = rw z at done.counted;
      few = done.few;
      same_length = done.outside.same ∙ ap length e ∙ length-sets u 0 (replicate n 0);
    }
