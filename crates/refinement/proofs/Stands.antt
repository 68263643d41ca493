-- The pieces of a list with one more triangle, as runs of stores. Assumes nothing.
use Prim.Native.Nat.{ℕ, ◌+◌, ◌*◌, ◌≤◌}
use native.Mathlib.Omega.{arith}
use native.Mathlib.Numerals.{add-one}
use mathlib.Core.Path.{◌≡◌, refl, sym, ap, ◌∙◌}
use mathlib.Core.List.{List, [], ◌∷◌, ◌++◌, append-nil}
use mathlib.Core.Option.{Option}
use lib.ListN.{length, length-append, take}
use lib.Seq.{sets, length-sets}
use Rattle.mesh.specs.Mesh.{Tri, mid, pieces, refined}
use Rattle.mesh.proofs.Theorem.{refined-append}
use Rattle.edges.specs.declared.Table.{Table}
use Rattle.edges.specs.Table.{end_of, cuts_in}
use Rattle.edges.proofs.Numbering.{held-within}
use Rattle.refinement.specs.Floor.{tris, tri_at, corners_of}
use Rattle.refinement.specs.Steps.{HeldIn, Rows}
use Rattle.refinement.specs.Stored.{Stored}
use Rattle.refinement.proofs.Triangles.{corners-length, corners-append}
use Rattle.refinement.proofs.Parts.{take-rows, four}
use Rattle.slices.proofs.Runs.{sets-append}

-- ---- triangles

pub pieces-put : {ts : List Tri} {count : ℕ} {rows out' : List ℕ} (out : List ℕ) (a k : ℕ) → Rows ts count rows → out' ≡ sets out a (take (3 * count) rows)
    → Stored ts out a k out' (k + count)
pieces-put out a k h e = record { stands = e ∙ ap (sets out a) (take-rows h); counted = omega (arith, h.many) }

-- the pieces of the first i triangles of l stand from `at` on, k of them
pub record Stands (m : ℕ → ℕ → Option ℕ) (l out₀ : List ℕ) (at i : ℕ) (out : List ℕ) (k : ℕ) : Type 0 where
  pub stored : Stored (refined m (tris l i)) out₀ at 0 out k
  pub few : k ≤ 4 * i
  pub same_length : length out ≡ length out₀

pub stands-none : (m : ℕ → ℕ → Option ℕ) (l out : List ℕ) (at : ℕ) → Stands m l out at 0 out 0
unfolding tris corners_of
stands-none m l out at = record { stored = record { stands = refl; counted = refl }; few = omega arith; same_length = refl }

pub one_more_lem : (m : ℕ → ℕ → Option ℕ) (l : List ℕ) (i : ℕ) → refined m (tris l (i + 1)) ≡ refined m (tris l i) ++ pieces m (tri_at l i)
unfolding tris
one_more_lem m l i = rw (add-one i) (refined-append m (tris l i) (tri_at l i ∷ []) ∙ ap (λ (r : List Tri). refined m (tris l i) ++ r) (append-nil (pieces m (tri_at l i))))

-- those of triangle i go to the place a behind them
pub stands-again : {m : ℕ → ℕ → Option ℕ} {l out₀ out out' : List ℕ} {at i a k k' : ℕ} → a ≡ at + 3 * k → Stands m l out₀ at i out k → Stored (pieces m (tri_at l i)) out a k out' k'
    → Stands m l out₀ at (i + 1) out' k'
stands-again {m} {l} {out₀} {out} {out'} {at} {i} {a} {k} {k'} z h s =
    let old = refined m (tris l i) in
    let new = pieces m (tri_at l i) in
    let here : a ≡ at + length (corners_of old) = omega (arith, corners-length old, h.stored.counted) in
    record {
      stored = rw (one_more_lem m l i) (record {
        stands = s.stands ∙ rw (here, h.stored.stands) (sets-append out₀ at (corners_of old) (corners_of new)) ∙ ap (sets out₀ at) (sym (corners-append old new));
        counted = s.counted ∙ rw (length-append old new) (omega (arith, h.stored.counted));
      });
      few = omega (arith, h.few, s.counted, four m (tri_at l i));
      same_length = ap length s.stands ∙ length-sets out a (corners_of new) ∙ h.same_length;
    }

-- ---- triangles in the slice that has the table

-- the table stays where it is
pub record Within (n : ℕ) (t : Table) (l w₀ : List ℕ) (at i : ℕ) (w : List ℕ) (k : ℕ) : Type 0 where
  pub stands : Stands (mid n (cuts_in t w₀)) l w₀ at i w k
  pub held : HeldIn t w

pub within_none : (n : ℕ) (t : Table) (l w : List ℕ) (at : ℕ) → HeldIn t w → Within n t l w at 0 w 0
within_none n t l w at h = record { stands = stands-none (mid n (cuts_in t w)) l w at; held = h }

pub within-again : {n : ℕ} {t : Table} {l w₀ : List ℕ} {at i : ℕ} {w w' : List ℕ} {k k' : ℕ} → end_of t ≤ at → HeldIn t w₀ → Within n t l w₀ at i w k
    → Stored (pieces (mid n (cuts_in t w)) (tri_at l i)) w (at + 3 * k) k w' k' → Within n t l w₀ at (i + 1) w' k'
within-again {n} {t} {l} {w₀} {at} {i} {w} {w'} {k} {k'} behind h so_far s =
    let old = held-within t.base t.buckets t.sides at w₀ (corners_of (refined (mid n (cuts_in t w₀)) (tris l i))) behind so_far.stands.stored.stands h in
    let new = stands-again refl so_far.stands (rw old.1 at s) in
    record {
      stands = new;
      held = (held-within t.base t.buckets t.sides at w₀ (corners_of (refined (mid n (cuts_in t w₀)) (tris l (i + 1)))) behind new.stored.stands h).0;
    }
