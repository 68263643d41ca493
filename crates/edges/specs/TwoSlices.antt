-- A table of sides in two slices, so that the ends can stand where they are wanted: the lower and the upper end of side k at 2 k and 2 k + 1 of `e`, and in `w`
-- from `o` on N buckets and then two links of each side. All else is as in one slice (Table). Definitions only.
use Rattle.std.specs.Prelude.{ℕ, ◌+◌, ◌*◌, ◌≤◌, ◌<◌, ◌≡◌, List, length, get_or}
use Rattle.std.specs.Prelude.{Option as Maybe}
use Rattle.std.proofs.Math.Option.{some}
use Rattle.mesh.specs.Mesh.{Side, Tri, sides, met, met_all, index_in, Numbered}
use Rattle.edges.specs.Table.{pairs, Trees, Walked, hold_of, NumbersOf}

abbrev pub lo_at : List ℕ → ℕ → ℕ
lo_at e k = get_or e (2 * k) 0

abbrev pub hi_at : List ℕ → ℕ → ℕ
hi_at e k = get_or e (2 * k + 1) 0

abbrev pub under_at : ℕ → ℕ → ℕ → ℕ
under_at o N k = o + N + 2 * k

-- the first m sides
abbrev pub sides_at : List ℕ → ℕ → List Side
sides_at e m = pairs (lo_at e) (hi_at e) m

-- m sides stand in the slices, with N buckets
pub record HeldInTwo (o N : ℕ) (e w : List ℕ) (m : ℕ) : Type 0 where
  pub buckets : 0 < N
  pub ends-in : 2 * m ≤ length e
  pub links-in : o + N + 2 * m ≤ length w
  pub trees : Trees o N (lo_at e) (hi_at e) (hold_of w) (under_at o N) m
  pub numbered : Numbered (sides_at e m)

abbrev pub WalkedInTwo : ℕ → ℕ → List ℕ → List ℕ → ℕ → ℕ → ℕ → Maybe ℕ → ℕ → Type 0
WalkedInTwo o N e w = Walked o N (lo_at e) (hi_at e) (hold_of w) (under_at o N)

-- both slices outside the table of m sides are as they were
pub record OutsideInTwo (o N : ℕ) (e w : List ℕ) (m : ℕ) (e' w' : List ℕ) : Type 0 where
  pub same_ends : length e' ≡ length e
  pub same : length w' ≡ length w
  pub ends-behind : (j : ℕ) → 2 * m ≤ j → get_or e' j 0 ≡ get_or e j 0
  pub before : (j : ℕ) → j < o → get_or w' j 0 ≡ get_or w j 0
  pub behind : (j : ℕ) → o + N + 2 * m ≤ j → get_or w' j 0 ≡ get_or w j 0

-- a side s was met, and has the number k: there were m sides, and now there are m'
pub record MetInTwo (o N : ℕ) (e w : List ℕ) (m : ℕ) (e' w' : List ℕ) (m' k : ℕ) (s : Side) : Type 0 where
  pub held : HeldInTwo o N e' w' m'
  pub now-met : sides_at e' m' ≡ met (sides_at e m) s
  pub number : index_in s (sides_at e' m') ≡ some k
  pub more : m' ≤ m + 1
  pub outside : OutsideInTwo o N e w m' e' w'

-- the three sides of a triangle were met, and have the numbers p, q and r
pub record MetTriInTwo (o N : ℕ) (e w : List ℕ) (m : ℕ) (e' w' : List ℕ) (m' p q r : ℕ) (t : Tri) : Type 0 where
  pub held : HeldInTwo o N e' w' m'
  pub now-met : sides_at e' m' ≡ met_all (sides_at e m) (sides t)
  pub numbers : NumbersOf t (sides_at e' m') p q r
  pub more : m' ≤ m + 3
  pub most : m ≤ m'
  pub outside : OutsideInTwo o N e w m' e' w'
