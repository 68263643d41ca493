-- What the private functions require of the work slices, stage by stage.
use Rattle.std.specs.Prelude.{ℕ, ◌+◌, ◌/◌, ◌%◌, ◌≤◌, ◌<◌, cond, eqb, ◌≡◌, List, Float, length, get_or}
use Rattle.linear_cells.specs.Region.{region}
use Rattle.complex.specs.declared.Complex.{Complex}
use Rattle.complex.specs.Complex.{cconj}
use Rattle.linear_cells.specs.Cell.{get_c}
use Rattle.linear_adjacency.specs.Adjacency.{degree, start_of, Ends, Listed}
use Rattle.linear_packing.specs.declared.Packing.{Packing}
use Rattle.linear_packing.specs.declared.Source.{Source}
use Rattle.linear_packing.specs.Slots.{neighbours_of}
use Rattle.linear_packing.specs.Pack.{from_list, to_list, PackRoom}

-- the lists of edges stand where the neighbours will be stored
pub record Laid (u : List ℕ) (t : Packing) (s : Source) : Type 0 where
  pub room : PackRoom (length u) t s
  pub ends : Ends t.size (from_list s u) (to_list s u)
  pub listed : Listed (from_list s u) (to_list s u) t.size u t.starts

-- rows v and v + 1 have p and q entries, and j is one of their slots
pub record SlotIn (u : List ℕ) (t : Packing) (s : Source) (v p q j : ℕ) : Type 0 where
  pub v-in : v < t.size
  pub first : p ≡ degree (from_list s u) (to_list s u) v (length (from_list s u))
  pub second : q ≡ degree (from_list s u) (to_list s u) (v + 1) (length (from_list s u))
  pub j-in : j < p + q

-- rows v and v + 1 have p and q entries, and their slots begin at k
pub record RowsIn (u : List ℕ) (t : Packing) (s : Source) (v k p q : ℕ) : Type 0 where
  pub v-in : v < t.size
  pub first : p ≡ degree (from_list s u) (to_list s u) v (length (from_list s u))
  pub second : q ≡ degree (from_list s u) (to_list s u) (v + 1) (length (from_list s u))
  pub most : k + (p + q) ≤ t.slots

-- the first slot of each row stands in u
pub record Started (u : List ℕ) (t : Packing) (s : Source) : Type 0 where
  pub room : PackRoom (length u) t s
  pub ends : Ends t.size (from_list s u) (to_list s u)
  pub starts : (v : ℕ) → v ≤ t.size → get_or u (t.starts + v) 0 ≡ start_of (from_list s u) (to_list s u) (length (from_list s u)) v

-- the neighbours of all slots stand in u
pub record Copied (u : List ℕ) (t : Packing) (s : Source) : Type 0 where
  pub started : Started u t s
  pub neighbours : region 0 u t.neighbours t.slots ≡ neighbours_of (from_list s u) (to_list s u) t.size

-- the matrix entry of a half-edge, in the work slice (`half_entry`)
unfoldable pub half_entry : List Float → ℕ → ℕ → ℕ → Complex
half_entry w off edges h = cond (eqb (h % 2) 0) (get_c w off edges (h / 2)) (cconj (get_c w off edges (h / 2)))
