-- The lists of edges at vertices and the product at one vertex as C sees them: the answer's number, and what the lent places then hold. Definitions only.
use Rattle.std.specs.Prelude.{ℕ, ◌≡◌, cond, List, length, Option, Some, None, Float}
use Rattle.complex.specs.declared.Complex.{Complex}
use Rattle.linear_cells.specs.Region.{put}
use Rattle.linear_adjacency.specs.Adjacency.{adjacency}
use Rattle.linear_adjacency.specs.Incidence.{listable, Incidence}

-- 0 where the lists can be made, and then each edge is once in the lists of its ends, in rising order; 1 otherwise, and the slice stays
pub record ListsTold (n : ℕ) (from to lists : List ℕ) (code : ℕ) (lists' : List ℕ) : Type 0 where
  pub number : code ≡ cond (listable n from to (length lists)) 0 1
  pub exit : lists' ≡ cond (listable n from to (length lists)) (put lists 0 (adjacency from to n)) lists
  pub incidence : code ≡ 0 → Incidence n from to lists'

-- an answer's number, and what it leaves in the two places. That the answer is the product is linear_rows' claim `SameProduct`
abbrev pub product_number : Option Complex → ℕ
product_number (Some z) = 0
product_number None = 1

abbrev pub re_or : Option Complex → Float → Float
re_or (Some z) re = z.re
re_or None re = re

abbrev pub im_or : Option Complex → Float → Float
im_or (Some z) im = z.im
im_or None im = im

pub record ProductTold (p : Option Complex) (re im : Float) (code : ℕ) (re' im' : Float) : Type 0 where
  pub number : code ≡ product_number p
  pub re-is : re' ≡ re_or p re
  pub im-is : im' ≡ im_or p im
