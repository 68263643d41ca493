-- Several regions of one flat list, each with its own size: the layout of a work slice.
use Rattle.std.specs.Prelude.{◌≡◌, List, [], ◌∷◌, ℕ, ◌+◌, ◌≤◌, length}
use Rattle.linear_cells.specs.Region.{region, put}

-- a region: where it begins, and how many elements it has
pub record Span : Type 0 where
  pub base : ℕ
  pub size : ℕ

abbrev pub span : ℕ → ℕ → Span
span b n = record { base = b; size = n }

-- the regions come one after another between lo and hi
abbrev pub Ranged : ℕ → ℕ → List Span → Type 0
Ranged lo hi [] = lo ≤ hi
Ranged lo hi (b ∷ bs) = (lo ≤ b.base) × Ranged (b.base + b.size) hi bs

module _ {ℓ} {A : Type ℓ} where
  -- w with the lists vs at bs
  unfoldable pub laid : List A → List Span → List (List A) → List A
  laid w [] vs = w
  laid w (b ∷ bs) [] = w
  laid w (b ∷ bs) (v ∷ vs) = put (laid w bs vs) b.base v

  -- what stands at bs
  unfoldable pub contents : A → List A → List Span → List (List A)
  contents d w [] = []
  contents d w (b ∷ bs) = region d w b.base b.size ∷ contents d w bs

  -- each list has its region's size
  abbrev pub Spanned : List Span → List (List A) → Type 0
  Spanned [] [] = Unit
  Spanned [] (v ∷ vs) = ⊥
  Spanned (b ∷ bs) [] = ⊥
  Spanned (b ∷ bs) (v ∷ vs) = (length v ≡ b.size) × Spanned bs vs
