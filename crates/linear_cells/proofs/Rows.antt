-- Laws of a layout, `contents` and `laid`: one region read, one written, regions laid over regions. Assumes nothing.
use mathlib.Core.Path.{◌≡◌, refl, ap, ◌∙◌}
use mathlib.Core.List.{List, [], ◌∷◌}
use Prim.Native.Nat.{ℕ, zero, suc, ◌+◌, ◌≤◌, ◌<◌}
use native.Mathlib.Nat.{not-suc-le-zero, le_of_suc-le-suc}
use native.Mathlib.Omega.{arith}
use lib.ListN.{length, get_or, set}
use Rattle.linear_cells.specs.Region.{region, put}
use Rattle.linear_cells.specs.Spans.{Span, span, contents, laid, Ranged, Spanned}
use Rattle.linear_cells.proofs.Loops.{apart}
use Rattle.linear_cells.proofs.Regions.{length-put, length-region, put-region, put-put, put-apart, region-put, region-else}

-- ---- the bounds of the regions

pub ranged-le : (lo hi : ℕ) (bs : List Span) → Ranged lo hi bs → lo ≤ hi
ranged-le lo hi [] r = r
ranged-le lo hi (b ∷ bs) r = omega (arith, ranged-le (b.base + b.size) hi bs r.1)

ranged-at : (lo hi : ℕ) (bs : List Span) → Ranged lo hi bs → (j : ℕ) → j < length bs → lo ≤ (get_or bs j (span 0 0)).base
ranged-at lo hi [] r j l = absurd (not-suc-le-zero l)
ranged-at lo hi (b ∷ bs) r zero l = r.0
ranged-at lo hi (b ∷ bs) r (suc j) l = omega (arith, ranged-at (b.base + b.size) hi bs r.1 j (le_of_suc-le-suc l))

module _ {ℓ} {A : Type ℓ} (d : A) where
  pub length-laid : (w : List A) (bs : List Span) (vs : List (List A)) → length (laid w bs vs) ≡ length w
  unfolding laid
  length-laid w [] vs = refl
  length-laid w (b ∷ bs) [] = refl
  length-laid w (b ∷ bs) (v ∷ vs) = length-put _ b.base v ∙ length-laid w bs vs

  -- what is there, laid there
  pub laid-rows : (w : List A) (bs : List Span) → laid w bs (contents d w bs) ≡ w
  unfolding laid contents
  laid-rows w [] = refl
  laid-rows w (b ∷ bs) = rw (laid-rows w bs) (put-region d w b.base b.size)

  pub rows-rowed : (w : List A) (bs : List Span) → Spanned bs (contents d w bs)
  unfolding contents
  rows-rowed w [] = tt
  rows-rowed w (b ∷ bs) = (length-region d w b.base b.size, rows-rowed w bs)

  -- what lies below every region
  pub laid-below : (w : List A) (lo hi : ℕ) (bs : List Span) (vs : List (List A)) → Ranged lo hi bs → Spanned bs vs
      → (c m : ℕ) → c + m ≤ lo → region d (laid w bs vs) c m ≡ region d w c m
  unfolding laid
  laid-below w lo hi [] [] r z c m h = refl
  laid-below w lo hi [] (v ∷ vs) r z c m h = absurd z
  laid-below w lo hi (b ∷ bs) [] r z c m h = absurd z
  laid-below w lo hi (b ∷ bs) (v ∷ vs) r z c m h =
      region-else (laid w bs vs) b.base v z.0 d c m (omega (arith, apart))
      ∙ laid-below w (b.base + b.size) hi bs vs r.1 z.1 c m (omega arith)

  put-below-laid : (w : List A) (lo hi : ℕ) (bs : List Span) (vs : List (List A)) → Ranged lo hi bs → Spanned bs vs
      → (c : ℕ) (u : List A) {m : ℕ} → length u ≡ m → c + m ≤ lo → laid (put w c u) bs vs ≡ put (laid w bs vs) c u
  unfolding laid
  put-below-laid w lo hi [] [] r z c u k h = refl
  put-below-laid w lo hi [] (v ∷ vs) r z c u k h = absurd z
  put-below-laid w lo hi (b ∷ bs) [] r z c u k h = absurd z
  put-below-laid w lo hi (b ∷ bs) (v ∷ vs) r z c u k h =
      ap (λ t. put t b.base v) (put-below-laid w (b.base + b.size) hi bs vs r.1 z.1 c u k (omega arith))
      ∙ put-apart (laid w bs vs) c u k b.base v z.0 (omega (arith, apart))

  -- region j: read, and written
  pub laid-at : (w : List A) (lo : ℕ) (bs : List Span) (vs : List (List A)) → Ranged lo (length w) bs → Spanned bs vs
      → (j : ℕ) → j < length bs → region d (laid w bs vs) (get_or bs j (span 0 0)).base (get_or bs j (span 0 0)).size ≡ get_or vs j []
  unfolding laid
  laid-at w lo [] vs r z j l = absurd (not-suc-le-zero l)
  laid-at w lo (b ∷ bs) [] r z j l = absurd z
  laid-at w lo (b ∷ bs) (v ∷ vs) r z zero l =
      region-put (laid w bs vs) b.base v z.0 d (omega (arith, length-laid w bs vs, ranged-le (b.base + b.size) (length w) bs r.1))
  laid-at w lo (b ∷ bs) (v ∷ vs) r z (suc j) l =
      region-else (laid w bs vs) b.base v z.0 d _ _ (omega (arith, apart, ranged-at (b.base + b.size) (length w) bs r.1 j (le_of_suc-le-suc l)))
      ∙ laid-at w (b.base + b.size) bs vs r.1 z.1 j (le_of_suc-le-suc l)

  pub laid-set : (w : List A) (lo hi : ℕ) (bs : List Span) (vs : List (List A)) → Ranged lo hi bs → Spanned bs vs
      → (j : ℕ) → j < length bs → (u : List A) → length u ≡ (get_or bs j (span 0 0)).size → put (laid w bs vs) (get_or bs j (span 0 0)).base u ≡ laid w bs (set vs j u)
  unfolding laid
  laid-set w lo hi [] vs r z j l u k = absurd (not-suc-le-zero l)
  laid-set w lo hi (b ∷ bs) [] r z j l u k = absurd z
  laid-set w lo hi (b ∷ bs) (v ∷ vs) r z zero l u k = put-put (laid w bs vs) b.base u k v z.0
  laid-set w lo hi (b ∷ bs) (v ∷ vs) r z (suc j) l u k =
      put-apart (laid w bs vs) b.base v z.0 _ u k (omega (arith, apart, ranged-at (b.base + b.size) hi bs r.1 j (le_of_suc-le-suc l)))
      ∙ ap (λ t. put t b.base v) (laid-set w (b.base + b.size) hi bs vs r.1 z.1 j (le_of_suc-le-suc l) u k)

  -- every region: read back, and written over
  rows_above : (w : List A) (lo hi : ℕ) (bs : List Span) → Ranged lo hi bs → (c : ℕ) (u : List A) {m : ℕ} → length u ≡ m → c + m ≤ lo
      → contents d (put w c u) bs ≡ contents d w bs
  unfolding contents
  rows_above w lo hi [] r c u k h = refl
  rows_above w lo hi (b ∷ bs) r c u k h =
      rw (region-else w c u k d b.base b.size (omega (arith, apart)), rows_above w (b.base + b.size) hi bs r.1 c u k (omega arith))

  pub rows-laid : (w : List A) (lo : ℕ) (bs : List Span) (vs : List (List A)) → Ranged lo (length w) bs → Spanned bs vs → contents d (laid w bs vs) bs ≡ vs
  unfolding contents laid
  rows-laid w lo [] [] r z = refl
  rows-laid w lo [] (v ∷ vs) r z = absurd z
  rows-laid w lo (b ∷ bs) [] r z = absurd z
  rows-laid w lo (b ∷ bs) (v ∷ vs) r z =
      let x : region d (put (laid w bs vs) b.base v) b.base b.size ≡ v =
      region-put (laid w bs vs) b.base v z.0 d (omega (arith, length-laid w bs vs, ranged-le (b.base + b.size) (length w) bs r.1)) in
      let y : contents d (put (laid w bs vs) b.base v) bs ≡ vs =
      rows_above (laid w bs vs) (b.base + b.size) (length w) bs r.1 b.base v z.0 (omega arith)
      ∙ rows-laid w (b.base + b.size) bs vs r.1 z.1 in
      λ k. x k ∷ y k

  pub laid-laid : (w : List A) (lo hi : ℕ) (bs : List Span) (us vs : List (List A)) → Ranged lo hi bs → Spanned bs us → Spanned bs vs
      → laid (laid w bs us) bs vs ≡ laid w bs vs
  unfolding laid
  laid-laid w lo hi [] us vs r y z = refl
  laid-laid w lo hi (b ∷ bs) [] vs r y z = absurd y
  laid-laid w lo hi (b ∷ bs) (u ∷ us) [] r y z = absurd z
  laid-laid w lo hi (b ∷ bs) (u ∷ us) (v ∷ vs) r y z =
      ap (λ t. put t b.base v) (put-below-laid (laid w bs us) (b.base + b.size) hi bs vs r.1 z.1 b.base u y.0 (omega arith))
      ∙ put-put (laid (laid w bs us) bs vs) b.base v z.0 u y.0
      ∙ ap (λ t. put t b.base v) (laid-laid w (b.base + b.size) hi bs us vs r.1 y.1 z.1)
