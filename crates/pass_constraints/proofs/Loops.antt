-- The iterations of the loops: drop, fix, blank, couple, penalise. Each is a loop of linear_cells/proofs/Each. Assumes nothing.
use mathlib.Core.Path.{◌≡◌, sym, ◌∙◌}
use mathlib.Core.List.{List}
use Prim.Native.Nat.{ℕ, ◌+◌, ◌*◌, ◌≤◌, ◌<◌}
use lib.Ieee.{Float, nan}
use lib.ListN.{length, get_or}
use Rattle.complex.specs.declared.Complex.{Complex}
use Rattle.complex.specs.Complex.{cnan}
use Rattle.linear_cells.specs.Region.{region, put}
use Rattle.linear_cells.specs.Cell.{get_c, region_c, put_c}
use Rattle.linear_cells.proofs.Regions.{length-region, get_or-region}
use Rattle.linear_cells.proofs.Cells.{length-region_c, get_or-region_c}
use Rattle.linear_hermitian.specs.declared.Hermitian.{Hermitian}
use Rattle.linear_hermitian.specs.Work.{PairRoom}
use Rattle.pass_constraints.specs.declared.Tangents.{Tangents}
use Rattle.pass_constraints.specs.declared.Penalty.{Penalty}
use Rattle.pass_constraints.specs.Constraints.{dropped_at, dropped, fixed_at, fixed, blanked_at, blanked, coupled_at, coupled, penalised_at, penalised, penalty_at, penalties}
use Rattle.pass_constraints.specs.Work.{TangentRoom, PenaltyRoom, drop_c, fix_c, blank_c, couple_c, penalise_c, penalty_c, dropped_in, fixed_in, blanked_in, coupled_in, penalised_in, penalties_in}
use Rattle.linear_cells.proofs.Each.{each_to, each_none, each-own, each-other, each-real, each_again, each-done, real_to, real-none, real-own, real-other, real-again, real-done}

-- ---- drop

module _ (w : List Float) (h : Hermitian) (flags a b : List ℕ) where
  drop_at : ℕ → Complex → Complex
  drop_at i z = dropped_at flags a b i z

  unfoldable pub drop_to : ℕ → List Complex
  unfolding drop_at
  drop_to i = each_to drop_at w h.off h.edges i

  pub drop-none : w ≡ put_c w h.off (drop_to 0)
  unfolding drop_to
  drop-none = each_none drop_at w h.off h.edges

  pub drop-again : h.off + 2 * h.edges ≤ length w → (i : ℕ) → i < h.edges → {w₁ w₂ : List Float} → w₁ ≡ put_c w h.off (drop_to i) → w₂ ≡ drop_c h flags a b i w₁ → w₂ ≡ put_c w h.off (drop_to (i + 1))
  unfolding drop_to drop_at drop_c
  drop-again ok i l {w₁} {w₂} e₁ e₂ =
      let eo : get_c w₁ h.off h.edges i ≡ get_c w h.off h.edges i = each-own drop_at w h.off h.edges ok i l e₁ in
      each_again drop_at w h.off h.edges ok i l e₁ e₂ (rw (eo))

  pub drop-done : {w₁ : List Float} {i : ℕ} → i ≤ h.edges → h.edges ≤ i → w₁ ≡ put_c w h.off (drop_to i) → w₁ ≡ dropped_in h flags a b w
  unfolding drop_to drop_at dropped_in dropped
  drop-done l g e = each-done drop_at w h.off h.edges l g e ∙ rw length-region_c

-- ---- blank

module _ (w : List Float) (target n : ℕ) (flags : List ℕ) where
  blank_at : ℕ → Complex → Complex
  blank_at i z = blanked_at flags i z

  unfoldable pub blank_to : ℕ → List Complex
  unfolding blank_at
  blank_to i = each_to blank_at w target n i

  pub blank_none : w ≡ put_c w target (blank_to 0)
  unfolding blank_to
  blank_none = each_none blank_at w target n

  pub blank-again : target + 2 * n ≤ length w → (i : ℕ) → i < n → {w₁ w₂ : List Float} → w₁ ≡ put_c w target (blank_to i) → w₂ ≡ blank_c target n flags i w₁ → w₂ ≡ put_c w target (blank_to (i + 1))
  unfolding blank_to blank_at blank_c
  blank-again ok i l {w₁} {w₂} e₁ e₂ =
      let eo : get_c w₁ target n i ≡ get_c w target n i = each-own blank_at w target n ok i l e₁ in
      each_again blank_at w target n ok i l e₁ e₂ (rw (eo))

  pub blank-done : {w₁ : List Float} {i : ℕ} → i ≤ n → n ≤ i → w₁ ≡ put_c w target (blank_to i) → w₁ ≡ blanked_in target n flags w
  unfolding blank_to blank_at blanked_in blanked
  blank-done l g e = each-done blank_at w target n l g e ∙ rw length-region_c

-- ---- couple

module _ (w : List Float) (l : Tangents) (n : ℕ) (flags : List ℕ) where
  couple_at : ℕ → Complex → Complex
  couple_at i z = coupled_at flags i (get_or (region_c w l.targets n) i cnan) (get_or (region_c w l.coupling n) i cnan) z

  unfoldable pub couple_to : ℕ → List Complex
  unfolding couple_at
  couple_to i = each_to couple_at w l.rhs n i

  pub couple-none : w ≡ put_c w l.rhs (couple_to 0)
  unfolding couple_to
  couple-none = each_none couple_at w l.rhs n

  pub couple-again : TangentRoom (length w) n l → (i : ℕ) → i < n → {w₁ w₂ : List Float} → w₁ ≡ put_c w l.rhs (couple_to i) → w₂ ≡ couple_c l n flags i w₁ → w₂ ≡ put_c w l.rhs (couple_to (i + 1))
  unfolding couple_to couple_at couple_c
  couple-again ok i m {w₁} {w₂} e₁ e₂ =
      let et : get_c w₁ l.targets n i ≡ get_or (region_c w l.targets n) i cnan = each-other couple_at w l.rhs n l.targets n i i ok.rhs-targets m e₁ ∙ sym (get_or-region_c w l.targets n i m) in
      let ec : get_c w₁ l.coupling n i ≡ get_or (region_c w l.coupling n) i cnan = each-other couple_at w l.rhs n l.coupling n i i ok.rhs-coupling m e₁ ∙ sym (get_or-region_c w l.coupling n i m) in
      let eo : get_c w₁ l.rhs n i ≡ get_c w l.rhs n i = each-own couple_at w l.rhs n ok.rhs-in i m e₁ in
      each_again couple_at w l.rhs n ok.rhs-in i m e₁ e₂ (rw (et, ec, eo))

  pub couple-done : {w₁ : List Float} {i : ℕ} → i ≤ n → n ≤ i → w₁ ≡ put_c w l.rhs (couple_to i) → w₁ ≡ coupled_in l n flags w
  unfolding couple_to couple_at coupled_in coupled
  couple-done k g e = each-done couple_at w l.rhs n k g e ∙ rw length-region_c

-- ---- penalty

module _ (w : List Float) (l : Penalty) (n : ℕ) (flags : List ℕ) where
  penalty_all : ℕ → Complex → Complex
  penalty_all i z = penalty_at flags l.weight i (get_or (region nan w l.mass n) i nan) (get_or (region_c w l.targets n) i cnan)

  unfoldable pub penalty_to : ℕ → List Complex
  unfolding penalty_all
  penalty_to i = each_to penalty_all w l.rhs n i

  pub penalty-none : w ≡ put_c w l.rhs (penalty_to 0)
  unfolding penalty_to
  penalty-none = each_none penalty_all w l.rhs n

  pub penalty-again : PenaltyRoom (length w) n l → (i : ℕ) → i < n → {w₁ w₂ : List Float} → w₁ ≡ put_c w l.rhs (penalty_to i) → w₂ ≡ penalty_c l n flags i w₁ → w₂ ≡ put_c w l.rhs (penalty_to (i + 1))
  unfolding penalty_to penalty_all penalty_c
  penalty-again ok i m {w₁} {w₂} e₁ e₂ =
      let et : get_c w₁ l.targets n i ≡ get_or (region_c w l.targets n) i cnan = each-other penalty_all w l.rhs n l.targets n i i ok.rhs-targets m e₁ ∙ sym (get_or-region_c w l.targets n i m) in
      let em : get_or w₁ (l.mass + i) nan ≡ get_or (region nan w l.mass n) i nan = each-real penalty_all w l.rhs n l.mass n i i ok.rhs-mass m e₁ ∙ sym (get_or-region w l.mass n i nan m) in
      each_again penalty_all w l.rhs n ok.rhs-in i m e₁ e₂ (rw (et, em))

  pub penalty-done : {w₁ : List Float} {i : ℕ} → i ≤ n → n ≤ i → w₁ ≡ put_c w l.rhs (penalty_to i) → w₁ ≡ penalties_in l n flags w
  unfolding penalty_to penalty_all penalties_in penalties
  penalty-done k g e = each-done penalty_all w l.rhs n k g e ∙ rw length-region_c

-- ---- fix

module _ (w : List Float) (diagonal n : ℕ) (flags : List ℕ) where
  fix_at : ℕ → Float → Float
  fix_at i d = fixed_at flags i d

  unfoldable pub fix_to : ℕ → List Float
  unfolding fix_at
  fix_to i = real_to fix_at w diagonal n i

  pub fix_none : w ≡ put w diagonal (fix_to 0)
  unfolding fix_to
  fix_none = real-none fix_at w diagonal n

  pub fix-again : diagonal + n ≤ length w → (i : ℕ) → i < n → {w₁ w₂ : List Float} → w₁ ≡ put w diagonal (fix_to i) → w₂ ≡ fix_c diagonal flags i w₁ → w₂ ≡ put w diagonal (fix_to (i + 1))
  unfolding fix_to fix_at fix_c
  fix-again ok i l {w₁} {w₂} e₁ e₂ =
      let eo : get_or w₁ (diagonal + i) nan ≡ get_or w (diagonal + i) nan = real-own fix_at w diagonal n ok i l e₁ in
      real-again fix_at w diagonal n ok i l e₁ e₂ (rw (eo))

  pub fix-done : {w₁ : List Float} {i : ℕ} → i ≤ n → n ≤ i → w₁ ≡ put w diagonal (fix_to i) → w₁ ≡ fixed_in diagonal n flags w
  unfolding fix_to fix_at fixed_in fixed
  fix-done l g e = real-done fix_at w diagonal n l g e ∙ rw length-region

-- ---- penalise

module _ (w : List Float) (l : Penalty) (n : ℕ) (flags : List ℕ) where
  penalise_at : ℕ → Float → Float
  penalise_at i d = penalised_at flags l.weight i (get_or (region nan w l.mass n) i nan) d

  unfoldable pub penalise_to : ℕ → List Float
  unfolding penalise_at
  penalise_to i = real_to penalise_at w l.diagonal n i

  pub penalise-none : w ≡ put w l.diagonal (penalise_to 0)
  unfolding penalise_to
  penalise-none = real-none penalise_at w l.diagonal n

  pub penalise-again : PairRoom (length w) l.mass l.diagonal n → (i : ℕ) → i < n → {w₁ w₂ : List Float} → w₁ ≡ put w l.diagonal (penalise_to i) → w₂ ≡ penalise_c l flags i w₁ → w₂ ≡ put w l.diagonal (penalise_to (i + 1))
  unfolding penalise_to penalise_at penalise_c
  penalise-again ok i m {w₁} {w₂} e₁ e₂ =
      let em : get_or w₁ (l.mass + i) nan ≡ get_or (region nan w l.mass n) i nan = real-other penalise_at w l.diagonal n l.mass n i i ok.y-x m e₁ ∙ sym (get_or-region w l.mass n i nan m) in
      let eo : get_or w₁ (l.diagonal + i) nan ≡ get_or w (l.diagonal + i) nan = real-own penalise_at w l.diagonal n ok.y-in i m e₁ in
      real-again penalise_at w l.diagonal n ok.y-in i m e₁ e₂ (rw (em, eo))

  pub penalise-done : {w₁ : List Float} {i : ℕ} → i ≤ n → n ≤ i → w₁ ≡ put w l.diagonal (penalise_to i) → w₁ ≡ penalised_in l n flags w
  unfolding penalise_to penalise_at penalised_in penalised
  penalise-done k g e = real-done penalise_at w l.diagonal n k g e ∙ rw length-region
