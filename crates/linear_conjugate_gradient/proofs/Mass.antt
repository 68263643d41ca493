-- `normalize_in_mass`. Assumes nothing.
use mathlib.Core.Path.{◌≡◌, sym, ap, ◌∙◌}
use mathlib.Core.Bool.{Bool, true, false}
use mathlib.Core.List.{List}
use Prim.Native.Nat.{ℕ}
use lib.Ieee.{Float}
use lib.ListN.{length}
use Rattle.float.specs.Double.{recip_of, not_positive}
use Rattle.root.specs.Root.{root_of}
use Rattle.complex.specs.declared.Complex.{Complex}
use Rattle.linear_cells.specs.Cell.{region_c, put_c}
use Rattle.linear_cells.proofs.Cells.{put_c-region_c, length-region_c, region_c-else, region_c-put_c}
use Rattle.linear_hermitian.specs.declared.Hermitian.{Hermitian}
use Rattle.linear_hermitian.specs.Hermitian.{Matrix, dot_of, applied}
use Rattle.linear_hermitian.specs.Work.{ApplyRoom}
use Rattle.linear_hermitian.proofs.Product.{length-applied}
use Rattle.linear_vectors.specs.Vectors.{scaled_by}
use Rattle.std.specs.Prelude.{Ok, Err}
use Rattle.linear_conjugate_gradient.specs.declared.Reason.TheVariants.{MassOfIterate}
use Rattle.linear_conjugate_gradient.specs.Method.{mass_squared}
use Rattle.linear_conjugate_gradient.specs.Solve.{normalized_answer, normalized_vector}
use Rattle.linear_conjugate_gradient.specs.Work.{InMass}

module _ (w : List Float) (x y : ℕ) (h : Hermitian) (m : Matrix) (ok : ApplyRoom (length w) h x y) {w₁ : List Float}
    (e₁ : w₁ ≡ put_c w y (applied m (region_c w x h.size))) {d : Float} (ed : d ≡ (dot_of (region_c w₁ x h.size) (region_c w₁ y h.size)).re) {b : Bool} (eb : b ≡ not_positive d) where
  abbrev n : ℕ
  n = h.size

  abbrev v : List Complex
  v = applied m (region_c w x n)

  length-v : length v ≡ n
  length-v = length-applied m (region_c w x n) ∙ length-region_c w x n

  x-stays : region_c w₁ x n ≡ region_c w x n
  x-stays = ap (λ t. region_c t x n) e₁ ∙ region_c-else w y v length-v x n ok.edges_room.y-x

  squared-is : d ≡ mass_squared m (region_c w x n)
  unfolding mass_squared
  squared-is = ed ∙ rw (x-stays, e₁, region_c-put_c w y v length-v ok.edges_room.y-in)

  mass-not-positive : not_positive (mass_squared m (region_c w x n)) ≡ b
  mass-not-positive = ap (λ t. not_positive t) (sym squared-is) ∙ sym eb

  pub normalize-not : b ≡ true → InMass w w₁ x y h.size m (Err MassOfIterate)
  unfolding normalized_answer normalized_vector
  normalize-not t =
      let q : not_positive (mass_squared m (region_c w x n)) ≡ true = mass-not-positive ∙ t in
      record {
        work = rw q (sym (ap (λ u. put_c (put_c w y v) x u) (sym x-stays ∙ ap (λ t. region_c t x n) e₁) ∙ put_c-region_c (put_c w y v) x n ∙ sym e₁));
        result = rw q;
      }

  pub normalize-done : b ≡ false → {r k : Float} {w₂ : List Float} → r ≡ root_of d → k ≡ recip_of r → w₂ ≡ put_c w₁ x (scaled_by k (region_c w₁ x n))
      → InMass w w₂ x y h.size m (Ok tt)
  unfolding normalized_answer normalized_vector
  normalize-done t {r} {k} er ek e₂ =
      let q : not_positive (mass_squared m (region_c w x n)) ≡ false = mass-not-positive ∙ t in
      let kk : k ≡ recip_of (root_of (mass_squared m (region_c w x n))) = ek ∙ ap (λ u. recip_of u) (er ∙ ap root_of squared-is) in
      record { work = e₂ ∙ rw (x-stays, e₁, kk, q); result = rw q }
