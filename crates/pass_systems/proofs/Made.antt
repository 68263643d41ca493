-- What the functions leave, from what their calls ensure: which regions stay, and the system that then stands there. Assumes nothing.
use mathlib.Core.Path.{◌≡◌, refl, sym, ap, ◌∙◌}
use mathlib.Core.Bool.{true, false, not}
use mathlib.Core.List.{List}
use Prim.Native.Nat.{ℕ, ◌+◌, ◌*◌, ◌≤◌}
use native.Mathlib.Omega.{arith}
use borrow.Author.Tests.{not-true, not-false}
use lib.Ieee.{Float, nan}
use lib.ListN.{length, replicate, length-replicate}
use Rattle.float.specs.Double.{lit}
use Rattle.complex.specs.declared.Complex.{Complex}
use Rattle.complex.specs.Complex.{czero}
use Rattle.linear_cells.specs.Region.{region, put, Apart}
use Rattle.linear_cells.specs.Cell.{region_c, put_c}
use Rattle.linear_cells.proofs.Loops.{apart, length-tab}
use Rattle.linear_cells.proofs.Regions.{length-region, length-put, region-else}
use Rattle.linear_cells.proofs.Changes.{zeros}
use Rattle.linear_cells.proofs.Cells.{length-region_c, length-put_c, region_c-same, region_c-put_c, region_c-else, region_r-else, region_c-put-else}
use Rattle.linear_hermitian.specs.declared.Hermitian.{Hermitian}
use Rattle.linear_hermitian.specs.Hermitian.{applied}
use Rattle.linear_hermitian.specs.Work.{matrix}
use Rattle.linear_hermitian.proofs.Product.{length-applied}
use Rattle.linear_conjugate_gradient.specs.declared.Vectors.{Vectors}
use Rattle.linear_conjugate_gradient.specs.Work.{VectorRoom}
use Rattle.pass_constraints.specs.declared.Tangents.{Tangents}
use Rattle.pass_constraints.specs.declared.Penalty.{Penalty}
use Rattle.pass_constraints.specs.Constraints.{boundary_data, blanked, coupled, dirichlet_rows, dropped, fixed, penalised, penalties}
use Rattle.pass_constraints.specs.Work.{MatrixRoom, PenaltyRoom, blanked_in, coupled_in, dropped_in, rows_in, penalised_in, weak_in}
use Rattle.pass_constraints.proofs.Systems.{rows-matrix, weak-matrix, weak-rhs}
use Rattle.pass_soft.specs.declared.Terms.{Terms}
use Rattle.pass_soft.specs.Soft.{guided_targets, aligned_targets, term_of, softened}
use Rattle.pass_soft.specs.Work.{SoftRoom, system_in, guided_in, aligned_in, terms_in, Kept, Softens}
use Rattle.pass_soft.proofs.Systems.{below, kept_then, kept_put, kept-put_c, vector-kept, matrix-kept, matrix-put, matrix-put_c, aimed-then, softens-none, softens-then, length-guided, length-aligned}
use Rattle.pass_systems.specs.declared.SystemPlan.{SystemPlan}
use Rattle.pass_systems.specs.Systems.{plain, soft_system, penalty, weak_system, fixed_by, tangent_system}
use Rattle.pass_systems.specs.Work.{SystemRoom, TargetRoom, blanked_terms, MakesSoft, MakesWeak, Fixes, MakesTangent}
use Rattle.pass_systems.proofs.Inside.{blanked-more, blanked-one, inside-same}

length-blanked : (flags : List ℕ) (v : List Complex) → length (blanked flags v) ≡ length v
unfolding blanked
length-blanked flags v = length-tab _ (length v)

module _ (s : SystemPlan) where
  abbrev h : Hermitian
  h = s.energy

  abbrev mass : Hermitian
  mass = s.mass

  abbrev l : Vectors
  l = s.vectors

  abbrev targets : ℕ
  targets = s.targets

  abbrev t : Terms
  t = s.terms

  -- a slice as long has the same room
  pub same-system : {len len' : ℕ} → len' ≡ len → SystemRoom len s → SystemRoom len' s
  same-system e ok = rw e ok

  pub same-targets : {len len' : ℕ} → len' ≡ len → TargetRoom len s → TargetRoom len' s
  same-targets e ok = rw e ok

  -- where the boundary's rows and the penalty are written
  pub rows-room : {len len' : ℕ} → len' ≡ len → TargetRoom len s → MatrixRoom len' h
  rows-room e at =
      let v = at.room.vector-room.vectors-in in
      record {
        diagonal-in = omega (arith, v, at.room.diagonal-below);
        off-in = omega (arith, v, at.room.off-below);
        diagonal-off = apart h.off (2 * h.edges) h.diagonal h.size (omega (arith, at.off-behind));
      }

  abbrev asks : Float → Penalty
  asks weight = record { weight = weight; diagonal = h.diagonal; mass = mass.diagonal; targets = targets; rhs = l.residual }

  pub penalty-room : {len : ℕ} (weight : Float) → SoftRoom len h mass l → TargetRoom len s → PenaltyRoom len h.size (asks weight)
  penalty-room weight ok at =
      let b : mass.diagonal + mass.size ≤ l.x = ok.mass-room.diagonal-below in
      let z : mass.size ≡ h.size = ok.shift-room.one_size in
      let v = at.room.vector-room.vectors-in in
      record {
        diagonals = ok.shift-room.diagonals;
        rhs-in = omega (arith, v);
        targets-in = omega (arith, v, at.targets-below);
        rhs-targets = apart l.residual (2 * h.size) targets (2 * h.size) (omega (arith, v, at.targets-below));
        rhs-mass = apart l.residual (2 * h.size) mass.diagonal h.size (omega (arith, v));
        diagonal-targets = apart h.diagonal h.size targets (2 * h.size) (omega (arith, at.off-behind, at.targets-behind));
      }

  -- ---- soft terms alone

  module _ (w : List Float) (from to : List ℕ) (ok : SystemRoom (length w) s) where
    vectors : VectorRoom (length w) h.size l
    vectors = ok.soft-room.h-room.vector-room

    guidance-kept : {w₁ : List Float} → Kept w w₁ h l → region nan w₁ t.guidance h.size ≡ region nan w t.guidance h.size
    guidance-kept k =
        k.else t.guidance h.size (below vectors t.guidance h.size (apart h.diagonal h.size t.guidance h.size (omega (arith, ok.guidance-below)))
        (apart h.off (2 * h.edges) t.guidance h.size (omega (arith, ok.guidance-below-off))) (omega (arith, ok.guidance-below, ok.soft-room.h-room.diagonal-below)))

    module _ {w₁ : List Float} (e : w₁ ≡ put w l.residual (replicate (2 * h.size) (lit 0))) where
      plain-kept : Kept w w₁ h l
      plain-kept = kept_put h l w l.residual (replicate (2 * h.size) (lit 0)) (length-replicate (2 * h.size) (lit 0)) (λ c m o. o.residual) e

      plain-x : region_c w₁ l.x h.size ≡ region_c w l.x h.size
      plain-x =
          ap (λ v. region_c v l.x h.size) e
          ∙ region_c-put-else w l.residual (replicate (2 * h.size) (lit 0)) (length-replicate (2 * h.size) (lit 0)) l.x h.size
          (apart l.residual (2 * h.size) l.x (2 * h.size) (omega (arith, vectors.vectors-in)))

      plain-system : system_in w₁ h l from to ≡ plain (matrix w h from to) h.size
      unfolding plain
      plain-system =
          let d : h.diagonal + h.size ≤ l.residual = omega (arith, ok.soft-room.h-room.diagonal-below, vectors.vectors-in) in
          let o : h.off + 2 * h.edges ≤ l.residual = omega (arith, ok.soft-room.h-room.off-below, vectors.vectors-in) in
          let m = matrix-put w h l.residual (replicate (2 * h.size) (lit 0)) d o e from to in
          let r = ap (λ v. region_c v l.residual h.size) (zeros w l.residual h.size e)
          ∙ region_c-put_c w l.residual (replicate h.size czero) (length-replicate h.size czero) (omega (arith, vectors.vectors-in)) in
          λ i. record { matrix = m i; rhs = r i }

      pub soft-made : {w₂ : List Float} → Softens w₁ w₂ h mass l from to (terms_in w₁ h t) → MakesSoft w w₂ s from to
      unfolding soft_system
      soft-made a =
          record {
            system = a.system ∙ rw (matrix-kept plain-kept mass ok.soft-room from to, guidance-kept plain-kept, plain-system);
            x-is = a.x-stays ∙ plain-x;
            kept = kept_then h l plain-kept a.kept;
          }

    -- ---- weak

    module _ (weight : Float) (flags : List ℕ) (at : TargetRoom (length w) s) where
      abbrev asked : Penalty
      asked = asks weight

      asked-room : PenaltyRoom (length w) h.size asked
      asked-room = penalty-room weight ok.soft-room at

      module _ {w₁ : List Float} (e : w₁ ≡ weak_in asked h.size flags w) where
        penalised-kept : Kept w w₁ h l
        unfolding weak_in penalised_in penalised penalties
        penalised-kept = rw e (record {
          all = length-put_c _ l.residual _ ∙ length-put w h.diagonal _;
          else = λ c m o.
              region_r-else _ l.residual _ (length-tab _ _ ∙ length-region_c w targets h.size) c m o.residual
              ∙ region-else w h.diagonal _ (length-tab _ _ ∙ length-region nan w h.diagonal h.size) nan c m o.diagonal;
        })

        penalised-x : region_c w₁ l.x h.size ≡ region_c w l.x h.size
        unfolding weak_in penalised_in penalised penalties
        penalised-x =
            ap (λ v. region_c v l.x h.size) e
            ∙ region_c-else _ l.residual _ (length-tab _ _ ∙ length-region_c w targets h.size) l.x h.size
            (apart l.residual (2 * h.size) l.x (2 * h.size) (omega (arith, vectors.vectors-in)))
            ∙ region_c-put-else w h.diagonal _ (length-tab _ _ ∙ length-region nan w h.diagonal h.size) l.x h.size
            (apart h.diagonal h.size l.x (2 * h.size) (omega (arith, ok.soft-room.h-room.diagonal-below)))

        penalised-system : system_in w₁ h l from to ≡ penalty weight flags (region_c w targets h.size) (matrix w mass from to) (matrix w h from to)
        unfolding penalty
        penalised-system =
            let z : mass.size ≡ h.size = ok.soft-room.shift-room.one_size in
            let v = vectors.vectors-in in
            let b = ok.soft-room.h-room.diagonal-below in
            let m = ap (λ (u : List Float). matrix u h from to) e
            ∙ weak-matrix asked h.size flags w asked-room h mass from to refl refl refl z
            (apart l.residual (2 * h.size) h.diagonal h.size (omega (arith, v, b)))
            (apart l.residual (2 * h.size) h.off (2 * h.edges) (omega (arith, v, at.targets-behind, at.targets-below)))
            (apart h.diagonal h.size h.off (2 * h.edges) (omega (arith, at.off-behind))) in
            let r = ap (λ (u : List Float). region_c u l.residual h.size) e ∙ weak-rhs asked h.size flags w asked-room
            ∙ ap (λ (d : List Float). penalties flags weight d (region_c w targets h.size)) diagonal-is in
            λ i. record { matrix = m i; rhs = r i }
          where
            diagonal-is : region nan w mass.diagonal h.size ≡ (matrix w mass from to).diagonal
            diagonal-is = unfold matrix in ap (region nan w mass.diagonal) (sym ok.soft-room.shift-room.one_size)

        pub weak-made : {w₂ : List Float} → Softens w₁ w₂ h mass l from to (terms_in w₁ h t) → MakesWeak w w₂ s weight flags from to
        unfolding weak_system
        weak-made a = record {
          system = a.system ∙ rw (matrix-kept penalised-kept mass ok.soft-room from to, guidance-kept penalised-kept, penalised-system);
          x-is = a.x-stays ∙ penalised-x;
          kept = kept_then h l penalised-kept a.kept;
        }

  -- ---- tangent: a soft term with its target blanked

  module _ (w : List Float) (flags from to : List ℕ) where
    pub inside-added : SoftRoom (length w) h mass l → (weight : Float) {w₁ w₂ : List Float} → w₁ ≡ blanked_in l.direction h.size flags w
        → Softens w₁ w₂ h mass l from to (term_of weight (region_c w₁ l.direction h.size))
        → Softens w w₂ h mass l from to (term_of weight (blanked flags (region_c w l.direction h.size)))
    unfolding blanked_in
    inside-added ok weight e a =
        aimed-then w h mass l from to ok (blanked flags (region_c w l.direction h.size)) (length-blanked flags _ ∙ length-region_c w l.direction h.size) e (term_of weight) a

    pub guided-outside : not t.guided ≡ true → Softens w w h mass l from to (blanked_terms flags (guided_in w h t))
    guided-outside e = rw (not-true t.guided e) (softens-none w h mass l from to)

    module _ (ok : SystemRoom (length w) s) where
      pub guided-inside : not t.guided ≡ false → {w₁ w₂ : List Float} → w₁ ≡ put_c w l.direction (guided_targets (region nan w t.guidance h.size))
          → Softens w₁ w₂ h mass l from to (term_of t.weight (blanked flags (region_c w₁ l.direction h.size))) → Softens w w₂ h mass l from to (blanked_terms flags (guided_in w h t))
      guided-inside f e a =
          rw (not-false t.guided f, blanked-one flags t.weight (guided_targets (region nan w t.guidance h.size)))
          (aimed-then w h mass l from to ok.soft-room (guided_targets (region nan w t.guidance h.size)) (length-guided _ ∙ length-region nan w t.guidance h.size) e
          (λ v. term_of t.weight (blanked flags v)) a)

      pub aligned-inside : {w₁ w₂ : List Float} → w₁ ≡ put_c w l.direction (aligned_targets t.angle h.size)
          → Softens w₁ w₂ h mass l from to (term_of t.alignment (blanked flags (region_c w₁ l.direction h.size))) → Softens w w₂ h mass l from to (blanked_terms flags (aligned_in h t))
      aligned-inside e a =
          rw (blanked-one flags t.alignment (aligned_targets t.angle h.size))
          (aimed-then w h mass l from to ok.soft-room (aligned_targets t.angle h.size) (length-aligned t.angle h.size) e (λ v. term_of t.alignment (blanked flags v)) a)

      pub inside_both : {w₁ w₂ : List Float} → Softens w w₁ h mass l from to (blanked_terms flags (guided_in w h t)) → Softens w₁ w₂ h mass l from to (blanked_terms flags (aligned_in h t))
          → Softens w w₂ h mass l from to (blanked_terms flags (terms_in w h t))
      inside_both a b = rw (blanked-more flags (guided_in w h t) (aligned_in h t)) (softens-then w h mass l from to ok.soft-room a b)

  -- ---- tangent: the boundary fixed

  module _ (w : List Float) (flags from to : List ℕ) (at : TargetRoom (length w) s) where
    abbrev placed : Tangents
    placed = record { rhs = l.residual; coupling = l.x; targets = targets }

    coupled-length : (a b c : List Complex) → length (coupled flags a b c) ≡ length c
    unfolding coupled
    coupled-length a b c = length-tab _ (length c)

    module _ {w₁ w₂ : List Float} (e₁ : w₁ ≡ coupled_in placed h.size flags w) (e₂ : w₂ ≡ rows_in h flags from to w₁) where
      abbrev side : List Complex
      side = coupled flags (region_c w targets h.size) (region_c w l.x h.size) (region_c w l.residual h.size)

      side-put : w₁ ≡ put_c w l.residual side
      unfolding coupled_in
      side-put = e₁

      side-long : length side ≡ h.size
      side-long = coupled-length _ _ _ ∙ length-region_c w l.residual h.size

      side-is : region_c w₁ l.residual h.size ≡ side
      side-is =
          ap (λ v. region_c v l.residual h.size) side-put
          ∙ region_c-put_c w l.residual side side-long (omega (arith, at.room.vector-room.vectors-in))

      long : length w₁ ≡ length w
      long = ap length side-put ∙ length-put_c w l.residual side

      -- the rows leave what is not in the matrix
      rows-else : (c m : ℕ) → Apart h.diagonal h.size c m → Apart h.off (2 * h.edges) c m → region nan w₂ c m ≡ region nan w₁ c m
      unfolding rows_in dropped_in dropped fixed
      rows-else c m a o =
          ap (λ v. region nan v c m) e₂ ∙ region-else _ h.diagonal _ (length-tab _ _ ∙ length-region nan w₁ h.diagonal h.size) nan c m a
          ∙ region_r-else w₁ h.off _ (length-tab _ _ ∙ length-region_c w₁ h.off h.edges) c m o

      rows_long : length w₂ ≡ length w₁
      unfolding rows_in dropped_in
      rows_long = ap length e₂ ∙ length-put _ h.diagonal _ ∙ length-put_c w₁ h.off _

      pub fixed-all : Fixes w w₂ s flags from to
      unfolding fixed_by
      fixed-all =
          let v = at.room.vector-room.vectors-in in
          let d : h.diagonal + h.size ≤ l.residual = omega (arith, v, at.room.diagonal-below) in
          let o : h.off + 2 * h.edges ≤ l.residual = omega (arith, v, at.room.off-below) in
          let m = ap (λ u. matrix u h from to) e₂ ∙ rows-matrix h flags from to w₁ (rows-room long at) ∙ ap (dirichlet_rows flags) (matrix-put_c w h l.residual side d o side-put from to) in
          let r = region_c-same w₂ w₁ l.residual h.size
          (rows-else l.residual (2 * h.size) (apart h.diagonal h.size l.residual (2 * h.size) (omega arith)) (apart h.off (2 * h.edges) l.residual (2 * h.size) (omega arith))) ∙ side-is in
          record {
            system = λ i. record { matrix = m i; rhs = r i };
            x-is = region_c-same w₂ w₁ l.x h.size
                (rows-else l.x (2 * h.size) (apart h.diagonal h.size l.x (2 * h.size) (omega (arith, at.room.diagonal-below)))
                (apart h.off (2 * h.edges) l.x (2 * h.size) (omega (arith, at.room.off-below))))
                ∙ ap (λ u. region_c u l.x h.size) side-put
                ∙ region_c-else w l.residual side side-long l.x h.size (apart l.residual (2 * h.size) l.x (2 * h.size) (omega (arith, v)));
            kept = kept_then h l (kept-put_c h l w l.residual side side-long (λ c k o. o.residual) side-put) (record { all = rows_long; else = λ c k o. rows-else c k o.diagonal o.off });
          }

  -- ---- tangent: the whole

  module _ (w : List Float) (flags from to : List ℕ) (ok : SystemRoom (length w) s) (at : TargetRoom (length w) s) where
    abbrev aims : List Complex
    aims = region_c w targets h.size

    abbrev coupling : List Complex
    coupling = applied (matrix w h from to) aims

    coupling-long : length coupling ≡ h.size
    coupling-long = length-applied (matrix w h from to) aims ∙ length-region_c w targets h.size

    module _ {w₁ : List Float} (e₁ : w₁ ≡ put_c w l.x coupling) where
      room : SystemRoom (length w₁) s
      room = same-system (ap length e₁ ∙ length-put_c w l.x coupling) ok

      first-kept : Kept w w₁ h l
      first-kept = kept-put_c h l w l.x coupling coupling-long (λ c m o. o.x) e₁

      first-matrix : matrix w₁ h from to ≡ matrix w h from to
      first-matrix = matrix-put_c w h l.x coupling at.room.diagonal-below at.room.off-below e₁ from to

      module _ {w₂ : List Float} (e₂ : w₂ ≡ put w₁ l.residual (replicate (2 * h.size) (lit 0))) where
        second-kept : Kept w w₂ h l
        second-kept = kept_then h l first-kept (plain-kept w₁ from to room e₂)

        coupling-is : region_c w₂ l.x h.size ≡ coupling
        coupling-is =
            plain-x w₁ from to room e₂
            ∙ ap (λ u. region_c u l.x h.size) e₁ ∙ region_c-put_c w l.x coupling coupling-long (omega (arith, at.room.vector-room.vectors-in))

        pub tangent-made : boundary_data flags aims ≡ aims → {w₃ w₄ : List Float} → Softens w₂ w₃ h mass l from to (blanked_terms flags (terms_in w₂ h t)) → Fixes w₃ w₄ s flags from to
            → MakesTangent w w₄ s flags from to
        unfolding tangent_system
        tangent-made data_is {w₃} {w₄} a b =
            let third-kept : Kept w w₃ h l = kept_then h l second-kept a.kept in
            let m : matrix w₂ mass from to ≡ matrix w mass from to = matrix-kept second-kept mass ok.soft-room from to in
            let p : system_in w₂ h l from to ≡ plain (matrix w h from to) h.size =
            plain-system w₁ from to room e₂ ∙ ap (λ x. plain x h.size) first-matrix in
            let aims-is : region_c w₃ targets h.size ≡ aims =
            vector-kept third-kept targets h.size (below at.room.vector-room targets (2 * h.size)
            (apart h.diagonal h.size targets (2 * h.size) (omega (arith, at.off-behind, at.targets-behind)))
            (apart h.off (2 * h.edges) targets (2 * h.size) (omega (arith, at.targets-behind))) at.targets-below) in
            let q : system_in w₃ h l from to ≡ softened (matrix w mass from to) (blanked_terms flags (terms_in w h t)) (plain (matrix w h from to) h.size) =
            a.system ∙ rw (m, guidance-kept w from to ok second-kept, p) in
            record {
              system = b.system ∙ rw (aims-is, a.x-stays, coupling-is, q, data_is) (inside-same flags (matrix w mass from to) h.size (matrix w h from to) aims coupling (terms_in w h t));
              x-is = b.x-is ∙ a.x-stays ∙ coupling-is;
              kept = kept_then h l third-kept b.kept;
            }
