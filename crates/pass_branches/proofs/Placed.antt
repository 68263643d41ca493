-- The branches at a layout: what they require there follows from the order of its regions, and the parts of the u32 work are its flags and the ends of
-- its edges. Assumes nothing.
use mathlib.Core.Path.{◌≡◌, refl, ap, ◌∙◌}
use mathlib.Core.List.{List}
use Prim.Native.Nat.{ℕ, ◌+◌, ◌-◌, ◌*◌, ◌≤◌}
use native.Mathlib.Omega.{arith}
use lib.Ieee.{Float}
use lib.ListN.{length, take, drop}
use Rattle.linear_cells.specs.Region.{region}
use Rattle.linear_cells.proofs.Loops.{apart}
use Rattle.linear_cells.proofs.Regions.{length-region}
use Rattle.linear_cells.proofs.Changes.{part-region}
use Rattle.linear_hermitian.specs.declared.Hermitian.{Hermitian}
use Rattle.linear_packing.specs.declared.Packing.{Packing}
use Rattle.linear_packing.specs.declared.Source.{Source}
use Rattle.linear_conjugate_gradient.specs.declared.Vectors.{Vectors}
use Rattle.pass_constraints.specs.Constraints.{boundary_data}
use Rattle.pass_inverse_iteration.specs.Work.{Graphs}
use Rattle.pass_soft.specs.declared.Terms.{Terms}
use Rattle.pass_systems.specs.Work.{TargetRoom, targets_at}
use Rattle.pass_options.specs.declared.Options.{Options}
use Rattle.pass_options.specs.declared.BoundaryMode.TheVariants.{Tangent}
use Rattle.pass_layout.specs.declared.Layout.{Layout}
use Rattle.pass_layout.specs.Layout.{Ordered}
use Rattle.pass_layout.specs.Matrices.{mass_at, energy_at, vectors_at, packing_at, source_at}
use Rattle.pass_layout.specs.Work.{from_list, to_list}
use Rattle.pass_branches.specs.declared.Search.{Search}
use Rattle.pass_branches.specs.declared.solver.BranchPlan.{BranchPlan}
use Rattle.pass_branches.specs.Work.{pencil_at, BranchRoom, CopyRoom, CopyBehind, Copies, Packs, terms_at, outer_at, plan_at, flags_at, Bounds, LeavesBy, LeavesAt}
use Rattle.refusals.specs.Refusal.{Verdict}

-- a part of the u32 work, as the code takes it
abbrev part : List ℕ → ℕ → ℕ → List ℕ
part u a n = take (a + n - a) (drop a u)

part-is : (u : List ℕ) (a n : ℕ) → a + n ≤ length u → part u a n ≡ region 0 u a n
part-is u a n h = let z : a + n - a ≡ n = omega arith in ap (λ (k : ℕ). take k (drop a u)) z ∙ part-region 0 u a n h

module _ (l : Layout) (m : ℕ) (o : Options) (s : Search) {reals words : ℕ} (ok : Ordered l reals words) (few : m ≤ 3 * l.triangles) where
  branch-room : BranchRoom reals (plan_at l m o s)
  branch-room = omega (arith, apart)

  target_room : TargetRoom reals (plan_at l m o s).system
  target_room = omega (arith, apart)

  copy-room : CopyRoom (plan_at l m o s)
  copy-room = omega arith

  copy-behind : CopyBehind (plan_at l m o s)
  copy-behind = omega arith

module _ (l : Layout) (m : ℕ) (o : Options) (s : Search) (w : List Float) (u : List ℕ) (ok : Ordered l (length w) (length u)) (e : Packs l m u) where
  flag_is : part u l.flags l.points ≡ flags_at l u
  flag_is = part-is u l.flags l.points (omega (arith, ok.flags-in, ok.marks-in))

  from_is : part u l.from m ≡ from_list l m u
  from_is = part-is u l.from m (omega (arith, ok.from_in, ok.to_in, ok.counts-in, ok.flags-in, ok.marks-in, e.few))

  to_is : part u l.to m ≡ to_list l m u
  to_is = part-is u l.to m (omega (arith, ok.to_in, ok.counts-in, ok.flags-in, ok.marks-in, e.few))

  graphs : Graphs (pencil_at (plan_at l m o s)) (from_list l m u) (to_list l m u)
  graphs =
      let g = e.graph in
      record { mass-graph = g; energy-graph = record { all-a = g.all-a; all-b = g.all-b; a-below = g.a-below; b-below = g.b-below; different = g.different } }

  copies : Copies u (from_list l m u) (to_list l m u) (plan_at l m o s)
  copies = record { ready = e.ready; lower = refl; upper = refl }

  -- what the code has for the parts of the plan is the layout's
  module _ {h mass : Hermitian} (eh : h ≡ energy_at l m) (em : mass ≡ mass_at l m) {t : Terms} (et : t ≡ terms_at l o s) {v : Vectors} (ev : v ≡ vectors_at l) {c : Packing} (ec : c ≡ packing_at l m) {g : Source} (eg : g ≡ source_at l m) where
    abbrev made : BranchPlan
    made = record {
      system = record { energy = h; mass = mass; vectors = v; targets = l.targets; terms = t };
      copy = c;
      source = g;
      angles = l.angles;
      outer = outer_at l s;
    }

    pub by-requires : (o.boundary ≡ Tangent → Bounds l w u)
        → (BranchRoom (length w) made × TargetRoom (length w) made.system)
        × ((Graphs (pencil_at made) (part u l.from m) (part u l.to m) × (length (part u l.flags l.points) ≡ made.system.energy.size))
        × ((o.boundary ≡ Tangent → boundary_data (part u l.flags l.points) (targets_at w made.system) ≡ targets_at w made.system)
        × ((CopyRoom made × CopyBehind made) × Copies u (part u l.from m) (part u l.to m) made)))
    by-requires b =
        rw (eh, em, et, ev, ec, eg, from_is, to_is, flag_is)
        ((branch-room l m o s ok e.few, target_room l m o s ok e.few), ((graphs, length-region 0 u l.flags l.points), (b, ((copy-room l m o s ok e.few, copy-behind l m o s ok e.few), copies))))

    pub at-leaves : {w₁ : List Float} {r : Verdict}
        → LeavesBy o.boundary w w₁ made (part u l.flags l.points) (part u l.from m) (part u l.to m) r → LeavesAt l m o s w w₁ u r
    at-leaves a = rw (eh, em, et, ev, ec, eg, from_is, to_is, flag_is) at a
