-- `probe::interp_angle` meets its contract: each return opens the definition and rewrites it by the tests and the calls on its way; the laws are in proofs/Kept.
use mathlib.Core.Path.{◌≡◌, sym, subst, ◌∙◌}
use mathlib.Core.Bool.{true, false}
use borrow.Author.Tests.{eq-eqb, ne_eqb}
use Rattle.std.proofs.Common.{rules, tests}
use Rattle.std.proofs.lemmas.Iterator.{YieldsList-from_slice}
use Rattle.std.proofs.lemmas.Iterator.Search.{all_from_yields_List}
use Rattle.probe.specs.Probe.{every, finite, taken, probe_of, AngleRange}
use Rattle.probe.proofs.Kept.{every-is, probe-search, each-taken, too_large}
use Rattle.probe.proofs.Range.{probe-range}
use Rattle.probe.proofs.interp_angle.Goals as goal
use Rattle.probe.proofs.interp_angle.Goals.{then-points-ne0-via-then-points-ne0, then-points-ne0-via-else-points-ne0+then-tris-ne0}

pub returns-then-points-ne0-clause-value : goal.returns-then-points-ne0-clause-value
unfolding probe_of
returns-then-points-ne0-clause-value c =
    elim c.then-points-ne0.branch [
      | then-points-ne0-via-then-points-ne0 w ↦ simp (ne_eqb _ _ w.if-points-ne0.true)
      | then-points-ne0-via-else-points-ne0+then-tris-ne0 w ↦ simp (eq-eqb _ _ w.if-points-ne0.false, ne_eqb _ _ w.if-tris-ne0.true)
    ]

pub returns-then-alpha-points-clause-value : goal.returns-then-alpha-points-clause-value
unfolding probe_of
returns-then-alpha-points-clause-value c = simp (eq-eqb _ _ c.if-points-ne0.false, eq-eqb _ _ c.if-tris-ne0.false, ne_eqb _ _ c.if-alpha-points.true)

pub returns-then-all : goal.returns-then-all
returns-then-all c =
    let looked = all_from_yields_List taken _ _ c.all.result c.all.ensures.ran (YieldsList-from_slice c.args.alpha.now cc) (λ x b q k. search (rules, tests)) in
    let both = each-taken c.args.alpha.now (sym (looked ∙ every-is taken c.args.alpha.now) ∙ c.if-all.true) in
    let e = c.search.ensures ∙ probe-search _ _ _ _ c.if-points-ne0.false c.if-tris-ne0.false c.if-alpha-points.false both.0 both.1 in
    record { value = e; range = subst AngleRange (sym e) (probe-range c.args.alpha.now c.args.points.now c.args.tris.now _) }

pub returns-then-all-2-clause-value : goal.returns-then-all-2-clause-value
unfolding probe_of
returns-then-all-2-clause-value c =
    let looked = all_from_yields_List taken _ _ c.all.result c.all.ensures.ran (YieldsList-from_slice c.args.alpha.now cc) (λ x b q k. search (rules, tests)) in
    let looked-2 = all_from_yields_List finite _ _ c.all-2.result c.all-2.ensures.ran (YieldsList-from_slice c.args.alpha.now cc) (λ x b q k. search (rules, tests)) in
    let all : every finite c.args.alpha.now ≡ true = sym (looked-2 ∙ every-is finite c.args.alpha.now) ∙ c.if-all-2.true in
    simp (
      eq-eqb _ _ c.if-points-ne0.false,
      eq-eqb _ _ c.if-tris-ne0.false,
      eq-eqb _ _ c.if-alpha-points.false,
      all,
      too_large c.args.alpha.now (sym (looked ∙ every-is taken c.args.alpha.now) ∙ c.if-all.false) all,
    )

pub returns-clause-value : goal.returns-clause-value
unfolding probe_of
returns-clause-value c =
    let looked = all_from_yields_List finite _ _ c.all-2.result c.all-2.ensures.ran (YieldsList-from_slice c.args.alpha.now cc) (λ x b q k. search (rules, tests)) in
    let some : every finite c.args.alpha.now ≡ false = sym (looked ∙ every-is finite c.args.alpha.now) ∙ c.if-all-2.false in
    simp (eq-eqb _ _ c.if-points-ne0.false, eq-eqb _ _ c.if-tris-ne0.false, eq-eqb _ _ c.if-alpha-points.false, some)
