-- `singularities::triangle_charge` meets its contract: each return opens the definition and rewrites it by the tests and the calls on its way.
use mir.Facts.{to_z-of_z}
use mir.Syntax.{w64}
use mathlib.Core.Path.{◌∙◌}
use Rattle.singularities.proofs.Small.{charged}
use Rattle.singularities.specs.Charge.{charge, turns}
use Rattle.singularities.proofs.triangle_charge.Goals as goal
use Rattle.singularities.proofs.triangle_charge.Goals.{else-is_finite-via-then-is_finite+then-is_finite-2+else-is_finite-3, else-is_finite-via-then-is_finite+else-is_finite-2, else-is_finite-via-else-is_finite}

pub returns-then-is_finite-3 : goal.returns-then-is_finite-3
unfolding charge turns
returns-then-is_finite-3 c = let all = charged c.args.a c.args.b c.args.c _
    (to_z-of_z {w = w64} {z = c.whole_signed.result} (record { sfits = c.whole_signed.type_inv }) ∙ simp (
      ← c.is_finite.ensures,
      ← c.is_finite-then-is_finite.ensures,
      ←
          c.is_finite-then-is_finite-2.ensures,
      c.if-is_finite.true,
      c.if-is_finite-2.true,
      c.if-is_finite-3.true,
      ← c.winding_of.ensures,
      ← c.round.ensures,
      c.whole_signed.ensures,
    )) in record { value = all.0; small = all.1 }

pub returns-clause-value : goal.returns-clause-value
unfolding charge
returns-clause-value c =
    elim c.else-is_finite.branch [
      | else-is_finite-via-then-is_finite+then-is_finite-2+else-is_finite-3 w ↦
          simp (
            ← c.is_finite.ensures,
            ← w.is_finite-then-is_finite.ensures,
            ← w.is_finite-then-is_finite-2.ensures,
            w.if-is_finite.true,
            w.if-is_finite-2.true,
            w.if-is_finite-3.false,
          )
      | else-is_finite-via-then-is_finite+else-is_finite-2 w ↦
          simp (← c.is_finite.ensures, ← w.is_finite-then-is_finite.ensures, w.if-is_finite.true, w.if-is_finite-2.false)
      | else-is_finite-via-else-is_finite w ↦ simp (← c.is_finite.ensures, w.if-is_finite.false)
    ]
