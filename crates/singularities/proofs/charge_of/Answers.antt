-- `singularities::charge_of` meets its contract: each return opens the definition and rewrites it by the tests and the calls on its way.
use mir.Syntax.{w64}
use mir.Facts.{to_z-of_z}
use mathlib.Core.Path.{◌∙◌}
use borrow.Author.Tests.{le-ltb, lt-ltb}
use Rattle.singularities.specs.Count.{charge_of}
use Rattle.singularities.proofs.charge_of.Goals as goal
use Rattle.singularities.proofs.charge_of.Goals.{else-i-alpha-via-then-i-alpha+then-j-alpha+else-k-alpha, else-i-alpha-via-then-i-alpha+else-j-alpha, else-i-alpha-via-else-i-alpha}

pub returns-then-k-alpha : goal.returns-then-k-alpha
unfolding charge_of
returns-then-k-alpha c =
    to_z-of_z {w = w64} {z = c.triangle_charge.result} (record { sfits = c.triangle_charge.type_inv }) ∙ simp (
      lt-ltb _ _ c.if-i-alpha.true,
      lt-ltb _ _ c.if-j-alpha.true,
      lt-ltb _ _ c.if-k-alpha.true,
      c.triangle_charge.ensures.value,
    )

pub returns : goal.returns
unfolding charge_of
returns c =
    elim c.else-i-alpha.branch [
      | else-i-alpha-via-then-i-alpha+then-j-alpha+else-k-alpha w ↦
          simp (lt-ltb _ _ w.if-i-alpha.true, lt-ltb _ _ w.if-j-alpha.true, le-ltb _ _ w.if-k-alpha.false)
      | else-i-alpha-via-then-i-alpha+else-j-alpha w ↦ simp (lt-ltb _ _ w.if-i-alpha.true, le-ltb _ _ w.if-j-alpha.false)
      | else-i-alpha-via-else-i-alpha w ↦ simp (le-ltb _ _ w.if-i-alpha.false)
    ]
