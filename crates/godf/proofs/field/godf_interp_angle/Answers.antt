-- `godf::field::godf_interp_angle` meets its contract: each return opens the definition and rewrites it by the tests and the calls on its way.
use mathlib.Core.Path.{◌≡◌, refl, sym, ◌∙◌}
use native.Mathlib.Omega.{arith}
use Rattle.probe.specs.declared.ProbeError.{ProbeError}
use Rattle.probe.specs.declared.ProbeError.TheVariants.{NotTriples, NoAngle, TooLarge}
use Rattle.probe.specs.Probe.{error_number}
use Rattle.godf.proofs.field.godf_interp_angle.Goals as goal

-- no error has the number of an angle
no-angle : (e : ProbeError) → error_number e ≡ 0 → ⊥
no-angle NotTriples h = omega arith
no-angle NoAngle h = omega arith
no-angle TooLarge h = omega arith

pub returns-in-Ok : goal.returns-in-Ok
returns-in-Ok c =
    simp (← c.interp_angle.ensures.value, c.in-Ok.is)
    (record { number = refl; value = refl; range = λ h. rw c.in-Ok.is at c.interp_angle.ensures.range })

pub returns-in-Err : goal.returns-in-Err
returns-in-Err c =
    simp (← c.interp_angle.ensures.value, c.in-Err.is)
    (record { number = c.from.ensures; value = refl; range = λ h. absurd (no-angle c.in-Err.error (sym c.from.ensures ∙ h)) })
