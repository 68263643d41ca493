-- `probe::weight_of` meets its contract: each return opens the definition and rewrites it by the tests and the calls on its way.
use mathlib.Core.Path.{◌≡◌, sym, ap, ◌∙◌}
use mathlib.Core.Bool.{true, false}
use Rattle.float.specs.Double.{◌⊘◌}
use Rattle.probe.specs.Weights.{within, weight, weight_within}
use Rattle.probe.proofs.weight_of.Goals as goal

pub returns-then-is_within : goal.returns-then-is_within
unfolding weight weight_within
returns-then-is_within c =
    let w : c.cross2.result ⊘ c.args.denominator ≡ weight c.args.p c.args.a c.args.b c.args.denominator = simp (c.cross2.ensures, c.sub2-2.ensures, c.sub2.ensures) in
    let t : within (weight c.args.p c.args.a c.args.b c.args.denominator) ≡ true = ap within (sym w) ∙ sym c.is_within.ensures ∙ c.if-is_within.true in
    simp (w, t)

pub returns-else-is_within : goal.returns-else-is_within
unfolding weight weight_within
returns-else-is_within c =
    let w : c.cross2.result ⊘ c.args.denominator ≡ weight c.args.p c.args.a c.args.b c.args.denominator = simp (c.cross2.ensures, c.sub2-2.ensures, c.sub2.ensures) in
    let t : within (weight c.args.p c.args.a c.args.b c.args.denominator) ≡ false = ap within (sym w) ∙ sym c.is_within.ensures ∙ c.if-is_within.false in
    simp t
