-- `complex::wrap_to_pi` meets its contract: each return opens the definition and rewrites it by the tests and the calls on its way.
use Rattle.float.specs.Double.{PI, TAU, ◌⊕◌, ◌⊖◌}
use Rattle.complex.proofs.Range.{wrapped-from}
use Rattle.complex.specs.Angle.{wrap_to_pi, unwound}
use Rattle.complex.proofs.wrap_to_pi.Goals as goal

pub returns-then-wrapped : goal.returns-then-wrapped
unfolding wrap_to_pi unwound
returns-then-wrapped c = let all = wrapped-from c.args.angle (c.rem_euclid-wrapped.result ⊖ PI ⊕ TAU) (simp (← c.rem_euclid-wrapped.ensures, c.if-wrapped.true)) in record { value = all.0; range = all.1 }

pub returns : goal.returns
unfolding wrap_to_pi unwound
returns c = let all = wrapped-from c.args.angle (c.rem_euclid-wrapped.result ⊖ PI) (simp (← c.rem_euclid-wrapped.ensures, c.if-wrapped.false)) in record { value = all.0; range = all.1 }
