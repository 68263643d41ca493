-- `pass_transports::transports` meets its contract: the loop keeps what the invariant says; the laws are in proofs/Steps.
use mathlib.Core.Path.{◌≡◌, refl, ap, ◌∙◌}
use native.Mathlib.Omega.{arith}
use borrow.Author.Rules.{rules}
use Rattle.std.specs.Prelude.{Err}
use Rattle.pass_transports.proofs.Steps.{to_none, to-length, to-more, to-found, to-done, transported-length}
use Rattle.pass_transports.proofs.transports.Goals as goal

pub loop-e-init : goal.loop-e-init
loop-e-init c = to_none _ _ _ _

pub look-requires : goal.look-requires
look-requires c = record { transports_room = (rw (to-length c.loop-e.invariant) c.requires.transports_room, c.loop-e-test.true); ends = c.requires.ends }

pub loop-e-preserved : goal.loop-e-preserved
loop-e-preserved c =
    to-more _ _ _ _ _ _ c.requires.transports_room c.requires.ends c.loop-e-test.true c.loop-e.invariant c.in_ok-look.ensures.looked

pub shape_of-w-in_err-look : goal.shape_of-w-in_err-look
shape_of-w-in_err-look c =
    transported-length (to-found _ _ _ _ _ _ c.requires.transports_room c.requires.ends c.loop-e-test.true c.loop-e.invariant c.in_err-look.ensures.looked refl)

pub returns-in_err-look : goal.returns-in_err-look
returns-in_err-look c =
    let r : c.from_residual.result ≡ Err c.in_err-look.field-0.0 = search rules in
    to-found _ _ _ _ _ _ c.requires.transports_room c.requires.ends c.loop-e-test.true c.loop-e.invariant c.in_err-look.ensures.looked
    (r ∙ ap Err c.in_err-look.ensures.refused)

pub shape_of-w : goal.shape_of-w
shape_of-w c = to-length c.loop-e.invariant

pub returns : goal.returns
returns c = to-done (omega arith) c.loop-e.invariant refl
