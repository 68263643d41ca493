-- `pass_setup::set_up` meets its contract: each return follows from the tests and the calls on its way; the laws are in proofs/Wind.
use native.Mathlib.Omega.{arith}
use borrow.Author.Rules.{rules}
use Rattle.pass_setup.proofs.Wind.{stays, unjoined, row-19, none, turned}
use Rattle.pass_setup.proofs.Slices.{set-up-then, ordered-now}
use Rattle.pass_setup.proofs.set_up.Goals as goal

pub geometries-requires : goal.geometries-requires
geometries-requires c = record { geometries_room = omega (arith, c.requires.ordered); below = c.requires.below }

pub returns-in_err-geometries : goal.returns-in_err-geometries
returns-in_err-geometries c =
    row-19 c.args.l c.args.work.now c.args.words.now c.requires.ordered c.requires.below c.in_err-geometries.ensures.kept c.in_err-geometries.ensures.place (search rules)

pub set_up_from_gradients-requires : goal.set_up_from_gradients-requires
set_up_from_gradients-requires c =
    let k = c.in_ok-geometries.ensures.kept in
    record {
      ordered = ordered-now (stays c.args.l c.args.work.now c.args.words.now c.requires.ordered c.requires.below k) c.requires.ordered;
      wound = turned c.args.l c.args.work.now c.args.words.now c.requires.ordered c.requires.below k (omega arith);
    }

pub returns : goal.returns
returns c =
    let kept = c.in_ok-geometries.ensures.kept in
    set-up-then (none c.args.l c.args.work.now c.args.words.now c.requires.ordered c.requires.below kept (omega arith))
    (stays c.args.l c.args.work.now c.args.words.now c.requires.ordered c.requires.below kept)
    (λ h. unjoined c.args.l c.args.work.now c.args.words.now c.requires.ordered c.requires.below kept) c.set_up_from_gradients.ensures
