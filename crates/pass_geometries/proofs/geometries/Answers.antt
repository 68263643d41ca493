-- `pass_geometries::geometries` meets its contract: the loop keeps what the invariant says; the laws are in proofs/Steps.
use mathlib.Core.Path.{◌≡◌}
use native.Mathlib.Omega.{arith}
use borrow.Author.Rules.{rules}
use Rattle.std.specs.Prelude.{Err}
use Rattle.pass_geometries.proofs.Steps.{to_none, to-more, to-found, kept-done, kept-lengths, to-lengths, room-now, below-now}
use Rattle.pass_geometries.proofs.geometries.Goals as goal

pub loop-i-init : goal.loop-i-init
loop-i-init c = to_none _ _ _

pub look-requires : goal.look-requires
look-requires c = record { geometries_room = (room-now c.requires.geometries_room c.requires.below c.loop-i-test.true c.loop-i.invariant, c.loop-i-test.true); below = below-now c.requires.geometries_room c.requires.below c.loop-i-test.true c.loop-i.invariant }

pub loop-i-preserved : goal.loop-i-preserved
loop-i-preserved c = to-more c.requires.geometries_room c.requires.below c.loop-i-test.true c.loop-i.invariant c.in_ok-look.ensures.looked

pub shape_of-work-in_err-look : goal.shape_of-work-in_err-look
shape_of-work-in_err-look c =
    (kept-lengths (to-found c.requires.geometries_room c.requires.below c.loop-i-test.true c.loop-i.invariant c.in_err-look.ensures.looked)).0

pub shape_of-words-in_err-look : goal.shape_of-words-in_err-look
shape_of-words-in_err-look c =
    (kept-lengths (to-found c.requires.geometries_room c.requires.below c.loop-i-test.true c.loop-i.invariant c.in_err-look.ensures.looked)).1

pub returns-in_err-look : goal.returns-in_err-look
returns-in_err-look c =
    let r : c.from_residual.result ≡ Err c.in_err-look.field-0.0 = search rules in
    let at : c.in_err-look.field-0.0.triangle ≡ c.loop-i.i = c.in_err-look.ensures.place in
    rw r (record {
      kept = rw at (to-found c.requires.geometries_room c.requires.below c.loop-i-test.true c.loop-i.invariant c.in_err-look.ensures.looked);
      place = rw at c.loop-i-test.true;
    })

pub shape_of-work : goal.shape_of-work
shape_of-work c = (to-lengths c.loop-i.invariant).0

pub shape_of-words : goal.shape_of-words
shape_of-words c = (to-lengths c.loop-i.invariant).1

pub returns : goal.returns
returns c =
    let e : c.loop-i.i ≡ c.args.p.triangles = omega arith in record { kept = rw e at (kept-done e c.loop-i.invariant); place = tt }
