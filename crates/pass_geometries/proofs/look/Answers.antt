-- `pass_geometries::look` meets its contract: each return follows from the tests and the calls on its way; the laws are in proofs/Steps and proofs/Good.
use mathlib.Core.Path.{◌≡◌}
use borrow.Author.Rules.{rules}
use Rattle.std.specs.Prelude.{Err}
use Rattle.pass_geometries.proofs.Good.{error-place}
use Rattle.pass_geometries.proofs.Steps.{corners-fit, looked-none, looked-kept}
use Rattle.pass_geometries.proofs.look.Goals as goal

pub returns-in_err-g : goal.returns-in_err-g
returns-in_err-g c =
    let r : c.from_residual.result ≡ Err c.in_err-g.field-0.0 = search rules in
    rw r (record {
      looked = looked-none _ _ _ _ c.geometry_at.ensures _ c.in_err-g.was;
      place = error-place c.args.p c.args.t c.args.work.now c.args.words.now _ c.geometry_at.ensures c.in_err-g.was;
    })

pub keep-requires : goal.keep-requires
keep-requires c = record { geometries_room = c.requires.geometries_room; cornered = corners-fit c.args.p c.args.t c.args.work.now c.args.words.now c.geometry_at.ensures _ c.requires.geometries_room.0.narrow c.requires.geometries_room.1 c.requires.below c.in_ok-g.was }

pub returns : goal.returns
returns c = record {
  looked = looked-kept _ _ _ _ c.geometry_at.ensures _ c.in_ok-g.was c.keep.ensures.work_after c.keep.ensures.words_after;
  place = tt;
}
