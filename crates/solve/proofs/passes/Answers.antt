-- `solve::passes` meets its contract: the laws of proofs/Made, of what its calls ensure.
use borrow.Author.Rules.{rules}
use Rattle.solve.proofs.Errors.{mapped-ok, mapped-err}
use Rattle.solve.proofs.Made.{first-room, first_below, passes-refused, passes-once, second-asked, passes-twice}
use Rattle.solve.proofs.passes.Goals as goal

pub first_pass-first-requires : goal.first_pass-first-requires
first_pass-first-requires c = record {
  first_room = first-room c.args.points.now c.args.triangles.now c.args.sizes.now c.args.guidance.now c.args.o
      c.args.a c.args.work.now c.args.words.now c.requires;
  below = first_below c.args.points.now
      c.args.triangles.now c.args.sizes.now c.args.guidance.now c.args.o c.args.a
      c.args.work.now c.args.words.now c.requires;
}

pub returns-in_err-map_err : goal.returns-in_err-map_err
returns-in_err-map_err c =
    let m = mapped-err _ _ _ _ c.map_err.ensures.cases c.in_err-map_err.was in
    passes-refused c.args.points.now c.args.triangles.now c.args.sizes.now c.args.guidance.now
    c.args.o c.args.a c.args.work.now c.args.words.now c.requires c.first_pass-first.ensures _
    m.was (search (rules, m.made))

pub second_pass-requires : goal.second_pass-requires
second_pass-requires c = let all = second-asked c.args.points.now c.args.triangles.now c.args.sizes.now c.args.guidance.now c.args.o
    c.args.a c.args.work.now c.args.words.now c.requires c.first_pass-first.ensures c.if-o.true
    (mapped-ok _ _ _ c.map_err.ensures.cases c.in_ok-map_err.was) in record { ready_for = all.0; first_stands = all.1 }

pub returns-then-o : goal.returns-then-o
returns-then-o c =
    passes-twice c.args.points.now c.args.triangles.now c.args.sizes.now c.args.guidance.now c.args.o
    c.args.a c.args.work.now c.args.words.now c.requires c.first_pass-first.ensures c.if-o.true
    (mapped-ok _ _ _ c.map_err.ensures.cases c.in_ok-map_err.was) c.second_pass.ensures

pub returns : goal.returns
returns c =
    passes-once c.args.points.now c.args.triangles.now c.args.sizes.now c.args.guidance.now c.args.o
    c.args.a c.args.work.now c.args.words.now c.requires c.first_pass-first.ensures c.if-o.false
    (mapped-ok _ _ _ c.map_err.ensures.cases c.in_ok-map_err.was)
