-- `solve::second_pass` meets its contract: the laws of proofs/Second, of what its calls ensure.
use mathlib.Core.Path.{◌∙◌}
use borrow.Author.Rules.{rules}
use Rattle.solve.proofs.Errors.{mapped-ok, mapped-err}
use Rattle.solve.proofs.Second.{cut-room, refine-room, second_none, long, corners-below, laid-room, second-refused, second-twice}
use Rattle.solve.proofs.second_pass.Goals as goal

pub cut_sides-cut-requires : goal.cut_sides-cut-requires
cut_sides-cut-requires c =
    cut-room c.args.points.now c.args.triangles.now c.args.sizes.now c.args.guidance.now c.args.o c.args.a c.args.work.now c.args.words.now c.requires.ready_for c.requires.first_stands

pub returns-then-cut-eq0 : goal.returns-then-cut-eq0
returns-then-cut-eq0 c =
    second_none c.args.points.now c.args.triangles.now c.args.sizes.now c.args.guidance.now c.args.o
    c.args.a c.args.work.now c.args.words.now c.requires.ready_for c.requires.first_stands
    c.cut_sides-cut.ensures c.if-cut-eq0.true

pub refine_triangles_within-k-requires : goal.refine_triangles_within-k-requires
refine_triangles_within-k-requires c = record {
  held_in = c.cut_sides-cut.ensures.held;
  count_in_bounds = refine-room c.args.points.now c.args.triangles.now c.args.sizes.now
      c.args.guidance.now c.args.o c.args.a c.args.work.now c.args.words.now c.requires.ready_for
      c.requires.first_stands c.cut_sides-cut.ensures;
}

pub pass_over-requires : goal.pass_over-requires
pass_over-requires c = record {
  laid_room = laid-room c.args.points.now c.args.triangles.now c.args.sizes.now c.args.guidance.now c.args.o
      c.args.a c.args.work.now c.args.words.now c.requires.ready_for c.requires.first_stands c.cut_sides-cut.ensures
      c.refine_triangles_within-k.ensures c.asked_again.ensures;
  below = corners-below c.args.points.now c.args.triangles.now
      c.args.sizes.now c.args.guidance.now c.args.o c.args.a c.args.work.now c.args.words.now
      c.requires.ready_for c.requires.first_stands c.cut_sides-cut.ensures c.refine_triangles_within-k.ensures;
}

pub shape_of-words-in_err-map_err : goal.shape_of-words-in_err-map_err
shape_of-words-in_err-map_err c =
    c.pass_over.ensures.all_words ∙ long c.args.points.now c.args.triangles.now c.args.sizes.now
    c.args.guidance.now c.args.o c.args.a c.args.work.now c.args.words.now c.requires.ready_for
    c.requires.first_stands c.cut_sides-cut.ensures c.refine_triangles_within-k.ensures

pub returns-in_err-map_err : goal.returns-in_err-map_err
returns-in_err-map_err c =
    let m = mapped-err _ _ _ _ c.map_err.ensures.cases c.in_err-map_err.was in
    second-refused c.args.points.now c.args.triangles.now c.args.sizes.now c.args.guidance.now
    c.args.o c.args.a c.args.work.now c.args.words.now c.requires.ready_for c.requires.first_stands
    c.cut_sides-cut.ensures c.refine_triangles_within-k.ensures c.if-cut-eq0.false c.without_threshold.ensures
    c.asked_again.ensures c.pass_over.ensures _ m.was (search (rules, m.made))

pub returns : goal.returns
returns c =
    second-twice c.args.points.now c.args.triangles.now c.args.sizes.now c.args.guidance.now c.args.o
    c.args.a c.args.work.now c.args.words.now c.requires.ready_for c.requires.first_stands c.cut_sides-cut.ensures
    c.refine_triangles_within-k.ensures c.if-cut-eq0.false c.without_threshold.ensures c.asked_again.ensures
    c.pass_over.ensures (mapped-ok _ _ _ c.map_err.ensures.cases c.in_ok-map_err.was)
