-- `pass_layout::layout_at` meets its contract: no sum overflows, and the fields are those of the definition, one by one.
use native.Mathlib.Omega.{arith}
use mathlib.Core.Path.{refl}
use Rattle.pass_layout.specs.Layout.{layout_of}
use Rattle.pass_layout.proofs.Regions.{vectors-fit}
use Rattle.pass_layout.proofs.layout_at.Goals as goal

pub overflow_add-result-22 : goal.overflow_add-result-22
overflow_add-result-22 c = omega (arith, vectors-fit c.args.at c.requires c.stride_of-stride.ensures)

pub overflow_mul-result-19 : goal.overflow_mul-result-19
overflow_mul-result-19 c = omega (arith, vectors-fit c.args.at c.requires c.stride_of-stride.ensures)

pub overflow_add-result-23 : goal.overflow_add-result-23
overflow_add-result-23 c = omega (arith, vectors-fit c.args.at c.requires c.stride_of-stride.ensures)

pub overflow_mul-result-20 : goal.overflow_mul-result-20
overflow_mul-result-20 c = omega (arith, vectors-fit c.args.at c.requires c.stride_of-stride.ensures)

pub overflow_add-result-24 : goal.overflow_add-result-24
overflow_add-result-24 c = omega (arith, vectors-fit c.args.at c.requires c.stride_of-stride.ensures)

pub overflow_mul-result-21 : goal.overflow_mul-result-21
overflow_mul-result-21 c = omega (arith, vectors-fit c.args.at c.requires c.stride_of-stride.ensures)

pub overflow_add-result-25 : goal.overflow_add-result-25
overflow_add-result-25 c = omega (arith, vectors-fit c.args.at c.requires c.stride_of-stride.ensures)

pub returns : goal.returns
unfolding layout_of
returns c = rw c.stride_of-stride.ensures refl
