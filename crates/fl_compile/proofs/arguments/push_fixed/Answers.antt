use Rattle.std.proofs.Common.{◌≡◌, arith, ap, ◌∙◌}
use Rattle.fl_interface.specs.Interface.{type_of}
use Rattle.fl_interface.specs.Sizes.{align_of}
use Rattle.fl_interface.proofs.Aligned.{type_align}
use Rattle.fl_compile.specs.Compiled.{start_at}
use Rattle.fl_compile.proofs.Near.{start_near}
use Rattle.fl_compile.proofs.Blocks.{fixed_written}
use Rattle.fl_compile.proofs.arguments.push_fixed.Goals as goal

pub overflow_add-result : goal.overflow_add-result
overflow_add-result c =
    let t = type_of c.args.ty.now in
    let start : c.in_ok-start.start ≡ start_at c.args.standing (align_of t) = c.in_ok-start.ensures.start ∙ ap (start_at c.args.standing) c.alignment-align.ensures.exact in
    let near = start_near 700000 c.args.standing (align_of t) (type_align t) c.requires.near in
    omega (arith, start, near, c.size-size.ensures.exact, c.requires.small)

pub returns-clause-ops : goal.returns-clause-ops
returns-clause-ops c args =
    fixed_written c.args.column c.args.standing (type_of c.args.ty.now) c.alignment-align.result c.in_ok-start.start c.size-size.result
    c.args.ops.now.items c.push_start.new.ops.items c.push_type.new.ops.items args
    c.alignment-align.ensures.exact c.in_ok-start.ensures.start c.size-size.ensures.exact c.in_ok-start.ensures.ops c.in_ok-push_type.ensures.ops

pub returns-clause-near : goal.returns-clause-near
returns-clause-near c n h =
    let t = type_of c.args.ty.now in
    let start : c.in_ok-start.start ≡ start_at c.args.standing (align_of t) = c.in_ok-start.ensures.start ∙ ap (start_at c.args.standing) c.alignment-align.ensures.exact in
    let near = start_near n c.args.standing (align_of t) (type_align t) h in
    omega (arith, start, near, c.size-size.ensures.exact, c.requires.small)
