use Rattle.std.proofs.Common.{◌+◌, ◌*◌, ◌++◌, List, map, drop, ap, sym, ◌∙◌}
use Rattle.fl_interface.specs.Interface.{TheArgType, arg_type_of}
use Rattle.fl_stub.specs.Structure.{block_ops}
use Rattle.fl_compile.specs.Compiled.{arguments_block}
use Rattle.fl_compile.proofs.Near.{argument_next, rest_within, one_further}
use Rattle.fl_compile.proofs.arguments.arguments_code.Goals as goal

pub loop-argument-preserved : goal.loop-argument-preserved
loop-argument-preserved c =
    let k = c.loop-argument.argument-index in
    let rest = map (λ a. arg_type_of a.now) (drop (k + 1) c.args.arguments.now) in
    let next = argument_next (λ a. arg_type_of a.now) c.args.arguments.now k c.argument-item.result c.loop-argument-test.true c.argument-item.is in
    let inv = c.loop-argument.invariant in
    record {
      written = c.in_ok-standing.ensures.ops rest
          ∙ ap (λ (ts : List TheArgType). c.loop-argument.ops.items ++ block_ops c.args.column (arguments_block c.args.column c.loop-argument.standing ts)) (sym next)
          ∙ inv.written;
      within = rest_within _ rest _ next inv.within;
      near = one_further k c.in_ok-standing.standing (c.in_ok-standing.ensures.near (4104 * k) inv.near);
    }
