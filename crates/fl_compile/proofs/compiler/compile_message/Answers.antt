use Rattle.std.proofs.Common.{◌≡◌, List, map, ap, ◌∙◌, Bor}
use Rattle.fl_interface.specs.declared.interface.ArgType.{ArgType}
use Rattle.fl_interface.specs.Interface.{TheArgType, arg_type_of, message_of}
use Rattle.fl_value_data.specs.Plan.{arranged}
use Rattle.fl_compile.specs.Compiled.{in_order, message_block, message_code}
use Rattle.fl_compile.proofs.Compiling.{order_within, order_few, code_is, is_code, verified_is}
use Rattle.fl_compile.proofs.compiler.compile_message.Goals as goal

abbrev kind_of : Bor ArgType → TheArgType
kind_of a = arg_type_of a.now

pub arguments_code-requires-clause-within : goal.arguments_code-requires-clause-within
arguments_code-requires-clause-within c =
    let m = message_of c.args.message.now in
    let arranged_args : map kind_of c.in_ok-arguments.arguments.items ≡ in_order c.args.plan m
    = c.in_ok-arguments.ensures.arranged ∙ ap (λ (args : List ArgType). arranged (λ (t : TheArgType). t) c.args.plan (map arg_type_of args)) c.deref.ensures.value in
    order_within kind_of c.args.plan m c.deref-2.result.now c.in_ok-arguments.arguments.items c.deref-2.ensures.value arranged_args c.requires.within

pub arguments_code-requires-clause-few : goal.arguments_code-requires-clause-few
arguments_code-requires-clause-few c =
    let m = message_of c.args.message.now in
    let arranged_args : map kind_of c.in_ok-arguments.arguments.items ≡ in_order c.args.plan m
    = c.in_ok-arguments.ensures.arranged ∙ ap (λ (args : List ArgType). arranged (λ (t : TheArgType). t) c.args.plan (map arg_type_of args)) c.deref.ensures.value in
    order_few kind_of c.args.plan m c.deref-2.result.now c.in_ok-arguments.arguments.items c.deref-2.ensures.value arranged_args c.requires.within

pub unreachable-requires : goal.unreachable-requires
unreachable-requires c =
    let m = message_of c.args.message.now in
    let arranged_args : map kind_of c.in_ok-arguments.arguments.items ≡ in_order c.args.plan m
    = c.in_ok-arguments.ensures.arranged ∙ ap (λ (args : List ArgType). arranged (λ (t : TheArgType). t) c.args.plan (map arg_type_of args)) c.deref.ensures.value in
    let ops : c.in_ok-ops.ops.items ≡ message_code c.args.column c.args.plan m
    = code_is kind_of c.args.column c.args.plan m c.deref-2.result.now c.in_ok-arguments.arguments.items c.in_ok-ops.ops.items c.deref-2.ensures.value arranged_args c.in_ok-ops.ensures.code in
    c.in-None.ensures.none c.args.column (message_block c.args.column c.args.plan m) (is_code c.args.column c.args.plan m c.in_ok-ops.ops.items ops c.requires.within c.requires.words)

pub returns : goal.returns
returns c =
    let m = message_of c.args.message.now in
    let arranged_args : map kind_of c.in_ok-arguments.arguments.items ≡ in_order c.args.plan m
    = c.in_ok-arguments.ensures.arranged ∙ ap (λ (args : List ArgType). arranged (λ (t : TheArgType). t) c.args.plan (map arg_type_of args)) c.deref.ensures.value in
    let ops : c.in_ok-ops.ops.items ≡ message_code c.args.column c.args.plan m
    = code_is kind_of c.args.column c.args.plan m c.deref-2.result.now c.in_ok-arguments.arguments.items c.in_ok-ops.ops.items c.deref-2.ensures.value arranged_args c.in_ok-ops.ensures.code in
    let is = is_code c.args.column c.args.plan m c.in_ok-ops.ops.items ops c.requires.within c.requires.words in
    record { code = verified_is c.args.column c.args.plan m c.in_ok-ops.ops.items c.in-Some.code c.law_one_structure.ensures.structure is ops c.in-Some.ensures.same c.in-Some.ensures.structure }
