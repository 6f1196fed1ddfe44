use Rattle.std.proofs.Common.{List, map, ap, ◌∙◌}
use Rattle.fl_interface.specs.declared.interface.ArgType.{ArgType}
use Rattle.fl_interface.specs.Interface.{arg_type_of, message_of, interface_of}
use Rattle.fl_value_data.proofs.Untaped.{message_at}
use Rattle.fl_c_operations.specs.After.{after_ranks, is_all}
use Rattle.fl_c_operations.proofs.Taped.{has_call, has_no_call}
use Rattle.fl_c_operations.proofs.tapes.is_tape.Goals as goal

pub returns-clause-some : goal.returns-clause-some
returns-clause-some c =
    let here = message_at c.args.interface.now.messages.items c.deref.result.now c.args.msg.0 c.from.result c.in-Some.message.now c.from.ensures c.deref.ensures.value c.in-Some.ensures.lookup.0 c.in-Some.ensures.lookup.1 in
    let holds = c.holds_arguments.ensures.exact ∙ ap (λ (ts : List ArgType). is_all (after_ranks c.args.plan 5 0 (map arg_type_of ts) c.args.tape.now)) c.deref-2.ensures.value in
    has_call c.args.plan (interface_of c.args.interface.now) (message_of c.in-Some.message.now) c.args.msg.0 c.args.tape.now c.holds_arguments.result here holds

pub returns-clause-none : goal.returns-clause-none
returns-clause-none c =
    let here = message_at c.args.interface.now.messages.items c.deref.result.now c.args.msg.0 c.from.result c.in-Some.message.now c.from.ensures c.deref.ensures.value c.in-Some.ensures.lookup.0 c.in-Some.ensures.lookup.1 in
    let holds = c.holds_arguments.ensures.exact ∙ ap (λ (ts : List ArgType). is_all (after_ranks c.args.plan 5 0 (map arg_type_of ts) c.args.tape.now)) c.deref-2.ensures.value in
    has_no_call c.args.plan (interface_of c.args.interface.now) (message_of c.in-Some.message.now) c.args.msg.0 c.args.tape.now c.holds_arguments.result here holds
