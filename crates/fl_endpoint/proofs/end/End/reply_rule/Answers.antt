use Rattle.std.proofs.Common.{◌≡◌, Some, sym, ap, subst, ◌∙◌}
use Rattle.std.specs.Prelude.{map, slice_set}
use Rattle.fl_interface.specs.Interface.{TheInterface, interface_of, message_of, arg_type_of}
use Rattle.fl_endpoint.specs.View.{TheEnd, interface_in}
use Rattle.fl_endpoint.specs.Accounts.{IsRule}
use Rattle.fl_endpoint.specs.Inside.{end_of, program_in}
use Rattle.fl_endpoint.proofs.Sounds.{sound_rule}
use Rattle.fl_endpoint.proofs.Insides.{ruled_view, ruled_is_end, rule_found}
use Rattle.fl_endpoint.proofs.end.End.reply_rule.Goals as goal

pub invariant_of-self : goal.invariant_of-self
invariant_of-self c =
    let e = c.self.inside in
    let i = interface_of c.interface-interface.result.now in
    let same : i ≡ (program_in e).interface = c.interface-interface.ensures.interface in
    let types : map arg_type_of c.in-Some.from.now.args.items ≡ map arg_type_of c.in-Some-message.to.now.args.items
    = ap (map arg_type_of) (sym c.deref.ensures.value) ∙ c.same_args.ensures.exact.0 c.if-not-same_args.false ∙ ap (map arg_type_of) c.deref-2.ensures.value in
    let rule : IsRule i c.args.msg.0 c.args.reply.0
    = rule_found i c.args.msg.0 c.args.reply.0 (message_of c.in-Some.from.now) (message_of c.in-Some-message.to.now) c.in-Some.ensures.found c.in-Some-message.ensures.found types in
    ruled_is_end e c.set.new.self c.args.msg.0 c.args.reply.0 c.self.invariant c.set.ensures.set
    (sound_rule (end_of e) c.args.msg.0 c.args.reply.0 (subst (λ (j : TheInterface). IsRule j c.args.msg.0 c.args.reply.0) same rule) c.self.invariant.sound)

pub returns : goal.returns
returns c =
    let e = c.self.inside in
    let i = interface_of c.interface-interface.result.now in
    let same : i ≡ (program_in e).interface = c.interface-interface.ensures.interface in
    let types : map arg_type_of c.in-Some.from.now.args.items ≡ map arg_type_of c.in-Some-message.to.now.args.items
    = ap (map arg_type_of) (sym c.deref.ensures.value) ∙ c.same_args.ensures.exact.0 c.if-not-same_args.false ∙ ap (map arg_type_of) c.deref-2.ensures.value in
    let rule : IsRule i c.args.msg.0 c.args.reply.0
    = rule_found i c.args.msg.0 c.args.reply.0 (message_of c.in-Some.from.now) (message_of c.in-Some-message.to.now) c.in-Some.ensures.found c.in-Some-message.ensures.found types in
    let now : IsRule (interface_in c.args.self.now) c.args.msg.0 c.args.reply.0
    = subst (λ (s : TheEnd). IsRule (interface_in s) c.args.msg.0 c.args.reply.0) c.self.view_is (subst (λ (j : TheInterface). IsRule j c.args.msg.0 c.args.reply.0) same rule) in
    let after = ruled_view e c.set.new.self c.args.msg.0 c.args.reply.0 c.set.ensures.set
    ∙ ap (λ (s : TheEnd). record s { rules = slice_set s.rules c.args.msg.0 (Some c.args.reply.0) }) c.self.view_is in
    record { sets = (now.from, now.to, now.types, after); program = ap (λ (s : TheEnd). s.program) after }
