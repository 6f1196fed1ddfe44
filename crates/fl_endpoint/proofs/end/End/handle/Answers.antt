use Rattle.std.proofs.Common.{◌≡◌, ℕ, Option, Some, None, refl, sym, ap, subst, ◌∙◌}
use Rattle.std.specs.Option.{option_map}
use Rattle.fl_value_data.specs.Value.{call_of}
use Rattle.fl_endpoint.specs.View.{TheEnd, rule_at, reply_to, with_handled}
use Rattle.fl_endpoint.specs.Rules.{rules_of}
use Rattle.fl_endpoint.specs.Stored.{QueuesReply}
use Rattle.fl_endpoint.specs.Inside.{program_in, end_of}
use Rattle.fl_endpoint.proofs.Insides.{handled_end}
use Rattle.fl_endpoint.proofs.end.End.handle.Goals as goal

pub returns-in-None : goal.returns-in-None
returns-in-None c =
    let e = c.self.inside in
    let d = call_of c.args.call in
    let k = c.args.circuit.0 in
    let bound : (end_of e).circuit ≡ Some k = ap (λ (s : TheEnd). s.circuit) c.self.view_is ∙ c.requires.bound in
    let rule : None ≡ rule_at (rules_of e.rules.replies.items) d.msg = c.in-None.ensures.rule ∙ ap (rule_at (rules_of e.rules.replies.items)) c.msg.ensures.msg in
    let queues : QueuesReply (program_in e) (reply_to (rules_of e.rules.replies.items) d) None
    = subst (λ (o : Option ℕ). QueuesReply (program_in e) (option_map (λ (reply : ℕ). record { msg = reply; args = d.args }) o) None) rule tt in
    record { handles = (refl, sym c.self.view_is ∙ handled_end e e.outgoing d None k bound queues refl ∙ ap (λ (s : TheEnd). with_handled s d) c.self.view_is) }
