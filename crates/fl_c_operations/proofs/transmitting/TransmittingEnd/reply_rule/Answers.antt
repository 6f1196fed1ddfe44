use Rattle.std.proofs.Common.{ap, sym, subst, ◌∙◌}
use Rattle.fl_endpoint.specs.View.{TheEnd}
use Rattle.fl_endpoint.specs.Events.{SetsRule}
use Rattle.fl_c_operations.specs.Transmissions.{transmitting}
use Rattle.fl_c_operations.proofs.Transmissions.{transmits_still, coded_as, rules_transmitting, rules_keep, program_transmitting}
use Rattle.fl_c_operations.proofs.transmitting.TransmittingEnd.reply_rule.Goals as goal

pub invariant_of-self : goal.invariant_of-self
invariant_of-self c =
    let h = c.self.inside in
    let t = c.reply_rule.new.self in
    let keep = rules_keep h.end t c.args.msg.0 c.args.reply.0 c.reply_rule.result c.reply_rule.ensures.sets in
    record {
      transmits = transmits_still h.in_transmission h.end t keep.0 keep.1 c.self.invariant.transmits;
      coded = coded_as h.end t h.codecs.items c.reply_rule.ensures.program c.self.invariant.coded;
    }

pub returns : goal.returns
returns c =
    let h = c.self.inside in
    let t = c.reply_rule.new.self in
    record {
      sets = subst (λ (s : TheEnd). SetsRule s c.args.msg.0 c.args.reply.0 c.reply_rule.result (transmitting h.in_transmission t)) c.self.view_is
          (rules_transmitting h.in_transmission h.end t c.args.msg.0 c.args.reply.0 c.reply_rule.result c.reply_rule.ensures.sets);
      program = program_transmitting h.in_transmission t ∙ c.reply_rule.ensures.program ∙ sym (program_transmitting h.in_transmission h.end) ∙ ap (λ (s : TheEnd). s.program) c.self.view_is;
    }
