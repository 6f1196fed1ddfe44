use Rattle.std.proofs.Common.{arith}
use Rattle.fl_endpoint.specs.View.{with_parts}
use Rattle.fl_endpoint.specs.Events.{SetsRule}
use Rattle.fl_core.proofs.Asides.{sets_with}
use Rattle.fl_core.proofs.Readiness.{sets_ready}
use Rattle.fl_core.proofs.Together.{below_seats}
use Rattle.fl_core.proofs.Seats.{here, end_event, end_event_kept}
use Rattle.fl_core.proofs.one_board.Board.reply_rule.Goals as goal

pub invariant_of-self : goal.invariant_of-self
invariant_of-self c =
    let at = here c.args.self.now c.self.inside.dispatchers.items c.self.inside.seats.items c.self.inside.calls c.self.view_is c.self.invariant c.args.e c.requires _ _ c.index_mut-seat.ensures.value c.seat.view_is in
    let event = sets_with at.call.parts c.seat.inside.end c.reply_rule.new.self c.args.msg.0 c.args.reply.0 c.reply_rule.result c.reply_rule.ensures.sets in
    let adds = c.law_rule_accounts.ensures.account (with_parts c.seat.inside.end at.call.parts) (with_parts c.reply_rule.new.self at.call.parts) c.args.msg.0 c.args.reply.0 c.reply_rule.result at.of.sound event in
    end_event_kept c.args.self.now c.self.inside.dispatchers.items c.self.inside.seats.items c.self.inside.calls c.self.view_is c.self.invariant c.args.e c.requires _ _ c.index_mut-seat.ensures.value c.seat.view_is c.reply_rule.new.self adds.account.program adds.sound (sets_ready c.seat.inside.end c.reply_rule.new.self _ _ _ c.reply_rule.ensures.sets)

pub returns-clause-sets : goal.returns-clause-sets
returns-clause-sets c =
    let at = here c.args.self.now c.self.inside.dispatchers.items c.self.inside.seats.items c.self.inside.calls c.self.view_is c.self.invariant c.args.e c.requires _ _ c.index_mut-seat.ensures.value c.seat.view_is in
    end_event c.args.self.now c.self.inside.dispatchers.items c.self.inside.seats.items c.self.inside.calls c.self.view_is c.self.invariant c.args.e c.requires _ _ c.index_mut-seat.ensures.value c.seat.view_is (λ s t. SetsRule s c.args.msg.0 c.args.reply.0 c.reply_rule.result t) c.reply_rule.new.self (sets_with at.call.parts c.seat.inside.end c.reply_rule.new.self c.args.msg.0 c.args.reply.0 c.reply_rule.result c.reply_rule.ensures.sets)

pub index_mut-seat-requires : goal.index_mut-seat-requires
index_mut-seat-requires c =
    let within = below_seats c.args.self.now c.self.inside.dispatchers.items c.self.inside.seats.items c.self.inside.calls c.self.view_is c.self.invariant.together c.args.e c.requires in
    omega (arith, within, c.self.inside.seats.ok.0)
