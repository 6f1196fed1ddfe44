use Rattle.std.proofs.Common.{arith}
use Rattle.fl_value_data.specs.Value.{call_of}
use Rattle.fl_endpoint.specs.View.{with_parts}
use Rattle.fl_endpoint.specs.Events.{Calls}
use Rattle.fl_core.proofs.Asides.{calls_with}
use Rattle.fl_core.proofs.Readiness.{calls_ready}
use Rattle.fl_core.proofs.Together.{below_seats}
use Rattle.fl_core.proofs.Seats.{here, end_event, end_event_kept}
use Rattle.fl_core.proofs.one_board.Board.call_compact.Goals as goal

pub invariant_of-self : goal.invariant_of-self
invariant_of-self c =
    let at = here c.args.self.now c.self.inside.dispatchers.items c.self.inside.seats.items c.self.inside.calls c.self.view_is c.self.invariant c.args.e c.requires _ _ c.index_mut-seat.ensures.value c.seat.view_is in
    let event = calls_with at.call.parts c.seat.inside.end c.call_compact.new.self (call_of c.args.call.now) c.call_compact.result c.call_compact.ensures.calls in
    let adds = c.law_call_accounts.ensures.account (with_parts c.seat.inside.end at.call.parts) (with_parts c.call_compact.new.self at.call.parts) (call_of c.args.call.now) c.call_compact.result at.of.sound event in
    end_event_kept c.args.self.now c.self.inside.dispatchers.items c.self.inside.seats.items c.self.inside.calls c.self.view_is c.self.invariant c.args.e c.requires _ _ c.index_mut-seat.ensures.value c.seat.view_is c.call_compact.new.self adds.account.program adds.sound (calls_ready c.seat.inside.end c.call_compact.new.self _ _ c.call_compact.ensures.calls)

pub returns-clause-calls : goal.returns-clause-calls
returns-clause-calls c =
    let at = here c.args.self.now c.self.inside.dispatchers.items c.self.inside.seats.items c.self.inside.calls c.self.view_is c.self.invariant c.args.e c.requires _ _ c.index_mut-seat.ensures.value c.seat.view_is in
    end_event c.args.self.now c.self.inside.dispatchers.items c.self.inside.seats.items c.self.inside.calls c.self.view_is c.self.invariant c.args.e c.requires _ _ c.index_mut-seat.ensures.value c.seat.view_is (λ s t. Calls s (call_of c.args.call.now) c.call_compact.result t) c.call_compact.new.self (calls_with at.call.parts c.seat.inside.end c.call_compact.new.self (call_of c.args.call.now) c.call_compact.result c.call_compact.ensures.calls)

pub index_mut-seat-requires : goal.index_mut-seat-requires
index_mut-seat-requires c =
    let within = below_seats c.args.self.now c.self.inside.dispatchers.items c.self.inside.seats.items c.self.inside.calls c.self.view_is c.self.invariant.together c.args.e c.requires in
    omega (arith, within, c.self.inside.seats.ok.0)
