use Rattle.std.proofs.Common.{arith}
use Rattle.fl_endpoint.specs.View.{with_parts}
use Rattle.fl_endpoint.specs.Events.{Writes}
use Rattle.fl_core.proofs.Asides.{writes_with}
use Rattle.fl_core.proofs.Readiness.{writes_ready}
use Rattle.fl_core.proofs.Together.{below_seats}
use Rattle.fl_core.proofs.Seats.{here, end_event, end_event_kept}
use Rattle.fl_core.proofs.one_board.Board.write.Goals as goal

pub invariant_of-self : goal.invariant_of-self
invariant_of-self g c =
    let at = here c.args.self.now c.self.inside.dispatchers.items c.self.inside.seats.items c.self.inside.calls c.self.view_is c.self.invariant c.args.e c.requires _ _ c.index_mut-seat.ensures.value c.seat.view_is in
    let event = writes_with at.call.parts g.P.PutSide.puts c.seat.inside.end c.write.new.self c.args.out.now c.write.new.out c.write.result c.write.ensures.writes in
    let adds = c.law_write_accounts.ensures.account (with_parts c.seat.inside.end at.call.parts) (with_parts c.write.new.self at.call.parts) c.args.out.now c.write.new.out c.write.result at.of.sound event in
    end_event_kept c.args.self.now c.self.inside.dispatchers.items c.self.inside.seats.items c.self.inside.calls c.self.view_is c.self.invariant c.args.e c.requires _ _ c.index_mut-seat.ensures.value c.seat.view_is c.write.new.self adds.account.program adds.sound (writes_ready g.P.PutSide.puts c.seat.inside.end c.write.new.self _ _ _ c.write.ensures.writes)

pub returns-clause-writes : goal.returns-clause-writes
returns-clause-writes g c =
    let at = here c.args.self.now c.self.inside.dispatchers.items c.self.inside.seats.items c.self.inside.calls c.self.view_is c.self.invariant c.args.e c.requires _ _ c.index_mut-seat.ensures.value c.seat.view_is in
    end_event c.args.self.now c.self.inside.dispatchers.items c.self.inside.seats.items c.self.inside.calls c.self.view_is c.self.invariant c.args.e c.requires _ _ c.index_mut-seat.ensures.value c.seat.view_is (λ s t. Writes g.P.PutSide.puts s c.args.out.now c.write.result t c.write.new.out) c.write.new.self (writes_with at.call.parts g.P.PutSide.puts c.seat.inside.end c.write.new.self c.args.out.now c.write.new.out c.write.result c.write.ensures.writes)

pub index_mut-seat-requires : goal.index_mut-seat-requires
index_mut-seat-requires g c =
    let within = below_seats c.args.self.now c.self.inside.dispatchers.items c.self.inside.seats.items c.self.inside.calls c.self.view_is c.self.invariant.together c.args.e c.requires in
    omega (arith, within, c.self.inside.seats.ok.0)
