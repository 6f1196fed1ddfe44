use Rattle.std.proofs.Common.{sym, ◌∙◌, arith}
use Rattle.fl_endpoint.specs.View.{with_parts}
use Rattle.fl_core.proofs.Readiness.{bound_from, unbound_from}
use Rattle.fl_core.proofs.BoardParts.{acks_unbound, acks_queue, acks_ring}
use Rattle.fl_core.proofs.Together.{below_seats}
use Rattle.fl_core.proofs.Seats.{here, reads_before}
use Rattle.fl_core.proofs.one_board.Board.ack.Goals as goal

pub returns-then-not-is_bound : goal.returns-then-not-is_bound
returns-then-not-is_bound g c = record { acks = (_, reads_before c.args.self.now c.self.inside.dispatchers.items c.self.inside.seats.items c.self.inside.calls c.self.view_is c.self.invariant c.args.e c.requires _ _ c.index-seat.ensures c.seat.view_is, acks_unbound g.T.TakeSide.takes (with_parts c.seat.inside.end (here c.args.self.now c.self.inside.dispatchers.items c.self.inside.seats.items c.self.inside.calls c.self.view_is c.self.invariant c.args.e c.requires _ _ c.index-seat.ensures c.seat.view_is).call.parts) c.args.from.now c.args.from.now c.seat.inside.kind (unbound_from _ (sym c.is_bound.ensures.bound ∙ c.if-not-is_bound.true))) }

pub returns-in-Queue : goal.returns-in-Queue
returns-in-Queue g c = record { acks = (_, reads_before c.args.self.now c.self.inside.dispatchers.items c.self.inside.seats.items c.self.inside.calls c.self.view_is c.self.invariant c.args.e c.requires _ _ c.index-seat.ensures c.seat.view_is, acks_queue g.T.TakeSide.takes (with_parts c.seat.inside.end (here c.args.self.now c.self.inside.dispatchers.items c.self.inside.seats.items c.self.inside.calls c.self.view_is c.self.invariant c.args.e c.requires _ _ c.index-seat.ensures c.seat.view_is).call.parts) c.args.from.now c.args.from.now c.seat.inside.kind c.in-Queue.is (bound_from _ (sym c.is_bound.ensures.bound ∙ c.if-not-is_bound.false))) }

pub returns-in-Ring : goal.returns-in-Ring
returns-in-Ring g c = record { acks = (_, reads_before c.args.self.now c.self.inside.dispatchers.items c.self.inside.seats.items c.self.inside.calls c.self.view_is c.self.invariant c.args.e c.requires _ _ c.index-seat.ensures c.seat.view_is, acks_ring g.T.TakeSide.takes (with_parts c.seat.inside.end (here c.args.self.now c.self.inside.dispatchers.items c.self.inside.seats.items c.self.inside.calls c.self.view_is c.self.invariant c.args.e c.requires _ _ c.index-seat.ensures c.seat.view_is).call.parts) c.args.from.now c.tell.new.from c.seat.inside.kind c.tell.result c.in-Ring.is (bound_from _ (sym c.is_bound.ensures.bound ∙ c.if-not-is_bound.false)) c.tell.ensures.tells) }

pub index-seat-requires : goal.index-seat-requires
index-seat-requires g c =
    let within = below_seats c.args.self.now c.self.inside.dispatchers.items c.self.inside.seats.items c.self.inside.calls c.self.view_is c.self.invariant.together c.args.e c.requires in
    omega (arith, within, c.self.inside.seats.ok.0)
