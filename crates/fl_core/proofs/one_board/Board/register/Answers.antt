use Rattle.std.proofs.Common.{refl, sym, ◌∙◌, arith}
use Rattle.fl_core.specs.contracts.seat.EndAtChannel.{the_view}
use Rattle.fl_core.specs.BoardInside.{seat_with}
use Rattle.fl_core.proofs.Readiness.{bound_from, unbound_from}
use Rattle.fl_core.proofs.Together.{below_seats}
use Rattle.fl_core.proofs.Seats.{here}
use Rattle.fl_core.proofs.Lists.{dispatcher_below, unchanged, channel_below, lists_event, kept_joined, joins_registers}
use Rattle.fl_core.proofs.one_board.Board.register.Goals as goal

pub returns-then-not-is_bound-clause-registers : goal.returns-then-not-is_bound-clause-registers
returns-then-not-is_bound-clause-registers g c = unchanged c.args.self.now _ c.self.view_is c.args.e _ (here c.args.self.now c.self.inside.dispatchers.items c.self.inside.seats.items c.self.inside.calls c.self.view_is c.self.invariant c.args.e c.requires _ _ c.index-seat.ensures c.seat.view_is).there c.self.invariant.board _ (λ w. (unbound_from _ (sym c.is_bound.ensures.bound ∙ c.if-not-is_bound.true), refl, refl))

pub returns-then-is_failed-clause-registers : goal.returns-then-is_failed-clause-registers
returns-then-is_failed-clause-registers g c = unchanged c.args.self.now _ c.self.view_is c.args.e _ (here c.args.self.now c.self.inside.dispatchers.items c.self.inside.seats.items c.self.inside.calls c.self.view_is c.self.invariant c.args.e c.requires _ _ c.index-seat.ensures c.seat.view_is).there c.self.invariant.board _ (λ w. ((bound_from _ (sym c.is_bound.ensures.bound ∙ c.if-not-is_bound.false), sym c.is_failed.ensures.failed ∙ c.if-is_failed.true), refl, refl))

pub index_mut-dispatcher-requires : goal.index_mut-dispatcher-requires
index_mut-dispatcher-requires g c = let within = dispatcher_below c.args.self.now _ c.self.view_is c.args.e _ (here c.args.self.now c.self.inside.dispatchers.items c.self.inside.seats.items c.self.inside.calls c.self.view_is c.self.invariant c.args.e c.requires _ _ c.index-seat.ensures c.seat.view_is).there c.self.invariant.board in omega (arith, within, c.self.inside.dispatchers.ok.0)

pub join-requires : goal.join-requires
join-requires g c = channel_below c.args.self.now _ c.self.view_is c.args.e _ (here c.args.self.now c.self.inside.dispatchers.items c.self.inside.seats.items c.self.inside.calls c.self.view_is c.self.invariant c.args.e c.requires _ _ c.index-seat.ensures c.seat.view_is).there c.self.invariant.board _ _ c.index_mut-dispatcher.ensures.value c.dispatcher.view_is

pub invariant_of-self : goal.invariant_of-self
invariant_of-self g c = record { board = kept_joined c.args.self.now _ c.self.view_is c.args.e _ (here c.args.self.now c.self.inside.dispatchers.items c.self.inside.seats.items c.self.inside.calls c.self.view_is c.self.invariant c.args.e c.requires _ _ c.index-seat.ensures c.seat.view_is).there c.self.invariant.board _ _ c.index_mut-dispatcher.ensures.value c.dispatcher.view_is g.T.TakeSide.takes c.args.from.now c.join.new.from c.join.new.waitset c.join.result (bound_from _ (sym c.is_bound.ensures.bound ∙ c.if-not-is_bound.false), sym c.is_failed.ensures.failed ∙ c.if-is_failed.false) c.join.ensures.joins c.join.ensures.waitset.apart; together = c.self.invariant.together }

pub returns-clause-registers : goal.returns-clause-registers
returns-clause-registers g c = lists_event c.args.self.now _ c.self.view_is c.args.e _ (here c.args.self.now c.self.inside.dispatchers.items c.self.inside.seats.items c.self.inside.calls c.self.view_is c.self.invariant c.args.e c.requires _ _ c.index-seat.ensures c.seat.view_is).there c.self.invariant.board _ _ c.index_mut-dispatcher.ensures.value c.dispatcher.view_is _ c.join.new.waitset (joins_registers g.T.TakeSide.takes (seat_with (the_view c.seat.inside) (here c.args.self.now c.self.inside.dispatchers.items c.self.inside.seats.items c.self.inside.calls c.self.view_is c.self.invariant c.args.e c.requires _ _ c.index-seat.ensures c.seat.view_is).call.parts) c.dispatcher.inside.waitset c.join.new.waitset c.args.from.now c.join.new.from c.join.result (bound_from _ (sym c.is_bound.ensures.bound ∙ c.if-not-is_bound.false), sym c.is_failed.ensures.failed ∙ c.if-is_failed.false) c.join.ensures.joins)

pub index-seat-requires : goal.index-seat-requires
index-seat-requires g c =
    let within = below_seats c.args.self.now c.self.inside.dispatchers.items c.self.inside.seats.items c.self.inside.calls c.self.view_is c.self.invariant.together c.args.e c.requires in
    omega (arith, within, c.self.inside.seats.ok.0)
