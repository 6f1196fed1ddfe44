use Rattle.std.proofs.Common.{refl, sym, ◌∙◌, arith}
use Rattle.fl_core.proofs.Readiness.{bound_from, unbound_from}
use Rattle.fl_core.proofs.Picks.{not_registered, is_registered_ok}
use Rattle.fl_core.proofs.Together.{below_seats}
use Rattle.fl_core.proofs.Seats.{here}
use Rattle.fl_core.proofs.Lists.{dispatcher_below, unchanged, channel_below, lists_event, kept_unlinked}
use Rattle.fl_core.proofs.one_board.Board.deregister.Goals as goal

pub returns-then-not-is_bound-clause-deregisters : goal.returns-then-not-is_bound-clause-deregisters
returns-then-not-is_bound-clause-deregisters c = unchanged c.args.self.now _ c.self.view_is c.args.e _ (here c.args.self.now c.self.inside.dispatchers.items c.self.inside.seats.items c.self.inside.calls c.self.view_is c.self.invariant c.args.e c.requires _ _ c.index-seat.ensures c.seat.view_is).there c.self.invariant.board _ (λ w. (unbound_from _ (sym c.is_bound.ensures.bound ∙ c.if-not-is_bound.true), refl))

pub index_mut-dispatcher-requires : goal.index_mut-dispatcher-requires
index_mut-dispatcher-requires c = let within = dispatcher_below c.args.self.now _ c.self.view_is c.args.e _ (here c.args.self.now c.self.inside.dispatchers.items c.self.inside.seats.items c.self.inside.calls c.self.view_is c.self.invariant c.args.e c.requires _ _ c.index-seat.ensures c.seat.view_is).there c.self.invariant.board in omega (arith, within, c.self.inside.dispatchers.ok.0)

pub returns-in_default-clause-deregisters : goal.returns-in_default-clause-deregisters
returns-in_default-clause-deregisters c =
    let missing = not_registered c.dispatcher.inside.waitset c.seat.inside.channel.0 _ (channel_below c.args.self.now _ c.self.view_is c.args.e _ (here c.args.self.now c.self.inside.dispatchers.items c.self.inside.seats.items c.self.inside.calls c.self.view_is c.self.invariant c.args.e c.requires _ _ c.index-seat.ensures c.seat.view_is).there c.self.invariant.board _ _ c.index_mut-dispatcher.ensures.value c.dispatcher.view_is) (sym c.deregister.ensures.answer ∙ c.in_default.is) in
    lists_event c.args.self.now _ c.self.view_is c.args.e _ (here c.args.self.now c.self.inside.dispatchers.items c.self.inside.seats.items c.self.inside.calls c.self.view_is c.self.invariant c.args.e c.requires _ _ c.index-seat.ensures c.seat.view_is).there c.self.invariant.board _ _ c.index_mut-dispatcher.ensures.value c.dispatcher.view_is _ c.deregister.new.self (bound_from _ (sym c.is_bound.ensures.bound ∙ c.if-not-is_bound.false), missing, c.in_default.ensures.err)

pub invariant_of-self-2 : goal.invariant_of-self-2
invariant_of-self-2 c = record { board = kept_unlinked c.args.self.now _ c.self.view_is c.args.e _ (here c.args.self.now c.self.inside.dispatchers.items c.self.inside.seats.items c.self.inside.calls c.self.view_is c.self.invariant c.args.e c.requires _ _ c.index-seat.ensures c.seat.view_is).there c.self.invariant.board _ _ c.index_mut-dispatcher.ensures.value c.dispatcher.view_is c.deregister.new.self c.in-Ok.ensures.ok c.deregister.ensures.waitset.apart; together = c.self.invariant.together }

pub returns-clause-deregisters : goal.returns-clause-deregisters
returns-clause-deregisters c =
    let there = is_registered_ok c.dispatcher.inside.waitset c.seat.inside.channel.0 (channel_below c.args.self.now _ c.self.view_is c.args.e _ (here c.args.self.now c.self.inside.dispatchers.items c.self.inside.seats.items c.self.inside.calls c.self.view_is c.self.invariant c.args.e c.requires _ _ c.index-seat.ensures c.seat.view_is).there c.self.invariant.board _ _ c.index_mut-dispatcher.ensures.value c.dispatcher.view_is) (sym c.deregister.ensures.answer ∙ c.in-Ok.is) in
    lists_event c.args.self.now _ c.self.view_is c.args.e _ (here c.args.self.now c.self.inside.dispatchers.items c.self.inside.seats.items c.self.inside.calls c.self.view_is c.self.invariant c.args.e c.requires _ _ c.index-seat.ensures c.seat.view_is).there c.self.invariant.board _ _ c.index_mut-dispatcher.ensures.value c.dispatcher.view_is _ c.deregister.new.self (bound_from _ (sym c.is_bound.ensures.bound ∙ c.if-not-is_bound.false), there, c.in-Ok.ensures.ok)

pub index-seat-requires : goal.index-seat-requires
index-seat-requires c =
    let within = below_seats c.args.self.now c.self.inside.dispatchers.items c.self.inside.seats.items c.self.inside.calls c.self.view_is c.self.invariant.together c.args.e c.requires in
    omega (arith, within, c.self.inside.seats.ok.0)
