use Rattle.std.proofs.Common.{refl, sym, ◌∙◌, subst, arith, IsOk}
use Rattle.fl_core.proofs.Picks.{trigger_ok, got}
use Rattle.fl_core.proofs.Together.{below_seats}
use Rattle.fl_core.proofs.Seats.{here}
use Rattle.fl_core.proofs.Lists.{dispatcher_below, channel_below, lists_event, kept_triggered}
use Rattle.fl_core.proofs.one_board.Board.trigger.Goals as goal

pub index_mut-dispatcher-requires : goal.index_mut-dispatcher-requires
index_mut-dispatcher-requires c = let within = dispatcher_below c.args.self.now _ c.self.view_is c.args.e _ (here c.args.self.now c.self.inside.dispatchers.items c.self.inside.seats.items c.self.inside.calls c.self.view_is c.self.invariant c.args.e c.requires _ _ c.index-seat.ensures c.seat.view_is).there c.self.invariant.board in omega (arith, within, c.self.inside.dispatchers.ok.0)

pub unwrap-requires : goal.unwrap-requires
unwrap-requires c = let ok = c.trigger.ensures.answer ∙ trigger_ok c.dispatcher.inside.waitset c.seat.inside.channel.0 (channel_below c.args.self.now _ c.self.view_is c.args.e _ (here c.args.self.now c.self.inside.dispatchers.items c.self.inside.seats.items c.self.inside.calls c.self.view_is c.self.invariant c.args.e c.requires _ _ c.index-seat.ensures c.seat.view_is).there c.self.invariant.board _ _ c.index_mut-dispatcher.ensures.value c.dispatcher.view_is) in subst IsOk (sym ok) refl

pub invariant_of-self : goal.invariant_of-self
invariant_of-self c = record { board = kept_triggered c.args.self.now _ c.self.view_is c.args.e _ (here c.args.self.now c.self.inside.dispatchers.items c.self.inside.seats.items c.self.inside.calls c.self.view_is c.self.invariant c.args.e c.requires _ _ c.index-seat.ensures c.seat.view_is).there c.self.invariant.board _ _ c.index_mut-dispatcher.ensures.value c.dispatcher.view_is c.trigger.new.self (got c.trigger.result (c.trigger.ensures.answer ∙ trigger_ok c.dispatcher.inside.waitset c.seat.inside.channel.0 (channel_below c.args.self.now _ c.self.view_is c.args.e _ (here c.args.self.now c.self.inside.dispatchers.items c.self.inside.seats.items c.self.inside.calls c.self.view_is c.self.invariant c.args.e c.requires _ _ c.index-seat.ensures c.seat.view_is).there c.self.invariant.board _ _ c.index_mut-dispatcher.ensures.value c.dispatcher.view_is)) c.trigger.ensures.ok) c.trigger.ensures.waitset.apart; together = c.self.invariant.together }

pub returns : goal.returns
returns c = record { triggers = lists_event c.args.self.now _ c.self.view_is c.args.e _ (here c.args.self.now c.self.inside.dispatchers.items c.self.inside.seats.items c.self.inside.calls c.self.view_is c.self.invariant c.args.e c.requires _ _ c.index-seat.ensures c.seat.view_is).there c.self.invariant.board _ _ c.index_mut-dispatcher.ensures.value c.dispatcher.view_is _ c.trigger.new.self (got c.trigger.result (c.trigger.ensures.answer ∙ trigger_ok c.dispatcher.inside.waitset c.seat.inside.channel.0 (channel_below c.args.self.now _ c.self.view_is c.args.e _ (here c.args.self.now c.self.inside.dispatchers.items c.self.inside.seats.items c.self.inside.calls c.self.view_is c.self.invariant c.args.e c.requires _ _ c.index-seat.ensures c.seat.view_is).there c.self.invariant.board _ _ c.index_mut-dispatcher.ensures.value c.dispatcher.view_is)) c.trigger.ensures.ok) }

pub index-seat-requires : goal.index-seat-requires
index-seat-requires c =
    let within = below_seats c.args.self.now c.self.inside.dispatchers.items c.self.inside.seats.items c.self.inside.calls c.self.view_is c.self.invariant.together c.args.e c.requires in
    omega (arith, within, c.self.inside.seats.ok.0)
