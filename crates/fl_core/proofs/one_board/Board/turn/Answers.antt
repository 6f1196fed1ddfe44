use Rattle.std.proofs.Common.{sym, ◌∙◌, arith}
use Rattle.fl_core.proofs.Together.{as_many}
use Rattle.fl_core.proofs.Dispatchers.{due_is}
use Rattle.fl_core.proofs.BoardDue.{due_below, ready, place_due, due_kept, due_turns, due_same}
use Rattle.fl_core.proofs.one_board.Board.turn.Goals as goal

pub invariant_of-self : goal.invariant_of-self
invariant_of-self g c =
    let none = due_is c.args.self.now _ c.self.view_is c.args.dispatcher c.requires.there _ _ c.index_mut-at.ensures.value c.at.view_is _ (sym c.in_default.is ∙ c.next_event.ensures.pick) in
    absurd (cc (none, c.requires.due))

pub index_mut-seat-requires : goal.index_mut-seat-requires
index_mut-seat-requires g c =
    let within = due_below c.args.self.now c.self.inside.dispatchers.items c.self.inside.seats.items c.self.inside.calls c.self.view_is c.self.invariant c.args.dispatcher c.requires.there _ _ c.index_mut-at.ensures.value c.at.view_is c.in-Ok.pick (sym c.next_event.ensures.pick ∙ c.in-Ok.is) c.args.e c.requires.due in
    omega (arith, within, as_many c.self.inside.seats.items c.self.inside.calls c.self.invariant.together, c.self.inside.seats.ok.0)

pub look_at-requires-clause-ready : goal.look_at-requires-clause-ready
look_at-requires-clause-ready g c = ready c.args.self.now c.self.inside.dispatchers.items c.self.inside.seats.items c.self.inside.calls c.self.view_is c.self.invariant c.args.dispatcher c.requires.there _ _ c.index_mut-at.ensures.value c.at.view_is c.in-Ok.pick (sym c.next_event.ensures.pick ∙ c.in-Ok.is) c.args.e c.requires.due _ _ c.index_mut-seat.ensures.value c.seat.view_is

pub look_at-requires-clause-place : goal.look_at-requires-clause-place
look_at-requires-clause-place g c = place_due c.args.self.now c.self.inside.dispatchers.items c.self.inside.seats.items c.self.inside.calls c.self.view_is c.self.invariant c.args.dispatcher c.requires.there _ _ c.index_mut-at.ensures.value c.at.view_is c.in-Ok.pick (sym c.next_event.ensures.pick ∙ c.in-Ok.is) c.args.e c.requires.due _ _ c.index_mut-seat.ensures.value c.seat.view_is

pub invariant_of-self-2 : goal.invariant_of-self-2
invariant_of-self-2 g c = due_kept c.args.self.now c.self.inside.dispatchers.items c.self.inside.seats.items c.self.inside.calls c.self.view_is c.self.invariant c.args.dispatcher c.requires.there _ _ c.index_mut-at.ensures.value c.at.view_is c.in-Ok.pick (sym c.next_event.ensures.pick ∙ c.in-Ok.is) c.args.e c.requires.due _ _ c.index_mut-seat.ensures.value c.seat.view_is g.T.TakeSide.takes c.look_at.new.waitset c.look_at.new.end c.args.from.now c.look_at.new.from c.look_at.result c.look_at.new.calls c.look_at.ensures.looks c.law_turn_accounts.ensures.account c.look_at.ensures.waitset.apart

pub returns-clause-turns : goal.returns-clause-turns
returns-clause-turns g c = due_turns c.args.self.now c.self.inside.dispatchers.items c.self.inside.seats.items c.self.inside.calls c.self.view_is c.self.invariant c.args.dispatcher c.requires.there _ _ c.index_mut-at.ensures.value c.at.view_is c.in-Ok.pick (sym c.next_event.ensures.pick ∙ c.in-Ok.is) c.args.e c.requires.due _ _ c.index_mut-seat.ensures.value c.seat.view_is g.T.TakeSide.takes c.look_at.new.waitset c.look_at.new.end c.args.from.now c.look_at.new.from c.look_at.result c.look_at.new.calls c.look_at.ensures.looks

pub returns-clause-kept : goal.returns-clause-kept
returns-clause-kept g c = due_same c.args.self.now c.self.inside.dispatchers.items c.self.inside.seats.items c.self.inside.calls c.self.view_is c.self.invariant c.args.dispatcher c.requires.there _ _ c.index_mut-at.ensures.value c.at.view_is c.in-Ok.pick (sym c.next_event.ensures.pick ∙ c.in-Ok.is) c.args.e c.requires.due _ _ c.index_mut-seat.ensures.value c.seat.view_is g.T.TakeSide.takes c.look_at.new.waitset c.look_at.new.end c.args.from.now c.look_at.new.from c.look_at.new.calls c.look_at.result c.look_at.ensures.looks
