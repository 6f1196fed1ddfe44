use Rattle.std.proofs.Common.{◌≡◌, ◌<◌, ◌^◌, sym, ap, ◌∙◌, subst, rules, arith}
use Rattle.fl_endpoint.specs.View.{TheEnd, with_parts, bound}
use Rattle.fl_endpoint.specs.Accounts.{Sound}
use Rattle.fl_endpoint.specs.Events.{IsReady}
use Rattle.fl_core.proofs.Asides.{bound_with}
use Rattle.fl_core.proofs.Readiness.{bound_ready}
use Rattle.fl_core.proofs.Together.{below_seats}
use Rattle.fl_core.proofs.Seats.{here, end_event, end_event_kept}
use Rattle.fl_core.proofs.one_board.Board.bind.Goals as goal

pub invariant_of-self : goal.invariant_of-self
invariant_of-self c =
    let at = here c.args.self.now c.self.inside.dispatchers.items c.self.inside.seats.items c.self.inside.calls c.self.view_is c.self.invariant c.args.e c.requires _ _ c.index_mut-seat.ensures.value c.seat.view_is in
    let small : c.args.circuit.0 < 2 ^ 16 = search rules in
    let event = bound_with at.call.parts c.seat.inside.end c.bind.new.self c.args.circuit.0 c.bind.ensures.bound in
    let adds = c.law_bind_accounts.ensures.account (with_parts c.seat.inside.end at.call.parts) c.args.circuit.0 small at.of.sound in
    end_event_kept c.args.self.now c.self.inside.dispatchers.items c.self.inside.seats.items c.self.inside.calls c.self.view_is c.self.invariant c.args.e c.requires _ _ c.index_mut-seat.ensures.value c.seat.view_is c.bind.new.self (ap (λ (x : TheEnd). x.program) event ∙ adds.0.account.program) (subst Sound (sym event) adds.0.sound)
    (λ ready. subst IsReady (sym c.bind.ensures.bound) (bound_ready c.seat.inside.end c.args.circuit.0 ready))

pub returns : goal.returns
returns c =
    let at = here c.args.self.now c.self.inside.dispatchers.items c.self.inside.seats.items c.self.inside.calls c.self.view_is c.self.invariant c.args.e c.requires _ _ c.index_mut-seat.ensures.value c.seat.view_is in
    record { binds = end_event c.args.self.now c.self.inside.dispatchers.items c.self.inside.seats.items c.self.inside.calls c.self.view_is c.self.invariant c.args.e c.requires _ _ c.index_mut-seat.ensures.value c.seat.view_is (λ s t. t ≡ bound s c.args.circuit.0) c.bind.new.self (bound_with at.call.parts c.seat.inside.end c.bind.new.self c.args.circuit.0 c.bind.ensures.bound) }

pub index_mut-seat-requires : goal.index_mut-seat-requires
index_mut-seat-requires c =
    let within = below_seats c.args.self.now c.self.inside.dispatchers.items c.self.inside.seats.items c.self.inside.calls c.self.view_is c.self.invariant.together c.args.e c.requires in
    omega (arith, within, c.self.inside.seats.ok.0)
