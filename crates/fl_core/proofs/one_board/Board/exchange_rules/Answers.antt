use Rattle.std.proofs.Common.{◌≡◌, sym, ap, subst, arith}
use Rattle.fl_endpoint.specs.View.{TheEnd, with_parts, interface_in}
use Rattle.fl_endpoint.specs.Accounts.{Sound}
use Rattle.fl_endpoint.specs.Events.{IsReady, Exchanges}
use Rattle.fl_core.proofs.Asides.{exchanges_with}
use Rattle.fl_core.proofs.Together.{below_seats}
use Rattle.fl_core.proofs.Seats.{here, holds_here, end_event, end_event_kept}
use Rattle.fl_core.proofs.one_board.Board.exchange_rules.Goals as goal

pub exchange_rules-requires : goal.exchange_rules-requires
exchange_rules-requires c = record { interface = holds_here c.args.self.now c.self.inside.dispatchers.items c.self.inside.seats.items c.self.inside.calls c.self.view_is c.self.invariant c.args.e c.requires.there _ _ c.index_mut-seat.ensures.value c.seat.view_is (λ s. interface_in s.end ≡ interface_in c.args.other.now) c.requires.interface }

pub invariant_of-self : goal.invariant_of-self
invariant_of-self c =
    let at = here c.args.self.now c.self.inside.dispatchers.items c.self.inside.seats.items c.self.inside.calls c.self.view_is c.self.invariant c.args.e c.requires.there _ _ c.index_mut-seat.ensures.value c.seat.view_is in
    let like = holds_here c.args.self.now c.self.inside.dispatchers.items c.self.inside.seats.items c.self.inside.calls c.self.view_is c.self.invariant c.args.e c.requires.there _ _ c.index_mut-seat.ensures.value c.seat.view_is (λ s. interface_in s.end ≡ interface_in c.args.other.now) c.requires.interface in
    let event = exchanges_with at.call.parts c.seat.inside.end c.args.other.now c.exchange_rules.new.self c.exchange_rules.new.other c.exchange_rules.ensures.exchanges in
    let adds = c.law_exchange_accounts.ensures.account (with_parts c.seat.inside.end at.call.parts) c.args.other.now like at.of.sound
    c.law_sound.ensures.sound in
    end_event_kept c.args.self.now c.self.inside.dispatchers.items c.self.inside.seats.items c.self.inside.calls c.self.view_is c.self.invariant c.args.e c.requires.there _ _ c.index_mut-seat.ensures.value c.seat.view_is c.exchange_rules.new.self (ap (λ (x : TheEnd). x.program) c.exchange_rules.ensures.exchanges.0) (subst Sound (sym event.0) adds.sound)
    (λ ready. subst IsReady (sym c.exchange_rules.ensures.exchanges.0) ready)

pub returns : goal.returns
returns c =
    let at = here c.args.self.now c.self.inside.dispatchers.items c.self.inside.seats.items c.self.inside.calls c.self.view_is c.self.invariant c.args.e c.requires.there _ _ c.index_mut-seat.ensures.value c.seat.view_is in
    record {
      exchanges = end_event c.args.self.now c.self.inside.dispatchers.items c.self.inside.seats.items c.self.inside.calls c.self.view_is c.self.invariant c.args.e c.requires.there _ _ c.index_mut-seat.ensures.value c.seat.view_is (λ s t. Exchanges s c.args.other.now t c.exchange_rules.new.other) c.exchange_rules.new.self
          (exchanges_with at.call.parts c.seat.inside.end c.args.other.now c.exchange_rules.new.self c.exchange_rules.new.other c.exchange_rules.ensures.exchanges);
    }

pub index_mut-seat-requires : goal.index_mut-seat-requires
index_mut-seat-requires c =
    let within = below_seats c.args.self.now c.self.inside.dispatchers.items c.self.inside.seats.items c.self.inside.calls c.self.view_is c.self.invariant.together c.args.e c.requires.there in
    omega (arith, within, c.self.inside.seats.ok.0)
