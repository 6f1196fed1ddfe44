use Rattle.std.proofs.Common.{sym, refl, ap, ◌∙◌}
use Rattle.fl_monitor.specs.Monitors.{TheMonitor}
use Rattle.fl_core.specs.contracts.one_core.Core.{the_view}
use Rattle.fl_core.specs.Hearing.{Offers, offer_for, offering}
use Rattle.fl_core.proofs.Kept.{parts_kept}
use Rattle.fl_core.proofs.Hearsay.{hears_kept, unheard_length, not_heard, unheard_last, none_so, message_heard}
use Rattle.std.proofs.Common.{length}
use Rattle.fl_core.proofs.one_core.Core.hear_without_offer.Goals as goal

pub invariant_of-self : goal.invariant_of-self
invariant_of-self c = parts_kept _ c.self.inside.board c.on_message.new.self c.unheard.new.link_sides.items c.self.inside.arrivals.items c.self.invariant refl (ap (λ (m : TheMonitor). length m.circuits.links) (hears_kept _ c.args.link c.args.message.now c.self.inside.monitor c.on_message.new.self c.in-Err.fault c.in-Err.ensures.hears)) (unheard_length c.args.link c.in-Err.fault c.self.inside.link_sides.items c.unheard.new.link_sides.items _ c.unheard.ensures.unheard) refl

pub unreachable-requires : goal.unreachable-requires
unreachable-requires c =
    let o : Offers = record { names = c.args.names.now; programs = c.args.programs.now } in
    none_so o c.args.link c.args.message.now c.args.self.now _ c.self.view_is c.here_for-here.result (c.here_for-here.ensures.here o (sym c.requires)) c.in-Ok.heard c.in-Some.field-0 c.requires c.in-Ok.ensures.hears.0 (sym c.server_in.ensures.made ∙ c.in-Some.is)

pub returns-in-Err : goal.returns-in-Err
returns-in-Err c =
    let o : Offers = record { names = c.args.names.now; programs = c.args.programs.now } in
    record {
      hears = not_heard o c.args.link c.args.message.now c.args.self.now _ c.self.view_is c.here_for-here.result (c.here_for-here.ensures.here o (sym c.requires)) c.in-Err.fault c.on_message.new.self c.unheard.result c.unheard.new.link_sides.items c.in-Err.ensures.hears c.unheard.ensures.unheard;
      last = unheard_last o c.args.link c.args.message.now c.args.self.now _ c.self.view_is c.here_for-here.result (c.here_for-here.ensures.here o (sym c.requires)) c.in-Err.fault c.on_message.new.self c.unheard.result c.unheard.new.link_sides.items c.in-Err.ensures.hears c.unheard.ensures.unheard;
    }

pub returns-in-None : goal.returns-in-None
returns-in-None c =
    let o : Offers = record { names = c.args.names.now; programs = c.args.programs.now } in
    record { hears = message_heard o c.args.link c.args.message.now c.args.self.now _ c.self.view_is c.here_for-here.result (c.here_for-here.ensures.here o (sym c.requires)) c.on_message.new.self c.in-Ok.heard c.follow.result c.follow.new.self c.in-Ok.ensures.hears (c.follow.ensures.follows (offering o.programs (offer_for o (the_view c.self.inside) c.args.message.now) c.args.link)); last = tt }
