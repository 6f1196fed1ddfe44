use Rattle.std.proofs.Common.{sym, ◌∙◌, refl, ap, length}
use Rattle.std.proofs.lemmas.Option.{slice_get_read}
use Rattle.fl_compile.specs.Programs.{program_of}
use Rattle.fl_core.specs.BoardView.{TheBoard}
use Rattle.fl_core.specs.contracts.one_core.Core.{the_view}
use Rattle.fl_monitor.specs.Monitors.{TheMonitor}
use Rattle.fl_core.specs.Sound.{kinds_seated}
use Rattle.fl_core.specs.Hearing.{Offers, offer_for, offering}
use Rattle.fl_core.proofs.Hearsay.{leads_so, with_kept, unheard_length, roomy_kept, hears_length, end_none, not_heard_with, new_name}
use Rattle.fl_core.proofs.Served.{none_served, server_kept, server_served}
use Rattle.fl_core.proofs.one_core.Core.hear_offered.Goals as goal

pub hear_with_end-requires-clause-leads : goal.hear_with_end-requires-clause-leads
hear_with_end-requires-clause-leads c =
    let o : Offers = record { names = c.args.names.now; programs = c.args.programs.now } in
    leads_so o c.args.link c.args.message.now c.args.self.now _ c.self.view_is c.here_for-here.result (c.here_for-here.ensures.here o (sym c.requires.offer)) c.args.offer c.requires.offer

pub invariant_of-self-in-Err-hear_with_end : goal.invariant_of-self-in-Err-hear_with_end
invariant_of-self-in-Err-hear_with_end c =
    let kept = with_kept _ c.args.link c.args.message.now (program_of c.index-programs-offer.result) c.self.inside.board c.hear_with_end.new.board c.self.inside.monitor c.hear_with_end.new.monitor c.in-Err-hear_with_end.fault c.in-Err-hear_with_end.ensures.hears in
    roomy_kept _ c.hear_with_end.new.board c.hear_with_end.new.monitor c.unheard.new.link_sides.items c.make_arrivals.new.wired_ends.items c.make_arrivals.new.arrivals.items c.self.invariant (ap (λ (b : TheBoard). kinds_seated b.seats) kept.0) (ap (λ (m : TheMonitor). length m.circuits.links) kept.1) (unheard_length c.args.link c.in-Err-hear_with_end.fault c.self.inside.link_sides.items c.unheard.new.link_sides.items _ c.unheard.ensures.unheard) c.make_arrivals.ensures.wired_ends c.make_arrivals.ensures.arrivals

pub invariant_of-self-in-None : goal.invariant_of-self-in-None
invariant_of-self-in-None c =
    let none = sym c.server_in.ensures.made ∙ c.in-None.is in
    let kept = end_none _ c.in-Ok-hear_with_end.joined.place _ c.self.inside.board c.hear_with_end.new.board none c.in-Ok-hear_with_end.ensures.hears.1 in
    roomy_kept _ c.hear_with_end.new.board c.hear_with_end.new.monitor c.self.inside.link_sides.items c.make_arrivals.new.wired_ends.items c.make_arrivals.new.arrivals.items c.self.invariant (ap (λ (b : TheBoard). kinds_seated b.seats) kept) (hears_length _ c.args.link c.args.message.now c.self.inside.monitor c.hear_with_end.new.monitor c.in-Ok-hear_with_end.joined.heard c.in-Ok-hear_with_end.ensures.hears.0) refl c.make_arrivals.ensures.wired_ends c.make_arrivals.ensures.arrivals

pub invariant_of-self-in-Some : goal.invariant_of-self-in-Some
invariant_of-self-in-Some c =
    let o : Offers = record { names = c.args.names.now; programs = c.args.programs.now } in
    server_kept o c.args.link c.args.message.now c.args.self.now _ c.self.view_is c.here_for-here.result (c.here_for-here.ensures.here o (sym c.requires.offer)) c.hear_with_end.new.monitor c.in-Ok-hear_with_end.joined.heard c.in-Ok-hear_with_end.ensures.hears.0
    c.in-Some.made (sym c.server_in.ensures.made ∙ c.in-Some.is) c.index-programs-offer.result c.in-Ok-hear_with_end.joined.place c.hear_with_end.new.board c.register.new.self c.register.result c.in-Ok.queue c.register.new.from c.in-Ok-hear_with_end.ensures.hears.1 c.in-Ok.ensures.queue c.register.ensures.registers
    c.make_arrivals.new.wired_ends.items c.put_circuit_wired_end.new.wired_ends.items c.make_arrivals.new.arrivals.items c.put_circuit_wired_end.new.arrivals.items c.put_circuit_wired_end.new.places.items c.make_arrivals.ensures.wired_ends c.make_arrivals.ensures.arrivals c.put_circuit_wired_end.ensures.wired_ends c.put_circuit_wired_end.ensures.places c.put_circuit_wired_end.ensures.arrivals c.self.invariant c.requires.there

pub returns-in-None : goal.returns-in-None
returns-in-None c =
    let o : Offers = record { names = c.args.names.now; programs = c.args.programs.now } in
    let none = sym c.server_in.ensures.made ∙ c.in-None.is in
    let kept = end_none (program_of c.index-programs-offer.result) c.in-Ok-hear_with_end.joined.place _ c.self.inside.board c.hear_with_end.new.board none c.in-Ok-hear_with_end.ensures.hears.1 in
    record { hears = none_served o c.args.link c.args.message.now c.args.self.now _ c.self.view_is c.here_for-here.result (c.here_for-here.ensures.here o (sym c.requires.offer)) c.hear_with_end.new.monitor c.in-Ok-hear_with_end.joined.heard c.in-Ok-hear_with_end.ensures.hears.0 c.follow.result c.follow.new.self c.hear_with_end.new.board c.make_arrivals.new.wired_ends.items c.make_arrivals.new.arrivals.items kept c.make_arrivals.ensures.wired_ends c.make_arrivals.ensures.arrivals (c.follow.ensures.follows (offering o.programs (offer_for o (the_view c.self.inside) c.args.message.now) c.args.link)) }

pub returns-in-Some : goal.returns-in-Some
returns-in-Some c =
    let o : Offers = record { names = c.args.names.now; programs = c.args.programs.now } in
    record {
      hears = server_served o c.args.link c.args.message.now c.args.self.now _ c.self.view_is c.here_for-here.result (c.here_for-here.ensures.here o (sym c.requires.offer)) c.hear_with_end.new.monitor c.in-Ok-hear_with_end.joined.heard c.in-Ok-hear_with_end.ensures.hears.0
          c.in-Some.made (sym c.server_in.ensures.made ∙ c.in-Some.is) c.index-programs-offer.result c.in-Ok-hear_with_end.joined.place c.hear_with_end.new.board c.register.new.self c.register.result c.in-Ok.queue c.register.new.from c.in-Ok-hear_with_end.ensures.hears.1 c.in-Ok.ensures.queue c.register.ensures.registers
          c.make_arrivals.new.wired_ends.items c.put_circuit_wired_end.new.wired_ends.items c.make_arrivals.new.arrivals.items c.put_circuit_wired_end.new.arrivals.items c.put_circuit_wired_end.new.places.items c.make_arrivals.ensures.wired_ends c.make_arrivals.ensures.arrivals c.put_circuit_wired_end.ensures.wired_ends c.put_circuit_wired_end.ensures.places c.put_circuit_wired_end.ensures.arrivals
          c.args.offer c.requires.offer (slice_get_read c.args.programs.now (length c.args.programs.now) c.args.offer.interface c.index-programs-offer.result refl c.requires.program c.index-programs-offer.is);
    }

pub returns-in-Err-hear_with_end : goal.returns-in-Err-hear_with_end
returns-in-Err-hear_with_end c =
    let o : Offers = record { names = c.args.names.now; programs = c.args.programs.now } in
    record {
      hears = not_heard_with o c.args.link c.args.message.now c.args.self.now _ c.self.view_is c.here_for-here.result (c.here_for-here.ensures.here o (sym c.requires.offer)) (program_of c.index-programs-offer.result) c.in-Err-hear_with_end.fault
          c.hear_with_end.new.board c.hear_with_end.new.monitor c.unheard.result c.unheard.new.link_sides.items c.make_arrivals.new.wired_ends.items c.make_arrivals.new.arrivals.items
          c.in-Err-hear_with_end.ensures.hears c.unheard.ensures.unheard c.make_arrivals.ensures.wired_ends c.make_arrivals.ensures.arrivals;
    }

pub invariant_of-self : goal.invariant_of-self
invariant_of-self c = roomy_kept _ c.self.inside.board c.self.inside.monitor c.self.inside.link_sides.items c.make_arrivals.new.wired_ends.items c.make_arrivals.new.arrivals.items c.self.invariant refl refl refl c.make_arrivals.ensures.wired_ends c.make_arrivals.ensures.arrivals

pub put_circuit_wired_end-requires-clause-few : goal.put_circuit_wired_end-requires-clause-few
put_circuit_wired_end-requires-clause-few c =
    let o : Offers = record { names = c.args.names.now; programs = c.args.programs.now } in
    (new_name o c.args.link c.args.message.now c.args.self.now _ c.self.view_is c.here_for-here.result (c.here_for-here.ensures.here o (sym c.requires.offer)) c.in-Ok-hear_with_end.joined.heard c.in-Some.made c.in-Ok-hear_with_end.ensures.hears.0.0 (sym c.server_in.ensures.made ∙ c.in-Some.is)).0

pub put_circuit_wired_end-requires-clause-all : goal.put_circuit_wired_end-requires-clause-all
put_circuit_wired_end-requires-clause-all c = c.self.invariant.slots

pub hear_with_end-requires-clause-place : goal.hear_with_end-requires-clause-place
hear_with_end-requires-clause-place c = c.in-Ok.ensures.place
