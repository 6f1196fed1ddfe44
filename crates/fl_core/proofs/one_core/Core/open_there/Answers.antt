use Rattle.std.proofs.Common.{◌∙◌, ap, sym, subst, ℕ, ◌<◌, length, List, ◌++◌, ◌∷◌, [], None}
use Rattle.fl_link.specs.Queue.{TheQueue}
use Rattle.fl_endpoint.specs.View.{fresh}
use Rattle.fl_core.specs.declared.wiring.WiredEnd.{WiredEnd}
use Rattle.fl_core.specs.View.{client_of, circuit_wired_end}
use Rattle.fl_core.specs.Making.{asked}
use Rattle.fl_core.proofs.Begun.{has_wired_end_kept, no_place_asked, link_opened, opens_length}
use Rattle.fl_core.proofs.one_core.Core.open_there.Goals as goal

pub invariant_of-self-in-Ok-add_client_end : goal.invariant_of-self-in-Ok-add_client_end
invariant_of-self-in-Ok-add_client_end c =
    let opens = c.in-Ok-add_client_end.ensures.begins.1.1 in
    let there = subst (λ (n : ℕ). c.args.link.0 < n) (sym c.self.invariant.link_sides) (link_opened c.args.link c.args.opening.now c.self.inside.monitor c.add_client_end.new.monitor _ opens) in
    let same_count = ap (λ (qs : List TheQueue). length qs) c.make_arrivals.ensures.arrivals in
    has_wired_end_kept c.args.self.now _ c.self.view_is c.self.invariant c.args.dispatcher (fresh c.args.program None) (client_of c.args.opening.now.binding) c.args.link c.in-Ok-add_client_end.place c.add_client_end.new.board c.add_client_end.new.monitor c.in-Ok.queue c.put_circuit_wired_end.new.wired_ends.items c.put_circuit_wired_end.new.places.items c.put_circuit_wired_end.new.arrivals.items
    c.requires.few c.requires.new c.in-Ok-add_client_end.ensures.begins.0 (opens_length c.args.link c.args.opening.now c.self.inside.monitor c.add_client_end.new.monitor _ opens) there c.in-Ok.ensures.queue
    (c.put_circuit_wired_end.ensures.wired_ends ∙ ap (λ (ps : List WiredEnd). ps ++ circuit_wired_end (client_of c.args.opening.now.binding) c.args.link (length c.make_arrivals.new.arrivals.items) ∷ []) c.make_arrivals.ensures.wired_ends ∙ ap (λ (n : ℕ). c.self.inside.wired_ends.items ++ circuit_wired_end (client_of c.args.opening.now.binding) c.args.link n ∷ []) same_count)
    c.put_circuit_wired_end.ensures.places
    (c.put_circuit_wired_end.ensures.arrivals ∙ ap (λ (qs : List TheQueue). qs ++ c.in-Ok.queue ∷ []) c.make_arrivals.ensures.arrivals)

pub returns-in-Err : goal.returns-in-Err
returns-in-Err c = record { asks = no_place_asked (asked c.args.dispatcher c.args.program c.args.link c.args.opening.now) c.args.self.now _ c.self.view_is c.in-Err.fault c.make_arrivals.new.wired_ends.items c.make_arrivals.new.arrivals.items c.make_arrivals.ensures.wired_ends c.make_arrivals.ensures.arrivals c.in-Err.ensures.refused }
