-- Whatever message stands first on a link in a sound state comes to something at the core that hears it.
use Rattle.std.proofs.Common.{◌≡◌, refl, sym, ◌∙◌, ap, subst, ℕ, ◌+◌, ◌==◌, ◌&&◌, not, Bool, true, false, List, map, position, slice_get, Option, Some, None}
use Rattle.std.proofs.lemmas.Bool.{eq-eqb}
use Rattle.fl_base.specs.declared.identity.CoreId.{CoreId}
use Rattle.fl_base.specs.Given.{given}
use Rattle.fl_base.specs.Numbered.{core_id, link_id, circuit_id}
use Rattle.fl_nameserv.specs.Registrations.{TheRegistration, by_iref}
use Rattle.fl_hop.specs.Openings.{is_next}
use Rattle.fl_hop.specs.Numbers.{next_due}
use Rattle.fl_hop.specs.Table.{TheCircuits, stands}
use Rattle.fl_monitor.specs.declared.opening.Opening.{Opening as Asked}
use Rattle.fl_monitor.specs.Fates.{Known, fate as known_fate, comes_along, is_offered_elsewhere, is_for_another, is_in_place}
use Rattle.fl_monitor.specs.Hearing.{IsMisrouted, heard_by, opened_at, refused_at}
use Rattle.fl_monitor.specs.Routing.{is_core, next_on as next_named}
use Rattle.fl_core.specs.Hearing.{has_end}
use Rattle.fl_model.specs.Rings.{OpeningLabel, MonitorLabel, open_circuit, circuit_opened, circuit_refused}
use Rattle.fl_model.specs.Monitors.{Link, Service, service_of, next_on}
use Rattle.fl_model.specs.State.{State}
use Rattle.fl_model.specs.SoundRoutes.{RouteLeads}
use Rattle.fl_world_refines.specs.Fragments.{service_id}
use Rattle.fl_world_refines.specs.CoreLaws.{registration_of}
use Rattle.fl_world_refines.specs.View.{TheWorld}
use Rattle.fl_world_refines.specs.ShowsState.{Shows}
use Rattle.fl_world_refines.proofs.PassingAnswers.{waiting_for_it}
use Rattle.fl_world_refines.proofs.PassingHeard.{HearFrames, known}
use Rattle.fl_world_refines.proofs.PassingHears.{Hearer, NothingMisrouted}
use Rattle.fl_world_refines.proofs.PassingInPlace.{named_place, none_named, along, no_end, few_bindings, no_entry, due_number}
use Rattle.fl_world_refines.proofs.PassingKnows.{OpeningHere, opening_here, at_core, found}
use Rattle.fl_world_refines.proofs.PassingLinkSides.{LinkedTo}
use Rattle.fl_world_refines.proofs.PassingRings.{Showings}

-- where the monitor finds no core behind this one, the machine doesn't
none_behind : (cores : List ℕ) (core : ℕ) → next_named (map core_id cores) core ≡ None → next_on cores core ≡ None
none_behind cores core h =
    by (position (λ (c : ℕ). c == core) cores)
    (ap (λ (o : Option ℕ). given o None λ place. slice_get (map core_id cores) (place + 1)) (sym (named_place cores core)) ∙ h)
  where
    by : (o : Option ℕ) → (given o None λ place. slice_get (map core_id cores) (place + 1)) ≡ None → given o None (λ j. slice_get cores (j + 1)) ≡ None
    by None q = refl
    by (Some j) q = none_named cores (j + 1) q

six : (a b c d e f : Bool) → a ≡ true → b ≡ true → c ≡ false → d ≡ false → e ≡ true → f ≡ false → (a && b && not c && not d && e && not f) ≡ true
six a b c d e f p q r u v x =
    ap (λ (y : Bool). y && b && not c && not d && e && not f) p ∙ ap (λ (y : Bool). true && y && not c && not d && e && not f) q
    ∙ ap (λ (y : Bool). true && true && not y && not d && e && not f) r ∙ ap (λ (y : Bool). true && true && true && not y && e && not f) u
    ∙ ap (λ (y : Bool). true && true && true && true && y && not f) v ∙ ap (λ (y : Bool). true && true && true && true && true && not y) x

module _ (w : TheWorld) (s : State) (core neighbour l : ℕ) (link : Link) (shows : Shows w s) (t : LinkedTo w s core neighbour l link) (o : OpeningLabel)
    (h : OpeningHere s neighbour core o) (d : Rattle.fl_ring.specs.Duo.TheDuo) where
  lead : RouteLeads s h.route h.routed.binding
  lead = shows.sound.routes h.binding h.route h.routed

  number_is : t.k.circuits.core ≡ core
  number_is = (shows.sound.cores core t.k t.k_is).number

  abbrev asked : Asked
  asked = record { binding = o.binding; service = service_id o.service; path = map core_id o.path }

  service_is : service_of s.services o.service ≡ Some lead.service
  service_is = ap (service_of s.services) (sym h.service) ∙ lead.service_is

  pub for_this : is_for_another w.names t.k.circuits asked ≡ false
  for_this = by (next_named (map core_id o.path) t.k.circuits.core) refl
    where
      by : (p : Option CoreId) → next_named (map core_id o.path) t.k.circuits.core ≡ p
          → given p (is_offered_elsewhere w.names t.k.circuits.core o.service) (λ next. false) ≡ false
      by None q =
          let none : next_on o.path t.k.circuits.core ≡ None = none_behind o.path t.k.circuits.core q in
          ap (λ (p : Option TheRegistration). given p false λ r. not (r.service.core.0 == t.k.circuits.core))
          (found w s core neighbour l link shows t o h d lead.service none service_is)
          ∙ ap not (eq-eqb lead.service.dispatcher.core t.k.circuits.core (at_core w s core neighbour l link shows t o h d lead.service none service_is ∙ sym number_is))
      by (Some next) q = refl

pub nothing_misrouted : (law : Showings) (frame : HearFrames) → NothingMisrouted law frame
nothing_misrouted law frame w s core neighbour l link (open_circuit o) frag d h misrouted =
    let due = opening_here w s core neighbour l link o frag h.shows.sound h.linked h.message in
    misrouted (heard_by o.binding (circuit_id o.circuit)
    (known_fate (known law frame w s h.shows core neighbour l link h.linked (open_circuit o) frag h.message h.ring d h.showing) h.linked.k.circuits l
    (record { binding = o.binding; service = service_id o.service; path = map core_id o.path }))) (
      six (is_next (next_due h.linked.k.circuits l) o.circuit) _ (has_end h.linked.c o.binding) (stands h.linked.k.circuits o.binding)
          (comes_along h.linked.k.circuits l (map core_id o.path))
          (is_for_another w.names h.linked.k.circuits (record { binding = o.binding; service = service_id o.service; path = map core_id o.path }))
          (due_number w s core neighbour l link h.shows h.linked o due h.message.first h.message.first_is h.message.label)
          (few_bindings w s core neighbour l link h.shows h.linked o due)
          (no_end w s core neighbour l link h.shows h.linked o due)
          (no_entry w s core neighbour l link h.shows h.linked o due)
          (along w s core neighbour l link h.shows h.linked o due)
          (for_this w s core neighbour l link h.shows h.linked o due d),
      refl,
    )
nothing_misrouted law frame w s core neighbour l link (circuit_opened c) frag d h misrouted =
    let (hop, waiting) = waiting_for_it w s core neighbour l link h.shows h.linked (circuit_opened c) c h.message.first h.message.first_is h.message.label refl in
    misrouted (opened_at (circuit_id c) hop.binding hop.way) (hop, waiting, refl)
nothing_misrouted law frame w s core neighbour l link (circuit_refused c fault) frag d h misrouted =
    let (hop, waiting) = waiting_for_it w s core neighbour l link h.shows h.linked (circuit_refused c fault) c h.message.first h.message.first_is h.message.label refl in
    misrouted (refused_at fault hop.binding hop.way) (hop, waiting, refl)
