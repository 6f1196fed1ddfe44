-- The server's end that a message makes, and the offer that it is made for.
use Rattle.std.proofs.Common.{◌≡◌, refl, sym, ap, ◌∙◌, subst, ℕ, ◌<◌, ◌==◌, ◌&&◌, ◌||◌, nat_lt, not, Bool, true, false, if◌then◌else◌, length, slice_get, Option, Some, None, is_some, arith}
use Rattle.fl_base.specs.declared.identity.LinkId.{LinkId}
use Rattle.fl_base.specs.declared.identity.CoreId.{CoreId}
use Rattle.fl_base.specs.declared.identity.Circuit.{Circuit}
use Rattle.fl_base.specs.Given.{given}
use Rattle.fl_hop.specs.declared.entry.HopTarget.{HopTarget}
use Rattle.fl_hop.specs.declared.entry.HopTarget.TheVariants.{Link, End}
use Rattle.fl_hop.specs.Table.{TheCircuits, link_of, stands}
use Rattle.fl_hop.specs.Numbers.{next_own, next_due}
use Rattle.fl_hop.specs.Openings.{is_next}
use Rattle.fl_hop.proofs.Cells.{is_less}
use Rattle.fl_nameserv.specs.Registrations.{TheRegistration, by_iref}
use Rattle.fl_core.specs.BoardView.{TheDispatcher, TheBoard}
use Rattle.fl_monitor.specs.declared.opening.Opening.{Opening}
use Rattle.fl_monitor.specs.declared.heard.MessageOutcome.{MessageOutcome}
use Rattle.fl_monitor.specs.declared.message.MonitorMessage.{MonitorMessage}
use Rattle.fl_monitor.specs.declared.message.MonitorMessage.TheVariants.{OpenCircuit, CircuitOpened, CircuitRefused}
use Rattle.fl_monitor.specs.Routing.{next_on}
use Rattle.fl_monitor.specs.Fates.{Known, arrival, passage, fate, comes_along, is_for_another}
use Rattle.fl_monitor.specs.Hearing.{heard_by, opened_at, refused_at, opening_of, ComesTo, circuit_in}
use Rattle.fl_core.specs.declared.hearing.MadeServer.{MadeServer}
use Rattle.fl_core.specs.declared.hearing.OfferedService.{OfferedService}
use Rattle.fl_core.specs.View.{TheCore, place_of, client_of, server_of}
use Rattle.fl_core.specs.Making.{HasPlace}
use Rattle.fl_core.specs.Hearing.{Offers, has_end, has_place, may_offer, offer_for, known_for}
use Rattle.fl_core.specs.Inside.{server_in, LeadsTo}

-- ---- an opening that ends here

pub record MadeFor (kn : Known) (m : MonitorMessage) (made : MadeServer) : Type 0 where
  pub opening : Opening
  pub opening_is : opening_of m ≡ Some opening
  pub binding : made.binding ≡ opening.binding
  pub few : opening.binding < 1024
  pub none : kn.here.has_end ≡ false
  pub place : kn.here.has_place ≡ true
  pub registration : TheRegistration
  pub service : by_iref opening.service.0 kn.names ≡ Some registration
  pub dispatcher : made.dispatcher ≡ registration.service.dispatcher
  pub circuit : made.circuit ≡ circuit_in m

six : (a b c d e f : Bool) → (a && b && not c && d && e && f) ≡ true → (b ≡ true) × (c ≡ false)
six true true false d e f h = (refl, refl)
six true true true d e f h = absurd (cc)
six true false c d e f h = absurd (cc)
six false b c d e f h = absurd (cc)

-- an opening whose route ends here makes an end where the service is known and its dispatcher has a place
pub record EndsHere (kn : Known) (iref binding : ℕ) (c : Circuit) (made : MadeServer) : Type 0 where
  pub registration : TheRegistration
  pub service : by_iref iref kn.names ≡ Some registration
  pub place : kn.here.has_place ≡ true
  pub dispatcher : made.dispatcher ≡ registration.service.dispatcher
  pub binding_is : made.binding ≡ binding
  pub circuit_is : made.circuit ≡ c

at_last : (kn : Known) (iref binding : ℕ) (c : Circuit) (made : MadeServer) (x : Option TheRegistration) (place : Bool) → by_iref iref kn.names ≡ x → kn.here.has_place ≡ place
    → server_in (heard_by binding c (arrival kn iref)) ≡ Some made → EndsHere kn iref binding c made
at_last kn iref binding c made None place is there h = let g = rw is at h in absurd (cc (g))
at_last kn iref binding c made (Some r) false is there h = let g = rw (is, there) at h in absurd (cc (g))
at_last kn iref binding c made (Some r) true is there h =
    let g = rw (is, there) at h in
    let e : (let x : MadeServer = record { binding = binding; dispatcher = r.service.dispatcher; circuit = c } in x) ≡ made = cc (g) in
    record { registration = r; service = is; place = there; dispatcher = sym (ap (λ (x : MadeServer). x.dispatcher) e); binding_is = sym (ap (λ (x : MadeServer). x.binding) e); circuit_is = sym (ap (λ (x : MadeServer). x.circuit) e) }

crossing : (t : TheCircuits) (l next m binding : ℕ) (c : Circuit) (made : MadeServer) (same : Bool) (y : Option ℕ) → link_of t next ≡ Some m → (l == m) ≡ same → next_own t m ≡ y
    → server_in (heard_by binding c (passage t l next)) ≡ Some made → ⊥
crossing t l next m binding c made true y is e f h = let g = rw (is, e) at h in absurd (cc (g))
crossing t l next m binding c made false None is e f h = let g = rw (is, e, f) at h in absurd (cc (g))
crossing t l next m binding c made false (Some n) is e f h = let g = rw (is, e, f) at h in absurd (cc (g))

on_the_way : (t : TheCircuits) (l next binding : ℕ) (c : Circuit) (made : MadeServer) (x : Option ℕ) → link_of t next ≡ x → server_in (heard_by binding c (passage t l next)) ≡ Some made → ⊥
on_the_way t l next binding c made None is h = let g = rw is at h in absurd (cc (g))
on_the_way t l next binding c made (Some m) is h = crossing t l next m binding c made (l == m) (next_own t m) is refl refl h

by_route : (kn : Known) (t : TheCircuits) (l : ℕ) (o : Opening) (binding : ℕ) (c : Circuit) (made : MadeServer) (n : Option CoreId) → next_on o.path t.core ≡ n
    → server_in (heard_by binding c (fate kn t l o)) ≡ Some made → EndsHere kn o.service.0 binding c made
by_route kn t l o binding c made None is h =
    at_last kn o.service.0 binding c made (by_iref o.service.0 kn.names) kn.here.has_place refl refl (rw is at h)
by_route kn t l o binding c made (Some next) is h = absurd (on_the_way t l next.0 binding c made (link_of t next.0) refl (rw is at h))

opened_makes : (c : Circuit) (binding : ℕ) (way : HopTarget) (made : MadeServer) → server_in (opened_at c binding way) ≡ Some made → ⊥
opened_makes c binding (Link l d) made h = absurd (cc)
opened_makes c binding (End e) made h = absurd (cc)

refused_makes : (reason binding : ℕ) (way : HopTarget) (made : MadeServer) → server_in (refused_at reason binding way) ≡ Some made → ⊥
refused_makes reason binding (Link l d) made h = absurd (cc)
refused_makes reason binding (End e) made h = absurd (cc)

pub made_for : (kn : Known) (t : TheCircuits) (l : LinkId) (m : MonitorMessage) (h : MessageOutcome) (made : MadeServer) → ComesTo kn t l m h → server_in h ≡ Some made → MadeFor kn m made
made_for kn t l (OpenCircuit c binding service path) h made comes is =
    let o : Opening = record { binding = binding; service = service; path = path } in
    let parts = six (is_next (next_due t l.0) c.0) (nat_lt binding 1024) kn.here.has_end (not (stands t binding)) (comes_along t l.0 path) (not (is_for_another kn.names t o)) comes.0 in
    let ends = by_route kn t l.0 o binding c made (next_on path t.core) refl (sym (ap server_in comes.1) ∙ is) in
    record {
      opening = o;
      opening_is = refl;
      binding = ends.binding_is;
      few = is_less binding 1024 parts.0;
      none = parts.1;
      place = ends.place;
      registration = ends.registration;
      service = ends.service;
      dispatcher = ends.dispatcher;
      circuit = ends.circuit_is;
    }
made_for kn t l (CircuitOpened c) h made (hop, waits, h_is) is = absurd (opened_makes c hop.binding hop.way made (sym (ap server_in h_is) ∙ is))
made_for kn t l (CircuitRefused c reason) h made (hop, waits, h_is) is = absurd (refused_makes reason hop.binding hop.way made (sym (ap server_in h_is) ∙ is))

-- ---- an offer

pub record OfferFor (o : Offers) (k : TheCore) (m : MonitorMessage) (offer : OfferedService) : Type 0 where
  pub opening : Opening
  pub opening_is : opening_of m ≡ Some opening
  pub registration : TheRegistration
  pub service : by_iref opening.service.0 o.names ≡ Some registration
  pub may : may_offer o k registration ≡ true
  pub dispatcher : offer.dispatcher ≡ registration.service.dispatcher
  pub interface : offer.interface ≡ registration.service.interface

offer_by : (o : Offers) (k : TheCore) (m : MonitorMessage) (opening : Opening) (offer : OfferedService) (x : Option TheRegistration) → opening_of m ≡ Some opening → by_iref opening.service.0 o.names ≡ x
    → given x None (λ r. if may_offer o k r then Some (let f : OfferedService = record { dispatcher = r.service.dispatcher; interface = r.service.interface } in f) else None) ≡ Some offer
    → OfferFor o k m offer
offer_by o k m opening offer None is found h = absurd (cc)
offer_by o k m opening offer (Some r) is found h = go (may_offer o k r) refl h where
  go : (may : Bool) → may_offer o k r ≡ may → (if may then Some (let f : OfferedService = record { dispatcher = r.service.dispatcher; interface = r.service.interface } in f) else None) ≡ Some offer → OfferFor o k m offer
  go false e g = absurd (cc)
  go true e g =
      let same : (let f : OfferedService = record { dispatcher = r.service.dispatcher; interface = r.service.interface } in f) ≡ offer = cc in
      record { opening = opening; opening_is = is; registration = r; service = found; may = e; dispatcher = sym (ap (λ (f : OfferedService). f.dispatcher) same); interface = sym (ap (λ (f : OfferedService). f.interface) same) }

pub offer_found : (o : Offers) (k : TheCore) (m : MonitorMessage) (offer : OfferedService) → offer_for o k m ≡ Some offer → OfferFor o k m offer
offer_found o k (OpenCircuit c binding service path) offer h =
    let opening : Opening = record { binding = binding; service = service; path = path } in
    offer_by o k (OpenCircuit c binding service path) opening offer (by_iref service.0 o.names) refl refl h
offer_found o k (CircuitOpened c) offer h = absurd (cc)
offer_found o k (CircuitRefused c reason) offer h = absurd (cc)

three : (a b c : Bool) → (a && b && c) ≡ true → (b ≡ true) × (c ≡ true)
three true true true h = (refl, refl)
three true true false h = absurd (cc)
three true false c h = absurd (cc)
three false b c h = absurd (cc)

place_left : (b : TheBoard) (n : ℕ) (x : Option TheDispatcher) → slice_get b.dispatchers n ≡ x → given x false (λ d. nat_lt (length d.ends) 1024) ≡ true → HasPlace b n
place_left b n None is h = absurd (cc)
place_left b n (Some d) is h = (d, is, is_less (length d.ends) 1024 h)

-- the end that is made is at the dispatcher of the offer
pub offer_leads : (o : Offers) (k : TheCore) (l : LinkId) (m : MonitorMessage) (offer : OfferedService) → OfferFor o k m offer → LeadsTo (known_for o k m) k.monitor.circuits l m offer.dispatcher (circuit_in m)
offer_leads o k l m offer f h made comes is =
    let g = made_for (known_for o k m) k.monitor.circuits l m h made comes is in
    let openings : g.opening ≡ f.opening = cc (g.opening_is, f.opening_is) in
    let services : by_iref f.opening.service.0 o.names ≡ Some g.registration = subst (λ (x : Opening). by_iref x.service.0 o.names ≡ Some g.registration) openings g.service in
    let same : g.registration ≡ f.registration = cc (services, f.service) in
    (g.dispatcher ∙ ap (λ (r : TheRegistration). r.service.dispatcher) same ∙ sym f.dispatcher, g.circuit)

-- without an offer no end is made
pub none_made : (o : Offers) (k : TheCore) (l : LinkId) (m : MonitorMessage) (h : MessageOutcome) (made : MadeServer) → offer_for o k m ≡ None → ComesTo (known_for o k m) k.monitor.circuits l m h → server_in h ≡ Some made → ⊥
none_made o k l m h made missing comes is =
    let g = made_for (known_for o k m) k.monitor.circuits l m h made comes is in
    let place : is_some (offer_for o k m) ≡ true = g.place in
    let none : is_some (offer_for o k m) ≡ false = ap is_some missing in
    absurd (cc (place, none))

either_false : (a b : Bool) → (a || b) ≡ false → b ≡ false
either_false false b h = h
either_false true b h = absurd (cc)

not_some : {X : Type 0} (x : Option X) → is_some x ≡ false → x ≡ None
not_some None h = refl
not_some (Some x) h = absurd (cc)

-- the end that is made has a new name
pub made_new : (o : Offers) (k : TheCore) (m : MonitorMessage) (made : MadeServer) → MadeFor (known_for o k m) m made → (made.binding < 1024) × (place_of k (server_of made.binding) ≡ None)
made_new o k m made g =
    let none : has_end k g.opening.binding ≡ false = sym (ap (λ (x : Option Opening). given x false (λ opening. has_end k opening.binding)) g.opening_is) ∙ g.none in
    let free = not_some (place_of k (server_of g.opening.binding)) (either_false (is_some (place_of k (client_of g.opening.binding))) (is_some (place_of k (server_of g.opening.binding))) none) in
    (omega (arith, g.binding, g.few), ap (λ (n : ℕ). place_of k (server_of n)) g.binding ∙ free)
