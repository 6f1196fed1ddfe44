-- Which message makes a server's end, and where its binding's route ends.
use Rattle.std.proofs.Common.{◌≡◌, refl, sym, ◌∙◌, ap, subst, ℕ, ◌+◌, ◌-◌, ◌≤◌, Bool, true, false, if◌then◌else◌, List, length, reverse, slice_get, Option, Some, None, arith}
use Rattle.fl_base.specs.Given.{given}
use Rattle.fl_hop.specs.declared.entry.HopTarget.{HopTarget}
use Rattle.fl_hop.specs.declared.entry.HopTarget.TheVariants.{Link as to_link, End as to_end}
use Rattle.fl_hop.specs.declared.entry.Hop.{Hop}
use Rattle.fl_hop.specs.Numbers.{next_own}
use Rattle.fl_hop.specs.Table.{TheCircuits, hop_at}
use Rattle.fl_compile.specs.declared.program.Program.{Program}
use Rattle.fl_ring.specs.Duo.{TheDuo}
use Rattle.fl_nameserv.specs.Registrations.{TheRegistration, by_iref}
use Rattle.fl_core.specs.View.{TheCore}
use Rattle.fl_core.specs.declared.hearing.OfferedService.{OfferedService}
use Rattle.fl_core.specs.Hearing.{Offers, may_offer, offer_of, IsCopyFor}
use Rattle.fl_world_refines.specs.Ends.{planned_of}
use Rattle.fl_world_refines.specs.CoreLaws.{registration_of}
use Rattle.fl_world_refines.proofs.Names.{names_agree}
use Rattle.fl_model.specs.Calls.{Planned}
use Rattle.fl_model.specs.Events.{DispatcherId}
use Rattle.fl_model.specs.Rings.{OpeningLabel, MonitorLabel, open_circuit, circuit_opened, circuit_refused}
use Rattle.fl_model.specs.Waits.{Dispatcher, has_places}
use Rattle.fl_model.specs.Monitors.{Core, Link, Service, service_of, link_to, can_say, saying, Heard, server_made, Hearing, Fate, goes_on, ends_at, fails, next_on, arrival, passage, fate}
use Rattle.fl_model.specs.Monitors.{hears_opening, hears_opened, hears_refused, hears}
use Rattle.fl_model.specs.State.{OpeningVerdict, undecided, Route, Back, over_route, Binding, State, interface_of}
use Rattle.fl_model.specs.Standing.{core_at}
use Rattle.fl_model.specs.SoundRoutes.{RouteLeads, NumbersGo, NoneBound, BoundBy, BoundWhere, EndsAreBound}
use Rattle.fl_model_laws.proofs.Arriving.{is_last}
use Rattle.fl_model_laws.proofs.Cases.{either, by_given_or}
use Rattle.fl_model_laws.proofs.Ways.{flipped_back}
use Rattle.fl_world_refines.specs.View.{TheWorld, with_ring}
use Rattle.fl_world_refines.specs.Linking.{offers_in}
use Rattle.fl_world_refines.specs.ShowsState.{Shows}
use Rattle.fl_world_refines.proofs.PassingKnows.{OpeningHere, core_stands, neighbour_stands}
use Rattle.fl_world_refines.proofs.JoiningShowings.{copied}
use Rattle.fl_world_refines.proofs.PassingLinkSides.{LinkedTo, some_too, mapped_get}
use Rattle.fl_world_refines.proofs.PassingLists.{some_is}

-- ---- which message makes it

-- an opening that ends here, at the dispatcher of its service
pub record MakesEnd (services : List Service) (k : Core) (m : MonitorLabel) (n : ℕ) (d : DispatcherId) (c : ℕ) : Type 0 where
  pub opening : OpeningLabel
  pub message : m ≡ open_circuit opening
  pub binding : opening.binding ≡ n
  pub circuit : opening.circuit ≡ c
  pub last : next_on opening.path k.circuits.core ≡ None
  pub service : Service
  pub service_is : service_of services opening.service ≡ Some service
  pub at : d ≡ service.dispatcher
  pub dispatcher : Dispatcher
  pub there : slice_get k.dispatchers d.place ≡ Some dispatcher

abbrev Makes : ℕ → DispatcherId → ℕ → Hearing → Type 0
Makes n d c h = h.heard ≡ server_made n d c

saying_made : (l : ℕ) (m : MonitorLabel) (t : TheCircuits) (x : Heard) (k : Core) (n : ℕ) (d : DispatcherId) (c : ℕ) → Makes n d c (saying l m t x k) → x ≡ server_made n d c
saying_made l m t x k n d c = either (λ (y : Hearing). Makes n d c y → x ≡ server_made n d c) (can_say l k) _ _ (λ q h. h) (λ q h. absurd (cc))

not_passed : (l x : ℕ) (hop : Hop) (way : HopTarget) (k : Core) (n : ℕ) (d : DispatcherId) (c : ℕ) → Makes n d c (hears_opened l x hop way k) → ⊥
not_passed l x hop (to_link m y) k n d c h = absurd (let q = saying_made m.0 _ _ _ k n d c h in cc)
not_passed l x hop (to_end e) k n d c h = absurd (cc)

not_refused : (l x fault : ℕ) (hop : Hop) (way : HopTarget) (k : Core) (n : ℕ) (d : DispatcherId) (c : ℕ) → Makes n d c (hears_refused l x fault hop way k) → ⊥
not_refused l x fault hop (to_link m y) k n d c h = absurd (let q = saying_made m.0 _ _ _ k n d c h in cc)
not_refused l x fault hop (to_end e) k n d c h = absurd (cc)

pub record IsEnding (o : OpeningLabel) (f : Fate) (n : ℕ) (d : DispatcherId) (c : ℕ) : Type 0 where
  pub fate_is : f ≡ ends_at d
  pub binding : o.binding ≡ n
  pub circuit : o.circuit ≡ c

by_fate : (l : ℕ) (o : OpeningLabel) (f : Fate) (k : Core) (n : ℕ) (d : DispatcherId) (c : ℕ) → Makes n d c (hears_opening l o f k) → IsEnding o f n d c
by_fate l o (goes_on m x) k n d c h = absurd (let q = saying_made m _ _ _ k n d c h in cc)
by_fate l o (ends_at y) k n d c h =
    let q : server_made o.binding y o.circuit ≡ server_made n d c = saying_made l _ _ _ k n d c h in
    let place : y ≡ d = cc in
    record { fate_is = ap (λ (x : DispatcherId). ends_at x) place; binding = cc; circuit = cc }
by_fate l o (fails fault) k n d c h = absurd (let q = saying_made l _ _ _ k n d c h in cc)

-- where an opening ends
pub record EndsAt (services : List Service) (o : OpeningLabel) (k : Core) (d : DispatcherId) : Type 0 where
  pub last : next_on o.path k.circuits.core ≡ None
  pub service : Service
  pub service_is : service_of services o.service ≡ Some service
  pub at : d ≡ service.dispatcher
  pub dispatcher : Dispatcher
  pub there : slice_get k.dispatchers d.place ≡ Some dispatcher

no_passage : (next : ℕ) (k : Core) (d : DispatcherId) → passage next k ≡ ends_at d → ⊥
no_passage next k d =
    by_given_or (λ (f : Fate). f ≡ ends_at d → ⊥) (link_to next k) _ _ (λ none h. absurd (cc))
    (λ l q. by_given_or (λ (f : Fate). f ≡ ends_at d → ⊥) (next_own k.circuits l) _ _ (λ none h. absurd (cc)) (λ x r h. absurd (cc)))

arrives : (services : List Service) (o : OpeningLabel) (k : Core) (d : DispatcherId) → next_on o.path k.circuits.core ≡ None → arrival services o.service k ≡ ends_at d
    → EndsAt services o k d
arrives services o k d last =
    by_given_or (λ (f : Fate). f ≡ ends_at d → EndsAt services o k d) (service_of services o.service) _ _ (λ none h. absurd (cc))
    (λ x x_is. by_given_or (λ (f : Fate). f ≡ ends_at d → EndsAt services o k d) (slice_get k.dispatchers x.dispatcher.place) _ _ (λ none h. absurd (cc))
    (λ y y_is. either (λ (f : Fate). f ≡ ends_at d → EndsAt services o k d) (has_places 1 y) _ _
    (λ room h.
    let same : x.dispatcher ≡ d = cc in
    record {
      last = last;
      service = x;
      service_is = x_is;
      at = sym same;
      dispatcher = y;
      there = ap (λ (z : DispatcherId). slice_get k.dispatchers z.place) (sym same) ∙ y_is;
    })
    (λ room h. absurd (cc))))

ends_there : (services : List Service) (o : OpeningLabel) (k : Core) (d : DispatcherId) → fate services o k ≡ ends_at d → EndsAt services o k d
ends_there services o k d =
    by_given_or (λ (f : Fate). f ≡ ends_at d → EndsAt services o k d) (next_on o.path k.circuits.core) _ _ (λ none h. arrives services o k d none h)
    (λ next q h. absurd (no_passage next k d h))

pub makes_end : (services : List Service) (l : ℕ) (m : MonitorLabel) (k : Core) (n : ℕ) (d : DispatcherId) (c : ℕ) → (hears services l m k).heard ≡ server_made n d c
    → MakesEnd services k m n d c
makes_end services l (open_circuit o) k n d c h =
    let its = by_fate l o (fate services o k) k n d c h in
    let at = ends_there services o k d its.fate_is in
    record {
      opening = o;
      message = refl;
      binding = its.binding;
      circuit = its.circuit;
      last = at.last;
      service = at.service;
      service_is = at.service_is;
      at = at.at;
      dispatcher = at.dispatcher;
      there = at.there;
    }
makes_end services l (circuit_opened x) k n d c h =
    by_given_or (λ (h : Hearing). Makes n d c h → MakesEnd services k (circuit_opened x) n d c) (hop_at k.circuits l x) _ _ (λ none r. absurd (cc))
    (λ hop q r. absurd (not_passed l x hop hop.way k n d c r)) h
makes_end services l (circuit_refused x fault) k n d c h =
    by_given_or (λ (h : Hearing). Makes n d c h → MakesEnd services k (circuit_refused x fault) n d c) (hop_at k.circuits l x) _ _ (λ none r. absurd (cc))
    (λ hop q r. absurd (not_refused l x fault hop hop.way k n d c r)) h

-- ---- where the route ends

module _ (w : TheWorld) (s : State) (core neighbour l : ℕ) (link : Link) (shows : Shows w s) (t : LinkedTo w s core neighbour l link) (o : OpeningLabel) (h : OpeningHere s neighbour core o)
    (none : next_on o.path t.k.circuits.core ≡ None) where
  abbrev pub lead : RouteLeads s h.route h.routed.binding
  lead = shows.sound.routes h.binding h.route h.routed

  go : NumbersGo s h.route
  go = shows.sound.numbers h.binding h.route h.routed

  number_is : t.k.circuits.core ≡ core
  number_is = (shows.sound.cores core t.k t.k_is).number

  last_place : length h.route.cores - 1 ≡ length h.route.numbers
  last_place =
      let few : length h.route.numbers + 1 ≤ length h.route.cores = go.few in
      let ends : next_on h.route.cores core ≡ None = ap (λ (xs : List ℕ). next_on xs core) h.path ∙ ap (next_on o.path) (sym number_is) ∙ none in
      let short : length h.route.cores ≤ length h.route.numbers + 1 = is_last h.route.cores (length h.route.numbers) core (omega (arith, few)) h.to_is lead.differ ends in
      omega (arith, short, few)

  -- this core is the last, and the neighbour is the one before
  pub last_core : core_at h.route (length h.route.cores - 1) ≡ core
  last_core = ap (core_at h.route) last_place ∙ h.to_is

  pub first_back : slice_get (reverse h.route.cores) 0 ≡ Some core
  first_back =
      let some : 2 ≤ length h.route.cores = lead.some in
      flipped_back h.route.cores 0 core (omega (arith, some))
      (ap (slice_get h.route.cores) (let last = last_place in omega (arith, last)) ∙ core_stands w s core neighbour l link shows t o h)

  pub second_back : slice_get (reverse h.route.cores) 1 ≡ Some neighbour
  second_back =
      let some : 2 ≤ length h.route.cores = lead.some in
      flipped_back h.route.cores 1 neighbour (omega (arith, some))
      (ap (slice_get h.route.cores) (let last = last_place in omega (arith, last)) ∙ neighbour_stands w s core neighbour l link shows t o h)

  pub at_core : (x : Service) → service_of s.services o.service ≡ Some x → x.dispatcher.core ≡ core
  at_core x x_is =
      let same : x ≡ lead.service = some_is x lead.service (sym x_is ∙ ap (service_of s.services) (sym h.service) ∙ lead.service_is) in
      ap (λ (y : Service). y.dispatcher.core) same ∙ lead.last ∙ last_core

-- ---- the binding whose end is made

pub record Serves (s : State) (core neighbour n : ℕ) (d : DispatcherId) (k : Core) (o : OpeningLabel) : Type 0 where
  pub binding : Binding
  pub binding_is : slice_get s.bindings n ≡ Some binding
  pub route : Route
  pub back : binding.back ≡ over_route route
  pub none : NoneBound binding
  pub last : core_at route (length route.cores - 1) ≡ core
  pub first : slice_get (reverse route.cores) 0 ≡ Some core
  pub second : slice_get (reverse route.cores) 1 ≡ Some neighbour
  pub at_core : d.core ≡ core
  pub service : Service
  pub service_is : service_of s.services o.service ≡ Some service
  pub same_service : route.service ≡ o.service
  pub dispatcher : Dispatcher
  pub there : slice_get k.dispatchers d.place ≡ Some dispatcher

none_bound : (s : State) (n : ℕ) (route : Route) (b : Binding) → EndsAreBound s → slice_get s.bindings n ≡ Some b → b.back ≡ over_route route → route.verdict ≡ undecided → NoneBound b
none_bound s n route b h there back verdict =
    let by : BoundBy route route.verdict b = subst (λ (a : Back). BoundWhere a b) back (h n b there) in
    subst (λ (v : OpeningVerdict). BoundBy route v b) verdict by

pub serves : (w : TheWorld) (s : State) (core neighbour l : ℕ) (link : Link) (shows : Shows w s) (t : LinkedTo w s core neighbour l link) (m : MonitorLabel) (n c : ℕ) (d : DispatcherId)
    → (ends : MakesEnd s.services t.k m n d c) → OpeningHere s neighbour core ends.opening → Serves s core neighbour n d t.k ends.opening
serves w s core neighbour l link shows t m n c d ends h =
    let number : n ≡ h.binding = sym ends.binding ∙ sym h.binding_is in
    record {
      binding = h.routed.binding;
      binding_is = ap (slice_get s.bindings) number ∙ h.routed.there;
      route = h.route;
      back = h.routed.back;
      none = none_bound s h.binding h.route h.routed.binding shows.sound.bound h.routed.there h.routed.back h.verdict;
      last = last_core w s core neighbour l link shows t ends.opening h ends.last;
      first = first_back w s core neighbour l link shows t ends.opening h ends.last;
      second = second_back w s core neighbour l link shows t ends.opening h ends.last;
      at_core = ap (λ (x : DispatcherId). x.core) ends.at ∙ at_core w s core neighbour l link shows t ends.opening h ends.last ends.service ends.service_is;
      service = ends.service;
      service_is = ends.service_is;
      same_service = h.service;
      dispatcher = ends.dispatcher;
      there = ends.there;
    }

-- ---- the program that is offered for it

offered_interface : (b : Bool) (r : TheRegistration) (x : OfferedService) → (if b then Some (record { dispatcher = r.service.dispatcher; interface = r.service.interface }) else None) ≡ Some x
    → x.interface ≡ r.service.interface
offered_interface true r x h = sym (ap (λ (y : OfferedService). y.interface) (some_is (record { dispatcher = r.service.dispatcher; interface = r.service.interface }) x h))
offered_interface false r x h = absurd (cc)

-- it is of the binding's interface
pub program_is : (w : TheWorld) (s : State) (core neighbour n : ℕ) (d : DispatcherId) (k : Core) (o : OpeningLabel) (c : TheCore) (r : ℕ) (duo : TheDuo) (program : Program) (i : Planned) → Shows w s
    → (a : Serves s core neighbour n d k o) → interface_of s a.binding ≡ Some i
    → IsCopyFor (offers_in (with_ring w r duo)).programs (offer_of (offers_in (with_ring w r duo)) c o.service) program → planned_of program ≡ i
program_is w s core neighbour n d k o c r duo program i shows a i_is h =
    let offers : Offers = offers_in (with_ring w r duo) in
    let found : by_iref o.service w.names ≡ Some (registration_of o.service a.service) = (names_agree s.services w.names shows.showing.names).found o.service a.service a.service_is in
    let is : h.offered.interface ≡ a.service.interface =
    offered_interface (may_offer offers c (registration_of o.service a.service)) (registration_of o.service a.service) h.offered
    (sym (ap (λ (p : Option TheRegistration). given p None λ y. if may_offer offers c y then Some (record { dispatcher = y.service.dispatcher; interface = y.service.interface }) else None) found) ∙ h.offered_is) in
    let (kept, kept_is) = some_too w.bindings s.bindings n a.binding shows.showing.bindings.count a.binding_is in
    let its = shows.showing.bindings.each n a.binding kept a.binding_is kept_is in
    let same : a.service.interface ≡ a.binding.interface = its.offered a.route a.service a.back (ap (service_of s.services) a.same_service ∙ a.service_is) in
    let there : slice_get s.interfaces a.binding.interface ≡ Some (planned_of h.source) =
    ap (slice_get s.interfaces) (sym same ∙ sym is) ∙ ap (λ (xs : List Planned). slice_get xs h.offered.interface) (sym shows.showing.programs)
    ∙ mapped_get planned_of w.programs h.offered.interface h.source h.source_is in
    copied program h.source h.same ∙ some_is (planned_of h.source) i (sym there ∙ i_is)
