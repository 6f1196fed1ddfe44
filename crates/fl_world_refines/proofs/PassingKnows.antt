-- What a core knows of itself when it hears an opening: whether the service's dispatcher has a place, and that the route leads on.
use Rattle.std.proofs.Common.{◌≡◌, ◌≢◌, refl, sym, ◌∙◌, ap, subst, ℕ, zero, suc, ◌+◌, ◌-◌, ◌<◌, ◌≤◌, ◌==◌, ◌&&◌, nat_lt, nat_le, Bool, true, false, if◌then◌else◌, List, [], ◌∷◌, map, length, slice_get, Option, Some, None, arith}
use Rattle.std.specs.Prelude.{is_some, IsSome, slice_index}
use Rattle.std.proofs.lemmas.Bool.{eq-eqb}
use Rattle.std.proofs.lemmas.List.{length-map}
use Rattle.std.proofs.lemmas.Option.{slice_get_within}
use Rattle.fl_base.specs.declared.identity.EndId.{EndId}
use Rattle.fl_base.specs.Given.{given}
use Rattle.fl_hop.specs.declared.links.LinkState.{LinkState}
use Rattle.fl_nameserv.specs.Registrations.{TheRegistration, by_iref}
use Rattle.fl_compile.specs.declared.program.Program.{Program}
use Rattle.fl_core.specs.BoardView.{TheDispatcher}
use Rattle.fl_core.specs.declared.hearing.OfferedService.{OfferedService}
use Rattle.fl_core.specs.Hearing.{Offers, has_place, may_offer, offer_of, offer_for}
use Rattle.fl_core.specs.View.{TheCore}
use Rattle.fl_model.specs.Calls.{Planned}
use Rattle.fl_model.specs.Rings.{OpeningLabel, MonitorLabel, open_circuit, circuit_opened, circuit_refused, says}
use Rattle.fl_model.specs.Waits.{Dispatcher, has_places}
use Rattle.fl_model.specs.Monitors.{Core, Link, Service, service_of, link_to, next_on}
use Rattle.fl_model.specs.State.{OpeningVerdict, undecided, granted, denied, Route, State, core_of, dispatcher_of}
use Rattle.fl_model.specs.Forwarding.{LinkEnd}
use Rattle.fl_model.specs.Standing.{Routed, core_at, number_at, Message, due_by}
use Rattle.fl_model.specs.SoundOpenings.{IsDue}
use Rattle.fl_model.specs.SoundRoutes.{RouteLeads, NumbersGo}
use Rattle.fl_model.specs.Sound.{Sound}
use Rattle.fl_model_laws.proofs.Arriving.{same_opening, not_opened, not_refused, is_last}
use Rattle.fl_model_laws.proofs.BindingWalk.{given_there}
use Rattle.fl_model_laws.proofs.Faces.{some_there}
use Rattle.fl_model_laws.proofs.Hearing.{link_there, is_under_way}
use Rattle.fl_model_laws.proofs.OpeningsMoves.{names_to}
use Rattle.fl_model_laws.proofs.Ways.{Once, once_of, index_got, place_got, got_within}
use Rattle.fl_world_refines.specs.Ends.{planned_of}
use Rattle.fl_world_refines.specs.Fragments.{message_of}
use Rattle.fl_world_refines.specs.CoreLaws.{MayBeHeard, HasPlaceAt, LeadsOn, registration_of, NamesAgree}
use Rattle.fl_world_refines.proofs.Names.{names_agree}
use Rattle.fl_world_refines.proofs.Tests.{by_test, lt_true, true_lt, false_lt, le_true, le_false, then_is}
use Rattle.fl_world_refines.specs.View.{TheWorld, with_ring}
use Rattle.fl_world_refines.specs.ShowsState.{name_at, Shows}
use Rattle.fl_world_refines.specs.Linking.{offers_in}
use Rattle.fl_world_refines.specs.Hearing.{IsMessage}
use Rattle.fl_world_refines.proofs.PassingHeard.{HearFrames, known}
use Rattle.fl_world_refines.proofs.PassingHears.{Hearer, KnowsItself}
use Rattle.fl_world_refines.proofs.PassingLinkSides.{LinkedTo, end_at, some_too, its_end}
use Rattle.fl_world_refines.proofs.PassingLists.{some_is, given_is}
use Rattle.fl_world_refines.proofs.PassingRings.{Showings}

-- ---- an opening that is under way

-- it is that of a binding whose circuit has come this far
pub record OpeningHere (s : State) (from to : ℕ) (o : OpeningLabel) : Type 0 where
  pub binding : ℕ
  pub route : Route
  pub routed : Routed s binding route
  pub verdict : route.verdict ≡ undecided
  pub from_is : core_at route (length route.numbers - 1) ≡ from
  pub to_is : core_at route (length route.numbers) ≡ to
  pub circuit : number_at route (length route.numbers - 1) ≡ o.circuit
  pub binding_is : binding ≡ o.binding
  pub service : route.service ≡ o.service
  pub path : route.cores ≡ o.path

by_verdict : (s : State) (n : ℕ) (route : Route) (from to : ℕ) (o : OpeningLabel) (v : OpeningVerdict) → Routed s n route → route.verdict ≡ v
    → due_by n route v ≡ Some (record { from = from; to = to; said = open_circuit o }) → OpeningHere s from to o
by_verdict s n route from to o undecided r e h =
    let same = some_is _ _ h in
    let its = same_opening _ o (ap (λ (m : Message). m.said) same) in
    record {
      binding = n;
      route = route;
      routed = r;
      verdict = e;
      from_is = ap (λ (m : Message). m.from) same;
      to_is = ap (λ (m : Message). m.to) same;
      circuit = ap (λ (x : OpeningLabel). x.circuit) its;
      binding_is = ap (λ (x : OpeningLabel). x.binding) its;
      service = ap (λ (x : OpeningLabel). x.service) its;
      path = ap (λ (x : OpeningLabel). x.path) its;
    }
by_verdict s n route from to o (granted zero) r e h = absurd (cc)
by_verdict s n route from to o (granted (suc i)) r e h = absurd (not_opened _ o (ap (λ (m : Message). m.said) (some_is _ _ h)))
by_verdict s n route from to o (denied zero fault) r e h = absurd (cc)
by_verdict s n route from to o (denied (suc i) fault) r e h = absurd (not_refused _ _ o (ap (λ (m : Message). m.said) (some_is _ _ h)))

pub opening_here : (w : TheWorld) (s : State) (core neighbour l : ℕ) (link : Link) (o : OpeningLabel) (frag : Rattle.fl_base.specs.declared.fragment.Frag.Frag) → Sound s
    → LinkedTo w s core neighbour l link → IsMessage s (end_at core neighbour l link) (open_circuit o) frag → OpeningHere s neighbour core o
opening_here w s core neighbour l link o frag sound t msg =
    let there = link_there s (end_at core neighbour l link) (record { core = core; neighbour = neighbour; here_is = its_end w s core neighbour l link t }) in
    let due : IsDue s (record { from = neighbour; to = core; said = open_circuit o }) =
    sound.messages neighbour core (open_circuit o) (is_under_way s (end_at core neighbour l link) (open_circuit o) msg.first there msg.first_is msg.label) in
    by_verdict s due.binding due.route neighbour core o due.route.verdict due.routed refl due.due

-- ---- the route leads on

module _ (w : TheWorld) (s : State) (core neighbour l : ℕ) (link : Link) (shows : Shows w s) (t : LinkedTo w s core neighbour l link) (o : OpeningLabel) (h : OpeningHere s neighbour core o) where
  abbrev reached : ℕ
  reached = length h.route.numbers

  goes : NumbersGo s h.route
  goes = shows.sound.numbers h.binding h.route h.routed

  lead : RouteLeads s h.route h.routed.binding
  lead = shows.sound.routes h.binding h.route h.routed

  within : reached < length h.route.cores
  within = let few : length h.route.numbers + 1 ≤ length h.route.cores = goes.few in omega (arith, few)

  pub core_stands : slice_get h.route.cores (length h.route.numbers) ≡ Some core
  core_stands = index_got h.route.cores reached within ∙ ap (λ (x : ℕ). Some x) h.to_is

  pub neighbour_stands : slice_get h.route.cores (length h.route.numbers - 1) ≡ Some neighbour
  neighbour_stands =
      let some : 1 ≤ length h.route.numbers = goes.some in
      let below = within in
      index_got h.route.cores (reached - 1) (omega (arith, some, below)) ∙ ap (λ (x : ℕ). Some x) h.from_is

  once : Once h.route.cores
  once = once_of h.route.cores lead.differ

  number_is : t.k.circuits.core ≡ core
  number_is = (shows.sound.cores core t.k t.k_is).number

  -- two links at one place lead to one core
  one_core : (a b m : ℕ) → link_to a t.k ≡ Some m → link_to b t.k ≡ Some m → slice_get t.k.links m ≡ Some link → a ≡ b
  one_core a b m p q at =
      let (u, there) = some_too t.k.circuits.links t.k.links m link (sym (shows.sound.cores core t.k t.k_is).links) at in
      sym (names_to a m t.k.circuits.links u p there) ∙ names_to b m t.k.circuits.links u q there

  pub leads_on : LeadsOn l o t.k
  leads_on next m on to same =
      let (j, at, is) = given_there _ (λ (j : ℕ). slice_get o.path (j + 1)) next on in
      let here : slice_get h.route.cores j ≡ Some core =
      ap (λ (xs : List ℕ). slice_get xs j) h.path ∙ place_got o.path t.k.circuits.core j at ∙ ap (λ (x : ℕ). Some x) number_is in
      let j_is : j ≡ length h.route.numbers = once j (length h.route.numbers) core here core_stands in
      let back : neighbour ≡ next = one_core neighbour next l t.to (to ∙ ap (λ (x : ℕ). Some x) (sym same)) t.link_is in
      let behind : slice_get h.route.cores (j + 1) ≡ Some neighbour = ap (λ (xs : List ℕ). slice_get xs (j + 1)) h.path ∙ is ∙ ap (λ (x : ℕ). Some x) (sym back) in
      let twice : j + 1 ≡ length h.route.numbers - 1 = once (j + 1) (length h.route.numbers - 1) neighbour behind neighbour_stands in
      omega (arith, j_is, twice)

  -- ---- at the last core

  below_by : (b : Bool) (iref : ℕ) (x : Service) → (if b then slice_get s.services (iref - 1) else None) ≡ Some x → slice_get s.services (iref - 1) ≡ Some x
  below_by true iref x q = q
  below_by false iref x q = absurd (cc)

  one_more : (a : ℕ) → nat_lt a 1024 ≡ nat_le (a + 1) 1024
  one_more a = by_test (nat_lt a 1024)
      (λ q. let less = true_lt a 1024 q in q ∙ sym (le_true (a + 1) 1024 (omega (arith, less))))
      (λ q. let more = false_lt a 1024 q in q ∙ sym (le_false (a + 1) 1024 (omega (arith, more))))

  some_if : {X : Type 0} (b : Bool) (x : X) → is_some (if b then Some x else None) ≡ b
  some_if true x = refl
  some_if false x = refl

  middle : (a b c : Bool) → a ≡ true → c ≡ true → (a && b && c) ≡ b
  middle a true c p q = ap (λ (x : Bool). x && true && c) p ∙ q
  middle a false c p q = ap (λ (x : Bool). x && false && c) p

  module _ (d : Rattle.fl_ring.specs.Duo.TheDuo) (x : Service) (none : next_on o.path t.k.circuits.core ≡ None) (x_is : service_of s.services o.service ≡ Some x) where
    abbrev offers : Offers
    offers = offers_in (with_ring w link.ring.ring d)

    x_same : x ≡ lead.service
    x_same = some_is x lead.service (sym x_is ∙ ap (service_of s.services) (sym h.service) ∙ lead.service_is)

    pub at_core : x.dispatcher.core ≡ core
    at_core =
        let ends : next_on h.route.cores core ≡ None = ap (λ (xs : List ℕ). next_on xs core) h.path ∙ ap (next_on o.path) (sym number_is) ∙ none in
        let short : length h.route.cores ≤ length h.route.numbers + 1 = is_last h.route.cores (length h.route.numbers) core within h.to_is lead.differ ends in
        let below = within in
        let last : length h.route.cores - 1 ≡ length h.route.numbers = omega (arith, short, below) in
        ap (λ (y : Service). y.dispatcher.core) x_same ∙ lead.last ∙ ap (core_at h.route) last ∙ h.to_is

    stands : IsSome (dispatcher_of s x.dispatcher) × IsSome (slice_get s.interfaces x.interface)
    stands = shows.sound.services (o.service - 1) x (below_by (nat_lt 0 o.service) o.service x x_is)

    its : (y : Dispatcher) × (slice_get t.k.dispatchers x.dispatcher.place ≡ Some y)
    its =
        let (y, is) = some_there (dispatcher_of s x.dispatcher) stands.0 in
        (y, sym (given_is (core_of s x.dispatcher.core) None _ t.k (ap (core_of s) at_core ∙ t.k_is)) ∙ is)

    theirs : (z : TheDispatcher) × (slice_get t.c.board.dispatchers x.dispatcher.place ≡ Some z)
    theirs = some_too t.c.board.dispatchers t.k.dispatchers x.dispatcher.place its.0 t.shows.count its.1

    as_long : length theirs.0.ends ≡ length its.0.ends
    as_long =
        sym (length-map theirs.0.ends (name_at t.c))
        ∙ ap (λ (xs : List (Option EndId)). length xs) (t.shows.dispatchers x.dispatcher.place its.0 theirs.0 its.1 theirs.1).ends
        ∙ length-map its.0.ends (λ e. Some e)

    place_is : has_place t.c.board x.dispatcher.place ≡ has_places 1 its.0
    place_is =
        ap (λ (p : Option TheDispatcher). given p false λ z. nat_lt (length z.ends) 1024) theirs.1
        ∙ ap (λ (n : ℕ). nat_lt n 1024) as_long ∙ one_more (length its.0.ends)

    number_same : (x.dispatcher.core == t.c.monitor.circuits.core) ≡ true
    number_same =
        eq-eqb x.dispatcher.core t.c.monitor.circuits.core (at_core ∙ sym number_is ∙ sym (ap (λ (y : Rattle.fl_hop.specs.Table.TheCircuits). y.core) t.shows.monitor.circuits))

    program_there : nat_lt x.interface (length w.programs) ≡ true
    program_there =
        let (i, is) = some_there (slice_get s.interfaces x.interface) stands.1 in
        let less = slice_get_within s.interfaces x.interface i is in
        let long : length w.programs ≡ length s.interfaces = sym (length-map w.programs planned_of) ∙ ap (λ (xs : List Planned). length xs) shows.showing.programs in
        lt_true x.interface (length w.programs) (omega (arith, less, long))

    pub found : by_iref o.service w.names ≡ Some (registration_of o.service x)
    found = (names_agree s.services w.names shows.showing.names).found o.service x x_is

    offered : is_some (offer_of offers t.c o.service) ≡ has_places 1 its.0
    offered =
        ap (λ (p : Option TheRegistration). is_some {T = OfferedService} (given p None λ r. if may_offer offers t.c r then Some (record { dispatcher = r.service.dispatcher; interface = r.service.interface }) else None)) found
        ∙ some_if (may_offer offers t.c (registration_of o.service x)) _
        ∙ middle (x.dispatcher.core == t.c.monitor.circuits.core) (has_place t.c.board x.dispatcher.place) (nat_lt x.interface (length w.programs)) number_same program_there
        ∙ place_is

-- ---- so it may be heard

pub knows_itself : (law : Showings) (frame : HearFrames) → KnowsItself law frame
knows_itself law frame w s core neighbour l link (open_circuit o) frag d h =
    let due = opening_here w s core neighbour l link o frag h.shows.sound h.linked h.message in (
      λ x none x_is. offered_at x none x_is due,
      leads_on w s core neighbour l link h.shows h.linked o due,
    )
  where
    offered_at : (x : Service) → next_on o.path h.linked.k.circuits.core ≡ None → service_of s.services o.service ≡ Some x → (i : OpeningHere s neighbour core o)
        → (y : Dispatcher) × (slice_get h.linked.k.dispatchers x.dispatcher.place ≡ Some y) × (is_some (offer_of (offers_in (with_ring w link.ring.ring d)) h.linked.c o.service) ≡ has_places 1 y)
    offered_at x none x_is i =
        let (y, at) = its w s core neighbour l link h.shows h.linked o i d x none x_is in
        (y, at, offered w s core neighbour l link h.shows h.linked o i d x none x_is)
knows_itself law frame w s core neighbour l link (circuit_opened c) frag d h = tt
knows_itself law frame w s core neighbour l link (circuit_refused c fault) frag d h = tt
