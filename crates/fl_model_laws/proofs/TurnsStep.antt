-- Each step of a sound state takes nothing from cores and services, and turns at most one binding.
use Rattle.std.proofs.Common.{◌≡◌, refl, sym, ◌∙◌, ap, subst, ℕ, zero, suc, ◌+◌, ◌-◌, ◌<◌, ◌≤◌, ◌==◌, nat_le, nat_lt, Bool, true, if◌then◌else◌}
use Rattle.std.proofs.Common.{List, [], ◌∷◌, ◌++◌, length, slice_get, slice_index, Option, Some, None, arith}
use Rattle.std.specs.Prelude.{Contains, slice_index_or}
use Rattle.std.specs.List.{list_all}
use Rattle.std.proofs.lemmas.Bool.{and_parts, eqb-true}
use Rattle.std.proofs.lemmas.Bool.Decides.{nat_tests}
use Rattle.fl_base.specs.declared.identity.EndId.{EndId}
use Rattle.fl_base.specs.declared.identity.Side.TheVariants.{Client, Server}
use Rattle.fl_base.specs.Given.{given}
use Rattle.fl_model.specs.Given.{changed_at}
use Rattle.fl_model.specs.Events.{DispatcherId}
use Rattle.fl_model.specs.Calls.{Planned}
use Rattle.fl_model.specs.SoundPlaces.{CoreStands}
use Rattle.fl_model.specs.Rings.{OpeningLabel, RingEnd, takes}
use Rattle.fl_model.specs.Ends.{Queue, End}
use Rattle.fl_model.specs.Waits.{Dispatcher, with_end}
use Rattle.fl_model.specs.Monitors.{Core, Service, service_of, opens as core_opens}
use Rattle.fl_model.specs.Monitors.{Heard, no_outbox, misrouted, opening_went_on, server_made, opening_failed, answer_went_on, end_opened, end_refused}
use Rattle.fl_model.specs.State.{Route, Back, local, over_ring, over_route, undecided, granted, Binding, State, dispatcher_of, end_of, with_end_in}
use Rattle.fl_model.specs.State.{change_dispatcher, change_ring, change_end, change_route, change_channel, in_route, seats, binds_end}
use Rattle.fl_model.specs.Making.{is_core}
use Rattle.fl_model.specs.Binding.{BindByNames, end_id, with_new_binding, binds_both, is_route, all_differ, arrival_queue, with_circuit_begun}
use Rattle.fl_model.specs.Forwarding.{follows, takes_said, grants, denies, with_number, passes_word, route_of}
use Rattle.fl_model.specs.Standing.{Routed, number_at}
use Rattle.fl_model.specs.SoundRoutes.{BoundWhere}
use Rattle.fl_model_laws.proofs.Cases.{by_given}
use Rattle.fl_model_laws.proofs.BindingWalk.{new_binding}
use Rattle.fl_model_laws.proofs.WaitsetsStep.{seated_there}
use Rattle.fl_model_laws.proofs.Walk.{IsWanted, BeginsRoute}
use Rattle.fl_model_laws.proofs.Faces.{look, CoresGrow, ServicesStay, core_on, same_face, SameEnds, stays_same, cores_on, cores_changed, stays_dispatcher, stays_channel}
use Rattle.fl_model_laws.proofs.Growing.{opens_grows, new_number}
use Rattle.fl_model_laws.proofs.HeardTurns.{ArrivesFor, PassesFor, HeardTurns}
use Rattle.fl_model_laws.proofs.Turned.{IsNew, new_on, Turns, Turned, joins, begins, goes, arrives, fails, passes, opens, Comes, comes_stays, OnlyAt, only_on, only_changed, only_pushed, comes_at}
use Rattle.fl_model_laws.proofs.Small.{is_not, changed_here}

-- ---- an end is seated, and bound

abbrev pub seat_for : DispatcherId → Dispatcher → End → End
seat_for d x y = record y { seat = Some (record { dispatcher = d; channel = length x.ends }) }

abbrev pub bound_on : ℕ → End → End
bound_on circuit x = record x { circuit = Some circuit }

abbrev CoresFrom : State → State → Type 0
CoresFrom s t = CoresGrow s.cores t.cores × ServicesStay s.services t.services

rest_same : (s : State) → CoresFrom s s
rest_same s = ((stays_same (look s)).cores, (stays_same (look s)).services)

rest_on : (s t u : State) → CoresFrom s t → CoresFrom t u → CoresFrom s u
rest_on s t u h k = (cores_on s.cores t.cores u.cores h.0 k.0, λ n x q. k.1 n x (h.1 n x q))

rest_seats : (d : DispatcherId) (e : EndId) (s : State) → CoresFrom s (seats d e s)
rest_seats d e s =
    by_given (CoresFrom s) (dispatcher_of s d) _ _ (rest_same s)
    (λ x q. let h = stays_dispatcher d (with_end e) (change_end e (seat_for d x) s) in (h.cores, h.services))

rest_binds : (e : EndId) (circuit : ℕ) (s : State) → CoresFrom s (binds_end e circuit s)
rest_binds e circuit s = let h = stays_channel e _ (change_end e (bound_on circuit) s) in (h.cores, h.services)

seats_bindings : (d : DispatcherId) (e : EndId) (s : State) (x : Dispatcher) → dispatcher_of s d ≡ Some x
    → (seats d e s).bindings ≡ changed_at e.binding (with_end_in e.side (seat_for d x)) s.bindings
seats_bindings d e s x q =
    ap (λ (o : Option Dispatcher). (given o s (λ y. change_dispatcher d (with_end e) (change_end e (seat_for d y) s))).bindings) q

channel_bindings : (e : EndId) (f : ℕ → End → Dispatcher → Dispatcher) (s : State) → (change_channel e f s).bindings ≡ s.bindings
channel_bindings e f s =
    by_given (λ (t : State). t.bindings ≡ s.bindings) (end_of s e) _ _ refl
    (λ x q. by_given (λ (t : State). t.bindings ≡ s.bindings) x.seat _ _ refl (λ seat r. refl))

binds_bindings : (e : EndId) (circuit : ℕ) (s : State) → (binds_end e circuit s).bindings ≡ changed_at e.binding (with_end_in e.side (bound_on circuit)) s.bindings
binds_bindings e circuit s = channel_bindings e _ (change_end e (bound_on circuit) s)

only_seats : (d : DispatcherId) (e : EndId) (s : State) (x : Dispatcher) (b : Binding) → dispatcher_of s d ≡ Some x → slice_get s.bindings e.binding ≡ Some b
    → OnlyAt s.bindings (seats d e s).bindings e.binding (with_end_in e.side (seat_for d x) b)
only_seats d e s x b q there =
    subst (λ (bs : List Binding). OnlyAt s.bindings bs e.binding (with_end_in e.side (seat_for d x) b)) (sym (seats_bindings d e s x q))
    (only_changed s.bindings e.binding (with_end_in e.side (seat_for d x)) b there)

only_binds : (e : EndId) (circuit : ℕ) (s : State) (b : Binding) → slice_get s.bindings e.binding ≡ Some b
    → OnlyAt s.bindings (binds_end e circuit s).bindings e.binding (with_end_in e.side (bound_on circuit) b)
only_binds e circuit s b there =
    subst (λ (bs : List Binding). OnlyAt s.bindings bs e.binding (with_end_in e.side (bound_on circuit) b)) (sym (binds_bindings e circuit s))
    (only_changed s.bindings e.binding (with_end_in e.side (bound_on circuit)) b there)

-- ---- both ends of a new binding

abbrev both_bound : DispatcherId → Dispatcher → DispatcherId → Dispatcher → Binding → Binding
both_bound d x g y b = record b { client = bound_on 0 (seat_for d x b.client); server = bound_on 0 (seat_for g y b.server) }

-- the binding after the others joins at once
only_both : (w : BindByNames) (s : State) (b : Binding) (x y : Dispatcher) (n : ℕ) → slice_get s.bindings n ≡ Some b → dispatcher_of s w.client ≡ Some x
    → dispatcher_of (seats w.client (end_id n Client) s) w.service.dispatcher ≡ Some y
    → OnlyAt s.bindings (binds_both n w s).bindings n (both_bound w.client x w.service.dispatcher y b)
only_both w s b x y n there q r =
    let c : EndId = end_id n Client in
    let v : EndId = end_id n Server in
    let first : State = seats w.client c s in
    let second : State = seats w.service.dispatcher v first in
    let third : State = binds_end c 0 second in
    let a1 = only_seats w.client c s x b q there in
    let a2 = only_seats w.service.dispatcher v first y _ r a1.there in
    let a3 = only_binds c 0 second _ a2.there in
    let a4 = only_binds v 0 third _ a3.there in
    only_on s.bindings third.bindings (binds_both n w s).bindings n _ _
    (only_on s.bindings second.bindings third.bindings n _ _ (only_on s.bindings first.bindings second.bindings n _ _ a1 a2) a3) a4

rest_both : (n : ℕ) (w : BindByNames) (s : State) → CoresFrom s (binds_both n w s)
rest_both n w s =
    let c : EndId = end_id n Client in
    let v : EndId = end_id n Server in
    let first : State = seats w.client c s in
    let second : State = seats w.service.dispatcher v first in
    let third : State = binds_end c 0 second in
    rest_on s third (binds_both n w s)
    (rest_on s second third (rest_on s first second (rest_seats w.client c s) (rest_seats w.service.dispatcher v first)) (rest_binds c 0 second))
    (rest_binds v 0 third)

joined_where : (back : Back) (d g : DispatcherId) (x y : Dispatcher) (b : Binding) → route_of back ≡ None → BoundWhere back (both_bound d x g y b)
joined_where local d g x y b q = (refl, refl, refl, refl)
joined_where (over_ring n) d g x y b q = (refl, refl, refl, refl)
joined_where (over_route route) d g x y b q = absurd (cc)

-- with a new binding that isn't over a route
pub both_come : (w : BindByNames) (s t : State) (back : Back) (stations : ℕ) (q : Option Queue) (x y : Dispatcher) → t.cores ≡ s.cores → t.services ≡ s.services
    → t.bindings ≡ s.bindings ++ new_binding w back stations q ∷ [] → route_of back ≡ None → dispatcher_of t w.client ≡ Some x
    → dispatcher_of t w.service.dispatcher ≡ Some y → Comes (look s) (look (binds_both (length s.bindings) w t))
both_come w s t back stations q x y cores services more none client server =
    let n : ℕ = length s.bindings in
    let b : Binding = new_binding w back stations q in
    let pushed : OnlyAt s.bindings t.bindings n b = subst (λ (bs : List Binding). OnlyAt s.bindings bs n b) (sym more) (only_pushed s.bindings b) in
    let later = seated_there w.client (end_id n Client) t w.service.dispatcher y server in
    let both = only_both w t b x later.0 n pushed.there client later.1 in
    let rest : CoresFrom t (binds_both n w t) = rest_both n w t in
    comes_at (look s) (look (binds_both n w t)) n (both_bound w.client x w.service.dispatcher later.0 b)
    (subst (λ (ks : List Core). CoresGrow ks (binds_both n w t).cores) cores rest.0)
    (subst (λ (xs : List Service). ServicesStay xs (binds_both n w t).services) services rest.1)
    (only_on s.bindings t.bindings (binds_both n w t).bindings n b _ pushed both)
    (joins none (joined_where back w.client w.service.dispatcher x later.0 b none))

-- ---- a new binding over a route

record IsWay (cores : List ℕ) (client service : ℕ) (s : State) : Type 0 where
  some : 2 ≤ length cores
  few : length cores ≤ 16
  within : (core : ℕ) → Contains cores core → core < length s.cores
  first : slice_index cores 0 ≡ client
  last : slice_index cores (length cores - 1) ≡ service
  differ : all_differ cores ≡ true

at_most : (m n : ℕ) → nat_le m n ≡ true → m ≤ n
at_most m n h = grind (arith, nat_tests, h)

below : (m n : ℕ) → nat_lt m n ≡ true → m < n
below m n h = grind (arith, nat_tests, h)

all_within : (s : State) (cores : List ℕ) (i core : ℕ) → list_all (λ c. is_core c s) cores ≡ true → i < length cores → slice_index_or cores i core ≡ core
    → core < length s.cores
all_within s [] i core h less e = absurd (omega arith)
all_within s (x ∷ xs) zero core h less e =
    below core (length s.cores) (ap (λ (c : ℕ). nat_lt c (length s.cores)) (sym e) ∙ (and_parts (is_core x s) (list_all (λ c. is_core c s) xs) h).0)
all_within s (x ∷ xs) (suc i) core h less e =
    all_within s xs i core (and_parts (is_core x s) (list_all (λ c. is_core c s) xs) h).1 (omega arith) e

is_way : (cores : List ℕ) (client service : ℕ) (s : State) → is_route cores client service s ≡ true → IsWay cores client service s
is_way cores client service s h =
    let a = and_parts _ (all_differ cores) h in
    let b = and_parts _ (slice_index cores (length cores - 1) == service) a.0 in
    let c = and_parts _ (slice_index cores 0 == client) b.0 in
    let d = and_parts _ (list_all (λ c. is_core c s) cores) c.0 in
    let e = and_parts (nat_le 2 (length cores)) (nat_le (length cores) 16) d.0 in
    record {
      some = at_most 2 (length cores) e.0;
      few = at_most (length cores) 16 e.1;
      within = λ core has. all_within s cores has.0 core d.1 has.1 has.2;
      first = eqb-true (slice_index cores 0) client c.1;
      last = eqb-true (slice_index cores (length cores - 1)) service b.1;
      differ = a.1;
    }

wanted_service : (services : List Service) (place iref : ℕ) (x : Service) → iref ≡ place + 1 → slice_get services place ≡ Some x → service_of services iref ≡ Some x
wanted_service services place iref x e q =
    let some : nat_lt 0 iref ≡ true = some_is iref (omega arith) in
    let same : iref - 1 ≡ place = omega arith in
    ap (λ (b : Bool). if b then slice_get services (iref - 1) else None) some ∙ ap (slice_get services) same ∙ q
  where
    some_is : (n : ℕ) → 1 ≤ n → nat_lt 0 n ≡ true
    some_is n h = grind (arith, nat_tests, h)

abbrev route_begins : (w : BindByNames) (cores : List ℕ) (c : ℕ) → Route
route_begins w cores c = record { service = w.iref; cores = cores; numbers = c ∷ []; verdict = undecided }

pub route_comes : (w : BindByNames) (i : Planned) (cores : List ℕ) (k : Core) (l c : ℕ) (s : State) → CoreStands w.client.core k → IsWanted w i s → BeginsRoute w cores k l c s
    → Comes (look s) (look (with_circuit_begun w cores (length s.bindings) l c s))
route_comes w i cores k l c s stands want from =
    let n : ℕ = length s.bindings in
    let route : Route = route_begins w cores c in
    let o : OpeningLabel = record { circuit = c; binding = n; service = w.iref; path = cores } in
    let fresh : State = with_new_binding w (over_route route) (length cores + 1) (Some arrival_queue) s in
    let seated : State = seats w.client (end_id n Client) fresh in
    let final : State = with_circuit_begun w cores n l c s in
    let b : Binding = new_binding w (over_route route) (length cores + 1) (Some arrival_queue) in
    let e : Binding = with_end_in Client (seat_for w.client want.dispatcher) b in
    let way : IsWay cores w.client.core w.service.dispatcher.core s = is_way cores _ _ s (is_not _ from.route) in
    let pushed : OnlyAt s.bindings fresh.bindings n b = only_pushed s.bindings b in
    let sat : OnlyAt fresh.bindings seated.bindings n e = only_seats w.client (end_id n Client) fresh want.dispatcher b want.client pushed.there in
    let rest : CoresFrom fresh seated = rest_seats w.client (end_id n Client) fresh in
    let told : CoresGrow seated.cores final.cores = cores_changed seated.cores w.client.core (core_opens l c o) (λ j q. opens_grows l c o j) in
    let grow : CoresGrow s.cores final.cores = cores_on s.cores seated.cores final.cores rest.0 told in
    let (j, there, grows) = rest.0 w.client.core k from.core in
    let number : IsNew (look s) (look final) w.client.core (slice_index cores 1) c =
    new_number (look s) (look final) w.client.core (slice_index cores 1) l c k (record {
      core = from.core;
      stands = stands;
      link = from.link;
      number_is = from.number;
      cores = grow;
      after = core_opens l c o j;
      after_is = changed_here seated.cores w.client.core (core_opens l c o) j there;
      grows = core_on k j (core_opens l c o j) grows (opens_grows l c o j);
      before = j.circuits.links;
      grown = grows.links;
      counted = refl;
    }) in
    comes_at (look s) (look final) n e grow rest.1 (only_on s.bindings fresh.bindings final.bindings n b e pushed sat)
    (begins route c (record {
      back = refl;
      undecided_is = refl;
      numbers = refl;
      number = subst (λ (a : ℕ). IsNew (look s) (look final) a (slice_index cores 1) c) (sym way.first) number;
      some = way.some;
      few = way.few;
      differ = way.differ;
      within = way.within;
      none = (refl, refl, refl);
      client = record { dispatcher = w.client; channel = length want.dispatcher.ends };
      client_is = refl;
      first = sym way.first;
      service = w.service;
      service_is = wanted_service s.services want.place w.iref w.service want.iref want.service;
      last = sym way.last;
    }))

-- ---- what a core heard

same_back : (f : Route → Route) (route : Route) (back : Back) → back ≡ over_route route → in_route f back ≡ over_route (f route)
same_back f route back h = ap (in_route f) h

turns_now : (s : State) (n : ℕ) (f : Route → Route) (route : Route) (r : Routed s n route) (c : Binding) → c.back ≡ in_route f r.binding.back
    → Turns (look s) n route (f route) r.binding c
turns_now s n f route r c e = record { there = r.there; was = r.back; is = e ∙ same_back f route r.binding.back r.back }

abbrev routed_by : (Route → Route) → Binding → Binding
routed_by f b = record b { back = in_route f b.back }

-- a heard word that leaves ends as they are
word_comes : (s t : State) (n : ℕ) (f : Route → Route) (route : Route) (r : Routed s n route) → CoresGrow s.cores t.cores → ServicesStay s.services t.services
    → t.bindings ≡ changed_at n (routed_by f) s.bindings → Turned (look s) (look t) n (routed_by f r.binding) → Comes (look s) (look t)
word_comes s t n f route r grow more bindings turned =
    comes_at (look s) (look t) n (routed_by f r.binding) grow more
    (subst (λ (bs : List Binding). OnlyAt s.bindings bs n (routed_by f r.binding)) (sym bindings) (only_changed s.bindings n (routed_by f) r.binding r.there)) turned

routed_ends : (f : Route → Route) (b : Binding) → SameEnds b (routed_by f b)
routed_ends f b = record { client_seat = refl; client_circuit = refl; server_seat = refl; server_circuit = refl }

made_comes : (s t : State) (n : ℕ) (d : DispatcherId) (c : ℕ) → t.bindings ≡ s.bindings → CoresGrow s.cores t.cores → ServicesStay s.services t.services
    → ArrivesFor s t n d c → Comes (look s) (look (follows (server_made n d c) t).state)
made_comes s t n d c same grow more h =
    let e : EndId = end_id n Server in
    let r : Routed s n h.route = h.routed in
    let granted : State = change_route n grants t in
    let sat : State = seats d e granted in
    let final : State = binds_end e c sat in
    let b : Binding = routed_by grants r.binding in
    let first : OnlyAt s.bindings granted.bindings n b =
    subst (λ (bs : List Binding). OnlyAt s.bindings (changed_at n (routed_by grants) bs) n b) (sym same) (only_changed s.bindings n (routed_by grants) r.binding r.there) in
    let second = only_seats d e granted h.dispatcher b h.there first.there in
    let third = only_binds e c sat _ second.there in
    let rest : CoresFrom granted final = rest_on granted sat final (rest_seats d e granted) (rest_binds e c sat) in
    let now : Binding = record b { server = bound_on c (seat_for d h.dispatcher b.server) } in
    comes_at (look s) (look final) n now (cores_on s.cores t.cores final.cores grow rest.0) (λ m x q. rest.1 m x (more m x q))
    (only_on s.bindings granted.bindings final.bindings n _ _ first (only_on granted.bindings sat.bindings final.bindings n _ _ second third))
    (arrives h.route r.binding (turns_now s n grants h.route r now refl) (record {
      undecided_is = h.undecided_is;
      last = h.last;
      client_seat = refl;
      client_circuit = refl;
      seat = record { dispatcher = d; channel = length h.dispatcher.ends };
      seat_is = refl;
      service = h.service;
      service_is = h.service_is;
      at = h.at;
      circuit = ap (λ (m : ℕ). Some m) h.circuit;
    }))

opened_comes : (s t : State) (n c : ℕ) (route : Route) (r : Routed s n route) → t.bindings ≡ s.bindings → CoresGrow s.cores t.cores → ServicesStay s.services t.services
    → route.verdict ≡ granted 1 → c ≡ number_at route 0 → Comes (look s) (look (follows (end_opened (end_id n Client) c) t).state)
opened_comes s t n c route r same grow more v number =
    let e : EndId = end_id n Client in
    let passed : State = change_route n passes_word t in
    let final : State = binds_end e c passed in
    let b : Binding = routed_by passes_word r.binding in
    let first : OnlyAt s.bindings passed.bindings n b =
    subst (λ (bs : List Binding). OnlyAt s.bindings (changed_at n (routed_by passes_word) bs) n b) (sym same)
    (only_changed s.bindings n (routed_by passes_word) r.binding r.there) in
    let second = only_binds e c passed b first.there in
    let rest : CoresFrom passed final = rest_binds e c passed in
    let now : Binding = with_end_in Client (bound_on c) b in
    comes_at (look s) (look final) n now (cores_on s.cores t.cores final.cores grow rest.0) (λ m x q. rest.1 m x (more m x q))
    (only_on s.bindings passed.bindings final.bindings n _ _ first second)
    (opens route r.binding (turns_now s n passes_word route r now refl) (record {
      granted_is = v;
      client_seat = refl;
      client_circuit = ap (λ (m : ℕ). Some m) number;
      server_seat = refl;
      server_circuit = refl;
    }))

passed_comes : (s t : State) (n : ℕ) → t.bindings ≡ s.bindings → CoresGrow s.cores t.cores → ServicesStay s.services t.services → PassesFor s n
    → Comes (look s) (look (change_route n passes_word t))
passed_comes s t n same grow more h =
    word_comes s (change_route n passes_word t) n passes_word h.route h.routed grow more (ap (changed_at n (routed_by passes_word)) same)
    (passes h.route h.routed.binding (turns_now s n passes_word h.route h.routed (routed_by passes_word h.routed.binding) refl) h.further
    (routed_ends passes_word h.routed.binding))

quiet_comes : (s t : State) → t.bindings ≡ s.bindings → CoresGrow s.cores t.cores → ServicesStay s.services t.services → Comes (look s) (look t)
quiet_comes s t same grow more =
    comes_stays (look s) (look t) (record { cores = grow; bindings = λ n c q. (c, ap (λ (bs : List Binding). slice_get bs n) (sym same) ∙ q, same_face c); services = more })

-- by what it heard, in a state t that has the same bindings and services, and cores that have told
pub heard_comes : (s t : State) (at : RingEnd) (x : Heard) → t.bindings ≡ s.bindings → CoresGrow s.cores t.cores → ServicesStay s.services t.services → HeardTurns s t x
    → Comes (look s) (look (follows x (takes_said at x t)).state)
heard_comes s t at no_outbox same grow more h = quiet_comes s t same grow more
heard_comes s t at misrouted same grow more h = quiet_comes s t same grow more
heard_comes s t at (opening_went_on n d) same grow more h =
    let final : State = change_route n (with_number d) (change_ring at.ring (takes at.side) t) in
    word_comes s final n (with_number d) h.route h.routed grow more (ap (changed_at n (routed_by (with_number d))) same)
    (goes h.route d h.routed.binding (turns_now s n (with_number d) h.route h.routed (routed_by (with_number d) h.routed.binding) refl) (record {
      undecided_is = h.undecided_is;
      ends = routed_ends (with_number d) h.routed.binding;
      more = h.more;
      number = new_on (look s) (look t) (look final) _ _ d (stays_same (look t)).cores h.number;
    }))
heard_comes s t at (server_made n d c) same grow more h =
    made_comes s (change_ring at.ring (takes at.side) t) n d c same grow more (record {
      route = h.route;
      routed = h.routed;
      undecided_is = h.undecided_is;
      last = h.last;
      service = h.service;
      service_is = h.service_is;
      at = h.at;
      dispatcher = h.dispatcher;
      there = h.there;
      circuit = h.circuit;
    })
heard_comes s t at (opening_failed n fault) same grow more h =
    let final : State = change_route n (denies fault) (change_ring at.ring (takes at.side) t) in
    word_comes s final n (denies fault) h.route h.routed grow more (ap (changed_at n (routed_by (denies fault))) same)
    (fails h.route fault h.routed.binding (turns_now s n (denies fault) h.route h.routed (routed_by (denies fault) h.routed.binding) refl) h.undecided_is
    (routed_ends (denies fault) h.routed.binding))
heard_comes s t at (answer_went_on n) same grow more h = passed_comes s (change_ring at.ring (takes at.side) t) n same grow more h
heard_comes s t at (end_opened e c) same grow more h =
    subst (λ (f : EndId). Comes (look s) (look (follows (end_opened f c) (change_ring at.ring (takes at.side) t)).state)) (sym h.end)
    (opened_comes s (change_ring at.ring (takes at.side) t) h.binding c h.route h.routed same grow more h.granted_is h.circuit)
heard_comes s t at (end_refused e fault) same grow more h = passed_comes s (change_ring at.ring (takes at.side) t) e.binding same grow more h
