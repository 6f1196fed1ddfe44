-- Routes and numbers after a step: by what the step makes of each binding.
use Rattle.std.proofs.Common.{◌≡◌, refl, sym, ◌∙◌, ap, subst, ℕ, zero, suc, ◌+◌, ◌-◌, ◌<◌, ◌≤◌, nat_lt, Bool, true, false, if◌then◌else◌, inl, inr}
use Rattle.std.proofs.Common.{List, [], length, slice_get, slice_index, Some, None, arith}
use Rattle.std.specs.Prelude.{IsSome}
use Rattle.std.specs.List.{push}
use Rattle.fl_hop.proofs.Entering.{same_or}
use Rattle.fl_model.specs.Ends.{Seat}
use Rattle.fl_model.specs.Monitors.{Service, service_of}
use Rattle.fl_model.specs.State.{OpeningVerdict, undecided, granted, denied, Route, over_route, Binding, State}
use Rattle.fl_model.specs.Binding.{all_differ}
use Rattle.fl_model.specs.Forwarding.{with_number, grants, denies, passes_word, route_of, word_passes}
use Rattle.fl_model.specs.Standing.{Routed, core_at}
use Rattle.fl_model.specs.SoundRoutes.{RouteLeads, RoutesLead, NumbersGo, NumbersGoAlongRoutes, VerdictFits, VerdictsFit}
use Rattle.fl_model_laws.proofs.PlacesStep.{length_push}
use Rattle.fl_model_laws.proofs.Faces.{look, linked_at, CoresGrow, ServicesStay, linked_grown}
use Rattle.fl_model_laws.proofs.Turned.{Turns, Arrives, Goes, Begins, Turned, stays, joins, begins, goes, arrives, fails, passes, opens, OneTurns, Comes}

-- ---- a binding after a step

pub same_route : (p q : Route) → over_route p ≡ over_route q → p ≡ q
same_route p q h = cc

pub no_binding : (t : State) (n : ℕ) (route : Route) → t.bindings ≡ [] → Routed t n route → ⊥
no_binding t n route none r = let e : None ≡ Some r.binding = ap (λ (bs : List Binding). slice_get bs n) (sym none) ∙ r.there in absurd (cc)

-- binding n of the state after, whose route this is
pub turned_at : (s t : State) (n : ℕ) (c : Binding) → OneTurns (look s) (look t) → slice_get t.bindings n ≡ Some c → Turned (look s) (look t) n c
turned_at s t n c h q = elim (same_or n h.place) [
  | inr d ↦ let was = h.others n c d q in stays was.0 was.1 was.2
  | inl e ↦ subst (λ (m : ℕ). Turned (look s) (look t) m c) (sym e) (h.one c (ap (slice_get t.bindings) (sym e) ∙ q))
]

service_stays : (xs ys : List Service) (iref : ℕ) (x : Service) → ServicesStay xs ys → service_of xs iref ≡ Some x → service_of ys iref ≡ Some x
service_stays xs ys iref x h = by (nat_lt 0 iref)
  where
    by : (b : Bool) → (if b then slice_get xs (iref - 1) else None) ≡ Some x → (if b then slice_get ys (iref - 1) else None) ≡ Some x
    by true q = h (iref - 1) x q
    by false q = absurd (cc)

-- ---- routes lead

-- a route keeps its cores and its service, and the ends stay where they are
leads_on : (s t : State) (route now : Route) (b c : Binding) → ServicesStay s.services t.services → now.cores ≡ route.cores → now.service ≡ route.service
    → c.client.seat ≡ b.client.seat → c.server.seat ≡ b.server.seat → RouteLeads s route b → RouteLeads t now c
leads_on s t route now b c more cores service client server h = record {
  some = subst (λ (r : List ℕ). 2 ≤ length r) (sym cores) h.some;
  few = subst (λ (r : List ℕ). length r ≤ 16) (sym cores) h.few;
  differ = subst (λ (r : List ℕ). all_differ r ≡ true) (sym cores) h.differ;
  client = h.client;
  client_is = client ∙ h.client_is;
  first = h.first ∙ ap (λ (r : List ℕ). slice_index r 0) (sym cores);
  service = h.service;
  service_is = ap (service_of t.services) service ∙ service_stays s.services t.services route.service h.service more h.service_is;
  last = h.last ∙ ap (λ (r : List ℕ). slice_index r (length r - 1)) (sym cores);
  server = λ seat q. h.server seat (sym server ∙ q);
}

leads_turns : (s t : State) (n : ℕ) (route now after : Route) (b c : Binding) → RoutesLead s → ServicesStay s.services t.services → c.back ≡ over_route after
    → Turns (look s) n route now b c → now.cores ≡ route.cores → now.service ≡ route.service
    → c.client.seat ≡ b.client.seat → c.server.seat ≡ b.server.seat → RouteLeads t after c
leads_turns s t n route now after b c h more back turns cores service client server =
    let same : now ≡ after = same_route now after (sym turns.is ∙ back) in
    let r : Routed s n route = record { binding = b; there = turns.there; back = turns.was } in
    subst (λ (p : Route). RouteLeads t p c) same (leads_on s t route now b c more cores service client server (h n route r))

begun_leads : (s t : State) (route : Route) (d : ℕ) (c : Binding) → ServicesStay s.services t.services → Begins (look s) (look t) route d c → RouteLeads t route c
begun_leads s t route d c more g = record {
  some = g.some;
  few = g.few;
  differ = g.differ;
  client = g.client;
  client_is = g.client_is;
  first = g.first;
  service = g.service;
  service_is = service_stays s.services t.services route.service g.service more g.service_is;
  last = g.last;
  server = λ seat q. absurd (let e : None ≡ Some seat = sym g.none.2 ∙ q in cc);
}

arrived_leads : (s t : State) (route : Route) (b c : Binding) → ServicesStay s.services t.services → Arrives (look s) route b c
    → RouteLeads s route b → RouteLeads t (grants route) c
arrived_leads s t route b c more g h = record {
  some = h.some;
  few = h.few;
  differ = h.differ;
  client = h.client;
  client_is = g.client_seat ∙ h.client_is;
  first = h.first;
  service = h.service;
  service_is = service_stays s.services t.services route.service h.service more h.service_is;
  last = h.last;
  server = λ seat q.
      let one : g.seat ≡ seat = (let e : Some g.seat ≡ Some seat = sym g.seat_is ∙ q in cc) in
      let same : g.service ≡ h.service = (let e : Some g.service ≡ Some h.service = sym g.service_is ∙ h.service_is in cc) in
      ap (λ (x : Seat). x.dispatcher) (sym one) ∙ g.at ∙ ap (λ (x : Service). x.dispatcher) same;
}

leads_by : (s t : State) (n : ℕ) (c : Binding) (route : Route) → RoutesLead s → ServicesStay s.services t.services → c.back ≡ over_route route
    → Turned (look s) (look t) n c → RouteLeads t route c
leads_by s t n c route h more back (stays b there f) =
    let r : Routed s n route = record { binding = b; there = there; back = sym f.back ∙ back } in
    leads_on s t route route b c more refl refl f.ends.client_seat f.ends.server_seat (h n route r)
leads_by s t n c route h more back (joins none bound) = absurd (let e : None ≡ Some route = sym none ∙ ap route_of back in cc)
leads_by s t n c route h more back (begins p d g) =
    subst (λ (q : Route). RouteLeads t q c) (same_route p route (sym g.back ∙ back)) (begun_leads s t p d c more g)
leads_by s t n c route h more back (goes p d b turns g) =
    leads_turns s t n p (with_number d p) route b c h more back turns refl refl g.ends.client_seat g.ends.server_seat
leads_by s t n c route h more back (arrives p b turns g) =
    let same : grants p ≡ route = same_route (grants p) route (sym turns.is ∙ back) in
    let r : Routed s n p = record { binding = b; there = turns.there; back = turns.was } in
    subst (λ (q : Route). RouteLeads t q c) same (arrived_leads s t p b c more g (h n p r))
leads_by s t n c route h more back (fails p fault b turns u ends) =
    leads_turns s t n p (denies fault p) route b c h more back turns refl refl ends.client_seat ends.server_seat
leads_by s t n c route h more back (passes p b turns u ends) =
    leads_turns s t n p (passes_word p) route b c h more back turns refl refl ends.client_seat ends.server_seat
leads_by s t n c route h more back (opens p b turns g) =
    leads_turns s t n p (passes_word p) route b c h more back turns refl refl g.client_seat g.server_seat

pub routes_lead : (s t : State) → RoutesLead s → Comes (look s) (look t) → RoutesLead t
routes_lead s t h (inl none) n route r = absurd (no_binding t n route none r)
routes_lead s t h (inr k) n route r = leads_by s t n r.binding route h k.services r.back (turned_at s t n r.binding k r.there)

-- ---- numbers go along routes

go_on : (s t : State) (route now : Route) → CoresGrow s.cores t.cores → now.cores ≡ route.cores → now.numbers ≡ route.numbers → NumbersGo s route → NumbersGo t now
go_on s t route now grow cores numbers h = record {
  some = subst (λ (xs : List ℕ). 1 ≤ length xs) (sym numbers) h.some;
  few = ap_few (sym cores) (sym numbers) h.few;
  linked = λ j less.
      subst (λ (xs : List ℕ). IsSome (linked_at t.cores (slice_index xs j) (slice_index xs (j + 1)))) (sym cores)
      (linked_grown s.cores t.cores (core_at route j) (core_at route (j + 1)) grow
      (h.linked j (subst (λ (xs : List ℕ). j < length xs) numbers less)));
}
  where
    ap_few : route.cores ≡ now.cores → route.numbers ≡ now.numbers → length route.numbers + 1 ≤ length route.cores → length now.numbers + 1 ≤ length now.cores
    ap_few e f k =
        let a : length route.cores ≡ length now.cores = ap length e in
        let b : length route.numbers ≡ length now.numbers = ap length f in
        omega arith

go_turns : (s t : State) (n : ℕ) (route now after : Route) (b c : Binding) → NumbersGoAlongRoutes s → CoresGrow s.cores t.cores → c.back ≡ over_route after
    → Turns (look s) n route now b c → now.cores ≡ route.cores → now.numbers ≡ route.numbers → NumbersGo t after
go_turns s t n route now after b c h grow back turns cores numbers =
    let same : now ≡ after = same_route now after (sym turns.is ∙ back) in
    let r : Routed s n route = record { binding = b; there = turns.there; back = turns.was } in
    subst (NumbersGo t) same (go_on s t route now grow cores numbers (h n route r))

begun_go : (s t : State) (route : Route) (d : ℕ) (c : Binding) → Begins (look s) (look t) route d c → NumbersGo t route
begun_go s t route d c g =
    let one : length route.numbers ≡ 1 = ap length g.numbers in
    let long : 2 ≤ length route.cores = g.some in
    record {
      some = omega arith;
      few = omega arith;
      linked = λ j less. at j (omega arith);
    }
  where
    at : (j : ℕ) → j < 1 → IsSome (linked_at t.cores (core_at route j) (core_at route (j + 1)))
    at zero less = g.number.linked
    at (suc j) less = absurd (omega arith)

went_go : (s t : State) (route : Route) (d : ℕ) (b c : Binding) → CoresGrow s.cores t.cores → Goes (look s) (look t) route d b c → NumbersGo s route
    → NumbersGo t (with_number d route)
went_go s t route d b c grow g h =
    let longer : length (push route.numbers d) ≡ length route.numbers + 1 = length_push route.numbers d in
    let more : length route.numbers + 2 ≤ length route.cores = g.more in
    let some : 1 ≤ length route.numbers = h.some in
    record {
      some = omega arith;
      few = omega arith;
      linked = λ j less. elim (same_or j (length route.numbers)) [
        | inl e ↦ subst (λ (i : ℕ). IsSome (linked_at t.cores (core_at route i) (core_at route (i + 1)))) (sym e) g.number.linked
        | inr u ↦ linked_grown s.cores t.cores (core_at route j) (core_at route (j + 1)) grow (h.linked j (omega arith))
      ];
    }

go_by : (s t : State) (n : ℕ) (c : Binding) (route : Route) → NumbersGoAlongRoutes s → CoresGrow s.cores t.cores → c.back ≡ over_route route
    → Turned (look s) (look t) n c → NumbersGo t route
go_by s t n c route h grow back (stays b there f) =
    go_on s t route route grow refl refl (h n route (record { binding = b; there = there; back = sym f.back ∙ back }))
go_by s t n c route h grow back (joins none bound) = absurd (let e : None ≡ Some route = sym none ∙ ap route_of back in cc)
go_by s t n c route h grow back (begins p d g) = subst (NumbersGo t) (same_route p route (sym g.back ∙ back)) (begun_go s t p d c g)
go_by s t n c route h grow back (goes p d b turns g) =
    subst (NumbersGo t) (same_route (with_number d p) route (sym turns.is ∙ back))
    (went_go s t p d b c grow g (h n p (record { binding = b; there = turns.there; back = turns.was })))
go_by s t n c route h grow back (arrives p b turns g) = go_turns s t n p (grants p) route b c h grow back turns refl refl
go_by s t n c route h grow back (fails p fault b turns u ends) = go_turns s t n p (denies fault p) route b c h grow back turns refl refl
go_by s t n c route h grow back (passes p b turns u ends) = go_turns s t n p (passes_word p) route b c h grow back turns refl refl
go_by s t n c route h grow back (opens p b turns g) = go_turns s t n p (passes_word p) route b c h grow back turns refl refl

pub numbers_go : (s t : State) → NumbersGoAlongRoutes s → Comes (look s) (look t) → NumbersGoAlongRoutes t
numbers_go s t h (inl none) n route r = absurd (no_binding t n route none r)
numbers_go s t h (inr k) n route r = go_by s t n r.binding route h k.cores r.back (turned_at s t n r.binding k r.there)

-- ---- verdicts fit

passed_fits : (route : Route) (v : OpeningVerdict) → VerdictFits route v → VerdictFits route (word_passes v)
passed_fits route undecided h = tt
passed_fits route (granted i) h = (h.0, (let e : i ≤ length route.numbers = h.1 in omega arith))
passed_fits route (denied i fault) h = let e : i ≤ length route.numbers = h in omega arith

fits_turns : (s t : State) (n : ℕ) (route now after : Route) (b c : Binding) → c.back ≡ over_route after → Turns (look s) n route now b c
    → VerdictFits now now.verdict → VerdictFits after after.verdict
fits_turns s t n route now after b c back turns h = subst (λ (p : Route). VerdictFits p p.verdict) (same_route now after (sym turns.is ∙ back)) h

fits_by : (s t : State) (n : ℕ) (c : Binding) (route : Route) → VerdictsFit s → c.back ≡ over_route route → Turned (look s) (look t) n c → VerdictFits route route.verdict
fits_by s t n c route h back (stays b there f) = h n route (record { binding = b; there = there; back = sym f.back ∙ back })
fits_by s t n c route h back (joins none bound) = absurd (let e : None ≡ Some route = sym none ∙ ap route_of back in cc)
fits_by s t n c route h back (begins p d g) =
    let same : p ≡ route = same_route p route (sym g.back ∙ back) in
    subst (λ (q : Route). VerdictFits q q.verdict) same (subst (VerdictFits p) (sym g.undecided_is) tt)
fits_by s t n c route h back (goes p d b turns g) =
    fits_turns s t n p (with_number d p) route b c back turns (subst (VerdictFits (with_number d p)) (sym g.undecided_is) tt)
fits_by s t n c route h back (arrives p b turns g) =
    let last : length p.numbers + 1 ≡ length p.cores = g.last in
    fits_turns s t n p (grants p) route b c back turns (last, omega arith)
fits_by s t n c route h back (fails p fault b turns u ends) = fits_turns s t n p (denies fault p) route b c back turns (omega arith)
fits_by s t n c route h back (passes p b turns u ends) =
    fits_turns s t n p (passes_word p) route b c back turns
    (passed_fits p p.verdict (h n p (record { binding = b; there = turns.there; back = turns.was })))
fits_by s t n c route h back (opens p b turns g) =
    fits_turns s t n p (passes_word p) route b c back turns
    (passed_fits p p.verdict (h n p (record { binding = b; there = turns.there; back = turns.was })))

pub verdicts_fit : (s t : State) → VerdictsFit s → Comes (look s) (look t) → VerdictsFit t
verdicts_fit s t h (inl none) n route r = absurd (no_binding t n route none r)
verdicts_fit s t h (inr k) n route r = fits_by s t n r.binding route h r.back (turned_at s t n r.binding k r.there)
