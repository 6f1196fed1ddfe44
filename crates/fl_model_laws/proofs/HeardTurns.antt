-- What a core hears in a sound state turns the route of one binding: the one whose opening, or whose answer, it is.
use Rattle.std.proofs.Common.{◌≡◌, refl, sym, ◌∙◌, ap, subst, ℕ, zero, suc, ◌+◌, ◌-◌, ◌<◌, ◌≤◌, ◌==◌, nat_lt, true}
use Rattle.std.proofs.Common.{List, [], ◌∷◌, length, slice_get, slice_index, Option, Some, None, arith}
use Rattle.std.specs.Prelude.{position, cond}
use Rattle.std.proofs.lemmas.Bool.{cond-true}
use Rattle.fl_base.specs.declared.identity.EndId.{EndId}
use Rattle.fl_base.specs.declared.identity.Side.TheVariants.{Client}
use Rattle.fl_base.specs.Given.{given}
use Rattle.fl_base.specs.Numbered.{link_id, circuit_id}
use Rattle.fl_hop.specs.declared.entry.HopTarget.{HopTarget}
use Rattle.fl_hop.specs.declared.entry.HopTarget.TheVariants.{Link as to_link, End as to_end}
use Rattle.fl_hop.specs.declared.entry.Hop.{Hop}
use Rattle.fl_hop.specs.Table.{TheCircuits, hop_at}
use Rattle.fl_hop.specs.Numbers.{next_own, count_taking}
use Rattle.fl_hop.proofs.Lists.{within}
use Rattle.fl_model.specs.Events.{DispatcherId}
use Rattle.fl_model.specs.Rings.{OpeningLabel, MonitorLabel, open_circuit, circuit_opened, circuit_refused, says, RingLabel}
use Rattle.fl_model.specs.Waits.{Dispatcher, has_places}
use Rattle.fl_hop.specs.Openings.{arrived}
use Rattle.fl_model.specs.Monitors.{with_said, with_circuits, Core, Service, service_of, link_to, can_say, next_on, Fate, goes_on, ends_at, fails, arrival, passage, fate}
use Rattle.fl_model.specs.Monitors.{Heard, no_outbox, misrouted, opening_went_on, server_made, opening_failed, answer_went_on, end_opened, end_refused}
use Rattle.fl_model.specs.Monitors.{hears_opening, hears_opened, hears_refused, Hearing, hears}
use Rattle.fl_model.specs.State.{OpeningVerdict, undecided, granted, denied, Route, State, core_of, dispatcher_of, first_on, change_core}
use Rattle.fl_model.specs.Binding.{end_id, all_differ}
use Rattle.fl_model.specs.Forwarding.{LinkEnd}
use Rattle.fl_model.specs.Standing.{Routed, core_at, number_at, standing, standing_by, Message, back_to, due_by}
use Rattle.fl_model.specs.SoundOpenings.{IsDue}
use Rattle.fl_model.specs.SoundRoutes.{RouteLeads, NumbersGo, VerdictFits}
use Rattle.fl_model.specs.SoundEntries.{behind, SaysWay, EntryAt, near_key, EntryIs}
use Rattle.fl_model.specs.Sound.{Sound}
use Rattle.fl_model_laws.proofs.Cases.{either, by_given}
use Rattle.fl_model_laws.proofs.Arriving.{place_is, less_true, is_last, same_opening, not_opened, not_refused, said_same}
use Rattle.fl_model_laws.proofs.Hearing.{LinkThere, link_there, is_under_way}
use Rattle.fl_model_laws.proofs.WaitsetsStep.{told_same}
use Rattle.fl_model_laws.proofs.Walk.{IsHere}
use Rattle.fl_model_laws.proofs.Faces.{look, cores_changed, CoreGrows}
use Rattle.fl_model_laws.proofs.Growing.{taking_grown, went_core, went_grows, new_number}
use Rattle.fl_model_laws.proofs.Turned.{IsNew, HasFurther}
use Rattle.fl_model_laws.proofs.Small.{some_same, changed_here}

-- ---- what is known of the binding

-- its opening has gone on
pub record GoesFor (s t : State) (n d : ℕ) : Type 0 where
  pub route : Route
  pub routed : Routed s n route
  pub undecided_is : route.verdict ≡ undecided
  pub more : length route.numbers + 2 ≤ length route.cores
  pub number : IsNew (look s) (look t) (core_at route (length route.numbers)) (core_at route (length route.numbers + 1)) d

-- its opening has arrived
pub record ArrivesFor (s t : State) (n : ℕ) (d : DispatcherId) (c : ℕ) : Type 0 where
  pub route : Route
  pub routed : Routed s n route
  pub undecided_is : route.verdict ≡ undecided
  pub last : length route.numbers + 1 ≡ length route.cores
  pub service : Service
  pub service_is : service_of s.services route.service ≡ Some service
  pub at : d ≡ service.dispatcher
  pub dispatcher : Dispatcher
  pub there : dispatcher_of t d ≡ Some dispatcher
  pub circuit : c ≡ number_at route (length route.numbers - 1)

-- its opening has failed
pub record FailsFor (s : State) (n : ℕ) : Type 0 where
  pub route : Route
  pub routed : Routed s n route
  pub undecided_is : route.verdict ≡ undecided

-- the answer has gone on
pub record PassesFor (s : State) (n : ℕ) : Type 0 where
  pub route : Route
  pub routed : Routed s n route
  pub further : HasFurther route.verdict

-- the answer has opened the client's end
pub record OpensFor (s : State) (e : EndId) (c : ℕ) : Type 0 where
  pub binding : ℕ
  pub end : e ≡ end_id binding Client
  pub route : Route
  pub routed : Routed s binding route
  pub granted_is : route.verdict ≡ granted 1
  pub circuit : c ≡ number_at route 0

abbrev pub HeardTurns : State → State → Heard → Type 0
HeardTurns s t no_outbox = Unit {0}
HeardTurns s t misrouted = Unit {0}
HeardTurns s t (opening_went_on n d) = GoesFor s t n d
HeardTurns s t (server_made n d c) = ArrivesFor s t n d c
HeardTurns s t (opening_failed n fault) = FailsFor s n
HeardTurns s t (answer_went_on n) = PassesFor s n
HeardTurns s t (end_opened e c) = OpensFor s e c
HeardTurns s t (end_refused e fault) = PassesFor s e.binding

-- with the state in which the core has heard it
abbrev pub HearingTurns : State → ℕ → Hearing → Type 0
HearingTurns s n h = HeardTurns s (change_core n (λ y. h.core) s) h.heard

-- ---- the message that is due

record OpeningOf (n : ℕ) (route : Route) (to : ℕ) (o : OpeningLabel) : Type 0 where
  pub binding : n ≡ o.binding
  pub undecided_is : route.verdict ≡ undecided
  pub to_is : to ≡ core_at route (length route.numbers)
  pub circuit : o.circuit ≡ number_at route (length route.numbers - 1)
  pub service : o.service ≡ route.service
  pub path : o.path ≡ route.cores

opening_of : (n : ℕ) (route : Route) (from to : ℕ) (o : OpeningLabel) (v : OpeningVerdict) → route.verdict ≡ v
    → due_by n route v ≡ Some (record { from = from; to = to; said = open_circuit o }) → OpeningOf n route to o
opening_of n route from to o undecided e h =
    let same = same_opening _ o (said_same _ _ h) in
    record {
      binding = ap (λ (p : OpeningLabel). p.binding) same;
      undecided_is = e;
      to_is = sym (ap (λ (m : Message). m.to) (some_same _ _ h));
      circuit = sym (ap (λ (p : OpeningLabel). p.circuit) same);
      service = sym (ap (λ (p : OpeningLabel). p.service) same);
      path = sym (ap (λ (p : OpeningLabel). p.path) same);
    }
opening_of n route from to o (granted zero) e h = absurd (cc)
opening_of n route from to o (granted (suc i)) e h = absurd (not_opened _ o (said_same _ _ h))
opening_of n route from to o (denied zero fault) e h = absurd (cc)
opening_of n route from to o (denied (suc i) fault) e h = absurd (not_refused _ _ o (said_same _ _ h))

-- an answer on the way to core i
record AnswerOf (route : Route) (from to c i : ℕ) : Type 0 where
  pub from_is : from ≡ core_at route (suc i)
  pub to_is : to ≡ core_at route i
  pub number : c ≡ number_at route i

open_is_not_opened : (o : OpeningLabel) (c : ℕ) → open_circuit o ≡ circuit_opened c → ⊥
open_is_not_opened o c h = absurd (cc)

open_is_not_refused : (o : OpeningLabel) (c fault : ℕ) → open_circuit o ≡ circuit_refused c fault → ⊥
open_is_not_refused o c fault h = absurd (cc)

opened_is_not_refused : (a c fault : ℕ) → circuit_opened a ≡ circuit_refused c fault → ⊥
opened_is_not_refused a c fault h = absurd (cc)

same_opened : (a c : ℕ) → circuit_opened a ≡ circuit_opened c → a ≡ c
same_opened a c h = cc

same_refused : (a f c g : ℕ) → circuit_refused a f ≡ circuit_refused c g → a ≡ c
same_refused a f c g h = cc

answer_of : (route : Route) (i from to c : ℕ) (m said : MonitorLabel) → back_to route i m ≡ record { from = from; to = to; said = said } → c ≡ number_at route i
    → AnswerOf route from to c i
answer_of route i from to c m said same number = record {
  from_is = sym (ap (λ (x : Message). x.from) same);
  to_is = sym (ap (λ (x : Message). x.to) same);
  number = number;
}

opened_of : (n : ℕ) (route : Route) (from to c : ℕ) (v : OpeningVerdict) → due_by n route v ≡ Some (record { from = from; to = to; said = circuit_opened c })
    → (i : ℕ) × (v ≡ granted (suc i)) × AnswerOf route from to c i
opened_of n route from to c undecided h = absurd (open_is_not_opened _ c (said_same _ _ h))
opened_of n route from to c (granted zero) h = absurd (cc)
opened_of n route from to c (granted (suc i)) h =
    let same = some_same _ _ h in
    (i, refl, answer_of route i from to c _ (circuit_opened c) same (sym (same_opened (number_at route i) c (ap (λ (m : Message). m.said) same))))
opened_of n route from to c (denied zero fault) h = absurd (cc)
opened_of n route from to c (denied (suc i) fault) h = absurd (open_or_refused _ _ c (said_same _ _ h))
  where
    open_or_refused : (a f b : ℕ) → circuit_refused a f ≡ circuit_opened b → ⊥
    open_or_refused a f b k = absurd (cc)

refused_of : (n : ℕ) (route : Route) (from to c fault : ℕ) (v : OpeningVerdict) → due_by n route v ≡ Some (record { from = from; to = to; said = circuit_refused c fault })
    → (i : ℕ) × ((f : ℕ) × (v ≡ denied (suc i) f)) × AnswerOf route from to c i
refused_of n route from to c fault undecided h = absurd (open_is_not_refused _ c fault (said_same _ _ h))
refused_of n route from to c fault (granted zero) h = absurd (cc)
refused_of n route from to c fault (granted (suc i)) h = absurd (opened_is_not_refused _ c fault (said_same _ _ h))
refused_of n route from to c fault (denied zero f) h = absurd (cc)
refused_of n route from to c fault (denied (suc i) f) h =
    let same = some_same _ _ h in
    (i, (f, refl), answer_of route i from to c _ (circuit_refused c fault) same (sym (same_refused (number_at route i) f c fault (ap (λ (m : Message). m.said) same))))

-- ---- the core behind

index_from : (xs : List ℕ) (i x : ℕ) → slice_get xs i ≡ Some x → slice_index xs i ≡ x
index_from [] i x q = absurd (cc)
index_from (y ∷ ys) zero x q = some_same y x q
index_from (y ∷ ys) (suc i) x q = index_from ys i x q

next_there : (xs : List ℕ) (t x next : ℕ) → t < length xs → slice_index xs t ≡ x → all_differ xs ≡ true → next_on xs x ≡ Some next
    → (t + 2 ≤ length xs) × (slice_index xs (t + 1) ≡ next)
next_there xs t x next less e d h =
    let here : position (λ c. c == x) xs ≡ Some t =
    ap (λ (n : ℕ). cond (nat_lt n (length xs)) (Some n) None) (place_is xs t x less e d) ∙ cond-true _ _ _ (less_true t (length xs) less) in
    let there : slice_get xs (t + 1) ≡ Some next = sym (ap (λ (o : Option ℕ). given o None (λ j. slice_get xs (j + 1))) here) ∙ h in
    let inside : t + 1 < length xs = within xs (t + 1) next there in
    (omega arith, index_from xs (t + 1) next there)

-- ---- ways of entries

says_end : (k : Core) (n : ℕ) (route : Route) (i : ℕ) (e : EndId) → SaysWay k (to_end e) (behind n route i) → (e ≡ end_id n Client) × (i ≡ 0)
says_end k n route zero e h = (h, refl)
says_end k n route (suc i) e h = absurd h

module _ (s : State) (sound : Sound s) where
  -- the entry for an answer is that of the binding whose answer it is
  entry_here : (here : LinkEnd) (k : Core) (hop : Hop) (c n : ℕ) (route : Route) (i : ℕ) → LinkThere s here → core_of s here.core ≡ Some k
      → hop_at k.circuits here.link c ≡ Some hop → AnswerOf route here.neighbour here.core c i
      → EntryIs s (near_key route i) n (behind n route i) → (hop.binding ≡ n) × SaysWay k hop.way (behind n route i)
  entry_here here k hop c n route i t at is answer entry =
      let there : EntryAt s (near_key route i) entry.hop = entry.entry in
      let one : there.core ≡ k = some_same there.core k (sym there.core_is ∙ ap (core_of s) (sym answer.to_is) ∙ at) in
      let mine : t.core ≡ k = some_same t.core k (sym t.core_is ∙ at) in
      let place : link_to here.neighbour k ≡ Some here.link = subst (λ (j : Core). link_to here.neighbour j ≡ Some here.link) mine t.place in
      let to : link_to here.neighbour k ≡ Some there.link =
      ap (λ (m : ℕ). link_to m k) (answer.from_is ∙ ap (core_at route) (omega arith)) ∙ subst (λ (j : Core). link_to (core_at route (i + 1)) j ≡ Some there.link) one there.link_is in
      let link : here.link ≡ there.link = some_same here.link there.link (sym place ∙ to) in
      let got : hop_at k.circuits there.link (number_at route i) ≡ Some entry.hop =
      subst (λ (j : Core). hop_at j.circuits there.link (number_at route i) ≡ Some entry.hop) one there.there in
      let was : hop_at k.circuits there.link (number_at route i) ≡ Some hop =
      ap (λ (m : ℕ). hop_at k.circuits m (number_at route i)) (sym link) ∙ ap (hop_at k.circuits here.link) (sym answer.number) ∙ is in
      let hops : entry.hop ≡ hop = some_same entry.hop hop (sym got ∙ was) in (
        subst (λ (h : Hop). h.binding ≡ n) hops entry.binding_is,
        subst (λ (h : Hop). SaysWay k h.way (behind n route i)) hops (subst (λ (j : Core). SaysWay j entry.hop.way (behind n route i)) one entry.way),
      )

  -- ---- an answer

  opened_link : (here : LinkEnd) (k : Core) (c n : ℕ) (route : Route) (i : ℕ) (hop : Hop) (way : HopTarget) → Routed s n route → route.verdict ≡ granted (suc i)
      → hop.binding ≡ n → c ≡ number_at route i → SaysWay k way (behind n route i) → HearingTurns s here.core (hears_opened here.link c hop way k)
  opened_link here k c n route zero hop (to_link m d) r v its number so = absurd so
  opened_link here k c n route (suc i) hop (to_link m d) r v its number so =
      let passes : PassesFor s n = record { route = route; routed = r; further = subst HasFurther (sym v) tt } in
      either (HearingTurns s here.core) (can_say m.0 k) _ _ (λ q. subst (PassesFor s) (sym its) passes) (λ q. tt)
  opened_link here k c n route i hop (to_end e) r v its number so =
      let (client, none) = says_end k n route i e so in
      record {
        binding = n;
        end = client;
        route = route;
        routed = r;
        granted_is = v ∙ ap (λ (j : ℕ). granted (suc j)) none;
        circuit = number ∙ ap (number_at route) none;
      }

  opened_turns : (here : LinkEnd) (c : ℕ) (first : RingLabel) (k : Core) (hop : Hop) → IsHere here s → first_on here.ring s ≡ Some first
      → first.label ≡ says (circuit_opened c) → core_of s here.core ≡ Some k → hop_at k.circuits here.link c ≡ Some hop
      → HearingTurns s here.core (hears_opened here.link c hop hop.way k)
  opened_turns here c first k hop j q l at is =
      let t : LinkThere s here = link_there s here j in
      let due : IsDue s (record { from = here.neighbour; to = here.core; said = circuit_opened c }) =
      sound.messages here.neighbour here.core (circuit_opened c) (is_under_way s here (circuit_opened c) first t q l) in
      let n : ℕ = due.binding in
      let route : Route = due.route in
      let (i, verdict, answer) = opened_of n route here.neighbour here.core c route.verdict due.due in
      let fits : VerdictFits route (granted (suc i)) = subst (VerdictFits route) verdict (sound.verdicts n route due.routed) in
      let whole : length route.numbers + 1 ≡ length route.cores = fits.0 in
      let below : suc i ≤ length route.numbers = fits.1 in
      let stands : standing route ≡ length route.cores = ap (standing_by route) verdict in
      let entry : EntryIs s (near_key route i) n (behind n route i) = (sound.entries n route due.routed).near i (omega arith) (omega arith) in
      let (its, so) = entry_here here k hop c n route i t at is answer entry in
      opened_link here k c n route i hop hop.way due.routed verdict its answer.number so

  refused_link : (here : LinkEnd) (k : Core) (c fault n : ℕ) (route : Route) (i : ℕ) (hop : Hop) (way : HopTarget) → PassesFor s n
      → hop.binding ≡ n → SaysWay k way (behind n route i) → HearingTurns s here.core (hears_refused here.link c fault hop way k)
  refused_link here k c fault n route i hop (to_link m d) passes its so =
      either (HearingTurns s here.core) (can_say m.0 k) _ _ (λ q. subst (PassesFor s) (sym its) passes) (λ q. tt)
  refused_link here k c fault n route i hop (to_end e) passes its so =
      let (client, none) = says_end k n route i e so in
      subst (λ (f : EndId). PassesFor s f.binding) (sym client) passes

  refused_turns : (here : LinkEnd) (c fault : ℕ) (first : RingLabel) (k : Core) (hop : Hop) → IsHere here s → first_on here.ring s ≡ Some first
      → first.label ≡ says (circuit_refused c fault) → core_of s here.core ≡ Some k → hop_at k.circuits here.link c ≡ Some hop
      → HearingTurns s here.core (hears_refused here.link c fault hop hop.way k)
  refused_turns here c fault first k hop j q l at is =
      let t : LinkThere s here = link_there s here j in
      let due : IsDue s (record { from = here.neighbour; to = here.core; said = circuit_refused c fault }) =
      sound.messages here.neighbour here.core (circuit_refused c fault) (is_under_way s here (circuit_refused c fault) first t q l) in
      let n : ℕ = due.binding in
      let route : Route = due.route in
      let (i, verdict, answer) = refused_of n route here.neighbour here.core c fault route.verdict due.due in
      let fits : VerdictFits route (denied (suc i) verdict.0) = subst (VerdictFits route) verdict.1 (sound.verdicts n route due.routed) in
      let below : suc i ≤ length route.numbers = fits in
      let stands : standing route ≡ suc i = ap (standing_by route) verdict.1 in
      let entry : EntryIs s (near_key route i) n (behind n route i) = (sound.entries n route due.routed).near i (omega arith) (omega arith) in
      let (its, so) = entry_here here k hop c n route i t at is answer entry in
      refused_link here k c fault n route i hop hop.way
      (record { route = route; routed = due.routed; further = subst HasFurther (sym verdict.1) tt }) its so

  -- ---- an opening

  opening_goes : (here : LinkEnd) (o : OpeningLabel) (k : Core) (n next m d : ℕ) (route : Route) → core_of s here.core ≡ Some k → Routed s n route
      → OpeningOf n route here.core o → next_on o.path k.circuits.core ≡ Some next → link_to next k ≡ Some m → next_own k.circuits m ≡ Some d
      → HearingTurns s here.core (hears_opening here.link o (goes_on m d) k)
  opening_goes here o k n next m d route at r p further to own =
      either (HearingTurns s here.core) (can_say m k) _ _
      (λ q.
      let leads : RouteLeads s route r.binding = sound.routes n route r in
      let go : NumbersGo s route = sound.numbers n route r in
      let few : length route.numbers + 1 ≤ length route.cores = go.few in
      let core : k.circuits.core ≡ here.core = (sound.cores here.core k at).number in
      let goes : next_on route.cores here.core ≡ Some next =
      ap (λ (c : ℕ). next_on route.cores c) (sym core) ∙ ap (λ (path : List ℕ). next_on path k.circuits.core) (sym p.path) ∙ further in
      let (more, is) = next_there route.cores (length route.numbers) here.core next (omega arith) (sym p.to_is) leads.differ goes in
      let x : Core = went_core here.link o m d k in
      let told : State = change_core here.core (λ y. x) s in
      let grows : CoreGrows k x = went_grows here.link o m d k in
      let number : IsNew (look s) (look told) here.core next d =
      new_number (look s) (look told) here.core next m d k (record {
        core = at;
        stands = sound.cores here.core k at;
        link = to;
        number_is = own;
        cores = cores_changed s.cores here.core (λ y. x) (λ y u. subst (λ (z : Core). CoreGrows z x) (some_same k y (sym at ∙ u)) grows);
        after = x;
        after_is = changed_here s.cores here.core (λ y. x) k at;
        grows = grows;
        before = count_taking k.circuits.links here.link;
        grown = taking_grown k.circuits.links here.link;
        counted = refl;
      }) in
      subst (λ (b : ℕ). GoesFor s told b d) p.binding (record {
        route = route;
        routed = r;
        undecided_is = p.undecided_is;
        more = more;
        number = subst (λ (b : ℕ). IsNew (look s) (look told) (core_at route (length route.numbers)) b d) (sym is)
            (subst (λ (a : ℕ). IsNew (look s) (look told) a next d) p.to_is number);
      }))
      (λ q. tt)

  opening_fails : (here : LinkEnd) (o : OpeningLabel) (fault : ℕ) (k : Core) (n : ℕ) (route : Route) → Routed s n route → OpeningOf n route here.core o
      → HearingTurns s here.core (hears_opening here.link o (fails fault) k)
  opening_fails here o fault k n route r p =
      either (HearingTurns s here.core) (can_say here.link k) _ _
      (λ q. subst (FailsFor s) p.binding (record { route = route; routed = r; undecided_is = p.undecided_is })) (λ q. tt)

  opening_ends : (here : LinkEnd) (o : OpeningLabel) (x : Service) (y : Dispatcher) (k : Core) (n : ℕ) (route : Route) → core_of s here.core ≡ Some k → Routed s n route
      → OpeningOf n route here.core o → next_on o.path k.circuits.core ≡ None → service_of s.services o.service ≡ Some x
      → slice_get k.dispatchers x.dispatcher.place ≡ Some y → HearingTurns s here.core (hears_opening here.link o (ends_at x.dispatcher) k)
  opening_ends here o x y k n route at r p none service there =
      let leads : RouteLeads s route r.binding = sound.routes n route r in
      let go : NumbersGo s route = sound.numbers n route r in
      let few : length route.numbers + 1 ≤ length route.cores = go.few in
      let core : k.circuits.core ≡ here.core = (sound.cores here.core k at).number in
      let ends : next_on route.cores here.core ≡ None =
      ap (λ (c : ℕ). next_on route.cores c) (sym core) ∙ ap (λ (path : List ℕ). next_on path k.circuits.core) (sym p.path) ∙ none in
      let last : length route.cores ≤ length route.numbers + 1 =
      is_last route.cores (length route.numbers) here.core (omega arith) (sym p.to_is) leads.differ ends in
      let place : length route.cores - 1 ≡ length route.numbers = omega arith in
      let is : service_of s.services route.service ≡ Some x = ap (service_of s.services) (sym p.service) ∙ service in
      let same : leads.service ≡ x = some_same leads.service x (sym leads.service_is ∙ is) in
      let home : x.dispatcher.core ≡ here.core =
      ap (λ (z : Service). z.dispatcher.core) (sym same) ∙ leads.last ∙ ap (core_at route) place ∙ sym p.to_is in
      let has : dispatcher_of s x.dispatcher ≡ Some y =
      ap (λ (c : ℕ). given (core_of s c) None (λ j. slice_get j.dispatchers x.dispatcher.place)) home
      ∙ ap (λ (z : Option Core). given z None (λ j. slice_get j.dispatchers x.dispatcher.place)) at ∙ there in
      let table : TheCircuits = arrived k.circuits (link_id here.link) (circuit_id o.circuit) o.binding in
      let now : Core = with_said here.link (circuit_opened o.circuit) (with_circuits table k) in
      let told : State = change_core here.core (λ z. now) s in
      either (HearingTurns s here.core) (can_say here.link k) _ _
      (λ q. subst (λ (b : ℕ). ArrivesFor s told b x.dispatcher o.circuit) p.binding (record {
        route = route;
        routed = r;
        undecided_is = p.undecided_is;
        last = omega arith;
        service = x;
        service_is = is;
        at = refl;
        dispatcher = y;
        there = told_same s here.core k now at refl x.dispatcher ∙ has;
        circuit = p.circuit;
      }))
      (λ q. tt)

  opening_arrives : (here : LinkEnd) (o : OpeningLabel) (k : Core) (n : ℕ) (route : Route) → core_of s here.core ≡ Some k → Routed s n route
      → OpeningOf n route here.core o → next_on o.path k.circuits.core ≡ None
      → HearingTurns s here.core (hears_opening here.link o (arrival s.services o.service k) k)
  opening_arrives here o k n route at r p none =
      by_given (λ (f : Fate). HearingTurns s here.core (hears_opening here.link o f k)) (service_of s.services o.service) _ _ (opening_fails here o 70 k n route r p)
      (λ x q. by_given (λ (f : Fate). HearingTurns s here.core (hears_opening here.link o f k)) (slice_get k.dispatchers x.dispatcher.place) _ _
      (opening_fails here o 70 k n route r p)
      (λ y u. either (λ (f : Fate). HearingTurns s here.core (hears_opening here.link o f k)) (has_places 1 y) _ _
      (λ v. opening_ends here o x y k n route at r p none q u) (λ v. opening_fails here o 54 k n route r p)))

  opening_passes : (here : LinkEnd) (o : OpeningLabel) (k : Core) (n next : ℕ) (route : Route) → core_of s here.core ≡ Some k → Routed s n route
      → OpeningOf n route here.core o → next_on o.path k.circuits.core ≡ Some next
      → HearingTurns s here.core (hears_opening here.link o (passage next k) k)
  opening_passes here o k n next route at r p further =
      by_given (λ (f : Fate). HearingTurns s here.core (hears_opening here.link o f k)) (link_to next k) _ _ (opening_fails here o 73 k n route r p)
      (λ m q. by_given (λ (f : Fate). HearingTurns s here.core (hears_opening here.link o f k)) (next_own k.circuits m) _ _
      (opening_fails here o 74 k n route r p)
      (λ d u. opening_goes here o k n next m d route at r p further q u))

  opening_by : (here : LinkEnd) (o : OpeningLabel) (k : Core) (n : ℕ) (route : Route) (x : Option ℕ) → core_of s here.core ≡ Some k → Routed s n route
      → OpeningOf n route here.core o → next_on o.path k.circuits.core ≡ x
      → HearingTurns s here.core (hears_opening here.link o (given x (arrival s.services o.service k) (λ next. passage next k)) k)
  opening_by here o k n route None at r p q = opening_arrives here o k n route at r p q
  opening_by here o k n route (Some next) at r p q = opening_passes here o k n next route at r p q

  opening_turns : (here : LinkEnd) (o : OpeningLabel) (first : RingLabel) (k : Core) → IsHere here s → first_on here.ring s ≡ Some first
      → first.label ≡ says (open_circuit o) → core_of s here.core ≡ Some k
      → HearingTurns s here.core (hears_opening here.link o (fate s.services o k) k)
  opening_turns here o first k j q l at =
      let t : LinkThere s here = link_there s here j in
      let due : IsDue s (record { from = here.neighbour; to = here.core; said = open_circuit o }) =
      sound.messages here.neighbour here.core (open_circuit o) (is_under_way s here (open_circuit o) first t q l) in
      let p : OpeningOf due.binding due.route here.core o = opening_of due.binding due.route here.neighbour here.core o due.route.verdict refl due.due in
      opening_by here o k due.binding due.route (next_on o.path k.circuits.core) at due.routed p refl

  pub heard_turns : (here : LinkEnd) (m : MonitorLabel) (first : RingLabel) (k : Core) → IsHere here s → first_on here.ring s ≡ Some first → first.label ≡ says m
      → core_of s here.core ≡ Some k → HearingTurns s here.core (hears s.services here.link m k)
  heard_turns here (open_circuit o) first k j q l at = opening_turns here o first k j q l at
  heard_turns here (circuit_opened c) first k j q l at =
      by_given (HearingTurns s here.core) (hop_at k.circuits here.link c) _ _ tt (λ hop r. opened_turns here c first k hop j q l at r)
  heard_turns here (circuit_refused c fault) first k j q l at =
      by_given (HearingTurns s here.core) (hop_at k.circuits here.link c) _ _ tt (λ hop r. refused_turns here c fault first k hop j q l at r)
