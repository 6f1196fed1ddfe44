-- In a sound state what a core hears fits: an opening that arrives does so at the core of the service's dispatcher, and an answer
-- comes to an end that isn't bound. So each step of a sound state keeps the waitsets.
use Rattle.std.proofs.Common.{◌≡◌, ◌≢◌, refl, sym, ◌∙◌, ap, ℕ, zero, suc, ◌+◌, ◌-◌, ◌<◌, ◌≤◌, ◌==◌, nat_lt, not, Bool, true, false}
use Rattle.std.proofs.Common.{List, [], ◌∷◌, length, slice_get, slice_index, Option, Some, None, arith}
use Rattle.std.specs.Prelude.{is_some, position, cond}
use Rattle.std.specs.List.{position_or_len}
use Rattle.std.proofs.lemmas.Bool.{false≢true, eq-eqb, ne_eqb, and_parts, or_left, or_right, cond-true}
use Rattle.std.proofs.lemmas.Bool.Decides.{nat_tests}
use Rattle.fl_base.specs.declared.identity.EndId.{EndId}
use Rattle.fl_base.specs.Given.{given}
use Rattle.fl_lists.specs.ThreeLists.{is_in}
use Rattle.fl_hop.specs.declared.entry.HopTarget.{HopTarget}
use Rattle.fl_hop.specs.declared.entry.HopTarget.TheVariants.{Link as to_link, End as to_end}
use Rattle.fl_hop.specs.declared.entry.Hop.{Hop}
use Rattle.fl_hop.specs.Table.{hop_at}
use Rattle.fl_hop.specs.Numbers.{next_own}
use Rattle.fl_model.specs.Events.{Event}
use Rattle.fl_model.specs.Rings.{OpeningLabel, MonitorLabel, open_circuit, circuit_opened, circuit_refused, says, RingLabel}
use Rattle.fl_model.specs.Waits.{Dispatcher, most_ends, has_places}
use Rattle.fl_model.specs.Monitors.{Core, Service, service_of, link_to, can_say, next_on, Fate, goes_on, ends_at, fails, arrival, passage, fate}
use Rattle.fl_model.specs.Monitors.{hears_opening, hears_opened, hears_refused, Hearing, hears}
use Rattle.fl_model.specs.State.{OpeningVerdict, undecided, granted, denied, Route, State, core_of, dispatcher_of, first_on}
use Rattle.fl_model.specs.Binding.{all_differ}
use Rattle.fl_model.specs.Forwarding.{LinkEnd}
use Rattle.fl_model.specs.Standing.{core_at, Message, due_by}
use Rattle.fl_model.specs.SoundOpenings.{IsDue}
use Rattle.fl_model.specs.SoundRoutes.{RouteLeads, NumbersGo}
use Rattle.fl_model.specs.SoundLists.{WaitsetsStand}
use Rattle.fl_model.specs.Sound.{Sound}
use Rattle.fl_model.specs.Step.{step}
use Rattle.fl_model_laws.proofs.Cases.{either, by_given}
use Rattle.fl_model_laws.proofs.EndsStanding.{there_is}
use Rattle.fl_model_laws.proofs.Seating.{Ready}
use Rattle.fl_model_laws.proofs.WaitsetsStep.{HeardFits, places_of}
use Rattle.fl_model_laws.proofs.WaitsetsKept.{step_keeps_waitsets}
use Rattle.fl_model_laws.proofs.Hearing.{LinkThere, link_there, is_under_way, opened_ready}
use Rattle.fl_model_laws.proofs.Walk.{IsHere}
use Rattle.fl_model_laws.proofs.Small.{less, some_same}

-- ---- the core behind the last

pub in_at : (xs : List ℕ) (t x : ℕ) → t < length xs → slice_index xs t ≡ x → is_in x xs ≡ true
in_at [] t x a e = absurd (omega arith)
in_at (y ∷ xs) zero x a e = or_left _ _ (eq-eqb y x e)
in_at (y ∷ xs) (suc t) x a e = or_right (y == x) _ (in_at xs t x (omega arith) e)

pub not_true : (b : Bool) → not b ≡ true → b ≡ false
not_true false h = refl
not_true true h = absurd (cc)

one_more : (t : ℕ) → 1 + t ≡ suc t
one_more t = omega arith

pub place_is : (xs : List ℕ) (t x : ℕ) → t < length xs → slice_index xs t ≡ x → all_differ xs ≡ true
    → position_or_len (λ c. c == x) xs ≡ t
place_is [] t x a e d = absurd (omega arith)
place_is (y ∷ xs) zero x a e d =
    ap (λ (b : Bool). cond (not b) (1 + position_or_len (λ c. c == x) xs) 0) (eq-eqb y x e)
place_is (y ∷ xs) (suc t) x a e d =
    let both = and_parts (not (is_in y xs)) (all_differ xs) d in
    let ne : y ≢ x = λ s. false≢true (sym (not_true (is_in y xs) both.0) ∙ in_at xs t y (omega arith) (e ∙ sym s)) in
    ap (λ (b : Bool). cond (not b) (1 + position_or_len (λ c. c == x) xs) 0) (ne_eqb y x ne)
    ∙ ap (λ (n : ℕ). 1 + n) (place_is xs t x (omega arith) e both.1) ∙ one_more t

pub less_true : (m n : ℕ) → m < n → nat_lt m n ≡ true
less_true m n h = grind (arith, nat_tests, h)

not_less : (m n : ℕ) → nat_lt m n ≡ false → n ≤ m
not_less m n h = grind (arith, nat_tests, h)

pub last_by : (xs : List ℕ) (n : ℕ) (b : Bool) → nat_lt n (length xs) ≡ b → slice_get xs n ≡ None → length xs ≤ n
last_by xs n true e h = absurd (false≢true (sym (ap is_some h) ∙ there_is xs n (less n (length xs) e)))
last_by xs n false e h = not_less n (length xs) e

pub is_last : (xs : List ℕ) (t x : ℕ) → t < length xs → slice_index xs t ≡ x → all_differ xs ≡ true → next_on xs x ≡ None → length xs ≤ t + 1
is_last xs t x a e d h =
    let here : position (λ c. c == x) xs ≡ Some t =
    ap (λ (n : ℕ). cond (nat_lt n (length xs)) (Some n) None) (place_is xs t x a e d) ∙ cond-true _ _ _ (less_true t (length xs) a) in
    let none : slice_get xs (t + 1) ≡ None = sym (ap (λ (o : Option ℕ). given o None (λ j. slice_get xs (j + 1))) here) ∙ h in
    last_by xs (t + 1) (nat_lt (t + 1) (length xs)) refl none

-- ---- an opening

pub record OpeningDue (route : Route) (to : ℕ) (o : OpeningLabel) : Type 0 where
  pub to_is : to ≡ core_at route (length route.numbers)
  pub service : o.service ≡ route.service
  pub path : o.path ≡ route.cores

pub same_opening : (p o : OpeningLabel) → open_circuit p ≡ open_circuit o → p ≡ o
same_opening p o h = cc

pub not_opened : (c : ℕ) (o : OpeningLabel) → circuit_opened c ≡ open_circuit o → ⊥
not_opened c o h = absurd (cc)

pub not_refused : (c fault : ℕ) (o : OpeningLabel) → circuit_refused c fault ≡ open_circuit o → ⊥
not_refused c fault o h = absurd (cc)

pub said_same : (a b : Message) → Some a ≡ Some b → a.said ≡ b.said
said_same a b h = ap (λ (m : Message). m.said) (some_same a b h)

opening_due : (n : ℕ) (route : Route) (from to : ℕ) (o : OpeningLabel) (v : OpeningVerdict)
    → due_by n route v ≡ Some (record { from = from; to = to; said = open_circuit o }) → OpeningDue route to o
opening_due n route from to o undecided h =
    let same = same_opening _ o (said_same _ _ h) in
    record {
      to_is = sym (ap (λ (m : Message). m.to) (some_same _ _ h));
      service = sym (ap (λ (p : OpeningLabel). p.service) same);
      path = sym (ap (λ (p : OpeningLabel). p.path) same);
    }
opening_due n route from to o (granted zero) h = absurd (cc)
opening_due n route from to o (granted (suc i)) h = absurd (not_opened _ o (said_same _ _ h))
opening_due n route from to o (denied zero fault) h = absurd (cc)
opening_due n route from to o (denied (suc i) fault) h = absurd (not_refused _ _ o (said_same _ _ h))

abbrev FateFits : State → Fate → Type 0
FateFits s (goes_on l n) = Unit {0}
FateFits s (ends_at d) = (y : Dispatcher) × (dispatcher_of s d ≡ Some y) × (length y.ends + 1 ≤ most_ends)
FateFits s (fails fault) = Unit {0}

opening_fits : (s : State) (l : ℕ) (o : OpeningLabel) (f : Fate) (k : Core) → FateFits s f → HeardFits s (hears_opening l o f k).heard
opening_fits s l o (goes_on m n) k h = either (λ (x : Hearing). HeardFits s x.heard) (can_say m k) _ _ (λ q. tt) (λ q. tt)
opening_fits s l o (ends_at d) k h = either (λ (x : Hearing). HeardFits s x.heard) (can_say l k) _ _ (λ q. h) (λ q. tt)
opening_fits s l o (fails fault) k h = either (λ (x : Hearing). HeardFits s x.heard) (can_say l k) _ _ (λ q. tt) (λ q. tt)

opened_by : (s : State) (l c : ℕ) (hop : Hop) (way : HopTarget) (k : Core) → ((e : EndId) → way ≡ to_end e → Ready e s)
    → HeardFits s (hears_opened l c hop way k).heard
opened_by s l c hop (to_link m d) k h = either (λ (x : Hearing). HeardFits s x.heard) (can_say m.0 k) _ _ (λ q. tt) (λ q. tt)
opened_by s l c hop (to_end e) k h = h e refl

refused_by : (s : State) (l c fault : ℕ) (hop : Hop) (way : HopTarget) (k : Core) → HeardFits s (hears_refused l c fault hop way k).heard
refused_by s l c fault hop (to_link m d) k = either (λ (x : Hearing). HeardFits s x.heard) (can_say m.0 k) _ _ (λ q. tt) (λ q. tt)
refused_by s l c fault hop (to_end e) k = tt

module _ (s : State) (sound : Sound s) where
  -- the service's dispatcher is at the core where the opening arrives
  arrival_fits : (here : LinkEnd) (k : Core) (iref : ℕ) (service : Service) → core_of s here.core ≡ Some k → service_of s.services iref ≡ Some service
      → service.dispatcher.core ≡ here.core → FateFits s (arrival s.services iref k)
  arrival_fits here k iref service at is core =
      by_given (FateFits s) (service_of s.services iref) _ _ tt
      (λ x q. by_given (FateFits s) (slice_get k.dispatchers x.dispatcher.place) _ _ tt
      (λ d r. either (FateFits s) (has_places 1 d) _ _
      (λ t.
      let same : service ≡ x = some_same service x (sym is ∙ q) in
      let there : core_of s x.dispatcher.core ≡ Some k = ap (λ (y : Service). core_of s y.dispatcher.core) (sym same) ∙ ap (core_of s) core ∙ at in
      (d, ap (λ (o : Option Core). given o None (λ j. slice_get j.dispatchers x.dispatcher.place)) there ∙ r, places_of 1 (Some d) d refl t))
      (λ t. tt)))

  passage_fits : (next : ℕ) (k : Core) → FateFits s (passage next k)
  passage_fits next k =
      by_given (FateFits s) (link_to next k) _ _ tt (λ l q. by_given (FateFits s) (next_own k.circuits l) _ _ tt (λ n r. tt))

  fate_by : (o : OpeningLabel) (k : Core) (x : Option ℕ) → (x ≡ None → FateFits s (arrival s.services o.service k))
      → FateFits s (given x (arrival s.services o.service k) (λ next. passage next k))
  fate_by o k None h = h refl
  fate_by o k (Some next) h = passage_fits next k

  opening_heard : (here : LinkEnd) (o : OpeningLabel) (first : RingLabel) (k : Core) → IsHere here s → first_on here.ring s ≡ Some first
      → first.label ≡ says (open_circuit o) → core_of s here.core ≡ Some k → FateFits s (fate s.services o k)
  opening_heard here o first k j q l at =
      let t : LinkThere s here = link_there s here j in
      let due : IsDue s (record { from = here.neighbour; to = here.core; said = open_circuit o }) =
      sound.messages here.neighbour here.core (open_circuit o) (is_under_way s here (open_circuit o) first t q l) in
      let route : Route = due.route in
      let d : OpeningDue route here.core o = opening_due due.binding route here.neighbour here.core o route.verdict due.due in
      let leads : RouteLeads s route due.routed.binding = sound.routes due.binding route due.routed in
      let go : NumbersGo s route = sound.numbers due.binding route due.routed in
      let few : length route.numbers + 1 ≤ length route.cores = go.few in
      let own : k.circuits.core ≡ here.core = (sound.cores here.core k at).number in
      fate_by o k (next_on o.path k.circuits.core)
      (λ none.
      let ends : next_on route.cores here.core ≡ None = ap (λ (c : ℕ). next_on route.cores c) (sym own) ∙ ap (λ (p : List ℕ). next_on p k.circuits.core) (sym d.path) ∙ none in
      let last : length route.cores ≤ length route.numbers + 1 =
      is_last route.cores (length route.numbers) here.core (omega arith) (sym d.to_is) leads.differ ends in
      let place : length route.cores - 1 ≡ length route.numbers = omega arith in
      arrival_fits here k o.service leads.service at (ap (service_of s.services) d.service ∙ leads.service_is)
      (leads.last ∙ ap (core_at route) place ∙ sym d.to_is))

  said_fits : (here : LinkEnd) (m : MonitorLabel) (first : RingLabel) (k : Core) → IsHere here s → first_on here.ring s ≡ Some first → first.label ≡ says m
      → core_of s here.core ≡ Some k → HeardFits s (hears s.services here.link m k).heard
  said_fits here (open_circuit o) first k j q l at =
      opening_fits s here.link o (fate s.services o k) k (opening_heard here o first k j q l at)
  said_fits here (circuit_opened c) first k j q l at =
      by_given (λ (x : Hearing). HeardFits s x.heard) (hop_at k.circuits here.link c) _ _ tt
      (λ hop r. opened_by s here.link c hop hop.way k (λ e w. opened_ready s sound here c first k hop e j q l at r w))
  said_fits here (circuit_refused c fault) first k j q l at =
      by_given (λ (x : Hearing). HeardFits s x.heard) (hop_at k.circuits here.link c) _ _ tt
      (λ hop r. refused_by s here.link c fault hop hop.way k)

pub sound_waitsets : (s : State) (v : Event) → Sound s → WaitsetsStand (step s v).state
sound_waitsets s v sound = step_keeps_waitsets s v (record { waitsets = sound.waitsets; seats = sound.seats; heard = said_fits s sound })
