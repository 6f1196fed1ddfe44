-- Each step of a sound state keeps the tables of its cores: each core's own, with a link of the monitor for each of its links, and sound.
use Rattle.std.proofs.Common.{◌≡◌, ◌≢◌, refl, sym, ◌∙◌, ap, subst, ℕ, zero, suc, ◌+◌, ◌-◌, ◌<◌, ◌≤◌, ◌==◌, not, inl, inr, Bool, true, false, if◌then◌else◌, slice_index_or}
use Rattle.std.proofs.Common.{List, [], ◌∷◌, ◌++◌, length, map, position, slice_get, slice_index, Option, Some, None, arith}
use Rattle.std.specs.Prelude.{filter_map}
use Rattle.std.specs.List.{range_with_len, position_or_len}
use Rattle.std.proofs.lemmas.List.{length-set}
use Rattle.std.proofs.lemmas.Bool.{cond-true, eq-eqb, eqb-true, false≢true}
use Rattle.fl_hop.specs.declared.links.LinkState.{LinkState}
use Rattle.fl_hop.specs.declared.entry.HopTarget.{HopTarget}
use Rattle.fl_hop.specs.declared.entry.HopTarget.TheVariants.{Link as to_link, End as to_end}
use Rattle.fl_hop.specs.declared.entry.Hop.{Hop}
use Rattle.fl_hop.specs.Table.{TheCircuits, hop_at, link_of, without_entry}
use Rattle.fl_hop.specs.Joined.{Sound as IsTable}
use Rattle.fl_hop.specs.Numbers.{number, next_own, after_taking, count_opening, count_taking, with_opening, with_taking}
use Rattle.fl_hop.specs.Openings.{passed_on, arrived, answered}
use Rattle.fl_hop.proofs.Lists.{within}
use Rattle.fl_hop.proofs.Counting.{Next, Due, next_is, counted_opening, counted_taking, next_stays}
use Rattle.fl_model.specs.Events.{DispatcherId}
use Rattle.fl_model.specs.Rings.{OpeningLabel, MonitorLabel, open_circuit, circuit_opened, circuit_refused, Label, says, RingLabel, RingEnd}
use Rattle.fl_model.specs.Waits.{has_places}
use Rattle.fl_model.specs.Monitors.{Core, Link, Service, service_of, link_to, can_say, with_said, with_circuits, says_more, next_on, Fate, goes_on, ends_at, fails, arrival, fate, saying, Hearing, hears, hears_opening, hears_opened, hears_refused, Heard}
use Rattle.fl_model.specs.State.{OpeningVerdict, undecided, granted, denied, Route, over_route, Binding, State, core_of, link_between, first_on}
use Rattle.fl_model.specs.Binding.{all_differ}
use Rattle.fl_model.specs.Forwarding.{LinkEnd}
use Rattle.fl_model.specs.Standing.{core_at, standing, standing_by, Message, due_by, link_state, on_link, said_by, opening_number, labels_of, unread}
use Rattle.fl_model.specs.SoundPlaces.{CoreStands, LinkIsPaired}
use Rattle.fl_model.specs.SoundRoutes.{RouteLeads, NumbersGo}
use Rattle.fl_model.specs.SoundOpenings.{IsDue, OpeningsGo}
use Rattle.fl_model.specs.SoundEntries.{Key, EntryAt}
use Rattle.fl_model.specs.Sound.{Sound}
use Rattle.fl_model_laws.proofs.Cases.{either, by_given}
use Rattle.fl_model_laws.proofs.Arriving.{less_true, not_opened, not_refused, said_same, same_opening}
use Rattle.fl_model_laws.proofs.BindingWalk.{given_there}
use Rattle.fl_model_laws.proofs.CoreWalk.{IsApartFromChannels}
use Rattle.fl_model_laws.proofs.EndsStanding.{there_is as stands_there}
use Rattle.fl_model_laws.proofs.ForwardsTold.{got_at, place_there, first_unread, first_labels}
use Rattle.fl_model_laws.proofs.Hearing.{LinkThere, link_there, is_under_way}
use Rattle.fl_model_laws.proofs.ListingKept.{some_there}
use Rattle.fl_model_laws.proofs.Replies.{length_changed}
use Rattle.fl_model_laws.proofs.TablesKept.{Fresh, arrived_sound, passed_sound, answered_sound, removed_sound, taking_counted, leads_range}
use Rattle.fl_model_laws.proofs.Walk.{IsHere}
use Rattle.std.proofs.lemmas.List.Quantifiers.{position-Some}
use Rattle.fl_base.specs.Given.{given}
use Rattle.fl_base.specs.Numbered.{link_id, circuit_id}
use Rattle.fl_model_laws.proofs.Small.{some_same}

-- ---- a core's links by their neighbours

first_passing : (p : LinkState → Bool) (xs : List LinkState) (l : ℕ) (a : LinkState) → slice_get xs l ≡ Some a → p a ≡ true
    → (b : LinkState) × (slice_get xs (position_or_len p xs) ≡ Some b) × (p b ≡ true)
first_passing p [] l a h t = absurd (cc)
first_passing p (x ∷ xs) l a h t = by_test (p x) refl l h (λ n g. first_passing p xs n a g t)
  where
    by_test : (b : Bool) → p x ≡ b → (l : ℕ) → slice_get (x ∷ xs) l ≡ Some a
        → ((n : ℕ) → slice_get xs n ≡ Some a → (b : LinkState) × (slice_get xs (position_or_len p xs) ≡ Some b) × (p b ≡ true))
        → (b : LinkState) × (slice_get (x ∷ xs) (if not (p x) then 1 + position_or_len p xs else 0) ≡ Some b) × (p b ≡ true)
    by_test true e l h k = (x, ap (λ (c : Bool). slice_get (x ∷ xs) (if not c then 1 + position_or_len p xs else 0)) e, e)
    by_test false e zero h k = absurd (false≢true (sym e ∙ ap p (some_same x a h) ∙ t))
    by_test false e (suc n) h k =
        let (b, there, is) = k n h in
        let later : 1 + position_or_len p xs ≡ suc (position_or_len p xs) = omega arith in
        (b, ap (λ (c : Bool). slice_get (x ∷ xs) (if not c then 1 + position_or_len p xs else 0)) e ∙ ap (slice_get (x ∷ xs)) later ∙ there, is)

abbrev leads_to : ℕ → LinkState → Bool
leads_to core a = a.neighbour.0 == core

-- where a link leads to a core, the core's link to it is found, and leads there
pub record FoundLink (t : TheCircuits) (core : ℕ) : Type 0 where
  pub place : ℕ
  pub found : link_of t core ≡ Some place
  pub state : LinkState
  pub there : slice_get t.links place ≡ Some state
  pub neighbour : state.neighbour.0 ≡ core

pub found_link : (t : TheCircuits) (core l : ℕ) (a : LinkState) → slice_get t.links l ≡ Some a → a.neighbour.0 ≡ core → FoundLink t core
found_link t core l a h e =
    let (b, there, is) = first_passing (leads_to core) t.links l a h (eq-eqb a.neighbour.0 core e) in
    record {
      place = position_or_len (leads_to core) t.links;
      found = cond-true _ _ _ (less_true _ (length t.links) (within t.links (position_or_len (leads_to core) t.links) b there));
      state = b;
      there = there;
      neighbour = eqb-true b.neighbour.0 core is;
    }

pub link_place : (t : TheCircuits) (l : ℕ) (a : LinkState) → IsTable t → slice_get t.links l ≡ Some a → link_of t a.neighbour.0 ≡ Some l
link_place t l a table h =
    let f : FoundLink t a.neighbour.0 = found_link t a.neighbour.0 l a h refl in
    f.found ∙ ap (λ (n : ℕ). Some n) (table.once f.place l f.state a f.there h f.neighbour)

-- the link that is found leads there
pub linked_to : (t : TheCircuits) (core l : ℕ) → link_of t core ≡ Some l → (a : LinkState) × (slice_get t.links l ≡ Some a) × (a.neighbour.0 ≡ core)
linked_to t core l h =
    let found = position-Some (leads_to core) t.links l (record { neighbour = record { 0 = 0 }; opened = 0; taken = 0 }) h in
    let (a, there) = some_there (slice_get t.links l) (stands_there t.links l (let below : l < length t.links = found.0 in omega arith)) in
    (a, there, eqb-true a.neighbour.0 core (subst (λ (x : LinkState). leads_to core x ≡ true) (got t.links l a there) found.1))
  where
    got : (xs : List LinkState) (l : ℕ) (a : LinkState) → slice_get xs l ≡ Some a
        → slice_index_or xs l (record { neighbour = record { 0 = 0 }; opened = 0; taken = 0 }) ≡ a
    got [] l a h = absurd (cc)
    got (x ∷ xs) zero a h = some_same x a h
    got (x ∷ xs) (suc l) a h = got xs l a h

-- ---- what keeps a core standing

pub apart_from_channels : IsApartFromChannels CoreStands
apart_from_channels n place f k c = record { number = c.number; links = c.links; table = c.table }

pub with_table : (n : ℕ) (k : Core) (t : TheCircuits) → CoreStands n k → IsTable t → t.core ≡ k.circuits.core → length t.links ≡ length k.circuits.links
    → CoreStands n (with_circuits t k)
with_table n k t c table core long = record { number = core ∙ c.number; links = c.links ∙ sym long; table = table }

pub said_more : (n l : ℕ) (m : MonitorLabel) (k : Core) → CoreStands n k → CoreStands n (with_said l m k)
said_more n l m k c = record { number = c.number; links = length_changed k.links l (says_more m) ∙ c.links; table = c.table }

said_after : (n l : ℕ) (m : MonitorLabel) (t : TheCircuits) (x : Heard) (k : Core) → CoreStands n k → CoreStands n (with_circuits t k)
    → CoreStands n (saying l m t x k).core
said_after n l m t x k c d =
    either (λ (h : Hearing). CoreStands n h.core) (can_say l k) _ _ (λ q. said_more n l m (with_circuits t k) d) (λ q. c)

pub opening_length : (t : TheCircuits) (l n : ℕ) (x : Next t.core t.links l n) → length (count_opening t.links l) ≡ length t.links
opening_length t l n x =
    ap (λ (ls : List LinkState). length ls) (counted_opening t.core t.links l n x)
    ∙ length-set t.links l (with_opening x.link)

taking_length : (t : TheCircuits) (l n : ℕ) (x : Due t.core t.links l n) → length (count_taking t.links l) ≡ length t.links
taking_length t l n x =
    ap (λ (ls : List LinkState). length ls) (counted_taking t.core t.links l n x)
    ∙ length-set t.links l (with_taking x.link)

-- ---- what a core hears of answers

answered_stands : (n l c : ℕ) (hop : Hop) (way : HopTarget) (k : Core) → hop_at k.circuits l c ≡ Some hop → CoreStands n k → CoreStands n (hears_opened l c hop way k).core
answered_stands n l c hop way k there stands = by_way way
  where
    told : CoreStands n (with_circuits (answered k.circuits (link_id l) (circuit_id c) hop) k)
    told = with_table n k (answered k.circuits (link_id l) (circuit_id c) hop) stands (answered_sound k.circuits stands.table (link_id l) (circuit_id c) hop there) refl refl

    by_way : (way : HopTarget) → CoreStands n (hears_opened l c hop way k).core
    by_way (to_link m d) = said_after n m.0 (circuit_opened d.0) (answered k.circuits (link_id l) (circuit_id c) hop) _ k stands told
    by_way (to_end e) = told

refused_stands : (n l c fault : ℕ) (hop : Hop) (k : Core) → hop_at k.circuits l c ≡ Some hop → CoreStands n k → CoreStands n (hears_refused l c fault hop hop.way k).core
refused_stands n l c fault hop k there stands = by_way hop.way
  where
    told : CoreStands n (with_circuits (without_entry k.circuits (to_link (link_id l) (circuit_id c)) hop.way) k)
    told =
        with_table n k (without_entry k.circuits (to_link (link_id l) (circuit_id c)) hop.way) stands
        (removed_sound k.circuits stands.table (link_id l) (circuit_id c) hop there) refl refl

    by_way : (way : HopTarget) → CoreStands n (hears_refused l c fault hop way k).core
    by_way (to_link m d) =
        said_after n m.0 (circuit_refused d.0 fault) (without_entry k.circuits (to_link (link_id l) (circuit_id c)) hop.way) _ k stands told
    by_way (to_end e) = told

-- ---- and of an opening

abbrev OpeningStands : ℕ → ℕ → OpeningLabel → Core → Fate → Type 0
OpeningStands n l o k f = CoreStands n (hears_opening l o f k).core

module _ (n l : ℕ) (o : OpeningLabel) (k : Core) (stands : CoreStands n k) (due : Due k.circuits.core k.circuits.links l o.circuit) (fresh : Fresh k.circuits o.binding) where
  fails_stands : (fault : ℕ) → OpeningStands n l o k (fails fault)
  fails_stands fault =
      said_after n l (circuit_refused o.circuit fault) (after_taking k.circuits l) _ k stands
      (with_table n k (after_taking k.circuits l) stands (taking_counted k.circuits stands.table l o.circuit due) refl (taking_length k.circuits l o.circuit due))

  ends_stands : (d : DispatcherId) → OpeningStands n l o k (ends_at d)
  ends_stands d =
      said_after n l (circuit_opened o.circuit) (arrived k.circuits (link_id l) (circuit_id o.circuit) o.binding) _ k stands
      (with_table n k (arrived k.circuits (link_id l) (circuit_id o.circuit) o.binding) stands
      (arrived_sound k.circuits stands.table (link_id l) (circuit_id o.circuit) o.binding due fresh) refl (taking_length k.circuits l o.circuit due))

  goes_stands : (m c : ℕ) → Next k.circuits.core k.circuits.links m c → l ≢ m → OpeningStands n l o k (goes_on m c)
  goes_stands m c next apart =
      let u : TheCircuits = after_taking k.circuits l in
      let z : Next u.core u.links m c = next_stays k.circuits.core k.circuits.links l o.circuit m c due apart next in
      said_after n m (open_circuit (record o { circuit = c })) (passed_on k.circuits (link_id l) (circuit_id o.circuit) (link_id m) (circuit_id c) o.binding) _ k stands
      (with_table n k (passed_on k.circuits (link_id l) (circuit_id o.circuit) (link_id m) (circuit_id c) o.binding) stands
      (passed_sound k.circuits stands.table (link_id l) (link_id m) (circuit_id o.circuit) (circuit_id c) o.binding due next apart fresh) refl
      (opening_length u m c z ∙ taking_length k.circuits l o.circuit due))

  arrival_stands : (services : List Service) (iref : ℕ) → OpeningStands n l o k (arrival services iref k)
  arrival_stands services iref =
      by_given (OpeningStands n l o k) (service_of services iref) _ _ (fails_stands 70)
      (λ x q. by_given (OpeningStands n l o k) (slice_get k.dispatchers x.dispatcher.place) _ _ (fails_stands 70)
      (λ d r. either (OpeningStands n l o k) (has_places 1 d) _ _ (λ t. ends_stands x.dispatcher) (λ t. fails_stands 54)))

  fate_stands : (services : List Service) → ((next m : ℕ) → next_on o.path k.circuits.core ≡ Some next → link_to next k ≡ Some m → l ≢ m)
      → OpeningStands n l o k (fate services o k)
  fate_stands services apart =
      by_given (OpeningStands n l o k) (next_on o.path k.circuits.core) _ _ (arrival_stands services o.service)
      (λ next q. by_given (OpeningStands n l o k) (link_to next k) _ _ (fails_stands 73)
      (λ m r. by_given (OpeningStands n l o k) (next_own k.circuits m) _ _ (fails_stands 74)
      (λ c t. goes_stands m c (next_is k.circuits.core k.circuits.links m c t) (apart next m q r))))

-- ---- the opening that stands first

record OpeningAt (n : ℕ) (route : Route) (from to : ℕ) (o : OpeningLabel) : Type 0 where
  binding : n ≡ o.binding
  verdict : route.verdict ≡ undecided
  from_is : from ≡ core_at route (length route.numbers - 1)
  to_is : to ≡ core_at route (length route.numbers)
  path : o.path ≡ route.cores

opening_at : (n : ℕ) (route : Route) (from to : ℕ) (o : OpeningLabel) (v : OpeningVerdict) → route.verdict ≡ v
    → due_by n route v ≡ Some (record { from = from; to = to; said = open_circuit o }) → OpeningAt n route from to o
opening_at n route from to o undecided e h =
    let same = some_same _ _ h in
    let opening = same_opening _ o (ap (λ (m : Message). m.said) same) in
    record {
      binding = ap (λ (p : OpeningLabel). p.binding) opening;
      verdict = e;
      from_is = sym (ap (λ (m : Message). m.from) same);
      to_is = sym (ap (λ (m : Message). m.to) same);
      path = sym (ap (λ (p : OpeningLabel). p.path) opening);
    }
opening_at n route from to o (granted zero) e h = absurd (cc)
opening_at n route from to o (granted (suc i)) e h = absurd (not_opened _ o (said_same _ _ h))
opening_at n route from to o (denied zero fault) e h = absurd (cc)
opening_at n route from to o (denied (suc i) fault) e h = absurd (not_refused _ _ o (said_same _ _ h))

one_place : (xs : List ℕ) (i j x : ℕ) → i < length xs → j < length xs → slice_index xs i ≡ x → slice_index xs j ≡ x → all_differ xs ≡ true → i ≡ j
one_place xs i j x a b p q d = some_same i j (sym (place_there xs i x a p d) ∙ place_there xs j x b q d)

first_number : (a b taken n : ℕ) (x : ℕ) (rest : List ℕ) → x ∷ rest ≡ map (number a b) (range_with_len taken n) → (1 ≤ n) × (number a b taken ≡ x)
first_number a b taken zero x rest h = absurd (cc)
first_number a b taken (suc n) x rest h = (omega arith, let e : x ≡ number a b taken = cc in sym e)

same_route : (a b : Route) → over_route a ≡ over_route b → a ≡ b
same_route a b h = cc

module _ (s : State) (sound : Sound s) (here : LinkEnd) (o : OpeningLabel) (first : RingLabel) (k : Core) (j : IsHere here s)
    (q : first_on here.ring s ≡ Some first) (is : first.label ≡ says (open_circuit o)) (at : core_of s here.core ≡ Some k) where
  t : LinkThere s here
  t = link_there s here j

  mine : t.core ≡ k
  mine = some_same t.core k (sym t.core_is ∙ at)

  place : link_to here.neighbour k ≡ Some here.link
  place = ap (link_to here.neighbour) (sym mine) ∙ t.place

  stands : CoreStands here.core k
  stands = sound.cores here.core k at

  between : link_between s here.core here.neighbour ≡ Some t.link
  between =
      ap (λ (x : Option Core). given x None (λ y. given (link_to here.neighbour y) None (λ n. slice_get y.links n))) t.core_is
      ∙ ap (λ (x : Option ℕ). given x None (λ n. slice_get t.core.links n)) t.place ∙ t.link_is

  due : IsDue s (record { from = here.neighbour; to = here.core; said = open_circuit o })
  due = sound.messages here.neighbour here.core (open_circuit o) (is_under_way s here (open_circuit o) first t q is)

  abbrev route : Route
  route = due.route

  opening : OpeningAt due.binding route here.neighbour here.core o
  opening = opening_at due.binding route here.neighbour here.core o route.verdict refl due.due

  leads : RouteLeads s route due.routed.binding
  leads = sound.routes due.binding route due.routed

  go : NumbersGo s route
  go = sound.numbers due.binding route due.routed

  -- the neighbour's next number
  its_due : Due k.circuits.core k.circuits.links here.link o.circuit
  its_due =
      let (there, there_is, leads_there) = linked_to k.circuits here.neighbour here.link place in
      let paired : LinkIsPaired s here.core here.neighbour t.link = sound.links here.core here.neighbour t.link between in
      let (ka, ka_at, ka_is) = given_there (core_of s here.neighbour) (λ y. given (link_to here.core y) None (λ n. slice_get y.links n)) paired.back paired.back_is in
      let (la, la_to, la_is) = given_there (link_to here.core ka) (λ n. slice_get ka.links n) paired.back ka_is in
      let (far, far_is, leads_far) = linked_to ka.circuits here.core la la_to in
      let near_state : link_state s here.core here.neighbour ≡ Some there =
      ap (λ (x : Option Core). given x None λ y. given (link_to here.neighbour y) None λ n. slice_get y.circuits.links n) at
      ∙ ap (λ (x : Option ℕ). given x None λ n. slice_get k.circuits.links n) place ∙ there_is in
      let far_state : link_state s here.neighbour here.core ≡ Some far =
      ap (λ (x : Option Core). given x None λ y. given (link_to here.core y) None λ n. slice_get y.circuits.links n) ka_at
      ∙ ap (λ (x : Option ℕ). given x None λ n. slice_get ka.circuits.links n) la_to ∙ far_is in
      let goes : OpeningsGo s here.neighbour here.core far there = sound.openings here.neighbour here.core far there far_state near_state in
      let (rest, labels) = first_labels (unread s here.ring) first
      (first_unread (slice_get s.rings here.ring.ring) here.ring.side ∙ q) in
      let on : on_link s here.neighbour here.core ≡ says (open_circuit o) ∷ rest =
      ap (λ (x : Option Link). given x [] (λ link. labels_of (unread s link.ring))) between
      ∙ ap (λ (x : RingEnd). labels_of (unread s x)) t.ring ∙ labels
      ∙ ap (λ (x : Label). x ∷ rest) is in
      let waiting : List MonitorLabel = given (link_between s here.neighbour here.core) [] λ link. link.outbox in
      let numbers : o.circuit ∷ filter_map opening_number (filter_map said_by rest ++ waiting)
      ≡ map (number here.neighbour here.core) (range_with_len there.taken (far.opened - there.taken)) =
      sym (ap (λ (ls : List Label). filter_map opening_number (filter_map said_by ls ++ waiting)) on) ∙ goes.numbers in
      let (some, head) = first_number here.neighbour here.core there.taken (far.opened - there.taken) o.circuit _ numbers in
      let most = (sound.cores here.neighbour ka ka_at).table.counts la far far_is in
      let few : far.opened ≤ 1023 = most.0 in
      let under : there.taken ≤ far.opened = goes.taken in
      let more : 1 ≤ far.opened - there.taken = some in
      record {
        link = there;
        there = there_is;
        few = omega (arith, few, under, more);
        is = ap (λ (x : ℕ). number x k.circuits.core there.taken) leads_there ∙ ap (λ (x : ℕ). number here.neighbour x there.taken) stands.number ∙ head;
      }

  below_cores : length route.numbers + 1 ≤ length route.cores
  below_cores = go.few

  -- no entry of the binding stands here yet
  its_fresh : Fresh k.circuits o.binding
  its_fresh l n way h =
      let hop : Hop = record { binding = o.binding; way = way; answered = h.answered } in
      let below = leads_range k.circuits stands.table l n o.binding way h in
      let (a, a_at) = some_there (slice_get k.circuits.links l) (stands_there k.circuits.links l (let less : l < length k.circuits.links = below.0 in omega arith)) in
      let key : Key = record { core = here.core; neighbour = a.neighbour.0; number = n } in
      let entry : EntryAt s key hop =
      record { core = k; core_is = at; link = l; link_is = link_place k.circuits l a stands.table a_at; there = h.there } in
      let (other, routed, found) = sound.only_entries key hop entry in
      let i : ℕ = found.0 in
      let one : routed.binding ≡ due.routed.binding =
      some_same routed.binding due.routed.binding (sym routed.there ∙ ap (slice_get s.bindings) (sym opening.binding) ∙ due.routed.there) in
      let same : other ≡ route = same_route other route (sym routed.back ∙ ap (λ (b : Binding). b.back) one ∙ due.routed.back) in
      let stand : standing route ≡ length route.numbers = ap (standing_by route) opening.verdict in
      let few : length route.numbers + 1 ≤ length route.cores = below_cores in
      elim found.1 [
        | inl near ↦
            let core : here.core ≡ core_at other i = ap (λ (x : Key). x.core) near.key_is in
            let within : i < length other.numbers = near.within in
            let numbers : length other.numbers ≡ length route.numbers = ap (λ (r : Route). length r.numbers) same in
            let this : i ≡ length route.numbers =
            one_place route.cores i (length route.numbers) here.core (omega (arith, within, numbers, few)) (omega (arith, few))
            (ap (λ (r : Route). core_at r i) (sym same) ∙ sym core) (sym opening.to_is) leads.differ in
            absurd (omega (arith, this, within, numbers))
        | inr far ↦
            let core : here.core ≡ core_at other (i + 1) = ap (λ (x : Key). x.core) far.key_is in
            let up : i + 1 < standing other = far.stands in
            let all : standing other ≡ standing route = ap standing same in
            let this : i + 1 ≡ length route.numbers =
            one_place route.cores (i + 1) (length route.numbers) here.core (omega (arith, up, all, stand, few)) (omega (arith, few))
            (ap (λ (r : Route). core_at r (i + 1)) (sym same) ∙ sym core) (sym opening.to_is) leads.differ in
            absurd (omega (arith, this, up, all, stand))
      ]

  -- the next core isn't the one that it came from
  its_apart : (next m : ℕ) → next_on o.path k.circuits.core ≡ Some next → link_to next k ≡ Some m → here.link ≢ m
  its_apart next m on to same =
      let (a, a_is, a_leads) = linked_to k.circuits next m to in
      let (b, b_is, b_leads) = linked_to k.circuits here.neighbour here.link place in
      let ab : a ≡ b = some_same a b (sym a_is ∙ ap (slice_get k.circuits.links) (sym same) ∙ b_is) in
      let back : next ≡ here.neighbour = sym a_leads ∙ ap (λ (x : LinkState). x.neighbour.0) ab ∙ b_leads in
      let few : length route.numbers + 1 ≤ length route.cores = below_cores in
      let some : 1 ≤ length route.numbers = go.some in
      let its_place : position (λ c. c == k.circuits.core) route.cores ≡ Some (length route.numbers) =
      ap (λ (c : ℕ). position (λ x. x == c) route.cores) stands.number
      ∙ place_there route.cores (length route.numbers) here.core (omega (arith, few)) (sym opening.to_is) leads.differ in
      let onward : slice_get route.cores (length route.numbers + 1) ≡ Some next =
      sym (ap (λ (x : Option ℕ). given x None λ i. slice_get route.cores (i + 1)) its_place) ∙ ap (λ (p : List ℕ). next_on p k.circuits.core) (sym opening.path) ∙ on in
      let (below, got) = got_at route.cores (length route.numbers + 1) next onward in
      let clash : length route.numbers + 1 ≡ length route.numbers - 1 =
      one_place route.cores (length route.numbers + 1) (length route.numbers - 1) here.neighbour below (omega (arith, few)) (got ∙ back) (sym opening.from_is) leads.differ in
      absurd (omega (arith, clash, some))

  opening_stands : CoreStands here.core (hears s.services here.link (open_circuit o) k).core
  opening_stands = fate_stands here.core here.link o k stands its_due its_fresh s.services its_apart

abbrev pub HeardStands : State → Type 0
HeardStands s = (here : LinkEnd) (m : MonitorLabel) (first : RingLabel) (k : Core) → IsHere here s → first_on here.ring s ≡ Some first → first.label ≡ says m
    → core_of s here.core ≡ Some k → CoreStands here.core (hears s.services here.link m k).core

pub heard_stands : (s : State) → Sound s → HeardStands s
heard_stands s sound here (open_circuit o) first k j q is at = opening_stands s sound here o first k j q is at
heard_stands s sound here (circuit_opened c) first k j q is at =
    by_given (λ (x : Hearing). CoreStands here.core x.core) (hop_at k.circuits here.link c) _ _ (sound.cores here.core k at)
    (λ hop r. answered_stands here.core here.link c hop hop.way k r (sound.cores here.core k at))
heard_stands s sound here (circuit_refused c fault) first k j q is at =
    by_given (λ (x : Hearing). CoreStands here.core x.core) (hop_at k.circuits here.link c) _ _ (sound.cores here.core k at)
    (λ hop r. refused_stands here.core here.link c fault hop k r (sound.cores here.core k at))
