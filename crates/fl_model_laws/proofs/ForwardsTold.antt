-- In a sound state a forward answers `nothing` only where nothing stands on the link: an entry stands for every call's fragment and
-- every answer.
use Rattle.std.proofs.Common.{◌≡◌, ◌≢◌, refl, sym, ◌∙◌, ap, subst, ℕ, zero, suc, ◌+◌, ◌-◌, ◌<◌, ◌≤◌, ◌==◌, min, nat_lt, not, cond, Bool, true, false, if◌then◌else◌}
use Rattle.std.proofs.Common.{List, [], ◌∷◌, length, reverse, slice_get, slice_index, Option, Some, None, arith}
use Rattle.std.specs.Prelude.{IsSome, Contains, drop}
use Rattle.std.specs.List.{range_with_len, position_or_len}
use Rattle.std.proofs.lemmas.Bool.{cond-true, eq-eqb, ne_eqb, true≢false}
use Rattle.std.proofs.lemmas.List.{length-reverse}
use Rattle.std.proofs.lemmas.List.Quantifiers.{position-Some}
use Rattle.fl_base.specs.declared.identity.EndId.{EndId}
use Rattle.fl_base.specs.declared.identity.Side.{Side}
use Rattle.fl_base.specs.declared.identity.Side.TheVariants.{Client, Server}
use Rattle.fl_hop.specs.declared.links.LinkState.{LinkState}
use Rattle.fl_hop.specs.declared.entry.HopTarget.{HopTarget}
use Rattle.fl_hop.specs.declared.entry.HopTarget.TheVariants.{Link as to_link, End as to_end}
use Rattle.fl_hop.specs.declared.entry.Hop.{Hop}
use Rattle.fl_hop.specs.Table.{hop_at}
use Rattle.fl_model.specs.Events.{nothing}
use Rattle.fl_model.specs.Rings.{OpeningLabel, MonitorLabel, open_circuit, circuit_opened, circuit_refused, Label, next_of, says, acknowledges, RingLabel, Ring, RingSide, RingEnd, first_for, read_by, looks, Room, there_is_room, no_room, spent, for_data}
use Rattle.fl_model.specs.Ends.{Direction, written_of, queue_room}
use Rattle.fl_model.specs.Monitors.{Core, Link, link_to, can_say, Service, Fate, goes_on, ends_at, fails, fate, Hearing, hears, hears_opening, hears_opened, hears_refused, Heard, no_outbox, misrouted, opening_went_on, server_made, opening_failed, answer_went_on, end_opened, end_refused}
use Rattle.fl_model.specs.State.{OpeningVerdict, undecided, granted, denied, Route, Back, Binding, State, StepOutcome, core_of, binding_of, end_of, end_in, link_between, first_on, way_of, place_in, number_between, station_at, change_ring, change_core, ring_makes_sure, ring_room}
use Rattle.fl_model.specs.Forwarding.{LinkEnd, link_end, follows, FragAtHop, goes_on_by, arrives_by, follows_entry, route_of, forwards_call, forwards_said, forwards_label, takes_said}
use Rattle.fl_model.specs.Standing.{Routed, core_at, number_at, standing, standing_by, Message, due_by, unread, labels_of, on_link, before_by, queue_of, picked, answer_number}
use Rattle.fl_model.specs.SoundPlaces.{TakesFrom, EndStands, stations}
use Rattle.fl_model.specs.SoundRoutes.{VerdictFits}
use Rattle.fl_model.specs.SoundOpenings.{IsDue}
use Rattle.fl_model.specs.SoundEntries.{Leads, to_this, on_to, behind, ahead, SaysWay, Key, near_key, far_key, EntryIs}
use Rattle.fl_model.specs.SoundLabels.{GoesOver, StandsBefore, OpensBefore}
use Rattle.fl_model.specs.Sound.{Sound}
use Rattle.fl_model.specs.Laws.{ForwardsUnderstand}
use Rattle.fl_model_laws.proofs.Cases.{either, by_given, by_given_or}
use Rattle.fl_model_laws.proofs.BindingWalk.{given_there}
use Rattle.fl_model_laws.proofs.EndsStanding.{there_is as stands_there}
use Rattle.fl_model_laws.proofs.Arriving.{place_is, less_true}
use Rattle.fl_model_laws.proofs.Hearing.{LinkThere, link_there, is_under_way}
use Rattle.fl_model_laws.proofs.ListingStep.{end_at}
use Rattle.fl_model_laws.proofs.ListingKept.{some_there}
use Rattle.fl_model_laws.proofs.TurnsTold.{there_is, Tells, picked_first, way_length, takes_from}
use Rattle.fl_model_laws.proofs.WritesTold.{get_at, get_back}
use Rattle.fl_model.specs.Binding.{all_differ}
use Rattle.fl_base.specs.Ends.{peer}
use Rattle.fl_base.specs.Given.{given}
use Rattle.fl_model_laws.proofs.Small.{some_same}

-- ---- what stands first on the link

pub first_unread : (o : Option Ring) (side : RingSide) → slice_get (given o [] λ r. (read_by side r).waiting) 0 ≡ given o None (first_for side)
first_unread None side = refl
first_unread (Some r) side = refl

no_labels : (ls : List RingLabel) → slice_get ls 0 ≡ None → labels_of ls ≡ []
no_labels [] h = refl
no_labels (l ∷ ls) h = absurd (cc)

pub first_labels : (ls : List RingLabel) (first : RingLabel) → slice_get ls 0 ≡ Some first → (rest : List Label) × (labels_of ls ≡ first.label ∷ rest)
first_labels [] first h = absurd (cc)
first_labels (l ∷ ls) first h = (labels_of ls, ap (λ (x : RingLabel). x.label ∷ labels_of ls) (some_same l first h))

names_here : (b a : ℕ) (here : LinkEnd) (s : State) → link_end b a s ≡ Some here → (b ≡ here.core) × (a ≡ here.neighbour)
names_here b a here s q =
    let (k, at, is) = given_there (core_of s b) _ here q in
    let (l, to, there) = given_there (link_to a k) _ here is in
    let (link, got, made) = given_there (slice_get k.links l) _ here there in
    let same : record { core = b; neighbour = a; link = l; ring = link.ring } ≡ here = some_same _ here made in
    (ap (λ (x : LinkEnd). x.core) same, ap (λ (x : LinkEnd). x.neighbour) same)

-- ---- places on a way

pub got_at : (xs : List ℕ) (n x : ℕ) → slice_get xs n ≡ Some x → (n < length xs) × (slice_index xs n ≡ x)
got_at [] n x h = absurd (cc)
got_at (y ∷ xs) zero x h = (omega arith, some_same y x h)
got_at (y ∷ xs) (suc n) x h = let (below, is) = got_at xs n x h in (omega arith, is)

pub place_there : (xs : List ℕ) (t x : ℕ) → t < length xs → slice_index xs t ≡ x → all_differ xs ≡ true → place_in xs x ≡ Some t
place_there xs t x a e d =
    ap (λ (n : ℕ). cond (nat_lt n (length xs)) (Some n) None) (place_is xs t x a e d) ∙ cond-true _ _ _ (less_true t (length xs) a)

-- an element of a list has a place in it
below_by : (b : Bool) (y x : ℕ) (xs : List ℕ) (t : ℕ) → (y == x) ≡ b → slice_get (y ∷ xs) t ≡ Some x
    → ((u : ℕ) → slice_get xs u ≡ Some x → position_or_len (λ c. c == x) xs < length xs)
    → (if not b then 1 + position_or_len (λ c. c == x) xs else 0) < length (y ∷ xs)
below_by true y x xs t e h k = omega arith
below_by false y x xs zero e h k = absurd (true≢false (sym (eq-eqb y x (some_same y x h)) ∙ e))
below_by false y x xs (suc t) e h k = let below : position_or_len (λ c. c == x) xs < length xs = k t h in omega arith

place_below : (xs : List ℕ) (t x : ℕ) → slice_get xs t ≡ Some x → position_or_len (λ c. c == x) xs < length xs
place_below [] t x h = absurd (cc)
place_below (y ∷ xs) t x h = below_by (y == x) y x xs t refl h (λ u k. place_below xs u x k)

has_place : (xs : List ℕ) (t x : ℕ) → slice_get xs t ≡ Some x → (j : ℕ) × (place_in xs x ≡ Some j)
has_place xs t x h = (position_or_len (λ c. c == x) xs, cond-true _ _ _ (less_true _ (length xs) (place_below xs t x h)))

-- ---- where an entry leads

abbrev LeadsWithin : ℕ → Leads → Type 0
LeadsWithin n (to_this f) = f.binding ≡ n
LeadsWithin n (on_to a c) = Unit {0}

ahead_within : (n : ℕ) (route : Route) (j : ℕ) → LeadsWithin n (ahead n route j)
ahead_within n route j = either (LeadsWithin n) (j + 1 == length route.cores) _ _ (λ q. refl) (λ q. tt)

behind_within : (n : ℕ) (route : Route) (j : ℕ) → LeadsWithin n (behind n route j)
behind_within n route zero = refl
behind_within n route (suc j) = tt

-- ---- what comes of it

room_tells : (here : LinkEnd) (p : FragAtHop) (on : RingEnd) (r : Room) (s : State) → Tells (goes_on_by here p on r s)
room_tells here p on there_is_room s = λ h. absurd (cc)
room_tells here p on no_room s = λ h. absurd (cc)
room_tells here p on spent s = λ h. absurd (cc)

arrival_tells : (here : LinkEnd) (p : FragAtHop) (to : EndId) (r : Room) (s : State) → Tells (arrives_by here p to r s)
arrival_tells here p to there_is_room s = λ h. absurd (cc)
arrival_tells here p to no_room s = λ h. absurd (cc)
arrival_tells here p to spent s = λ h. absurd (cc)

heard_tells : (x : Heard) (s : State) → x ≢ misrouted → Tells (follows x s)
heard_tells no_outbox s k = λ h. absurd (cc)
heard_tells misrouted s k = absurd (k refl)
heard_tells (opening_went_on n c) s k = λ h. absurd (cc)
heard_tells (server_made n d c) s k = λ h. absurd (cc)
heard_tells (opening_failed n fault) s k = λ h. absurd (cc)
heard_tells (answer_went_on n) s k = λ h. absurd (cc)
heard_tells (end_opened e c) s k = λ h. absurd (cc)
heard_tells (end_refused e fault) s k = λ h. absurd (cc)

abbrev NotMisrouted : Hearing → Type 0
NotMisrouted x = x.heard ≢ misrouted

opening_known : (l : ℕ) (o : OpeningLabel) (f : Fate) (k : Core) → NotMisrouted (hears_opening l o f k)
opening_known l o (goes_on m n) k = either NotMisrouted (can_say m k) _ _ (λ q h. absurd (cc)) (λ q h. absurd (cc))
opening_known l o (ends_at d) k = either NotMisrouted (can_say l k) _ _ (λ q h. absurd (cc)) (λ q h. absurd (cc))
opening_known l o (fails fault) k = either NotMisrouted (can_say l k) _ _ (λ q h. absurd (cc)) (λ q h. absurd (cc))

opened_known : (l c : ℕ) (hop : Hop) (way : HopTarget) (k : Core) → NotMisrouted (hears_opened l c hop way k)
opened_known l c hop (to_link m d) k = either NotMisrouted (can_say m.0 k) _ _ (λ q h. absurd (cc)) (λ q h. absurd (cc))
opened_known l c hop (to_end e) k = λ h. absurd (cc)

refused_known : (l c fault : ℕ) (hop : Hop) (way : HopTarget) (k : Core) → NotMisrouted (hears_refused l c fault hop way k)
refused_known l c fault hop (to_link m d) k = either NotMisrouted (can_say m.0 k) _ _ (λ q h. absurd (cc)) (λ q h. absurd (cc))
refused_known l c fault hop (to_end e) k = λ h. absurd (cc)

-- ---- an answer is due at a core whose entry stands

record AnswerDue (route : Route) (m : Message) (c : ℕ) : Type 0 where
  place : ℕ
  within : place < length route.numbers
  stands : place < standing route
  from : m.from ≡ core_at route (suc place)
  to : m.to ≡ core_at route place
  number : number_at route place ≡ c

due_parts : (a m : Message) → Some a ≡ Some m → (m.from ≡ a.from) × (m.to ≡ a.to) × (m.said ≡ a.said)
due_parts a m h =
    let same : a ≡ m = some_same a m h in
    (ap (λ (x : Message). x.from) (sym same), ap (λ (x : Message). x.to) (sym same), ap (λ (x : Message). x.said) (sym same))

answer_due : (n : ℕ) (route : Route) (m : Message) (c : ℕ) (v : OpeningVerdict) → route.verdict ≡ v → VerdictFits route v → due_by n route v ≡ Some m
    → answer_number m.said ≡ Some c → AnswerDue route m c
answer_due n route m c undecided e fits h a =
    let (from, to, said) = due_parts _ m h in
    absurd (let none : None ≡ Some c = sym (ap answer_number said) ∙ a in cc)
answer_due n route m c (granted zero) e fits h a = absurd (cc)
answer_due n route m c (granted (suc i)) e fits h a =
    let (from, to, said) = due_parts _ m h in
    let whole : length route.numbers + 1 ≡ length route.cores = fits.0 in
    let below : suc i ≤ length route.numbers = fits.1 in
    let all : standing route ≡ length route.cores = ap (standing_by route) e in
    record {
      place = i;
      within = omega arith;
      stands = omega arith;
      from = from;
      to = to;
      number = some_same (number_at route i) c (sym (ap answer_number said) ∙ a);
    }
answer_due n route m c (denied zero fault) e fits h a = absurd (cc)
answer_due n route m c (denied (suc i) fault) e fits h a =
    let (from, to, said) = due_parts _ m h in
    let below : suc i ≤ length route.numbers = fits in
    let all : standing route ≡ suc i = ap (standing_by route) e in
    record {
      place = i;
      within = omega arith;
      stands = omega arith;
      from = from;
      to = to;
      number = some_same (number_at route i) c (sym (ap answer_number said) ∙ a);
    }

-- ---- what was written was granted

opens_granted : (v : OpeningVerdict) (d : Direction) → OpensBefore v d → 1 ≤ written_of d → (i : ℕ) × (v ≡ granted i)
opens_granted undecided d h w = let none : written_of d ≡ 0 = h in absurd (omega arith)
opens_granted (granted i) d h w = (i, refl)
opens_granted (denied i fault) d h w = let none : written_of d ≡ 0 = h in absurd (omega arith)

opens_by : (side : Side) (v : OpeningVerdict) (b : Binding) → OpensBefore v b.client.out × OpensBefore v b.server.out → OpensBefore v (end_in side b).out
opens_by Client v b h = h.0
opens_by Server v b h = h.1

some_stand : (a n k : ℕ) (rest : List ℕ) → range_with_len a n ≡ k ∷ rest → 1 ≤ n
some_stand a zero k rest h = absurd (cc)
some_stand a (suc n) k rest h = omega arith

-- the entry that a label meets at this core: under this number, and it leads so
record Meets (s : State) (here : LinkEnd) (n : ℕ) (route : Route) : Type 0 where
  number : ℕ
  between : number_between here.neighbour here.core route ≡ Some number
  key : Key
  core : key.core ≡ here.core
  neighbour : key.neighbour ≡ here.neighbour
  same : key.number ≡ number
  leads : Leads
  within : LeadsWithin n leads
  entry : EntryIs s key n leads

module _ (s : State) (sound : Sound s) (here : LinkEnd) (t : LinkThere s here) where
  between : link_between s here.core here.neighbour ≡ Some t.link
  between =
      ap (λ (o : Option Core). given o None (λ k. given (link_to here.neighbour k) None (λ n. slice_get k.links n))) t.core_is
      ∙ ap (λ (o : Option ℕ). given o None (λ n. slice_get t.core.links n)) t.place ∙ t.link_is

  stands_on : on_link s here.neighbour here.core ≡ labels_of (unread s here.ring)
  stands_on =
      ap (λ (o : Option Link). given o [] (λ link. labels_of (unread s link.ring))) between ∙ ap (λ (at : RingEnd). labels_of (unread s at)) t.ring

  pub none_on : first_on here.ring s ≡ None → on_link s here.neighbour here.core ≡ []
  none_on h = stands_on ∙ no_labels (unread s here.ring) (first_unread (slice_get s.rings here.ring.ring) here.ring.side ∙ h)

  first_stands : (first : RingLabel) → first_on here.ring s ≡ Some first → (rest : List Label) × (on_link s here.neighbour here.core ≡ first.label ∷ rest)
  first_stands first h =
      let (rest, is) = first_labels (unread s here.ring) first (first_unread (slice_get s.rings here.ring.ring) here.ring.side ∙ h) in
      (rest, stands_on ∙ is)

  -- an entry at this core
  entry_here : (n : ℕ) (leads : Leads) (key : Key) → key.core ≡ here.core → key.neighbour ≡ here.neighbour → (e : EntryIs s key n leads)
      → (hop_at t.core.circuits here.link key.number ≡ Some e.hop) × SaysWay t.core e.hop.way leads
  entry_here n leads key core neighbour e =
      let one : e.entry.core ≡ t.core = some_same e.entry.core t.core (sym e.entry.core_is ∙ ap (core_of s) core ∙ t.core_is) in
      let to : link_to here.neighbour t.core ≡ Some e.entry.link =
      ap (λ (m : ℕ). link_to m t.core) (sym neighbour) ∙ ap (link_to key.neighbour) (sym one) ∙ e.entry.link_is in
      let link : here.link ≡ e.entry.link = some_same here.link e.entry.link (sym t.place ∙ to) in (
        ap (λ (l : ℕ). hop_at t.core.circuits l key.number) link ∙ ap (λ (k : Core). hop_at k.circuits e.entry.link key.number) (sym one) ∙ e.entry.there,
        subst (λ (k : Core). SaysWay k e.hop.way leads) one e.way,
      )

  -- ---- a call's label

  link_at : (neighbour l : ℕ) → link_to neighbour t.core ≡ Some l → (link : Link) × (slice_get t.core.links l ≡ Some link)
  link_at neighbour l q =
      let found = position-Some (λ (a : LinkState). a.neighbour.0 == neighbour) t.core.circuits.links l (record { neighbour = record { 0 = 0 }; opened = 0; taken = 0 }) q in
      let below : l < length t.core.circuits.links = found.0 in
      let same : length t.core.links ≡ length t.core.circuits.links = (sound.cores here.core t.core t.core_is).links in
      some_there (slice_get t.core.links l) (stands_there t.core.links l (omega arith))

  way_tells : (z : State) (p : FragAtHop) (n : ℕ) (route : Route) (r : Routed s n route) (way : HopTarget) (leads : Leads) → z.bindings ≡ s.bindings
      → SaysWay t.core way leads → LeadsWithin n leads → Tells (follows_entry here p t.core way z)
  way_tells z p n route r (to_link l c) (on_to neighbour number) same leads_so within =
      let (link, there) = link_at neighbour l.0 leads_so.0 in
      there_is Tells (slice_get t.core.links l.0) _ _ link there
      (room_tells here p link.ring (ring_room for_data link.ring
      (ring_makes_sure for_data link.ring z))
      (ring_makes_sure for_data link.ring z))
  way_tells z p n route r (to_end to) (to_this f) same leads_so within =
      let its : binding_of s to ≡ Some r.binding = ap (λ (e : EndId). slice_get s.bindings e.binding) leads_so ∙ ap (slice_get s.bindings) within ∙ r.there in
      let queue : IsSome (end_in to.side r.binding).queue = subst (λ (a : Back). TakesFrom s a (end_in to.side r.binding)) r.back (takes_from s sound to r.binding its) in
      let (q, is) = some_there (end_in to.side r.binding).queue queue in
      let there : end_of z to ≡ Some (end_in to.side r.binding) =
      ap (λ (bs : List Binding). given (slice_get bs to.binding) None (λ b. Some (end_in to.side b))) same ∙ end_at s to r.binding its in
      there_is Tells (end_of z to) _ _ (end_in to.side r.binding) there
      (there_is Tells (end_in to.side r.binding).queue _ _ q is (arrival_tells here p to (queue_room q) z))
  way_tells z p n route r (to_link l c) (to_this f) same leads_so within = absurd leads_so
  way_tells z p n route r (to_end to) (on_to neighbour number) same leads_so within = absurd leads_so

  module _ (e : EndId) (k : ℕ) (rest : List Label) (head : on_link s here.neighbour here.core ≡ next_of e k ∷ rest)
      (over : GoesOver s here.neighbour here.core e) where
    abbrev its_binding : Binding
    its_binding = over.routed.binding

    abbrev its_out : Direction
    its_out = (end_in e.side its_binding).out

    abbrev its_way : List ℕ
    its_way = way_of e.side over.route

    far_at : (suc over.place < length its_way) × (slice_index its_way (suc over.place) ≡ here.core)
    far_at = got_at its_way (suc over.place) here.core over.far

    near_at : (over.place < length its_way) × (slice_index its_way over.place ≡ here.neighbour)
    near_at = got_at its_way over.place here.neighbour over.near

    all_passed : length its_out.passed ≡ length over.route.cores + 1
    all_passed =
        let stands : EndStands s e (end_in e.side its_binding) = sound.ends e (end_in e.side its_binding) (end_at s e its_binding over.routed.there) in
        stands.passed ∙ ap (λ (b : Binding). stations b.back) (some_same stands.binding its_binding (sym stands.there ∙ over.routed.there))
        ∙ ap stations over.routed.back

    before : (j : ℕ) → suc j < length its_out.passed → StandsBefore s e its_binding j
    before j h = sound.labels e its_binding j over.routed.there h

    -- passed falls along the way
    first_most : (j : ℕ) → j < length its_out.passed → slice_index its_out.passed j ≤ slice_index its_out.passed 0
    first_most zero h = omega arith
    first_most (suc j) h =
        let falls : slice_index its_out.passed (suc j) ≤ slice_index its_out.passed j = (before j h).falls in
        let most : slice_index its_out.passed j ≤ slice_index its_out.passed 0 = first_most j (omega arith) in
        omega arith

    it_stands : before_by s e its_binding.back (suc over.place) ≡ next_of e k ∷ rest
    it_stands =
        let ne : suc over.place ≢ length its_way = λ same. let below : suc over.place < length its_way = far_at.0 in absurd (omega arith) in
        ap (λ (b : Back). before_by s e b (suc over.place)) over.routed.back
        ∙ ap (λ (b : Bool). if b then queue_of s (peer e)
        else on_link s (slice_index its_way (suc over.place - 1)) (slice_index its_way (suc over.place))) (ne_eqb (suc over.place) (length its_way) ne)
        ∙ ap (λ (j : ℕ). on_link s (slice_index its_way j) (slice_index its_way (suc over.place))) (omega arith)
        ∙ ap (λ (a : ℕ). on_link s a (slice_index its_way (suc over.place))) near_at.1
        ∙ ap (λ (b : ℕ). on_link s here.neighbour b) far_at.1 ∙ head

    written : 1 ≤ written_of its_out
    written =
        let long : length its_way ≡ length over.route.cores = way_length e.side over.route in
        let all : length its_out.passed ≡ length over.route.cores + 1 = all_passed in
        let below : suc over.place < length its_way = far_at.0 in
        let numbers : picked e (before_by s e its_binding.back (suc over.place)) ≡ range_with_len (slice_index its_out.passed (suc over.place))
        (slice_index its_out.passed over.place - slice_index its_out.passed (suc over.place)) = (before over.place (omega arith)).labels in
        let more : 1 ≤ slice_index its_out.passed over.place - slice_index its_out.passed (suc over.place) =
        some_stand (slice_index its_out.passed (suc over.place)) _ k (picked e rest) (sym numbers ∙ ap (picked e) it_stands ∙ picked_first e k rest) in
        let most : slice_index its_out.passed over.place ≤ slice_index its_out.passed 0 = first_most over.place (omega arith) in
        omega arith

    is_granted : (i : ℕ) × (over.route.verdict ≡ granted i)
    is_granted =
        opens_granted over.route.verdict its_out (opens_by e.side over.route.verdict its_binding (sound.begun e.binding over.route over.routed)) written

    whole : length over.route.numbers + 1 ≡ length over.route.cores
    whole =
        let fits : VerdictFits over.route (granted is_granted.0) = subst (VerdictFits over.route) is_granted.1 (sound.verdicts e.binding over.route over.routed) in
        fits.0

    all_stand : standing over.route ≡ length over.route.cores
    all_stand = ap (standing_by over.route) is_granted.1

    differ : all_differ over.route.cores ≡ true
    differ = (sound.routes e.binding over.route over.routed).differ

    number_on : (i j l : ℕ) → place_in over.route.cores here.neighbour ≡ Some i → place_in over.route.cores here.core ≡ Some j → min i j ≡ l
        → l < length over.route.numbers → number_between here.neighbour here.core over.route ≡ Some (number_at over.route l)
    number_on i j l p q m below =
        ap (λ (o : Option ℕ). given o None λ x. given (place_in over.route.cores here.core) None λ y. slice_get over.route.numbers (min x y)) p
        ∙ ap (λ (o : Option ℕ). given o None λ y. slice_get over.route.numbers (min i y)) q
        ∙ ap (slice_get over.route.numbers) m ∙ get_at over.route.numbers l below

    meets_on : (side : Side) → e.side ≡ side → Meets s here e.binding over.route
    meets_on Client is =
        let near : slice_get over.route.cores over.place ≡ Some here.neighbour = subst (λ (x : Side). slice_get (way_of x over.route) over.place ≡ Some here.neighbour) is over.near in
        let far : slice_get over.route.cores (suc over.place) ≡ Some here.core = subst (λ (x : Side). slice_get (way_of x over.route) (suc over.place) ≡ Some here.core) is over.far in
        let (n_below, n_is) = got_at over.route.cores over.place here.neighbour near in
        let (f_below, f_is) = got_at over.route.cores (suc over.place) here.core far in
        let all : length over.route.numbers + 1 ≡ length over.route.cores = whole in
        let stand : standing over.route ≡ length over.route.cores = all_stand in
        record {
          number = number_at over.route over.place;
          between = number_on over.place (suc over.place) over.place (place_there over.route.cores over.place here.neighbour n_below n_is differ)
              (place_there over.route.cores (suc over.place) here.core f_below f_is differ) (omega arith) (omega arith);
          key = far_key over.route over.place;
          core = ap (core_at over.route) (omega arith) ∙ f_is;
          neighbour = n_is;
          same = refl;
          leads = ahead e.binding over.route (over.place + 1);
          within = ahead_within e.binding over.route (over.place + 1);
          entry = (sound.entries e.binding over.route over.routed).far over.place (omega arith) (omega arith);
        }
    meets_on Server is =
        let near : slice_get (reverse over.route.cores) over.place ≡ Some here.neighbour = subst (λ (x : Side). slice_get (way_of x over.route) over.place ≡ Some here.neighbour) is over.near in
        let far : slice_get (reverse over.route.cores) (suc over.place) ≡ Some here.core = subst (λ (x : Side). slice_get (way_of x over.route) (suc over.place) ≡ Some here.core) is over.far in
        let long : length (reverse over.route.cores) ≡ length over.route.cores = length-reverse over.route.cores in
        let f_below : suc over.place < length (reverse over.route.cores) = (got_at (reverse over.route.cores) (suc over.place) here.core far).0 in
        let l : ℕ = length over.route.cores - 1 - suc over.place in
        let n_is : core_at over.route (length over.route.cores - 1 - over.place) ≡ here.neighbour =
        some_same _ here.neighbour (sym (get_back over.route.cores over.place (omega arith)) ∙ near) in
        let f_is : core_at over.route l ≡ here.core = some_same _ here.core (sym (get_back over.route.cores (suc over.place) (omega arith)) ∙ far) in
        let all : length over.route.numbers + 1 ≡ length over.route.cores = whole in
        let stand : standing over.route ≡ length over.route.cores = all_stand in
        record {
          number = number_at over.route l;
          between = number_on (length over.route.cores - 1 - over.place) l l
              (place_there over.route.cores (length over.route.cores - 1 - over.place) here.neighbour (omega arith) n_is differ)
              (place_there over.route.cores l here.core (omega arith) f_is differ) (omega arith) (omega arith);
          key = near_key over.route l;
          core = f_is;
          neighbour = ap (core_at over.route) (omega arith) ∙ n_is;
          same = refl;
          leads = behind e.binding over.route l;
          within = behind_within e.binding over.route l;
          entry = (sound.entries e.binding over.route over.routed).near l (omega arith) (omega arith);
        }

    call_tells : (z : State) → z.bindings ≡ s.bindings → z.cores ≡ s.cores → Tells (forwards_call here e k z)
    call_tells z bs cs =
        let m : Meets s here e.binding over.route = meets_on e.side refl in
        let (there, leads_so) = entry_here e.binding m.leads m.key m.core m.neighbour m.entry in
        let (j, place) = has_place (drop 1 its_way) over.place here.core (drop_far its_way over.place over.far) in
        let station : station_at e.side here.core over.route ≡ Some (j + 1) = ap (λ (o : Option ℕ). given o None λ x. Some (x + 1)) place in
        there_is Tells (binding_of z e) _ _ its_binding (ap (λ (b : List Binding). slice_get b e.binding) bs ∙ over.routed.there)
        (there_is Tells (route_of its_binding.back) _ _ over.route (ap route_of over.routed.back)
        (there_is Tells (station_at e.side here.core over.route) _ _ (j + 1) station
        (there_is Tells (core_of z here.core) _ _ t.core (ap (λ (c : List Core). slice_get c here.core) cs ∙ t.core_is)
        (there_is Tells (number_between here.neighbour here.core over.route) _ _ m.number m.between
        (there_is Tells (hop_at t.core.circuits here.link m.number) _ _ m.entry.hop (ap (hop_at t.core.circuits here.link) (sym m.same) ∙ there)
        (way_tells z (record { end = e; number = k; station = j + 1 }) e.binding over.route over.routed m.entry.hop.way m.leads bs leads_so m.within))))))
      where
        drop_far : (way : List ℕ) (p : ℕ) → slice_get way (suc p) ≡ Some here.core → slice_get (drop 1 way) p ≡ Some here.core
        drop_far [] p h = absurd (cc)
        drop_far (x ∷ way) p h = h

  -- ---- a monitor's message

  answer_entry : (m : MonitorLabel) (c : ℕ) (first : RingLabel) → first_on here.ring s ≡ Some first → first.label ≡ says m → answer_number m ≡ Some c
      → (hop : Hop) × (hop_at t.core.circuits here.link c ≡ Some hop)
  answer_entry m c first q l a =
      let due : IsDue s (record { from = here.neighbour; to = here.core; said = m }) = sound.messages here.neighbour here.core m (is_under_way s here m first t q l) in
      let d : AnswerDue due.route (record { from = here.neighbour; to = here.core; said = m }) c =
      answer_due due.binding due.route _ c due.route.verdict refl (sound.verdicts due.binding due.route due.routed) due.due a in
      let entry : EntryIs s (near_key due.route d.place) due.binding (behind due.binding due.route d.place) =
      (sound.entries due.binding due.route due.routed).near d.place d.stands d.within in
      let (there, leads_so) = entry_here due.binding (behind due.binding due.route d.place) (near_key due.route d.place) (sym d.to)
      (ap (core_at due.route) (omega arith) ∙ sym d.from) entry in
      (entry.hop, ap (hop_at t.core.circuits here.link) (sym d.number) ∙ there)

  said_known : (services : List Service) (m : MonitorLabel) (first : RingLabel) → first_on here.ring s ≡ Some first → first.label ≡ says m
      → NotMisrouted (hears services here.link m t.core)
  said_known services (open_circuit o) first q l = opening_known here.link o (fate services o t.core) t.core
  said_known services (circuit_opened c) first q l =
      let (hop, is) = answer_entry (circuit_opened c) c first q l refl in
      there_is NotMisrouted (hop_at t.core.circuits here.link c) _ _ hop is (opened_known here.link c hop hop.way t.core)
  said_known services (circuit_refused c fault) first q l =
      let (hop, is) = answer_entry (circuit_refused c fault) c first q l refl in
      there_is NotMisrouted (hop_at t.core.circuits here.link c) _ _ hop is (refused_known here.link c fault hop hop.way t.core)

  said_tells : (m : MonitorLabel) (first : RingLabel) (z : State) → first_on here.ring s ≡ Some first → first.label ≡ says m → z.cores ≡ s.cores
      → Tells (forwards_said here m z)
  said_tells m first z q l cs =
      let x : Hearing = hears z.services here.link m t.core in
      there_is Tells (core_of z here.core) _ _ t.core (ap (λ (c : List Core). slice_get c here.core) cs ∙ t.core_is)
      (heard_tells x.heard (takes_said here.ring x.heard (change_core here.core (λ k. x.core) z)) (said_known z.services m first q l))

  pub label_tells : (label : Label) (first : RingLabel) (z : State) → first_on here.ring s ≡ Some first → first.label ≡ label → z.bindings ≡ s.bindings
      → z.cores ≡ s.cores → Tells (forwards_label here label z)
  label_tells (next_of e k) first z q l bs cs =
      let (rest, stands) = first_stands first q in
      let head : on_link s here.neighbour here.core ≡ next_of e k ∷ rest = stands ∙ ap (λ (x : Label). x ∷ rest) l in
      call_tells e k rest head
      (sound.ways.links here.neighbour here.core (next_of e k) (subst (λ (ls : List Label). Contains ls (next_of e k)) (sym head) (0, omega arith, refl))) z bs cs
  label_tells (says m) first z q l bs cs = said_tells m first z q l cs
  label_tells acknowledges first z q l bs cs = λ h. absurd (cc)

pub forwards_understand : ForwardsUnderstand
forwards_understand s a b sound =
    by_given (λ (o : StepOutcome). o.answer ≡ nothing → on_link s a b ≡ []) (link_end b a s) _ _ (λ h. absurd (cc))
    (λ here q.
    let t : LinkThere s here = link_there s here (record { core = b; neighbour = a; here_is = q }) in
    let (core, neighbour) = names_here b a here s q in
    let same : on_link s a b ≡ on_link s here.neighbour here.core = ap (λ (x : ℕ). on_link s x b) neighbour ∙ ap (on_link s here.neighbour) core in
    by_given_or (λ (o : StepOutcome). o.answer ≡ nothing → on_link s a b ≡ []) (first_on here.ring s) _ _
    (λ none h. same ∙ none_on s sound here t none)
    (λ first r h. absurd (label_tells s sound here t first.label first (change_ring here.ring.ring (looks here.ring.side) s) r refl refl refl h)))
