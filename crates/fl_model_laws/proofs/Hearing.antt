-- What stands first on a link and is a monitor's message is the one that is due for a binding; so an answer that comes to an end
-- comes to the client's end of it, which isn't bound and is in no list.
use Rattle.std.proofs.Common.{◌≡◌, refl, sym, ◌∙◌, ap, subst, ℕ, zero, suc, ◌+◌, ◌≤◌, Bool, true, false}
use Rattle.std.proofs.Common.{List, [], ◌∷◌, ◌++◌, length, slice_get, Option, Some, None, arith}
use Rattle.std.specs.Prelude.{IsSome, is_some, filter_map, Contains}
use Rattle.std.proofs.lemmas.Bool.{false≢true}
use Rattle.fl_base.specs.declared.identity.EndId.{EndId}
use Rattle.fl_base.specs.declared.identity.Side.TheVariants.{Client}
use Rattle.fl_base.specs.Given.{given}
use Rattle.fl_lists.specs.declared.place.Place.{Place}
use Rattle.fl_lists.specs.ThreeLists.{list_at, is_in}
use Rattle.fl_hop.specs.declared.entry.HopTarget.{HopTarget}
use Rattle.fl_hop.specs.declared.entry.HopTarget.TheVariants.{End as to_end}
use Rattle.fl_hop.specs.declared.entry.Hop.{Hop}
use Rattle.fl_hop.specs.Table.{hop_at}
use Rattle.fl_model.specs.Rings.{OpeningLabel, MonitorLabel, open_circuit, circuit_opened, circuit_refused, Label, says, RingLabel, Ring, RingEnd, read_by, first_for}
use Rattle.fl_model.specs.Ends.{Seat}
use Rattle.fl_model.specs.Waits.{Dispatcher}
use Rattle.fl_model.specs.Monitors.{Link, Core, link_to}
use Rattle.fl_model.specs.State.{OpeningVerdict, undecided, granted, denied, Route, Back, over_route, Binding, State, core_of, dispatcher_of, end_in, link_between, first_on}
use Rattle.fl_model.specs.Binding.{end_id}
use Rattle.fl_model.specs.Forwarding.{LinkEnd}
use Rattle.fl_model.specs.Standing.{core_at, number_at, standing, standing_by, Message, back_to, due_by, unread, labels_of, on_link, said_by, under_way}
use Rattle.fl_model.specs.SoundOpenings.{IsDue}
use Rattle.fl_model.specs.SoundRoutes.{VerdictFits, BoundBy, BoundWhere}
use Rattle.fl_model.specs.SoundEntries.{behind, SaysWay, EntryAt, near_key, EntryIs}
use Rattle.fl_model.specs.SoundLists.{Listed}
use Rattle.fl_model.specs.Sound.{Sound}
use Rattle.fl_model_laws.proofs.BindingWalk.{given_there}
use Rattle.fl_model_laws.proofs.Seating.{Ready}
use Rattle.fl_model_laws.proofs.WaitsetsStep.{seat_its}
use Rattle.fl_model_laws.proofs.Walk.{IsHere}
use Rattle.fl_model_laws.proofs.Small.{some_same}

-- ---- a core's link

pub record LinkThere (s : State) (here : LinkEnd) : Type 0 where
  pub core : Core
  pub core_is : core_of s here.core ≡ Some core
  pub place : link_to here.neighbour core ≡ Some here.link
  pub link : Link
  pub link_is : slice_get core.links here.link ≡ Some link
  pub ring : link.ring ≡ here.ring

pub link_there : (s : State) (here : LinkEnd) → IsHere here s → LinkThere s here
link_there s here j =
    let (k, at, is) = given_there (core_of s j.core) _ here j.here_is in
    let (l, to, there) = given_there (link_to j.neighbour k) _ here is in
    let (link, got, made) = given_there (slice_get k.links l) _ here there in
    subst (LinkThere s) (same here j.core j.neighbour l link.ring made)
    (record { core = k; core_is = at; place = to; link = link; link_is = got; ring = refl })
  where
    link_of : ℕ → ℕ → ℕ → RingEnd → LinkEnd
    link_of core neighbour l ring = record { core = core; neighbour = neighbour; link = l; ring = ring }

    same : (here : LinkEnd) (core neighbour l : ℕ) (ring : RingEnd) → Some (record { core = core; neighbour = neighbour; link = l; ring = ring }) ≡ Some here
        → record { core = core; neighbour = neighbour; link = l; ring = ring } ≡ here
    same here core neighbour l ring h = cc

-- ---- the message is under way

pub head_said : (ls : List RingLabel) (first : RingLabel) (m : MonitorLabel) → slice_get ls 0 ≡ Some first → first.label ≡ says m
    → (rest : List MonitorLabel) × (filter_map said_by (labels_of ls) ≡ m ∷ rest)
head_said [] first m q l = absurd (cc)
head_said (x ∷ ls) first m q l =
    let same : x ≡ first = cc in
    let label : x.label ≡ says m = ap (λ (y : RingLabel). y.label) same ∙ l in
    (filter_map said_by (labels_of ls), ap (λ (y : Label). Rattle.std.specs.List.cons_option (said_by y) (filter_map said_by (labels_of ls))) label)

contains_head : (xs ys : List MonitorLabel) (m : MonitorLabel) (rest : List MonitorLabel) → xs ≡ m ∷ rest → Contains (xs ++ ys) m
contains_head xs ys m rest e = subst (λ (zs : List MonitorLabel). Contains (zs ++ ys) m) (sym e) (0, omega arith, refl)

pub is_under_way : (s : State) (here : LinkEnd) (m : MonitorLabel) (first : RingLabel) → LinkThere s here → first_on here.ring s ≡ Some first → first.label ≡ says m
    → Contains (under_way s here.neighbour here.core) m
is_under_way s here m first t q l =
    let (r, there, is) = given_there (slice_get s.rings here.ring.ring) (first_for here.ring.side) first q in
    let (rest, head) = head_said (read_by here.ring.side r).waiting first m is l in
    let between : link_between s here.core here.neighbour ≡ Some t.link =
    ap (λ (o : Option Core). given o None (λ k. given (link_to here.neighbour k) None (λ n. slice_get k.links n))) t.core_is
    ∙ ap (λ (o : Option ℕ). given o None (λ n. slice_get t.core.links n)) t.place ∙ t.link_is in
    let stands : on_link s here.neighbour here.core ≡ labels_of (read_by here.ring.side r).waiting =
    ap (λ (o : Option Link). given o [] (λ link. labels_of (unread s link.ring))) between
    ∙ ap (λ (at : RingEnd). labels_of (unread s at)) t.ring
    ∙ ap (λ (o : Option Ring). labels_of (given o [] (λ x. (read_by here.ring.side x).waiting))) there in
    contains_head (filter_map said_by (on_link s here.neighbour here.core)) _ m rest (ap (filter_map said_by) stands ∙ head)

-- ---- an answer that a circuit is open

pub record OpenedDue (route : Route) (m : Message) (c : ℕ) : Type 0 where
  pub waiting : ℕ
  pub verdict : route.verdict ≡ granted (suc waiting)
  pub from : m.from ≡ core_at route (suc waiting)
  pub to : m.to ≡ core_at route waiting
  pub number : c ≡ number_at route waiting

not_open : (o : OpeningLabel) (m : MonitorLabel) → open_circuit o ≡ m → {c : ℕ} → m ≡ circuit_opened c → ⊥
not_open o m h {c} e = let x : open_circuit o ≡ circuit_opened c = h ∙ e in absurd (cc)

not_refused : (a fault c : ℕ) → circuit_refused a fault ≡ circuit_opened c → ⊥
not_refused a fault c h = absurd (cc)

same_number : (a c : ℕ) → circuit_opened a ≡ circuit_opened c → a ≡ c
same_number a c h = cc

pub opened_due : (n : ℕ) (route : Route) (from to c : ℕ) (v : OpeningVerdict) → route.verdict ≡ v
    → due_by n route v ≡ Some (record { from = from; to = to; said = circuit_opened c }) → OpenedDue route (record { from = from; to = to; said = circuit_opened c }) c
opened_due n route from to c undecided e h = absurd (not_open _ (circuit_opened c) (ap (λ (m : Message). m.said) (some_same _ _ h)) refl)
opened_due n route from to c (granted zero) e h = absurd (cc)
opened_due n route from to c (granted (suc i)) e h =
    let same : back_to route i (circuit_opened (number_at route i)) ≡ record { from = from; to = to; said = circuit_opened c } = some_same _ _ h in
    record {
      waiting = i;
      verdict = e;
      from = sym (ap (λ (m : Message). m.from) same);
      to = sym (ap (λ (m : Message). m.to) same);
      number = sym (same_number (number_at route i) c (ap (λ (m : Message). m.said) same));
    }
opened_due n route from to c (denied zero fault) e h = absurd (cc)
opened_due n route from to c (denied (suc i) fault) e h = absurd (not_refused _ _ c (ap (λ (m : Message). m.said) (some_same _ _ h)))

says_client : (k : Core) (n : ℕ) (route : Route) (i : ℕ) (e : EndId) → SaysWay k (to_end e) (behind n route i) → (e ≡ end_id n Client) × (i ≡ 0)
says_client k n route zero e h = (h, refl)
says_client k n route (suc i) e h = absurd h

-- ---- the end that an answer comes to

module _ (s : State) (sound : Sound s) where
  same_core : (n : ℕ) (a b : Core) → core_of s n ≡ Some a → core_of s n ≡ Some b → a ≡ b
  same_core n a b p q = some_same a b (sym p ∙ q)

  -- no channel of an end that isn't bound is listed
  unbound_free : (e : EndId) (b : Binding) (seat : Seat) (y : Dispatcher) → slice_get s.bindings e.binding ≡ Some b → (end_in e.side b).circuit ≡ None
      → dispatcher_of s seat.dispatcher ≡ Some y → slice_get y.ends seat.channel ≡ Some e → (place : Place) (t : Bool)
      → is_in seat.channel (list_at y.lists place) ≡ t → is_in seat.channel (list_at y.lists place) ≡ false
  unbound_free e b seat y at none there its place false q = q
  unbound_free e b seat y at none there its place true q =
      let listed : Listed s place e b =
      record { at = seat.dispatcher; dispatcher = y; dispatcher_is = there; channel = seat.channel; listed = q; end_is = its; binding_is = at } in
      let bound : IsSome (end_in e.side b).circuit = (sound.listed place e b listed).0 in
      absurd (false≢true (sym (ap is_some none) ∙ bound))

  unbound_ready : (e : EndId) (b : Binding) → slice_get s.bindings e.binding ≡ Some b → (end_in e.side b).circuit ≡ None → Ready e s
  unbound_ready e b at none x seat q r y u =
      let its : slice_get y.ends seat.channel ≡ Some e = seat_its s e x seat y sound.seats q r u in
      record {
        free = λ place. unbound_free e b seat y at none u its place (is_in seat.channel (list_at y.lists place)) refl;
        its = its;
      }

  bound_where : (route : Route) (b : Binding) (i : ℕ) → b.back ≡ over_route route → route.verdict ≡ granted (suc i) → BoundWhere b.back b → b.client.circuit ≡ None
  bound_where route b i back verdict h =
      let by : BoundBy route route.verdict b = subst (λ (a : Back). BoundWhere a b) back h in
      (subst (λ (v : OpeningVerdict). BoundBy route v b) verdict by).0

  entry_there : (here : LinkEnd) (k : Core) (hop : Hop) (c n : ℕ) (route : Route) (i : ℕ) → LinkThere s here → core_of s here.core ≡ Some k
      → hop_at k.circuits here.link c ≡ Some hop → here.core ≡ core_at route i → here.neighbour ≡ core_at route (suc i) → c ≡ number_at route i
      → EntryIs s (near_key route i) n (behind n route i) → SaysWay k hop.way (behind n route i)
  entry_there here k hop c n route i t at is core neighbour number entry =
      let there : EntryAt s (near_key route i) entry.hop = entry.entry in
      let one : there.core ≡ k = same_core here.core there.core k (ap (core_of s) core ∙ there.core_is) at in
      let mine : t.core ≡ k = same_core here.core t.core k t.core_is at in
      let place : link_to here.neighbour k ≡ Some here.link = subst (λ (j : Core). link_to here.neighbour j ≡ Some here.link) mine t.place in
      let to : link_to here.neighbour k ≡ Some there.link =
      ap (λ (m : ℕ). link_to m k) (neighbour ∙ ap (core_at route) (omega arith)) ∙ subst (λ (j : Core). link_to (core_at route (i + 1)) j ≡ Some there.link) one there.link_is in
      let link : here.link ≡ there.link = some_same here.link there.link (sym place ∙ to) in
      let got : hop_at k.circuits there.link (number_at route i) ≡ Some entry.hop =
      subst (λ (j : Core). hop_at j.circuits there.link (number_at route i) ≡ Some entry.hop) one there.there in
      let was : hop_at k.circuits there.link (number_at route i) ≡ Some hop =
      ap (λ (m : ℕ). hop_at k.circuits m (number_at route i)) (sym link) ∙ ap (hop_at k.circuits here.link) (sym number) ∙ is in
      let hops : entry.hop ≡ hop = some_same entry.hop hop (sym got ∙ was) in
      subst (λ (h : Hop). SaysWay k h.way (behind n route i)) hops (subst (λ (j : Core). SaysWay j entry.hop.way (behind n route i)) one entry.way)

  pub opened_ready : (here : LinkEnd) (c : ℕ) (first : RingLabel) (k : Core) (hop : Hop) (e : EndId) → IsHere here s → first_on here.ring s ≡ Some first
      → first.label ≡ says (circuit_opened c) → core_of s here.core ≡ Some k → hop_at k.circuits here.link c ≡ Some hop → hop.way ≡ to_end e → Ready e s
  opened_ready here c first k hop e j q l at is way =
      let t : LinkThere s here = link_there s here j in
      let due : IsDue s (record { from = here.neighbour; to = here.core; said = circuit_opened c }) =
      sound.messages here.neighbour here.core (circuit_opened c) (is_under_way s here (circuit_opened c) first t q l) in
      let n : ℕ = due.binding in
      let route : Route = due.route in
      let o : OpenedDue route (record { from = here.neighbour; to = here.core; said = circuit_opened c }) c =
      opened_due n route here.neighbour here.core c route.verdict refl due.due in
      let i : ℕ = o.waiting in
      let fits : VerdictFits route (granted (suc i)) = subst (VerdictFits route) o.verdict (sound.verdicts n route due.routed) in
      let whole : length route.numbers + 1 ≡ length route.cores = fits.0 in
      let below : suc i ≤ length route.numbers = fits.1 in
      let stands : standing route ≡ length route.cores = ap (standing_by route) o.verdict in
      let entry : EntryIs s (near_key route i) n (behind n route i) = (sound.entries n route due.routed).near i (omega arith) (omega arith) in
      let says : SaysWay k (to_end e) (behind n route i) =
      subst (λ (w : HopTarget). SaysWay k w (behind n route i)) way (entry_there here k hop c n route i t at is o.to o.from o.number entry) in
      let (client, zero_is) = says_client k n route i e says in
      let none : due.routed.binding.client.circuit ≡ None =
      bound_where route due.routed.binding i due.routed.back o.verdict (sound.bound n due.routed.binding due.routed.there) in
      subst (λ (f : EndId). Ready f s) (sym client) (unbound_ready (end_id n Client) due.routed.binding due.routed.there none)
