-- A core's table after what it hears in a sound state: numbers stay given, and at a number that was given no other entry comes.
use Rattle.std.proofs.Common.{◌≡◌, refl, sym, ◌∙◌, ap, subst, ℕ, zero, suc, ◌+◌, ◌-◌, ◌≤◌, false}
use Rattle.std.proofs.Common.{List, [], ◌∷◌, ◌++◌, map, slice_get, Option, Some, None, arith}
use Rattle.std.specs.Prelude.{is_some, filter_map}
use Rattle.std.specs.List.{range_with_len}
use Rattle.fl_base.specs.declared.identity.Side.TheVariants.{Client, Server}
use Rattle.fl_base.specs.Given.{given}
use Rattle.fl_base.specs.Numbered.{link_id, circuit_id}
use Rattle.fl_hop.specs.declared.links.LinkState.{LinkState}
use Rattle.fl_hop.specs.declared.entry.HopTarget.{HopTarget}
use Rattle.fl_hop.specs.declared.entry.HopTarget.TheVariants.{Link as to_link, End as to_end}
use Rattle.fl_hop.specs.declared.entry.Hop.{Hop}
use Rattle.fl_hop.specs.Joined.{Sound as IsTable}
use Rattle.fl_hop.specs.Later.{Later}
use Rattle.fl_hop.specs.Numbers.{number, next_own, count_opening, count_taking}
use Rattle.fl_hop.specs.Table.{TheCircuits, hop_at}
use Rattle.fl_hop.proofs.Counting.{Next, Due, next_is, never_next, never_due, grown_on}
use Rattle.fl_hop.proofs.Laters.{later_without}
use Rattle.fl_hop.proofs.Laws.{later_same}
use Rattle.fl_hop.proofs.Numbering.{small}
use Rattle.fl_model.specs.Events.{DispatcherId}
use Rattle.fl_model.specs.Rings.{OpeningLabel, MonitorLabel, open_circuit, circuit_opened, circuit_refused, says, RingLabel, Ring, RingEnd, read_by, first_for}
use Rattle.fl_model.specs.Monitors.{Core, Link, Service, link_to, opens, can_say, saying, Heard, Hearing}
use Rattle.fl_model.specs.Monitors.{next_on, Fate, goes_on, ends_at, fails, arrival, passage, fate, service_of, hears_opening, hears_opened, hears_refused, hears}
use Rattle.fl_model.specs.Waits.{has_places}
use Rattle.fl_model.specs.State.{State, core_of, link_between, first_on}
use Rattle.fl_model.specs.Forwarding.{LinkEnd}
use Rattle.fl_model.specs.Standing.{unread, labels_of, on_link, said_by, under_way, opening_number}
use Rattle.fl_model.specs.SoundPlaces.{LinkIsPaired}
use Rattle.fl_model.specs.SoundOpenings.{OpeningsGo}
use Rattle.fl_model.specs.Sound.{Sound}
use Rattle.fl_model_laws.proofs.Cases.{either, by_given}
use Rattle.fl_model_laws.proofs.BindingWalk.{given_there}
use Rattle.fl_model_laws.proofs.Faces.{counts_at, counted_at}
use Rattle.fl_model_laws.proofs.Growing.{opening_grown, taking_grown}
use Rattle.fl_model_laws.proofs.Hearing.{LinkThere, link_there, head_said}
use Rattle.fl_model_laws.proofs.OpeningsMoves.{names_to}
use Rattle.fl_model_laws.proofs.TablesLater.{IsUngiven, later_grown, later_entered, later_answered}
use Rattle.fl_model_laws.proofs.Walk.{IsHere}
use Rattle.fl_model_laws.proofs.Small.{some_same}

-- ---- numbers that nobody gave

ungiven_next : (t : TheCircuits) (l n : ℕ) → IsTable t → next_own t l ≡ Some n → IsUngiven t (to_link (link_id l) (circuit_id n))
ungiven_next t l n k h =
    let next : Next t.core t.links l n = next_is t.core t.links l n h in
    let few : next.link.opened ≤ 1022 = next.few in
    let p = small t.core next.link.neighbour.0 (next.link.opened + 1) n (omega arith) (next.link.opened, omega arith, sym next.is) in
    (p.1, never_next t.core t.links k.apart l n next)

ungiven_due : (t : TheCircuits) (l n : ℕ) → IsTable t → Due t.core t.links l n → IsUngiven t (to_link (link_id l) (circuit_id n))
ungiven_due t l n k due =
    let few : due.link.taken ≤ 1022 = due.few in
    let p = small due.link.neighbour.0 t.core (due.link.taken + 1) n (omega arith) (due.link.taken, omega arith, sym due.is) in
    (p.1, never_due t.core t.links k.apart l n due)

-- ---- a core

abbrev LaterOf : Core → Core → Type 0
LaterOf k m = Later k.circuits m.circuits

pub opens_later : (l c : ℕ) (o : OpeningLabel) (k : Core) → IsTable k.circuits → next_own k.circuits l ≡ Some c → Later k.circuits (opens l c o k).circuits
opens_later l c o k table h =
    later_entered k.circuits (count_opening k.circuits.links l) o.binding false (to_end (record { binding = o.binding; side = Client })) (to_link (link_id l) (circuit_id c)) table
    (opening_grown k.circuits.links l) tt (ungiven_next k.circuits l c table h)

saying_later : (l : ℕ) (m : MonitorLabel) (t : TheCircuits) (x : Heard) (k : Core) → Later k.circuits t → LaterOf k (saying l m t x k).core
saying_later l m t x k h = either (λ (y : Hearing). LaterOf k y.core) (can_say l k) _ _ (λ q. h) (λ q. later_same k.circuits)

opened_later : (l c : ℕ) (hop : Hop) (way : HopTarget) (k : Core) → IsTable k.circuits → hop_at k.circuits l c ≡ Some hop → LaterOf k (hears_opened l c hop way k).core
opened_later l c hop (to_link m d) k table there = saying_later m.0 _ _ _ k (later_answered k.circuits (link_id l) (circuit_id c) hop hop.way table refl there)
opened_later l c hop (to_end e) k table there = later_answered k.circuits (link_id l) (circuit_id c) hop hop.way table refl there

refused_later : (l c fault : ℕ) (hop : Hop) (way : HopTarget) (k : Core) → LaterOf k (hears_refused l c fault hop way k).core
refused_later l c fault hop (to_link m d) k = saying_later m.0 _ _ _ k (later_without k.circuits (to_link (link_id l) (circuit_id c)) hop.way)
refused_later l c fault hop (to_end e) k = later_without k.circuits (to_link (link_id l) (circuit_id c)) hop.way

-- an opening whose number is due
abbrev OpeningLater : ℕ → OpeningLabel → Core → Fate → Type 0
OpeningLater l o k f = LaterOf k (hears_opening l o f k).core

fails_later : (l : ℕ) (o : OpeningLabel) (fault : ℕ) (k : Core) → OpeningLater l o k (fails fault)
fails_later l o fault k = saying_later l _ _ _ k (later_grown k.circuits (count_taking k.circuits.links l) (taking_grown k.circuits.links l))

module _ (l : ℕ) (o : OpeningLabel) (k : Core) (table : IsTable k.circuits) (due : Due k.circuits.core k.circuits.links l o.circuit) where
  goes_later : (m d : ℕ) → next_own k.circuits m ≡ Some d → OpeningLater l o k (goes_on m d)
  goes_later m d h =
      let us : List LinkState = k.circuits.links in
      saying_later m _ _ _ k
      (later_entered k.circuits (count_opening (count_taking us l) m) o.binding false (to_link (link_id l) (circuit_id o.circuit)) (to_link (link_id m) (circuit_id d)) table
      (grown_on us (count_taking us l) (count_opening (count_taking us l) m) (taking_grown us l) (opening_grown (count_taking us l) m))
      (ungiven_due k.circuits l o.circuit table due) (ungiven_next k.circuits m d table h))

  ends_later : (d : DispatcherId) → OpeningLater l o k (ends_at d)
  ends_later d =
      saying_later l _ _ _ k
      (later_entered k.circuits (count_taking k.circuits.links l) o.binding false (to_link (link_id l) (circuit_id o.circuit)) (to_end (record { binding = o.binding; side = Server }))
      table (taking_grown k.circuits.links l) (ungiven_due k.circuits l o.circuit table due) tt)

  opening_later : (services : List Service) → OpeningLater l o k (fate services o k)
  opening_later services =
      by_given (OpeningLater l o k) (next_on o.path k.circuits.core) (arrival services o.service k) (λ next. passage next k)
      (by_given (OpeningLater l o k) (service_of services o.service) (fails 70) _ (fails_later l o 70 k)
      (λ x q. by_given (OpeningLater l o k) (slice_get k.dispatchers x.dispatcher.place) (fails 70) _ (fails_later l o 70 k)
      (λ d r. either (OpeningLater l o k) (has_places 1 d) (ends_at x.dispatcher) (fails 54) (λ t. ends_later x.dispatcher) (λ t. fails_later l o 54 k))))
      (λ next q. by_given (OpeningLater l o k) (link_to next k) (fails 73) _ (fails_later l o 73 k)
      (λ m r. by_given (OpeningLater l o k) (next_own k.circuits m) (fails 74) _ (fails_later l o 74 k) (λ d t. goes_later m d t)))

-- ---- the number of an opening is due

head_under_way : (s : State) (here : LinkEnd) (m : MonitorLabel) (first : RingLabel) → LinkThere s here → first_on here.ring s ≡ Some first → first.label ≡ says m
    → (rest : List MonitorLabel) × (under_way s here.neighbour here.core ≡ m ∷ rest)
head_under_way s here m first t q l =
    let (r, there, is) = given_there (slice_get s.rings here.ring.ring) (first_for here.ring.side) first q in
    let (rest, head) = head_said (read_by here.ring.side r).waiting first m is l in
    let between : link_between s here.core here.neighbour ≡ Some t.link =
    ap (λ (o : Option Core). given o None (λ k. given (link_to here.neighbour k) None (λ n. slice_get k.links n))) t.core_is
    ∙ ap (λ (o : Option ℕ). given o None (λ n. slice_get t.core.links n)) t.place ∙ t.link_is in
    let stands : on_link s here.neighbour here.core ≡ labels_of (read_by here.ring.side r).waiting =
    ap (λ (o : Option Link). given o [] (λ link. labels_of (unread s link.ring))) between
    ∙ ap (λ (at : RingEnd). labels_of (unread s at)) t.ring
    ∙ ap (λ (o : Option Ring). labels_of (given o [] (λ x. (read_by here.ring.side x).waiting))) there in
    let outbox : List MonitorLabel = given (link_between s here.neighbour here.core) [] (λ link. link.outbox) in
    (rest ++ outbox, ap (λ (xs : List MonitorLabel). xs ++ outbox) (ap (filter_map said_by) stands ∙ head))

head_is : (f : ℕ → ℕ) (n k c : ℕ) (rest : List ℕ) → c ∷ rest ≡ map f (range_with_len n k) → (1 ≤ k) × (f n ≡ c)
head_is f n zero c rest h = absurd (cc)
head_is f n (suc k) c rest h = (omega arith, (let e : c ≡ f n = cc in sym e))

module _ (s : State) (sound : Sound s) where
  opened_few : (a b : ℕ) (x : LinkState) → counts_at s.cores a b ≡ Some x → x.opened ≤ 1023
  opened_few a b x h =
      let (k, at, is) = given_there (slice_get s.cores a) (λ j. given (link_to b j) None (λ n. slice_get j.circuits.links n)) x h in
      let (l, to, there) = given_there (link_to b k) (λ n. slice_get k.circuits.links n) x is in
      ((sound.cores a k at).table.counts l x there).0

  opening_due : (here : LinkEnd) (o : OpeningLabel) (first : RingLabel) (k : Core) → IsHere here s → first_on here.ring s ≡ Some first
      → first.label ≡ says (open_circuit o) → core_of s here.core ≡ Some k → Due k.circuits.core k.circuits.links here.link o.circuit
  opening_due here o first k j q l at =
      let t : LinkThere s here = link_there s here j in
      let mine : t.core ≡ k = some_same t.core k (sym t.core_is ∙ at) in
      let place : link_to here.neighbour k ≡ Some here.link = subst (λ (z : Core). link_to here.neighbour z ≡ Some here.link) mine t.place in
      let between : link_between s here.core here.neighbour ≡ Some t.link =
      ap (λ (z : Option Core). given z None (λ y. given (link_to here.neighbour y) None (λ n. slice_get y.links n))) t.core_is
      ∙ ap (λ (z : Option ℕ). given z None (λ n. slice_get t.core.links n)) t.place ∙ t.link_is in
      let paired : LinkIsPaired s here.core here.neighbour t.link = sound.links here.core here.neighbour t.link between in
      let (y, near) = counted_at s.cores here.core here.neighbour (ap is_some between) in
      let (x, far) = counted_at s.cores here.neighbour here.core (ap is_some paired.back_is) in
      let go : OpeningsGo s here.neighbour here.core x y = sound.openings here.neighbour here.core x y far near in
      let (rest, head) = head_under_way s here (open_circuit o) first t q l in
      let listed : o.circuit ∷ filter_map opening_number rest ≡ map (number here.neighbour here.core) (range_with_len y.taken (x.opened - y.taken)) =
      sym (ap (filter_map opening_number) head) ∙ go.numbers in
      let (some, is) = head_is (number here.neighbour here.core) y.taken (x.opened - y.taken) o.circuit (filter_map opening_number rest) listed in
      let most : x.opened ≤ 1023 = opened_few here.neighbour here.core x far in
      let there : slice_get k.circuits.links here.link ≡ Some y =
      sym (ap (λ (z : Option Core). given z None (λ c. given (link_to here.neighbour c) None (λ n. slice_get c.circuits.links n))) at
      ∙ ap (λ (z : Option ℕ). given z None (λ n. slice_get k.circuits.links n)) place) ∙ near in
      let to : y.neighbour.0 ≡ here.neighbour = names_to here.neighbour here.link k.circuits.links y place there in
      let core : k.circuits.core ≡ here.core = (sound.cores here.core k at).number in
      record {
        link = y;
        there = there;
        few = omega arith;
        is = ap (λ (c : ℕ). number c k.circuits.core y.taken) to ∙ ap (λ (c : ℕ). number here.neighbour c y.taken) core ∙ is;
      }

  pub hears_later : (here : LinkEnd) (m : MonitorLabel) (first : RingLabel) (k : Core) → IsHere here s → first_on here.ring s ≡ Some first → first.label ≡ says m
      → core_of s here.core ≡ Some k → Later k.circuits (hears s.services here.link m k).core.circuits
  hears_later here (open_circuit o) first k j q l at =
      opening_later here.link o k (sound.cores here.core k at).table (opening_due here o first k j q l at) s.services
  hears_later here (circuit_opened c) first k j q l at =
      by_given (λ (h : Hearing). LaterOf k h.core) (hop_at k.circuits here.link c) _ _ (later_same k.circuits)
      (λ hop r. opened_later here.link c hop hop.way k (sound.cores here.core k at).table r)
  hears_later here (circuit_refused c fault) first k j q l at =
      by_given (λ (h : Hearing). LaterOf k h.core) (hop_at k.circuits here.link c) _ _ (later_same k.circuits) (λ hop r. refused_later here.link c fault hop hop.way k)
