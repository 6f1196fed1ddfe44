-- A message that a ready core hears comes in order, but for an opening that turns back.
use Rattle.std.proofs.Common.{◌≡◌, ◌⊎◌, inl, inr, refl, sym, ◌∙◌, ap, subst, ℕ, zero, suc, ◌+◌, ◌-◌, ◌==◌, ◌&&◌, ◌||◌, ◌<◌, cond, nat_lt, nat_le, not, Bool, true, false, if◌then◌else◌, List, [], ◌∷◌, length, map, slice_get, Option, Some, None, arith}
use Rattle.std.specs.Prelude.{is_some, position}
use Rattle.std.specs.List.{position_from}
use Rattle.std.specs.Option.{option_map}
use Rattle.std.proofs.lemmas.Bool.Decides.{nat_tests}
use Rattle.std.proofs.lemmas.Iterator.Adapters.{position_from-zero}
use Rattle.std.proofs.lemmas.List.{length-map}
use Rattle.std.proofs.lemmas.List.Quantifiers.{position-Some}
use Rattle.std.proofs.lemmas.Option.{slice_get-map, get_or_from_slice_get}
use Rattle.fl_base.specs.declared.identity.CoreId.{CoreId}
use Rattle.fl_base.specs.declared.identity.EndId.{EndId}
use Rattle.fl_base.specs.declared.identity.LinkId.{LinkId}
use Rattle.fl_base.specs.declared.identity.Circuit.{Circuit}
use Rattle.fl_base.specs.Given.{given}
use Rattle.fl_base.specs.Numbered.{core_id}
use Rattle.fl_core.specs.BoardView.{TheDispatcher}
use Rattle.fl_hop.proofs.Answering.{numbers_apart}
use Rattle.fl_hop.proofs.Entering.{same_or}
use Rattle.fl_hop.proofs.Lists.{at_within}
use Rattle.fl_hop.specs.declared.entry.Hop.{Hop}
use Rattle.fl_hop.specs.declared.entry.HopTarget.{HopTarget}
use Rattle.fl_hop.specs.declared.entry.HopTarget.TheVariants.{Link as to_link, End as to_end}
use Rattle.fl_hop.specs.Joined.{Sound, Leads}
use Rattle.fl_hop.specs.Numbers.{OpenedThere}
use Rattle.fl_hop.specs.Openings.{IsWaiting}
use Rattle.fl_hop.specs.Table.{TheCircuits, hop_at, stands}
use Rattle.fl_monitor.specs.declared.heard.MessageOutcome.{MessageOutcome}
use Rattle.fl_monitor.specs.declared.message.MonitorMessage.{MonitorMessage}
use Rattle.fl_monitor.specs.declared.message.MonitorMessage.TheVariants.{OpenCircuit, CircuitOpened, CircuitRefused}
use Rattle.fl_monitor.specs.declared.opening.Opening.{Opening as Asked}
use Rattle.fl_monitor.specs.Fates.{Known, is_offered_elsewhere, is_for_another, is_in_place, comes_along}
use Rattle.fl_monitor.specs.Hearing.{ComesTo}
use Rattle.fl_monitor.specs.Routing.{is_core, next_on as next_named, comes_after, is_named_behind, is_on_route}
use Rattle.fl_hop.specs.declared.links.LinkState.{LinkState}
use Rattle.fl_hop.specs.Numbers.{next_due}
use Rattle.fl_hop.specs.Openings.{is_next}
use Rattle.fl_hop.proofs.Laws.{is_eq}
use Rattle.fl_lists.specs.ThreeLists.{is_in}
use Rattle.fl_model.specs.Binding.{all_differ}
use Rattle.fl_nameserv.specs.Registrations.{TheRegistration, by_iref}
use Rattle.fl_core.specs.declared.hearing.OfferedService.{OfferedService}
use Rattle.fl_core.specs.declared.wiring.EndWiring.{EndWiring}
use Rattle.fl_core.specs.declared.wiring.EndWiring.TheVariants.{Queues, Ring as OverRing, Circuit as ByCircuit}
use Rattle.fl_core.specs.Hearing.{may_offer, has_place, here_for, known_for}
use Rattle.fl_core.specs.View.{arrivals_by}
use Rattle.fl_core_run.specs.LogEntries.{IsSound}
use Rattle.fl_core_run.specs.Run.{TheRun}
use Rattle.fl_core_run_laws.proofs.Leading.{end_binding}
use Rattle.fl_core_run_laws.proofs.Tables.{leads_at}
use Rattle.fl_core_run_laws.specs.Led.{IsSettled, IsLed}
use Rattle.fl_ring.specs.SharedSides.{TheSide}
use Rattle.fl_model.specs.Rings.{OpeningLabel, MonitorLabel, open_circuit}
use Rattle.fl_model.specs.Waits.{has_places}
use Rattle.fl_model.specs.Monitors.{Core, Service, service_of, next_on, link_to, Fate, goes_on, ends_at, fails, fate, can_say, saying, with_said, with_circuits, Hearing, hears_opening, hears_opened, hears_refused, goes_misrouted}
use Rattle.fl_model.specs.Monitors.{Heard as MachineHeard, no_outbox, end_opened}
use Rattle.fl_world_refines.specs.Cores.{NamesShow}
use Rattle.fl_world_refines.specs.CoreLaws.{registration_of, HasPlaceAt, LeadsOn}
use Rattle.fl_world_refines.proofs.Names.{names_agree}
use Rattle.fl_world_refines.proofs.Tests.{either, by_test, le_true, le_false, lt_true, true_lt, false_lt}
use Rattle.fl_core_refines.specs.CutEnds.{EndCut}
use Rattle.fl_core_refines.specs.Cut.{CoreCut, ShowsWaits, ShowsSeat, ShowsCut}
use Rattle.fl_core_refines.specs.CutEvents.{EndAt}
use Rattle.fl_core_refines.specs.CutHearing.{said_of, IsUnbound, IsInOrder}
use Rattle.fl_core_refines.specs.CutOpening.{opening_with}
use Rattle.fl_core_refines.specs.CutReady.{EndsAreQuiet, Serves, TurnsBack}
use Rattle.fl_core_refines.proofs.Lists.{there}
use Rattle.fl_core_refines.proofs.Opening.{path_same, same_length, place_left}
use Rattle.fl_core_refines.proofs.Hearing.{wired_end_of}

-- ---- routes

position_named : (cores : List ℕ) (core i : ℕ) → position_from (is_core core) i (map core_id cores) ≡ position_from (λ (c : ℕ). c == core) i cores
position_named [] core i = refl
position_named (c ∷ cores) core i = ap (λ (o : Option ℕ). cond (c == core) (Some i) o) (position_named cores core (i + 1))

next_is : (cores : List ℕ) (core : ℕ) → next_named (map core_id cores) core ≡ option_map core_id (next_on cores core)
next_is cores core =
    ap (λ (o : Option ℕ). given o None λ place. slice_get (map core_id cores) (place + 1))
    (position_from-zero (is_core core) (map core_id cores) ∙ position_named cores core 0 ∙ sym (position_from-zero (λ (c : ℕ). c == core) cores))
    ∙ by_place (position (λ (c : ℕ). c == core) cores)
  where
    by_place : (o : Option ℕ) → (given o None λ place. slice_get (map core_id cores) (place + 1))
        ≡ option_map core_id (given o None λ j. slice_get cores (j + 1))
    by_place None = refl
    by_place (Some j) = slice_get-map core_id cores (j + 1)

-- the core behind this one, as the monitor finds it and as the machine does
pub next_of : (path : List CoreId) (core : ℕ) → next_named path core ≡ option_map core_id (next_on (map (λ (x : CoreId). x.0) path) core)
next_of path core = ap (λ (cs : List CoreId). next_named cs core) (sym (path_same path)) ∙ next_is (map (λ (x : CoreId). x.0) path) core

-- ---- where an opening ends

last_two : (a b c d e f : Bool) → (a && b && c && d && e && f) ≡ true → (e ≡ true) × (f ≡ true)
last_two false b c d e f h = absurd (cc)
last_two true false c d e f h = absurd (cc)
last_two true true false d e f h = absurd (cc)
last_two true true true false e f h = absurd (cc)
last_two true true true true false f h = absurd (cc)
last_two true true true true true false h = absurd (cc)
last_two true true true true true true h = (refl, refl)

not_not : (b : Bool) → not (not b) ≡ true → b ≡ true
not_not true h = refl
not_not false h = absurd (cc)

same_number : (a b : ℕ) → (a == b) ≡ true → a ≡ b
same_number a b h = grind (arith, nat_tests, h)

middle_of : (a b c : Bool) → a ≡ true → c ≡ true → (a && b && c) ≡ b
middle_of true true true p q = refl
middle_of true false true p q = refl
middle_of false b c p q = absurd (cc)
middle_of true true false p q = absurd (cc)
middle_of true false false p q = absurd (cc)

some_if : {X : Type 0} (b : Bool) (x : X) → is_some (if b then Some x else None) ≡ b
some_if true x = refl
some_if false x = refl

one_more : (n : ℕ) → nat_lt n 1024 ≡ nat_le (n + 1) 1024
one_more n = by_test (nat_lt n 1024)
    (λ t. (let less = true_lt n 1024 t in t ∙ sym (le_true (n + 1) 1024 (omega (arith, less)))))
    (λ f. (let most = false_lt n 1024 f in f ∙ sym (le_false (n + 1) 1024 (omega (arith, most)))))

listed : (services : List Service) (iref : ℕ) (x : Service) → service_of services iref ≡ Some x → slice_get services (iref - 1) ≡ Some x
listed services iref x = by (nat_lt 0 iref) where
  by : (b : Bool) → (if b then slice_get services (iref - 1) else None) ≡ Some x → slice_get services (iref - 1) ≡ Some x
  by true h = h
  by false h = absurd (cc)

-- of one that is in its place and ends here, what the core finds is so
place_at : (services : List Service) (a : CoreCut) (s : TheRun TheSide) (l : ℕ) (c : Circuit) (o : Asked) → ShowsCut a s → NamesShow services s.offers.names
    → Serves services a
    → is_in_place (known_for s.offers s.core (OpenCircuit c o.binding o.service o.path)) s.core.monitor.circuits l c.0 o ≡ true
    → HasPlaceAt services (opening_with c.0 o) a.core (here_for s.offers s.core (OpenCircuit c o.binding o.service o.path))
place_at services a s l c o h names serves placed x last found =
    let t : TheCircuits = s.core.monitor.circuits in
    let known : Known = known_for s.offers s.core (OpenCircuit c o.binding o.service o.path) in
    let none : next_named o.path t.core ≡ None
    = ap (λ (u : TheCircuits). next_named o.path u.core) h.monitor.circuits ∙ next_of o.path a.core.circuits.core ∙ ap (option_map core_id) last in
    let registered : by_iref o.service.0 s.offers.names ≡ Some (registration_of o.service.0 x) = (names_agree services s.offers.names names).found o.service.0 x found in
    let tests = last_two (is_next (next_due t l) c.0) (nat_lt o.binding 1024) (not known.here.has_end) (not (stands t o.binding)) (comes_along t l o.path)
    (not (is_for_another s.offers.names t o)) placed in
    let own : (x.dispatcher.core == t.core) ≡ true
    = not_not (x.dispatcher.core == t.core)
    (sym (ap (λ (r : Option TheRegistration). not (given r false λ y. not (y.service.core.0 == t.core))) registered)
    ∙ sym (ap (λ (n : Option CoreId). not (given n (is_offered_elsewhere s.offers.names t.core o.service.0) λ next. false)) none) ∙ tests.1) in
    let here : x.dispatcher.core ≡ a.core.circuits.core
    = same_number x.dispatcher.core t.core own ∙ ap (λ (u : TheCircuits). u.core) h.monitor.circuits in
    let is = serves (o.service.0 - 1) x (listed services o.service.0 x found) here in
    let dispatcher_there = is.0 in
    let program_there = is.1 in
    let as_many = same_length (ShowsWaits s.core.wired_ends) a.core.dispatchers s.core.board.dispatchers h.waits in
    let lent : length s.offers.programs ≡ length a.plans = sym (length-map s.offers.programs _) ∙ ap length h.plans in
    let w = at_within s.core.board.dispatchers x.dispatcher.place (omega (arith, dispatcher_there, as_many)) in
    let d = there (ShowsWaits s.core.wired_ends) a.core.dispatchers s.core.board.dispatchers x.dispatcher.place w.0 h.waits w.1 in
    let many = place_left d.0 w.0 s.core.wired_ends d.2 in
    let board : has_place s.core.board x.dispatcher.place ≡ nat_lt (length w.0.ends) 1024
    = ap (λ (r : Option TheDispatcher). given r false λ y. nat_lt (length y.ends) 1024) w.1 in
    let fits : nat_lt x.interface (length s.offers.programs) ≡ true = lt_true x.interface (length s.offers.programs) (omega (arith, program_there, lent)) in
    let offered : OfferedService = record { dispatcher = x.dispatcher.place; interface = x.interface } in
    let offers : is_some (if may_offer s.offers s.core (registration_of o.service.0 x) then Some offered else None) ≡ has_places 1 d.0
    = some_if (may_offer s.offers s.core (registration_of o.service.0 x)) offered
    ∙ middle_of (x.dispatcher.core == t.core) (has_place s.core.board x.dispatcher.place) (nat_lt x.interface (length s.offers.programs)) own fits
    ∙ board ∙ one_more (length w.0.ends) ∙ ap (λ (n : ℕ). nat_le (n + 1) 1024) (sym many) in (
      d.0,
      d.1,
      ap (λ (r : Option TheRegistration). is_some (given r None λ y. if may_offer s.offers s.core y
          then Some (let z : OfferedService = record { dispatcher = y.service.dispatcher; interface = y.service.interface } in z) else None)) registered ∙ offers,
    )

-- ---- where it leads on

-- or back over the link on which it came
record Back (l : ℕ) (o : OpeningLabel) (a : CoreCut) : Type 0 where
  pub next : ℕ
  pub next_is : next_on o.path a.core.circuits.core ≡ Some next
  pub back : link_to next a.core ≡ Some l

turns : (l : ℕ) (o : OpeningLabel) (a : CoreCut) → LeadsOn l o a.core ⊎ Back l o a
turns l o a = by_next (next_on o.path a.core.circuits.core) refl where
  same_link : (n m next x : ℕ) → next_on o.path a.core.circuits.core ≡ Some n → link_to n a.core ≡ Some m → next_on o.path a.core.circuits.core ≡ Some next
      → link_to next a.core ≡ Some x → m ≡ x
  same_link n m next x p q r k =
      let one : n ≡ next = (let both : Some n ≡ Some next = sym p ∙ r in cc) in
      let both : Some m ≡ Some x = sym q ∙ ap (λ (i : ℕ). link_to i a.core) one ∙ k in
      cc

  by_link : (n : ℕ) → next_on o.path a.core.circuits.core ≡ Some n → (m : Option ℕ) → link_to n a.core ≡ m → LeadsOn l o a.core ⊎ Back l o a
  by_link n p None q = inl (λ next m r k.
      let one : n ≡ next = (let both : Some n ≡ Some next = sym p ∙ r in cc) in
      let both : None ≡ Some m = sym q ∙ ap (λ (i : ℕ). link_to i a.core) one ∙ k in
      absurd (cc))
  by_link n p (Some m) q = elim (same_or l m) [
    | inl same ↦ inr (record { next = n; next_is = p; back = q ∙ ap (λ (i : ℕ). Some i) (sym same) })
    | inr other ↦ inl (λ next x r k same. other (same ∙ sym (same_link n m next x p q r k)))
  ]

  by_next : (n : Option ℕ) → next_on o.path a.core.circuits.core ≡ n → LeadsOn l o a.core ⊎ Back l o a
  by_next None p = inl (λ next m r k. let both : None ≡ Some next = sym p ∙ r in absurd (cc))
  by_next (Some n) p = by_link n p (link_to n a.core) refl

-- ---- a route that leads back

or_true : (b : Bool) → (b || true) ≡ true
or_true true = refl
or_true false = refl

and_none : (b : Bool) → (b && false) ≡ false
and_none true = refl
and_none false = refl

listed_in : (xs : List ℕ) (i x : ℕ) → slice_get xs i ≡ Some x → is_in x xs ≡ true
listed_in [] i x p = absurd (cc)
listed_in (y ∷ ys) zero x p = let same : y ≡ x = cc in ap (λ (b : Bool). b || is_in x ys) (is_eq y x same)
listed_in (y ∷ ys) (suc i) x p = ap (λ (b : Bool). (y == x) || b) (listed_in ys i x p) ∙ or_true (y == x)

-- it names a core before and behind another
twice_in : (xs : List ℕ) (i x : ℕ) → slice_get xs i ≡ Some x → slice_get xs (suc (suc i)) ≡ Some x → all_differ xs ≡ false
twice_in [] i x p q = absurd (cc)
twice_in (y ∷ ys) zero x p q =
    let same : y ≡ x = cc in ap (λ (b : Bool). not b && all_differ ys) (ap (λ (z : ℕ). is_in z ys) same ∙ listed_in ys 1 x q)
twice_in (y ∷ ys) (suc i) x p q = ap (λ (b : Bool). not (is_in y ys) && b) (twice_in ys i x p q) ∙ and_none (not (is_in y ys))

-- where the core stands on a route that leads here from its link
record Along (t : TheCircuits) (l : ℕ) (path : List CoreId) : Type 0 where
  pub link : LinkState
  pub link_is : slice_get t.links l ≡ Some link
  pub place : ℕ
  pub place_is : position (is_core t.core) path ≡ Some place
  pub after : comes_after path place link.neighbour.0 ≡ true

first_of_two : (a b : Bool) → (a && b) ≡ true → a ≡ true
first_of_two true b h = refl
first_of_two false b h = absurd (cc)

along : (t : TheCircuits) (l : ℕ) (path : List CoreId) → comes_along t l path ≡ true → Along t l path
along t l path h = by_link (slice_get t.links l) refl h where
  by_place : (link : LinkState) → slice_get t.links l ≡ Some link → (o : Option ℕ) → position (is_core t.core) path ≡ o
      → (given o false λ place. comes_after path place link.neighbour.0 && not (is_named_behind path place t.core)) ≡ true → Along t l path
  by_place link p None q r = absurd (cc)
  by_place link p (Some place) q r =
      record { link = link; link_is = p; place = place; place_is = q; after = first_of_two (comes_after path place link.neighbour.0) (not (is_named_behind path place t.core)) r }

  by_link : (o : Option LinkState) → slice_get t.links l ≡ o → (given o false λ link. is_on_route path link.neighbour.0 t.core) ≡ true → Along t l path
  by_link None p r = absurd (cc)
  by_link (Some link) p r = by_place link p (position (is_core t.core) path) refl r

-- the core before this one
record Before (path : List CoreId) (place neighbour : ℕ) : Type 0 where
  pub some : 0 < place
  pub core : CoreId
  pub core_is : slice_get path (place - 1) ≡ Some core
  pub same : core.0 ≡ neighbour

before : (path : List CoreId) (place neighbour : ℕ) → comes_after path place neighbour ≡ true → Before path place neighbour
before path place neighbour h = by (nat_lt 0 place) refl h where
  by_core : nat_lt 0 place ≡ true → (o : Option CoreId) → slice_get path (place - 1) ≡ o → (given o false (is_core neighbour)) ≡ true → Before path place neighbour
  by_core p None q r = absurd (cc)
  by_core p (Some c) q r = record { some = true_lt 0 place p; core = c; core_is = q; same = same_number c.0 neighbour r }

  by : (b : Bool) → nat_lt 0 place ≡ b → (if b then given (slice_get path (place - 1)) false (is_core neighbour) else false) ≡ true → Before path place neighbour
  by true p r = by_core p (slice_get path (place - 1)) refl r
  by false p r = absurd (cc)

names_twice : (a : CoreCut) (s : TheRun TheSide) (l : ℕ) (c : Circuit) (o : Asked) → ShowsCut a s → comes_along s.core.monitor.circuits l o.path ≡ true
    → Back l (opening_with c.0 o) a → all_differ (opening_with c.0 o).path ≡ false
names_twice a s l c o h leads back =
    let t : TheCircuits = s.core.monitor.circuits in
    let here = along t l o.path leads in
    let prior = before o.path here.place here.link.neighbour.0 here.after in
    let some : 0 < here.place = prior.some in
    let next : next_named o.path t.core ≡ Some (core_id back.next)
    = ap (λ (u : TheCircuits). next_named o.path u.core) h.monitor.circuits ∙ next_of o.path a.core.circuits.core ∙ ap (option_map core_id) back.next_is in
    let behind : slice_get o.path (here.place + 1) ≡ Some (core_id back.next)
    = sym (ap (λ (x : Option ℕ). given x None λ place. slice_get o.path (place + 1)) here.place_is) ∙ next in
    let linked : position (λ (x : LinkState). x.neighbour.0 == back.next) t.links ≡ Some l
    = ap (λ (u : TheCircuits). position (λ (x : LinkState). x.neighbour.0 == back.next) u.links) h.monitor.circuits ∙ back.back in
    let test = (position-Some (λ (x : LinkState). x.neighbour.0 == back.next) t.links l here.link linked).1 in
    let neighbour : here.link.neighbour.0 ≡ back.next
    = same_number here.link.neighbour.0 back.next
    (ap (λ (x : LinkState). x.neighbour.0 == back.next) (sym (get_or_from_slice_get t.links l here.link here.link here.link_is)) ∙ test) in
    let first : slice_get (map (λ (x : CoreId). x.0) o.path) (here.place - 1) ≡ Some back.next
    = slice_get-map (λ (x : CoreId). x.0) o.path (here.place - 1) ∙ ap (option_map (λ (x : CoreId). x.0)) prior.core_is
    ∙ ap (λ (n : ℕ). Some n) (prior.same ∙ neighbour) in
    let place : here.place + 1 ≡ suc (suc (here.place - 1)) = omega (arith, some) in
    let second : slice_get (map (λ (x : CoreId). x.0) o.path) (suc (suc (here.place - 1))) ≡ Some back.next
    = ap (slice_get (map (λ (x : CoreId). x.0) o.path)) (sym place) ∙ slice_get-map (λ (x : CoreId). x.0) o.path (here.place + 1)
    ∙ ap (option_map (λ (x : CoreId). x.0)) behind in
    twice_in (map (λ (x : CoreId). x.0) o.path) (here.place - 1) back.next first second

-- ---- where an answer ends

-- a number that waits for its answer leads to no end that is bound
waits_unbound : (t : TheCircuits) (l c i d : ℕ) (hop : Hop) (e : EndId) → Sound t → IsWaiting t l c hop → hop.way ≡ to_end e → IsSettled t i d e → ⊥
waits_unbound t l c i d hop e k w way s =
    let link : ℕ → LinkId = λ n. record { 0 = n } in
    let circuit : ℕ → Circuit = λ n. record { 0 = n } in
    let one : e.binding ≡ hop.binding = end_binding t l c hop e k w.there way in
    let two : e.binding ≡ s.hop.binding = end_binding t i d s.hop e k s.there s.way in
    let first : Leads t l c e.binding (to_end e) = subst (λ (b : ℕ). Leads t l c b (to_end e)) (sym one) (leads_at t l c hop (to_end e) w.there way) in
    let second : Leads t i d e.binding (to_end e) = subst (λ (b : ℕ). Leads t i d b (to_end e)) (sym two) (leads_at t i d s.hop (to_end e) s.there s.way) in
    elim (k.one (link l) (link i) (circuit c) (circuit d) e.binding (to_end e) (to_end e) first second) [
      | inl (links, circuits) ↦ here (ap (λ (x : LinkId). x.0) links) (ap (λ (x : Circuit). x.0) circuits)
      | inr leads ↦ not_link (link i) (circuit d) e leads
    ]
  where
    not_link : (m : LinkId) (n : Circuit) (x : EndId) → to_end x ≡ to_link m n → ⊥
    not_link m n x q = cc

    here : l ≡ i → c ≡ d → ⊥
    here p q =
        let found : Some s.hop ≡ Some hop = sym s.there ∙ ap (λ (n : ℕ). hop_at t n d) (sym p) ∙ ap (hop_at t l) (sym q) ∙ w.there in
        let same : s.hop ≡ hop = cc in
        by same (subst (λ (n : ℕ). (s.hop.answered ≡ true) ⊎ OpenedThere t l n) (sym q) (subst (λ (n : ℕ). (s.hop.answered ≡ true) ⊎ OpenedThere t n d) (sym p) s.for_good))
      where
        by : s.hop ≡ hop → (s.hop.answered ≡ true) ⊎ OpenedThere t l c → ⊥
        by same (inl ok) = let no : true ≡ false = sym ok ∙ ap (λ (y : Hop). y.answered) same ∙ w.unanswered in absurd (cc)
        by same (inr given_there) = numbers_apart t k l c w.here given_there

-- on a circuit
circuit_wiring : (wiring : EndWiring) (number : ℕ) → arrivals_by wiring ≡ Some number → (m : LinkId) × (wiring ≡ ByCircuit m number)
circuit_wiring (Queues out from) number h = absurd (cc)
circuit_wiring (OverRing side) number h = absurd (cc)
circuit_wiring (ByCircuit m arrivals) number h = let same : arrivals ≡ number = cc in (m, ap (ByCircuit m) same)

unless_bound : (x : EndCut) (o : Option ℕ) → x.end.circuit ≡ o → (x.end.circuit ≡ None → IsUnbound x) → ((d : ℕ) → x.end.circuit ≡ Some d → ⊥) → IsUnbound x
unless_bound x None p quiet never = quiet p
unless_bound x (Some d) p quiet never = absurd (never d p)

-- so of an end to which an answer comes nothing was accepted
end_waits : (a : CoreCut) (s : TheRun TheSide) (l c : ℕ) (hop : Hop) (e : EndId) (number : ℕ) (at : EndAt a e) → ShowsCut a s → IsSound s.core → EndsAreQuiet a.ends
    → IsLed s.core → IsWaiting s.core.monitor.circuits l c hop → hop.way ≡ to_end e → arrivals_by at.end.wired_end.wiring ≡ Some number → IsUnbound at.end
end_waits a s l c hop e number at h sound quiet led w way own =
    let wired_end : slice_get s.core.wired_ends at.place ≡ Some at.end.wired_end = wired_end_of a.ends s.core.wired_ends at.place at.end h.wired_ends at.end_is in
    let wiring = circuit_wiring at.end.wired_end.wiring number own in
    let as_many = same_length (ShowsSeat s.core.monitor.circuits.core) a.ends s.core.board.seats h.ends in
    let below = Rattle.fl_hop.proofs.Lists.within a.ends at.place at.end at.end_is in
    let seat = at_within s.core.board.seats at.place (omega (arith, below, as_many)) in
    let x = there (ShowsSeat s.core.monitor.circuits.core) a.ends s.core.board.seats at.place seat.0 h.ends seat.1 in
    let same : x.0 ≡ at.end = (let both : Some x.0 ≡ Some at.end = sym x.1 ∙ at.end_is in cc) in
    let shown : seat.0.end.circuit ≡ at.end.end.circuit = x.2.shows.circuit ∙ ap (λ (y : EndCut). y.end.circuit) same in
    let leads = led.ends at.place number wiring.0 at.end.wired_end seat.0 wired_end wiring.1 seat.1 in
    unless_bound at.end at.end.end.circuit refl (quiet at.place at.end at.end_is)
    (λ d p. waits_unbound s.core.monitor.circuits l c wiring.0.0 d hop e sound.table w way
    (subst (λ (name : EndId). IsSettled s.core.monitor.circuits wiring.0.0 d name) at.name_is (leads.bound d (shown ∙ p))))

-- what the machine's core hears of an answer that ends here is where its entry leads
says_other : {P : Type 0} (l : ℕ) (said : MonitorLabel) (t : TheCircuits) (w : MachineHeard) (k : Core) (e : EndId) (c : ℕ) → (w ≡ end_opened e c → ⊥)
    → (saying l said t w k).heard ≡ end_opened e c → P
says_other {P} l said t w k e c other =
    either (λ (x : Hearing). x.heard ≡ end_opened e c → P) (can_say l k) (record { core = with_said l said (with_circuits t k); heard = w })
    (record { core = k; heard = no_outbox }) (λ q same. absurd (other same)) (λ q same. absurd (cc))

opening_other : {P : Type 0} (l : ℕ) (o : OpeningLabel) (f : Fate) (k : Core) (e : EndId) (c : ℕ) → (hears_opening l o f k).heard ≡ end_opened e c → P
opening_other l o (goes_on m n) k e c = says_other m _ _ _ k e c (λ q. cc)
opening_other l o (ends_at d) k e c = says_other l _ _ _ k e c (λ q. cc)
opening_other l o (fails fault) k e c = says_other l _ _ _ k e c (λ q. cc)

refused_other : {P : Type 0} (l n fault : ℕ) (hop : Hop) (way : HopTarget) (k : Core) (e : EndId) (c : ℕ) → (hears_refused l n fault hop way k).heard ≡ end_opened e c → P
refused_other l n fault hop (to_link m d) k e c = says_other m.0 _ _ _ k e c (λ q. cc)
refused_other l n fault hop (to_end x) k e c = λ q. absurd (cc)

-- the entry at which an answer came leads to the end that it opens
opened_way : (l n : ℕ) (hop : Hop) (way : HopTarget) (k : Core) (e : EndId) (c : ℕ) → (hears_opened l n hop way k).heard ≡ end_opened e c → way ≡ to_end e
opened_way l n hop (to_link m d) k e c = says_other m.0 _ _ _ k e c (λ q. cc)
opened_way l n hop (to_end x) k e c = λ q. let same : x ≡ e = cc in ap to_end same

-- ---- the whole

abbrev pub Comes : TheRun TheSide → LinkId → MonitorMessage → Type 0
Comes s l m = (heard : MessageOutcome) × ComesTo (known_for s.offers s.core m) s.core.monitor.circuits l m heard

-- it comes in order, or is an opening that turns back
abbrev pub Ordered : List Service → LinkId → CoreCut → TheRun TheSide → MonitorMessage → Type 0
Ordered services l a s m = IsInOrder services l.0 a s m ⊎ ((o : OpeningLabel) × (said_of m ≡ open_circuit o) × TurnsBack l.0 o a)

pub ordered : (services : List Service) (l : LinkId) (a : CoreCut) (s : TheRun TheSide) (m : MonitorMessage) → ShowsCut a s → IsSound s.core → NamesShow services s.offers.names
    → Serves services a → EndsAreQuiet a.ends → IsLed s.core → Comes s l m → Ordered services l a s m
ordered services l a s (OpenCircuit c binding service path) h sound names serves quiet led (heard, comes) =
    let o : Asked = record { binding = binding; service = service; path = path } in
    let leads : comes_along s.core.monitor.circuits l.0 path ≡ true
    = (last_two (is_next (next_due s.core.monitor.circuits l.0) c.0) (nat_lt binding 1024)
    (not (here_for s.offers s.core (OpenCircuit c binding service path)).has_end) (not (stands s.core.monitor.circuits binding))
    (comes_along s.core.monitor.circuits l.0 path) (not (is_for_another s.offers.names s.core.monitor.circuits o)) comes.0).0 in
    elim (turns l.0 (opening_with c.0 o) a) [
      | inl on ↦ inl (record {
        may = (place_at services a s l.0 c o h names serves comes.0, on);
        unbound = λ e n number at w own. opening_other l.0 (opening_with c.0 o) (fate services (opening_with c.0 o) a.core) a.core e n w;
      })
      | inr back ↦ inr (
        opening_with c.0 o,
        refl,
        record {
          along = ap (λ (p : List CoreId). comes_along a.core.circuits l.0 p) (path_same path)
              ∙ ap (λ (t : TheCircuits). comes_along t l.0 path) (sym h.monitor.circuits) ∙ leads;
          next = back.next;
          next_is = back.next_is;
          back = back.back;
          twice = names_twice a s l.0 c o h leads back;
        },
      )
    ]
ordered services l a s (CircuitOpened c) h sound names serves quiet led (heard, comes) =
    let there : hop_at a.core.circuits l.0 c.0 ≡ Some comes.0 = ap (λ (t : TheCircuits). hop_at t l.0 c.0) (sym h.monitor.circuits) ∙ comes.1.there in
    inl (record {
      may = tt;
      unbound = λ e n number at w own.
          end_waits a s l.0 c.0 comes.0 e number at h sound quiet led comes.1 (opened_way l.0 c.0 comes.0 comes.0.way a.core e n
          (sym (ap (λ (x : Option Hop). (given x (goes_misrouted a.core) λ hop. hears_opened l.0 c.0 hop hop.way a.core).heard) there) ∙ w)) own;
    })
ordered services l a s (CircuitRefused c reason) h sound names serves quiet led (heard, comes) =
    let there : hop_at a.core.circuits l.0 c.0 ≡ Some comes.0 = ap (λ (t : TheCircuits). hop_at t l.0 c.0) (sym h.monitor.circuits) ∙ comes.1.there in
    inl (record {
      may = tt;
      unbound = λ e n number at w own. refused_other l.0 c.0 reason comes.0 comes.0.way a.core e n
          (sym (ap (λ (x : Option Hop). (given x (goes_misrouted a.core) λ hop. hears_refused l.0 c.0 reason hop hop.way a.core).heard) there) ∙ w);
    })
