-- A message that is heard, or a circuit that is asked for, gives one number at most, for an opening that had none from there; and none for what is refused.
use Rattle.std.proofs.Common.{◌≡◌, ◌≢◌, ◌⊎◌, inl, inr, refl, sym, ap, ◌∙◌, subst, ℕ, ◌==◌, Bool, true, false, List, slice_get, Option, Some, None, arith}
use Rattle.std.proofs.lemmas.Bool.{cases_eq}
use Rattle.fl_base.specs.declared.fragment.Frag.{Frag}
use Rattle.fl_base.specs.declared.identity.CoreId.{CoreId}
use Rattle.fl_base.specs.declared.identity.LinkId.{LinkId}
use Rattle.fl_base.specs.declared.identity.Circuit.{Circuit}
use Rattle.fl_base.specs.Control.{bare}
use Rattle.fl_base.specs.Given.{given as given_in}
use Rattle.fl_hop.specs.declared.entry.Hop.{Hop}
use Rattle.fl_hop.specs.declared.links.LinkState.{LinkState}
use Rattle.fl_hop.specs.Joined.{Sound}
use Rattle.fl_hop.specs.Later.{Later}
use Rattle.fl_hop.specs.Numbers.{IsAmong, IsTaken, OpenedHere, OpenedThere, next_own, with_opening, with_taking, changed, count_taking, after_taking}
use Rattle.fl_hop.specs.Openings.{IsWaiting, opened as opened_table, passed_on, answered}
use Rattle.fl_hop.specs.Table.{TheCircuits, hop_at, link_of, without_entry}
use Rattle.fl_hop.specs.declared.entry.HopTarget.{HopTarget}
use Rattle.fl_hop.specs.declared.entry.HopTarget.TheVariants.{Link, End}
use Rattle.fl_hop.proofs.Counting.{Due, next_is, due_is, never_due, counted_taking}
use Rattle.fl_hop.proofs.Lists.{set_here, set_there}
use Rattle.fl_nameserv.specs.Registrations.{TheRegistration, by_iref}
use Rattle.fl_monitor.specs.declared.opening.Opening.{Opening}
use Rattle.fl_monitor.specs.declared.heard.MessageOutcome.{MessageOutcome}
use Rattle.fl_monitor.specs.declared.heard.MessageOutcome.TheVariants.{OpeningWentOn, ServerMade, OpeningFailed, AnswerWentOn, EndOpened, EndRefused}
use Rattle.fl_monitor.specs.declared.message.MonitorMessage.{MonitorMessage}
use Rattle.fl_monitor.specs.declared.message.MonitorMessage.TheVariants.{OpenCircuit, CircuitOpened, CircuitRefused}
use Rattle.fl_monitor.specs.Routing.{next_on}
use Rattle.fl_monitor.specs.Fates.{Known, arrival, passage, fate, is_in_place}
use Rattle.fl_monitor.specs.Hearing.{heard_by, opened_at, refused_at, ComesTo, says, after_opening as table_of_opening, table_after}
use Rattle.fl_monitor.specs.Monitors.{TheMonitor, AllSaid, IsQueuedMessage, waiting_for, asks}
use Rattle.fl_monitor.specs.Saying.{Says}
use Rattle.fl_monitor.proofs.Single.{says_the_same}
use Rattle.fl_core.specs.View.{TheCore, place_of, client_of}
use Rattle.fl_core.specs.declared.core_job.CoreJob.{CoreJob}
use Rattle.fl_cores_laws.specs.Named.{Has, AreNamed}
use Rattle.fl_cores_laws.specs.Asked.{IsRequested}
use Rattle.fl_cores_laws.specs.Reasons.{CameUnder, AsksOnly, HeardRefused, IsFrom, AreReasoned, LeadsOver, Origin, from_job, from_link, IsSince, IsGivenTo, AreGivenOnce, GivesNone, AreSettled, as_talk}
use Rattle.fl_cores_laws.proofs.Asked.{along_in_place}
use Rattle.fl_cores_laws.proofs.AskedLaid.{Laid, laid_along}
use Rattle.fl_cores_laws.proofs.Counted.{next_still}
use Rattle.fl_cores_laws.proofs.Given.{GivenThen, since_on, none_given, one_given, only_new}
use Rattle.fl_cores_laws.proofs.Logged.{IsKeptBy, IsPassedOn}
use Rattle.fl_cores_laws.proofs.Named.{IsNext, opening_next, due_in_place}
use Rattle.fl_cores_laws.proofs.Reasoned.{asks_refused, opened_refused, refused_parts, came_more, said_or_new}
use Rattle.fl_cores_laws.proofs.ReasonedHears.{KnowsPlaces, AreReasonedFrom, reasons_kept}
use Rattle.fl_cores_laws.proofs.ReasonsKept.{remembers_kept}
use Rattle.fl_cores_laws.proofs.ReasonsOwn.{laid_link}
use Rattle.fl_cores_laws.proofs.Settled.{settled_then}
use Rattle.fl_cores_laws.proofs.Refused.{opened_still, opened_before, newest_next}

-- ---- a number that was due is taken

taken_new : (core : ℕ) (links : List LinkState) (l n : ℕ) → Due core links l n → IsTaken core (count_taking links l) l n
taken_new core links l n x =
    subst (λ v. IsTaken core v l n) (sym (counted_taking core links l n x))
    (record { link = with_taking x.link; there = set_here links l x.link (with_taking x.link) x.there; among = (x.link.taken, omega arith, sym x.is) })

-- and stays so where one more is opened
taken_on : (core : ℕ) (links : List LinkState) (m l n : ℕ) (o : Option LinkState) → slice_get links m ≡ o → IsTaken core links l n → IsTaken core (changed with_opening links m o) l n
taken_on core links m l n None at x = x
taken_on core links m l n (Some a) at x = elim (cases_eq l m) [
  | inl same ↦ (let both : Some x.link ≡ Some a = sym x.there ∙ ap (slice_get links) same ∙ at in let one : x.link ≡ a = cc in record {
    link = with_opening a;
    there = subst (λ (k : ℕ). slice_get (changed with_opening links m (Some a)) k ≡ Some (with_opening a)) (sym same) (set_here links m a (with_opening a) at);
    among = subst (λ (y : LinkState). IsAmong y.neighbour.0 core y.taken n) one x.among;
  })
  | inr other ↦ record { link = x.link; there = set_there links m (with_opening a) l x.link x.there other; among = x.among }
]

-- ---- where an opening goes on it goes on over the link that its route leads to

abbrev IsOver : TheCircuits → Opening → MessageOutcome → Type 0
IsOver t o (OpeningWentOn binding m n) = LeadsOver t o.path m.0
IsOver t o (ServerMade binding dispatcher c) = Unit {0}
IsOver t o (OpeningFailed binding reason) = Unit {0}
IsOver t o (AnswerWentOn binding m c) = Unit {0}
IsOver t o (EndOpened e c) = Unit {0}
IsOver t o (EndRefused e reason) = Unit {0}

module _ (kn : Known) (t : TheCircuits) (l : ℕ) (o : Opening) (c : Circuit) where
  abbrev Goes : MessageOutcome → Type 0
  Goes h = IsOver t o h

  at_last : (r : Option TheRegistration) (place : Bool) → by_iref o.service.0 kn.names ≡ r → kn.here.has_place ≡ place → Goes (heard_by o.binding c (arrival kn o.service.0))
  at_last None place is has = rw is tt
  at_last (Some r) true is has = rw (is, has) tt
  at_last (Some r) false is has = rw (is, has) tt

  at_link : (next : CoreId) → next_on o.path t.core ≡ Some next → (m : ℕ) (same : Bool) (n : Option ℕ) → link_of t next.0 ≡ Some m → (l == m) ≡ same → next_own t m ≡ n
      → Goes (heard_by o.binding c (passage t l next.0))
  at_link next next_is m true n is test own = rw (is, test) tt
  at_link next next_is m false None is test own = rw (is, test, own) tt
  at_link next next_is m false (Some n) is test own = rw (is, test, own) (record { next = next; next_is = next_is; link_is = is })

  on_the_way : (next : CoreId) → next_on o.path t.core ≡ Some next → (m : Option ℕ) → link_of t next.0 ≡ m → Goes (heard_by o.binding c (passage t l next.0))
  on_the_way next next_is None is = rw is tt
  on_the_way next next_is (Some m) is = at_link next next_is m (l == m) (next_own t m) is refl refl

  by_route : (next : Option CoreId) → next_on o.path t.core ≡ next → Goes (heard_by o.binding c (fate kn t l o))
  by_route None is = rw is (at_last (by_iref o.service.0 kn.names) kn.here.has_place refl refl)
  by_route (Some next) is = rw is (on_the_way next is (link_of t next.0) refl)

  opening_over : (h : MessageOutcome) → h ≡ heard_by o.binding c (fate kn t l o) → Goes h
  opening_over h is = subst Goes (sym is) (by_route (next_on o.path t.core) refl)

-- ---- a message, or a circuit that is asked for

module _ (names : List TheRegistration) (NoPlace Requested : Opening → Type 0) (W W2 : ℕ → Opening → Type 0) (t0 : TheCircuits) (said heard heard2 : ℕ → List Frag) (m m2 : TheMonitor) (sound : Sound m.circuits)
    (later : Later m.circuits m2.circuits) (more : (l : ℕ) (f : Frag) → Has f (heard l) → Has f (heard2 l)) (laid : Laid t0 m.circuits) (named : AreNamed said heard m)
    (reasoned : AreReasoned names NoPlace Requested t0 (as_talk said heard m)) (settled : AreSettled W t0 (as_talk said heard m))
    (since : (l : ℕ) (o : Opening) (origin : Origin) → IsSince W t0 (as_talk said heard m) l o origin → IsSince W2 t0 (as_talk said heard2 m2) l o origin)
    (only : (l n : ℕ) (o : Opening) → OpenedHere m.circuits l n → AsksOnly said m l n o → AsksOnly said m2 l n o) where
  abbrev t : TheCircuits
  t = m.circuits

  abbrev given : AreGivenOnce W t0 (as_talk said heard m)
  given = settled.given

  abbrev Then : Type 0
  Then = AreSettled W2 t0 (as_talk said heard2 m2)

  abbrev IsUnused : ℕ → ℕ → Type 0
  IsUnused l n = (k i : ℕ) (a : OpenedHere m.circuits k i) → (given.given k i a).origin ≢ from_link l n

  abbrev Keeps : AreGivenOnce W2 t0 (as_talk said heard2 m2) → Type 0
  Keeps new = (l n : ℕ) → OpenedThere m.circuits l n → IsUnused l n → (k i : ℕ) (a : OpenedHere m2.circuits k i) → (new.given k i a).origin ≢ from_link l n

  abbrev Refused : AreGivenOnce W2 t0 (as_talk said heard2 m2) → ℕ → Circuit → ℕ → Type 0
  Refused new l c reason = (o : Opening) × CameUnder t0 heard2 l c.0 o × (GivesNone new l c.0 ⊎ HeardRefused (as_talk said heard2 m2) o reason)

  -- a message is said; where it refuses something, so
  by_message : (x : LinkId) (msg : MonitorMessage) → IsQueuedMessage (record { link = x; message = msg }) m.outboxes m2.outboxes → (new : AreGivenOnce W2 t0 (as_talk said heard2 m2)) → Keeps new
      → ((c : Circuit) (reason : ℕ) → msg ≡ CircuitRefused c reason → Refused new x.0 c reason) → Then
  by_message x msg put new keeps fresh =
      settled_then W W2 t0 said said heard heard2 m m2 settled later.here later.there more only new keeps
      (λ l f c reason has says_it. elim (said_or_new said m m2 x msg put l f (CircuitRefused c reason) has says_it) [
        | inl old ↦ inl (f, old, says_it)
        | inr is ↦ inr (subst (λ (k : ℕ). Refused new k c reason) (sym is.0) (fresh c reason is.1))
      ])

  by_silence : m2.outboxes ≡ m.outboxes → (new : AreGivenOnce W2 t0 (as_talk said heard2 m2)) → Keeps new → Then
  by_silence same new keeps =
      settled_then W W2 t0 said said heard heard2 m m2 settled later.here later.there more only new keeps
      (λ l f c reason has says_it. inl (
        f,
        elim has [ inl a ↦ inl a | inr b ↦ inr (subst (λ (boxes : List (List Frag)). Has f (waiting_for boxes l)) same b) ],
        says_it,
      ))

  abbrev none_new : ((k n : ℕ) → OpenedHere m2.circuits k n → OpenedHere t k n) → GivenThen W2 t0 (as_talk said heard2 m2) IsUnused
  none_new old = none_given W W2 t0 said said heard heard2 m m2 given since only old

  -- nothing is given
  nothing : (x : LinkId) (msg : MonitorMessage) → IsQueuedMessage (record { link = x; message = msg }) m.outboxes m2.outboxes → ((c : Circuit) (reason : ℕ) → msg ≡ CircuitRefused c reason → ⊥)
      → ((k n : ℕ) → OpenedHere m2.circuits k n → OpenedHere t k n) → Then
  nothing x msg put none old = by_message x msg put (none_new old).given (λ l n taken unused. (none_new old).keeps l n unused) (λ c reason is. absurd (none c reason is))

  silent : m2.outboxes ≡ m.outboxes → ((k n : ℕ) → OpenedHere m2.circuits k n → OpenedHere t k n) → Then
  silent same old = by_silence same (none_new old).given (λ l n taken unused. (none_new old).keeps l n unused)

  -- one number is
  one_more : (x : LinkId) (d : Circuit) (o : Opening) → IsQueuedMessage (record { link = x; message = asks d o }) m.outboxes m2.outboxes → (one : IsGivenTo W2 t0 (as_talk said heard2 m2) x.0 d.0)
      → ((l n : ℕ) (a : OpenedHere t l n) → (given.given l n a).opening.binding ≡ one.opening.binding → (given.given l n a).origin ≡ one.origin → ⊥)
      → ((l n : ℕ) → OpenedThere t l n → one.origin ≡ from_link l n → ⊥) → ((k n : ℕ) → OpenedHere m2.circuits k n → OpenedHere t k n ⊎ ((k ≡ x.0) × (n ≡ d.0))) → Then
  one_more x d o put one fresh apart new =
      let g = one_given W W2 t0 said said heard heard2 m m2 given since only x.0 d.0 one fresh new in
      by_message x (asks d o) put g.given (λ l n taken unused. g.keeps l n (unused, apart l n taken)) (λ c reason is. absurd (asks_refused c d reason o is))

  -- ---- an opening that is heard

  module _ (l : LinkId) (kn : Known) (frag : Frag) (c : Circuit) (o : Opening) (has : Has frag (heard2 l.0)) (says_it : Says frag (asks c o))
      (place : is_in_place kn t l.0 c.0 o ≡ true) where
    came : CameUnder t0 heard2 l.0 c.0 o
    came = record { frag = frag; has = has; circuit = c; number = refl; says = says_it; along = sym (laid_along t0 t laid l.0 o.path) ∙ along_in_place kn t l.0 c.0 o place }

    due : Due t.core t.links l.0 c.0
    due = due_is t.core t.links l.0 c.0 (due_in_place kn t l c o place)

    not_taken : OpenedThere t l.0 c.0 → ⊥
    not_taken taken = never_due t.core t.links sound.apart l.0 c.0 due (inr taken)

    never : (k n : ℕ) (a : OpenedHere t k n) → (given.given k n a).origin ≡ from_link l.0 c.0 → ⊥
    never k n a same = not_taken (subst (IsSince W t0 (as_talk said heard m) k (given.given k n a).opening) same (given.given k n a).since).0

    went_on : (x : LinkId) (d : Circuit) → next_own t x.0 ≡ Some d.0 → LeadsOver t o.path x.0 → m2.circuits ≡ passed_on t l c x d o.binding
        → IsQueuedMessage (record { link = x; message = asks d o }) m.outboxes m2.outboxes → Then
    went_on x d next leads is put = one_more x d o put one (λ k n a bindings origins. never k n a origins) apart new where
      taken : OpenedThere m2.circuits l.0 c.0
      taken = subst (λ (v : TheCircuits). OpenedThere v l.0 c.0) (sym is)
          (taken_on t.core (count_taking t.links l.0) x.0 l.0 c.0 (slice_get (count_taking t.links l.0) x.0) refl (taken_new t.core t.links l.0 c.0 due))

      over : LeadsOver t0 o.path x.0
      over = record { next = leads.next; next_is = ap (next_on o.path) (sym laid.core) ∙ leads.next_is; link_is = sym (laid_link t0 t laid leads.next.0) ∙ leads.link_is }

      one : IsGivenTo W2 t0 (as_talk said heard2 m2) x.0 d.0
      one = record { opening = o; origin = from_link l.0 c.0; since = (taken, came, over); only = only_new said heard m m2 sound named x d o put next }

      apart : (k n : ℕ) → OpenedThere t k n → from_link l.0 c.0 ≡ from_link k n → ⊥
      apart k n there same =
          let links : k ≡ l.0 = let h : l.0 ≡ k = cc in sym h in
          let numbers : n ≡ c.0 = let h : c.0 ≡ n = cc in sym h in
          not_taken (subst (λ (i : ℕ). OpenedThere t i c.0) links (subst (λ (i : ℕ). OpenedThere t k i) numbers there))

      new : (k n : ℕ) → OpenedHere m2.circuits k n → OpenedHere t k n ⊎ ((k ≡ x.0) × (n ≡ d.0))
      new k n here = elim (opened_before t.core (count_taking t.links l.0) x.0 k n (slice_get (count_taking t.links l.0) x.0) refl (subst (λ (v : TheCircuits). OpenedHere v k n) is here)) [
        | inl old ↦ inl (opened_still t.core t.links l.0 k n (slice_get t.links l.0) refl old)
        | inr y ↦ inr (y.link_is, newest_next t.core (count_taking t.links l.0) x.0 k n d.0 (next_still t.core t.links l.0 x.0 d.0 (next_is t.core t.links x.0 d.0 next)) y)
      ]

    failed : (reason : ℕ) → m2.circuits ≡ after_taking t l.0 → IsQueuedMessage (record { link = l; message = CircuitRefused c reason }) m.outboxes m2.outboxes → Then
    failed reason is put = by_message l (CircuitRefused c reason) put g.given (λ k n taken unused. g.keeps k n unused) fresh where
      g : GivenThen W2 t0 (as_talk said heard2 m2) IsUnused
      g = none_new (λ k n here. opened_still t.core t.links l.0 k n (slice_get t.links l.0) refl (subst (λ (v : TheCircuits). OpenedHere v k n) is here))

      taken : OpenedThere m2.circuits l.0 c.0
      taken = subst (λ (v : TheCircuits). OpenedThere v l.0 c.0) (sym is) (taken_new t.core t.links l.0 c.0 due)

      fresh : (d : Circuit) (r : ℕ) → CircuitRefused c reason ≡ CircuitRefused d r → Refused g.given l.0 d r
      fresh d r same =
          subst (λ (i : Circuit). Refused g.given l.0 i r) (refused_parts c d reason r same).0
          (o, came, inl (record { taken = taken; none = g.keeps l.0 c.0 never }))

    by_heard : (h : MessageOutcome) → IsNext t h → IsOver t o h → m2.circuits ≡ table_of_opening t l c o.binding h → AllSaid (says l (asks c o) h) m.outboxes m2.outboxes → Then
    by_heard (OpeningWentOn b x d) next over is put = went_on x d next over is put
    by_heard (ServerMade b e d) next over is put =
        nothing l (CircuitOpened d) put (λ i r same. opened_refused d i r same)
        (λ k n here. opened_still t.core t.links l.0 k n (slice_get t.links l.0) refl (subst (λ (v : TheCircuits). OpenedHere v k n) is here))
    by_heard (OpeningFailed b reason) next over is put = failed reason is put
    by_heard (AnswerWentOn b x d) next over is put = absurd next
    by_heard (EndOpened e x) next over is put = absurd next
    by_heard (EndRefused e reason) next over is put = absurd next

  -- ---- an answer

  after_answer : (l : LinkId) (c : Circuit) (o : Option Hop) (k n : ℕ) → OpenedHere (given_in o t λ hop. answered t l c hop) k n → OpenedHere t k n
  after_answer l c None k n here = here
  after_answer l c (Some hop) k n here = here

  after_refusal : (l : LinkId) (c : Circuit) (o : Option Hop) (k n : ℕ) → OpenedHere (given_in o t λ hop. without_entry t (Link l c) hop.way) k n → OpenedHere t k n
  after_refusal l c None k n here = here
  after_refusal l c (Some hop) k n here = here

  opened_by : (l : LinkId) (c : Circuit) (binding : ℕ) (way : HopTarget) → ((k n : ℕ) → OpenedHere m2.circuits k n → OpenedHere t k n)
      → AllSaid (says l (CircuitOpened c) (opened_at c binding way)) m.outboxes m2.outboxes → Then
  opened_by l c binding (Link x d) old put = nothing x (CircuitOpened d) put (λ i r same. opened_refused d i r same) old
  opened_by l c binding (End e) old put = silent put old

  refused_by : (l : LinkId) (c : Circuit) (hop : Hop) → IsWaiting t l.0 c.0 hop → (r : ℕ) (frag : Frag) → Has frag (heard2 l.0) → Says frag (CircuitRefused c r) → (way : HopTarget) → hop.way ≡ way
      → ((k n : ℕ) → OpenedHere m2.circuits k n → OpenedHere t k n) → AllSaid (says l (CircuitRefused c r) (refused_at r hop.binding way)) m.outboxes m2.outboxes → Then
  refused_by l c hop waits r frag has says_it (End e) same old put = silent put old
  refused_by l c hop waits r frag has says_it (Link x d) same old put =
      by_message x (CircuitRefused d r) put (none_new old).given (λ k n taken unused. (none_new old).keeps k n unused) fresh where
        fresh : (e : Circuit) (q : ℕ) → CircuitRefused d r ≡ CircuitRefused e q → Refused (none_new old).given x.0 e q
        fresh e q one =
            let from = reasoned.given l.0 c.0 hop waits.here waits.there in
            let before : CameUnder t0 heard x.0 d.0 from.opening = subst (λ (w : HopTarget). IsFrom Requested t0 heard w from.opening) same from.origin in
            let parts = refused_parts d e r q one in
            subst (λ (i : Circuit). Refused (none_new old).given x.0 i q) parts.0
            (subst (λ (i : ℕ). Refused (none_new old).given x.0 d i) parts.1 (
              from.opening,
              came_more t0 heard heard2 more x.0 d.0 from.opening before,
              inr (record {
                link = l.0;
                frag = frag;
                has = has;
                circuit = c;
                says = says_it;
                given = later.here l.0 c.0 waits.here;
                only = only l.0 c.0 from.opening waits.here from.only;
              }),
            ))

  -- ---- whatever is heard

  hears_given : (l : LinkId) (kn : Known) (frag : Frag) (msg : MonitorMessage) (h : MessageOutcome) → Has frag (heard2 l.0) → Says frag msg → ComesTo kn t l msg h
      → m2.circuits ≡ table_after t l msg h → AllSaid (says l msg h) m.outboxes m2.outboxes → Then
  hears_given l kn frag (OpenCircuit c binding service path) h has says_it comes is put =
      let o : Opening = record { binding = binding; service = service; path = path } in
      by_heard l kn frag c o has says_it comes.0 h (opening_next kn t l.0 c o h comes.1) (opening_over kn t l.0 o c h comes.1) is put
  hears_given l kn frag (CircuitOpened c) h has says_it (hop, waits, comes) is put =
      opened_by l c hop.binding hop.way (λ k n here. after_answer l c (hop_at t l.0 c.0) k n (subst (λ (v : TheCircuits). OpenedHere v k n) is here))
      (subst (λ (y : MessageOutcome). AllSaid (says l (CircuitOpened c) y) m.outboxes m2.outboxes) comes put)
  hears_given l kn frag (CircuitRefused c r) h has says_it (hop, waits, comes) is put =
      refused_by l c hop waits r frag has says_it hop.way refl (λ k n here. after_refusal l c (hop_at t l.0 c.0) k n (subst (λ (v : TheCircuits). OpenedHere v k n) is here))
      (subst (λ (y : MessageOutcome). AllSaid (says l (CircuitRefused c r) y) m.outboxes m2.outboxes) comes put)

  -- ---- a circuit is asked for, for a binding for which none was

  asks_given : (l : LinkId) (c : Circuit) (o : Opening) → W2 l.0 o → ((k : ℕ) (y : Opening) → W k y → y.binding ≡ o.binding → ⊥) → next_own t l.0 ≡ Some c.0
      → m2.circuits ≡ opened_table t l c o.binding → IsQueuedMessage (record { link = l; message = asks c o }) m.outboxes m2.outboxes → Then
  asks_given l c o requested first next is put = one_more l c o put one fresh (λ k n taken same. job_link k n same) new where
    one : IsGivenTo W2 t0 (as_talk said heard2 m2) l.0 c.0
    one = record { opening = o; origin = from_job; since = requested; only = only_new said heard m m2 sound named l c o put next }

    job_link : (k n : ℕ) → from_job ≡ from_link k n → ⊥
    job_link k n same = cc

    fresh : (k n : ℕ) (a : OpenedHere t k n) → (given.given k n a).opening.binding ≡ o.binding → (given.given k n a).origin ≡ from_job → ⊥
    fresh k n a bindings origins =
        first k (given.given k n a).opening (subst (IsSince W t0 (as_talk said heard m) k (given.given k n a).opening) origins (given.given k n a).since) bindings

    new : (k n : ℕ) → OpenedHere m2.circuits k n → OpenedHere t k n ⊎ ((k ≡ l.0) × (n ≡ c.0))
    new k n here = elim (opened_before t.core t.links l.0 k n (slice_get t.links l.0) refl (subst (λ (v : TheCircuits). OpenedHere v k n) is here)) [
      | inl old ↦ inl old
      | inr y ↦ inr (y.link_is, newest_next t.core t.links l.0 k n c.0 (next_is t.core t.links l.0 c.0 next) y)
    ]

-- ---- over one event

-- a job here requests so, and the client's end of the opening's binding is at the core
pub record IsMadeAt (W : ℕ → Opening → Type 0) (k : TheCore) (l : ℕ) (o : Opening) : Type 0 where
  pub requested : W l o
  pub place : ℕ
  pub place_is : place_of k (client_of o.binding) ≡ Some place

-- where that is asked for, it wasn't there, and is there afterwards
pub record Makes (W : ℕ → Opening → Type 0) (k k2 : TheCore) (l : LinkId) (o : Opening) : Type 0 where
  pub requested : W l.0 o
  pub absent : place_of k (client_of o.binding) ≡ None
  pub place : ℕ
  pub place_is : place_of k2 (client_of o.binding) ≡ Some place

abbrev pub NoKnown : Known → MonitorMessage → Type 0
NoKnown kn msg = Unit {0}

abbrev pub NoRequest : Opening → Type 0
NoRequest o = Unit {0}

-- at a core, with what is known of its refusals
abbrev pub SettledAt : List TheRegistration → (Opening → Type 0) → (Opening → Type 0) → (ℕ → Opening → Type 0) → TheCircuits → TheCore → (ℕ → List Frag) → (ℕ → List Frag) → TheMonitor → Type 0
SettledAt names NoPlace Requested W t0 k said heard m = AreReasonedFrom names NoPlace Requested t0 said heard m × AreSettled (IsMadeAt W k) t0 (as_talk said heard m)

wider_settled : (W : ℕ → Opening → Type 0) (t0 : TheCircuits) (said said2 heard heard2 : ℕ → List Frag) (m : TheMonitor) → ((l : ℕ) (f : Frag) → Has f (said2 l) → Has f (said l))
    → ((l : ℕ) (f : Frag) → Has f (heard l) → Has f (heard2 l)) → AreSettled W t0 (as_talk said heard m) → AreSettled W t0 (as_talk said2 heard2 m)
wider_settled W t0 said said2 heard heard2 m fewer more settled =
    let only = λ (l n : ℕ) (o : Opening) (here : OpenedHere m.circuits l n) (only : AsksOnly said m l n o). ((remembers_kept NoKnown NoRequest l n o).wider said said2 heard heard2 m fewer more (here, only)).1 in
    let g = none_given W W t0 said said2 heard heard2 m m settled.given (since_on W W t0 said said2 heard heard2 m m (λ l o w. w) (λ l n a. a) more) only (λ l n a. a) in
    settled_then W W t0 said said2 heard heard2 m m settled (λ l n a. a) (λ l n a. a) more only g.given (λ l n taken unused. g.keeps l n unused)
    (λ l f c reason has says_it. inl (f, elim has [ inl a ↦ inl (fewer l f a) | inr b ↦ inr b ], says_it))

module _ (names : List TheRegistration) (jobs : List CoreJob) (NoPlace Requested : Opening → Type 0) (request : (o : Opening) → Requested o → IsRequested jobs o) (W : ℕ → Opening → Type 0)
    (own : (l : ℕ) (o : Opening) → W l o → Requested o) (t0 : TheCircuits) (k k2 : TheCore) (stays : (name : ℕ) (e : ℕ) → place_of k (client_of name) ≡ Some e → place_of k2 (client_of name) ≡ Some e) where
  abbrev kept : IsKeptBy (KnowsPlaces names NoPlace) Requested (AreReasonedFrom names NoPlace Requested t0)
  kept = reasons_kept names jobs NoPlace Requested request t0

  made : (l : ℕ) (o : Opening) → IsMadeAt W k l o → IsMadeAt W k2 l o
  made l o x = record { requested = x.requested; place = x.place; place_is = stays o.binding x.place x.place_is }

  twice : (a b : ℕ) → a ≡ b → (e : ℕ) → place_of k (client_of a) ≡ Some e → place_of k (client_of b) ≡ None → ⊥
  twice a b same e at none = (let clash : Some e ≡ None = sym at ∙ ap (λ (i : ℕ). place_of k (client_of i)) same ∙ none in cc)

  rests_settled : (said heard said2 : ℕ → List Frag) (m m2 : TheMonitor) → Sound m2.circuits → Later m.circuits m2.circuits → m2.circuits ≡ m.circuits
      → ((l : ℕ) (f : Frag) → Has f (said2 l) ⊎ Has f (waiting_for m2.outboxes l) → (g : Frag) × (bare g ≡ bare f) × (Has g (said l) ⊎ Has g (waiting_for m.outboxes l)))
      → AreSettled (IsMadeAt W k) t0 (as_talk said heard m) → AreSettled (IsMadeAt W k2) t0 (as_talk said2 heard m2)
  rests_settled said heard said2 m m2 sound2 later same from settled =
      let only = λ (l n : ℕ) (o : Opening) (here : OpenedHere m.circuits l n) (only : AsksOnly said m l n o).
      ((remembers_kept NoKnown NoRequest l n o).rests said heard said2 m m2 sound2 later same from (here, only)).1 in
      let g = none_given (IsMadeAt W k) (IsMadeAt W k2) t0 said said2 heard heard m m2 settled.given
      (since_on (IsMadeAt W k) (IsMadeAt W k2) t0 said said2 heard heard m m2 made later.there (λ l f h. h)) only (λ l i a. subst (λ (v : TheCircuits). OpenedHere v l i) same a) in
      settled_then (IsMadeAt W k) (IsMadeAt W k2) t0 said said2 heard heard m m2 settled later.here later.there (λ l f h. h) only g.given (λ l n taken unused. g.keeps l n unused)
      (λ l f c reason has says_it. (let (x, alike, before) = from l f has in inl (x, before, says_the_same f x (CircuitRefused c reason) alike says_it)))

  pub settled_on : IsPassedOn (KnowsPlaces names NoPlace) (Makes W k k2) (SettledAt names NoPlace Requested W t0 k) (SettledAt names NoPlace Requested W t0 k2)
  settled_on = record {
    before = λ said said2 heard heard2 m fewer more n.
        (kept.wider said said2 heard heard2 m fewer more n.0, wider_settled (IsMadeAt W k) t0 said said2 heard heard2 m fewer more n.1);
    after = λ said said2 heard heard2 m fewer more n.
        (kept.wider said said2 heard heard2 m fewer more n.0, wider_settled (IsMadeAt W k2) t0 said said2 heard heard2 m fewer more n.1);
    rests = λ said heard said2 m m2 sound2 later same from n.
        (kept.rests said heard said2 m m2 sound2 later same from n.0, rests_settled said heard said2 m m2 sound2 later same from n.1);
    hears = λ said heard heard2 m m2 sound sound2 later n more l kn frag msg h known has says_it comes is put. (
      kept.hears said heard heard2 m m2 sound sound2 later n.0 more l kn frag msg h known has says_it comes is put,
      hears_given names NoPlace Requested (IsMadeAt W k) (IsMadeAt W k2) t0 said heard heard2 m m2 sound later more n.0.0 n.0.1 n.0.2 n.1
          (since_on (IsMadeAt W k) (IsMadeAt W k2) t0 said said heard heard2 m m2 made later.there more)
          (λ x i o here only. ((remembers_kept NoKnown NoRequest x i o).hears said heard heard2 m m2 sound sound2 later (here, only) more l kn frag msg h tt has says_it comes is put).1)
          l kn frag msg h has says_it comes is put,
    );
    asks = λ said heard m m2 sound sound2 later n l c o makes next is put. (
      kept.asks said heard m m2 sound sound2 later n.0 l c o (own l.0 o makes.requested) next is put,
      asks_given names NoPlace Requested (IsMadeAt W k) (IsMadeAt W k2) t0 said heard heard m m2 sound later (λ x f h. h) n.0.0 n.0.1 n.0.2 n.1
          (since_on (IsMadeAt W k) (IsMadeAt W k2) t0 said said heard heard m m2 made later.there (λ x f h. h))
          (λ x i y here only. ((remembers_kept NoKnown NoRequest x i y).asks said heard m m2 sound sound2 later (here, only) l c o tt next is put).1)
          l c o (record { requested = makes.requested; place = makes.place; place_is = makes.place_is })
          (λ x y z same. twice y.binding o.binding same z.place z.place_is makes.absent) next is put,
    );
  }
