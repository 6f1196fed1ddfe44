-- A message that is heard, or a circuit that is asked for, leaves each refusal with its reason.
use Rattle.std.proofs.Common.{◌≡◌, ◌⊎◌, inl, inr, refl, sym, ap, ◌∙◌, subst, ℕ, true, false, List, slice_get, Option, Some, None}
use Rattle.fl_base.specs.declared.fragment.Frag.{Frag}
use Rattle.fl_base.specs.declared.identity.LinkId.{LinkId}
use Rattle.fl_base.specs.declared.identity.Circuit.{Circuit}
use Rattle.fl_base.specs.Given.{given}
use Rattle.fl_hop.specs.declared.entry.Hop.{Hop}
use Rattle.fl_hop.specs.declared.entry.HopTarget.{HopTarget}
use Rattle.fl_hop.specs.declared.entry.HopTarget.TheVariants.{Link, End}
use Rattle.fl_hop.specs.Joined.{Sound}
use Rattle.fl_hop.specs.Later.{Later}
use Rattle.fl_hop.specs.Numbers.{Given, OpenedHere, OpenedThere, next_own, next_due, after_opening, after_taking, count_taking}
use Rattle.fl_hop.specs.Openings.{IsWaiting, opened as opened_table, passed_on, answered}
use Rattle.fl_hop.specs.Table.{TheCircuits, hop_at, without_entry}
use Rattle.fl_hop.proofs.Counting.{next_is, due_is, never_next, never_due}
use Rattle.fl_nameserv.specs.Registrations.{TheRegistration, by_iref}
use Rattle.fl_monitor.specs.declared.opening.Opening.{Opening}
use Rattle.fl_monitor.specs.declared.heard.MessageOutcome.{MessageOutcome}
use Rattle.fl_monitor.specs.declared.heard.MessageOutcome.TheVariants.{OpeningWentOn, ServerMade, OpeningFailed, AnswerWentOn, EndOpened, EndRefused}
use Rattle.fl_monitor.specs.declared.message.MonitorMessage.{MonitorMessage}
use Rattle.fl_monitor.specs.declared.message.MonitorMessage.TheVariants.{OpenCircuit, CircuitOpened, CircuitRefused}
use Rattle.fl_monitor.specs.Fates.{Known, is_in_place}
use Rattle.fl_monitor.specs.Hearing.{opening_of, opened_at, refused_at, ComesTo, says, after_opening as table_of_opening, table_after}
use Rattle.fl_monitor.specs.Monitors.{TheMonitor, AllSaid, IsQueuedMessage, asks}
use Rattle.fl_monitor.specs.Saying.{Says}
use Rattle.fl_core.specs.View.{client_of, server_of}
use Rattle.fl_core.specs.declared.core_job.CoreJob.{CoreJob}
use Rattle.fl_cores_laws.specs.Named.{Has, AreNamed}
use Rattle.fl_cores_laws.specs.Asked.{IsRequested}
use Rattle.fl_cores_laws.specs.Reasons.{IsUsedUp, Refuses, CameUnder, IsFrom, AreReasoned, as_talk}
use Rattle.fl_cores_laws.proofs.Asked.{along_in_place}
use Rattle.fl_cores_laws.proofs.AskedLaid.{Laid, laid_same, laid_then, laid_along, table_laid, opened_laid}
use Rattle.fl_cores_laws.proofs.Bound.{given_there, entry_binding, entry_way}
use Rattle.fl_cores_laws.proofs.Counted.{IsNewest, taken_still, taken_before, newest_due, next_still}
use Rattle.fl_cores_laws.proofs.Logged.{IsKeptBy}
use Rattle.fl_cores_laws.proofs.LoggedNames.{names_kept}
use Rattle.fl_cores_laws.proofs.Named.{IsNext, opening_next, due_in_place}
use Rattle.fl_cores_laws.proofs.Neighbours.{leads_of}
use Rattle.fl_cores_laws.proofs.Reasoned.{came_more, wider, rests, by_silence, by_opened, by_refusal, still_only, by_asking}
use Rattle.fl_cores_laws.proofs.ReasonsOwn.{IsGood, own_in_place, opening_good, used_later, refuses_later, refuses_laid}
use Rattle.fl_cores_laws.proofs.Refused.{opened_still, opened_before, newest_next}

-- what a core knows when it hears a message: the services, and that there was no place for an opening where it has none
abbrev pub KnowsPlaces : List TheRegistration → (Opening → Type 0) → Known → MonitorMessage → Type 0
KnowsPlaces names NoPlace kn msg = (kn.names ≡ names) × ((o : Opening) → opening_of msg ≡ Some o → kn.here.has_place ≡ false → NoPlace o)

module _ (names : List TheRegistration) (NoPlace Requests : Opening → Type 0) (t0 : TheCircuits) (said heard heard2 : ℕ → List Frag) (m m2 : TheMonitor) (sound : Sound m.circuits) (sound2 : Sound m2.circuits)
    (later : Later m.circuits m2.circuits) (grows : (l : ℕ) → IsUsedUp m.circuits l → IsUsedUp m2.circuits l) (named : AreNamed said heard m)
    (reasoned : AreReasoned names NoPlace Requests t0 (as_talk said heard m)) (more : (l : ℕ) (f : Frag) → Has f (heard l) → Has f (heard2 l)) where
  abbrev t : TheCircuits
  t = m.circuits

  abbrev Reasoned : Type 0
  Reasoned = AreReasoned names NoPlace Requests t0 (as_talk said heard2 m2)

  abbrev Taken : Type 0
  Taken = (k n : ℕ) → OpenedThere m2.circuits k n → OpenedThere t k n ⊎ ((hop : Hop) → hop_at m2.circuits k n ≡ Some hop → (o : Opening) × CameUnder t0 heard2 k n o × (o.binding ≡ hop.binding))

  -- an entry at a new number doesn't lead to itself, and didn't stand before
  no_loop : (x : LinkId) (d : Circuit) (hop : Hop) → hop_at m2.circuits x.0 d.0 ≡ Some hop → hop.way ≡ Link x d → ⊥
  no_loop x d hop at way = sound2.over x.0 d.0 hop.binding x d (leads_of m2.circuits x.0 d.0 hop hop.binding (Link x d) at refl way) refl

  none_stood : (x : LinkId) (d : Circuit) (hop : Hop) → next_own t x.0 ≡ Some d.0 → hop_at t x.0 d.0 ≡ Some hop → ⊥
  none_stood x d hop next stood = never_next t.core t.links sound.apart x.0 d.0 (next_is t.core t.links x.0 d.0 next) (given_there t x.0 d.0 hop sound stood)

  -- ---- an opening that is heard

  module _ (l : LinkId) (laid : Laid t0 t) (kn : Known) (offers : kn.names ≡ names) (frag : Frag) (c : Circuit) (o : Opening)
      (has : Has frag (heard2 l.0)) (says_it : Says frag (asks c o)) (place : is_in_place kn t l.0 c.0 o ≡ true) where
    came : CameUnder t0 heard2 l.0 c.0 o
    came = record { frag = frag; has = has; circuit = c; number = refl; says = says_it; along = sym (laid_along t0 t laid l.0 o.path) ∙ along_in_place kn t l.0 c.0 o place }

    due : next_due t l.0 ≡ Some c.0
    due = due_in_place kn t l c o place

    -- an entry at the number that is taken now is of this opening
    taken_then : (binding_of : (k n : ℕ) (hop : Hop) → hop_at m2.circuits k n ≡ Some hop → (hop.binding ≡ o.binding) ⊎ (hop_at t k n ≡ Some hop))
        → ((k n : ℕ) → OpenedThere m2.circuits k n → OpenedThere t k n ⊎ IsNewest t.core t.links l.0 k n) → Taken
    taken_then binding_of taken k n there = elim (taken k n there) [
      | inl old ↦ inl old
      | inr new ↦ inr (λ hop at.
          (let number : n ≡ c.0 = newest_due t.core t.links l.0 k n c.0 (due_is t.core t.links l.0 c.0 due) new in
          elim (binding_of k n hop at) [
            | inl own ↦ (o, subst (λ (i : ℕ). CameUnder t0 heard2 i n o) (sym new.link_is) (subst (λ (i : ℕ). CameUnder t0 heard2 l.0 i o) (sym number) came), sym own)
            | inr stood ↦ absurd (never_due t.core t.links sound.apart l.0 c.0 (due_is t.core t.links l.0 c.0 due)
                (subst (λ (i : ℕ). Given t i c.0) new.link_is (subst (λ (i : ℕ). Given t k i) number (given_there t k n hop sound stood))))
          ]))
    ]

    went_on : (x : LinkId) (d : Circuit) → next_own t x.0 ≡ Some d.0 → m2.circuits ≡ passed_on t l c x d o.binding → IsQueuedMessage (record { link = x; message = asks d o }) m.outboxes m2.outboxes → Reasoned
    went_on x d next is put = by_asking names NoPlace Requests t0 said heard heard2 m m2 sound sound2 later grows named reasoned more x d o put next (inr (l.0, c.0, came)) (taken_then bindings taken) new entry where
      bindings : (k n : ℕ) (hop : Hop) → hop_at m2.circuits k n ≡ Some hop → (hop.binding ≡ o.binding) ⊎ (hop_at t k n ≡ Some hop)
      bindings k n hop at =
          entry_binding (after_opening (after_taking t l.0) x.0) o.binding false (Link l c) (Link x d) k n hop (ap (λ (v : TheCircuits). hop_at v k n) (sym is) ∙ at)

      taken : (k n : ℕ) → OpenedThere m2.circuits k n → OpenedThere t k n ⊎ IsNewest t.core t.links l.0 k n
      taken k n there =
          taken_before t.core t.links l.0 k n (slice_get t.links l.0) refl
          (taken_still t.core (count_taking t.links l.0) x.0 k n (slice_get (count_taking t.links l.0) x.0) refl (subst (λ (v : TheCircuits). OpenedThere v k n) is there))

      new : (k n : ℕ) → OpenedHere m2.circuits k n → OpenedHere t k n ⊎ ((k ≡ x.0) × (n ≡ d.0))
      new k n here = elim (opened_before t.core (count_taking t.links l.0) x.0 k n (slice_get (count_taking t.links l.0) x.0) refl (subst (λ (v : TheCircuits). OpenedHere v k n) is here)) [
        | inl old ↦ inl (opened_still t.core t.links l.0 k n (slice_get t.links l.0) refl old)
        | inr y ↦ inr (y.link_is, newest_next t.core (count_taking t.links l.0) x.0 k n d.0 (next_still t.core t.links l.0 x.0 d.0 (next_is t.core t.links x.0 d.0 next)) y)
      ]

      entry : (hop : Hop) → hop_at m2.circuits x.0 d.0 ≡ Some hop → (o.binding ≡ hop.binding) × IsFrom Requests t0 heard2 hop.way o
      entry hop at = (
        elim (bindings x.0 d.0 hop at) [ inl own ↦ sym own | inr stood ↦ absurd (none_stood x d hop next stood) ],
        elim (entry_way (after_opening (after_taking t l.0) x.0) o.binding false (Link l c) (Link x d) x.0 d.0 hop (ap (λ (v : TheCircuits). hop_at v x.0 d.0) (sym is) ∙ at)) [
          | inl near ↦ subst (λ (w : HopTarget). IsFrom Requests t0 heard2 w o) (sym near) came
          | inr others ↦ elim others [
            | inl own ↦ absurd (no_loop x d hop at own)
            | inr stood ↦ absurd (none_stood x d hop next stood)
          ]
        ],
      )

    taken_one : (k n : ℕ) → OpenedThere (after_taking t l.0) k n → OpenedThere t k n ⊎ IsNewest t.core t.links l.0 k n
    taken_one k n there = taken_before t.core t.links l.0 k n (slice_get t.links l.0) refl there

    opened_one : (k n : ℕ) → OpenedHere (after_taking t l.0) k n → OpenedHere t k n
    opened_one k n here = opened_still t.core t.links l.0 k n (slice_get t.links l.0) refl here

    by_heard : (h : MessageOutcome) → IsNext t h → IsGood (Refuses names NoPlace t t o) (by_iref o.service.0 names ≡ None) h → m2.circuits ≡ table_of_opening t l c o.binding h
        → AllSaid (says l (asks c o) h) m.outboxes m2.outboxes → Reasoned
    by_heard (OpeningWentOn b x d) next good is put = went_on x d next is put
    by_heard (ServerMade b e d) next good is put =
        by_opened names NoPlace Requests t0 said heard heard2 m m2 sound sound2 later grows named reasoned more l d put
        (taken_then (λ k n hop at. entry_binding (after_taking t l.0) o.binding false (Link l c) (End (server_of o.binding)) k n hop (ap (λ (v : TheCircuits). hop_at v k n) (sym is) ∙ at))
        (λ k n there. taken_one k n (subst (λ (v : TheCircuits). OpenedThere v k n) is there)))
        (λ k n here. opened_one k n (subst (λ (v : TheCircuits). OpenedHere v k n) is here))
    by_heard (OpeningFailed b reason) next good is put =
        by_refusal names NoPlace Requests t0 said heard heard2 m m2 sound sound2 later grows named reasoned more l c reason put
        (taken_then (λ k n hop at. inr (ap (λ (v : TheCircuits). hop_at v k n) (sym is) ∙ at)) (λ k n there. taken_one k n (subst (λ (v : TheCircuits). OpenedThere v k n) is there)))
        (λ k n here. opened_one k n (subst (λ (v : TheCircuits). OpenedHere v k n) is here))
        o came (elim good [
          | inl own ↦ inl (refuses_later names NoPlace t0 t m2.circuits o reason grows (refuses_laid names NoPlace t0 t o reason laid own))
          | inr lacks ↦ inr (inl lacks)
        ])
    by_heard (AnswerWentOn b x d) next good is put = absurd next
    by_heard (EndOpened e x) next good is put = absurd next
    by_heard (EndRefused e reason) next good is put = absurd next

  -- ---- an answer

  module _ (l : LinkId) (c : Circuit) (hop : Hop) (waits : IsWaiting t l.0 c.0 hop) where
    open_by : (way : HopTarget) → hop.way ≡ way → m2.circuits ≡ answered t l c hop → (h : MessageOutcome) → h ≡ opened_at c hop.binding way → AllSaid (says l (CircuitOpened c) h) m.outboxes m2.outboxes → Reasoned
    open_by (Link x d) same is h comes put =
        by_opened names NoPlace Requests t0 said heard heard2 m m2 sound sound2 later grows named reasoned more x d (subst (λ (y : MessageOutcome). AllSaid (says l (CircuitOpened c) y) m.outboxes m2.outboxes) comes put)
        (λ k n there. inl (subst (λ (v : TheCircuits). OpenedThere v k n) is there)) (λ k n here. subst (λ (v : TheCircuits). OpenedHere v k n) is here)
    open_by (End e) same is h comes put =
        by_silence names NoPlace Requests t0 said heard heard2 m m2 sound sound2 later grows named reasoned more (subst (λ (y : MessageOutcome). AllSaid (says l (CircuitOpened c) y) m.outboxes m2.outboxes) comes put)
        (λ k n there. inl (subst (λ (v : TheCircuits). OpenedThere v k n) is there)) (λ k n here. subst (λ (v : TheCircuits). OpenedHere v k n) is here)

    refused_by : (r : ℕ) (frag : Frag) → Has frag (heard2 l.0) → Says frag (CircuitRefused c r) → (way : HopTarget) → hop.way ≡ way → m2.circuits ≡ without_entry t (Link l c) hop.way
        → (h : MessageOutcome) → h ≡ refused_at r hop.binding way → AllSaid (says l (CircuitRefused c r) h) m.outboxes m2.outboxes → Reasoned
    refused_by r frag has says_it (Link x d) same is h comes put =
        let said_now = subst (λ (y : MessageOutcome). AllSaid (says l (CircuitRefused c r) y) m.outboxes m2.outboxes) comes put in
        let from = reasoned.given l.0 c.0 hop waits.here waits.there in
        let o = from.opening in
        let before : CameUnder t0 heard x.0 d.0 o = subst (λ (w : HopTarget). IsFrom Requests t0 heard w from.opening) same from.origin in
        by_refusal names NoPlace Requests t0 said heard heard2 m m2 sound sound2 later grows named reasoned more x d r said_now
        (λ k n there. inl (subst (λ (v : TheCircuits). OpenedThere v k n) is there)) (λ k n here. subst (λ (v : TheCircuits). OpenedHere v k n) is here)
        o (came_more t0 heard heard2 more x.0 d.0 o before) (inr (inr (record {
          link = l.0;
          frag = frag;
          has = has;
          circuit = c;
          says = says_it;
          given = later.here l.0 c.0 waits.here;
          only = still_only names NoPlace Requests t0 said heard heard2 m m2 sound sound2 later grows named reasoned more x d r said_now l.0 c.0 o waits.here from.only;
        })))
    refused_by r frag has says_it (End e) same is h comes put =
        by_silence names NoPlace Requests t0 said heard heard2 m m2 sound sound2 later grows named reasoned more (subst (λ (y : MessageOutcome). AllSaid (says l (CircuitRefused c r) y) m.outboxes m2.outboxes) comes put)
        (λ k n there. inl (subst (λ (v : TheCircuits). OpenedThere v k n) is there)) (λ k n here. subst (λ (v : TheCircuits). OpenedHere v k n) is here)

  -- ---- whatever is heard

  pub hears_reasoned : (l : LinkId) → Laid t0 t → (kn : Known) (frag : Frag) (msg : MonitorMessage) (h : MessageOutcome) → KnowsPlaces names NoPlace kn msg
      → Has frag (heard2 l.0) → Says frag msg → ComesTo kn t l msg h → m2.circuits ≡ table_after t l msg h → AllSaid (says l msg h) m.outboxes m2.outboxes → Reasoned
  hears_reasoned l laid kn frag (OpenCircuit c binding service path) h known has says_it comes is put =
      let o : Opening = record { binding = binding; service = service; path = path } in
      by_heard l laid kn known.0 frag c o has says_it comes.0 h (opening_next kn t l.0 c o h comes.1)
      (opening_good names NoPlace kn known.0 t l.0 o (λ full. known.1 o refl full) (along_in_place kn t l.0 c.0 o comes.0) (own_in_place kn t l.0 c.0 o comes.0) c
      (by_iref service.0 names ≡ None) (λ lacks. ap (by_iref service.0) (sym known.0) ∙ lacks) h comes.1)
      is put
  hears_reasoned l laid kn frag (CircuitOpened c) h known has says_it (hop, waits, comes) is put =
      open_by l c hop waits hop.way refl (is ∙ ap (λ (o : Option Hop). given o t λ x. answered t l c x) waits.there) h comes put
  hears_reasoned l laid kn frag (CircuitRefused c r) h known has says_it (hop, waits, comes) is put =
      refused_by l c hop waits r frag has says_it hop.way refl (is ∙ ap (λ (o : Option Hop). given o t λ x. without_entry t (Link l c) x.way) waits.there) h comes put

  -- ---- a circuit is asked for

  pub asks_reasoned : (l : LinkId) (c : Circuit) (o : Opening) → Requests o → next_own t l.0 ≡ Some c.0 → m2.circuits ≡ opened_table t l c o.binding
      → IsQueuedMessage (record { link = l; message = asks c o }) m.outboxes m2.outboxes → Reasoned
  asks_reasoned l c o requested next is put = by_asking names NoPlace Requests t0 said heard heard2 m m2 sound sound2 later grows named reasoned more l c o put next (inl requested) taken new entry where
    taken : Taken
    taken k n there = inl (taken_still t.core t.links l.0 k n (slice_get t.links l.0) refl (subst (λ (v : TheCircuits). OpenedThere v k n) is there))

    new : (k n : ℕ) → OpenedHere m2.circuits k n → OpenedHere t k n ⊎ ((k ≡ l.0) × (n ≡ c.0))
    new k n here = elim (opened_before t.core t.links l.0 k n (slice_get t.links l.0) refl (subst (λ (v : TheCircuits). OpenedHere v k n) is here)) [
      | inl old ↦ inl old
      | inr y ↦ inr (y.link_is, newest_next t.core t.links l.0 k n c.0 (next_is t.core t.links l.0 c.0 next) y)
    ]

    made : hop_at m2.circuits l.0 c.0 ≡ hop_at (opened_table t l c o.binding) l.0 c.0
    made = ap (λ (v : TheCircuits). hop_at v l.0 c.0) is

    entry : (hop : Hop) → hop_at m2.circuits l.0 c.0 ≡ Some hop → (o.binding ≡ hop.binding) × IsFrom Requests t0 heard2 hop.way o
    entry hop at = (
      elim (entry_binding (after_opening t l.0) o.binding false (End (client_of o.binding)) (Link l c) l.0 c.0 hop (sym made ∙ at)) [
        | inl own ↦ sym own
        | inr stood ↦ absurd (none_stood l c hop next stood)
      ],
      elim (entry_way (after_opening t l.0) o.binding false (End (client_of o.binding)) (Link l c) l.0 c.0 hop (sym made ∙ at)) [
        | inl near ↦ subst (λ (w : HopTarget). IsFrom Requests t0 heard2 w o) (sym near) requested
        | inr others ↦ elim others [
          | inl own ↦ absurd (no_loop l c hop at own)
          | inr stood ↦ absurd (none_stood l c hop next stood)
        ]
      ],
    )

-- ---- a log

-- with the core and the neighbours of this table, and numbers named by their bindings
abbrev pub AreReasonedFrom : List TheRegistration → (Opening → Type 0) → (Opening → Type 0) → TheCircuits → (ℕ → List Frag) → (ℕ → List Frag) → TheMonitor → Type 0
AreReasonedFrom names NoPlace Requests t0 said heard m = Laid t0 m.circuits × AreNamed said heard m × AreReasoned names NoPlace Requests t0 (as_talk said heard m)

pub reasons_kept : (names : List TheRegistration) (jobs : List CoreJob) (NoPlace Requests : Opening → Type 0) → ((o : Opening) → Requests o → IsRequested jobs o) → (t0 : TheCircuits)
    → IsKeptBy (KnowsPlaces names NoPlace) Requests (AreReasonedFrom names NoPlace Requests t0)
reasons_kept names jobs NoPlace Requests request t0 = record {
  wider = λ said said2 heard heard2 m fewer more n.
      (n.0, (names_kept jobs).wider said said2 heard heard2 m fewer more n.1, wider names NoPlace Requests t0 said said2 heard heard2 m fewer more n.2);
  rests = λ said heard said2 m m2 sound2 later same from n. (
    laid_then t0 m.circuits m2.circuits n.0 (laid_same m.circuits m2.circuits same),
    (names_kept jobs).rests said heard said2 m m2 sound2 later same from n.1,
    rests names NoPlace Requests t0 said said2 heard m m2 same from n.2,
  );
  hears = λ said heard heard2 m m2 sound sound2 later n more l kn frag msg h known has says_it comes is put. (
    laid_then t0 m.circuits m2.circuits n.0 (subst (Laid m.circuits) (sym is) (table_laid m.circuits l msg h)),
    (names_kept jobs).hears said heard heard2 m m2 sound sound2 later n.1 more l kn frag msg h has says_it comes is put,
    hears_reasoned names NoPlace Requests t0 said heard heard2 m m2 sound sound2 later
        (λ k used. used_later m.circuits m2.circuits (subst (Laid m.circuits) (sym is) (table_laid m.circuits l msg h)) later k used)
        n.1 n.2 more l n.0 kn frag msg h known has says_it comes is put,
  );
  asks = λ said heard m m2 sound sound2 later n l c o requested next is put. (
    laid_then t0 m.circuits m2.circuits n.0 (subst (Laid m.circuits) (sym is) (opened_laid m.circuits l c o.binding)),
    (names_kept jobs).asks said heard m m2 sound sound2 later n.1 l c o (request o requested) next is put,
    asks_reasoned names NoPlace Requests t0 said heard heard m m2 sound sound2 later
        (λ k used. used_later m.circuits m2.circuits (subst (Laid m.circuits) (sym is) (opened_laid m.circuits l c o.binding)) later k used)
        n.1 n.2 (λ k f h. h) l c o requested next is put,
  );
}
