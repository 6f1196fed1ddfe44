-- What a monitor says and hears keeps numbers named by their bindings.
use Rattle.std.proofs.Common.{◌≡◌, ◌⊎◌, inl, inr, refl, sym, ap, ◌∙◌, subst, ℕ, ◌==◌, ◌&&◌, nat_lt, not, Bool, true, false, List, [], ◌∷◌, ◌++◌, slice_get, slice_set}
use Rattle.std.proofs.Common.{Option, Some, None}
use Rattle.fl_base.specs.declared.fragment.Frag.{Frag}
use Rattle.fl_base.specs.declared.identity.IRef.{IRef}
use Rattle.fl_base.specs.declared.identity.CoreId.{CoreId}
use Rattle.fl_base.specs.declared.identity.Side.TheVariants.{Server}
use Rattle.fl_base.specs.declared.identity.LinkId.{LinkId}
use Rattle.fl_base.specs.declared.identity.Circuit.{Circuit}
use Rattle.fl_base.specs.Control.{bare}
use Rattle.fl_base.specs.Given.{given}
use Rattle.fl_hop.specs.declared.entry.Hop.{Hop}
use Rattle.fl_hop.specs.declared.entry.HopTarget.TheVariants.{Link, End}
use Rattle.fl_hop.specs.Joined.{Sound}
use Rattle.fl_hop.specs.Later.{Later}
use Rattle.fl_hop.specs.Numbers.{Given, IsTaken, OpenedThere, next_own, next_due, after_opening, after_taking, count_opening, count_taking}
use Rattle.fl_hop.specs.Openings.{is_next, passed_on, answered}
use Rattle.fl_hop.specs.Table.{TheCircuits, hop_at, link_of, stands, without_entry}
use Rattle.fl_hop.proofs.Counting.{next_is, due_is, never_next, never_due}
use Rattle.fl_hop.proofs.Laters.{next_test}
use Rattle.fl_hop.proofs.Lists.{set_cases}
use Rattle.fl_nameserv.specs.Registrations.{TheRegistration, by_iref}
use Rattle.fl_monitor.specs.declared.opening.Opening.{Opening}
use Rattle.fl_monitor.specs.declared.heard.MessageOutcome.{MessageOutcome}
use Rattle.fl_monitor.specs.declared.heard.MessageOutcome.TheVariants.{OpeningWentOn, ServerMade, OpeningFailed, AnswerWentOn, EndOpened, EndRefused}
use Rattle.fl_monitor.specs.declared.message.MonitorMessage.{MonitorMessage}
use Rattle.fl_monitor.specs.declared.message.MonitorMessage.TheVariants.{OpenCircuit, CircuitOpened, CircuitRefused}
use Rattle.fl_monitor.specs.Routing.{next_on}
use Rattle.fl_monitor.specs.Fates.{Known, arrival, passage, fate, is_in_place, comes_along, is_for_another}
use Rattle.fl_monitor.specs.Hearing.{heard_by, ComesTo, says, after_opening as table_of_opening, table_after}
use Rattle.fl_monitor.specs.Monitors.{TheMonitor, AllSaid, IsQueuedMessage, waiting_for}
use Rattle.fl_monitor.specs.Outboxes.{IsFragOf}
use Rattle.fl_monitor.specs.Saying.{Says}
use Rattle.fl_monitor.proofs.Single.{says_no_other, says_the_same, says_what_is_written}
use Rattle.fl_cores_laws.specs.Named.{Has, AsksFor, IsGivenFor, IsAskedFor, AreNamed}
use Rattle.fl_cores_laws.proofs.Counted.{IsNewest, taken_still, taken_before, newest_due, opened_new, next_still}
use Rattle.fl_cores_laws.proofs.Bound.{entry_binding, given_there, old_entry, there_before}

-- ---- fragments in lists

pub has_split : (f : Frag) (xs ys : List Frag) → Has f (xs ++ ys) → Has f xs ⊎ Has f ys
has_split f [] ys h = inr h
has_split f (x ∷ xs) ys (inl same) = inl (inl same)
has_split f (x ∷ xs) ys (inr rest) = elim (has_split f xs ys rest) [
  | inl a ↦ inl (inr a)
  | inr b ↦ inr b
]

pub has_first : (f : Frag) (xs ys : List Frag) → Has f xs → Has f (xs ++ ys)
has_first f [] ys h = absurd h
has_first f (x ∷ xs) ys (inl same) = inl same
has_first f (x ∷ xs) ys (inr rest) = inr (has_first f xs ys rest)

pub has_last : (f : Frag) (xs ys : List Frag) → Has f ys → Has f (xs ++ ys)
has_last f [] ys h = h
has_last f (x ∷ xs) ys h = inr (has_last f xs ys h)

-- ---- outboxes

waits_by : (f : Frag) (boxes : List (List Frag)) (l : ℕ) (xs : List Frag) (k : ℕ) (o : Option (List Frag)) → slice_get (slice_set boxes l xs) k ≡ o → Has f (given o [] (λ box. box))
    → Has f (waiting_for boxes k) ⊎ ((k ≡ l) × Has f xs)
waits_by f boxes l xs k None at h = absurd h
waits_by f boxes l xs k (Some box) at h = elim (set_cases boxes l xs k box at) [
  | inl p ↦ inr (p.0, subst (Has f) p.1 h)
  | inr p ↦ inl (subst (λ (o : Option (List Frag)). Has f (given o [] (λ b. b))) (sym p.1) h)
]

-- where one outbox has changed
pub waits : (f : Frag) (boxes : List (List Frag)) (l : ℕ) (xs : List Frag) (k : ℕ) → Has f (waiting_for (slice_set boxes l xs) k) → Has f (waiting_for boxes k) ⊎ ((k ≡ l) × Has f xs)
waits f boxes l xs k h = waits_by f boxes l xs k (slice_get (slice_set boxes l xs) k) refl h

-- ---- what asks

asks_same : (f g : Frag) (c : Circuit) (binding : ℕ) → bare g ≡ bare f → AsksFor f c binding → AsksFor g c binding
asks_same f g c binding same a = record { service = a.service; path = a.path; says = says_the_same f g (OpenCircuit c binding a.service a.path) same a.says }

pub opening_parts : (c d : Circuit) (a b : ℕ) (s r : IRef) (p q : List CoreId) → OpenCircuit c a s p ≡ OpenCircuit d b r q → (c ≡ d) × (a ≡ b)
opening_parts c d a b s r p q same = (let one : c ≡ d = cc in one, let two : a ≡ b = cc in two)

-- a fragment that is written for a message asks for what that does
asks_written : (f : Frag) (m : MonitorMessage) (c : Circuit) (binding : ℕ) → IsFragOf f m → AsksFor f c binding → (service : IRef) × (path : List CoreId) × (m ≡ OpenCircuit c binding service path)
asks_written f m c binding is a = (a.service, a.path, says_no_other f m (OpenCircuit c binding a.service a.path) (says_what_is_written f m is.widths is.written) a.says)

-- ---- tables

given_stays : (t u : TheCircuits) (l n binding : ℕ) → Later t u → IsGivenFor t l n binding → IsGivenFor u l n binding
given_stays t u l n binding later g = record {
  given = later.here l n g.given;
  entry = λ hop at. (let s = old_entry t u l n hop later (inl g.given) at in sym s.binding_is ∙ g.entry s.hop s.at);
}

-- ---- the monitor of before, and of afterwards

module _ (said heard said2 heard2 : ℕ → List Frag) (m m2 : TheMonitor) (sound : Sound m2.circuits) (later : Later m.circuits m2.circuits) (named : AreNamed said heard m)
    (more : (l : ℕ) (f : Frag) → Has f (heard l) → Has f (heard2 l)) where
  asked_more : (frags : List Frag) (more_frags : List Frag) → ((f : Frag) → Has f frags → Has f more_frags) → (n binding : ℕ) → IsAskedFor frags n binding → IsAskedFor more_frags n binding
  asked_more frags more_frags on n binding a = record { frag = a.frag; has = on a.frag a.has; circuit = a.circuit; number = a.number; asks = a.asks }

  -- what was asked for stays so
  pub asked_still : (l : ℕ) (f : Frag) (c : Circuit) (binding : ℕ) → Has f (said l) ⊎ Has f (waiting_for m.outboxes l) → AsksFor f c binding → IsGivenFor m2.circuits l c.0 binding
  asked_still l f c binding has asks = given_stays m.circuits m2.circuits l c.0 binding later (named.asked l f c binding has asks)

  -- an entry at a number that was given
  pub told_still : (l n : ℕ) (hop : Hop) → OpenedThere m2.circuits l n → Given m.circuits l n → hop_at m2.circuits l n ≡ Some hop → IsAskedFor (heard2 l) n hop.binding
  told_still l n hop there given at =
      let s = old_entry m.circuits m2.circuits l n hop later given at in
      asked_more (heard l) (heard2 l) (more l) n hop.binding
      (subst (λ (b : ℕ). IsAskedFor (heard l) n b) s.binding_is (named.told l n s.hop (there_before m.circuits m2.circuits l n sound later given there) s.at))

  -- nothing new is said, and no number is taken
  pub named_rests : ((l : ℕ) (f : Frag) → Has f (said2 l) ⊎ Has f (waiting_for m2.outboxes l) → (g : Frag) × (bare g ≡ bare f) × (Has g (said l) ⊎ Has g (waiting_for m.outboxes l)))
      → ((l n : ℕ) → OpenedThere m2.circuits l n → OpenedThere m.circuits l n) → AreNamed said2 heard2 m2
  named_rests from none = record {
    asked = λ l f c binding has asks.
        (let (g, same, before) = from l f has in asked_still l g c binding before (asks_same f g c binding same asks));
    told = λ l n hop there at. told_still l n hop there (inr (none l n there)) at;
  }

  -- ---- a message more is to be said

  module _ (x : LinkId) (msg : MonitorMessage) (put : IsQueuedMessage (record { link = x; message = msg }) m.outboxes m2.outboxes) (same_said : (l : ℕ) (f : Frag) → Has f (said2 l) → Has f (said l)) where
    -- what stands in outboxes then stood there, or is of that message
    said_then : (l : ℕ) (f : Frag) → Has f (said2 l) ⊎ Has f (waiting_for m2.outboxes l) → (Has f (said l) ⊎ Has f (waiting_for m.outboxes l)) ⊎ ((l ≡ x.0) × (put.frag ≡ f))
    said_then l f (inl h) = inl (inl (same_said l f h))
    said_then l f (inr h) = elim (waits f m.outboxes x.0 (put.outbox ++ put.frag ∷ []) l (subst (λ (boxes : List (List Frag)). Has f (waiting_for boxes l)) put.more h)) [
      | inl old ↦ inl (inr old)
      | inr p ↦ elim (has_split f put.outbox (put.frag ∷ []) p.1) [
        | inl old ↦ inl (inr (subst (λ (o : Option (List Frag)). Has f (given o [] (λ b. b))) (sym (ap (slice_get m.outboxes) p.0 ∙ put.there)) old))
        | inr new ↦ (elim new [ inl same ↦ inr (p.0, same) | inr none ↦ absurd none ])
      ]
    ]

    -- if it asks for a number, that is given for the binding
    pub asked_then : ((c : Circuit) (binding : ℕ) (service : IRef) (path : List CoreId) → msg ≡ OpenCircuit c binding service path → IsGivenFor m2.circuits x.0 c.0 binding)
        → (l : ℕ) (f : Frag) (c : Circuit) (binding : ℕ) → Has f (said2 l) ⊎ Has f (waiting_for m2.outboxes l) → AsksFor f c binding → IsGivenFor m2.circuits l c.0 binding
    asked_then new l f c binding has asks = elim (said_then l f has) [
      | inl old ↦ asked_still l f c binding old asks
      | inr p ↦ (let (service, path, is) = asks_written put.frag msg c binding put.is (asks_same f put.frag c binding (ap bare p.1) asks) in
          subst (λ (k : ℕ). IsGivenFor m2.circuits k c.0 binding) (sym p.0) (new c binding service path is))
    ]

-- ---- an opening that is heard

-- where it goes on it has the link's next number; and it is no answer
abbrev pub IsNext : TheCircuits → MessageOutcome → Type 0
IsNext t (OpeningWentOn binding m n) = next_own t m.0 ≡ Some n.0
IsNext t (ServerMade binding dispatcher c) = Unit {0}
IsNext t (OpeningFailed binding reason) = Unit {0}
IsNext t (AnswerWentOn binding m c) = ⊥
IsNext t (EndOpened e c) = ⊥
IsNext t (EndRefused e reason) = ⊥

module _ (kn : Known) (t : TheCircuits) (binding : ℕ) (c : Circuit) where
  at_last : (iref : ℕ) (r : Option TheRegistration) (place : Bool) → by_iref iref kn.names ≡ r → kn.here.has_place ≡ place → IsNext t (heard_by binding c (arrival kn iref))
  at_last iref None place is has = rw is tt
  at_last iref (Some r) true is has = rw (is, has) tt
  at_last iref (Some r) false is has = rw (is, has) tt

  at_link : (l next m : ℕ) (same : Bool) (n : Option ℕ) → link_of t next ≡ Some m → (l == m) ≡ same → next_own t m ≡ n → IsNext t (heard_by binding c (passage t l next))
  at_link l next m true n is test own = rw (is, test) tt
  at_link l next m false None is test own = rw (is, test, own) tt
  at_link l next m false (Some n) is test own = rw (is, test, own) own

  on_the_way : (l next : ℕ) (m : Option ℕ) → link_of t next ≡ m → IsNext t (heard_by binding c (passage t l next))
  on_the_way l next None is = rw is tt
  on_the_way l next (Some m) is = at_link l next m (l == m) (next_own t m) is refl refl

  by_route : (l : ℕ) (o : Opening) (next : Option CoreId) → next_on o.path t.core ≡ next → IsNext t (heard_by binding c (fate kn t l o))
  by_route l o None is = rw is (at_last o.service.0 (by_iref o.service.0 kn.names) kn.here.has_place refl refl)
  by_route l o (Some next) is = rw is (on_the_way l next.0 (link_of t next.0) refl)

pub opening_next : (kn : Known) (t : TheCircuits) (l : ℕ) (c : Circuit) (o : Opening) (h : MessageOutcome) → h ≡ heard_by o.binding c (fate kn t l o) → IsNext t h
opening_next kn t l c o h is = subst (IsNext t) (sym is) (by_route kn t o.binding c l o (next_on o.path t.core) refl)

first_of : (a b c d e f : Bool) → (a && b && not c && not d && e && f) ≡ true → a ≡ true
first_of true b c d e f h = refl
first_of false b c d e f h = absurd (cc)

pub due_in_place : (kn : Known) (t : TheCircuits) (l : LinkId) (c : Circuit) (o : Opening) → is_in_place kn t l.0 c.0 o ≡ true → next_due t l.0 ≡ Some c.0
due_in_place kn t l c o h =
    next_test (next_due t l.0) c.0
    (first_of (is_next (next_due t l.0) c.0) (nat_lt o.binding 1024) kn.here.has_end (stands t o.binding) (comes_along t l.0 o.path) (not (is_for_another kn.names t o)) h)

-- ---- a message that is heard, and what is said then

no_opening : (c d : Circuit) (b : ℕ) (s : IRef) (p : List CoreId) → CircuitOpened c ≡ OpenCircuit d b s p → ⊥
no_opening c d b s p is = cc

no_refused : (c d : Circuit) (r b : ℕ) (s : IRef) (p : List CoreId) → CircuitRefused c r ≡ OpenCircuit d b s p → ⊥
no_refused c d r b s p is = cc

module _ (said heard heard2 : ℕ → List Frag) (m m2 : TheMonitor) (before : Sound m.circuits) (sound : Sound m2.circuits) (later : Later m.circuits m2.circuits)
    (named : AreNamed said heard m) (more : (l : ℕ) (f : Frag) → Has f (heard l) → Has f (heard2 l)) (l : LinkId) where
  abbrev t : TheCircuits
  t = m.circuits

  -- nothing that asks for a number is said
  quiet : (x : LinkId) (msg : MonitorMessage) → ((c : Circuit) (b : ℕ) (s : IRef) (p : List CoreId) → msg ≡ OpenCircuit c b s p → ⊥)
      → IsQueuedMessage (record { link = x; message = msg }) m.outboxes m2.outboxes
      → (k : ℕ) (f : Frag) (c : Circuit) (binding : ℕ) → Has f (said k) ⊎ Has f (waiting_for m2.outboxes k) → AsksFor f c binding → IsGivenFor m2.circuits k c.0 binding
  quiet x msg none put =
      asked_then said heard said heard2 m m2 sound later named more x msg put (λ k f h. h) (λ c b s p is. absurd (none c b s p is))

  silent : m2.outboxes ≡ m.outboxes
      → (k : ℕ) (f : Frag) (c : Circuit) (binding : ℕ) → Has f (said k) ⊎ Has f (waiting_for m2.outboxes k) → AsksFor f c binding → IsGivenFor m2.circuits k c.0 binding
  silent same k f c binding has asks =
      asked_still said heard said heard2 m m2 sound later named more k f c binding
      (elim has [ inl h ↦ inl h | inr h ↦ inr (subst (λ (boxes : List (List Frag)). Has f (waiting_for boxes k)) same h) ]) asks

  abbrev Asked : Type 0
  Asked = (k : ℕ) (f : Frag) (c : Circuit) (binding : ℕ) → Has f (said k) ⊎ Has f (waiting_for m2.outboxes k) → AsksFor f c binding → IsGivenFor m2.circuits k c.0 binding

  abbrev Told : Type 0
  Told = (k n : ℕ) (hop : Hop) → OpenedThere m2.circuits k n → hop_at m2.circuits k n ≡ Some hop → IsAskedFor (heard2 k) n hop.binding

  -- an answer: links are as they were
  told_answer : m2.circuits.core ≡ t.core → m2.circuits.links ≡ t.links → Told
  told_answer core links k n hop there at =
      told_still said heard said heard2 m m2 sound later named more k n hop there
      (inr (subst (λ (i : ℕ). IsTaken i t.links k n) core (subst (λ ls. IsTaken m2.circuits.core ls k n) links there))) at

  -- an opening: one number more is taken, by an entry of the binding, if by any
  module _ (c : Circuit) (binding : ℕ) (due : next_due t l.0 ≡ Some c.0) (here : IsAskedFor (heard2 l.0) c.0 binding) where
    told_opening : ((k n : ℕ) → OpenedThere m2.circuits k n → OpenedThere t k n ⊎ IsNewest t.core t.links l.0 k n)
        → ((k n : ℕ) (hop : Hop) → hop_at m2.circuits k n ≡ Some hop → (hop.binding ≡ binding) ⊎ (hop_at t k n ≡ Some hop)) → Told
    told_opening taken entry k n hop there at = elim (taken k n there) [
      | inl old ↦ told_still said heard said heard2 m m2 sound later named more k n hop there (inr old) at
      | inr new ↦
          (let number_is : n ≡ c.0 = newest_due t.core t.links l.0 k n c.0 (due_is t.core t.links l.0 c.0 due) new in
          elim (entry k n hop at) [
            | inl own ↦ subst (λ (b : ℕ). IsAskedFor (heard2 k) n b) (sym own)
                (subst (λ (i : ℕ). IsAskedFor (heard2 i) n binding) (sym new.link_is) (subst (λ (i : ℕ). IsAskedFor (heard2 l.0) i binding) (sym number_is) here))
            | inr stood ↦ absurd (never_due t.core t.links before.apart l.0 c.0 (due_is t.core t.links l.0 c.0 due)
                (subst (λ (i : ℕ). Given t i c.0) new.link_is (subst (λ (i : ℕ). Given t k i) number_is (given_there t k n hop before stood))))
          ])
    ]

    -- by what it comes to
    opening_named : (kn : Known) (service : IRef) (path : List CoreId) (h : MessageOutcome) → IsNext t h → m2.circuits ≡ table_of_opening t l c binding h
        → AllSaid (says l (OpenCircuit c binding service path) h) m.outboxes m2.outboxes → Asked × Told
    opening_named kn service path (OpeningWentOn b x d) next is put =
        let u : TheCircuits = passed_on t l c x d binding in
        let given_now : IsGivenFor u x.0 d.0 binding = record {
          given = opened_new t.core (count_taking t.links l.0) x.0 d.0 (next_still t.core t.links l.0 x.0 d.0 (next_is t.core t.links x.0 d.0 next));
          entry = λ hop at. elim (entry_binding (after_opening (after_taking t l.0) x.0) binding false (Link l c) (Link x d) x.0 d.0 hop at) [
            | inl own ↦ own
            | inr stood ↦ absurd (never_there hop stood)
          ];
        } in (
          asked_then said heard said heard2 m m2 sound later named more x (OpenCircuit d binding service path) put (λ k f g. g)
              (λ e b2 s p same. (let (one, two) = opening_parts d e binding b2 service s path p same in
              subst (λ (n : Circuit). IsGivenFor m2.circuits x.0 n.0 b2) one (subst (λ (i : ℕ). IsGivenFor m2.circuits x.0 d.0 i) two (subst (λ (v : TheCircuits). IsGivenFor v x.0 d.0 binding) (sym is) given_now)))),
          told_opening (λ k n there. taken k n (subst (λ (v : TheCircuits). OpenedThere v k n) is there))
              (λ k n hop at. entry_binding (after_opening (after_taking t l.0) x.0) binding false (Link l c) (Link x d) k n hop (ap (λ (v : TheCircuits). hop_at v k n) (sym is) ∙ at)),
        ) where
          never_there : (hop : Hop) → hop_at t x.0 d.0 ≡ Some hop → ⊥
          never_there hop stood = never_next t.core t.links before.apart x.0 d.0 (next_is t.core t.links x.0 d.0 next) (given_there t x.0 d.0 hop before stood)

          taken : (k n : ℕ) → IsTaken t.core (count_opening (count_taking t.links l.0) x.0) k n → OpenedThere t k n ⊎ IsNewest t.core t.links l.0 k n
          taken k n y = taken_before t.core t.links l.0 k n (slice_get t.links l.0) refl (taken_still t.core (count_taking t.links l.0) x.0 k n (slice_get (count_taking t.links l.0) x.0) refl y)
    opening_named kn service path (ServerMade b d x) next is put = (
      quiet l (CircuitOpened x) (no_opening x) put,
      told_opening (λ k n there. taken_before t.core t.links l.0 k n (slice_get t.links l.0) refl (subst (λ (v : TheCircuits). OpenedThere v k n) is there))
          (λ k n hop at. entry_binding (after_taking t l.0) binding false (Link l c) (End (record { binding = binding; side = Server })) k n hop (ap (λ (v : TheCircuits). hop_at v k n) (sym is) ∙ at)),
    )
    opening_named kn service path (OpeningFailed b reason) next is put = (
      quiet l (CircuitRefused c reason) (λ d b2 s p e. no_refused c d reason b2 s p e) put,
      told_opening (λ k n there. taken_before t.core t.links l.0 k n (slice_get t.links l.0) refl (subst (λ (v : TheCircuits). OpenedThere v k n) is there))
          (λ k n hop at. inr (ap (λ (v : TheCircuits). hop_at v k n) (sym is) ∙ at)),
    )
    opening_named kn service path (AnswerWentOn b x d) next is put = absurd next
    opening_named kn service path (EndOpened e x) next is put = absurd next
    opening_named kn service path (EndRefused e reason) next is put = absurd next

  -- what is said of an answer asks for nothing
  opened_said : (c : Circuit) (h : MessageOutcome) → AllSaid (says l (CircuitOpened c) h) m.outboxes m2.outboxes → Asked
  opened_said c (OpeningWentOn b x d) put = quiet x (CircuitOpened d) (no_opening d) put
  opened_said c (ServerMade b e x) put = quiet l (CircuitOpened x) (no_opening x) put
  opened_said c (OpeningFailed b reason) put = quiet l (CircuitRefused c reason) (λ d b2 s p e. no_refused c d reason b2 s p e) put
  opened_said c (AnswerWentOn b x d) put = quiet x (CircuitOpened d) (no_opening d) put
  opened_said c (EndOpened e x) put = silent put
  opened_said c (EndRefused e reason) put = silent put

  refused_said : (c : Circuit) (r : ℕ) (h : MessageOutcome) → AllSaid (says l (CircuitRefused c r) h) m.outboxes m2.outboxes → Asked
  refused_said c r (OpeningWentOn b x d) put = quiet x (CircuitRefused d r) (λ e b2 s p is. no_refused d e r b2 s p is) put
  refused_said c r (ServerMade b e x) put = quiet l (CircuitOpened x) (no_opening x) put
  refused_said c r (OpeningFailed b reason) put = quiet l (CircuitRefused c reason) (λ d b2 s p e. no_refused c d reason b2 s p e) put
  refused_said c r (AnswerWentOn b x d) put = quiet x (CircuitRefused d r) (λ e b2 s p is. no_refused d e r b2 s p is) put
  refused_said c r (EndOpened e x) put = silent put
  refused_said c r (EndRefused e reason) put = silent put

  pub hears_named : (kn : Known) (frag : Frag) (msg : MonitorMessage) (h : MessageOutcome) → Has frag (heard2 l.0) → Says frag msg → ComesTo kn t l msg h
      → m2.circuits ≡ table_after t l msg h → AllSaid (says l msg h) m.outboxes m2.outboxes → AreNamed said heard2 m2
  hears_named kn frag (OpenCircuit c binding service path) h has says_it comes is put =
      let o : Opening = record { binding = binding; service = service; path = path } in
      let due = due_in_place kn t l c o comes.0 in
      let here : IsAskedFor (heard2 l.0) c.0 binding = record { frag = frag; has = has; circuit = c; number = refl; asks = record { service = service; path = path; says = says_it } } in
      let both = opening_named c binding due here kn service path h (opening_next kn t l.0 c o h comes.1) is put in
      record { asked = both.0; told = both.1 }
  hears_named kn frag (CircuitOpened c) h has says_it (hop, waits_there, comes) is put =
      let u : m2.circuits ≡ answered t l c hop = is ∙ ap (λ (o : Option Hop). given o t λ x. answered t l c x) waits_there.there in
      record {
        asked = opened_said c h put;
        told = told_answer (ap (λ (v : TheCircuits). v.core) u) (ap (λ (v : TheCircuits). v.links) u);
      }
  hears_named kn frag (CircuitRefused c r) h has says_it (hop, waits_there, comes) is put =
      let u : m2.circuits ≡ without_entry t (Link l c) hop.way = is ∙ ap (λ (o : Option Hop). given o t λ x. without_entry t (Link l c) x.way) waits_there.there in
      record {
        asked = refused_said c r h put;
        told = told_answer (ap (λ (v : TheCircuits). v.core) u) (ap (λ (v : TheCircuits). v.links) u);
      }
