-- What a monitor says and hears keeps what it asks for asked for, or heard.
use Rattle.std.proofs.Common.{◌≡◌, ◌⊎◌, inl, inr, refl, sym, ap, ◌∙◌, subst, ℕ, ◌&&◌, nat_lt, not, Bool, true, false, List, [], ◌∷◌, ◌++◌, slice_get}
use Rattle.std.proofs.Common.{Option, Some}
use Rattle.fl_base.specs.declared.fragment.Frag.{Frag}
use Rattle.fl_base.specs.declared.identity.CoreId.{CoreId}
use Rattle.fl_base.specs.declared.identity.LinkId.{LinkId}
use Rattle.fl_base.specs.declared.identity.Circuit.{Circuit}
use Rattle.fl_base.specs.Control.{bare}
use Rattle.fl_base.specs.Given.{given}
use Rattle.fl_hop.specs.Table.{TheCircuits, stands}
use Rattle.fl_hop.specs.Numbers.{next_due}
use Rattle.fl_hop.specs.Openings.{is_next}
use Rattle.fl_monitor.specs.declared.opening.Opening.{Opening}
use Rattle.fl_monitor.specs.declared.heard.MessageOutcome.{MessageOutcome}
use Rattle.fl_monitor.specs.declared.heard.MessageOutcome.TheVariants.{OpeningWentOn, ServerMade, OpeningFailed, AnswerWentOn, EndOpened, EndRefused}
use Rattle.fl_monitor.specs.declared.message.MonitorMessage.{MonitorMessage}
use Rattle.fl_monitor.specs.declared.message.MonitorMessage.TheVariants.{OpenCircuit, CircuitOpened, CircuitRefused}
use Rattle.fl_monitor.specs.Fates.{Known, is_in_place, comes_along, is_for_another}
use Rattle.fl_monitor.specs.Hearing.{ComesTo, says, opening_of, with_circuit, circuit_in}
use Rattle.fl_monitor.specs.Monitors.{TheMonitor, AllSaid, IsQueuedMessage, waiting_for, asks}
use Rattle.fl_monitor.specs.Outboxes.{IsFragOf}
use Rattle.fl_monitor.specs.Saying.{Says}
use Rattle.fl_monitor.proofs.Single.{says_no_other, says_the_same, says_what_is_written}
use Rattle.fl_core.specs.declared.core_job.CoreJob.{CoreJob}
use Rattle.fl_cores_laws.specs.Named.{Has}
use Rattle.fl_cores_laws.specs.Asked.{AsksBy, IsRequested, CameAlong, AreAsked}
use Rattle.fl_cores_laws.proofs.Named.{has_split, waits}

-- ---- what asks

pub asks_same : (f g : Frag) (o : Opening) → bare g ≡ bare f → AsksBy f o → AsksBy g o
asks_same f g o same a = record { circuit = a.circuit; says = says_the_same f g (asks a.circuit o) same a.says }

-- a fragment that is written for a message asks for what that does
asks_written : (f : Frag) (m : MonitorMessage) (o : Opening) → IsFragOf f m → AsksBy f o → (c : Circuit) × (m ≡ asks c o)
asks_written f m o is a = (a.circuit, says_no_other f m (asks a.circuit o) (says_what_is_written f m is.widths is.written) a.says)

some_same : {X : Type 0} (a b : X) → Some a ≡ Some b → a ≡ b
some_same a b is = cc

-- a message that asks for something says what
pub asks_of : (f : Frag) (m : MonitorMessage) (o : Opening) → Says f m → opening_of m ≡ Some o → AsksBy f o
asks_of f (OpenCircuit c b s p) o says_it is =
    let x : Opening = record { binding = b; service = s; path = p } in
    let own : AsksBy f x = record { circuit = c; says = says_it } in
    subst (AsksBy f) (some_same x o is) own
asks_of f (CircuitOpened c) o says_it is = absurd (cc)
asks_of f (CircuitRefused c r) o says_it is = absurd (cc)

-- the opening that a message with these words asks for
opens_own : (m : MonitorMessage) (c : Circuit) (o : Opening) → m ≡ asks c o → opening_of m ≡ Some o
opens_own m c o is = ap opening_of is

with_opens : (m : MonitorMessage) (d c : Circuit) (o : Opening) → with_circuit d m ≡ asks c o → opening_of m ≡ Some o
with_opens (OpenCircuit b n s p) d c o is = opens_own (OpenCircuit d n s p) c o is
with_opens (CircuitOpened b) d c o is = opens_own (CircuitOpened d) c o is
with_opens (CircuitRefused b r) d c o is = opens_own (CircuitRefused d r) c o is

opened_asks : (d c : Circuit) (o : Opening) → CircuitOpened d ≡ asks c o → ⊥
opened_asks d c o is = cc

refused_asks : (d c : Circuit) (r : ℕ) (o : Opening) → CircuitRefused d r ≡ asks c o → ⊥
refused_asks d c r o is = cc

-- ---- an opening in its place

fifth : (a b c d e f : Bool) → (a && b && not c && not d && e && f) ≡ true → e ≡ true
fifth a b c d true f h = refl
fifth false b c d false f h = absurd (cc)
fifth true false c d false f h = absurd (cc)
fifth true true true d false f h = absurd (cc)
fifth true true false true false f h = absurd (cc)
fifth true true false false false f h = absurd (cc)

pub along_in_place : (kn : Known) (t : TheCircuits) (l c : ℕ) (o : Opening) → is_in_place kn t l c o ≡ true → comes_along t l o.path ≡ true
along_in_place kn t l c o h =
    fifth (is_next (next_due t l) c) (nat_lt o.binding 1024) kn.here.has_end (stands t o.binding) (comes_along t l o.path) (not (is_for_another kn.names t o)) h

-- a message that asks for something came along its route
pub came_along : (kn : Known) (t : TheCircuits) (l : LinkId) (m : MonitorMessage) (h : MessageOutcome) (o : Opening) → ComesTo kn t l m h → opening_of m ≡ Some o → comes_along t l.0 o.path ≡ true
came_along kn t l (OpenCircuit c b s p) h o comes is =
    let x : Opening = record { binding = b; service = s; path = p } in
    subst (λ (y : Opening). comes_along t l.0 y.path ≡ true) (some_same x o is) (along_in_place kn t l.0 c.0 x comes.0)
came_along kn t l (CircuitOpened c) h o comes is = absurd (cc)
came_along kn t l (CircuitRefused c r) h o comes is = absurd (cc)

-- ---- the monitor of before, and of afterwards

pub came_more : (t : TheCircuits) (heard heard2 : ℕ → List Frag) → ((l : ℕ) (f : Frag) → Has f (heard l) → Has f (heard2 l)) → (o : Opening) → CameAlong t heard o → CameAlong t heard2 o
came_more t heard heard2 more o a = record { link = a.link; frag = a.frag; has = more a.link.0 a.frag a.has; asks = a.asks; along = a.along }

module _ (jobs : List CoreJob) (t : TheCircuits) (said heard heard2 : ℕ → List Frag) (m m2 : TheMonitor) (asked : AreAsked jobs t said heard m)
    (more : (l : ℕ) (f : Frag) → Has f (heard l) → Has f (heard2 l)) where
  abbrev IsFounded : Opening → Type 0
  IsFounded o = IsRequested jobs o ⊎ CameAlong t heard2 o

  still : (l : ℕ) (f : Frag) (o : Opening) → Has f (said l) ⊎ Has f (waiting_for m.outboxes l) → AsksBy f o → IsFounded o
  still l f o has a = elim (asked l f o has a) [ inl w ↦ inl w | inr c ↦ inr (came_more t heard heard2 more o c) ]

  -- nothing new is said
  pub asked_rests : (said2 : ℕ → List Frag)
      → ((l : ℕ) (f : Frag) → Has f (said2 l) ⊎ Has f (waiting_for m2.outboxes l) → (g : Frag) × (bare g ≡ bare f) × (Has g (said l) ⊎ Has g (waiting_for m.outboxes l)))
      → AreAsked jobs t said2 heard2 m2
  asked_rests said2 from l f o has a = (let (g, same, before) = from l f has in still l g o before (asks_same f g o same a))

  pub silent : m2.outboxes ≡ m.outboxes → AreAsked jobs t said heard2 m2
  silent same l f o has a =
      still l f o (elim has [ inl h ↦ inl h | inr h ↦ inr (subst (λ (boxes : List (List Frag)). Has f (waiting_for boxes l)) same h) ]) a

  -- a message more is to be said
  module _ (x : LinkId) (msg : MonitorMessage) (put : IsQueuedMessage (record { link = x; message = msg }) m.outboxes m2.outboxes) where
    -- what stands in outboxes then stood there, or is of that message
    said_then : (l : ℕ) (f : Frag) → Has f (said l) ⊎ Has f (waiting_for m2.outboxes l) → (Has f (said l) ⊎ Has f (waiting_for m.outboxes l)) ⊎ (put.frag ≡ f)
    said_then l f (inl h) = inl (inl h)
    said_then l f (inr h) = elim (waits f m.outboxes x.0 (put.outbox ++ put.frag ∷ []) l (subst (λ (boxes : List (List Frag)). Has f (waiting_for boxes l)) put.more h)) [
      | inl old ↦ inl (inr old)
      | inr p ↦ elim (has_split f put.outbox (put.frag ∷ []) p.1) [
        | inl old ↦ inl (inr (subst (λ (o : Option (List Frag)). Has f (given o [] (λ b. b))) (sym (ap (slice_get m.outboxes) p.0 ∙ put.there)) old))
        | inr new ↦ (elim new [ inl same ↦ inr same | inr none ↦ absurd none ])
      ]
    ]

    pub one_more : ((c : Circuit) (o : Opening) → msg ≡ asks c o → IsRequested jobs o ⊎ CameAlong t heard2 o) → AreAsked jobs t said heard2 m2
    one_more new l f o has a = elim (said_then l f has) [
      | inl old ↦ still l f o old a
      | inr same ↦ (let (c, is) = asks_written put.frag msg o put.is (asks_same f put.frag o (ap bare same) a) in new c o is)
    ]

  -- ---- a message that is heard

  by_said : (l : LinkId) (msg : MonitorMessage) (h : MessageOutcome) → ((o : Opening) → opening_of msg ≡ Some o → IsRequested jobs o ⊎ CameAlong t heard2 o) → AllSaid (says l msg h) m.outboxes m2.outboxes
      → AreAsked jobs t said heard2 m2
  by_said l msg (OpeningWentOn b n d) found put = one_more n (with_circuit d msg) put (λ c o is. found o (with_opens msg d c o is))
  by_said l msg (ServerMade b e d) found put = one_more l (CircuitOpened d) put (λ c o is. absurd (opened_asks d c o is))
  by_said l msg (OpeningFailed b reason) found put = one_more l (CircuitRefused (circuit_in msg) reason) put (λ c o is. absurd (refused_asks (circuit_in msg) c reason o is))
  by_said l msg (AnswerWentOn b n d) found put = one_more n (with_circuit d msg) put (λ c o is. found o (with_opens msg d c o is))
  by_said l msg (EndOpened e d) found put = silent put
  by_said l msg (EndRefused e reason) found put = silent put

  pub hears_asked : (kn : Known) (l : LinkId) (frag : Frag) (msg : MonitorMessage) (h : MessageOutcome) → Has frag (heard2 l.0) → Says frag msg → ComesTo kn m.circuits l msg h
      → ((path : List CoreId) → comes_along m.circuits l.0 path ≡ comes_along t l.0 path) → AllSaid (says l msg h) m.outboxes m2.outboxes → AreAsked jobs t said heard2 m2
  hears_asked kn l frag msg h has says_it comes laid put =
      by_said l msg h (λ o is. inr (record {
        link = l;
        frag = frag;
        has = has;
        asks = asks_of frag msg o says_it is;
        along = sym (laid o.path) ∙ came_along kn m.circuits l msg h o comes is;
      })) put
