-- What stays over a log: the only opening that was asked for under a number which was given, and a link whose numbers are used up.
use Rattle.std.proofs.Common.{◌≡◌, inl, inr, sym, ap, ◌∙◌, subst, ℕ, List, Some}
use Rattle.fl_base.specs.declared.fragment.Frag.{Frag}
use Rattle.fl_base.specs.declared.identity.LinkId.{LinkId}
use Rattle.fl_base.specs.declared.identity.Circuit.{Circuit}
use Rattle.fl_hop.specs.declared.entry.HopTarget.{HopTarget}
use Rattle.fl_hop.specs.declared.entry.HopTarget.TheVariants.{Link, End}
use Rattle.fl_hop.specs.Joined.{Sound}
use Rattle.fl_hop.specs.Numbers.{OpenedHere, next_own}
use Rattle.fl_hop.specs.Table.{TheCircuits}
use Rattle.fl_hop.proofs.Counting.{next_is, never_next}
use Rattle.fl_monitor.specs.declared.opening.Opening.{Opening}
use Rattle.fl_monitor.specs.declared.heard.MessageOutcome.{MessageOutcome}
use Rattle.fl_monitor.specs.declared.heard.MessageOutcome.TheVariants.{OpeningWentOn, ServerMade, OpeningFailed, AnswerWentOn, EndOpened, EndRefused}
use Rattle.fl_monitor.specs.declared.message.MonitorMessage.{MonitorMessage}
use Rattle.fl_monitor.specs.declared.message.MonitorMessage.TheVariants.{OpenCircuit, CircuitOpened, CircuitRefused}
use Rattle.fl_monitor.specs.Fates.{Known}
use Rattle.fl_monitor.specs.Hearing.{ComesTo, says, opened_at, refused_at}
use Rattle.fl_monitor.specs.Monitors.{TheMonitor, AllSaid, IsQueuedMessage, waiting_for, asks}
use Rattle.fl_monitor.proofs.Single.{says_the_same}
use Rattle.fl_cores_laws.specs.Named.{Has}
use Rattle.fl_cores_laws.specs.Reasons.{IsUsedUp, AsksOnly}
use Rattle.fl_cores_laws.proofs.AskedLaid.{Laid, table_laid, opened_laid}
use Rattle.fl_cores_laws.proofs.Logged.{IsKeptBy}
use Rattle.fl_cores_laws.proofs.Named.{IsNext, opening_next}
use Rattle.fl_cores_laws.proofs.Reasoned.{asks_parts, opened_asks, refused_asks, said_or_new}
use Rattle.fl_cores_laws.proofs.ReasonsOwn.{used_later}

-- ---- the only opening under a number

-- the number was given, and just this opening was asked for under it
abbrev pub Remembers : ℕ → ℕ → Opening → (ℕ → List Frag) → (ℕ → List Frag) → TheMonitor → Type 0
Remembers l n o said heard m = OpenedHere m.circuits l n × AsksOnly said m l n o

module _ (l n : ℕ) (o : Opening) (said : ℕ → List Frag) (m m2 : TheMonitor) (sound : Sound m.circuits) (here : OpenedHere m.circuits l n) (only : AsksOnly said m l n o) where
  abbrev Stays : Type 0
  Stays = AsksOnly said m2 l n o

  -- a number that is next isn't this
  another : (x : LinkId) (c : Circuit) → next_own m.circuits x.0 ≡ Some c.0 → l ≡ x.0 → c.0 ≡ n → ⊥
  another x c next links numbers =
      never_next m.circuits.core m.circuits.links sound.apart x.0 c.0 (next_is m.circuits.core m.circuits.links x.0 c.0 next)
      (inl (subst (λ (i : ℕ). OpenedHere m.circuits i c.0) links (subst (λ (i : ℕ). OpenedHere m.circuits l i) (sym numbers) here)))

  -- what is said more asks for nothing, or for the link's next number
  by_message : (x : LinkId) (msg : MonitorMessage) → IsQueuedMessage (record { link = x; message = msg }) m.outboxes m2.outboxes
      → ((c : Circuit) (y : Opening) → msg ≡ asks c y → next_own m.circuits x.0 ≡ Some c.0) → Stays
  by_message x msg put next f c y has is says_it = elim (said_or_new said m m2 x msg put l f (asks c y) has says_it) [
    | inl old ↦ only f c y old is says_it
    | inr new ↦ absurd (another x c (next c y new.1) new.0 is)
  ]

  by_silence : m2.outboxes ≡ m.outboxes → Stays
  by_silence same f c y has is says_it =
      only f c y (elim has [ inl h ↦ inl h | inr h ↦ inr (subst (λ (boxes : List (List Frag)). Has f (waiting_for boxes l)) same h) ]) is says_it

  by_asking : (x : LinkId) (e : Circuit) (z : Opening) → next_own m.circuits x.0 ≡ Some e.0 → IsQueuedMessage (record { link = x; message = asks e z }) m.outboxes m2.outboxes → Stays
  by_asking x e z next put = by_message x (asks e z) put (λ c y same. next ∙ ap (λ (i : Circuit). Some i.0) (asks_parts e c z y same).0)

  by_opening : (k : LinkId) (e : Circuit) (z : Opening) (h : MessageOutcome) → IsNext m.circuits h → AllSaid (says k (asks e z) h) m.outboxes m2.outboxes → Stays
  by_opening k e z (OpeningWentOn b x d) next put = by_asking x d z next put
  by_opening k e z (ServerMade b dispatcher d) next put = by_message k (CircuitOpened d) put (λ c y same. absurd (opened_asks d c y same))
  by_opening k e z (OpeningFailed b reason) next put = by_message k (CircuitRefused e reason) put (λ c y same. absurd (refused_asks e c reason y same))
  by_opening k e z (AnswerWentOn b x d) next put = absurd next
  by_opening k e z (EndOpened end x) next put = absurd next
  by_opening k e z (EndRefused end reason) next put = absurd next

  by_opened : (k : LinkId) (e : Circuit) (binding : ℕ) (way : HopTarget) → AllSaid (says k (CircuitOpened e) (opened_at e binding way)) m.outboxes m2.outboxes → Stays
  by_opened k e binding (Link x d) put = by_message x (CircuitOpened d) put (λ c y same. absurd (opened_asks d c y same))
  by_opened k e binding (End end) put = by_silence put

  by_refused : (k : LinkId) (e : Circuit) (r binding : ℕ) (way : HopTarget) → AllSaid (says k (CircuitRefused e r) (refused_at r binding way)) m.outboxes m2.outboxes → Stays
  by_refused k e r binding (Link x d) put = by_message x (CircuitRefused d r) put (λ c y same. absurd (refused_asks d c r y same))
  by_refused k e r binding (End end) put = by_silence put

  by_hearing : (kn : Known) (k : LinkId) (msg : MonitorMessage) (h : MessageOutcome) → ComesTo kn m.circuits k msg h → AllSaid (says k msg h) m.outboxes m2.outboxes → Stays
  by_hearing kn k (OpenCircuit e binding service path) h comes put =
      let z : Opening = record { binding = binding; service = service; path = path } in
      by_opening k e z h (opening_next kn m.circuits k.0 e z h comes.1) put
  by_hearing kn k (CircuitOpened e) h (hop, waits, comes) put =
      by_opened k e hop.binding hop.way (subst (λ (y : MessageOutcome). AllSaid (says k (CircuitOpened e) y) m.outboxes m2.outboxes) comes put)
  by_hearing kn k (CircuitRefused e r) h (hop, waits, comes) put =
      by_refused k e r hop.binding hop.way (subst (λ (y : MessageOutcome). AllSaid (says k (CircuitRefused e r) y) m.outboxes m2.outboxes) comes put)

pub remembers_kept : (Knows : Known → MonitorMessage → Type 0) (Requests : Opening → Type 0) (l n : ℕ) (o : Opening) → IsKeptBy Knows Requests (Remembers l n o)
remembers_kept Knows Requests l n o = record {
  wider = λ said said2 heard heard2 m fewer more x.
      (x.0, λ f c y has is says_it. x.1 f c y (elim has [ inl a ↦ inl (fewer l f a) | inr b ↦ inr b ]) is says_it);
  rests = λ said heard said2 m m2 sound2 later same from x. (
    later.here l n x.0,
    λ f c y has is says_it. (let (g, alike, before) = from l f has in x.1 g c y before is (says_the_same f g (asks c y) alike says_it)),
  );
  hears = λ said heard heard2 m m2 sound sound2 later x more k kn frag msg h known has says_it comes is put.
      (later.here l n x.0, by_hearing l n o said m m2 sound x.0 x.1 kn k msg h comes put);
  asks = λ said heard m m2 sound sound2 later x k c y requested next is put. (later.here l n x.0, by_asking l n o said m m2 sound x.0 x.1 k c y next put);
}

-- ---- a link that is used up

pub used_kept : (Knows : Known → MonitorMessage → Type 0) (Requests : Opening → Type 0) (l : ℕ) → IsKeptBy Knows Requests (λ said heard m. IsUsedUp m.circuits l)
used_kept Knows Requests l = record {
  wider = λ said said2 heard heard2 m fewer more x. x;
  rests = λ said heard said2 m m2 sound2 later same from x. subst (λ (u : TheCircuits). IsUsedUp u l) (sym same) x;
  hears = λ said heard heard2 m m2 sound sound2 later x more k kn frag msg h known has says_it comes is put.
      used_later m.circuits m2.circuits (subst (Laid m.circuits) (sym is) (table_laid m.circuits k msg h)) later l x;
  asks = λ said heard m m2 sound sound2 later x k c y requested next is put.
      used_later m.circuits m2.circuits (subst (Laid m.circuits) (sym is) (opened_laid m.circuits k c y.binding)) later l x;
}
