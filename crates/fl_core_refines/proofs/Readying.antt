-- A ready core's log makes of its cut what the machine does, and leaves it ready.
use Rattle.std.proofs.Common.{◌≡◌, inl, inr, refl, sym, ◌∙◌, ap, subst, ℕ, ◌==◌, true, false, List, [], ◌∷◌, length, slice_get, slice_set, Option, Some, None}
use Rattle.std.specs.Prelude.{Ok, Err}
use Rattle.std.specs.Option.{option_map}
use Rattle.fl_base.specs.declared.fragment.Frag.{Frag}
use Rattle.fl_base.specs.declared.identity.LinkId.{LinkId}
use Rattle.fl_base.specs.Control.{bare}
use Rattle.fl_base.specs.Given.{given}
use Rattle.fl_base.specs.Numbered.{core_id}
use Rattle.fl_endpoint.specs.Laws.{OnAnotherCircuit}
use Rattle.fl_link.specs.Looks.{Look, found}
use Rattle.fl_ring.specs.SharedSides.{TheSide, SharedTakes}
use Rattle.fl_hop.specs.declared.forward.ForwardOutcome.TheVariants.{Moved, Full, Spent}
use Rattle.fl_hop.specs.Numbers.{after_taking, next_own}
use Rattle.fl_hop.specs.Table.{TheCircuits, link_of}
use Rattle.fl_hop.proofs.Laws.{is_eq}
use Rattle.fl_monitor.specs.declared.heard.MessageOutcome.{MessageOutcome}
use Rattle.fl_monitor.specs.declared.heard.MessageOutcome.TheVariants as was
use Rattle.fl_monitor.specs.declared.message.MonitorMessage.{MonitorMessage}
use Rattle.fl_monitor.specs.declared.message.MonitorMessage.TheVariants.{OpenCircuit, CircuitOpened, CircuitRefused}
use Rattle.fl_monitor.specs.declared.fault.MonitorFault.TheVariants as monitor
use Rattle.fl_monitor.specs.Fates.{fate as fate_of}
use Rattle.fl_monitor.specs.Hearing.{heard_by, says as says_then}
use Rattle.fl_monitor.specs.Monitors.{can_say as monitor_can_say, may_say, AllSaid, Hears as MonitorHears}
use Rattle.fl_monitor.specs.Routing.{next_on as next_named}
use Rattle.fl_monitor.specs.Saying.{Says}
use Rattle.fl_core.specs.declared.answer.MonitorAnswer.{MonitorAnswer}
use Rattle.fl_core.specs.declared.answer.MonitorAnswer.TheVariants as answer
use Rattle.fl_core.specs.declared.wiring.Inlet.TheVariants as inlet
use Rattle.fl_core.specs.declared.wiring.Outlet.TheVariants as outlet
use Rattle.fl_core.specs.Hearing.{known_for, offer_for, offering, Follows as NodeFollows, HearsAll, HearsFrag, TakesHeard}
use Rattle.fl_core.specs.View.{TheCore, with_monitor}
use Rattle.fl_core.specs.declared.core_job.CoreJob.{CoreJob}
use Rattle.fl_core_run.specs.declared.plan.TurnPlan.{TurnPlan}
use Rattle.fl_core_run.specs.LogEntries.{LogEntry, looked, passed, arrived, heard, said, told, opened, called, ruled, wrote, acked, turned, OnRing, Does, Happens, IsSound}
use Rattle.fl_core_run.specs.Run.{SideRelations, TheRun}
use Rattle.fl_core_run.specs.Turn.{Turned}
use Rattle.fl_core_run_laws.specs.Flows.{IsApart}
use Rattle.fl_core_run_laws.specs.Logs.{InPlace, Goes}
use Rattle.fl_core_run_laws.proofs.Apart.{stays_apart}
use Rattle.fl_core_run_laws.proofs.Aside.{progresses_alone}
use Rattle.fl_core_run_laws.proofs.Flowing.{flows}
use Rattle.fl_core_run_laws.proofs.Growing.{does_grow}
use Rattle.fl_core_run_laws.proofs.Logging.{turns_logged}
use Rattle.fl_model.specs.Rings.{OpeningLabel, MonitorLabel, says, open_circuit, circuit_refused}
use Rattle.fl_model.specs.Monitors.{Service, Fate, fate, arrival, passage, goes_on, hears, fails, next_on, can_say, with_said, with_circuits, Hearing, hears_opening, no_outbox, opening_failed}
use Rattle.fl_world_refines.specs.Fragments.{message_of}
use Rattle.fl_world_refines.specs.Cores.{MonitorShows}
use Rattle.fl_world_refines.specs.CoreLaws.{OutboxesAreShown, RoomsAgree, OpensAgree, delivery, HearsAgree}
use Rattle.fl_world_refines.specs.EndLaws.{TakeShows}
use Rattle.fl_world_refines.proofs.Boxes.{same_room, said_shows}
use Rattle.fl_world_refines.proofs.Tests.{then_is, else_is}
use Rattle.fl_core_refines.specs.CutSides.{SideCut, ShowsSide}
use Rattle.fl_core_refines.specs.Cut.{CoreCut, ShowsCut}
use Rattle.fl_core_refines.specs.CutOpening.{opening_with}
use Rattle.fl_core_refines.specs.CutHearing.{said_of, hearing}
use Rattle.fl_core_refines.specs.CutDoes.{HearsNothing}
use Rattle.fl_core_refines.specs.CutLaws.{shared}
use Rattle.fl_core_refines.specs.CutReady.{IsReady, TurnsBack, refusing, RefusesBack, CutMakes, Makes, TurnsMake}
use Rattle.fl_core_refines.proofs.Lists.{there, set_both}
use Rattle.fl_core_refines.proofs.Sides.{takes_again}
use Rattle.fl_core_refines.proofs.Links.{progresses_shown}
use Rattle.fl_core_refines.proofs.Hearing.{message_same, opening_keeps, heard_run, heard_shows, hears_all, still, fails_follow}
use Rattle.fl_core_refines.proofs.Logs.{one_acts}
use Rattle.fl_core_refines.proofs.Orders.{next_of, ordered}
use Rattle.fl_core_refines.proofs.Staying.{Stays, by, does_stay, still_serves}

-- ---- an opening that turns back is refused

-- the message is this opening
pub record Asks (m : MonitorMessage) (o : OpeningLabel) : Type 0 where
  pub circuit : Rattle.fl_base.specs.declared.identity.Circuit.Circuit
  pub asked : Rattle.fl_monitor.specs.declared.opening.Opening.Opening
  pub message : m ≡ OpenCircuit circuit asked.binding asked.service asked.path
  pub opening : o ≡ opening_with circuit.0 asked

pub asks_for : (m : MonitorMessage) (o : OpeningLabel) → said_of m ≡ open_circuit o → Asks m o
asks_for (OpenCircuit c binding service path) o e =
    let same : opening_with c.0 (record { binding = binding; service = service; path = path }) ≡ o = cc in
    record { circuit = c; asked = record { binding = binding; service = service; path = path }; message = refl; opening = sym same }
asks_for (CircuitOpened c) o e = absurd (cc)
asks_for (CircuitRefused c reason) o e = absurd (cc)

-- it comes to that alone
fails_back : (a : CoreCut) (s : TheRun TheSide) (l : LinkId) (m : MonitorMessage) (o : OpeningLabel) → ShowsCut a s → (x : Asks m o) → TurnsBack l.0 o a
    → heard_by x.asked.binding x.circuit (fate_of (known_for s.offers s.core m) s.core.monitor.circuits l.0 x.asked) ≡ was.OpeningFailed x.asked.binding 73
fails_back a s l m o h x back =
    let t : TheCircuits = s.core.monitor.circuits in
    let next : next_named x.asked.path t.core ≡ Some (core_id back.next)
    = ap (λ (u : TheCircuits). next_named x.asked.path u.core) h.monitor.circuits ∙ next_of x.asked.path a.core.circuits.core
    ∙ ap (λ (y : OpeningLabel). option_map core_id (next_on y.path a.core.circuits.core)) (sym x.opening) ∙ ap (option_map core_id) back.next_is in
    let link : link_of t back.next ≡ Some l.0 = ap (λ (u : TheCircuits). link_of u back.next) h.monitor.circuits ∙ back.back in
    let same : (l.0 == l.0) ≡ true = is_eq l.0 l.0 refl in
    rw (next, link, same) refl

comes_back : (a : CoreCut) (s : TheRun TheSide) (l : LinkId) (m : MonitorMessage) (o : OpeningLabel) (w : MessageOutcome) → ShowsCut a s → Asks m o → TurnsBack l.0 o a
    → Rattle.fl_monitor.specs.Hearing.ComesTo (known_for s.offers s.core m) s.core.monitor.circuits l m w → w ≡ was.OpeningFailed o.binding 73
comes_back a s l m o w h x back comes =
    let now = subst (λ (y : MonitorMessage). Rattle.fl_monitor.specs.Hearing.ComesTo (known_for s.offers s.core m) s.core.monitor.circuits l y w) x.message comes in
    now.1 ∙ fails_back a s l m o h x back ∙ ap (λ (y : OpeningLabel). was.OpeningFailed y.binding 73) (sym x.opening)

-- what it says then
answer_back : (l : LinkId) (m : MonitorMessage) (o : OpeningLabel) → Asks m o
    → says_then l m (was.OpeningFailed o.binding 73) ≡ Some (record { link = l; message = message_of (circuit_refused o.circuit 73) })
answer_back l m o x =
    ap (λ (y : MonitorMessage). says_then l y (was.OpeningFailed o.binding 73)) x.message
    ∙ ap (λ (y : OpeningLabel). says_then l (OpenCircuit (record { 0 = y.circuit }) x.asked.binding x.asked.service x.asked.path) (was.OpeningFailed o.binding 73)) (sym x.opening)

-- ---- a message, by what the core answers

pub record Heard_ (services : List Service) (log_entry : LogEntry) (a : CoreCut) (t : TheRun TheSide) : Type 0 where
  pub after : CoreCut
  pub makes : CutMakes services log_entry a after
  pub shows : ShowsCut after t

-- the machine's core says something on that link too, whatever the opening comes to
nothing_said : (services : List Service) (l : ℕ) (o : OpeningLabel) (a : CoreCut) → TurnsBack l o a → can_say l a.core ≡ false
    → (hears services l (open_circuit o) a.core).heard ≡ no_outbox
nothing_said services l o a back room = ap (λ (f : Fate). (hears_opening l o f a.core).heard) fate_is ∙ by (next_own a.core.circuits l) where
  fate_is : fate services o a.core ≡ (given (next_own a.core.circuits l) (fails 74) λ n. goes_on l n)
  fate_is =
      ap (λ (x : Option ℕ). given x (arrival services o.service a.core) λ n. passage n a.core) back.next_is
      ∙ ap (λ (x : Option ℕ). given x (fails 73) λ m. given (next_own a.core.circuits m) (fails 74) λ n. goes_on m n) back.back

  by : (x : Option ℕ) → (hears_opening l o (given x (fails 74) λ n. goes_on l n) a.core).heard ≡ no_outbox
  by None = ap (λ (y : Hearing). y.heard) (else_is (can_say l a.core) _ (record { core = a.core; heard = no_outbox }) room)
  by (Some n) = ap (λ (y : Hearing). y.heard) (else_is (can_say l a.core) _ (record { core = a.core; heard = no_outbox }) room)

-- the outbox is full
full_back : (services : List Service) (a : CoreCut) (s m t : TheRun TheSide) (n : ℕ) (l : LinkId) (frag : Frag) (msg : MonitorMessage) (o : OpeningLabel) → ShowsCut a s
    → (on : OnRing n s (λ k p k2 q. HearsFrag s.offers l frag k (Ok answer.Full) k2 × TakesHeard SharedTakes frag p (Ok answer.Full) q) m)
    → t ≡ record m { progresses = t.progresses } → Says frag msg → said_of msg ≡ open_circuit o → TurnsBack l.0 o a
    → MonitorHears (known_for s.offers s.core msg) l msg s.core.monitor (Err monitor.OutboxFull) s.core.monitor → m.core ≡ s.core
    → Heard_ services (heard n l frag (Ok answer.Full)) a t
full_back services a s m t n l frag msg o h on progresses is asked back (w, comes, full, same) core =
    let x = asks_for msg o asked in
    let w_is = comes_back a s l msg o w h x back comes in
    let none : monitor_can_say s.core.monitor.outboxes l.0 ≡ false
    = sym (ap (λ y. may_say y s.core.monitor.outboxes) (ap (says_then l msg) w_is ∙ answer_back l msg o x)) ∙ full in
    let room : can_say l.0 a.core ≡ false = sym (same_room a.core.links s.core.monitor.outboxes l.0 h.monitor.outboxes) ∙ none in
    let nothing : (hearing services l.0 msg a).heard ≡ no_outbox
    = ap (λ (y : MonitorLabel). (hears services l.0 y a.core).heard) asked ∙ nothing_said services l.0 o a back room in
    record {
      after = a;
      makes = inl (msg, is, nothing, refl);
      shows = progresses_shown a m t (still a s m n on.before on.after h on.before_is on.event.1 on.rest core) progresses;
    }

-- it is refused
done_back : (services : List Service) (a : CoreCut) (s m t : TheRun TheSide) (n : ℕ) (l : LinkId) (frag : Frag) (msg : MonitorMessage) (o : OpeningLabel) (before after : TheSide)
    (told : MonitorAnswer) → ShowsCut a s → slice_get s.rings n ≡ Some before → SharedTakes before (found (bare frag)) after
    → m ≡ record s { core = m.core; rings = slice_set s.rings n after } → t ≡ record m { progresses = t.progresses } → Says frag msg → said_of msg ≡ open_circuit o
    → TurnsBack l.0 o a → HearsAll s.offers l msg s.core told m.core → (told ≡ answer.Done) × Heard_ services (heard n l frag (Ok answer.Done)) a t
done_back services a s m t n l frag msg o before after told_so h before_is takes rest progresses is asked back all =
    let x = asks_for msg o asked in
    let (comes, may, table, all_said) = all.hears in
    let w_is = comes_back a s l msg o all.heard h x back comes in
    let answer_is = ap (says_then l msg) w_is ∙ answer_back l msg o x in
    let can : monitor_can_say s.core.monitor.outboxes l.0 ≡ true = sym (ap (λ y. may_say y s.core.monitor.outboxes) answer_is) ∙ may in
    let room : can_say l.0 a.core ≡ true = sym (same_room a.core.links s.core.monitor.outboxes l.0 h.monitor.outboxes) ∙ can in
    let made : Hearing = record {
      core = with_said l.0 (circuit_refused o.circuit 73) (with_circuits (after_taking a.core.circuits l.0) a.core);
      heard = opening_failed o.binding 73;
    } in
    let made_is : refusing l.0 o a ≡ made = then_is (can_say l.0 a.core) made (record { core = a.core; heard = no_outbox }) room in
    let circuits : all.monitor.circuits ≡ after_taking a.core.circuits l.0
    = table
    ∙ ap (λ (y : MonitorMessage). Rattle.fl_monitor.specs.Hearing.table_after s.core.monitor.circuits l y all.heard) x.message
    ∙ ap (λ (w : MessageOutcome). Rattle.fl_monitor.specs.Hearing.after_opening s.core.monitor.circuits l x.circuit x.asked.binding w) w_is
    ∙ ap (λ (u : TheCircuits). after_taking u l.0) h.monitor.circuits in
    let so : AllSaid (Some (record { link = l; message = message_of (circuit_refused o.circuit 73) })) s.core.monitor.outboxes all.monitor.outboxes
    = subst (λ y. AllSaid y s.core.monitor.outboxes all.monitor.outboxes) answer_is all_said in
    let shown : MonitorShows (refusing l.0 o a).core all.monitor
    = subst (λ (y : Hearing). MonitorShows y.core all.monitor) (sym made_is)
    (said_shows l.0 (circuit_refused o.circuit 73) (after_taking a.core.circuits l.0) a.core s.core.monitor all.monitor h.monitor so circuits) in
    let keeps = opening_keeps l.0 o (fails 73) a.core in
    let number : all.monitor.circuits.core ≡ s.core.monitor.circuits.core
    = ap (λ (c : TheCircuits). c.core) shown.circuits ∙ keeps.number ∙ sym (ap (λ (c : TheCircuits). c.core) h.monitor.circuits) in
    let v = there ShowsSide a.sides s.rings n before h.sides before_is in
    let one = takes_again (says (said_of msg)) v.0 before after (bare frag) v.2 takes in
    let sides : List SideCut = slice_set a.sides n one.0 in
    let next : CoreCut = record a { core = (refusing l.0 o a).core; sides = sides } in
    let shows : ShowsCut next (heard_run s all.monitor (slice_set s.rings n after))
    = heard_shows a s sides (refusing l.0 o a).core all.monitor (slice_set s.rings n after) h (set_both ShowsSide a.sides s.rings n one.0 after h.sides one.2)
    shown keeps.waits number in
    let follows : NodeFollows (offering s.offers.programs (offer_for s.offers s.core msg) l) (was.OpeningFailed o.binding 73) (with_monitor s.core all.monitor) told_so m.core
    = subst (λ (w : MessageOutcome). NodeFollows (offering s.offers.programs (offer_for s.offers s.core msg) l) w (with_monitor s.core all.monitor) told_so m.core) w_is all.follows in
    let run : m ≡ heard_run s all.monitor (slice_set s.rings n after)
    = rest ∙ ap (λ (k : TheCore). record s { core = k; rings = slice_set s.rings n after }) follows.1 in (
      follows.0,
      record {
        after = next;
        makes = inr (
          msg,
          o,
          is,
          asked,
          back,
          ap (λ (y : Hearing). y.heard) made_is,
          record { before = v.0; before_is = v.1; after = one.0; event = one.1; rest = refl },
          refl,
        );
        shows = progresses_shown next m t (subst (ShowsCut next) (sym run) shows) progresses;
      },
    )

ready_hears : HearsAgree → (services : List Service) (a : CoreCut) (s m t : TheRun TheSide) (n : ℕ) (l : LinkId) (frag : Frag) (told : MonitorAnswer)
    → ShowsCut a s → IsSound s.core → IsReady services a s
    → OnRing n s (λ k p k2 q. HearsFrag s.offers l frag k (Ok told) k2 × TakesHeard SharedTakes frag p (Ok told) q) m → t ≡ record m { progresses = t.progresses }
    → Heard_ services (heard n l frag (Ok told)) a t
ready_hears law services a s m t n l frag answer.Full h sound ready on progresses =
    let ((msg, is, both), same) = on.event in
    elim (ordered services l a s msg h sound ready.names ready.serves ready.quiet ready.led (both.0.0, both.0.1)) [
      | inl order ↦ (let agree = law (known_for s.offers s.core msg) (delivery services l.0 (said_of msg) a.core) s.core.monitor s.core.monitor (Err monitor.OutboxFull) h.monitor ready.names order.may
          (subst (λ (x : MonitorMessage). MonitorHears (known_for s.offers s.core msg) l x s.core.monitor (Err monitor.OutboxFull) s.core.monitor) (sym (message_same msg)) both.0) in
          record {
            after = a;
            makes = inl (msg, is, agree.0, refl);
            shows = progresses_shown a m t (still a s m n on.before on.after h on.before_is same on.rest both.1) progresses;
          })
      | inr (o, asked, back) ↦ full_back services a s m t n l frag msg o h on progresses is asked back both.0 both.1
    ]
ready_hears law services a s m t n l frag answer.Done h sound ready on progresses =
    let ((msg, is, all), takes) = on.event in
    elim (ordered services l a s msg h sound ready.names ready.serves ready.quiet ready.led (all.heard, all.hears.0)) [
      | inl order ↦ (let one = hears_all law services a s m n l frag msg answer.Done on.before on.after h sound ready.names order is on.before_is all takes on.rest in
          record { after = one.after; makes = inl one.hears; shows = progresses_shown one.after m t one.shows progresses })
      | inr (o, asked, back) ↦ (done_back services a s m t n l frag msg o on.before on.after answer.Done h on.before_is takes on.rest progresses is asked back all).1
    ]
ready_hears law services a s m t n l frag (answer.Opened e) h sound ready on progresses =
    let ((msg, is, all), takes) = on.event in
    elim (ordered services l a s msg h sound ready.names ready.serves ready.quiet ready.led (all.heard, all.hears.0)) [
      | inl order ↦ (let one = hears_all law services a s m n l frag msg (answer.Opened e) on.before on.after h sound ready.names order is on.before_is all takes on.rest in
          record { after = one.after; makes = inl one.hears; shows = progresses_shown one.after m t one.shows progresses })
      | inr (o, asked, back) ↦ (let no : answer.Opened e ≡ answer.Done =
          (done_back services a s m t n l frag msg o on.before on.after (answer.Opened e) h on.before_is takes on.rest progresses is asked back all).0 in absurd (cc))
    ]
ready_hears law services a s m t n l frag (answer.OpeningRefused e reason) h sound ready on progresses =
    let ((msg, is, all), takes) = on.event in
    elim (ordered services l a s msg h sound ready.names ready.serves ready.quiet ready.led (all.heard, all.hears.0)) [
      | inl order ↦ (let one = hears_all law services a s m n l frag msg (answer.OpeningRefused e reason) on.before on.after h sound ready.names order is on.before_is all takes on.rest in
          record { after = one.after; makes = inl one.hears; shows = progresses_shown one.after m t one.shows progresses })
      | inr (o, asked, back) ↦ (let no : answer.OpeningRefused e reason ≡ answer.Done =
          (done_back services a s m t n l frag msg o on.before on.after (answer.OpeningRefused e reason) h on.before_is takes on.rest progresses is asked back all).0 in absurd (cc))
    ]

-- ---- it is ready still

offers_done : (w : SideRelations TheSide) (log_entry : LogEntry) (s m : TheRun TheSide) → Does w log_entry s m → m.offers ≡ s.offers
offers_done w (looked n l answer) s m h = ap (λ (x : TheRun TheSide). x.offers) h.rest
offers_done w (passed n k frag c Moved) s m h = ap (λ (x : TheRun TheSide). x.offers) h.2.rest ∙ ap (λ (x : TheRun TheSide). x.offers) h.1.rest
offers_done w (passed n k frag c Full) s m h = ap (λ (x : TheRun TheSide). x.offers) h.rest
offers_done w (passed n k frag c Spent) s m h = ap (λ (x : TheRun TheSide). x.offers) h.rest
offers_done w (arrived n l frag e answer) s m h = ap (λ (x : TheRun TheSide). x.offers) h.rest
offers_done w (heard n l frag answer) s m h = ap (λ (x : TheRun TheSide). x.offers) h.rest
offers_done w (said n l answer) s m h = ap (λ (x : TheRun TheSide). x.offers) h.rest
offers_done w (told n l answer) s m h = ap (λ (x : TheRun TheSide). x.offers) h.rest
offers_done w (opened name request answer) s m h = ap (λ (x : TheRun TheSide). x.offers) h.rest
offers_done w (called name c answer) s m h = ap (λ (x : TheRun TheSide). x.offers) h.2.rest
offers_done w (ruled name msg reply answer) s m h = ap (λ (x : TheRun TheSide). x.offers) h.2.rest
offers_done w (wrote name (outlet.Queue n) answer) s m h = ap (λ (x : TheRun TheSide). x.offers) h.2.rest
offers_done w (wrote name (outlet.Side n) answer) s m h = ap (λ (x : TheRun TheSide). x.offers) h.2.rest
offers_done w (acked name n answer) s m h = ap (λ (x : TheRun TheSide). x.offers) h.2.rest
offers_done w (turned d name (inlet.Queue n) answer) s m h = ap (λ (x : TheRun TheSide). x.offers) h.3.rest
offers_done w (turned d name (inlet.Side n) answer) s m h = ap (λ (x : TheRun TheSide). x.offers) h.3.rest
offers_done w (turned d name inlet.Arrivals answer) s m h = ap (λ (x : TheRun TheSide). x.offers) h.3.rest

refuses_stay : (log_entry : LogEntry) (a b : CoreCut) → RefusesBack log_entry a b → Stays a b
refuses_stay (heard n l frag (Ok answer.Full)) a b h = absurd h
refuses_stay (heard n l frag (Ok answer.Done)) a b h =
    let keeps = opening_keeps l.0 h.1 (fails 73) a.core in
    by a b _ h.7 (record { number = keeps.number; links = keeps.links; waits = ap length keeps.waits; plans = refl; quiet = λ q. q })
refuses_stay (heard n l frag (Ok (answer.Opened e))) a b h = absurd h
refuses_stay (heard n l frag (Ok (answer.OpeningRefused e reason))) a b h = absurd h
refuses_stay (heard n l frag (Err fault)) a b h = absurd h
refuses_stay (looked n l r) a b h = absurd h
refuses_stay (passed n m frag c r) a b h = absurd h
refuses_stay (arrived n l frag e r) a b h = absurd h
refuses_stay (said n l r) a b h = absurd h
refuses_stay (told n l r) a b h = absurd h
refuses_stay (opened name request r) a b h = absurd h
refuses_stay (called name c r) a b h = absurd h
refuses_stay (ruled name msg reply r) a b h = absurd h
refuses_stay (wrote name out r) a b h = absurd h
refuses_stay (acked name n r) a b h = absurd h
refuses_stay (turned d name from r) a b h = absurd h

pub makes_stay : (services : List Service) (log_entry : LogEntry) (a b : CoreCut) → CutMakes services log_entry a b → Stays a b
makes_stay services log_entry a b (inl h) = does_stay services log_entry a b h
makes_stay services log_entry a b (inr h) = refuses_stay log_entry a b h

still_ready : (services : List Service) (w : SideRelations TheSide) → OnAnotherCircuit → (jobs : List CoreJob) (a b : CoreCut) (s t : TheRun TheSide) (log_entry : LogEntry) → IsReady services a s
    → CutMakes services log_entry a b → Happens w log_entry s t → InPlace jobs s log_entry → IsReady services b t
still_ready services w another jobs a b s t log_entry ready makes (m, does, notes, sound, soundly, whole) place =
    let stays = makes_stay services log_entry a b makes in
    let aside = progresses_alone m t log_entry notes in
    let core : t.core ≡ m.core = ap (λ (x : TheRun TheSide). x.core) aside in
    let offers : t.offers ≡ s.offers = ap (λ (x : TheRun TheSide). x.offers) aside ∙ offers_done w log_entry s m does in
    let gone = flows w another jobs s t (log_entry ∷ []) sound.core ready.apart (t, (m, does, notes, sound, soundly, whole), place, refl) in
    record {
      names = ap (λ (o : Rattle.fl_core.specs.Hearing.Offers). o.names) offers ∙ ready.names;
      serves = still_serves services a b stays ready.serves;
      quiet = stays.quiet ready.quiet;
      apart = subst IsApart (sym core) (stays_apart s.core m.core (does_grow w log_entry s m does) ready.apart);
      led = gone.led ready.led;
    }

-- ---- one event

module _ (law : TakeShows) (boxes : OutboxesAreShown) (rooms : RoomsAgree) (openings : OpensAgree) (hears : HearsAgree) (another : OnAnotherCircuit) where
  quietly : (front : TheSide → Look) (jobs : List CoreJob) (services : List Service) (a : CoreCut) (s t : TheRun TheSide) (log_entry : LogEntry) → ShowsCut a s → HearsNothing log_entry
      → Happens (shared front) log_entry s t → InPlace jobs s log_entry → Heard_ services log_entry a t
  quietly front jobs services a s t log_entry h quiet k place =
      let one = one_acts law boxes rooms openings front jobs services a s t log_entry h quiet k place in
      record { after = one.after; makes = inl one.does; shows = one.shows }

  one_makes : (front : TheSide → Look) (jobs : List CoreJob) (services : List Service) (a : CoreCut) (s t : TheRun TheSide) (log_entry : LogEntry) → ShowsCut a s → IsReady services a s
      → Happens (shared front) log_entry s t → InPlace jobs s log_entry → Heard_ services log_entry a t
  one_makes front jobs services a s t (heard n l frag (Ok word)) h ready (m, on, notes, sound, soundly, whole) place =
      ready_hears hears services a s m t n l frag word h sound ready on (progresses_alone m t (heard n l frag (Ok word)) notes)
  one_makes front jobs services a s t (heard n l frag (Err fault)) h ready (m, on, notes, sound, soundly, whole) place =
      let one = fails_follow services a s m t n l frag fault h on (progresses_alone m t (heard n l frag (Err fault)) notes) in
      record { after = one.after; makes = inl one.does; shows = one.shows }
  one_makes front jobs services a s t (looked n l r) h ready k place = quietly front jobs services a s t (looked n l r) h tt k place
  one_makes front jobs services a s t (passed n m frag c r) h ready k place = quietly front jobs services a s t (passed n m frag c r) h tt k place
  one_makes front jobs services a s t (arrived n l frag e r) h ready k place = quietly front jobs services a s t (arrived n l frag e r) h tt k place
  one_makes front jobs services a s t (said n l r) h ready k place = quietly front jobs services a s t (said n l r) h tt k place
  one_makes front jobs services a s t (told n l r) h ready k place = quietly front jobs services a s t (told n l r) h tt k place
  one_makes front jobs services a s t (opened name request r) h ready k place = quietly front jobs services a s t (opened name request r) h tt k place
  one_makes front jobs services a s t (called name c r) h ready k place = quietly front jobs services a s t (called name c r) h tt k place
  one_makes front jobs services a s t (ruled name msg reply r) h ready k place = quietly front jobs services a s t (ruled name msg reply r) h tt k place
  one_makes front jobs services a s t (wrote name out r) h ready k place = quietly front jobs services a s t (wrote name out r) h tt k place
  one_makes front jobs services a s t (acked name n r) h ready k place = quietly front jobs services a s t (acked name n r) h tt k place
  one_makes front jobs services a s t (turned d name from r) h ready k place = quietly front jobs services a s t (turned d name from r) h tt k place

  -- ---- a log

  pub logs_make : (front : TheSide → Look) (jobs : List CoreJob) (services : List Service) (a : CoreCut) (s t : TheRun TheSide) (log : List LogEntry)
      → ShowsCut a s → IsReady services a s → Goes (shared front) jobs s log t → Makes services log a t
  logs_make front jobs services a s t [] h ready k =
      record { after = a; makes = refl; shows = subst (ShowsCut a) (sym k) h; ready = subst (IsReady services a) (sym k) ready }
  logs_make front jobs services a s t (log_entry ∷ log) h ready (m, happens, place, rest) =
      let one = one_makes front jobs services a s m log_entry h ready happens place in
      let next = still_ready services (shared front) another jobs a one.after s m log_entry ready one.makes happens place in
      let all = logs_make front jobs services one.after m t log one.shows next rest in
      record { after = all.after; makes = (one.after, one.makes, all.makes); shows = all.shows; ready = all.ready }

  pub turns_make : (front : TheSide → Look) (plan : TurnPlan) (jobs : List CoreJob) (k : ℕ) (services : List Service) (a : CoreCut) (s t : TheRun TheSide)
      → ShowsCut a s → IsReady services a s → Turned (shared front) plan jobs k s t → TurnsMake front jobs services a s t
  turns_make front plan jobs k services a s t h ready turns =
      let logged = turns_logged (shared front) plan jobs k s t turns in
      record { log = logged.log; happened = logged.goes; makes = logs_make front jobs services a s t logged.log h ready logged.goes }
