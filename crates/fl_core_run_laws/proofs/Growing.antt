-- What an event leaves of a core: its links' sides stay, no end but those of circuits is new, and its arrival queues change by looks, puts and takes.
use Rattle.std.proofs.Common.{◌≡◌, ◌≢◌, ◌==◌, refl, sym, ap, ◌∙◌, subst, ℕ, ◌⊎◌, inl, inr, List, [], ◌∷◌, ◌++◌, length, slice_get, slice_set}
use Rattle.std.proofs.Common.{Option, Some, None, Bool, true, false, Result, Ok, Err, arith}
use Rattle.std.proofs.lemmas.Bool.Decides.{nat_tests}
use Rattle.std.proofs.lemmas.List.{length-set}
use Rattle.fl_base.specs.declared.fragment.Frag.{Frag}
use Rattle.fl_base.specs.declared.identity.EndId.{EndId}
use Rattle.fl_base.specs.declared.identity.LinkId.{LinkId}
use Rattle.fl_base.specs.declared.identity.Circuit.{Circuit as Number}
use Rattle.fl_base.specs.Given.{given}
use Rattle.fl_compile.specs.declared.program.Program.{Program}
use Rattle.fl_wire.specs.declared.fault.WireFault.TheVariants as wiring
use Rattle.fl_link.specs.Queue.{TheQueue, QueuePuts, QueueTakes}
use Rattle.fl_hop.specs.declared.forward.ForwardOutcome.{ForwardOutcome}
use Rattle.fl_hop.specs.declared.forward.ForwardOutcome.TheVariants.{Moved, Full, Spent}
use Rattle.fl_core.proofs.BoardPlaces.{one_stands, set_here, set_elsewhere, push_stays, push_cases}
use Rattle.fl_core.specs.BoardView.{TheBoard}
use Rattle.fl_monitor.specs.Monitors.{TheMonitor}
use Rattle.fl_monitor.specs.declared.heard.MessageOutcome.{MessageOutcome}
use Rattle.fl_monitor.specs.declared.heard.MessageOutcome.TheVariants as outcome
use Rattle.fl_monitor.specs.declared.message.MonitorMessage.{MonitorMessage}
use Rattle.fl_core.specs.View.{TheCore, with_board, with_monitor, with_circuit_wired_end, circuit_wired_end, new_arrivals, failed_at, with_failed, arriving_at}
use Rattle.fl_core.specs.Links.{LooksAhead, inbound, ArrivesAt, MonitorWrites}
use Rattle.fl_core.specs.Hearing.{Offers, HearsFrag, HearsMessage, HearsAll, offering, Follows, BindsIf}
use Rattle.fl_core.specs.Making.{Asks, Asked}
use Rattle.fl_core.specs.declared.answer.LinkFront.{LinkFront}
use Rattle.fl_core.specs.declared.answer.LinkFront.TheVariants as ahead
use Rattle.fl_core.specs.declared.answer.MonitorWrite.{MonitorWrite}
use Rattle.fl_core.specs.declared.answer.MonitorWrite.TheVariants as said_as
use Rattle.fl_core.specs.declared.answer.MonitorAnswer.{MonitorAnswer}
use Rattle.fl_core.specs.declared.answer.MonitorAnswer.TheVariants as heard_as
use Rattle.fl_core.specs.declared.fault.LinkReceiveFault.{LinkReceiveFault}
use Rattle.fl_core.specs.declared.fault.LinkReceiveFault.TheVariants as link
use Rattle.fl_core.specs.declared.fault.OpenFault.{OpenFault}
use Rattle.fl_core.specs.declared.fault.OpenFault.TheVariants as opening
use Rattle.fl_core.specs.declared.hearing.OfferedService.{OfferedService}
use Rattle.fl_core.specs.declared.wiring.ArrivalPlace.{ArrivalPlace}
use Rattle.fl_core.specs.declared.wiring.LinkSide.{LinkSide}
use Rattle.fl_core.specs.declared.wiring.WiredEnd.{WiredEnd}
use Rattle.fl_core.specs.declared.wiring.EndWiring.{EndWiring}
use Rattle.fl_core.specs.declared.wiring.EndWiring.TheVariants.{Circuit}
use Rattle.fl_core.specs.declared.wiring.Outlet.TheVariants as outlet
use Rattle.fl_core.specs.declared.wiring.Inlet.TheVariants as inlet
use Rattle.fl_core.specs.Ends.{at_side}
use Rattle.fl_core_run.specs.Run.{SideRelations, TheRun}
use Rattle.fl_core_run.specs.LogEntries.{LogEntry, looked, passed, arrived, heard, said, told, opened, called, ruled, wrote, acked, turned, Does}
use Rattle.fl_core_run_laws.specs.Logs.{SidesGo}
use Rattle.fl_core_run_laws.proofs.Looking.{stay, put_one, looked_of, go_same, go_then, go_one, turn_looks}

abbrev pub IsCircuit : EndWiring → Type 0
IsCircuit (Circuit l a) = Unit {0}
IsCircuit other = ⊥

-- its arrival queues
abbrev pub QueuesGo : List TheQueue → List TheQueue → Type 0
QueuesGo ps qs = SidesGo QueuePuts QueueTakes ps qs

-- of link sides: there are as many, and each has the side that it had
abbrev pub LinkSidesStay : List LinkSide → List LinkSide → Type 0
LinkSidesStay xs ys = (length ys ≡ length xs) × ((l : ℕ) (link_side : LinkSide) → slice_get ys l ≡ Some link_side → (before : LinkSide) × (slice_get xs l ≡ Some before) × (link_side.side ≡ before.side))

-- of wired ends: each of before stands, and each is one of before, or a circuit's
abbrev pub WiredEndsGrow : List WiredEnd → List WiredEnd → Type 0
WiredEndsGrow xs ys = ((e : ℕ) (p : WiredEnd) → slice_get xs e ≡ Some p → slice_get ys e ≡ Some p)
    × ((e : ℕ) (p : WiredEnd) → slice_get ys e ≡ Some p → (slice_get xs e ≡ Some p) ⊎ IsCircuit p.wiring)

pub record Grows (k k2 : TheCore) : Type 0 where
  pub link_sides : LinkSidesStay k.link_sides k2.link_sides
  pub wired_ends : WiredEndsGrow k.wired_ends k2.wired_ends
  pub arrivals : QueuesGo k.arrivals k2.arrivals

-- ---- parts

link_sides_same : (xs ys : List LinkSide) → ys ≡ xs → LinkSidesStay xs ys
link_sides_same xs ys same = (ap length same, λ l link_side at. (link_side, ap (λ (zs : List LinkSide). slice_get zs l) (sym same) ∙ at, refl))

link_sides_then : (xs ys zs : List LinkSide) → LinkSidesStay xs ys → LinkSidesStay ys zs → LinkSidesStay xs zs
link_sides_then xs ys zs g h = (
  h.0 ∙ g.0,
  λ l link_side at.
      let (mid, there, one) = h.1 l link_side at in
      let (before, stood, two) = g.1 l mid there in
      (before, stood, one ∙ two),
)

wired_ends_same : (xs ys : List WiredEnd) → ys ≡ xs → WiredEndsGrow xs ys
wired_ends_same xs ys same = (λ e p at. ap (λ (zs : List WiredEnd). slice_get zs e) same ∙ at, λ e p at. inl (ap (λ (zs : List WiredEnd). slice_get zs e) (sym same) ∙ at))

wired_ends_then : (xs ys zs : List WiredEnd) → WiredEndsGrow xs ys → WiredEndsGrow ys zs → WiredEndsGrow xs zs
wired_ends_then xs ys zs g h = (
  λ e p at. h.0 e p (g.0 e p at),
  λ e p at. elim (h.1 e p at) [
    | inl there ↦ g.1 e p there
    | inr circuit ↦ inr circuit
  ],
)

wired_ends_more : (xs : List WiredEnd) (q : WiredEnd) → IsCircuit q.wiring → WiredEndsGrow xs (xs ++ q ∷ [])
wired_ends_more xs q circuit = (
  push_stays xs q,
  λ e p at. elim (push_cases xs q e p at) [
    | inl last ↦ inr (subst (λ (x : WiredEnd). IsCircuit x.wiring) (sym last.1) circuit)
    | inr there ↦ inl there
  ],
)

queues_more : (xs : List TheQueue) (q : TheQueue) → QueuesGo xs (xs ++ q ∷ [])
queues_more xs q n p at = (p, push_stays xs q n p at, stay QueuePuts QueueTakes p p refl)

-- ---- a link side that fails has its side

set_link_side : (xs : List LinkSide) (i l : ℕ) (there after link_side : LinkSide) (b : Bool) → slice_get xs i ≡ Some there → after.side ≡ there.side → (i == l) ≡ b
    → slice_get (slice_set xs i after) l ≡ Some link_side → (before : LinkSide) × (slice_get xs l ≡ Some before) × (link_side.side ≡ before.side)
set_link_side xs i l there after link_side true at side same is =
    let eq : i ≡ l = grind (arith, nat_tests, same) in
    let here : slice_get (slice_set xs i after) l ≡ Some after = subst (λ (j : ℕ). slice_get (slice_set xs i after) j ≡ Some after) eq (set_here xs i there after at) in
    let link_side_is : after ≡ link_side = one_stands (slice_set xs i after) l after link_side here is in
    (there, subst (λ (j : ℕ). slice_get xs j ≡ Some there) eq at, sym (ap (λ (x : LinkSide). x.side) link_side_is) ∙ side)
set_link_side xs i l there after link_side false at side same is =
    let ne : l ≢ i = λ e. absurd (grind (arith, nat_tests, same, e)) in
    (link_side, sym (set_elsewhere xs i l after ne) ∙ is, refl)

fails_by : (xs : List LinkSide) (i : ℕ) (o : Option LinkSide) → slice_get xs i ≡ o
    → LinkSidesStay xs (given o xs λ (link_side : LinkSide). slice_set xs i (record { side = link_side.side; failed = true }))
fails_by xs i None at = (refl, λ l link_side is. (link_side, is, refl))
fails_by xs i (Some there) at =
    (length-set xs i (record { side = there.side; failed = true }), λ l link_side is. set_link_side xs i l there (record { side = there.side; failed = true }) link_side (i == l) at refl refl is)

link_sides_fail : (xs : List LinkSide) (i : ℕ) → LinkSidesStay xs (failed_at xs i)
link_sides_fail xs i = fails_by xs i (slice_get xs i) refl

-- ---- a core

pub grows_then : (k m k2 : TheCore) → Grows k m → Grows m k2 → Grows k k2
grows_then k m k2 g h = record {
  link_sides = link_sides_then k.link_sides m.link_sides k2.link_sides g.link_sides h.link_sides;
  wired_ends = wired_ends_then k.wired_ends m.wired_ends k2.wired_ends g.wired_ends h.wired_ends;
  arrivals = go_then QueuePuts QueueTakes k.arrivals m.arrivals k2.arrivals g.arrivals h.arrivals;
}

-- links, ends and arrival queues are as they were
alike : (k k2 : TheCore) → k2.link_sides ≡ k.link_sides → k2.wired_ends ≡ k.wired_ends → k2.arrivals ≡ k.arrivals → Grows k k2
alike k k2 link_sides wired_ends arrivals = record {
  link_sides = link_sides_same k.link_sides k2.link_sides link_sides;
  wired_ends = wired_ends_same k.wired_ends k2.wired_ends wired_ends;
  arrivals = go_same QueuePuts QueueTakes k.arrivals k2.arrivals arrivals;
}

pub grows_same : (k k2 : TheCore) → k2 ≡ k → Grows k k2
grows_same k k2 h = alike k k2 (ap (λ (x : TheCore). x.link_sides) h) (ap (λ (x : TheCore). x.wired_ends) h) (ap (λ (x : TheCore). x.arrivals) h)

grows_fail : (k k2 : TheCore) (l : ℕ) → k2 ≡ with_failed k l → Grows k k2
grows_fail k k2 l h = subst (λ (x : TheCore). Grows k x) (sym h) (record {
  link_sides = link_sides_fail k.link_sides l;
  wired_ends = wired_ends_same k.wired_ends k.wired_ends refl;
  arrivals = go_same QueuePuts QueueTakes k.arrivals k.arrivals refl;
})

grows_board : (k k2 : TheCore) (b : TheBoard) → k2 ≡ with_board k b → Grows k k2
grows_board k k2 b h = alike k k2 (ap (λ (x : TheCore). x.link_sides) h) (ap (λ (x : TheCore). x.wired_ends) h) (ap (λ (x : TheCore). x.arrivals) h)

grows_monitor : (k k2 : TheCore) (m : TheMonitor) → k2 ≡ with_monitor k m → Grows k k2
grows_monitor k k2 m h = alike k k2 (ap (λ (x : TheCore). x.link_sides) h) (ap (λ (x : TheCore). x.wired_ends) h) (ap (λ (x : TheCore). x.arrivals) h)

grows_wired_end : (k k2 : TheCore) (b : TheBoard) (m : TheMonitor) (e : ℕ) (name : EndId) (l : LinkId) → k2 ≡ record (with_circuit_wired_end k b e name l) { monitor = m } → Grows k k2
grows_wired_end k k2 b m e name l h = subst (λ (x : TheCore). Grows k x) (sym h) (record {
  link_sides = link_sides_same k.link_sides k.link_sides refl;
  wired_ends = wired_ends_more k.wired_ends (circuit_wired_end name l (length k.arrivals)) tt;
  arrivals = queues_more k.arrivals new_arrivals;
})

-- ---- by what happened

ahead_grows : {S : Type 0} (w : SideRelations S) (l : ℕ) (k : TheCore) (p : S) (answer : Result LinkFront LinkReceiveFault) (k2 : TheCore) (q : S) → LooksAhead w.takes w.front l (at_side k p) answer (at_side k2 q) → Grows k k2
ahead_grows w l k p (Ok ahead.Nothing) k2 q h = grows_same k k2 h.1
ahead_grows w l k p (Ok ahead.Acknowledged) k2 q h = grows_same k k2 h.1
ahead_grows w l k p (Ok (ahead.Message frag)) k2 q h = grows_same k k2 h.1
ahead_grows w l k p (Ok (ahead.Onward frag side c)) k2 q h = grows_same k k2 h.1
ahead_grows w l k p (Ok (ahead.Arrival frag e)) k2 q h = grows_same k k2 h.1
ahead_grows w l k p (Err link.Failed) k2 q h = grows_same k k2 h.1
ahead_grows w l k p (Err link.Misrouted) k2 q h = grows_fail k k2 l h.1
ahead_grows w l k p (Err link.Marked) k2 q h = grows_fail k k2 l h.1
ahead_grows w l k p (Err (link.Wire f)) k2 q h = absurd h
ahead_grows w l k p (Err link.Memory) k2 q h = absurd h

arrives_grows : {S : Type 0} (w : SideRelations S) (l : ℕ) (frag : Frag) (e : EndId) (k : TheCore) (p : S) (answer : Result ForwardOutcome LinkReceiveFault) (k2 : TheCore) (q : S)
    → ArrivesAt w.takes (inbound l frag e) (at_side k p) answer (at_side k2 q) → Grows k k2
arrives_grows w l frag e k p (Ok result) k2 q h = subst (λ (x : TheCore). Grows k x) (sym h.rest) (record {
  link_sides = link_sides_same k.link_sides k.link_sides refl;
  wired_ends = wired_ends_same k.wired_ends k.wired_ends refl;
  arrivals = go_one QueuePuts QueueTakes k.arrivals h.queue h.before h.after h.before_is (looked_of QueuePuts QueueTakes _ _ _ _ (put_one QueuePuts QueueTakes h.before h.after _ h.puts));
})
arrives_grows w l frag e k p (Err link.Misrouted) k2 q h = grows_fail k k2 l h.1
arrives_grows w l frag e k p (Err link.Failed) k2 q h = absurd h
arrives_grows w l frag e k p (Err link.Marked) k2 q h = absurd h
arrives_grows w l frag e k p (Err (link.Wire f)) k2 q h = absurd h
arrives_grows w l frag e k p (Err link.Memory) k2 q h = absurd h

binds_grow : (o : Option ArrivalPlace) (c : Number) (k k2 : TheCore) → BindsIf o c k k2 → Grows k k2
binds_grow None c k k2 h = grows_same k k2 h
binds_grow (Some at) c k k2 h = grows_board k k2 k2.board h.rest

follows_grow : (programs : List Program) (offer : Option OfferedService) (l : LinkId) (heard : MessageOutcome) (k : TheCore) (answered : MonitorAnswer) (k2 : TheCore)
    → Follows (offering programs offer l) heard k answered k2 → Grows k k2
follows_grow programs offer l (outcome.ServerMade binding dispatcher c) k answered k2 h = grows_wired_end k k2 k2.board k.monitor h.1.end _ l h.1.rest
follows_grow programs offer l (outcome.EndOpened e c) k answered k2 h = binds_grow (arriving_at k e) c k k2 h.1
follows_grow programs offer l (outcome.EndRefused e reason) k answered k2 h = grows_same k k2 h.1
follows_grow programs offer l (outcome.OpeningWentOn binding n c) k answered k2 h = grows_same k k2 h.1
follows_grow programs offer l (outcome.OpeningFailed binding reason) k answered k2 h = grows_same k k2 h.1
follows_grow programs offer l (outcome.AnswerWentOn binding n c) k answered k2 h = grows_same k k2 h.1

all_grow : (o : Offers) (l : LinkId) (m : MonitorMessage) (k : TheCore) (answered : MonitorAnswer) (k2 : TheCore) → HearsAll o l m k answered k2 → Grows k k2
all_grow o l m k answered k2 h =
    grows_then k (with_monitor k h.monitor) k2 (grows_monitor k (with_monitor k h.monitor) h.monitor refl)
    (follows_grow o.programs _ l h.heard (with_monitor k h.monitor) answered k2 h.follows)

message_grows : (o : Offers) (l : LinkId) (m : MonitorMessage) (k : TheCore) (answer : Result MonitorAnswer LinkReceiveFault) (k2 : TheCore) → HearsMessage o l m k answer k2 → Grows k k2
message_grows o l m k (Ok heard_as.Full) k2 h = grows_same k k2 h.1
message_grows o l m k (Ok heard_as.Done) k2 h = all_grow o l m k heard_as.Done k2 h
message_grows o l m k (Ok (heard_as.Opened e)) k2 h = all_grow o l m k (heard_as.Opened e) k2 h
message_grows o l m k (Ok (heard_as.OpeningRefused e reason)) k2 h = all_grow o l m k (heard_as.OpeningRefused e reason) k2 h
message_grows o l m k (Err link.Misrouted) k2 h = grows_fail k k2 l.0 h.1
message_grows o l m k (Err link.Memory) k2 h = grows_same k k2 h
message_grows o l m k (Err link.Failed) k2 h = absurd h
message_grows o l m k (Err link.Marked) k2 h = absurd h
message_grows o l m k (Err (link.Wire f)) k2 h = absurd h

hears_grow : (o : Offers) (l : LinkId) (frag : Frag) (k : TheCore) (answer : Result MonitorAnswer LinkReceiveFault) (k2 : TheCore) → HearsFrag o l frag k answer k2 → Grows k k2
hears_grow o l frag k (Err (link.Wire wiring.Memory)) k2 h = absurd h
hears_grow o l frag k (Err (link.Wire wiring.NotFirst)) k2 h = grows_fail k k2 l.0 h.1
hears_grow o l frag k (Err (link.Wire wiring.FirstInside)) k2 h = grows_fail k k2 l.0 h.1
hears_grow o l frag k (Err (link.Wire wiring.UnknownMessage)) k2 h = grows_fail k k2 l.0 h.1
hears_grow o l frag k (Err (link.Wire wiring.NotZero)) k2 h = grows_fail k k2 l.0 h.1
hears_grow o l frag k (Err (link.Wire wiring.OutOfType)) k2 h = grows_fail k k2 l.0 h.1
hears_grow o l frag k (Err (link.Wire wiring.TooLong)) k2 h = grows_fail k k2 l.0 h.1
hears_grow o l frag k (Err link.Memory) k2 h = grows_same k k2 h
hears_grow o l frag k (Err link.Failed) k2 h = message_grows o l h.0 k (Err link.Failed) k2 h.2
hears_grow o l frag k (Err link.Misrouted) k2 h = message_grows o l h.0 k (Err link.Misrouted) k2 h.2
hears_grow o l frag k (Err link.Marked) k2 h = message_grows o l h.0 k (Err link.Marked) k2 h.2
hears_grow o l frag k (Ok answered) k2 h = message_grows o l h.0 k (Ok answered) k2 h.2

says_grow : {S : Type 0} (w : SideRelations S) (l : ℕ) (k : TheCore) (p : S) (answer : MonitorWrite) (k2 : TheCore) (q : S) → MonitorWrites w.puts l (at_side k p) answer (at_side k2 q) → Grows k k2
says_grow w l k p said_as.Written k2 q h = grows_monitor k k2 _ h.4
says_grow w l k p said_as.Full k2 q h = grows_same k k2 h.2
says_grow w l k p said_as.Spent k2 q h = grows_same k k2 h.2
says_grow w l k p said_as.Nothing k2 q h = grows_same k k2 h.1

asks_grow : (a : Asked) (k : TheCore) (answer : Result ℕ OpenFault) (k2 : TheCore) → Asks a k answer k2 → Grows k k2
asks_grow a k (Ok e) k2 h = grows_wired_end k k2 k2.board k2.monitor e _ a.link h.rest
asks_grow a k (Err (opening.Board fault)) k2 h = grows_same k k2 h.1
asks_grow a k (Err (opening.Monitor fault)) k2 h = grows_same k k2 h.2

pub does_grow : {S : Type 0} (w : SideRelations S) (log_entry : LogEntry) (s m : TheRun S) → Does w log_entry s m → Grows s.core m.core
does_grow w (looked n l answer) s m h = ahead_grows w l.0 s.core h.before answer m.core h.after h.event
does_grow w (passed n k frag c Moved) s m h =
    grows_then s.core h.0.core m.core (grows_same s.core h.0.core h.1.event.1) (grows_same h.0.core m.core h.2.event.1)
does_grow w (passed n k frag c Full) s m h = grows_same s.core m.core h.event.1
does_grow w (passed n k frag c Spent) s m h = grows_same s.core m.core h.event.1
does_grow w (arrived n l frag e answer) s m h = arrives_grows w l.0 frag e s.core h.before answer m.core h.after h.event
does_grow w (heard n l frag answer) s m h = hears_grow s.offers l frag s.core answer m.core h.event.0
does_grow w (said n l answer) s m h = says_grow w l.0 s.core h.before answer m.core h.after h.event
does_grow w (told n l answer) s m h = grows_same s.core m.core h.event.1
does_grow w (opened name request answer) s m h = asks_grow _ s.core answer m.core h.event.asks
does_grow w (called name c answer) s m h = grows_board s.core m.core m.core.board h.2.event.rest
does_grow w (ruled name msg reply answer) s m h = grows_board s.core m.core m.core.board h.2.event.rest
does_grow w (wrote name (outlet.Queue n) answer) s m h = grows_board s.core m.core m.core.board h.2.event.rest
does_grow w (wrote name (outlet.Side n) answer) s m h = grows_board s.core m.core m.core.board h.2.event.rest
does_grow w (acked name n answer) s m h = grows_same s.core m.core h.2.event.1
does_grow w (turned d name (inlet.Queue n) answer) s m h = grows_board s.core m.core m.core.board h.3.event.rest
does_grow w (turned d name (inlet.Side n) answer) s m h = grows_board s.core m.core m.core.board h.3.event.rest
does_grow w (turned d name inlet.Arrivals answer) s m h = subst (λ (x : TheCore). Grows s.core x) (sym h.3.event.rest) (record {
  link_sides = link_sides_same s.core.link_sides s.core.link_sides refl;
  wired_ends = wired_ends_same s.core.wired_ends s.core.wired_ends refl;
  arrivals = go_one QueuePuts QueueTakes s.core.arrivals h.3.event.place h.3.event.before h.3.event.after h.3.event.before_is
      (looked_of QueuePuts QueueTakes _ _ _ _ (turn_looks QueuePuts QueueTakes h.3.event.event.picked h.3.event.event.seat.kind _ answer _ h.3.event.event.looks));
})
