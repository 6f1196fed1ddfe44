-- Each event over sides is one over what they are shown as.
use Rattle.std.proofs.Common.{ℕ, zero, suc, ◌≡◌, refl, ap, ◌∙◌, List, [], ◌∷◌, map, set, Option, Result, Ok, Err}
use Rattle.std.proofs.lemmas.Option.{slice_get-map}
use Rattle.std.specs.Option.{option_map}
use Rattle.fl_base.specs.declared.identity.EndId.{EndId}
use Rattle.fl_base.specs.Control.{with_circuit, bare}
use Rattle.fl_link.specs.Looks.{Look, placed, no_room, spent, found}
use Rattle.fl_link.specs.Queue.{TheQueue}
use Rattle.fl_hop.specs.declared.forward.ForwardOutcome.{ForwardOutcome}
use Rattle.fl_hop.specs.declared.forward.ForwardOutcome.TheVariants.{Moved, Full, Spent}
use Rattle.fl_endpoint.specs.declared.fault.EndFault.{EndFault}
use Rattle.fl_endpoint.specs.declared.answer.WriteAnswer.{WriteAnswer}
use Rattle.fl_monitor.specs.declared.fault.MonitorFault.TheVariants as monitor
use Rattle.fl_core.specs.View.{TheCore}
use Rattle.fl_core.specs.Ends.{at_side, OnBoard, WritesAt}
use Rattle.fl_core.specs.BoardEvents.{Holds, Acks}
use Rattle.fl_core.specs.BoardTurns.{Turns}
use Rattle.fl_core.specs.BoardTurns.{over as over_side}
use Rattle.fl_core.specs.Links.{MonitorWrites, LooksAhead, inbound, ArrivesAt, Acknowledges}
use Rattle.fl_core.specs.Hearing.{HearsFrag, TakesHeard}
use Rattle.fl_core.specs.declared.turn_answer.TurnAnswer.{TurnAnswer}
use Rattle.fl_core.specs.declared.turn_answer.TurnAnswer.TheVariants as turn
use Rattle.fl_core.specs.declared.answer.MonitorAnswer.{MonitorAnswer}
use Rattle.fl_core.specs.declared.answer.MonitorAnswer.TheVariants as answer
use Rattle.fl_core.specs.declared.fault.LinkReceiveFault.{LinkReceiveFault}
use Rattle.fl_core.specs.declared.fault.OpenFault.{OpenFault}
use Rattle.fl_core.specs.declared.fault.OpenFault.TheVariants as opening
use Rattle.fl_core.specs.declared.wiring.Outlet.{Outlet}
use Rattle.fl_core.specs.declared.wiring.Outlet.TheVariants as outlet
use Rattle.fl_core.specs.declared.wiring.Inlet.{Inlet}
use Rattle.fl_core.specs.declared.wiring.Inlet.TheVariants as inlet
use Rattle.fl_core_run.specs.EndProgress.{TheEndProgress}
use Rattle.fl_core_run.specs.Run.{SideRelations, TheRun, AtProgress}
use Rattle.fl_core_run.specs.LogEntries.{LogEntry, looked, passed, arrived, heard, said, told, opened, called, ruled, wrote, acked, turned}
use Rattle.fl_core_run.specs.LogEntries.{OnRing, OnQueue, OnCore, HopOfFrag, passing, PassesOn, DispatcherTurn, dispatcher_turn, TurnsOver, WritesOver, Does, NotesHeard, NotesOpened, NotesCalled, NotesTurned, Notes, ActsSoundly, Happens}
use Rattle.fl_core_run.proofs.States.{heard_so, told_so, said_so, arrived_so, looked_so, wrote_so, acked_so, turned_so}
use Rattle.fl_history_runs.specs.Shown.{IsShownBy, shown_by}

pub map_set : {A B : Type 0} (f : A → B) (xs : List A) (n : ℕ) (y : A) → map f (set xs n y) ≡ set (map f xs) n (f y)
map_set f [] n y = refl
map_set f (x ∷ xs) zero y = refl
map_set {A} {B} f (x ∷ xs) (suc n) y = ap (λ (l : List B). f x ∷ l) (map_set f xs n y)

module _ {S T : Type 0} (f : S → T) (w : SideRelations S) (v : SideRelations T) (h : IsShownBy f w v) where
  abbrev shown : TheRun S → TheRun T
  shown s = shown_by f s

  -- nothing stays besides
  abbrev none : S → Unit {0}
  none p = tt

  puts_are : (p : S) (look : Look) (q : S) → w.puts p look q → v.puts (f p) look (f q) × (none p ≡ none q)
  puts_are p look q puts = (h.puts p look q puts, refl)

  takes_are : (p : S) (look : Look) (q : S) → w.takes p look q → v.takes (f p) look (f q) × (none p ≡ none q)
  takes_are p look q takes = (h.takes p look q takes, refl)

  -- ---- where an event happens

  on_ring : (n : ℕ) (s t : TheRun S) (E : TheCore → S → TheCore → S → Type 0) (E2 : TheCore → T → TheCore → T → Type 0) → ((p q : S) → E s.core p t.core q → E2 s.core (f p) t.core (f q))
      → OnRing n s E t → OnRing n (shown s) E2 (shown t)
  on_ring n s t E E2 so x = record {
    before = f x.before;
    before_is = slice_get-map f s.rings n ∙ ap (λ (o : Option S). option_map f o) x.before_is;
    after = f x.after;
    event = so x.before x.after x.event;
    rest = ap shown x.rest ∙ ap (λ (l : List T). record (shown s) { core = t.core; rings = l }) (map_set f s.rings n x.after);
  }

  on_queue : (n : ℕ) (s t : TheRun S) (E : TheCore → TheQueue → TheCore → TheQueue → Type 0) → OnQueue n s E t → OnQueue n (shown s) E (shown t)
  on_queue n s t E x = record { before = x.before; before_is = x.before_is; after = x.after; event = x.event; rest = ap shown x.rest }

  on_core : (s t : TheRun S) (E : TheCore → TheCore → Type 0) → OnCore s E t → OnCore (shown s) E (shown t)
  on_core s t E x = record { event = x.event; rest = ap shown x.rest }

  -- ---- parts of events

  puts_at : (n : ℕ) (look : Look) (s t : TheRun S) → OnRing n s (λ k p k2 q. w.puts p look q × (k2 ≡ k)) t → OnRing n (shown s) (λ k p k2 q. v.puts p look q × (k2 ≡ k)) (shown t)
  puts_at n look s t x = on_ring n s t (λ k p k2 q. w.puts p look q × (k2 ≡ k)) (λ k p k2 q. v.puts p look q × (k2 ≡ k)) (λ p q e. (h.puts p look q e.0, e.1)) x

  takes_at : (n : ℕ) (look : Look) (s t : TheRun S) → OnRing n s (λ k p k2 q. w.takes p look q × (k2 ≡ k)) t → OnRing n (shown s) (λ k p k2 q. v.takes p look q × (k2 ≡ k)) (shown t)
  takes_at n look s t x = on_ring n s t (λ k p k2 q. w.takes p look q × (k2 ≡ k)) (λ k p k2 q. v.takes p look q × (k2 ≡ k)) (λ p q e. (h.takes p look q e.0, e.1)) x

  passes : (x : HopOfFrag) (outcome : ForwardOutcome) (s t : TheRun S) → PassesOn w x outcome s t → PassesOn v x outcome (shown s) (shown t)
  passes x Moved s t (mid, put, took) = (shown mid, puts_at x.onto (placed (bare (with_circuit x.circuit.0 x.frag))) s mid put, takes_at x.from (found (bare x.frag)) mid t took)
  passes x Full s t put = puts_at x.onto no_room s t put
  passes x Spent s t put = puts_at x.onto spent s t put

  turns : (x : DispatcherTurn) (from : Inlet) (s t : TheRun S) → TurnsOver w x from s t → TurnsOver v x from (shown s) (shown t)
  turns x (inlet.Queue n) s t e = record { before = e.before; before_is = e.before_is; after = e.after; event = e.event; rest = ap shown e.rest }
  turns x (inlet.Side n) s t e =
      on_ring n s t (λ k p k2 q. OnBoard k (λ b c. Turns w.takes x.dispatcher x.end (over_side b p) x.answer (over_side c q)) k2)
      (λ k p k2 q. OnBoard k (λ b c. Turns v.takes x.dispatcher x.end (over_side b p) x.answer (over_side c q)) k2)
      (λ p q took. (turned_so w.takes v.takes f none takes_are x.dispatcher x.end s.core p x.answer t.core q took).0) e
  turns x inlet.Arrivals s t e = record { event = e.event; rest = ap shown e.rest }

  writes : (place : ℕ) (out : Outlet) (result : Result WriteAnswer EndFault) (s t : TheRun S) → WritesOver w place out result s t → WritesOver v place out result (shown s) (shown t)
  writes place (outlet.Queue n) result s t e = record { before = e.before; before_is = e.before_is; after = e.after; event = e.event; rest = ap shown e.rest }
  writes place (outlet.Side n) result s t e =
      on_ring n s t (λ k p k2 q. WritesAt w.puts place (at_side k p) result (at_side k2 q)) (λ k p k2 q. WritesAt v.puts place (at_side k p) result (at_side k2 q))
      (λ p q put. (wrote_so w.puts v.puts f none puts_are place s.core p result t.core q put).0) e

  -- ---- an event

  does : (entry : LogEntry) (s t : TheRun S) → Does w entry s t → Does v entry (shown s) (shown t)
  does (looked n l a) s t e =
      on_ring n s t (λ k p k2 q. LooksAhead w.takes w.front l.0 (at_side k p) a (at_side k2 q)) (λ k p k2 q. LooksAhead v.takes v.front l.0 (at_side k p) a (at_side k2 q))
      (λ p q x. (looked_so w.takes v.takes f none takes_are w.front v.front h.front l.0 s.core p a t.core q x).0) e
  does (passed n m frag c outcome) s t e = passes (passing n m frag c) outcome s t e
  does (arrived n l frag end a) s t e =
      on_ring n s t (λ k p k2 q. ArrivesAt w.takes (inbound l.0 frag end) (at_side k p) a (at_side k2 q)) (λ k p k2 q. ArrivesAt v.takes (inbound l.0 frag end) (at_side k p) a (at_side k2 q))
      (λ p q x. (arrived_so w.takes v.takes f none takes_are (inbound l.0 frag end) s.core p a t.core q x).0) e
  does (heard n l frag a) s t e =
      on_ring n s t (λ k p k2 q. HearsFrag s.offers l frag k a k2 × TakesHeard w.takes frag p a q) (λ k p k2 q. HearsFrag s.offers l frag k a k2 × TakesHeard v.takes frag p a q)
      (λ p q x. (x.0, (heard_so w.takes v.takes f none takes_are frag p a q x.1).0)) e
  does (said n l a) s t e =
      on_ring n s t (λ k p k2 q. MonitorWrites w.puts l.0 (at_side k p) a (at_side k2 q)) (λ k p k2 q. MonitorWrites v.puts l.0 (at_side k p) a (at_side k2 q))
      (λ p q x. (said_so w.puts v.puts f none puts_are l.0 s.core p a t.core q x).0) e
  does (told n l a) s t e =
      on_ring n s t (λ k p k2 q. Acknowledges w.takes p a q × (k2 ≡ k)) (λ k p k2 q. Acknowledges v.takes p a q × (k2 ≡ k))
      (λ p q x. ((told_so w.takes v.takes f none takes_are p a q x.0).0, x.1)) e
  does (opened name request a) s t e = record { event = e.event; rest = ap shown e.rest }
  does (called name c a) s t (place, is, e) = (place, is, record { event = e.event; rest = ap shown e.rest })
  does (ruled name msg reply a) s t (place, is, e) = (place, is, record { event = e.event; rest = ap shown e.rest })
  does (wrote name out a) s t (place, is, e) = (place, is, writes place out a s t e)
  does (acked name n a) s t (place, is, e) = (
    place,
    is,
    on_ring n s t (λ k p k2 q. Holds k.board place (λ x. Acks w.takes x.kind x.end p a q) × (k2 ≡ k)) (λ k p k2 q. Holds k.board place (λ x. Acks v.takes x.kind x.end p a q) × (k2 ≡ k))
        (λ p q x. ((acked_so w.takes v.takes f none takes_are s.core.board place p a q x.0).0, x.1)) e,
  )
  does (turned d name from a) s t (place, is, due_is, e) = (place, is, due_is, turns (dispatcher_turn d place (Ok a)) from s t e)

  -- ---- and what is noted

  at_progress : (name : EndId) (change : TheEndProgress → TheEndProgress) (s t : TheRun S) → AtProgress name change s t → AtProgress name change (shown s) (shown t)
  at_progress name change s t x = record { changes = x.changes; rest = ap shown x.rest }

  notes_heard : (a : Result MonitorAnswer LinkReceiveFault) (s t : TheRun S) → NotesHeard a s t → NotesHeard a (shown s) (shown t)
  notes_heard (Ok (answer.OpeningRefused e reason)) s t x = record { changes = x.changes; rest = ap shown x.rest }
  notes_heard (Ok answer.Full) s t x = ap shown x
  notes_heard (Ok answer.Done) s t x = ap shown x
  notes_heard (Ok (answer.Opened e)) s t x = ap shown x
  notes_heard (Err wrong) s t x = ap shown x

  notes_opened : (name : EndId) (a : Result ℕ OpenFault) (s t : TheRun S) → NotesOpened name a s t → NotesOpened name a (shown s) (shown t)
  notes_opened name (Ok e) s t x = record { changes = x.changes; rest = ap shown x.rest }
  notes_opened name (Err (opening.Board wrong)) s t x = record { changes = x.changes; rest = ap shown x.rest }
  notes_opened name (Err (opening.Monitor monitor.OutboxFull)) s t x = ap shown x
  notes_opened name (Err (opening.Monitor monitor.Misrouted)) s t x = record { changes = x.changes; rest = ap shown x.rest }
  notes_opened name (Err (opening.Monitor monitor.Differs)) s t x = record { changes = x.changes; rest = ap shown x.rest }
  notes_opened name (Err (opening.Monitor monitor.NoRoute)) s t x = record { changes = x.changes; rest = ap shown x.rest }
  notes_opened name (Err (opening.Monitor monitor.UsedUp)) s t x = record { changes = x.changes; rest = ap shown x.rest }
  notes_opened name (Err (opening.Monitor monitor.PlansDiffer)) s t x = record { changes = x.changes; rest = ap shown x.rest }
  notes_opened name (Err (opening.Monitor monitor.Memory)) s t x = record { changes = x.changes; rest = ap shown x.rest }

  notes_called : (name : EndId) (a : Result (Unit {0}) EndFault) (s t : TheRun S) → NotesCalled name a s t → NotesCalled name a (shown s) (shown t)
  notes_called name (Ok done) s t x = record { changes = x.changes; rest = ap shown x.rest }
  notes_called name (Err wrong) s t x = ap shown x

  notes_turned : (name : EndId) (a : TurnAnswer) (s t : TheRun S) → NotesTurned name a s t → NotesTurned name a (shown s) (shown t)
  notes_turned name (turn.Handle call) s t x = record { changes = x.changes; rest = ap shown x.rest }
  notes_turned name turn.Part s t x = ap shown x
  notes_turned name turn.Ready s t x = ap shown x
  notes_turned name turn.Quiet s t x = ap shown x
  notes_turned name turn.Full s t x = ap shown x
  notes_turned name turn.Nothing s t x = ap shown x
  notes_turned name (turn.Refused wrong) s t x = ap shown x

  notes : (entry : LogEntry) (s t : TheRun S) → Notes entry s t → Notes entry (shown s) (shown t)
  notes (looked n l a) s t x = ap shown x
  notes (passed n m frag c outcome) s t x = ap shown x
  notes (arrived n l frag end a) s t x = ap shown x
  notes (heard n l frag a) s t x = notes_heard a s t x
  notes (said n l a) s t x = ap shown x
  notes (told n l a) s t x = ap shown x
  notes (opened name request a) s t x = notes_opened name a s t x
  notes (called name c a) s t x = notes_called name a s t x
  notes (ruled name msg reply a) s t x = record { changes = x.changes; rest = ap shown x.rest }
  notes (wrote name out a) s t x = ap shown x
  notes (acked name n a) s t x = ap shown x
  notes (turned d name from a) s t x = notes_turned name a s t x

  acts : (entry : LogEntry) (s : TheRun S) → ActsSoundly entry s → ActsSoundly entry (shown s)
  acts (looked n l a) s x = tt
  acts (passed n m frag c outcome) s x = tt
  acts (arrived n l frag end a) s x = tt
  acts (heard n l frag a) s x = tt
  acts (said n l a) s x = tt
  acts (told n l a) s x = tt
  acts (opened name request a) s x = tt
  acts (called name c a) s x = x
  acts (ruled name msg reply a) s x = x
  acts (wrote name out a) s x = x
  acts (acked name n a) s x = tt
  acts (turned d name from a) s x = x

  pub happens : (entry : LogEntry) (s t : TheRun S) → Happens w entry s t → Happens v entry (shown_by f s) (shown_by f t)
  happens entry s t (m, did, noted, sound, acted, whole) =
      (shown m, does entry s m did, notes entry m t noted, sound, acts entry s acted, h.whole s.rings whole)
