-- Arrival queues: what was put there arrived for its end, and what was taken its end took; and what an end of a circuit put went onto its link.
use Rattle.std.proofs.Common.{◌≡◌, refl, sym, ap, ◌∙◌, subst, ℕ, ◌==◌, if◌then◌else◌, List, [], ◌∷◌, ◌++◌, map, slice_get, slice_set, arith}
use Rattle.std.proofs.Common.{Option, Some, None, Bool, true, false, Result, Ok, Err}
use Rattle.std.proofs.lemmas.Bool.Decides.{nat_tests}
use Rattle.std.proofs.lemmas.List.{append-nil}
use Rattle.fl_base.specs.declared.fragment.Frag.{Frag}
use Rattle.fl_base.specs.declared.identity.EndId.{EndId}
use Rattle.fl_base.specs.declared.identity.LinkId.{LinkId}
use Rattle.fl_base.specs.declared.identity.Circuit.{Circuit as Number}
use Rattle.fl_base.specs.Given.{given}
use Rattle.fl_link.specs.Looks.{placed, no_room, spent}
use Rattle.fl_link.specs.Queue.{TheQueue, QueuePuts, QueueTakes}
use Rattle.fl_hop.specs.declared.entry.HopTarget.TheVariants.{End}
use Rattle.fl_hop.specs.declared.forward.ForwardOutcome.TheVariants.{Moved, Full, Spent}
use Rattle.fl_hop.specs.OfCircuit.{as_carried}
use Rattle.fl_hop.specs.Stretch.{passed as hop_passed, said as hop_said, heard as hop_heard, same_end, come_to, written_by}
use Rattle.fl_hop.specs.Table.{TheCircuits}
use Rattle.fl_compile.specs.declared.program.Program.{Program}
use Rattle.fl_wire.specs.declared.fault.WireFault.TheVariants as wiring
use Rattle.fl_core.proofs.BoardPlaces.{one_stands, push_stays}
use Rattle.fl_core.specs.declared.turn_answer.TurnAnswer.{TurnAnswer}
use Rattle.fl_monitor.specs.Monitors.{TheMonitor, waiting_for}
use Rattle.fl_monitor.specs.declared.heard.MessageOutcome.{MessageOutcome}
use Rattle.fl_monitor.specs.declared.heard.MessageOutcome.TheVariants as outcome
use Rattle.fl_monitor.specs.declared.message.MonitorMessage.{MonitorMessage}
use Rattle.fl_core.specs.View.{TheCore, place_of, arrivals_of, arrivals_by, arriving, arriving_at, new_arrivals, with_monitor, inlet_by}
use Rattle.fl_core.specs.Sound.{IsCore}
use Rattle.fl_core.specs.Links.{LooksAhead, MonitorWrites}
use Rattle.fl_core.specs.Hearing.{Offers, offer_for, HearsFrag, HearsMessage, HearsAll, offering, Follows, BindsIf}
use Rattle.fl_core.specs.Making.{Asked, Asks}
use Rattle.fl_core.specs.declared.answer.LinkFront.{LinkFront}
use Rattle.fl_core.specs.declared.answer.LinkFront.TheVariants as ahead
use Rattle.fl_core.specs.declared.answer.MonitorWrite.{MonitorWrite}
use Rattle.fl_core.specs.declared.answer.MonitorWrite.TheVariants as said_as
use Rattle.fl_core.specs.declared.answer.MonitorAnswer.{MonitorAnswer}
use Rattle.fl_core.specs.declared.answer.MonitorAnswer.TheVariants as heard_as
use Rattle.fl_core.specs.declared.fault.LinkReceiveFault.{LinkReceiveFault}
use Rattle.fl_core.specs.declared.fault.LinkReceiveFault.TheVariants as link
use Rattle.fl_core.specs.declared.fault.OpenFault.{OpenFault}
use Rattle.fl_core.specs.declared.fault.OpenFault.TheVariants as opening
use Rattle.fl_core.specs.declared.hearing.OfferedService.{OfferedService}
use Rattle.fl_core.specs.declared.wiring.ArrivalPlace.{ArrivalPlace}
use Rattle.fl_core.specs.declared.wiring.WiredEnd.{WiredEnd}
use Rattle.fl_core.specs.declared.wiring.EndWiring.TheVariants.{Circuit}
use Rattle.fl_core.specs.declared.wiring.Outlet.TheVariants as outlet
use Rattle.fl_core.specs.declared.wiring.Inlet.{Inlet}
use Rattle.fl_core.specs.declared.wiring.Inlet.TheVariants as inlet
use Rattle.fl_core.specs.Ends.{at_side as lent}
use Rattle.fl_core.specs.declared.core_job.CoreJob.{CoreJob}
use Rattle.fl_core_run.specs.Run.{SideRelations, TheRun}
use Rattle.fl_core_run.specs.LogEntries.{LogEntry, looked, passed, arrived, heard, said, told, opened, called, ruled, wrote, acked, turned, Does}
use Rattle.fl_core_run_laws.specs.Logs.{InPlace, Carries}
use Rattle.fl_core_run_laws.proofs.Looking.{if_arrived, if_heard, if_said, idle, put_one, turn_looks}
use Rattle.fl_core_run_laws.proofs.Carrying.{write_put, turns_took, acted_put, acted_took, of_end}
use Rattle.fl_core_run_laws.proofs.Bearing.{at_side, BearsAt, nothing_there, bears_same, bears_one}
use Rattle.fl_core_run_laws.proofs.Handling.{one_end}
use Rattle.fl_core_run_laws.proofs.Laning.{link_by, link_at, steps_of, steps_by, event_steps, takes_from, wired_end_in}
use Rattle.fl_core_run_laws.proofs.Seating.{Sits, sits_first, apart, together}

-- ---- what an event put to arrival queue i, and what it took there

abbrev pub arrival_put : {S : Type 0} (w : SideRelations S) (log_entry : LogEntry) (s m : TheRun S) → Does w log_entry s m → ℕ → List Frag
arrival_put w (arrived n l frag e (Ok Moved)) s m h i = at_side h.event.queue i (as_carried frag ∷ [])
arrival_put w log_entry s m h i = []

abbrev pub arrival_took : {S : Type 0} (w : SideRelations S) (log_entry : LogEntry) (s m : TheRun S) → Does w log_entry s m → ℕ → List Frag
arrival_took w (turned d e inlet.Arrivals answer) s m h i = at_side h.3.event.place i (turns_took w d h.0 inlet.Arrivals answer s m h.3)
arrival_took w log_entry s m h i = []

abbrev pub ArrivalsBear : TheCore → TheCore → ℕ → List Frag → List Frag → Type 0
ArrivalsBear k m i put took = BearsAt QueuePuts QueueTakes k.arrivals m.arrivals i put took

same_queues : (k m : TheCore) (i : ℕ) → m.arrivals ≡ k.arrivals → ArrivalsBear k m i [] []
same_queues k m i same = bears_same QueuePuts QueueTakes k.arrivals m.arrivals i same

-- one queue more
more_queues : (k m : TheCore) (i : ℕ) (q : TheQueue) → m.arrivals ≡ k.arrivals ++ q ∷ [] → ArrivalsBear k m i [] []
more_queues k m i q more p at = (p, ap (λ (xs : List TheQueue). slice_get xs i) more ∙ push_stays k.arrivals q i p at, idle QueuePuts QueueTakes p p refl)

ahead_queues : {S : Type 0} (w : SideRelations S) (l : ℕ) (k : TheCore) (p : S) (answer : Result LinkFront LinkReceiveFault) (k2 : TheCore) (q : S) → LooksAhead w.takes w.front l (lent k p) answer (lent k2 q) → k2.arrivals ≡ k.arrivals
ahead_queues w l k p (Ok ahead.Nothing) k2 q h = ap (λ (x : TheCore). x.arrivals) h.1
ahead_queues w l k p (Ok ahead.Acknowledged) k2 q h = ap (λ (x : TheCore). x.arrivals) h.1
ahead_queues w l k p (Ok (ahead.Message frag)) k2 q h = ap (λ (x : TheCore). x.arrivals) h.1
ahead_queues w l k p (Ok (ahead.Onward frag side c)) k2 q h = ap (λ (x : TheCore). x.arrivals) h.1
ahead_queues w l k p (Ok (ahead.Arrival frag e)) k2 q h = ap (λ (x : TheCore). x.arrivals) h.1
ahead_queues w l k p (Err link.Failed) k2 q h = ap (λ (x : TheCore). x.arrivals) h.1
ahead_queues w l k p (Err link.Misrouted) k2 q h = ap (λ (x : TheCore). x.arrivals) h.1
ahead_queues w l k p (Err link.Marked) k2 q h = ap (λ (x : TheCore). x.arrivals) h.1
ahead_queues w l k p (Err (link.Wire f)) k2 q h = absurd h
ahead_queues w l k p (Err link.Memory) k2 q h = absurd h

says_queues : {S : Type 0} (w : SideRelations S) (l : ℕ) (k : TheCore) (p : S) (answer : MonitorWrite) (k2 : TheCore) (q : S) → MonitorWrites w.puts l (lent k p) answer (lent k2 q) → k2.arrivals ≡ k.arrivals
says_queues w l k p said_as.Written k2 q h = ap (λ (x : TheCore). x.arrivals) h.4
says_queues w l k p said_as.Full k2 q h = ap (λ (x : TheCore). x.arrivals) h.2
says_queues w l k p said_as.Spent k2 q h = ap (λ (x : TheCore). x.arrivals) h.2
says_queues w l k p said_as.Nothing k2 q h = ap (λ (x : TheCore). x.arrivals) h.1

module _ (k k2 : TheCore) (i : ℕ) where
  abbrev Rests : Type 0
  Rests = ArrivalsBear k k2 i [] []

  binds_rest : (m : TheMonitor) (o : Option ArrivalPlace) (c : Number) → BindsIf o c (with_monitor k m) k2 → Rests
  binds_rest m None c h = same_queues k k2 i (ap (λ (x : TheCore). x.arrivals) h)
  binds_rest m (Some x) c h = same_queues k k2 i (ap (λ (x : TheCore). x.arrivals) h.rest)

  follows_rest : (programs : List Program) (offer : Option OfferedService) (l : LinkId) (h : MessageOutcome) (m : TheMonitor) (answered : MonitorAnswer) → Follows (offering programs offer l) h (with_monitor k m) answered k2 → Rests
  follows_rest programs offer l (outcome.ServerMade binding dispatcher c) m answered f = more_queues k k2 i new_arrivals (ap (λ (x : TheCore). x.arrivals) f.1.rest)
  follows_rest programs offer l (outcome.EndOpened e c) m answered f = binds_rest m (arriving_at (with_monitor k m) e) c f.1
  follows_rest programs offer l (outcome.EndRefused e reason) m answered f = same_queues k k2 i (ap (λ (x : TheCore). x.arrivals) f.1)
  follows_rest programs offer l (outcome.OpeningWentOn binding n c) m answered f = same_queues k k2 i (ap (λ (x : TheCore). x.arrivals) f.1)
  follows_rest programs offer l (outcome.OpeningFailed binding reason) m answered f = same_queues k k2 i (ap (λ (x : TheCore). x.arrivals) f.1)
  follows_rest programs offer l (outcome.AnswerWentOn binding n c) m answered f = same_queues k k2 i (ap (λ (x : TheCore). x.arrivals) f.1)

  all_rest : (o : Offers) (l : LinkId) (msg : MonitorMessage) (answered : MonitorAnswer) → HearsAll o l msg k answered k2 → Rests
  all_rest o l msg answered h = follows_rest o.programs (offer_for o k msg) l h.heard h.monitor answered h.follows

  message_rest : (o : Offers) (l : LinkId) (msg : MonitorMessage) (answer : Result MonitorAnswer LinkReceiveFault) → HearsMessage o l msg k answer k2 → Rests
  message_rest o l msg (Ok heard_as.Full) h = same_queues k k2 i (ap (λ (x : TheCore). x.arrivals) h.1)
  message_rest o l msg (Ok heard_as.Done) h = all_rest o l msg heard_as.Done h
  message_rest o l msg (Ok (heard_as.Opened e)) h = all_rest o l msg (heard_as.Opened e) h
  message_rest o l msg (Ok (heard_as.OpeningRefused e reason)) h = all_rest o l msg (heard_as.OpeningRefused e reason) h
  message_rest o l msg (Err link.Misrouted) h = same_queues k k2 i (ap (λ (x : TheCore). x.arrivals) h.1)
  message_rest o l msg (Err link.Memory) h = same_queues k k2 i (ap (λ (x : TheCore). x.arrivals) h)
  message_rest o l msg (Err link.Failed) h = absurd h
  message_rest o l msg (Err link.Marked) h = absurd h
  message_rest o l msg (Err (link.Wire f)) h = absurd h

  hears_rest : (o : Offers) (l : LinkId) (frag : Frag) (answer : Result MonitorAnswer LinkReceiveFault) → HearsFrag o l frag k answer k2 → Rests
  hears_rest o l frag (Err (link.Wire wiring.Memory)) h = absurd h
  hears_rest o l frag (Err (link.Wire wiring.NotFirst)) h = same_queues k k2 i (ap (λ (x : TheCore). x.arrivals) h.1)
  hears_rest o l frag (Err (link.Wire wiring.FirstInside)) h = same_queues k k2 i (ap (λ (x : TheCore). x.arrivals) h.1)
  hears_rest o l frag (Err (link.Wire wiring.UnknownMessage)) h = same_queues k k2 i (ap (λ (x : TheCore). x.arrivals) h.1)
  hears_rest o l frag (Err (link.Wire wiring.NotZero)) h = same_queues k k2 i (ap (λ (x : TheCore). x.arrivals) h.1)
  hears_rest o l frag (Err (link.Wire wiring.OutOfType)) h = same_queues k k2 i (ap (λ (x : TheCore). x.arrivals) h.1)
  hears_rest o l frag (Err (link.Wire wiring.TooLong)) h = same_queues k k2 i (ap (λ (x : TheCore). x.arrivals) h.1)
  hears_rest o l frag (Err link.Memory) h = same_queues k k2 i (ap (λ (x : TheCore). x.arrivals) h)
  hears_rest o l frag (Err link.Failed) h = message_rest o l h.0 (Err link.Failed) h.2
  hears_rest o l frag (Err link.Misrouted) h = message_rest o l h.0 (Err link.Misrouted) h.2
  hears_rest o l frag (Err link.Marked) h = message_rest o l h.0 (Err link.Marked) h.2
  hears_rest o l frag (Ok answered) h = message_rest o l h.0 (Ok answered) h.2

  asks_rest : (a : Asked) (answer : Result ℕ OpenFault) → Asks a k answer k2 → Rests
  asks_rest a (Ok e) h = more_queues k k2 i new_arrivals (ap (λ (x : TheCore). x.arrivals) h.rest)
  asks_rest a (Err (opening.Board fault)) h = same_queues k k2 i (ap (λ (x : TheCore). x.arrivals) h.1)
  asks_rest a (Err (opening.Monitor fault)) h = same_queues k k2 i (ap (λ (x : TheCore). x.arrivals) h.2)

  -- one queue changed
  one_queue : (n : ℕ) (before after : TheQueue) (put took : List Frag) → slice_get k.arrivals n ≡ Some before → k2.arrivals ≡ slice_set k.arrivals n after → Carries QueuePuts QueueTakes put took before after
      → ArrivalsBear k k2 i (at_side n i put) (at_side n i took)
  one_queue n before after put took there is c = bears_one QueuePuts QueueTakes k.arrivals k2.arrivals n i before after put took there is c

  -- nothing was put to it, or nothing taken
  no_take : (n : ℕ) (put : List Frag) → ArrivalsBear k k2 i (at_side n i put) (at_side n i []) → ArrivalsBear k k2 i (at_side n i put) []
  no_take n put h = subst (λ (xs : List Frag). ArrivalsBear k k2 i (at_side n i put) xs) (nothing_there n i) h

  no_put : (n : ℕ) (took : List Frag) → ArrivalsBear k k2 i (at_side n i []) (at_side n i took) → ArrivalsBear k k2 i [] (at_side n i took)
  no_put n took h = subst (λ (xs : List Frag). ArrivalsBear k k2 i xs (at_side n i took)) (nothing_there n i) h

-- nothing was put or taken
quiet : (k k2 : TheCore) (i n : ℕ) (before after : TheQueue) → slice_get k.arrivals n ≡ Some before → k2.arrivals ≡ slice_set k.arrivals n after → Carries QueuePuts QueueTakes [] [] before after → ArrivalsBear k k2 i [] []
quiet k k2 i n before after there is c =
    subst (λ (xs : List Frag). ArrivalsBear k k2 i xs []) (nothing_there n i) (no_take k k2 i n [] (one_queue k k2 i n before after [] [] there is c))

pub arrivals_bear : {S : Type 0} (w : SideRelations S) (log_entry : LogEntry) (s m : TheRun S) (h : Does w log_entry s m) (i : ℕ) → ArrivalsBear s.core m.core i (arrival_put w log_entry s m h i) (arrival_took w log_entry s m h i)
arrivals_bear w (looked n l answer) s m h i = same_queues s.core m.core i (ahead_queues w l.0 s.core h.before answer m.core h.after h.event)
arrivals_bear w (passed n k frag c Moved) s m h i = same_queues s.core m.core i (ap (λ (x : TheCore). x.arrivals) (h.2.event.1 ∙ h.1.event.1))
arrivals_bear w (passed n k frag c Full) s m h i = same_queues s.core m.core i (ap (λ (x : TheCore). x.arrivals) h.event.1)
arrivals_bear w (passed n k frag c Spent) s m h i = same_queues s.core m.core i (ap (λ (x : TheCore). x.arrivals) h.event.1)
arrivals_bear w (arrived n l frag e (Ok Moved)) s m h i =
    no_take s.core m.core i h.event.queue (as_carried frag ∷ [])
    (one_queue s.core m.core i h.event.queue h.event.before h.event.after (as_carried frag ∷ []) [] h.event.before_is (ap (λ (x : TheCore). x.arrivals) h.event.rest)
    (put_one QueuePuts QueueTakes h.event.before h.event.after (placed (as_carried frag)) h.event.puts))
arrivals_bear w (arrived n l frag e (Ok Full)) s m h i = quiet s.core m.core i h.event.queue h.event.before h.event.after h.event.before_is (ap (λ (x : TheCore). x.arrivals) h.event.rest)
    (put_one QueuePuts QueueTakes h.event.before h.event.after no_room h.event.puts)
arrivals_bear w (arrived n l frag e (Ok Spent)) s m h i = quiet s.core m.core i h.event.queue h.event.before h.event.after h.event.before_is (ap (λ (x : TheCore). x.arrivals) h.event.rest)
    (put_one QueuePuts QueueTakes h.event.before h.event.after spent h.event.puts)
arrivals_bear w (arrived n l frag e (Err link.Misrouted)) s m h i = same_queues s.core m.core i (ap (λ (x : TheCore). x.arrivals) h.event.1)
arrivals_bear w (arrived n l frag e (Err link.Failed)) s m h i = absurd h.event
arrivals_bear w (arrived n l frag e (Err link.Marked)) s m h i = absurd h.event
arrivals_bear w (arrived n l frag e (Err (link.Wire f))) s m h i = absurd h.event
arrivals_bear w (arrived n l frag e (Err link.Memory)) s m h i = absurd h.event
arrivals_bear w (heard n l frag answer) s m h i = hears_rest s.core m.core i s.offers l frag answer h.event.0
arrivals_bear w (said n l answer) s m h i = same_queues s.core m.core i (says_queues w l.0 s.core h.before answer m.core h.after h.event)
arrivals_bear w (told n l answer) s m h i = same_queues s.core m.core i (ap (λ (x : TheCore). x.arrivals) h.event.1)
arrivals_bear w (opened name request answer) s m h i = asks_rest s.core m.core i _ answer h.event.asks
arrivals_bear w (called name c answer) s m h i = same_queues s.core m.core i (ap (λ (x : TheCore). x.arrivals) h.2.event.rest)
arrivals_bear w (ruled name msg reply answer) s m h i = same_queues s.core m.core i (ap (λ (x : TheCore). x.arrivals) h.2.event.rest)
arrivals_bear w (wrote name (outlet.Queue n) answer) s m h i = same_queues s.core m.core i (ap (λ (x : TheCore). x.arrivals) h.2.event.rest)
arrivals_bear w (wrote name (outlet.Side n) answer) s m h i = same_queues s.core m.core i (ap (λ (x : TheCore). x.arrivals) h.2.event.rest)
arrivals_bear w (acked name n answer) s m h i = same_queues s.core m.core i (ap (λ (x : TheCore). x.arrivals) h.2.event.1)
arrivals_bear w (turned d name (inlet.Queue n) answer) s m h i = same_queues s.core m.core i (ap (λ (x : TheCore). x.arrivals) h.3.event.rest)
arrivals_bear w (turned d name (inlet.Side n) answer) s m h i = same_queues s.core m.core i (ap (λ (x : TheCore). x.arrivals) h.3.event.rest)
arrivals_bear w (turned d name inlet.Arrivals answer) s m h i =
    no_put s.core m.core i h.3.event.place (turns_took w d h.0 inlet.Arrivals answer s m h.3)
    (one_queue s.core m.core i h.3.event.place h.3.event.before h.3.event.after [] (turns_took w d h.0 inlet.Arrivals answer s m h.3) h.3.event.before_is (ap (λ (x : TheCore). x.arrivals) h.3.event.rest)
    (turn_looks QueuePuts QueueTakes h.3.event.event.picked h.3.event.event.seat.kind _ answer _ h.3.event.event.looks))

-- ---- what steps bring to an end, and what of them it wrote

module _ (t : TheCircuits) (name : EndId) where
  pub heard_come : (l : ℕ) (frags : List Frag) → come_to name (steps_of t (hop_heard l) frags) ≡ []
  heard_come l [] = refl
  heard_come l (f ∷ frags) = heard_come l frags

  pub said_come : (l : ℕ) (frags : List Frag) → come_to name (steps_of t (hop_said l) frags) ≡ []
  said_come l [] = refl
  said_come l (f ∷ frags) = said_come l frags

  pub wrote_come : (o : Option LinkId) (n : EndId) (frags : List Frag) → come_to name (steps_by t o n frags) ≡ []
  wrote_come None n frags = refl
  wrote_come (Some l) n [] = refl
  wrote_come (Some l) n (f ∷ frags) = wrote_come (Some l) n frags

  pub heard_written : (l : ℕ) (frags : List Frag) → written_by name (steps_of t (hop_heard l) frags) ≡ []
  heard_written l [] = refl
  heard_written l (f ∷ frags) = heard_written l frags

  pub said_written : (l : ℕ) (frags : List Frag) → written_by name (steps_of t (hop_said l) frags) ≡ []
  said_written l [] = refl
  said_written l (f ∷ frags) = said_written l frags

  pub passed_written : (l : ℕ) (e : EndId) (frags : List Frag) → written_by name (steps_of t (λ f. hop_passed l f (End e)) frags) ≡ []
  passed_written l e [] = refl
  passed_written l e (f ∷ frags) = passed_written l e frags

  -- what the end itself wrote, or another
  wrote_written : (l : LinkId) (n : EndId) (frags : List Frag) (b : Bool) → same_end n name ≡ b → written_by name (steps_by t (Some l) n frags) ≡ map as_carried (if b then frags else [])
  wrote_written l n [] true is = refl
  wrote_written l n [] false is = refl
  wrote_written l n (f ∷ frags) true is = ap (λ (c : Bool). (if c then as_carried f ∷ [] else []) ++ written_by name (steps_by t (Some l) n frags)) is ∙ ap (λ (xs : List Frag). as_carried f ∷ xs) (wrote_written l n frags true is)
  wrote_written l n (f ∷ frags) false is = ap (λ (c : Bool). (if c then as_carried f ∷ [] else []) ++ written_by name (steps_by t (Some l) n frags)) is ∙ wrote_written l n frags false is

  pub none_written : (n : EndId) (frags : List Frag) (o : Option LinkId) → same_end n name ≡ false → written_by name (steps_by t o n frags) ≡ []
  none_written n frags None is = refl
  none_written n frags (Some l) is = wrote_written l n frags false is

-- ---- by an end of a circuit

some_arriving : (a b : ArrivalPlace) → Some a ≡ Some b → a ≡ b
some_arriving a b e = cc

module _ {S : Type 0} (w : SideRelations S) (jobs : List CoreJob) (s m : TheRun S) (core : IsCore s.core)
    (name : EndId) (e a : ℕ) (l : LinkId) (p : WiredEnd) (at : place_of s.core name ≡ Some e) (there : slice_get s.core.wired_ends e ≡ Some p) (on : p.wiring ≡ Circuit l a) where
  sits : Sits s.core.places name e
  sits = sits_first s.core name e core at

  own : (f : ℕ) (q : WiredEnd) → f ≡ e → slice_get s.core.wired_ends f ≡ Some q → q ≡ p
  own f q same stands = one_stands s.core.wired_ends e q p (subst (λ (j : ℕ). slice_get s.core.wired_ends j ≡ Some q) same stands) there

  -- its arrival queue is its own
  own_queue : (k : ℕ) → arrivals_of s.core e ≡ Some k → k ≡ a
  own_queue k is =
      let found : Some k ≡ Some a = sym is ∙ ap (λ (o : Option WiredEnd). given o None λ (q : WiredEnd). arrivals_by q.wiring) there ∙ ap arrivals_by on in
      cc

  only_queue : (f k : ℕ) (o : Option WiredEnd) → slice_get s.core.wired_ends f ≡ o → (given o None λ (q : WiredEnd). arrivals_by q.wiring) ≡ Some k → k ≡ a → f ≡ e
  only_queue f k None stands is same = absurd (cc)
  only_queue f k (Some q) stands is same = core.apart f e a q p stands there (is ∙ ap Some same) (ap arrivals_by on)

  agree : (n : EndId) (f k : ℕ) (x y : Bool) → place_of s.core n ≡ Some f → arrivals_of s.core f ≡ Some k → (k == a) ≡ x → same_end n name ≡ y → x ≡ y
  agree n f k true true place is one two = refl
  agree n f k false false place is one two = refl
  agree n f k true false place is one two =
      let same : k ≡ a = grind (arith, nat_tests, one) in
      absurd (apart s.core n name f e sits place two (sym (only_queue f k (slice_get s.core.wired_ends f) refl is same)))
  agree n f k false true place is one two =
      let here : f ≡ e = together s.core n name f e sits place (one_end n name two) in
      let same : k ≡ a = own_queue k (ap (arrivals_of s.core) (sym here) ∙ is) in
      absurd (grind (arith, nat_tests, one, same))

  -- where a fragment arrives
  arrives_at : (n : EndId) (x : ArrivalPlace) (o : Option ℕ) → place_of s.core n ≡ o → (given o None λ f. given (arrivals_of s.core f) None λ k. Some (arriving f k)) ≡ Some x
      → (place_of s.core n ≡ Some x.end) × (arrivals_of s.core x.end ≡ Some x.queue)
  arrives_at n x None place is = absurd (cc)
  arrives_at n x (Some f) place is = by (arrivals_of s.core f) refl is where
    by : (o : Option ℕ) → arrivals_of s.core f ≡ o → (given o None λ k. Some (arriving f k)) ≡ Some x → (place_of s.core n ≡ Some x.end) × (arrivals_of s.core x.end ≡ Some x.queue)
    by None q h = absurd (cc)
    by (Some k) q h =
        let same = some_arriving (arriving f k) x h in
        let ends : f ≡ x.end = ap (λ (y : ArrivalPlace). y.end) same in
        (place ∙ ap Some ends, ap (arrivals_of s.core) (sym ends) ∙ q ∙ ap Some (ap (λ (y : ArrivalPlace). y.queue) same))

  pub arrivals_put : (log_entry : LogEntry) (by : InPlace jobs s log_entry) (h : Does w log_entry s m) → arrival_put w log_entry s m h a ≡ come_to name (event_steps w jobs log_entry s m by h)
  arrivals_put (looked n x answer) by h = refl
  arrivals_put (passed n k frag c Moved) by h = refl
  arrivals_put (passed n k frag c Full) by h = refl
  arrivals_put (passed n k frag c Spent) by h = refl
  arrivals_put (arrived n x frag d (Ok Moved)) by h =
      let (place, queue) = arrives_at d (arriving h.event.end h.event.queue) (place_of s.core d) refl h.event.at in
      ap (λ (b : Bool). if b then as_carried frag ∷ [] else []) (agree d h.event.end h.event.queue (h.event.queue == a) (same_end d name) place queue refl refl)
      ∙ sym (append-nil (if same_end d name then as_carried frag ∷ [] else []))
  arrivals_put (arrived n x frag d (Ok Full)) by h = refl
  arrivals_put (arrived n x frag d (Ok Spent)) by h = refl
  arrivals_put (arrived n x frag d (Err fault)) by h = refl
  arrivals_put (heard n x frag answer) by h = sym (heard_come s.core.monitor.circuits name x.0 (if_heard answer frag))
  arrivals_put (said n x answer) by h = sym (said_come s.core.monitor.circuits name x.0 (if_said answer (waiting_for s.core.monitor.outboxes x.0)))
  arrivals_put (told n x answer) by h = refl
  arrivals_put (opened n request answer) by h = refl
  arrivals_put (called n c answer) by h = refl
  arrivals_put (ruled n msg reply answer) by h = refl
  arrivals_put (wrote n out answer) by h = sym (wrote_come s.core.monitor.circuits name (link_at s.core h.0) n (write_put w h.0 out answer s m h.2))
  arrivals_put (acked n k answer) by h = refl
  arrivals_put (turned d n from answer) by h = refl

  nothing_of : (b : Bool) → (let xs : List Frag = [] in xs) ≡ (if b then [] else [])
  nothing_of true = refl
  nothing_of false = refl

  elsewhere : (n : EndId) (f : ℕ) (frags : List Frag) → place_of s.core n ≡ Some f → (f ≡ e → ⊥) → (b : Bool) → same_end n name ≡ b → [] ≡ (if b then frags else [])
  elsewhere n f frags place not_same false is = refl
  elsewhere n f frags place not_same true is = absurd (not_same (together s.core n name f e sits place (one_end n name is)))

  -- it takes from nowhere else
  turned_elsewhere : (d : ℕ) (n : EndId) (from : Inlet) (answer : TurnAnswer) (by : InPlace jobs s (turned d n from answer)) (h : Does w (turned d n from answer) s m) → (from ≡ inlet.Arrivals → ⊥)
      → [] ≡ (if same_end n name then turns_took w d h.0 from answer s m h.3 else [])
  turned_elsewhere d n from answer by h other =
      let wired_end = wired_end_in s.core h.0 from (slice_get s.core.wired_ends h.0) refl (takes_from s d h.0 by.0 from h.2 by.1 by.3) in
      elsewhere n h.0 (turns_took w d h.0 from answer s m h.3) h.1
      (λ same. other (sym wired_end.2 ∙ ap (λ (x : WiredEnd). inlet_by x.wiring) (own h.0 wired_end.0 same wired_end.1) ∙ ap inlet_by on)) (same_end n name) refl

  pub arrivals_took : (log_entry : LogEntry) (by : InPlace jobs s log_entry) (h : Does w log_entry s m) → arrival_took w log_entry s m h a ≡ of_end name log_entry (acted_took w log_entry s m h)
  arrivals_took (looked n x answer) by h = refl
  arrivals_took (passed n k frag c result) by h = refl
  arrivals_took (arrived n x frag d answer) by h = refl
  arrivals_took (heard n x frag answer) by h = refl
  arrivals_took (said n x answer) by h = refl
  arrivals_took (told n x answer) by h = refl
  arrivals_took (opened n request answer) by h = refl
  arrivals_took (called n c answer) by h = refl
  arrivals_took (ruled n msg reply answer) by h = refl
  arrivals_took (wrote n out answer) by h = nothing_of (same_end n name)
  arrivals_took (acked n k answer) by h = refl
  arrivals_took (turned d n (inlet.Side k) answer) by h = turned_elsewhere d n (inlet.Side k) answer by h (λ no. cc)
  arrivals_took (turned d n (inlet.Queue k) answer) by h = turned_elsewhere d n (inlet.Queue k) answer by h (λ no. cc)
  arrivals_took (turned d n inlet.Arrivals answer) by h =
      ap (λ (b : Bool). if b then turns_took w d h.0 inlet.Arrivals answer s m h.3 else [])
      (agree n h.0 h.3.event.place (h.3.event.place == a) (same_end n name) h.1 h.3.event.place_is refl refl)

  -- what it wrote went onto its link
  own_link : (f : ℕ) → f ≡ e → link_at s.core f ≡ Some l
  own_link f same = ap (link_at s.core) same ∙ ap (λ (o : Option WiredEnd). given o None λ (q : WiredEnd). link_by q.wiring) there ∙ ap link_by on

  wrote_by : (n : EndId) (f : ℕ) (frags : List Frag) (b : Bool) → place_of s.core n ≡ Some f → same_end n name ≡ b → written_by name (steps_by s.core.monitor.circuits (link_at s.core f) n frags) ≡ map as_carried (if b then frags else [])
  wrote_by n f frags false place is = none_written s.core.monitor.circuits name n frags (link_at s.core f) is
  wrote_by n f frags true place is =
      ap (λ (o : Option LinkId). written_by name (steps_by s.core.monitor.circuits o n frags)) (own_link f (together s.core n name f e sits place (one_end n name is)))
      ∙ wrote_written s.core.monitor.circuits name l n frags true is

  pub links_written : (log_entry : LogEntry) (by : InPlace jobs s log_entry) (h : Does w log_entry s m) → written_by name (event_steps w jobs log_entry s m by h) ≡ map as_carried (of_end name log_entry (acted_put w log_entry s m h))
  links_written (looked n x answer) by h = refl
  links_written (passed n k frag c Moved) by h = refl
  links_written (passed n k frag c Full) by h = refl
  links_written (passed n k frag c Spent) by h = refl
  links_written (arrived n x frag d answer) by h = passed_written s.core.monitor.circuits name x.0 d (if_arrived answer frag)
  links_written (heard n x frag answer) by h = heard_written s.core.monitor.circuits name x.0 (if_heard answer frag)
  links_written (said n x answer) by h = said_written s.core.monitor.circuits name x.0 (if_said answer (waiting_for s.core.monitor.outboxes x.0))
  links_written (told n x answer) by h = refl
  links_written (opened n request answer) by h = refl
  links_written (called n c answer) by h = refl
  links_written (ruled n msg reply answer) by h = refl
  links_written (wrote n out answer) by h = wrote_by n h.0 (write_put w h.0 out answer s m h.2) (same_end n name) h.1 refl
  links_written (acked n k answer) by h = refl
  links_written (turned d n from answer) by h = ap (map as_carried) (nothing_of (same_end n name))
