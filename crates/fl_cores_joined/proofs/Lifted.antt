-- A run over other sides: what is noted, and where an event is in its place, stays.
use Rattle.std.proofs.Common.{◌≡◌, refl, ◌∙◌, ap, ℕ, nat_lt, Bool, if◌then◌else◌, List, length, Option, Some, None}
use Rattle.std.specs.Prelude.{Result, Ok, Err}
use Rattle.fl_base.specs.declared.fragment.Frag.{Frag}
use Rattle.fl_base.specs.declared.identity.EndId.{EndId}
use Rattle.fl_base.specs.declared.identity.LinkId.{LinkId}
use Rattle.fl_base.specs.Given.{given}
use Rattle.fl_link.specs.Queue.{TheQueue}
use Rattle.fl_endpoint.specs.declared.fault.EndFault.{EndFault}
use Rattle.fl_hop.specs.declared.entry.HopTarget.{HopTarget}
use Rattle.fl_monitor.specs.declared.fault.MonitorFault.TheVariants as monitor
use Rattle.fl_core.specs.BoardView.{due}
use Rattle.fl_core.specs.declared.answer.MonitorAnswer.{MonitorAnswer}
use Rattle.fl_core.specs.declared.answer.MonitorAnswer.TheVariants as answered
use Rattle.fl_core.specs.declared.core_job.CoreJob.{CoreJob}
use Rattle.fl_core.specs.declared.fault.LinkReceiveFault.{LinkReceiveFault}
use Rattle.fl_core.specs.declared.fault.OpenFault.{OpenFault}
use Rattle.fl_core.specs.declared.fault.OpenFault.TheVariants as opening
use Rattle.fl_core.specs.declared.turn_answer.TurnAnswer.{TurnAnswer}
use Rattle.fl_core.specs.declared.turn_answer.TurnAnswer.TheVariants as turn
use Rattle.fl_core.specs.declared.wiring.Inlet.{Inlet}
use Rattle.fl_core.specs.declared.wiring.Inlet.TheVariants as inlet
use Rattle.fl_core.specs.declared.wiring.Outlet.{Outlet}
use Rattle.fl_core.specs.declared.wiring.Outlet.TheVariants as outlet
use Rattle.fl_core.specs.View.{TheCore, place_of, side_of_link, outlet_of, inlet_of}
use Rattle.fl_core_run.specs.EndProgress.{TheEndProgress}
use Rattle.fl_core_run.specs.declared.lent.LentTakeEnd.{LentTakeEnd}
use Rattle.fl_core_run.specs.declared.lent.LentPutEnd.{LentPutEnd}
use Rattle.fl_core_run.specs.declared.lent.LentRingEnd.{LentRingEnd}
use Rattle.fl_core_run.specs.Run.{TheRun, over, AtProgress, lent_link_side, lends_out, lends_in, side_in}
use Rattle.fl_core_run.specs.LogEntries.{LogEntry, looked, passed, arrived, heard, said, told, opened, called, ruled, wrote, acked, turned, OnQueue, OnCore}
use Rattle.fl_core_run.specs.LogEntries.{Notes, NotesHeard, NotesOpened, NotesCalled, NotesTurned, ActsSoundly}
use Rattle.fl_core_run_laws.specs.Logs.{LeadsTo, InPlace}

module _ {S T : Type 0} (f : List S → List T) where
  abbrev pub lifted : TheRun S → TheRun T
  lifted r = over (f r.rings) r

  -- ---- an event beside the sides

  pub queue_lifted : (n : ℕ) (s t : TheRun S) (Event : TheCore → TheQueue → TheCore → TheQueue → Type 0) → OnQueue n s Event t
      → OnQueue n (lifted s) Event (lifted t)
  queue_lifted n s t Event h =
      record { before = h.before; before_is = h.before_is; after = h.after; event = h.event; rest = ap lifted h.rest }

  pub core_lifted : (s t : TheRun S) (Event : TheCore → TheCore → Type 0) → OnCore s Event t → OnCore (lifted s) Event (lifted t)
  core_lifted s t Event h = record { event = h.event; rest = ap lifted h.rest }

  -- ---- what is noted

  at_lifted : (e : EndId) (change : TheEndProgress → TheEndProgress) (m t : TheRun S) → AtProgress e change m t → AtProgress e change (lifted m) (lifted t)
  at_lifted e change m t h = record { changes = h.changes; rest = ap lifted h.rest }

  noted_heard : (answer : Result MonitorAnswer LinkReceiveFault) (m t : TheRun S) → NotesHeard answer m t → NotesHeard answer (lifted m) (lifted t)
  noted_heard (Ok (answered.OpeningRefused e reason)) m t h = at_lifted e _ m t h
  noted_heard (Ok answered.Full) m t h = ap lifted h
  noted_heard (Ok answered.Done) m t h = ap lifted h
  noted_heard (Ok (answered.Opened e)) m t h = ap lifted h
  noted_heard (Err fault) m t h = ap lifted h

  noted_opened : (e : EndId) (answer : Result ℕ OpenFault) (m t : TheRun S) → NotesOpened e answer m t → NotesOpened e answer (lifted m) (lifted t)
  noted_opened e (Ok k) m t h = at_lifted e _ m t h
  noted_opened e (Err (opening.Board fault)) m t h = at_lifted e _ m t h
  noted_opened e (Err (opening.Monitor monitor.OutboxFull)) m t h = ap lifted h
  noted_opened e (Err (opening.Monitor monitor.Misrouted)) m t h = at_lifted e _ m t h
  noted_opened e (Err (opening.Monitor monitor.Differs)) m t h = at_lifted e _ m t h
  noted_opened e (Err (opening.Monitor monitor.NoRoute)) m t h = at_lifted e _ m t h
  noted_opened e (Err (opening.Monitor monitor.UsedUp)) m t h = at_lifted e _ m t h
  noted_opened e (Err (opening.Monitor monitor.PlansDiffer)) m t h = at_lifted e _ m t h
  noted_opened e (Err (opening.Monitor monitor.Memory)) m t h = at_lifted e _ m t h

  noted_called : (e : EndId) (answer : Result (Unit {0}) EndFault) (m t : TheRun S) → NotesCalled e answer m t → NotesCalled e answer (lifted m) (lifted t)
  noted_called e (Ok done) m t h = at_lifted e _ m t h
  noted_called e (Err fault) m t h = ap lifted h

  noted_turned : (e : EndId) (answer : TurnAnswer) (m t : TheRun S) → NotesTurned e answer m t → NotesTurned e answer (lifted m) (lifted t)
  noted_turned e (turn.Handle call) m t h = at_lifted e _ m t h
  noted_turned e turn.Part m t h = ap lifted h
  noted_turned e turn.Ready m t h = ap lifted h
  noted_turned e turn.Quiet m t h = ap lifted h
  noted_turned e turn.Full m t h = ap lifted h
  noted_turned e turn.Nothing m t h = ap lifted h
  noted_turned e (turn.Refused fault) m t h = ap lifted h

  pub notes_lifted : (log_entry : LogEntry) (m t : TheRun S) → Notes log_entry m t → Notes log_entry (lifted m) (lifted t)
  notes_lifted (looked n l answer) m t h = ap lifted h
  notes_lifted (passed n k frag c outcome) m t h = ap lifted h
  notes_lifted (arrived n l frag e answer) m t h = ap lifted h
  notes_lifted (heard n l frag answer) m t h = noted_heard answer m t h
  notes_lifted (said n l answer) m t h = ap lifted h
  notes_lifted (told n l answer) m t h = ap lifted h
  notes_lifted (opened e request answer) m t h = noted_opened e answer m t h
  notes_lifted (called e c answer) m t h = noted_called e answer m t h
  notes_lifted (ruled e msg reply answer) m t h = at_lifted e _ m t h
  notes_lifted (wrote e out answer) m t h = ap lifted h
  notes_lifted (acked e n answer) m t h = ap lifted h
  notes_lifted (turned d e from answer) m t h = noted_turned e answer m t h

  -- ---- at an end that is sound

  pub acts_lifted : (e : LogEntry) (s : TheRun S) → ActsSoundly e s → ActsSoundly e (lifted s)
  acts_lifted (looked n l answer) s a = a
  acts_lifted (passed n k frag c outcome) s a = a
  acts_lifted (arrived n l frag e answer) s a = a
  acts_lifted (heard n l frag answer) s a = a
  acts_lifted (said n l answer) s a = a
  acts_lifted (told n l answer) s a = a
  acts_lifted (opened e request answer) s a = a
  acts_lifted (called e c answer) s a = a
  acts_lifted (ruled e msg reply answer) s a = a
  acts_lifted (wrote e out answer) s a = a
  acts_lifted (acked e n answer) s a = a
  acts_lifted (turned d e from answer) s a = a

  -- ---- its place, where there are as many sides

  module _ (s : TheRun S) (long : length (f s.rings) ≡ length s.rings) where
    link_lifted : (l : LinkId) → lent_link_side (lifted s) l ≡ lent_link_side s l
    link_lifted l = ap (λ (many : ℕ). given (side_of_link s.core.link_sides l.0) None λ i. if nat_lt i many then Some i else None) long

    leads_lifted : (n : ℕ) (l : LinkId) (frag : Frag) (way : HopTarget) → LeadsTo s n l frag way → LeadsTo (lifted s) n l frag way
    leads_lifted n l frag way h = record { link_side = link_lifted l ∙ h.link_side; number = h.number; way_is = h.way_is; other = h.other }

    out_lifted : (out : Outlet) → lends_out (lifted s) out ≡ lends_out s out
    out_lifted (outlet.Queue n) = refl
    out_lifted (outlet.Side n) = ap (nat_lt n) long

    in_lifted : (from : Inlet) → lends_in (lifted s) from ≡ lends_in s from
    in_lifted (inlet.Queue n) = refl
    in_lifted (inlet.Side n) = ap (nat_lt n) long
    in_lifted inlet.Arrivals = refl

    post_at : (e : ℕ) (o : Option Outlet) → (given o None λ out. if lends_out (lifted s) out then (let p : LentPutEnd = record { end = e; outlet = out } in Some p) else None)
        ≡ (given o None λ out. if lends_out s out then (let p : LentPutEnd = record { end = e; outlet = out } in Some p) else None)
    post_at e None = refl
    post_at e (Some out) = ap (λ (b : Bool). if b then (let p : LentPutEnd = record { end = e; outlet = out } in Some p) else None) (out_lifted out)

    post_by : (o : Option ℕ) → (given o None λ e. given (outlet_of s.core e) None λ out. if lends_out (lifted s) out then (let p : LentPutEnd = record { end = e; outlet = out } in Some p) else None)
        ≡ (given o None λ e. given (outlet_of s.core e) None λ out. if lends_out s out then (let p : LentPutEnd = record { end = e; outlet = out } in Some p) else None)
    post_by None = refl
    post_by (Some e) = post_at e (outlet_of s.core e)

    due_at : (e : ℕ) (o : Option Inlet) → (given o None λ from. if lends_in (lifted s) from then (let p : LentTakeEnd = record { end = e; inlet = from } in Some p) else None)
        ≡ (given o None λ from. if lends_in s from then (let p : LentTakeEnd = record { end = e; inlet = from } in Some p) else None)
    due_at e None = refl
    due_at e (Some from) = ap (λ (b : Bool). if b then (let p : LentTakeEnd = record { end = e; inlet = from } in Some p) else None) (in_lifted from)

    due_by : (o : Option ℕ) → (given o None λ e. given (inlet_of s.core e) None λ from. if lends_in (lifted s) from then (let p : LentTakeEnd = record { end = e; inlet = from } in Some p) else None)
        ≡ (given o None λ e. given (inlet_of s.core e) None λ from. if lends_in s from then (let p : LentTakeEnd = record { end = e; inlet = from } in Some p) else None)
    due_by None = refl
    due_by (Some e) = due_at e (inlet_of s.core e)

    pub in_place_lifted : (jobs : List CoreJob) (log_entry : LogEntry) → InPlace jobs s log_entry → InPlace jobs (lifted s) log_entry
    in_place_lifted jobs (looked n l answer) h = link_lifted l ∙ h
    in_place_lifted jobs (passed n m frag c result) h = record { link = h.link; onward = h.onward; leads = leads_lifted n h.link frag _ h.leads; side = h.side }
    in_place_lifted jobs (arrived n l frag e answer) h = leads_lifted n l frag _ h
    in_place_lifted jobs (heard n l frag answer) (link_side, number) = (link_lifted l ∙ link_side, number)
    in_place_lifted jobs (said n l answer) h = link_lifted l ∙ h
    in_place_lifted jobs (told n l answer) h = link_lifted l ∙ h
    in_place_lifted jobs (opened name request answer) h = h
    in_place_lifted jobs (called name c answer) h = h
    in_place_lifted jobs (ruled name msg reply answer) h = h
    in_place_lifted jobs (wrote name out answer) (post, is, same) = (post, post_by (place_of s.core name) ∙ is, same)
    in_place_lifted jobs (acked name n answer) (ring_end, is, same) = (
      ring_end,
      ap (λ (many : ℕ). given (place_of s.core name) None λ e. given (inlet_of s.core e) None λ from. given (side_in from) None λ i.
          if nat_lt i many then (let p : LentRingEnd = record { end = e; side = i } in Some p) else None) long ∙ is,
      same,
    )
    in_place_lifted jobs (turned d name from answer) (its, is, at, same, waits) = (its, due_by (due s.core.board d) ∙ is, at, same, waits)
