-- Queues change by looks, puts and takes alone, and so lose nothing.
use Rattle.std.proofs.Common.{◌≡◌, sym, ap, ◌∙◌, subst, ℕ, List, [], ◌∷◌}
use Rattle.fl_link.specs.Laws.{QueueLaw}
use Rattle.fl_link.specs.Queue.{TheQueue, QueuePuts, QueueTakes}
use Rattle.fl_hop.specs.declared.forward.ForwardOutcome.TheVariants.{Moved, Full, Spent}
use Rattle.fl_core.specs.View.{TheCore}
use Rattle.fl_core.specs.declared.wiring.Outlet.TheVariants as outlet
use Rattle.fl_core.specs.declared.wiring.Inlet.TheVariants as inlet
use Rattle.fl_core.specs.declared.core_job.CoreJob.{CoreJob}
use Rattle.fl_core_run.specs.Run.{SideRelations, TheRun}
use Rattle.fl_core_run.specs.LogEntries.{LogEntry, looked, passed, arrived, heard, said, told, opened, called, ruled, wrote, acked, turned, OnQueue, Does}
use Rattle.fl_core_run_laws.specs.Logs.{Goes, Looked}
use Rattle.fl_core_run_laws.specs.Carried.{QueuesCarry}
use Rattle.fl_core_run_laws.proofs.Aside.{queues_aside, core_aside}
use Rattle.fl_core_run_laws.proofs.Looking.{go_same, go_then, go_one, looked_of, writes_looks, turn_looks}
use Rattle.fl_core_run_laws.proofs.Growing.{QueuesGo, does_grow}

-- local queues
module _ {S : Type 0} (w : SideRelations S) where
  queues_stay : (s m : TheRun S) → m.queues ≡ s.queues → QueuesGo s.queues m.queues
  queues_stay s m same = go_same QueuePuts QueueTakes s.queues m.queues same

  on_queue : (n : ℕ) (s m : TheRun S) (Event : TheCore → TheQueue → TheCore → TheQueue → Type 0) (h : OnQueue n s Event m) → Looked QueuePuts QueueTakes h.before h.after
      → QueuesGo s.queues m.queues
  on_queue n s m Event h looks =
      subst (λ (qs : List TheQueue). QueuesGo s.queues qs) (sym (ap (λ (x : TheRun S). x.queues) h.rest))
      (go_one QueuePuts QueueTakes s.queues n h.before h.after h.before_is looks)

  local_go : (log_entry : LogEntry) (s m : TheRun S) → Does w log_entry s m → QueuesGo s.queues m.queues
  local_go (looked n l answer) s m h = queues_stay s m (ap (λ (x : TheRun S). x.queues) h.rest)
  local_go (passed n k frag c Moved) s m h = queues_stay s m (ap (λ (x : TheRun S). x.queues) h.2.rest ∙ ap (λ (x : TheRun S). x.queues) h.1.rest)
  local_go (passed n k frag c Full) s m h = queues_stay s m (ap (λ (x : TheRun S). x.queues) h.rest)
  local_go (passed n k frag c Spent) s m h = queues_stay s m (ap (λ (x : TheRun S). x.queues) h.rest)
  local_go (arrived n l frag e answer) s m h = queues_stay s m (ap (λ (x : TheRun S). x.queues) h.rest)
  local_go (heard n l frag answer) s m h = queues_stay s m (ap (λ (x : TheRun S). x.queues) h.rest)
  local_go (said n l answer) s m h = queues_stay s m (ap (λ (x : TheRun S). x.queues) h.rest)
  local_go (told n l answer) s m h = queues_stay s m (ap (λ (x : TheRun S). x.queues) h.rest)
  local_go (opened name request answer) s m h = queues_stay s m (ap (λ (x : TheRun S). x.queues) h.rest)
  local_go (called name c answer) s m h = queues_stay s m (ap (λ (x : TheRun S). x.queues) h.2.rest)
  local_go (ruled name msg reply answer) s m h = queues_stay s m (ap (λ (x : TheRun S). x.queues) h.2.rest)
  local_go (wrote name (outlet.Queue n) answer) s m h =
      on_queue n s m _ h.2 (looked_of QueuePuts QueueTakes _ _ _ _ (writes_looks QueuePuts QueueTakes h.2.event.writes.seat.end h.2.before answer h.2.event.writes.end h.2.after h.2.event.writes.event))
  local_go (wrote name (outlet.Side n) answer) s m h = queues_stay s m (ap (λ (x : TheRun S). x.queues) h.2.rest)
  local_go (acked name n answer) s m h = queues_stay s m (ap (λ (x : TheRun S). x.queues) h.2.rest)
  local_go (turned d name (inlet.Queue n) answer) s m h =
      on_queue n s m _ h.3 (looked_of QueuePuts QueueTakes _ _ _ _ (turn_looks QueuePuts QueueTakes h.3.event.event.picked h.3.event.event.seat.kind _ answer _ h.3.event.event.looks))
  local_go (turned d name (inlet.Side n) answer) s m h = queues_stay s m (ap (λ (x : TheRun S). x.queues) h.3.rest)
  local_go (turned d name inlet.Arrivals answer) s m h = queues_stay s m (ap (λ (x : TheRun S). x.queues) h.3.rest)

  log_local : (jobs : List CoreJob) (log : List LogEntry) (s t : TheRun S) → Goes w jobs s log t → QueuesGo s.queues t.queues
  log_local jobs [] s t h = queues_stay s t (ap (λ (x : TheRun S). x.queues) h)
  log_local jobs (log_entry ∷ log) s t h =
      go_then QueuePuts QueueTakes s.queues h.0.queues t.queues
      (go_then QueuePuts QueueTakes s.queues h.1.0.queues h.0.queues (local_go log_entry s h.1.0 h.1.1) (queues_stay h.1.0 h.0 (queues_aside h.1.0 h.0 log_entry h.1.2)))
      (log_local jobs log h.0 t h.3)

  -- and arrival queues
  log_arrivals : (jobs : List CoreJob) (log : List LogEntry) (s t : TheRun S) → Goes w jobs s log t → QueuesGo s.core.arrivals t.core.arrivals
  log_arrivals jobs [] s t h = go_same QueuePuts QueueTakes s.core.arrivals t.core.arrivals (ap (λ (x : TheRun S). x.core.arrivals) h)
  log_arrivals jobs (log_entry ∷ log) s t h =
      go_then QueuePuts QueueTakes s.core.arrivals h.0.core.arrivals t.core.arrivals
      (go_then QueuePuts QueueTakes s.core.arrivals h.1.0.core.arrivals h.0.core.arrivals (does_grow w log_entry s h.1.0 h.1.1).arrivals
      (go_same QueuePuts QueueTakes h.1.0.core.arrivals h.0.core.arrivals (ap (λ (k : TheCore). k.arrivals) (core_aside h.1.0 h.0 log_entry h.1.2))))
      (log_arrivals jobs log h.0 t h.3)

carried : QueueLaw → (ps qs : List TheQueue) → QueuesGo ps qs → QueuesCarry ps qs
carried law ps qs go n p at =
    let (q, there, went) = go n p at in
    (q, there, (went.0, law p q went.0 went.1))

pub queues_carry : {S : Type 0} (w : SideRelations S) → QueueLaw → (jobs : List CoreJob) (s t : TheRun S) (log : List LogEntry) → Goes w jobs s log t
    → QueuesCarry s.queues t.queues × QueuesCarry s.core.arrivals t.core.arrivals
queues_carry w law jobs s t log h =
    (carried law s.queues t.queues (log_local w jobs log s t h), carried law s.core.arrivals t.core.arrivals (log_arrivals w jobs log s t h))
