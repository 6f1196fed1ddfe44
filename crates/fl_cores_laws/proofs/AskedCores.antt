-- One core: what it asks for, and the ends that are made there.
use Rattle.std.proofs.Common.{inl, inr, refl, List, [], slice_get}
use Rattle.fl_endpoint.specs.Laws.{OnAnotherCircuit}
use Rattle.fl_monitor.specs.Monitors.{TheMonitor}
use Rattle.fl_core.specs.declared.core_job.CoreJob.{CoreJob}
use Rattle.fl_core_run_laws.proofs.Stepping.{log_steps}
use Rattle.fl_hop.specs.Table.{TheCircuits}
use Rattle.fl_cores_laws.specs.Cores.{shared_ways, OneCore}
use Rattle.fl_cores_laws.specs.Circuits.{Leading}
use Rattle.fl_cores_laws.specs.Neighbours.{IsUnused}
use Rattle.fl_cores_laws.specs.Asked.{AreAsked, GoesAsking, CoresAsk}
use Rattle.fl_cores_laws.proofs.AskedLaid.{laid_same}
use Rattle.fl_cores_laws.proofs.AskedLogs.{AreAskedFrom, asks_kept}
use Rattle.fl_cores_laws.proofs.Logged.{log_keeps}
use Rattle.fl_cores_laws.proofs.AskedMade.{log_made}
use Rattle.fl_cores_laws.proofs.OverLinks.{none_waits, side_carries}

-- ---- at the start

pub unused_asked : (jobs : List CoreJob) (t : TheCircuits) (m : TheMonitor) → IsUnused m → AreAsked jobs t (λ l. []) (λ l. []) m
unused_asked jobs t m u l f o has a = elim has [
  | inl none ↦ absurd none
  | inr waits ↦ absurd (none_waits f (slice_get m.outboxes l) (u.outboxes l) waits)
]

-- what it comes to, with the steps of the log
abbrev pub asking_of : OnAnotherCircuit → (jobs : List CoreJob) (c : OneCore) → Leading jobs c → IsUnused c.start.core.monitor → GoesAsking jobs c
asking_of on jobs c v unused =
    let g = v.went.goes in
    let t0 = c.start.core.monitor.circuits in
    record {
      steps = log_steps shared_ways jobs c.log c.start c.finish g;
      links = λ l n p link_side there. side_carries shared_ways jobs c.log c.start c.finish g v.went.apart l n p link_side there;
      asked = (log_keeps (AreAskedFrom jobs t0) jobs (asks_kept jobs t0) shared_ways on c.log c.start c.finish g (λ l. []) (λ l. []) v.led v.table
          (laid_same t0 t0 refl, unused_asked jobs t0 c.start.core.monitor unused)).1;
      made = λ name e seat absent at there. log_made shared_ways jobs name c.log c.start c.finish g absent e seat at there;
    }

pub cores_ask : OnAnotherCircuit → CoresAsk
cores_ask on jobs c v unused = asking_of on jobs c v unused
