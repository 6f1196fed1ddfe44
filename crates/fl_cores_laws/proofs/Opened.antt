-- Where an opening was answered, the neighbour said that its number is open, and so it is.
use Rattle.std.proofs.Common.{inl, inr, subst, [], slice_get, arith}
use Rattle.fl_cores_shares.specs.Settled.{RingsConserve}
use Rattle.fl_endpoint.specs.Laws.{OnAnotherCircuit}
use Rattle.fl_hop.specs.OfCircuit.{of_circuit}
use Rattle.fl_hop.specs.Stretch.{put_on, taken_from}
use Rattle.fl_monitor.specs.Monitors.{TheMonitor}
use Rattle.fl_core_run_laws.proofs.Stepping.{log_steps}
use Rattle.fl_cores_laws.specs.Cores.{shared_ways}
use Rattle.fl_cores_laws.specs.Neighbours.{IsUnused}
use Rattle.fl_cores_laws.specs.Answered.{IsOpen, AreAnswered, CoresAnswer, NeighboursOpen}
use Rattle.fl_cores_laws.proofs.Logged.{log_keeps}
use Rattle.fl_cores_laws.proofs.LoggedAnswers.{answers_kept}
use Rattle.fl_cores_laws.proofs.OverLinks.{none_waits, side_carries, both_ways, has_before}
use Rattle.fl_cores_laws.proofs.Routes.{CircuitsPrefix}

-- ---- a core

unused_answered : (m : TheMonitor) → IsUnused m → AreAnswered (λ l. []) (λ l. []) m
unused_answered m u = record {
  opened = λ l f c has says_it. elim has [
    | inl none ↦ absurd none
    | inr waits ↦ absurd (none_waits f (slice_get m.outboxes l) (u.outboxes l) waits)
  ];
  answered = λ l n here yes_there. (let (k, less, is) = here.among in let none = (u.counts l here.link here.there).0 in absurd (omega (arith, less, none)));
}

pub cores_answer : OnAnotherCircuit → CoresAnswer
cores_answer on jobs c v unused =
    let g = v.went.goes in
    record {
      steps = log_steps shared_ways jobs c.log c.start c.finish g;
      links = λ l n p link_side there. side_carries shared_ways jobs c.log c.start c.finish g v.went.apart l n p link_side there;
      answered = log_keeps AreAnswered jobs (answers_kept jobs) shared_ways on c.log c.start c.finish g (λ l. []) (λ l. []) v.led v.table (unused_answered c.start.core.monitor unused);
    }

-- ---- over one link

pub neighbours_open : RingsConserve → CircuitsPrefix → CoresAnswer → NeighboursOpen
neighbours_open rings prefix answer jobs c d l m v u unused unused2 link n here yes_there =
    let x = answer jobs c v unused in
    let y = answer jobs d u unused2 in
    let heard = x.answered.answered l.0 n here yes_there in
    let came = prefix 0 (taken_from l.0 x.steps) (put_on m.0 y.steps) (both_ways rings c d x.steps y.steps x.links y.links l m link).1 in
    let has = has_before heard.frag (of_circuit 0 (taken_from l.0 x.steps)) (of_circuit 0 (put_on m.0 y.steps)) came heard.has in
    subst (IsOpen d.finish.core.monitor.circuits m.0) heard.number (y.answered.opened m.0 heard.frag heard.circuit (inl has) heard.says)
