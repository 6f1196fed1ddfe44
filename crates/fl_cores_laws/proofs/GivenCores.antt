-- One core: which openings it gave numbers for.
use Rattle.std.proofs.Common.{◌≡◌, inl, inr, refl, ℕ, List, [], slice_get, arith}
use Rattle.fl_base.specs.declared.fragment.Frag.{Frag}
use Rattle.fl_base.specs.declared.identity.EndId.{EndId}
use Rattle.fl_base.specs.declared.identity.Circuit.{Circuit}
use Rattle.fl_endpoint.specs.Laws.{OnAnotherCircuit}
use Rattle.fl_hop.specs.Numbers.{OpenedHere}
use Rattle.fl_hop.specs.OfCircuit.{of_circuit}
use Rattle.fl_hop.specs.Stretch.{TableStep, taken_from, put_on}
use Rattle.fl_hop.specs.Table.{TheCircuits}
use Rattle.fl_monitor.specs.declared.opening.Opening.{Opening}
use Rattle.fl_monitor.specs.Monitors.{TheMonitor, asks}
use Rattle.fl_monitor.specs.Saying.{Says}
use Rattle.fl_ring.specs.SharedSides.{TheSide}
use Rattle.fl_core.specs.declared.core_job.CoreJob.{CoreJob}
use Rattle.fl_core.specs.declared.core_job.OpenRequest.{OpenRequest}
use Rattle.fl_core_run.specs.Run.{TheRun}
use Rattle.fl_core_run.specs.LogEntries.{LogEntry, IsSound}
use Rattle.fl_core_run_laws.specs.Logs.{Goes}
use Rattle.fl_nameserv.specs.Registrations.{TheRegistration}
use Rattle.fl_core.specs.Hearing.{known_for}
use Rattle.fl_monitor.specs.declared.message.MonitorMessage.{MonitorMessage}
use Rattle.fl_core_run_laws.proofs.Stepping.{log_steps}
use Rattle.fl_cores_laws.specs.Cores.{shared_ways, OneCore}
use Rattle.fl_cores_laws.specs.Circuits.{Leading}
use Rattle.fl_cores_laws.specs.Named.{Has, AsksFor}
use Rattle.fl_cores_laws.specs.Neighbours.{IsUnused}
use Rattle.fl_cores_laws.specs.Asked.{IsRequested}
use Rattle.fl_cores_laws.specs.Reasons.{AreSettled, IsOwnRequest, IsOwnRequestOver, IsOwnMade, as_talk, talk_of}
use Rattle.fl_cores_laws.proofs.AskedProgress.{JobAt}
use Rattle.fl_cores_laws.proofs.Given.{since_on, none_given}
use Rattle.fl_cores_laws.proofs.GivenHears.{IsMadeAt, SettledAt}
use Rattle.fl_cores_laws.proofs.GivenLogs.{log_settled}
use Rattle.fl_cores_laws.proofs.OverLinks.{none_waits}
use Rattle.fl_cores_laws.proofs.ReasonedHears.{KnowsPlaces, AreReasonedFrom}
use Rattle.fl_cores_laws.proofs.Settled.{settled_then}

-- a core that opened nothing gave no number, and refused none
unused_settled : (W : ℕ → Opening → Type 0) (t : TheCircuits) (m : TheMonitor) → IsUnused m → AreSettled W t (as_talk (λ l. []) (λ l. []) m)
unused_settled W t m u = record {
  given = record {
    given = λ l n a. absurd (none l n a);
    once = λ l n k i a b bindings origins. absurd (none l n a);
  };
  refused = λ l f c reason has says_it. elim has [
    | inl nothing ↦ absurd nothing
    | inr waits ↦ absurd (none_waits f (slice_get m.outboxes l) (u.outboxes l) waits)
  ];
} where
  none : (l n : ℕ) → OpenedHere m.circuits l n → ⊥
  none l n a = (let (k, less, is) = a.among in let zero_opened = (u.counts l a.link a.there).0 in omega (arith, less, zero_opened))

own_over : (jobs : List CoreJob) (s : TheRun TheSide) (name : EndId) (request : OpenRequest) → JobAt jobs s name request → IsOwnRequestOver jobs s request.link.0 request.opening
own_over jobs s name request a =
    record {
      own = record { name = name; progress = a.progress; progress_is = a.progress_is; turn = a.turn; place = a.place; place_is = a.place_is; request = request; job_is = a.job_is; opening_is = refl };
      link_is = refl;
    }

own_requested : (jobs : List CoreJob) (s : TheRun TheSide) (o : Opening) → IsOwnRequest jobs s o → IsRequested jobs o
own_requested jobs s o w = record { place = w.place; request = w.request; job_is = w.job_is; opening_is = w.opening_is }

module _ (on : OnAnotherCircuit) (jobs : List CoreJob) (c : OneCore) (v : Leading jobs c) (unused : IsUnused c.start.core.monitor) (names : List TheRegistration) (NoPlace : Opening → Type 0)
    (knows : (u : TheRun TheSide) (rest : List LogEntry) → Goes shared_ways jobs u rest c.finish → IsSound u.core → u.offers ≡ c.start.offers → (msg : MonitorMessage)
    → KnowsPlaces names NoPlace (known_for u.offers u.core msg) msg)
    (first : AreReasonedFrom names NoPlace (IsOwnRequest jobs c.start) c.start.core.monitor.circuits (λ l. []) (λ l. []) c.start.core.monitor) where
  abbrev pub its_steps : List TableStep
  its_steps = log_steps shared_ways jobs c.log c.start c.finish v.went.goes

  abbrev pub its_said : ℕ → List Frag
  its_said l = of_circuit 0 (put_on l its_steps)

  abbrev pub its_heard : ℕ → List Frag
  its_heard l = of_circuit 0 (taken_from l its_steps)

  abbrev pub t0 : TheCircuits
  t0 = c.start.core.monitor.circuits

  abbrev pub Requests : ℕ → Opening → Type 0
  Requests l o = IsOwnRequestOver jobs c.start l o

  pub settles : SettledAt names NoPlace (IsOwnRequest jobs c.start) Requests t0 c.finish.core its_said its_heard c.finish.core.monitor
  settles = log_settled shared_ways on names jobs NoPlace (IsOwnRequest jobs c.start) (own_requested jobs c.start) Requests (λ l o x. x.own) t0 c.log c.start c.finish v.went.goes (λ l. []) (λ l. [])
      knows (own_over jobs c.start) v.led v.table (first, unused_settled (IsMadeAt Requests c.start.core) t0 c.start.core.monitor unused)

  -- it asks under numbers that it gave
  pub asked_under : (l : ℕ) (f : Frag) (n : Circuit) (o : Opening) → Has f ((talk_of c its_steps).said l) → Says f (asks n o) → OpenedHere c.finish.core.monitor.circuits l n.0
  asked_under l f n o has says_it =
      let asked : AsksFor f n o.binding = record { service = o.service; path = o.path; says = says_it } in
      (settles.0.1.asked l f n o.binding (inl has) asked).given

  made_own : (l : ℕ) (o : Opening) → IsMadeAt Requests c.finish.core l o → IsOwnMade jobs c l o
  made_own l o x = record { over = x.requested; place = x.place; place_is = x.place_is }

  -- gave each once, and none for what it refuses
  pub its_settled : AreSettled (IsOwnMade jobs c) t0 (talk_of c its_steps)
  its_settled =
      let m = c.finish.core.monitor in
      let g = none_given (IsMadeAt Requests c.finish.core) (IsOwnMade jobs c) t0 its_said its_said its_heard its_heard m m settles.1.given
      (since_on (IsMadeAt Requests c.finish.core) (IsOwnMade jobs c) t0 its_said its_said its_heard its_heard m m made_own (λ l n a. a) (λ l f h. h)) (λ l n o here only. only) (λ l n a. a) in
      settled_then (IsMadeAt Requests c.finish.core) (IsOwnMade jobs c) t0 its_said its_said its_heard its_heard m m settles.1 (λ l n a. a) (λ l n a. a) (λ l f h. h) (λ l n o here only. only)
      g.given (λ l n taken none. g.keeps l n none) (λ l f d reason has says_it. inl (f, has, says_it))
