-- That what is asked for between cores is what jobs ask for, and that the ends that are made are those of such jobs. Laws.
use Rattle.std.specs.Prelude.{ℕ, ◌≡◌, ◌⊎◌, true, List, [], ◌∷◌, length, map, slice_get, Some, None, Ok}
use Rattle.fl_base.specs.declared.fragment.Frag.{Frag}
use Rattle.fl_base.specs.declared.identity.EndId.{EndId}
use Rattle.fl_base.specs.declared.identity.LinkId.{LinkId}
use Rattle.fl_base.specs.declared.identity.Circuit.{Circuit}
use Rattle.fl_ring.specs.SharedSides.{TheSide}
use Rattle.fl_compile.specs.declared.program.Program.{Program}
use Rattle.fl_compile.specs.Programs.{TheProgram, program_of}
use Rattle.fl_nameserv.specs.Registrations.{TheRegistration, by_iref}
use Rattle.fl_core.specs.BoardView.{TheEndAtChannel}
use Rattle.fl_hop.specs.declared.links.LinkState.{LinkState}
use Rattle.fl_hop.specs.OfCircuit.{of_circuit}
use Rattle.fl_hop.specs.Stretch.{TableStep, taken_from, put_on}
use Rattle.fl_hop.specs.Table.{TheCircuits}
use Rattle.fl_monitor.specs.declared.opening.Opening.{Opening}
use Rattle.fl_monitor.specs.Fates.{comes_along}
use Rattle.fl_monitor.specs.Monitors.{TheMonitor, waiting_for, asks}
use Rattle.fl_monitor.specs.Saying.{Says}
use Rattle.fl_core.specs.View.{place_of, side_of_link, client_of, server_of}
use Rattle.fl_core.specs.declared.core_job.CoreJob.{CoreJob}
use Rattle.fl_core.specs.declared.core_job.CoreJob.TheVariants as job
use Rattle.fl_core.specs.declared.core_job.OpenRequest.{OpenRequest}
use Rattle.fl_core_run.specs.EndProgress.{TheEndProgress}
use Rattle.fl_core_run.specs.Run.{SideRelations, TheRun}
use Rattle.fl_core_run.specs.LogEntries.{LogEntry, opened}
use Rattle.fl_core_run_laws.specs.Logs.{Goes}
use Rattle.fl_core_run_laws.specs.Flows.{SideCarries}
use Rattle.fl_core_run_laws.specs.Made.{progress_of}
use Rattle.fl_cores_file.specs.Jobs.{Job}
use Rattle.fl_cores_jobs.specs.declared.end_work.BindingCores.{BindingCores}
use Rattle.fl_cores_jobs.specs.EndWork.{end_work_at}
use Rattle.fl_cores_jobs.specs.Joined.{core_of}
use Rattle.fl_cores_jobs.specs.State.{TheJoinedJobs, AreJoined}
use Rattle.fl_cores_laws.specs.Cores.{shared_ways, OneCore}
use Rattle.fl_cores_laws.specs.Circuits.{Leading, AreOneLink}
use Rattle.fl_cores_laws.specs.Named.{Has}
use Rattle.fl_cores_laws.specs.Neighbours.{IsUnused}

-- ---- what is asked for

-- the fragment asks for a circuit, by this opening
pub record AsksBy (f : Frag) (o : Opening) : Type 0 where
  pub circuit : Circuit
  pub says : Says f (asks circuit o)

-- a job asks for it
pub record IsRequested (jobs : List CoreJob) (o : Opening) : Type 0 where
  pub place : ℕ
  pub request : OpenRequest
  pub job_is : slice_get jobs place ≡ Some (job.Open request)
  pub opening_is : request.opening ≡ o

-- it was heard on a link on whose other side the core stands that comes before this one on the route
pub record CameAlong (t : TheCircuits) (heard : ℕ → List Frag) (o : Opening) : Type 0 where
  pub link : LinkId
  pub frag : Frag
  pub has : Has frag (heard link.0)
  pub asks : AsksBy frag o
  pub along : comes_along t link.0 o.path ≡ true

-- of a monitor that said and heard these fragments, by link: what it asked for, or has still to ask for, a job asks for, or it was heard
abbrev pub AreAsked : List CoreJob → TheCircuits → (ℕ → List Frag) → (ℕ → List Frag) → TheMonitor → Type 0
AreAsked jobs t said heard m = (l : ℕ) (f : Frag) (o : Opening) → Has f (said l) ⊎ Has f (waiting_for m.outboxes l) → AsksBy f o
    → IsRequested jobs o ⊎ CameAlong t heard o

-- ---- ends that are made

-- at a moment of a run, which came to this end, the end of this name sat at dispatcher d
pub record SatAt {S : Type 0} (w : SideRelations S) (jobs : List CoreJob) (finish : TheRun S) (name : EndId) (d : ℕ) : Type 0 where
  pub moment : TheRun S
  pub log : List LogEntry
  pub goes : Goes w jobs moment log finish
  pub place : ℕ
  pub place_is : place_of moment.core name ≡ Some place
  pub seat : TheEndAtChannel
  pub seat_is : slice_get moment.core.board.seats place ≡ Some seat
  pub dispatcher_is : seat.dispatcher ≡ d

-- a fragment that was heard asks for the server's end of this name, at a service of this core's; the program is that of the service's interface, and the
-- dispatcher the service's
pub record IsServedBy {S : Type 0} (s : TheRun S) (heard : ℕ → List Frag) (name : EndId) (program : Program) (d : ℕ) : Type 0 where
  pub opening : Opening
  pub came : CameAlong s.core.monitor.circuits heard opening
  pub name_is : name ≡ server_of opening.binding
  pub registration : TheRegistration
  pub service : by_iref opening.service.0 s.offers.names ≡ Some registration
  pub core_is : registration.service.core.0 ≡ s.core.monitor.circuits.core
  pub dispatcher : registration.service.dispatcher ≡ d
  pub source : Program
  pub source_is : slice_get s.offers.programs registration.service.interface ≡ Some source
  pub same : program_of program ≡ program_of source

-- the event is one of a log
abbrev pub HasLogEntry : LogEntry → List LogEntry → Type 0
HasLogEntry log_entry [] = ⊥
HasLogEntry log_entry (d ∷ log) = (d ≡ log_entry) ⊎ HasLogEntry log_entry log

-- in the log a job of an end's progress is done, which asks for the client's end of this name; the program is that of the
-- interface that is asked for, and so is the dispatcher
pub record IsOpenedBy {S : Type 0} (jobs : List CoreJob) (s : TheRun S) (log : List LogEntry) (name : EndId) (program : Program) (d : ℕ) : Type 0 where
  pub opener : EndId
  pub progress : TheEndProgress
  pub progress_is : progress_of s opener ≡ Some progress
  pub turn : ℕ
  pub place : ℕ
  pub place_is : slice_get progress.jobs turn ≡ Some place
  pub request : OpenRequest
  pub job_is : slice_get jobs place ≡ Some (job.Open request)
  pub at : ℕ
  pub done : HasLogEntry (opened opener request (Ok at)) log
  pub name_is : name ≡ client_of request.opening.binding
  pub dispatcher : request.dispatcher ≡ d
  pub source : Program
  pub source_is : slice_get s.offers.programs request.interface ≡ Some source
  pub same : program_of program ≡ program_of source

-- ---- one core. Law

-- fragments went over a core's links in these steps, as the links' sides placed and took them; of those on circuit 0, which monitors say and hear, what
-- asks for circuits was asked for or heard, and what was heard, or a job, made each new end
pub record GoesAsking (jobs : List CoreJob) (c : OneCore) : Type 0 where
  pub steps : List TableStep
  pub links : (l n : ℕ) (p : TheSide) → side_of_link c.start.core.link_sides l ≡ Some n → slice_get c.start.rings n ≡ Some p
      → SideCarries shared_ways.puts shared_ways.takes (record { put = put_on l steps; took = taken_from l steps }) p c.finish.rings n
  pub asked : AreAsked jobs c.start.core.monitor.circuits (λ l. of_circuit 0 (put_on l steps)) (λ l. of_circuit 0 (taken_from l steps)) c.finish.core.monitor
  pub made : (name : EndId) (e : ℕ) (seat : TheEndAtChannel) → place_of c.start.core name ≡ None → place_of c.finish.core name ≡ Some e
      → slice_get c.finish.core.board.seats e ≡ Some seat
      → (d : ℕ) × SatAt shared_ways jobs c.finish name d
      × (IsServedBy c.start (λ l. of_circuit 0 (taken_from l steps)) name seat.end.program d ⊎ IsOpenedBy jobs c.start c.log name seat.end.program d)

-- so it is in every run of a core that had nothing to say before
abbrev pub CoresAsk : Type 0
CoresAsk = (jobs : List CoreJob) (c : OneCore) → Leading jobs c → IsUnused c.start.core.monitor → GoesAsking jobs c

-- ---- all cores. Laws

-- the core on the other side of a link is the one that the link's table names
pub record IsBeside (cores : List OneCore) (d : OneCore) (m : LinkId) : Type 0 where
  pub place : ℕ
  pub core : OneCore
  pub core_is : slice_get cores place ≡ Some core
  pub link : LinkId
  pub one : AreOneLink core link d m
  pub state : LinkState
  pub state_is : slice_get d.start.core.monitor.circuits.links m.0 ≡ Some state
  pub number : core.start.core.monitor.circuits.core ≡ state.neighbour.0

-- cores that had nothing to say before their run, whose tables lead, and whose links have each a core on the other side
pub record AreBeside (jobs : List CoreJob) (cores : List OneCore) : Type 0 where
  pub leading : (n : ℕ) (c : OneCore) → slice_get cores n ≡ Some c → Leading jobs c
  pub unused : (n : ℕ) (c : OneCore) → slice_get cores n ≡ Some c → IsUnused c.start.core.monitor
  pub beside : (n side : ℕ) (d : OneCore) (m : LinkId) → slice_get cores n ≡ Some d → side_of_link d.start.core.link_sides m.0 ≡ Some side → IsBeside cores d m

-- of a core whose links carried the fragments of these steps: what was heard to ask for a circuit, and what was said to, a job asks for
pub record GoesRequested (jobs : List CoreJob) (c : OneCore) : Type 0 where
  pub asking : GoesAsking jobs c
  pub heard : (o : Opening) → CameAlong c.start.core.monitor.circuits (λ l. of_circuit 0 (taken_from l asking.steps)) o → IsRequested jobs o
  pub said : (l : ℕ) (f : Frag) (o : Opening) → Has f (of_circuit 0 (put_on l asking.steps)) → AsksBy f o → IsRequested jobs o

-- whatever the cores say
abbrev pub RequestsAlone : Type 0
RequestsAlone = (jobs : List CoreJob) (cores : List OneCore) → AreBeside jobs cores → (n : ℕ) (c : OneCore) → slice_get cores n ≡ Some c → GoesRequested jobs c

-- so a server's end that was made is that of a job's binding: at the core and the dispatcher of the service that the job asks for, with the program of its
-- interface
pub record IsServer (jobs : List CoreJob) (c : OneCore) (binding : ℕ) (seat : TheEndAtChannel) : Type 0 where
  pub place : ℕ
  pub request : OpenRequest
  pub job_is : slice_get jobs place ≡ Some (job.Open request)
  pub binding_is : request.opening.binding ≡ binding
  pub registration : TheRegistration
  pub service : by_iref request.opening.service.0 c.start.offers.names ≡ Some registration
  pub core_is : registration.service.core.0 ≡ c.start.core.monitor.circuits.core
  pub sat : SatAt shared_ways jobs c.finish (server_of binding) registration.service.dispatcher
  pub source : Program
  pub source_is : slice_get c.start.offers.programs registration.service.interface ≡ Some source
  pub same : program_of seat.end.program ≡ program_of source

abbrev pub ServersAreRequested : Type 0
ServersAreRequested = (jobs : List CoreJob) (cores : List OneCore) → AreBeside jobs cores → (n : ℕ) (c : OneCore) → slice_get cores n ≡ Some c
    → (binding e : ℕ) (seat : TheEndAtChannel) → place_of c.start.core (server_of binding) ≡ None → place_of c.finish.core (server_of binding) ≡ Some e
    → slice_get c.finish.core.board.seats e ≡ Some seat → IsServer jobs c binding seat

-- and a client's end that was made is that of a job that an end's progress of its core had, and did
abbrev pub ClientsAreRequested : Type 0
ClientsAreRequested = (jobs : List CoreJob) (c : OneCore) → Leading jobs c → IsUnused c.start.core.monitor
    → (binding e : ℕ) (seat : TheEndAtChannel) → place_of c.start.core (client_of binding) ≡ None → place_of c.finish.core (client_of binding) ≡ Some e
    → slice_get c.finish.core.board.seats e ≡ Some seat
    → (d : ℕ) × SatAt shared_ways jobs c.finish (client_of binding) d × IsOpenedBy jobs c.start c.log (client_of binding) seat.end.program d

-- ---- bindings that jobs open. Law

-- a request is for a service of the binding's server's core, under the binding's interface
pub record IsForBinding (names : List TheRegistration) (w : OpenRequest) (b : BindingCores) : Type 0 where
  pub interface : w.interface ≡ b.interface
  pub registration : TheRegistration
  pub service : by_iref w.opening.service.0 names ≡ Some registration
  pub core_is : registration.service.core.0 ≡ b.server
  pub offered : registration.service.interface ≡ b.interface

-- this job is one of the end's work of an end, and the end is of the core at this place
pub record IsOwnJob (j : TheJoinedJobs) (place : ℕ) (e : EndId) (job : ℕ) : Type 0 where
  pub turn : ℕ
  pub job_is : slice_get (end_work_at j.end_works e).jobs turn ≡ Some job
  pub bound : BindingCores
  pub bound_is : slice_get j.bindings e.binding ≡ Some bound
  pub core_is : core_of e.side bound ≡ place

-- cores that were set up together: each has its place as its number, all offer the same services, jobs ask for such, and lie
-- at the ends' progress of their ends
pub record AreStaffed (j : TheJoinedJobs) (cores : List OneCore) (names : List TheRegistration) (programs : List TheProgram) : Type 0 where
  pub beside : AreBeside j.jobs cores
  pub numbered : (n : ℕ) (c : OneCore) → slice_get cores n ≡ Some c → c.start.core.monitor.circuits.core ≡ n
  pub named : (n : ℕ) (c : OneCore) → slice_get cores n ≡ Some c → c.start.offers.names ≡ names
  pub programmed : (n : ℕ) (c : OneCore) → slice_get cores n ≡ Some c → map program_of c.start.offers.programs ≡ programs
  pub requests : (k : ℕ) (w : OpenRequest) (b : BindingCores) → slice_get j.jobs k ≡ Some (job.Open w) → slice_get j.bindings w.opening.binding ≡ Some b
      → IsForBinding names w b
  pub progresses : (n : ℕ) (c : OneCore) (e : EndId) (progress : TheEndProgress) (turn k : ℕ) → slice_get cores n ≡ Some c
      → progress_of c.start e ≡ Some progress → slice_get progress.jobs turn ≡ Some k → IsOwnJob j n e k

-- an end that was made in a run
pub record IsMade (c : OneCore) (e : EndId) (seat : TheEndAtChannel) : Type 0 where
  pub absent : place_of c.start.core e ≡ None
  pub place : ℕ
  pub place_is : place_of c.finish.core e ≡ Some place
  pub seat_is : slice_get c.finish.core.board.seats place ≡ Some seat

-- it is at the core that its binding names, with the program of the binding's interface
pub record IsAtHome (e : EndId) (b : BindingCores) (programs : List TheProgram) (place : ℕ) (seat : TheEndAtChannel) : Type 0 where
  pub core_is : core_of e.side b ≡ place
  pub program_is : slice_get programs b.interface ≡ Some (program_of seat.end.program)

abbrev pub EndsAreAtHome : Type 0
EndsAreAtHome = (asked : List Job) (j : TheJoinedJobs) (cores : List OneCore) (names : List TheRegistration) (programs : List TheProgram)
    → AreJoined (length cores) asked j → AreStaffed j cores names programs
    → (e : EndId) (b : BindingCores) (n : ℕ) (c : OneCore) (seat : TheEndAtChannel) → slice_get j.bindings e.binding ≡ Some b → slice_get cores n ≡ Some c
    → IsMade c e seat → IsAtHome e b programs n seat
