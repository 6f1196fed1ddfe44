-- Why circuits are refused: what cores tell each other. Laws.
use Rattle.std.specs.Prelude.{ℕ, ◌≡◌, ◌≢◌, ◌⊎◌, ◌≤◌, true, false, List, length, slice_get, Some, None}
use Rattle.fl_base.specs.declared.fragment.Frag.{Frag}
use Rattle.fl_base.specs.declared.identity.CoreId.{CoreId}
use Rattle.fl_base.specs.declared.identity.EndId.{EndId}
use Rattle.fl_base.specs.declared.identity.Circuit.{Circuit}
use Rattle.fl_nameserv.specs.Registrations.{TheRegistration, by_iref}
use Rattle.fl_hop.specs.declared.entry.Hop.{Hop}
use Rattle.fl_hop.specs.declared.entry.HopTarget.{HopTarget}
use Rattle.fl_hop.specs.declared.entry.HopTarget.TheVariants.{Link, End}
use Rattle.fl_hop.specs.declared.links.LinkState.{LinkState}
use Rattle.fl_hop.specs.Numbers.{OpenedHere, OpenedThere}
use Rattle.fl_hop.specs.OfCircuit.{of_circuit}
use Rattle.fl_hop.specs.Stretch.{TableStep, taken_from, put_on}
use Rattle.fl_hop.specs.Table.{TheCircuits, hop_at, link_of, most_openings}
use Rattle.fl_monitor.specs.declared.message.MonitorMessage.TheVariants.{CircuitRefused}
use Rattle.fl_monitor.specs.declared.opening.Opening.{Opening}
use Rattle.fl_monitor.specs.Fates.{comes_along, is_offered_elsewhere}
use Rattle.fl_monitor.specs.Routing.{next_on, all_differ}
use Rattle.fl_monitor.specs.Monitors.{TheMonitor, waiting_for, asks}
use Rattle.fl_monitor.specs.Saying.{Says}
use Rattle.fl_core.specs.BoardView.{TheDispatcher}
use Rattle.fl_core.specs.Hearing.{offer_of}
use Rattle.fl_core.specs.View.{place_of, client_of}
use Rattle.fl_ring.specs.SharedSides.{TheSide}
use Rattle.fl_core.specs.declared.core_job.CoreJob.{CoreJob}
use Rattle.fl_core.specs.declared.core_job.CoreJob.TheVariants as job
use Rattle.fl_core.specs.declared.core_job.OpenRequest.{OpenRequest}
use Rattle.fl_core_run.specs.LogEntries.{LogEntry, IsSound}
use Rattle.fl_core_run.specs.EndProgress.{TheEndProgress}
use Rattle.fl_core_run.specs.Run.{TheRun}
use Rattle.fl_core_run.specs.OpeningStatus.{refusal_at}
use Rattle.fl_core_run_laws.specs.Logs.{Goes}
use Rattle.fl_core_run_laws.specs.Made.{progress_of}
use Rattle.fl_cores_file.specs.Jobs.{Job}
use Rattle.fl_compile.specs.Programs.{TheProgram}
use Rattle.fl_cores_jobs.specs.State.{TheJoinedJobs}
use Rattle.fl_cores_laws.specs.Cores.{shared_ways, OneCore, AreAmple, AllAmple}
use Rattle.fl_cores_laws.specs.Circuits.{Leading}
use Rattle.fl_cores_laws.specs.Named.{Has}
use Rattle.fl_cores_laws.specs.Neighbours.{IsUnused}
use Rattle.fl_cores_laws.specs.Asked.{GoesAsking}
use Rattle.fl_cores_laws.specs.Runs.{AreSetUp}

-- a dispatcher has no place for one end more (54), a core of the route has no link that leads on (73), or no number is left on that link (74)
abbrev pub IsReason : ℕ → Type 0
IsReason n = (n ≡ 54) ⊎ (n ≡ 73) ⊎ (n ≡ 74)

-- ---- why a core refuses, whose table was t as its run began, and is u

-- the route leads on from it to a core to which it has no link, or names a core twice
pub record LeadsNowhere (t : TheCircuits) (path : List CoreId) : Type 0 where
  pub next : CoreId
  pub next_is : next_on path t.core ≡ Some next
  pub none : (link_of t next.0 ≡ None) ⊎ (all_differ path ≡ false)

-- it gave all the numbers of its own on a link
pub record IsUsedUp (u : TheCircuits) (l : ℕ) : Type 0 where
  pub state : LinkState
  pub state_is : slice_get u.links l ≡ Some state
  pub all : most_openings ≤ state.opened

-- the route leads on from it over such a link
pub record LeadsOverUsedUp (t u : TheCircuits) (path : List CoreId) : Type 0 where
  pub next : CoreId
  pub next_is : next_on path t.core ≡ Some next
  pub link : ℕ
  pub link_is : link_of t next.0 ≡ Some link
  pub used_up : IsUsedUp u link

-- the route ends here, at a service that isn't another core's, of those that are offered; and there was no place for it
pub record HasNoPlace (names : List TheRegistration) (NoPlace : Opening → Type 0) (t : TheCircuits) (o : Opening) : Type 0 where
  pub last : next_on o.path t.core ≡ None
  pub own : is_offered_elsewhere names t.core o.service.0 ≡ false
  pub none : NoPlace o

-- an opening that it heard: the route ends here, and there was no place; or it leads nowhere, or over a link that is used up
abbrev pub Refuses : List TheRegistration → (Opening → Type 0) → TheCircuits → TheCircuits → Opening → ℕ → Type 0
Refuses names NoPlace t u o reason =
    ((reason ≡ 54) × HasNoPlace names NoPlace t o) ⊎ ((reason ≡ 73) × LeadsNowhere t o.path) ⊎ ((reason ≡ 74) × LeadsOverUsedUp t u o.path)

-- one that a job of its own asks for: its dispatcher was full, or the link on which it is to begin isn't there, or that is used up
abbrev pub RefusesRequest : (ℕ → Type 0) → TheCircuits → TheCircuits → OpenRequest → ℕ → Type 0
RefusesRequest Full t u w reason =
    ((reason ≡ 54) × Full w.dispatcher) ⊎ ((reason ≡ 73) × (slice_get t.links w.link.0 ≡ None)) ⊎ ((reason ≡ 74) × IsUsedUp u w.link.0)

-- ---- at a moment of a run

-- the core, which offers what it did, found no place for a server's end of this opening
pub record FoundNoPlace (jobs : List CoreJob) (c : OneCore) (o : Opening) : Type 0 where
  pub moment : TheRun TheSide
  pub log : List LogEntry
  pub goes : Goes shared_ways jobs moment log c.finish
  pub sound : IsSound moment.core
  pub number : moment.core.monitor.circuits.core ≡ c.start.core.monitor.circuits.core
  pub offers : moment.offers ≡ c.start.offers
  pub none : offer_of moment.offers moment.core o.service.0 ≡ None

-- a dispatcher had 1,024 ends, in one that came to this end
pub record WasFull (jobs : List CoreJob) (finish : TheRun TheSide) (d : ℕ) : Type 0 where
  pub moment : TheRun TheSide
  pub log : List LogEntry
  pub goes : Goes shared_ways jobs moment log finish
  pub sound : IsSound moment.core
  pub dispatcher : TheDispatcher
  pub dispatcher_is : slice_get moment.core.board.dispatchers d ≡ Some dispatcher
  pub full : length dispatcher.ends ≡ 1024

-- ---- one core

-- what a monitor said and heard, as fragments by link, and the monitor itself as it was then
pub record Talk : Type 0 where
  pub said : ℕ → List Frag
  pub heard : ℕ → List Frag
  pub monitor : TheMonitor

abbrev pub as_talk : (ℕ → List Frag) → (ℕ → List Frag) → TheMonitor → Talk
as_talk said heard m = record { said = said; heard = heard; monitor = m }

-- that of a core over whose links fragments went in these steps, in its whole run: monitors say and hear what goes on circuit 0
abbrev pub talk_of : OneCore → List TableStep → Talk
talk_of c steps = as_talk (λ l. of_circuit 0 (put_on l steps)) (λ l. of_circuit 0 (taken_from l steps)) c.finish.core.monitor

-- this opening was heard under this number of a link, from the core that comes before this one on its route
pub record CameUnder (t : TheCircuits) (heard : ℕ → List Frag) (l n : ℕ) (o : Opening) : Type 0 where
  pub frag : Frag
  pub has : Has frag (heard l)
  pub circuit : Circuit
  pub number : circuit.0 ≡ n
  pub says : Says frag (asks circuit o)
  pub along : comes_along t l o.path ≡ true

-- what was asked for under this number, or has still to be, is this opening
abbrev pub AsksOnly : (ℕ → List Frag) → TheMonitor → ℕ → ℕ → Opening → Type 0
AsksOnly said m l n o = (f : Frag) (c : Circuit) (x : Opening) → Has f (said l) ⊎ Has f (waiting_for m.outboxes l) → c.0 ≡ n → Says f (asks c x) → x ≡ o

-- this core asked further on for that opening, and heard that it is refused for this reason
pub record HeardRefused (talk : Talk) (o : Opening) (reason : ℕ) : Type 0 where
  pub link : ℕ
  pub frag : Frag
  pub has : Has frag (talk.heard link)
  pub circuit : Circuit
  pub says : Says frag (CircuitRefused circuit reason)
  pub given : OpenedHere talk.monitor.circuits link circuit.0
  pub only : AsksOnly talk.said talk.monitor link circuit.0 o

-- why an opening is refused at a core that offers these services: for a reason of its own; for want of the service; or as it heard from further on
abbrev pub IsRefusedFor : List TheRegistration → (Opening → Type 0) → TheCircuits → Talk → Opening → ℕ → Type 0
IsRefusedFor names NoPlace t talk o reason =
    Refuses names NoPlace t talk.monitor.circuits o reason ⊎ (by_iref o.service.0 names ≡ None) ⊎ HeardRefused talk o reason

-- where an entry leads this way, its opening was heard there, or a job here asks for it
abbrev pub IsFrom : (Opening → Type 0) → TheCircuits → (ℕ → List Frag) → HopTarget → Opening → Type 0
IsFrom Requests t heard (Link x d) o = CameUnder t heard x.0 d.0 o
IsFrom Requests t heard (End e) o = Requests o

-- just one opening was asked for under this number, and it is that of the entry which stands there
pub record IsFor (Requests : Opening → Type 0) (t : TheCircuits) (talk : Talk) (l n : ℕ) (hop : Hop) : Type 0 where
  pub opening : Opening
  pub binding_is : opening.binding ≡ hop.binding
  pub origin : IsFrom Requests t talk.heard hop.way opening
  pub only : AsksOnly talk.said talk.monitor l n opening

-- of all that a monitor said and heard; jobs here ask for these openings, and there was no place for those
pub record AreReasoned (names : List TheRegistration) (NoPlace Requests : Opening → Type 0) (t : TheCircuits) (talk : Talk) : Type 0 where
  -- what it asks for, or has still to ask for, such a job asks for, or it was heard
  pub asked : (l : ℕ) (f : Frag) (c : Circuit) (o : Opening) → Has f (talk.said l) ⊎ Has f (waiting_for talk.monitor.outboxes l) → Says f (asks c o)
      → Requests o ⊎ ((link n : ℕ) × CameUnder t talk.heard link n o)
  -- where an entry stands at a number of the neighbour's, an opening of its binding was heard under that
  pub told : (l n : ℕ) (hop : Hop) → OpenedThere talk.monitor.circuits l n → hop_at talk.monitor.circuits l n ≡ Some hop
      → (o : Opening) × CameUnder t talk.heard l n o × (o.binding ≡ hop.binding)
  -- where an entry stands at a number that this core gave, just its opening was asked for under that
  pub given : (l n : ℕ) (hop : Hop) → OpenedHere talk.monitor.circuits l n → hop_at talk.monitor.circuits l n ≡ Some hop → IsFor Requests t talk l n hop
  -- what it says to be refused, or has still to say, is an opening that was heard under that number
  pub refused : (l : ℕ) (f : Frag) (c : Circuit) (reason : ℕ) → Has f (talk.said l) ⊎ Has f (waiting_for talk.monitor.outboxes l)
      → Says f (CircuitRefused c reason) → (o : Opening) × CameUnder t talk.heard l c.0 o × IsRefusedFor names NoPlace t talk o reason

-- ---- which openings a core gave numbers for

-- the route leads on from this core over that link
pub record LeadsOver (t : TheCircuits) (path : List CoreId) (l : ℕ) : Type 0 where
  pub next : CoreId
  pub next_is : next_on path t.core ≡ Some next
  pub link_is : link_of t next.0 ≡ Some l

-- where an opening comes from: a job of this core's, or this number of a link
pub data Origin : Type 0 where
  from_job : Origin
  from_link : ℕ → ℕ → Origin

-- so it is, and therefore goes on over link l: a job asks for it there; or it was heard under a number that was taken, and its route leads on over that link
abbrev pub IsSince : (ℕ → Opening → Type 0) → TheCircuits → Talk → ℕ → Opening → Origin → Type 0
IsSince Requests t talk l o from_job = Requests l o
IsSince Requests t talk l o (from_link x n) = OpenedThere talk.monitor.circuits x n × CameUnder t talk.heard x n o × LeadsOver t o.path l

-- a number was given for such an opening, and no other was asked for under it
pub record IsGivenTo (Requests : ℕ → Opening → Type 0) (t : TheCircuits) (talk : Talk) (l n : ℕ) : Type 0 where
  pub opening : Opening
  pub origin : Origin
  pub since : IsSince Requests t talk l opening origin
  pub only : AsksOnly talk.said talk.monitor l n opening

-- each number that the core gave was given so, and no two of them for one binding from one origin
pub record AreGivenOnce (Requests : ℕ → Opening → Type 0) (t : TheCircuits) (talk : Talk) : Type 0 where
  pub given : (l n : ℕ) → OpenedHere talk.monitor.circuits l n → IsGivenTo Requests t talk l n
  pub once : (l n k i : ℕ) (a : OpenedHere talk.monitor.circuits l n) (b : OpenedHere talk.monitor.circuits k i)
      → (given l n a).opening.binding ≡ (given k i b).opening.binding → (given l n a).origin ≡ (given k i b).origin → (l ≡ k) × (n ≡ i)

-- none of them was given for what was heard under this number, which is taken
pub record GivesNone {Requests : ℕ → Opening → Type 0} {t : TheCircuits} {talk : Talk} (given : AreGivenOnce Requests t talk) (l n : ℕ) : Type 0 where
  pub taken : OpenedThere talk.monitor.circuits l n
  pub none : (k i : ℕ) (a : OpenedHere talk.monitor.circuits k i) → (given.given k i a).origin ≢ from_link l n

-- and what it says to be refused, or has still to say, is an opening that was heard under that number, for which it gave none; or it heard that it is refused
pub record AreSettled (Requests : ℕ → Opening → Type 0) (t : TheCircuits) (talk : Talk) : Type 0 where
  pub given : AreGivenOnce Requests t talk
  pub refused : (l : ℕ) (f : Frag) (c : Circuit) (reason : ℕ) → Has f (talk.said l) ⊎ Has f (waiting_for talk.monitor.outboxes l)
      → Says f (CircuitRefused c reason) → (o : Opening) × CameUnder t talk.heard l c.0 o × (GivesNone given l c.0 ⊎ HeardRefused talk o reason)

-- ---- at ends' progress

-- an end's progress has a job that asks for it
pub record IsOwnRequest (jobs : List CoreJob) (s : TheRun TheSide) (o : Opening) : Type 0 where
  pub name : EndId
  pub progress : TheEndProgress
  pub progress_is : progress_of s name ≡ Some progress
  pub turn : ℕ
  pub place : ℕ
  pub place_is : slice_get progress.jobs turn ≡ Some place
  pub request : OpenRequest
  pub job_is : slice_get jobs place ≡ Some (job.Open request)
  pub opening_is : request.opening ≡ o

-- and that it begins on this link
pub record IsOwnRequestOver (jobs : List CoreJob) (s : TheRun TheSide) (l : ℕ) (o : Opening) : Type 0 where
  pub own : IsOwnRequest jobs s o
  pub link_is : own.request.link.0 ≡ l

-- and the client's end of its binding is at the core as the run ends
pub record IsOwnMade (jobs : List CoreJob) (c : OneCore) (l : ℕ) (o : Opening) : Type 0 where
  pub over : IsOwnRequestOver jobs c.start l o
  pub place : ℕ
  pub place_is : place_of c.finish.core (client_of o.binding) ≡ Some place

-- one of the fragments that were heard, over a link that was there as the run began, says that an opening is refused for this reason: the only one that was
-- asked for under that number, for which a job requests, and of this client's end
pub record WasHeard (Requests : Opening → Type 0) (t : TheCircuits) (talk : Talk) (e : EndId) (reason : ℕ) : Type 0 where
  pub link : ℕ
  pub state : LinkState
  pub state_is : slice_get t.links link ≡ Some state
  pub frag : Frag
  pub has : Has frag (talk.heard link)
  pub circuit : Circuit
  pub says : Says frag (CircuitRefused circuit reason)
  pub own : Opening
  pub requested : Requests own
  pub only : AsksOnly talk.said talk.monitor link circuit.0 own
  pub end_is : client_of own.binding ≡ e

-- no other job asks for an opening of its binding
abbrev pub IsOnlyRequest : List CoreJob → OpenRequest → Type 0
IsOnlyRequest jobs request = (place : ℕ) (w : OpenRequest) → slice_get jobs place ≡ Some (job.Open w)
    → w.opening.binding ≡ request.opening.binding → w ≡ request

-- a job of the end's progress asks for an opening that this core refused; where for want of a number, and no other job asks for its binding, the client's end
-- isn't there in the end
pub record WasRefused (jobs : List CoreJob) (s finish : TheRun TheSide) (e : EndId) (reason : ℕ) : Type 0 where
  pub progress : TheEndProgress
  pub progress_is : progress_of s e ≡ Some progress
  pub turn : ℕ
  pub place : ℕ
  pub place_is : slice_get progress.jobs turn ≡ Some place
  pub request : OpenRequest
  pub job_is : slice_get jobs place ≡ Some (job.Open request)
  pub why : RefusesRequest (WasFull jobs finish) s.core.monitor.circuits finish.core.monitor.circuits request reason
  pub gone : reason ≡ 74 → IsOnlyRequest jobs request → place_of finish.core (client_of request.opening.binding) ≡ None

-- an opening was heard of a binding of which a job of an end's progress asks for one
pub record AskedAgain (jobs : List CoreJob) (s : TheRun TheSide) (heard : ℕ → List Frag) : Type 0 where
  pub own : Opening
  pub requested : IsOwnRequest jobs s own
  pub link : ℕ
  pub number : ℕ
  pub opening : Opening
  pub came : CameUnder s.core.monitor.circuits heard link number opening
  pub binding_is : opening.binding ≡ own.binding

-- why a refusal stands at the end's progress of an end, where fragments went over the core's links in these steps: as was
-- heard; for a reason of this core's own; or since an entry of the binding stood there (67)
abbrev pub IsRefusedAt : List CoreJob → OneCore → List TableStep → EndId → ℕ → Type 0
IsRefusedAt jobs c steps e reason =
    WasHeard (IsOwnRequest jobs c.start) c.start.core.monitor.circuits (talk_of c steps) e reason ⊎ WasRefused jobs c.start c.finish e reason
    ⊎ AskedAgain jobs c.start (talk_of c steps).heard

-- ---- one core. Law

-- so it is of a core, with what it asked for; at ends' progress, where memory was never wanted for an opening
pub record GoesReasoned (jobs : List CoreJob) (c : OneCore) : Type 0 where
  pub asking : GoesAsking jobs c
  pub reasoned : AreReasoned c.start.offers.names (FoundNoPlace jobs c) (IsOwnRequest jobs c.start) c.start.core.monitor.circuits (talk_of c asking.steps)
  pub progresses : AreAmple c.log → (e : EndId) → (refusal_at c.finish e ≡ refusal_at c.start e) ⊎ IsRefusedAt jobs c asking.steps e (refusal_at c.finish e)
  -- what it asked for is under numbers that it gave; and each of these it gave once
  pub under : (l : ℕ) (f : Frag) (n : Circuit) (o : Opening) → Has f ((talk_of c asking.steps).said l) → Says f (asks n o)
      → OpenedHere c.finish.core.monitor.circuits l n.0
  pub settled : AreSettled (IsOwnMade jobs c) c.start.core.monitor.circuits (talk_of c asking.steps)

-- in every run of a core that had nothing to say before
abbrev pub CoresReason : Type 0
CoresReason = (jobs : List CoreJob) (c : OneCore) → Leading jobs c → IsUnused c.start.core.monitor → GoesReasoned jobs c

-- ---- all cores. Laws

-- one of the cores refuses this opening, which it heard
pub record RefusesOne (jobs : List CoreJob) (cores : List OneCore) (o : Opening) (reason : ℕ) : Type 0 where
  pub place : ℕ
  pub core : OneCore
  pub core_is : slice_get cores place ≡ Some core
  pub why : Refuses core.start.offers.names (FoundNoPlace jobs core) core.start.core.monitor.circuits core.finish.core.monitor.circuits o reason

-- whatever a core heard over its links to be refused, one of the cores refuses
pub record HearsReasons (jobs : List CoreJob) (cores : List OneCore) (c : OneCore) : Type 0 where
  pub goes : GoesReasoned jobs c
  pub reasons : (l : ℕ) (link : LinkState) (f : Frag) (n : Circuit) (reason : ℕ) → slice_get c.start.core.monitor.circuits.links l ≡ Some link
      → Has f (of_circuit 0 (taken_from l goes.asking.steps)) → Says f (CircuitRefused n reason) → (o : Opening) × RefusesOne jobs cores o reason

-- where cores were set up together and ran the jobs that were joined for them
abbrev pub ReasonsAlone : Type 0
ReasonsAlone = (asked : List Job) (j : TheJoinedJobs) (cores : List OneCore) (names : List TheRegistration) (programs : List TheProgram)
    → AreSetUp asked j cores names programs → (n : ℕ) (c : OneCore) → slice_get cores n ≡ Some c → HearsReasons j.jobs cores c

-- the opening for which a job of a client's end at this core requests is refused here, or by one of the cores that heard it
pub record IsRefused (jobs : List CoreJob) (cores : List OneCore) (c : OneCore) (e : EndId) (reason : ℕ) : Type 0 where
  pub place : ℕ
  pub request : OpenRequest
  pub job_is : slice_get jobs place ≡ Some (job.Open request)
  pub end_is : client_of request.opening.binding ≡ e
  pub why : RefusesRequest (WasFull jobs c.finish) c.start.core.monitor.circuits c.finish.core.monitor.circuits request reason
      ⊎ RefusesOne jobs cores request.opening reason

-- so it is where a refusal stands at an end's progress in the end, where none stood there as the run began, and memory was never wanted for an opening
abbrev pub ProgressTellReasons : Type 0
ProgressTellReasons = (asked : List Job) (j : TheJoinedJobs) (cores : List OneCore) (names : List TheRegistration) (programs : List TheProgram)
    → AreSetUp asked j cores names programs → AllAmple cores → (n : ℕ) (c : OneCore) (e : EndId) → slice_get cores n ≡ Some c
    → refusal_at c.start e ≡ 0 → (refusal_at c.finish e ≡ 0) ⊎ IsRefused j.jobs cores c e (refusal_at c.finish e)

-- each reason is one of three
abbrev pub RefusedForReason : Type 0
RefusedForReason = (jobs : List CoreJob) (cores : List OneCore) (c : OneCore) (e : EndId) (reason : ℕ) → IsRefused jobs cores c e reason → IsReason reason
