-- The jobs of a whole file, joined one after another to the bindings of a set-up.
use Rattle.std.specs.Prelude.{ℕ, ◌≡◌, ◌⊎◌, ◌<◌, ◌≤◌, ◌+◌, ◌-◌, ◌++◌, ◌&&◌, nat_le, nat_lt, not, if◌then◌else◌, Bool, List, [], ◌∷◌, length, map, take}
use Rattle.std.specs.Prelude.{slice_get, Option, Some, None}
use Rattle.std.specs.List.{flat_map}
use Rattle.fl_base.specs.declared.identity.EndId.{EndId}
use Rattle.fl_base.specs.declared.identity.MsgNo.{MsgNo}
use Rattle.fl_base.specs.Ends.{peer}
use Rattle.fl_base.specs.Given.{given}
use Rattle.fl_value_data.specs.declared.value.Call.{Call}
use Rattle.fl_value_data.specs.Value.{TheCall, call_of}
use Rattle.fl_compile.specs.declared.program.Program.{Program}
use Rattle.fl_model.specs.Calls.{Planned}
use Rattle.fl_core.specs.View.{TheCore}
use Rattle.fl_world_refines.specs.declared.binding.Binding.{Binding}
use Rattle.fl_world_refines.specs.declared.parts.Parts.{Parts}
use Rattle.fl_cores_file.specs.declared.stop.CoresLineFault.{CoresLineFault}
use Rattle.fl_cores_file.specs.declared.stop.CoresLineFault.TheVariants as stop
use Rattle.fl_cores_file.specs.Draft.{Bound as ReadBound, call_fault, rule_fault}
use Rattle.fl_cores_file.specs.Jobs.{TheCircuitRequest, Job, opens, replies, calls, handed_in}
use Rattle.fl_world_refines.specs.Ends.{planned_of}
use Rattle.fl_cores_jobs.specs.declared.end_work.BindingCores.{BindingCores}
use Rattle.fl_cores_jobs.specs.declared.fault.JobFault.{JobFault}
use Rattle.fl_cores_jobs.specs.declared.fault.JobFault.TheVariants as fault
use Rattle.fl_cores_jobs.specs.EndWork.{end_work_at}
use Rattle.fl_cores_jobs.specs.Faults.{as_read, fault_at_once, request_fault, the_first, StopsFor, RuleStops}
use Rattle.fl_cores_jobs.specs.Rules.{RuleNow, RulesOf}
use Rattle.fl_cores_jobs.specs.State.{TheJoinedJobs, with_binding, Opened, CallPlanned, RulePlanned, AreJoined}

-- ---- bindings that are set up

abbrev pub bound_of : Binding → BindingCores
bound_of x = record { interface = x.interface; client = x.client; server = x.server; opened = None }

-- one more: both ends are at cores, and there is a number for it
pub record SetUp (cores : ℕ) (x : Binding) (j j2 : TheJoinedJobs) : Type 0 where
  pub client : x.client < cores
  pub server : x.server < cores
  pub few : length j.bindings < 1024
  pub rest : j2 ≡ with_binding (bound_of x) j

-- the fault for which it is refused where so many stand before it: there is no number for it, or one of its ends is at no core
abbrev pub binding_fault : ℕ → ℕ → Binding → Option ℕ
binding_fault cores before x =
    if nat_le 1024 before then Some 94
    else if not (nat_lt x.client cores && nat_lt x.server cores) then Some 92
    else None

-- none of the first so many is refused
abbrev pub AreTaken : ℕ → List Binding → ℕ → Type 0
AreTaken cores set_up count = (n : ℕ) (x : Binding) → n < count → slice_get set_up n ≡ Some x → binding_fault cores n x ≡ None

-- the first of them that is refused, with this number
pub record BindingRefused (cores : ℕ) (set_up : List Binding) (number : ℕ) : Type 0 where
  pub place : ℕ
  pub binding : Binding
  pub binding_is : slice_get set_up place ≡ Some binding
  pub refused : binding_fault cores place binding ≡ Some number
  pub before : AreTaken cores set_up place

-- why they aren't joined: one of them is refused; or memory was refused at one of them, where neither it nor one before it is
abbrev pub SetUpStops : ℕ → List Binding → CoresLineFault → Type 0
SetUpStops cores set_up (stop.Refused number) = BindingRefused cores set_up number
SetUpStops cores set_up stop.Memory = (place : ℕ) × (place < length set_up) × AreTaken cores set_up (place + 1)

-- ---- jobs

-- the end is one of a binding that is set up
abbrev pub is_set_up : List Binding → EndId → Bool
is_set_up bindings e = nat_lt e.binding (length bindings)

-- what was joined so far, and the cores as they are then
pub record SoFar : Type 0 where
  pub joined : TheJoinedJobs
  pub cores : List TheCore

abbrev pub so_far : TheJoinedJobs → List TheCore → SoFar
so_far j ks = record { joined = j; cores = ks }

-- a rule more: at an end that is there it is set at once
pub record Ruled (set_up : List Binding) (e : EndId) (msg answer : ℕ) (before after : SoFar) : Type 0 where
  pub message : MsgNo
  pub reply : MsgNo
  pub message_is : message.0 ≡ msg
  pub reply_is : reply.0 ≡ answer
  pub planned : RulePlanned (is_set_up set_up e) e message reply before.joined after.joined
  pub set : RuleNow (slice_get set_up e.binding) e msg answer before.cores after.cores

-- a job more
abbrev pub Joins : List Binding → Job → SoFar → SoFar → Type 0
Joins set_up (opens w) before after = Opened (length before.cores) w before.joined after.joined × (after.cores ≡ before.cores)
Joins set_up (replies e msg answer) before after = Ruled set_up e msg answer before after
Joins set_up (calls e c) before after =
    ((call : Call) × (call_of call ≡ c) × CallPlanned e call before.joined after.joined) × (after.cores ≡ before.cores)

-- ---- which bindings there are

-- what is asked of a binding: its interface, and its client's core
pub record About : Type 0 where
  pub interface : ℕ
  pub client : ℕ

abbrev pub about : BindingCores → About
about x = record { interface = x.interface; client = x.client }

abbrev pub request_in : Job → List TheCircuitRequest
request_in (opens w) = w ∷ []
request_in job = []

-- those that are set up, and behind them those that the jobs open, in order
abbrev pub all_about : List Binding → List Job → List About
all_about set_up jobs =
    map (λ (x : Binding). about (bound_of x)) set_up
    ++ map (λ (w : TheCircuitRequest). let a : About = record { interface = w.interface; client = w.client.core } in a) (flat_map request_in jobs)

pub record AreBound (set_up : List Binding) (jobs : List Job) (j : TheJoinedJobs) : Type 0 where
  pub bound : map about j.bindings ≡ all_about set_up jobs
  -- each that is set up stands at its own number
  pub first : (n : ℕ) (x : Binding) → slice_get set_up n ≡ Some x → slice_get j.bindings n ≡ Some (bound_of x)
  -- those that are set up no job opens, and one opens each of the others
  pub unopened : (n : ℕ) (b : BindingCores) → slice_get j.bindings n ≡ Some b → n < length set_up → b.opened ≡ None
  pub opened : (n : ℕ) (b : BindingCores) → slice_get j.bindings n ≡ Some b → length set_up ≤ n → (job : ℕ) × (b.opened ≡ Some job)

-- ---- the fault of a job

-- that the reader finds at an end behind these jobs
abbrev pub found_behind : List Program → List Binding → List Job → EndId → (ReadBound → Planned → Option ℕ) → Option ℕ
found_behind programs set_up before e finds =
    given (slice_get (all_about set_up before) e.binding) (Some 92) λ x.
    given (slice_get programs x.interface) (Some 92) λ p.
    finds (as_read (length set_up) before e.binding x.interface) (planned_of p)

-- for which it refuses a call, or a rule
abbrev pub call_refusal : Parts → List Job → EndId → TheCall → Option ℕ
call_refusal p before e c = found_behind p.programs.items p.bindings.items before e (call_fault e.side c)

abbrev pub rule_refusal : Parts → List Job → EndId → ℕ → ℕ → Option ℕ
rule_refusal p before e msg answer = found_behind p.programs.items p.bindings.items before e (rule_fault e.side msg answer)

-- how many bindings there are then
abbrev pub count_behind : List Binding → List Job → ℕ
count_behind set_up before = length (all_about set_up before)

-- the fault for which a job is refused behind these ones: of those that it has the first, by the order in which they are told
abbrev pub job_fault : Parts → List Job → Job → Option ℕ
job_fault p before (opens w) = request_fault p (count_behind p.bindings.items before) w
job_fault p before (replies e msg answer) =
    the_first (rule_refusal p before e msg answer) (fault_at_once p.cores.items p.bindings.items e msg answer)
job_fault p before (calls e c) = call_refusal p before e c

-- none of these jobs has a fault, each behind those before it
abbrev pub NoneRefused : Parts → List Job → Type 0
NoneRefused p jobs = (n : ℕ) (job : Job) → slice_get jobs n ≡ Some job → job_fault p (take n jobs) job ≡ None

-- why a job isn't joined behind these ones: for its fault; or since memory was refused, where it has none, but for one of a rule that its end finds at once
abbrev pub JobStops : Parts → List Job → Job → CoresLineFault → Type 0
JobStops p before (opens w) s = StopsFor (job_fault p before (opens w)) s
JobStops p before (replies e msg answer) s =
    RuleStops (rule_refusal p before e msg answer) (fault_at_once p.cores.items p.bindings.items e msg answer) s
JobStops p before (calls e c) s = StopsFor (job_fault p before (calls e c)) s

-- ---- what is told

-- why what stands at a place isn't joined
abbrev pub fault_at : CoresLineFault → ℕ → JobFault
fault_at (stop.Refused number) place = fault.Refused number place
fault_at stop.Memory place = fault.Memory

-- the fault's number
abbrev pub number_of : JobFault → ℕ
number_of (fault.Refused number place) = number
number_of fault.Memory = 99

-- the job at this place, from 1, is refused, with this number: those before it were joined, and none of them has a fault
pub record RefusedAt (p : Parts) (jobs : List Job) (number place : ℕ) : Type 0 where
  pub before : List Job
  pub job : Job
  pub behind : List Job
  pub jobs_are : jobs ≡ before ++ job ∷ behind
  pub place_is : place ≡ length before + 1
  pub joined : TheJoinedJobs
  pub were : AreJoined (length p.cores.items) before joined
  pub bound : AreBound p.bindings.items before joined
  pub stops : job_fault p before job ≡ Some number
  pub passed : NoneRefused p before

-- memory was refused at one of the jobs: none of those before it has a fault, nor has it, but for one of a rule that its end finds at once
pub record WantsMemory (p : Parts) (jobs : List Job) : Type 0 where
  pub before : List Job
  pub job : Job
  pub behind : List Job
  pub jobs_are : jobs ≡ before ++ job ∷ behind
  pub stops : JobStops p before job stop.Memory
  pub passed : NoneRefused p before

-- why jobs aren't joined: one of them is refused, or memory was refused
abbrev pub FirstRefused : Parts → List Job → JobFault → Type 0
FirstRefused p jobs (fault.Refused number place) = RefusedAt p jobs number place
FirstRefused p jobs fault.Memory = WantsMemory p jobs

-- or, at place 0, a binding of the set-up is; or memory was refused at one of these
abbrev pub IsFault : Parts → List Job → JobFault → Type 0
IsFault p jobs (fault.Refused number place) =
    ((place ≡ 0) × BindingRefused (length p.cores.items) p.bindings.items number) ⊎ RefusedAt p jobs number place
IsFault p jobs fault.Memory = SetUpStops (length p.cores.items) p.bindings.items stop.Memory ⊎ WantsMemory p jobs

-- and which rules are set then: those of the jobs before the one that is refused, or at which memory was; none, where it was at a binding of the set-up
abbrev pub HadSet : Parts → List Job → JobFault → List TheCore → Type 0
HadSet p jobs (fault.Refused number place) ks = RulesOf p.bindings.items (take (place - 1) jobs) p.cores.items ks
HadSet p jobs fault.Memory ks =
    (SetUpStops (length p.cores.items) p.bindings.items stop.Memory × (ks ≡ p.cores.items))
    ⊎ ((w : WantsMemory p jobs) × RulesOf p.bindings.items w.before p.cores.items ks)

-- of the same jobs no other refusal is told, and none of a job where none has a fault
abbrev pub OneRefusal : Type 0
OneRefusal = (p : Parts) (jobs : List Job) (number number2 place place2 : ℕ)
    → IsFault p jobs (fault.Refused number place) → IsFault p jobs (fault.Refused number2 place2) → (number ≡ number2) × (place ≡ place2)

abbrev pub NoRefusal : Type 0
NoRefusal = (p : Parts) (jobs : List Job) (number place : ℕ) → NoneRefused p jobs → RefusedAt p jobs number place → ⊥

-- all that a world was made of, but its cores, is as it was
pub record IsBeside (p p2 : Parts) : Type 0 where
  pub rings : p2.rings.items ≡ p.rings.items
  pub queues : p2.queues.items ≡ p.queues.items
  pub programs : p2.programs.items ≡ p.programs.items
  pub names : p2.names ≡ p.names
  pub bindings : p2.bindings.items ≡ p.bindings.items

-- ---- how many calls are due

-- of each end just as many as are handed in for it: at its other end
pub record AreDue (asked : List Job) (j : TheJoinedJobs) : Type 0 where
  pub due : (e : EndId) → e.binding < length j.bindings → (end_work_at j.end_works e).due ≡ length (handed_in asked (peer e))
