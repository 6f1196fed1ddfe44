-- Why a job is refused: as the reader of cores files finds it, by the jobs that were joined before.
use Rattle.std.specs.Prelude.{ℕ, ◌≡◌, ◌==◌, ◌&&◌, ◌||◌, nat_le, not, if◌then◌else◌, Bool, List, length, map, slice_get, Option, Some, None}
use Rattle.std.specs.List.{list_all}
use Rattle.fl_base.specs.declared.identity.EndId.{EndId}
use Rattle.fl_base.specs.Ends.{peer}
use Rattle.fl_base.specs.Given.{given}
use Rattle.fl_base.specs.Numbered.{core_id}
use Rattle.fl_interface.specs.SameTypes.{same_arguments}
use Rattle.fl_value_data.specs.Fits.{fits_of}
use Rattle.fl_value_data.specs.Value.{TheCall}
use Rattle.fl_compile.specs.declared.program.Program.{Program}
use Rattle.fl_model.specs.Calls.{Planned}
use Rattle.fl_model.specs.Taking.{arguments_of, has_message}
use Rattle.fl_endpoint.specs.View.{TheEnd, interface_in, plan_in}
use Rattle.fl_hop.specs.Table.{TheCircuits}
use Rattle.fl_monitor.specs.Monitors.{first_link}
use Rattle.fl_nameserv.specs.Registrations.{TheRegistration, by_name}
use Rattle.fl_core.specs.View.{TheCore, place_of, client_of, server_of}
use Rattle.fl_world_refines.specs.declared.binding.Binding.{Binding}
use Rattle.fl_world_refines.specs.declared.parts.Parts.{Parts}
use Rattle.fl_world_refines.specs.View.{core_in}
use Rattle.fl_cores_file.specs.declared.stop.CoresLineFault.{CoresLineFault}
use Rattle.fl_cores_file.specs.declared.stop.CoresLineFault.TheVariants as stop
use Rattle.fl_cores_file.specs.Jobs.{TheCircuitRequest, Job, own_calls, has_rules}
use Rattle.fl_cores_file.specs.Draft.{Use, free, makes_calls, has_rules as for_rules, Bound as ReadBound}
use Rattle.fl_world_refines.specs.Ends.{planned_of}
use Rattle.fl_cores_jobs.specs.declared.end_work.BindingCores.{BindingCores}
use Rattle.fl_cores_jobs.specs.EndWork.{TheEndWork, end_work_at, is_ruled, are_some}

-- ---- as the reader has it

-- what the jobs so far make of an end
abbrev pub use_in : List Job → EndId → Use
use_in asked e = if has_rules asked e then for_rules else if are_some (own_calls asked e) then makes_calls else free

-- a binding behind these jobs, which has this number and is of this interface, where so many are set up
abbrev pub as_read : ℕ → List Job → ℕ → ℕ → ReadBound
as_read set_up asked n interface = record {
  is_opened = nat_le set_up n;
  interface = interface;
  at_client = use_in asked (client_of n);
  at_server = use_in asked (server_of n);
}

-- why it stops: for the fault that is found, if there is one, and else as memory is refused
abbrev pub StopsFor : Option ℕ → CoresLineFault → Type 0
StopsFor found (stop.Refused number) = found ≡ Some number
StopsFor found stop.Memory = found ≡ None

-- ---- by ends' work

-- the fault that is found at an end
abbrev pub found_at : List Program → List BindingCores → EndId → (BindingCores → Planned → Option ℕ) → Option ℕ
found_at programs bindings e finds =
    given (slice_get bindings e.binding) (Some 92) λ x.
    given (slice_get programs x.interface) (Some 92) λ p. finds x (planned_of p)

abbrev pub call_fault_by : TheEndWork → TheCall → Planned → Option ℕ
call_fault_by d c i =
    if nat_le (length i.interface.messages) c.msg then Some 41
    else if not (fits_of i.interface c) then Some 42
    else if is_ruled d then Some 44
    else None

abbrev pub rule_fault_by : TheEndWork → TheEndWork → ℕ → ℕ → Planned → Option ℕ
rule_fault_by d across msg answer i =
    if not (has_message msg i && has_message answer i) then Some 41
    else if not (same_arguments (arguments_of msg i) (arguments_of answer i)) then Some 42
    else if d.makes_calls || is_ruled across then Some 44
    else None

abbrev pub call_fault_at : List Program → List BindingCores → List TheEndWork → EndId → TheCall → Option ℕ
call_fault_at programs bindings end_works e c = found_at programs bindings e λ x i. call_fault_by (end_work_at end_works e) c i

abbrev pub rule_fault_at : List Program → List BindingCores → List TheEndWork → EndId → ℕ → ℕ → Option ℕ
rule_fault_at programs bindings end_works e msg answer =
    found_at programs bindings e λ x i. rule_fault_by (end_work_at end_works e) (end_work_at end_works (peer e)) msg answer i

-- ---- a request

-- the service of the name isn't there, or is offered under another interface
abbrev pub offer_fault : List TheRegistration → List ℕ → ℕ → Option ℕ
offer_fault names service interface =
    given (by_name service names) (Some 70) λ r. if not (r.service.interface == interface) then Some 72 else None

-- a route has at most 16 cores, each with a number of 8 bits
abbrev pub is_path : List ℕ → Bool
is_path route = list_all (λ core. nat_le core 255) route && nat_le (length route) 16

abbrev pub path_fault : List ℕ → Option ℕ
path_fault route = if not (is_path route) then Some 73 else None

-- there is no link on which a circuit may begin
abbrev pub link_fault : Option ℕ → Option ℕ
link_fault None = Some 73
link_fault (Some link) = None

-- no circuit may be asked for over the route, from a table's core to the server's, of so many
abbrev pub route_fault : TheCircuits → List ℕ → ℕ → ℕ → Option ℕ
route_fault t route server cores = if not (is_path route) then Some 73 else link_fault (first_link t (map core_id route) server cores)

-- that the client's core finds: of the service that is asked for, or of the route to it
abbrev pub service_fault : Parts → TheCore → TheCircuitRequest → Option ℕ
service_fault p core w =
    given (by_name w.service p.names) (Some 70) λ r.
    if not (r.service.interface == w.interface) then Some 72
    else route_fault core.monitor.circuits w.route r.service.core.0 (length p.cores.items)

-- the fault for which a request is refused behind so many bindings: the first of these
abbrev pub request_fault : Parts → ℕ → TheCircuitRequest → Option ℕ
request_fault p bindings w =
    given (slice_get p.cores.items w.client.core) (Some 92) λ core.
    given (slice_get p.programs.items w.interface) (Some 92) λ program.
    if nat_le (length core.board.dispatchers) w.client.place then Some 92
    else if nat_le 1024 bindings then Some 94
    else service_fault p core w

-- why it stops where no memory is asked for: for the fault that is found
abbrev pub RefusedFor : Option ℕ → CoresLineFault → Type 0
RefusedFor found (stop.Refused number) = found ≡ Some number
RefusedFor found stop.Memory = ⊥

-- ---- a rule at an end that is set up

-- what an end speaks
abbrev pub spoken_by : TheEnd → Planned
spoken_by s = record { interface = interface_in s; plan = plan_in s }

-- the interface lacks one of the messages, or their arguments differ
abbrev pub misfit : ℕ → ℕ → Planned → Option ℕ
misfit msg answer i =
    if not (has_message msg i && has_message answer i) then Some 41
    else if not (same_arguments (arguments_of msg i) (arguments_of answer i)) then Some 42
    else None

-- the core has no such end, or the end refuses the rule
abbrev pub core_fault : TheCore → EndId → ℕ → ℕ → Option ℕ
core_fault k e msg answer =
    given (place_of k e) (Some 92) λ place.
    given (slice_get k.board.seats place) None λ seat. misfit msg answer (spoken_by seat.end)

-- there is no such core, or it refuses the rule
abbrev pub end_fault : List TheCore → ℕ → EndId → ℕ → ℕ → Option ℕ
end_fault cores n e msg answer = given (slice_get cores n) (Some 92) λ k. core_fault k e msg answer

-- where its binding is set up; at any other end nothing is set yet
abbrev pub fault_at_once : List TheCore → List Binding → EndId → ℕ → ℕ → Option ℕ
fault_at_once cores set_up e msg answer = given (slice_get set_up e.binding) None λ x. end_fault cores (core_in e.side x) e msg answer

-- of two faults the one that is found first
abbrev pub the_first : Option ℕ → Option ℕ → Option ℕ
the_first found later = given found later λ first. Some first

-- why it stops: for the fault that the reader finds, or else for the one at once; or because memory was refused, where the reader finds none
abbrev pub RuleStops : Option ℕ → Option ℕ → CoresLineFault → Type 0
RuleStops found at_once (stop.Refused number) = the_first found at_once ≡ Some number
RuleStops found at_once stop.Memory = found ≡ None
