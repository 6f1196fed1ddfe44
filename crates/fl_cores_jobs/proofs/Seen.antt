-- What a request and a rule ask of the cores: rules that are set leave it was.
use Rattle.std.proofs.Common.{◌≡◌, refl, sym, ap, ◌∙◌, ℕ, zero, suc, ◌==◌, nat_le, not, if◌then◌else◌, List, [], ◌∷◌, length, map, slice_get, slice_set, Option, Some, None, Ok}
use Rattle.std.specs.Option.{option_map}
use Rattle.std.proofs.lemmas.List.{length-map}
use Rattle.std.proofs.lemmas.Option.{slice_get-map}
use Rattle.fl_base.specs.declared.identity.EndId.{EndId}
use Rattle.fl_base.specs.Given.{given}
use Rattle.fl_compile.specs.declared.program.Program.{Program}
use Rattle.fl_core.specs.BoardView.{TheBoard, TheEndAtChannel}
use Rattle.fl_endpoint.specs.Events.{SetsRule}
use Rattle.fl_endpoint.specs.View.{TheEnd}
use Rattle.fl_hop.specs.Table.{TheCircuits}
use Rattle.fl_nameserv.specs.Registrations.{TheRegistration, by_name}
use Rattle.fl_core.specs.View.{TheCore, place_in}
use Rattle.fl_model.specs.Calls.{Planned}
use Rattle.fl_world_refines.specs.declared.binding.Binding.{Binding}
use Rattle.fl_world_refines.specs.declared.parts.Parts.{Parts}
use Rattle.fl_world_refines.specs.View.{core_in}
use Rattle.fl_cores_file.specs.Jobs.{TheCircuitRequest, Job, opens, replies, calls}
use Rattle.fl_cores_jobs.specs.Faults.{route_fault, service_fault, request_fault, spoken_by, misfit, core_fault, end_fault, fault_at_once}
use Rattle.fl_cores_jobs.specs.Rules.{RulesCore, RuleNow, RuleOf, RulesOf}
use Rattle.fl_cores_jobs.specs.Whole.{IsBeside}

record Seen : Type 0 where
  circuits : TheCircuits
  dispatchers : ℕ
  places : List (Option ℕ)
  spoken : List Planned

abbrev spoken_at : TheEndAtChannel → Planned
spoken_at seat = spoken_by seat.end

abbrev seen_by : TheCore → TheBoard → List Planned → Seen
seen_by k b spoken = record { circuits = k.monitor.circuits; dispatchers = length b.dispatchers; places = k.places; spoken = spoken }

abbrev seen : TheCore → Seen
seen k = seen_by k k.board (map spoken_at k.board.seats)

-- ---- behind rules

-- of large records cc does not end, of any type it does
same_some : {X : Type 0} (x y : X) → Some x ≡ Some y → x ≡ y
same_some x y e = cc

seat_seen : (seats : List TheEndAtChannel) (n : ℕ) (seat after : TheEndAtChannel) → slice_get seats n ≡ Some seat → spoken_at after ≡ spoken_at seat
    → map spoken_at (slice_set seats n after) ≡ map spoken_at seats
seat_seen [] n seat after is same = absurd (cc)
seat_seen (x ∷ seats) zero seat after is same =
    let now : x ≡ seat = same_some x seat is in ap (λ (s : Planned). s ∷ map spoken_at seats) (same ∙ ap spoken_at (sym now))
seat_seen (x ∷ seats) (suc n) seat after is same = ap (λ (t : List Planned). spoken_at x ∷ t) (seat_seen seats n seat after is same)

rule_spoken : (s t : TheEnd) (msg answer : ℕ) → SetsRule s msg answer (Ok tt) t → spoken_by t ≡ spoken_by s
rule_spoken s t msg answer (m, a, types, is) = ap spoken_by is

core_seen : (e : EndId) (msg answer : ℕ) (k k2 : TheCore) → RulesCore e msg answer k k2 → seen k2 ≡ seen k
core_seen e msg answer k k2 r =
    let v = r.sets.event in
    ap (λ (y : TheCore). seen_by y k2.board (map spoken_at k2.board.seats)) r.sets.rest
    ∙ ap (λ (b : TheBoard). seen_by k b (map spoken_at b.seats)) v.board
    ∙ ap (seen_by k k.board) (seat_seen k.board.seats r.place v.seat _ v.seat_is (rule_spoken v.seat.end v.end msg answer v.event))

set_seen : (cores : List TheCore) (n : ℕ) (c after : TheCore) → slice_get cores n ≡ Some c → seen after ≡ seen c
    → map seen (slice_set cores n after) ≡ map seen cores
set_seen [] n c after is same = absurd (cc)
set_seen (x ∷ cores) zero c after is same = let now : x ≡ c = same_some x c is in ap (λ (s : Seen). s ∷ map seen cores) (same ∙ ap seen (sym now))
set_seen (x ∷ cores) (suc n) c after is same = ap (λ (t : List Seen). seen x ∷ t) (set_seen cores n c after is same)

now_seen : (o : Option Binding) (e : EndId) (msg answer : ℕ) (ks ks2 : List TheCore) → RuleNow o e msg answer ks ks2 → map seen ks2 ≡ map seen ks
now_seen None e msg answer ks ks2 same = ap (map seen) same
now_seen (Some x) e msg answer ks ks2 r =
    ap (map seen) r.rest ∙ set_seen ks (core_in e.side x) r.core r.after r.core_is (core_seen e msg answer r.core r.after r.rules)

one_seen : (set_up : List Binding) (job : Job) (ks ks2 : List TheCore) → RuleOf set_up job ks ks2 → map seen ks2 ≡ map seen ks
one_seen set_up (opens w) ks ks2 same = ap (map seen) same
one_seen set_up (replies e msg answer) ks ks2 r = now_seen (slice_get set_up e.binding) e msg answer ks ks2 r
one_seen set_up (calls e c) ks ks2 same = ap (map seen) same

all_seen : (set_up : List Binding) (jobs : List Job) (ks ks2 : List TheCore) → RulesOf set_up jobs ks ks2 → map seen ks2 ≡ map seen ks
all_seen set_up [] ks ks2 same = ap (map seen) same
all_seen set_up (job ∷ jobs) ks ks2 (m, one, rest) = all_seen set_up jobs m ks2 rest ∙ one_seen set_up job ks m one

-- ---- a request

module _ (bindings : ℕ) (w : TheCircuitRequest) where
  abbrev fault_by : List TheRegistration → List Program → ℕ → Option Seen → Option ℕ
  fault_by names programs cores o =
      given o (Some 92) λ s.
      given (slice_get programs w.interface) (Some 92) λ program.
      if nat_le s.dispatchers w.client.place then Some 92
      else if nat_le 1024 bindings then Some 94
      else given (by_name w.service names) (Some 70) λ r.
      if not (r.service.interface == w.interface) then Some 72
      else route_fault s.circuits w.route r.service.core.0 cores

  abbrev fault_from : Parts → Option TheCore → Option ℕ
  fault_from p o =
      given o (Some 92) λ core.
      given (slice_get p.programs.items w.interface) (Some 92) λ program.
      if nat_le (length core.board.dispatchers) w.client.place then Some 92
      else if nat_le 1024 bindings then Some 94
      else service_fault p core w

  by_seen_in : (p : Parts) (o : Option TheCore) → fault_from p o ≡ fault_by p.names p.programs.items (length p.cores.items) (option_map seen o)
  by_seen_in p None = refl
  by_seen_in p (Some core) = refl

  by_seen : (p : Parts) → request_fault p bindings w
      ≡ fault_by p.names p.programs.items (length p.cores.items) (slice_get (map seen p.cores.items) w.client.core)
  by_seen p =
      by_seen_in p (slice_get p.cores.items w.client.core)
      ∙ ap (fault_by p.names p.programs.items (length p.cores.items)) (sym (slice_get-map seen p.cores.items w.client.core))

  pub same_request : (p p2 : Parts) (set_up : List Binding) (jobs : List Job) → IsBeside p p2 → RulesOf set_up jobs p.cores.items p2.cores.items
      → request_fault p2 bindings w ≡ request_fault p bindings w
  same_request p p2 set_up jobs b rules =
      let cores = all_seen set_up jobs p.cores.items p2.cores.items rules in
      let count : length p2.cores.items ≡ length p.cores.items =
      sym (length-map p2.cores.items seen) ∙ ap (λ (t : List Seen). length t) cores ∙ length-map p.cores.items seen in
      by_seen p2
      ∙ ap (λ (t : List Seen). fault_by p2.names p2.programs.items (length p2.cores.items) (slice_get t w.client.core)) cores
      ∙ ap (λ (n : ℕ). fault_by p2.names p2.programs.items n (slice_get (map seen p.cores.items) w.client.core)) count
      ∙ ap (λ (ps : List Program). fault_by p2.names ps (length p.cores.items) (slice_get (map seen p.cores.items) w.client.core)) b.programs
      ∙ ap (λ (ns : List TheRegistration). fault_by ns p.programs.items (length p.cores.items) (slice_get (map seen p.cores.items) w.client.core)) b.names
      ∙ sym (by_seen p)

-- ---- a rule

module _ (e : EndId) (msg answer : ℕ) where
  abbrev seat_by : Option Planned → Option ℕ
  seat_by o = given o None (λ i. misfit msg answer i)

  abbrev seen_fault : Option Seen → Option ℕ
  seen_fault o = given o (Some 92) λ s. given (place_in s.places e) (Some 92) λ place. seat_by (slice_get s.spoken place)

  seat_in : (o : Option TheEndAtChannel) → given o None (λ (seat : TheEndAtChannel). misfit msg answer (spoken_by seat.end)) ≡ seat_by (option_map spoken_at o)
  seat_in None = refl
  seat_in (Some seat) = refl

  core_in_seen : (k : TheCore) (o : Option ℕ) → given o (Some 92) (λ (place : ℕ). given (slice_get k.board.seats place) None λ seat. misfit msg answer (spoken_by seat.end))
      ≡ given o (Some 92) (λ (place : ℕ). seat_by (slice_get (map spoken_at k.board.seats) place))
  core_in_seen k None = refl
  core_in_seen k (Some place) = seat_in (slice_get k.board.seats place) ∙ ap seat_by (sym (slice_get-map spoken_at k.board.seats place))

  end_in_seen : (o : Option TheCore) → given o (Some 92) (λ (k : TheCore). core_fault k e msg answer) ≡ seen_fault (option_map seen o)
  end_in_seen None = refl
  end_in_seen (Some k) = core_in_seen k (place_in k.places e)

  end_seen : (cores : List TheCore) (n : ℕ) → end_fault cores n e msg answer ≡ seen_fault (slice_get (map seen cores) n)
  end_seen cores n = end_in_seen (slice_get cores n) ∙ ap seen_fault (sym (slice_get-map seen cores n))

  set_up_in : (cores cores2 : List TheCore) → map seen cores2 ≡ map seen cores → (o : Option Binding)
      → given o None (λ (x : Binding). end_fault cores2 (core_in e.side x) e msg answer) ≡ given o None (λ (x : Binding). end_fault cores (core_in e.side x) e msg answer)
  set_up_in cores cores2 same None = refl
  set_up_in cores cores2 same (Some x) =
      end_seen cores2 (core_in e.side x) ∙ ap (λ (t : List Seen). seen_fault (slice_get t (core_in e.side x))) same ∙ sym (end_seen cores (core_in e.side x))

  pub same_set_up : (p p2 : Parts) (set_up : List Binding) (jobs : List Job) → IsBeside p p2 → RulesOf set_up jobs p.cores.items p2.cores.items
      → fault_at_once p2.cores.items p2.bindings.items e msg answer ≡ fault_at_once p.cores.items p.bindings.items e msg answer
  same_set_up p p2 set_up jobs b rules =
      set_up_in p.cores.items p2.cores.items (all_seen set_up jobs p.cores.items p2.cores.items rules) (slice_get p2.bindings.items e.binding)
      ∙ ap (λ (xs : List Binding). fault_at_once p.cores.items xs e msg answer) b.bindings
