-- A request is refused, or comes to a circuit that may be asked for.
use Rattle.std.proofs.Common.{◌≡◌, refl, sym, ap, ◌∙◌, subst, ℕ, zero, suc, ◌+◌, ◌<◌, ◌≤◌, nat_le, List, [], ◌∷◌, ◌++◌, length, map, take, get_or, slice_get}
use Rattle.std.proofs.Common.{slice_set, Option, Some, None, Bool, true, false, arith}
use Rattle.std.specs.List.{list_all}
use Rattle.std.proofs.lemmas.Bool.{lt-leb, eq-eqb, leb-true, and_parts}
use Rattle.std.proofs.lemmas.List.{take_more, take_more_set, map-append}
use Rattle.std.proofs.lemmas.Option.{slice_get-get_or}
use Rattle.fl_base.specs.declared.identity.CoreId.{CoreId}
use Rattle.fl_base.specs.Numbered.{core_id}
use Rattle.fl_compile.specs.declared.program.Program.{Program}
use Rattle.fl_hop.specs.Table.{TheCircuits}
use Rattle.fl_monitor.specs.Monitors.{first_link}
use Rattle.fl_nameserv.specs.Registrations.{by_name}
use Rattle.fl_core.specs.View.{TheCore}
use Rattle.fl_world_refines.specs.declared.parts.Parts.{Parts}
use Rattle.fl_cores_file.specs.declared.stop.CoresLineFault.{CoresLineFault}
use Rattle.fl_cores_file.specs.declared.stop.CoresLineFault.TheVariants as stop
use Rattle.fl_cores_file.specs.Jobs.{TheCircuitRequest}
use Rattle.fl_cores_jobs.specs.Faults.{is_path, path_fault, link_fault, route_fault, service_fault, request_fault, StopsFor, RefusedFor}
use Rattle.fl_cores_jobs.specs.Fitting.{IsOffered}
use Rattle.fl_cores_jobs.specs.Requested.{cores_on, IsNamed}

-- ---- a route

path_is : (path : List CoreId) (route : List ℕ) → cores_on path ≡ route → map core_id route ≡ path
path_is path route is = ap (map core_id) (sym is) ∙ back path
  where
    back : (path : List CoreId) → map core_id (cores_on path) ≡ path
    back [] = refl
    back (c ∷ path) = ap (λ (t : List CoreId). c ∷ t) (back path)

pub path_passes : (route : List ℕ) → is_path route ≡ true → path_fault route ≡ None
path_passes route is = rw is refl

pub path_fails : (route : List ℕ) → is_path route ≡ false → path_fault route ≡ Some 73
path_fails route is = rw is refl

not_both : (n : ℕ) → (Some n ≡ None) → ⊥
not_both n h = cc

-- the cores of a list of numbers are these
pub on_ids : (route : List ℕ) → cores_on (map core_id route) ≡ route
on_ids [] = refl
on_ids (n ∷ route) = ap (λ (t : List ℕ). n ∷ t) (on_ids route)

pub path_few : (route : List ℕ) → is_path route ≡ true → length route ≤ 16
path_few route is = leb-true (length route) 16 (and_parts (list_all (λ core. nat_le core 255) route) (nat_le (length route) 16) is).1

all_small : (route : List ℕ) → list_all (λ core. nat_le core 255) route ≡ true → (k : ℕ) → k < length route → get_or route k 0 ≤ 255
all_small [] h k within = absurd (omega (arith, within))
all_small (n ∷ route) h zero within = leb-true n 255 (and_parts (nat_le n 255) (list_all (λ core. nat_le core 255) route) h).0
all_small (n ∷ route) h (suc k) within =
    all_small route (and_parts (nat_le n 255) (list_all (λ core. nat_le core 255) route) h).1 k (omega (arith, within))

pub path_small : (route : List ℕ) → is_path route ≡ true → (k : ℕ) → k < length route → get_or route k 0 ≤ 255
path_small route is = all_small route (and_parts (list_all (λ core. nat_le core 255) route) (nat_le (length route) 16) is).0

-- one core more
pub next_id : (ids : List CoreId) (route : List ℕ) (k : ℕ) → k < length ids → k < length route → take k ids ≡ map core_id (take k route)
    → take (k + 1) (slice_set ids k (core_id (get_or route k 0))) ≡ map core_id (take (k + 1) route)
next_id ids route k inside within same =
    let core = core_id (get_or route k 0) in
    take_more_set ids k core inside ∙ ap (λ (t : List CoreId). t ++ core ∷ []) same
    ∙ sym (ap (map core_id) (take_more route k 0 within) ∙ map-append core_id (take k route) (get_or route k 0 ∷ []))

-- it passes, and is the path, or is refused
module _ (t : TheCircuits) (route : List ℕ) (server cores : ℕ) where
  route_passes : is_path route ≡ true → route_fault t route server cores ≡ link_fault (first_link t (map core_id route) server cores)
  route_passes is = rw is refl

  route_fails : is_path route ≡ false → route_fault t route server cores ≡ Some 73
  route_fails is = rw is refl

  by_path : (b : Bool) → is_path route ≡ b → (s : CoresLineFault) → RefusedFor (path_fault route) s → RefusedFor (route_fault t route server cores) s
  by_path b is stop.Memory h = absurd h
  by_path true is (stop.Refused number) h = absurd (not_both number (sym h ∙ path_passes route is))
  by_path false is (stop.Refused number) h = route_fails is ∙ sym (path_fails route is) ∙ h

  pub path_stops : (s : CoresLineFault) → RefusedFor (path_fault route) s → RefusedFor (route_fault t route server cores) s
  path_stops s h = by_path (is_path route) refl s h

  is_a_path : (b : Bool) → is_path route ≡ b → path_fault route ≡ None → is_path route ≡ true
  is_a_path true is h = is
  is_a_path false is h = absurd (not_both 73 (sym (path_fails route is) ∙ h))

  pub route_is : (path : List CoreId) → path_fault route ≡ None → cores_on path ≡ route
      → route_fault t route server cores ≡ link_fault (first_link t path server cores)
  route_is path passes same =
      route_passes (is_a_path (is_path route) refl passes)
      ∙ ap (λ (q : List CoreId). link_fault (first_link t q server cores)) (path_is path route same)

-- what is refused stops so
pub refused_stops : (found : Option ℕ) (s : CoresLineFault) → RefusedFor found s → StopsFor found s
refused_stops found (stop.Refused number) h = h
refused_stops found stop.Memory h = absurd h

-- ---- a request whose names are there, behind few bindings

pub record IsKnown (p : Parts) (bindings : ℕ) (w : TheCircuitRequest) (core : TheCore) (program : Program) : Type 0 where
  pub core_is : slice_get p.cores.items w.client.core ≡ Some core
  pub program_is : slice_get p.programs.items w.interface ≡ Some program
  pub there : w.client.place < length core.board.dispatchers
  pub few : bindings < 1024

slice_there : {X : Type 0} (xs ys : List X) (n : ℕ) (x : X) → xs ≡ ys → n < length xs → x ≡ get_or xs n x → slice_get ys n ≡ Some x
slice_there xs ys n x same below is = ap (λ (zs : List _). slice_get zs n) (sym same) ∙ slice_get-get_or xs n x below ∙ ap Some (sym is)

pub known_by : (p : Parts) (bindings : ℕ) (w : TheCircuitRequest) (core : TheCore) (program : Program) (cores : List TheCore) (programs : List Program) (dispatchers : ℕ)
    → cores ≡ p.cores.items → w.client.core < length cores → core ≡ get_or cores w.client.core core
    → programs ≡ p.programs.items → w.interface < length programs → program ≡ get_or programs w.interface program
    → dispatchers ≡ length core.board.dispatchers → w.client.place < dispatchers → bindings < 1024 → IsKnown p bindings w core program
known_by p bindings w core program cores programs dispatchers same below is same2 below2 is2 count there few = record {
  core_is = slice_there cores p.cores.items w.client.core core same below is;
  program_is = slice_there programs p.programs.items w.interface program same2 below2 is2;
  there = omega (arith, count, there);
  few = few;
}

module _ (p : Parts) (bindings : ℕ) (w : TheCircuitRequest) (core : TheCore) (program : Program) (k : IsKnown p bindings w core program) where
  by_service : request_fault p bindings w ≡ service_fault p core w
  by_service =
      rw (k.core_is, k.program_is, lt-leb (length core.board.dispatchers) w.client.place k.there, lt-leb 1024 bindings k.few) refl

  module _ (iref server : ℕ) (named : IsNamed p.names w.service iref) (offered : IsOffered p.names iref w.interface server) where
    its_registration : named.registration ≡ offered.registration
    its_registration = let both : Some named.registration ≡ Some offered.registration = sym named.registered ∙ offered.registered in cc

    by_route : request_fault p bindings w ≡ route_fault core.monitor.circuits w.route server (length p.cores.items)
    by_route =
        let r = offered.registration in
        let found : by_name w.service p.names ≡ Some r = named.named ∙ ap Some its_registration in
        let same = eq-eqb r.service.interface w.interface offered.interface_is in
        let mine : service_fault p core w ≡ route_fault core.monitor.circuits w.route r.service.core.0 (length p.cores.items) = rw (found, same) refl in
        by_service ∙ mine ∙ ap (λ (n : ℕ). route_fault core.monitor.circuits w.route n (length p.cores.items)) offered.core_is

    -- what it comes to once its service is found
    pub path_refused : (s : CoresLineFault) → RefusedFor (path_fault w.route) s → RefusedFor (request_fault p bindings w) s
    path_refused s h =
        subst (λ (o : Option ℕ). RefusedFor o s) (sym by_route) (path_stops core.monitor.circuits w.route server (length p.cores.items) s h)

    module _ (path : List CoreId) (passes : path_fault w.route ≡ None) (same : cores_on path ≡ w.route) where
      by_link : request_fault p bindings w ≡ link_fault (first_link core.monitor.circuits path server (length p.cores.items))
      by_link = by_route ∙ route_is core.monitor.circuits w.route server (length p.cores.items) path passes same

      pub link_refused : (s : CoresLineFault) → RefusedFor (link_fault (first_link core.monitor.circuits path server (length p.cores.items))) s
          → RefusedFor (request_fault p bindings w) s
      link_refused s h = subst (λ (o : Option ℕ). RefusedFor o s) (sym by_link) h

      pub none_refused : (link : ℕ) → first_link core.monitor.circuits path server (length p.cores.items) ≡ Some link → request_fault p bindings w ≡ None
      none_refused link h = by_link ∙ ap link_fault h
