-- A request is refused, where jobs are joined to what a set-up makes, for just the fault that the reader finds; so one that was rightly asked for isn't.
use Rattle.std.proofs.Common.{◌≡◌, refl, sym, ◌∙◌, ap, ℕ, ◌<◌, ◌≤◌, ◌==◌, ◌&&◌, nat_lt, nat_le, not, Bool, true, false, if◌then◌else◌, List, [], ◌∷◌, length, map, slice_get, slice_index, Option, Some, None, is_some, option_map, bytes_eq, arith}
use Rattle.std.specs.List.{list_all}
use Rattle.std.proofs.lemmas.Bool.{eqb-true, lt-ltb, le-ltb, ltb-true, le-leb, lt-leb, leb-true, leb-false}
use Rattle.std.proofs.lemmas.List.{length-map}
use Rattle.std.proofs.lemmas.Option.{slice_get-map, slice_get_within}
use Rattle.fl_base.specs.Given.{given}
use Rattle.fl_base.specs.Numbered.{core_id}
use Rattle.fl_compile.specs.declared.program.Program.{Program}
use Rattle.fl_core.specs.View.{TheCore}
use Rattle.fl_hop.proofs.Lists.{at_within}
use Rattle.fl_monitor.specs.Monitors.{first_link}
use Rattle.fl_nameserv.specs.Registrations.{TheRegistration, by_name}
use Rattle.fl_model.specs.Binding.{is_route, place_of_service}
use Rattle.fl_model.specs.Monitors.{Core, Service, link_to}
use Rattle.fl_model.specs.State.{State}
use Rattle.fl_model_laws.proofs.Small.{both_are}
use Rattle.fl_world_refines.specs.Apart.{AreParts}
use Rattle.fl_world_refines.specs.CoreLaws.{NamesAgree}
use Rattle.fl_world_refines.specs.declared.parts.Parts.{Parts}
use Rattle.fl_world_refines.specs.Ends.{planned_of}
use Rattle.fl_world_refines.specs.ShowsState.{CoreShows, Shows}
use Rattle.fl_world_refines.specs.View.{TheWorld}
use Rattle.fl_world_refines.proofs.JoiningRoutes.{route_parts, first_true, first_false, place_within}
use Rattle.fl_world_refines.proofs.Names.{names_agree}
use Rattle.fl_cores_file.specs.Draft.{Draft, Offer, TheDraftRequest, has_link, is_dispatcher, is_interface, is_route as is_route_read, offer_of}
use Rattle.fl_cores_file.specs.Jobs.{TheCircuitRequest}
use Rattle.fl_cores_jobs.specs.Faults.{is_path, link_fault, route_fault, service_fault, request_fault}
use Rattle.fl_cores_file_laws.proofs.Views.{view_of, table_of}
use Rattle.fl_cores_file_laws.proofs.Counts.{within}
use Rattle.fl_cores_file_laws.proofs.Mirrors.{Mirrors, offer_by, link_same, there_same, interface_same, offer_same}
use Rattle.fl_cores_file_laws.proofs.Asking.{is_path_of, IsAskedBy}
use Rattle.fl_cores_file_laws.proofs.Lists.{both_true}

-- ---- a route

small : (route : List ℕ) (many : ℕ) → many ≤ 16 → list_all (λ core. nat_lt core many) route ≡ true → list_all (λ core. nat_le core 255) route ≡ true
small [] many few h = refl
small (n ∷ route) many few h =
    let both = both_are (nat_lt n many) (list_all (λ core. nat_lt core many) route) h in
    let below : n < many = ltb-true n many both.0 in
    both_true (nat_le n 255) (list_all (λ core. nat_le core 255) route) (le-leb n 255 (omega (arith, below, few))) (small route many few both.1)

other_way : (a b : ℕ) → nat_lt a b ≡ not (nat_le b a)
other_way a b = by (nat_le b a) refl
  where
    by : (t : Bool) → nat_le b a ≡ t → nat_lt a b ≡ not t
    by true e = le-ltb a b (leb-true b a e)
    by false e = lt-ltb a b (leb-false b a e)

some_seen : (o : Option Program) → is_some (option_map planned_of o) ≡ is_some o
some_seen None = refl
some_seen (Some y) = refl

-- ---- a request

-- this fault where the test passes, or else what is found further on
abbrev pub stop_if : ℕ → Bool → Option ℕ → Option ℕ
stop_if n b o = if b then Some n else o

-- the faults of a request in the order in which the reader finds them, where there are so many bindings
abbrev pub want : TheCircuitRequest → Offer → TheDraftRequest
want x offer = record { client = x.client; server = offer.dispatcher; interface = x.interface; service = x.service }

abbrev pub route_fault_read : TheCircuitRequest → Draft → Offer → Option ℕ
route_fault_read x d offer = stop_if 73 (not (is_route_read (want x offer) x.route d)) None

abbrev pub offer_fault_read : TheCircuitRequest → Draft → Offer → Option ℕ
offer_fault_read x d offer = stop_if 72 (not (offer.interface == x.interface)) (route_fault_read x d offer)

abbrev pub service_fault_read : TheCircuitRequest → Draft → Option ℕ
service_fault_read x d = given (offer_of x.service d) (Some 70) (offer_fault_read x d)

abbrev pub fault_read : ℕ → TheCircuitRequest → Draft → Option ℕ
fault_read bindings x d =
    stop_if 92 (not (is_dispatcher x.client d && is_interface x.interface d)) (stop_if 94 (nat_le 1024 bindings) (service_fault_read x d))

link_told : (o : Option ℕ) → link_fault o ≡ stop_if 73 (not (is_some o)) None
link_told None = refl
link_told (Some l) = refl

module _ (d : Draft) (w : TheWorld) (s : State) (shown : Shows w s) (mirrors : Mirrors d (view_of s)) (p : Parts) (parts : AreParts w p)
    (x : TheCircuitRequest) where
  count : length s.cores ≡ d.cores
  count = sym (length-map s.cores table_of) ∙ mirrors.cores

  -- ---- its client's core

  machine_core : (core : TheCore) → slice_get w.cores x.client.core ≡ Some core → (k : Core) × (slice_get s.cores x.client.core ≡ Some k)
  machine_core core at =
      let inside = slice_get_within w.cores x.client.core core at in
      let same = shown.showing.cores.count in
      at_within s.cores x.client.core (omega (arith, inside, same))

  module _ (core : TheCore) (core_is : slice_get w.cores x.client.core ≡ Some core) where
    abbrev k : Core
    k = (machine_core core core_is).0

    k_is : slice_get s.cores x.client.core ≡ Some k
    k_is = (machine_core core core_is).1

    shows : CoreShows k core
    shows = shown.showing.cores.each x.client.core k core k_is core_is

    -- ---- the route to a service

    module _ (offer : Offer) where
      abbrev server : ℕ
      server = offer.dispatcher.core

      abbrev second : ℕ
      second = slice_index x.route 1

      abbrev begins : Option ℕ
      begins = first_link core.monitor.circuits (map core_id x.route) server (length p.cores.items)

      path_is : is_route x.route x.client.core server s ≡ is_path_of x offer d.cores
      path_is = ap (is_path_of x offer) count

      begins_is : begins ≡ first_link core.monitor.circuits (map core_id x.route) server (length w.cores)
      begins_is = ap (λ (ks : List TheCore). first_link core.monitor.circuits (map core_id x.route) server (length ks)) parts.cores

      linked : is_route x.route x.client.core server s ≡ true → begins ≡ link_to second k
      linked leads =
          begins_is
          ∙ first_true x.route server w s k x.client.core core.monitor.circuits shows.monitor.circuits (shown.sound.cores x.client.core k k_is).number
          shown.showing.cores.count leads

      unlinked : is_route x.route x.client.core server s ≡ false → begins ≡ None
      unlinked none =
          begins_is
          ∙ first_false x.route server w s k x.client.core core.monitor.circuits shows.monitor.circuits (shown.sound.cores x.client.core k k_is).number
          shown.showing.cores.count none

      short : is_route x.route x.client.core server s ≡ true → is_path x.route ≡ true
      short leads =
          let route = route_parts x.route x.client.core server s leads in
          both_true (list_all (λ core. nat_le core 255) x.route) (nat_le (length x.route) 16)
          (small x.route (length s.cores) shown.sound.few_cores route.within) route.few

      has_it : is_route x.route x.client.core server s ≡ true → is_some (link_to second k) ≡ has_link (slice_index x.route 0) second d
      has_it leads =
          let route = route_parts x.route x.client.core server s leads in
          let first : slice_index x.route 0 ≡ x.client.core = eqb-true (slice_index x.route 0) x.client.core route.first in
          ap (λ (o : Option Core). given o false λ c. is_some (link_to second c)) (sym k_is)
          ∙ ap (λ (n : ℕ). given (slice_get s.cores n) false λ c. is_some (link_to second c)) (sym first)
          ∙ link_same d s mirrors (slice_index x.route 0) second

      route_same : route_fault core.monitor.circuits x.route server (length p.cores.items) ≡ route_fault_read x d offer
      route_same = by (is_path_of x offer d.cores) refl
        where
          told : Bool → Option ℕ
          told b = stop_if 73 (not (b && has_link (slice_index x.route 0) second d)) None

          ends : (b : Bool) → stop_if 73 (not b) (link_fault None) ≡ Some 73
          ends true = refl
          ends false = refl

          by : (b : Bool) → is_path_of x offer d.cores ≡ b
              → route_fault core.monitor.circuits x.route server (length p.cores.items) ≡ told (is_path_of x offer d.cores)
          by true is =
              let leads = path_is ∙ is in
              ap (λ b. stop_if 73 (not b) (link_fault begins)) (short leads) ∙ ap link_fault (linked leads) ∙ link_told (link_to second k)
              ∙ ap (λ b. stop_if 73 (not b) None) (has_it leads) ∙ ap told (sym is)
          by false is =
              ap (λ (o : Option ℕ). stop_if 73 (not (is_path x.route)) (link_fault o)) (unlinked (path_is ∙ is)) ∙ ends (is_path x.route) ∙ ap told (sym is)

    -- ---- its service

    names : NamesAgree s.services w.names
    names = names_agree s.services w.names shown.showing.names

    abbrev registered_fault : Option TheRegistration → Option ℕ
    registered_fault o = given o (Some 70) λ r.
        stop_if 72 (not (r.service.interface == x.interface)) (route_fault core.monitor.circuits x.route r.service.core.0 (length p.cores.items))

    service_same : service_fault p core x ≡ service_fault_read x d
    service_same = by (place_of_service x.service s.services) refl
      where
        read : Option Offer → Option ℕ
        read o = given o (Some 70) (offer_fault_read x d)

        there : (place : ℕ) → place_of_service x.service s.services ≡ Some place → (o : Option Service) → slice_get s.services place ≡ o
            → service_fault p core x ≡ read (option_map offer_by o)
        there place at None none =
            absurd (let one = at_within s.services place (place_within (λ (y : Service). bytes_eq x.service y.name) s.services place at) in
            let no : None ≡ Some one.0 = sym none ∙ one.1 in cc)
        there place at (Some service) is =
            ap registered_fault (ap (by_name x.service) parts.names ∙ names.named x.service place service at is)
            ∙ ap (λ o. stop_if 72 (not (service.interface == x.interface)) o) (route_same (offer_by service))

        by : (o : Option ℕ) → place_of_service x.service s.services ≡ o → service_fault p core x ≡ service_fault_read x d
        by None at =
            ap registered_fault (ap (by_name x.service) parts.names ∙ names.unnamed x.service at)
            ∙ ap (λ (o : Option ℕ). read (given o None λ place. option_map offer_by (slice_get s.services place))) (sym at)
            ∙ ap read (sym (offer_same d s mirrors x.service))
        by (Some place) at =
            there place at (slice_get s.services place) refl
            ∙ ap (λ (o : Option ℕ). read (given o None λ place. option_map offer_by (slice_get s.services place))) (sym at)
            ∙ ap read (sym (offer_same d s mirrors x.service))

    client_same : is_dispatcher x.client d ≡ not (nat_le (length core.board.dispatchers) x.client.place)
    client_same =
        sym (there_same d s mirrors x.client)
        ∙ ap (λ (o : Option Core). is_some (given o None λ c. slice_get c.dispatchers x.client.place)) k_is
        ∙ sym (within k.dispatchers x.client.place)
        ∙ ap (λ n. nat_lt x.client.place n) (sym shows.count) ∙ other_way x.client.place (length core.board.dispatchers)

  no_client : slice_get w.cores x.client.core ≡ None → is_dispatcher x.client d ≡ false
  no_client none =
      sym (there_same d s mirrors x.client) ∙ by (slice_get s.cores x.client.core) refl
    where
      by : (o : Option Core) → slice_get s.cores x.client.core ≡ o → is_some (given o None λ c. slice_get c.dispatchers x.client.place) ≡ false
      by None at = refl
      by (Some c) at =
          let inside = slice_get_within s.cores x.client.core c at in
          let same = shown.showing.cores.count in
          let one = at_within w.cores x.client.core (omega (arith, inside, same)) in
          absurd (let no : None ≡ Some one.0 = sym none ∙ one.1 in cc)

  interface_read : is_interface x.interface d ≡ is_some (slice_get p.programs.items x.interface)
  interface_read =
      sym (interface_same d s mirrors x.interface) ∙ ap (λ is. is_some (slice_get is x.interface)) (sym shown.showing.programs)
      ∙ ap is_some (slice_get-map planned_of w.programs x.interface) ∙ some_seen (slice_get w.programs x.interface)
      ∙ ap (λ xs. is_some (slice_get xs x.interface)) (sym parts.programs)

  -- it is refused for just the fault that the reader finds
  pub faults_same : (bindings : ℕ) → request_fault p bindings x ≡ fault_read bindings x d
  faults_same bindings =
      ap (λ ks. given (slice_get ks x.client.core) (Some 92) by_core) parts.cores
      ∙ by (slice_get w.cores x.client.core) refl (slice_get p.programs.items x.interface) refl
    where
      rest : TheCore → Option ℕ
      rest core =
          stop_if 92 (nat_le (length core.board.dispatchers) x.client.place) (stop_if 94 (nat_le 1024 bindings) (service_fault p core x))

      by_core : TheCore → Option ℕ
      by_core core = given (slice_get p.programs.items x.interface) (Some 92) λ program. rest core

      further : Option ℕ
      further = stop_if 94 (nat_le 1024 bindings) (service_fault_read x d)

      names_fail : (a b : Bool) → (a && b) ≡ false → Some 92 ≡ stop_if 92 (not (a && b)) further
      names_fail a b none = ap (λ t. stop_if 92 (not t) further) (sym none)

      and_none : (a : Bool) → (a && false) ≡ false
      and_none true = refl
      and_none false = refl

      first : (t a b : Bool) (o : Option ℕ) → a ≡ not t → b ≡ true → o ≡ further → stop_if 92 t o ≡ stop_if 92 (not (a && b)) further
      first true a b o client interface same = ap (λ z. stop_if 92 (not (z && b)) further) (sym client)
      first false a b o client interface same = same ∙ ap (λ z. stop_if 92 (not z) further) (sym (both_true a b client interface))

      by : (o : Option TheCore) → slice_get w.cores x.client.core ≡ o → (q : Option Program) → slice_get p.programs.items x.interface ≡ q
          → given o (Some 92) (λ core. given q (Some 92) λ program. rest core) ≡ fault_read bindings x d
      by None at q program = names_fail (is_dispatcher x.client d) (is_interface x.interface d) (ap (λ a. a && is_interface x.interface d) (no_client at))
      by (Some core) at None program =
          names_fail (is_dispatcher x.client d) (is_interface x.interface d)
          (ap (λ b. is_dispatcher x.client d && b) (interface_read ∙ ap is_some program) ∙ and_none (is_dispatcher x.client d))
      by (Some core) at (Some y) program =
          first (nat_le (length core.board.dispatchers) x.client.place) (is_dispatcher x.client d) (is_interface x.interface d) _ (client_same core at)
          (interface_read ∙ ap is_some program) (ap (stop_if 94 (nat_le 1024 bindings)) (service_same core at))

-- ---- one that was rightly asked for

-- is refused nowhere, behind fewer than 1,024 bindings
pub never_refused : (d : Draft) (x : TheCircuitRequest) (bindings : ℕ) → IsAskedBy x d → is_interface x.interface d ≡ true → bindings < 1024
    → fault_read bindings x d ≡ None
never_refused d x bindings asked there few =
    let more : nat_le 1024 bindings ≡ false = lt-leb 1024 bindings few in
    let names : (is_dispatcher x.client d && is_interface x.interface d) ≡ true = both_true (is_dispatcher x.client d)
    (is_interface x.interface d) asked.client there in
    let leads : is_route_read (want x asked.offer) x.route d ≡ true =
    both_true (is_path_of x asked.offer d.cores) (has_link (slice_index x.route 0) (slice_index x.route 1) d) asked.path asked.link in
    ap (λ b. stop_if 92 (not b) (stop_if 94 (nat_le 1024 bindings) (service_fault_read x d))) names
    ∙ ap (λ b. stop_if 94 b (service_fault_read x d)) more
    ∙ ap (λ (o : Option Offer). given o (Some 70) (offer_fault_read x d)) asked.offer_is
    ∙ ap (λ b. stop_if 72 (not b) (route_fault_read x d asked.offer)) asked.interface
    ∙ ap (λ b. stop_if 73 (not b) None) leads
