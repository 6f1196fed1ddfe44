-- Ends that sit at a dispatcher in the end are wanted there, and those that are wanted there sit there.
use Rattle.std.proofs.Common.{◌≡◌, inl, inr, refl, sym, ap, ◌∙◌, subst, ℕ, List, [], ◌∷◌, map, length, slice_get, Option, Some, None, arith}
use Rattle.std.proofs.lemmas.List.{length-map}
use Rattle.std.proofs.lemmas.Option.{same_Some, slice_get_within}
use Rattle.std.specs.List.{flat_map}
use Rattle.fl_base.specs.declared.identity.EndId.{EndId}
use Rattle.fl_base.specs.declared.identity.Side.{Side}
use Rattle.fl_base.specs.declared.identity.Side.TheVariants.{Client, Server}
use Rattle.fl_base.specs.Given.{given}
use Rattle.fl_compile.specs.Programs.{program_of}
use Rattle.fl_nameserv.specs.declared.registration.Service.{Service as Offer}
use Rattle.fl_nameserv.specs.Registrations.{TheRegistration}
use Rattle.fl_ring.specs.SharedSides.{TheSide}
use Rattle.fl_core.specs.BoardView.{TheEndAtChannel}
use Rattle.fl_model.specs.Binding.{place_of_service}
use Rattle.fl_model.specs.Ends.{End}
use Rattle.fl_model.specs.Events.{DispatcherId}
use Rattle.fl_model.specs.Monitors.{Service}
use Rattle.fl_model.specs.State.{end_in}
use Rattle.fl_core.specs.View.{TheCore, place_in, place_of, client_of}
use Rattle.fl_core.specs.declared.core_job.CoreJob.TheVariants as job
use Rattle.fl_core.specs.declared.core_job.OpenRequest.{OpenRequest}
use Rattle.fl_core_run.specs.Run.{TheRun}
use Rattle.fl_core_run_laws.specs.Led.{LeadsAtFirst}
use Rattle.fl_core_run_laws.specs.Logs.{Goes}
use Rattle.fl_world_refines.specs.CoreLaws.{NamesAreShown}
use Rattle.fl_world_refines.specs.View.{TheWorld}
use Rattle.fl_world_refines.proofs.FramesBase.{binding_of_end}
use Rattle.fl_world_refines.proofs.FramesFind.{interface_known}
use Rattle.fl_world.specs.Booting.{TheConfig}
use Rattle.fl_cores_file.specs.Jobs.{Job, TheCircuitRequest as FileRequest}
use Rattle.fl_cores_file.specs.Report.{TheReport}
use Rattle.fl_cores_jobs.specs.declared.end_work.BindingCores.{BindingCores}
use Rattle.fl_cores_jobs.specs.Joined.{core_of, core_at}
use Rattle.fl_cores_jobs.specs.State.{TheJoinedJobs}
use Rattle.fl_cores_jobs.specs.Whole.{request_in}
use Rattle.fl_core_refines.specs.SetUpStart.{SetUpsStartFresh}
use Rattle.fl_cores_laws.specs.Asked.{SatAt}
use Rattle.fl_cores_laws.specs.Cores.{shared_ways, OneCore, CoresGo}
use Rattle.fl_cores_laws.specs.Runs.{AreSetUp}
use Rattle.fl_cores_laws.specs.Sitting.{SitsAsRequested, EndsSit}
use Rattle.fl_cores_laws.specs.EndedBegins.{Ran}
use Rattle.fl_cores_laws.specs.EndedCores.{OneCore as EndedCore}
use Rattle.fl_cores_laws.specs.Few.{IsAt, EndsStay, AreEnds}
use Rattle.fl_cores_laws.proofs.Few.{settles}
use Rattle.fl_cores.specs.Promised.{Reports}
use Rattle.fl_cores.specs.Behind.{joined_in, cores_in}
use Rattle.fl_cores.specs.Outcomes.{ReportsAreOfRuns, HonestHandleFew, SetUpAt}
use Rattle.fl_cores.specs.Runs.{AreRuns}
use Rattle.fl_cores.specs.Wanted.{behind, IsAsked, IsExported, RequestsAt, IsRequestedAt, IsWanted, AreWanted, WantedHandleFew}
use Rattle.fl_cores.proofs.CoresSetUp.{sits, is_at}
use Rattle.fl_cores.proofs.CoresCoreThreads.{on_boards}
use Rattle.fl_cores.proofs.Opener.{shown, many, Opener, opener, asked_at, service_at}
use Rattle.fl_cores.proofs.Runs.{is_there, run_at, all_runs}
use Rattle.fl_cores.proofs.SidesCross.{SideLaws}
use Rattle.fl_cores.proofs.StartBindings.{TheBeginning, IsBegun, made_of}
use Rattle.fl_cores.proofs.Twins.{other}
use Rattle.fl_cores.proofs.Whole.{beginning, begun, set_up}
use Rattle.fl_cores.proofs.Requests.{many_bound}

pub same_dispatcher : (a b : DispatcherId) → a.core ≡ b.core → a.place ≡ b.place → a ≡ b
same_dispatcher a b cores places =
    ap (λ (n : ℕ). let d : DispatcherId = record { core = n; place = a.place } in d) cores
    ∙ ap (λ (n : ℕ). let d : DispatcherId = record { core = b.core; place = n } in d) places

abbrev pub at_core : ℕ → ℕ → DispatcherId
at_core i d = record { core = i; place = d }

abbrev end_named : ℕ → Side → EndId
end_named binding side = record { binding = binding; side = side }

module _ (law : NamesAreShown) (fresh : SetUpsStartFresh) (sit : EndsSit) {c : TheConfig} {asked : List Job} {limit : ℕ} {r : TheReport} (x : Reports c asked limit r)
    (cores : List OneCore) (are : AreRuns x.ran.ran.joined.jobs x.ran.ran.ran.core_threads x.ran.ran.ran.outcomes cores)
    (set : AreSetUp asked x.ran.ran.joined cores x.ran.parts.names (map program_of x.ran.parts.programs.items)) where
  abbrev j : TheJoinedJobs
  j = x.ran.ran.joined

  abbrev all : TheBeginning
  all = beginning fresh c asked limit r x cores are

  begins : IsBegun all
  begins = begun fresh c asked limit r x cores are

  abbrev world : TheWorld
  world = x.ran.made.world

  went : (i : ℕ) (two : OneCore) → slice_get cores i ≡ Some two → Goes shared_ways j.jobs two.start two.log two.finish
  went i two two_is = (run_at j.jobs x.ran.ran.ran.core_threads x.ran.ran.ran.outcomes cores are i two two_is).is.goes

  -- ---- an end that was there at first

  module _ (i : ℕ) (two : OneCore) (two_is : slice_get cores i ≡ Some two) where
    -- its core, as the set-up made it
    record WasMade : Type 0 where
      pub core : TheCore
      pub core_is : slice_get world.cores i ≡ Some core
      pub places : (e : EndId) → place_of core e ≡ place_of two.start.core e
      pub seats : (place : ℕ) (seat : TheEndAtChannel) → slice_get core.board.seats place ≡ Some seat
          → (t : TheEndAtChannel) × (slice_get two.start.core.board.seats place ≡ Some t) × (t.dispatcher ≡ seat.dispatcher)

    was_made : WasMade
    was_made =
        let m = made_of all begins i two two_is in
        let was = (on_boards x.ran.parts.bindings.items asked x.ran.parts.cores.items x.ran.ran.parts.cores.items x.ran.ran.rules).each i m.core m.core_is in
        record {
          core = was.core;
          core_is = ap (λ (ks : List TheCore). slice_get ks i) (sym x.ran.made.parts.cores) ∙ was.core_is;
          places = λ e. ap (λ (ps : List (Option ℕ)). place_in ps e) (sym was.places) ∙ ap (λ (k : TheCore). place_of k e) (sym m.numbers);
          seats = λ place seat at.
              (let (t, t_is, same) = was.seats.seats place seat at in
              (t, ap (λ (k : TheCore). slice_get k.board.seats place) m.numbers ∙ t_is, same));
        }

    -- it is one of the set-up's, at the dispatcher at which it sits
    first : (e : EndId) (place : ℕ) → place_of two.start.core e ≡ Some place
        → (t : TheEndAtChannel) × (slice_get two.start.core.board.seats place ≡ Some t) × SetUpAt c (at_core i t.dispatcher) e
    first e place at =
        let k = was_made in
        let sits = (shown x).showing.ends.only i k.core e place k.core_is (k.places e ∙ at) in
        let b = binding_of_end (behind c) e sits.0 sits.1.1 in
        let sat = sits.1.0 in
        let planned = interface_known (behind c) e b.0 (shown x).sound b.1 in
        let sat_is : (end_in e.side b.0).seat ≡ Some sat = ap (λ (y : End). y.seat) b.2 ∙ sits.1.2 in
        let m = (shown x).showing.ends.made e b.0 planned.0 sat b.1 planned.1 sat_is in
        let same : m.core ≡ k.core = same_Some m.core k.core (sym m.core_is ∙ ap (slice_get world.cores) sits.1.3 ∙ k.core_is) in
        let place_is : m.place ≡ place = same_Some m.place place (sym m.place_is ∙ ap (λ (y : TheCore). place_of y e) same ∙ k.places e ∙ at) in
        let at_is : slice_get k.core.board.seats place ≡ Some m.at =
        ap (λ (y : TheCore). slice_get y.board.seats place) (sym same) ∙ ap (slice_get m.core.board.seats) (sym place_is) ∙ m.at_is in
        let (t, t_is, t_same) = k.seats place m.at at_is in (
          t,
          t_is,
          record {
            end = sits.0;
            end_is = sits.1.1;
            seat = sat;
            seat_is = sits.1.2;
            dispatcher = same_dispatcher sat.dispatcher (at_core i t.dispatcher) sits.1.3 (sym m.dispatcher ∙ sym t_same);
          },
        )

    -- ---- an end that was made

    -- where it sits in the end it sat before
    sits_still : (e : EndId) (place d : ℕ) (seat : TheEndAtChannel) → place_of two.finish.core e ≡ Some place → slice_get two.finish.core.board.seats place ≡ Some seat
        → SatAt shared_ways j.jobs two.finish e d → seat.dispatcher ≡ d
    sits_still e place d seat at there sat =
        let (after, at2, there2, same) = settles j.jobs sat.log sat.moment two.finish sat.goes e sat.place sat.seat sat.place_is sat.seat_is in
        let places : sat.place ≡ place = same_Some sat.place place (sym at2 ∙ at) in
        let seats : after ≡ seat = same_Some after seat (sym there2 ∙ ap (slice_get two.finish.core.board.seats) places ∙ there) in
        ap (λ (y : TheEndAtChannel). y.dispatcher) (sym seats) ∙ same ∙ sat.dispatcher_is

    -- a client's is asked for at its dispatcher, and a server's at its service's
    requested_by : (binding : ℕ) (side : Side) (d : ℕ) (s : SitsAsRequested j x.ran.parts.names i two (end_named binding side)) (o : Opener x binding s.bound s.request)
        → s.dispatcher ≡ d → RequestsAt c o.is.request side (at_core i d)
    requested_by binding Client d s o is =
        same_dispatcher o.is.request.client (at_core i d) (o.client ∙ s.core_is) (sym o.is.asks.dispatcher ∙ s.is ∙ is)
    requested_by binding Server d s o is =
        let g = o.is.asks.service in
        let service = service_at x law binding s.bound s.request o in
        let same : g.registration ≡ s.is.registration = same_Some g.registration s.is.registration (sym g.registered ∙ s.is.service) in
        let core_is : service.service.dispatcher.core ≡ i =
        sym (ap (λ (y : Offer). y.core.0) service.offer) ∙ ap (λ (y : TheRegistration). y.service.core.0) same ∙ s.is.core_is in
        let place_is : service.service.dispatcher.place ≡ d =
        sym (ap (λ (y : Offer). y.dispatcher) service.offer) ∙ ap (λ (y : TheRegistration). y.service.dispatcher) same ∙ s.is.dispatcher ∙ is in
        record {
          place = service.place;
          place_is = service.place_is;
          service = service.service;
          service_is = service.service_is;
          dispatcher = same_dispatcher service.service.dispatcher (at_core i d) core_is place_is;
        }

    made_wanted : (binding : ℕ) (side : Side) (place : ℕ) (seat : TheEndAtChannel) → place_of two.start.core (end_named binding side) ≡ None
        → place_of two.finish.core (end_named binding side) ≡ Some place → slice_get two.finish.core.board.seats place ≡ Some seat
        → IsRequestedAt c asked (at_core i seat.dispatcher) (end_named binding side)
    made_wanted binding side place seat absent at there =
        let s = sit asked j cores x.ran.parts.names (map program_of x.ran.parts.programs.items) set i two (end_named binding side) seat two_is
        (record { absent = absent; place = place; place_is = at; seat_is = there }) in
        let o = opener x binding s.bound s.bound_is s.place s.request s.job_is (ap client_of s.binding_is) in
        let d : s.dispatcher ≡ seat.dispatcher = sym (sits_still (end_named binding side) place s.dispatcher seat at there s.sat) in
        record { asked = asked_at x binding s.bound s.request o; at = requested_by binding side seat.dispatcher s o d }

    -- ---- whatever sits there in the end

    pub sits_wanted : (e : EndId) (place : ℕ) (seat : TheEndAtChannel) → place_of two.finish.core e ≡ Some place → slice_get two.finish.core.board.seats place ≡ Some seat
        → IsWanted c asked (at_core i seat.dispatcher) e
    sits_wanted e place seat at there = by (place_of two.start.core e) refl where
      by : (o : Option ℕ) → place_of two.start.core e ≡ o → IsWanted c asked (at_core i seat.dispatcher) e
      by None is = inr (made_wanted e.binding e.side place seat is at there)
      by (Some q) is =
          let (t, t_is, set_up) = first e q is in
          let (after, at2, there2, kept) = settles j.jobs two.log two.start two.finish (went i two two_is) e q t is t_is in
          let places : q ≡ place = same_Some q place (sym at2 ∙ at) in
          let seats : after ≡ seat = same_Some after seat (sym there2 ∙ ap (slice_get two.finish.core.board.seats) places ∙ there) in
          let d : t.dispatcher ≡ seat.dispatcher = sym kept ∙ ap (λ (y : TheEndAtChannel). y.dispatcher) seats in
          inl (subst (λ (n : ℕ). SetUpAt c (at_core i n) e) d set_up)

  -- ---- an end that is wanted

  -- of a binding that is asked for: whose that is
  record IsOpened (e : EndId) (w : FileRequest) : Type 0 where
    pub bound : BindingCores
    pub bound_is : slice_get j.bindings e.binding ≡ Some bound
    pub number : ℕ
    pub opened : bound.opened ≡ Some number
    pub place : ℕ
    pub request : OpenRequest
    pub job_is : slice_get j.jobs place ≡ Some (job.Open request)
    pub opener : Opener x e.binding bound request
    pub same : opener.is.request ≡ w

  same_request : (n : ℕ) (b : BindingCores) (w : OpenRequest) (o : Opener x n b w) (a : IsAsked c asked n) → o.is.request ≡ a.request
  same_request n b w o a =
      let one = o.is.number in
      let two = o.binding in
      let three = a.number in
      let first_are = many x in
      let places : o.is.place ≡ a.place = omega (arith, one, two, three, first_are) in
      same_Some o.is.request a.request (sym o.is.request_is ∙ ap (slice_get (flat_map request_in asked)) places ∙ a.request_is)

  is_opened : (e : EndId) (a : IsAsked c asked e.binding) → IsOpened e a.request
  is_opened e a =
      let first_are = many x in
      let count = many_bound x.ran.parts.bindings.items asked j x.ran.ran.are_bound in
      let below = slice_get_within (flat_map request_in asked) a.place a.request a.request_is in
      let number = a.number in
      let (b, b_is) = is_there j.bindings e.binding (omega (arith, first_are, count, below, number)) in
      let (n, opened) = x.ran.ran.are_bound.opened e.binding b b_is (omega (arith, first_are, number)) in
      let f = x.ran.ran.are_joined.opened e.binding b n b_is opened in
      let o = opener x e.binding b b_is f.place f.request f.place_is (ap client_of f.binding_is) in
      record {
        bound = b;
        bound_is = b_is;
        number = n;
        opened = opened;
        place = f.place;
        request = f.request;
        job_is = f.place_is;
        opener = o;
        same = same_request e.binding b f.request o a;
      }

  -- the service that is exported there is that of the request
  exported : (n : ℕ) (b : BindingCores) (w : OpenRequest) (o : Opener x n b w) (a : FileRequest) (d : DispatcherId) → o.is.request ≡ a → IsExported c a.service d
      → (service_at x law n b w o).service.dispatcher ≡ d
  exported n b w o a d same at =
      let service = service_at x law n b w o in
      let places : service.place ≡ at.place =
      same_Some service.place at.place (sym service.place_is ∙ ap (λ (y : FileRequest). place_of_service y.service (behind c).services) same ∙ at.place_is) in
      let services : service.service ≡ at.service =
      same_Some service.service at.service (sym service.service_is ∙ ap (slice_get (behind c).services) places ∙ at.service_is) in
      ap (λ (y : Service). y.dispatcher) services ∙ at.dispatcher

  -- the end's core is that of the dispatcher
  core_requested : (side : Side) (binding : ℕ) (d : DispatcherId) (w : FileRequest) (o : IsOpened (end_named binding side) w) → RequestsAt c w side d
      → core_of side o.bound ≡ d.core
  core_requested Client binding d w o at =
      sym o.opener.client ∙ ap (λ (y : FileRequest). y.client.core) o.same ∙ ap (λ (y : DispatcherId). y.core) at
  core_requested Server binding d w o at =
      let service = service_at x law binding o.bound o.request o.opener in
      let g = o.opener.is.asks.service in
      let f = set.requests o.place o.request o.bound o.job_is (ap (slice_get j.bindings) o.opener.binding ∙ o.bound_is) in
      let same : f.registration ≡ g.registration = same_Some f.registration g.registration (sym f.service ∙ g.registered) in
      sym f.core_is ∙ ap (λ (y : TheRegistration). y.service.core.0) same ∙ ap (λ (y : Offer). y.core.0) service.offer
      ∙ ap (λ (y : DispatcherId). y.core) (exported binding o.bound o.request o.opener w d o.same at)

  -- and it sits there, where it was made
  place_requested : (side : Side) (binding : ℕ) (d : DispatcherId) (a : IsAsked c asked binding) → RequestsAt c a.request side d → (two : OneCore)
      → (s : SitsAsRequested j x.ran.parts.names d.core two (end_named binding side)) → s.dispatcher ≡ d.place
  place_requested Client binding d a at two s =
      let o = opener x binding s.bound s.bound_is s.place s.request s.job_is (ap client_of s.binding_is) in
      sym s.is ∙ o.is.asks.dispatcher ∙ ap (λ (y : FileRequest). y.client.place) (same_request binding s.bound s.request o a)
      ∙ ap (λ (y : DispatcherId). y.place) at
  place_requested Server binding d a at two s =
      let o = opener x binding s.bound s.bound_is s.place s.request s.job_is (ap client_of s.binding_is) in
      let service = service_at x law binding s.bound s.request o in
      let g = o.is.asks.service in
      let same : s.is.registration ≡ g.registration = same_Some s.is.registration g.registration (sym s.is.service ∙ g.registered) in
      sym s.is.dispatcher ∙ ap (λ (y : TheRegistration). y.service.dispatcher) same ∙ ap (λ (y : Offer). y.dispatcher) service.offer
      ∙ ap (λ (y : DispatcherId). y.place) (exported binding s.bound s.request o a.request d (same_request binding s.bound s.request o a) at)

  module _ (d : DispatcherId) (one : EndedCore) (one_is : slice_get (cores_in x) d.core ≡ Some one) where
    at_requested : (binding : ℕ) (side : Side) → IsRequestedAt c asked d (end_named binding side) → IsAt one.finish d.place (end_named binding side)
    at_requested binding side w place seat at there =
        let (two, two_is, same) = other x cores are d.core one one_is in
        let e = end_named binding side in
        let o = is_opened e w.asked in
        let at_two : place_of two.finish.core e ≡ Some place = ap (λ (y : TheRun TheSide). place_of y.core e) same ∙ at in
        let there_two : slice_get two.finish.core.board.seats place ≡ Some seat = ap (λ (y : TheRun TheSide). slice_get y.core.board.seats place) same ∙ there in
        let s = sit asked j cores x.ran.parts.names (map program_of x.ran.parts.programs.items) set d.core two e seat two_is
        (record { absent = set.absent d.core two e o.bound o.number two_is o.bound_is o.opened; place = place; place_is = at_two; seat_is = there_two }) in
        sits_still d.core two two_is e place s.dispatcher seat at_two there_two s.sat ∙ place_requested side binding d w.asked w.at two s

    own_requested : (binding : ℕ) (side : Side) → IsRequestedAt c asked d (end_named binding side) → core_at j.bindings (end_named binding side) ≡ Some d.core
    own_requested binding side w =
        let o = is_opened (end_named binding side) w.asked in
        ap (λ (b : Option BindingCores). given b None (λ (y : BindingCores). Some (core_of side y))) o.bound_is
        ∙ ap Some (core_requested side binding d w.asked.request o w.at)

    module _ (stay : EndsStay) (ran : Ran asked (joined_in x) limit (cores_in x) r) where
      own : (e : EndId) → IsWanted c asked d e → core_at j.bindings e ≡ Some d.core
      own e (inl at) = (sits fresh c asked limit r x d e at).own
      own e (inr w) = own_requested e.binding e.side w

      is_there_wanted : (e : EndId) → IsWanted c asked d e → IsAt one.finish d.place e
      is_there_wanted e (inl at) = is_at fresh c asked limit r x d stay ran one one_is e (sits fresh c asked limit r x d e at)
      is_there_wanted e (inr w) = at_requested e.binding e.side w

      pub are_ends : (ends : List EndId) → AreWanted c asked d ends → AreEnds (joined_in x) d.core one d.place ends
      are_ends [] w = tt
      are_ends (e ∷ ends) w = (own e w.0, is_there_wanted e w.0, w.1, are_ends ends w.2)

-- ---- what they handled

pub wanted_few : NamesAreShown → SetUpsStartFresh → CoresGo → SideLaws → LeadsAtFirst → EndsSit → ReportsAreOfRuns → HonestHandleFew → EndsStay → WantedHandleFew
wanted_few law fresh go l first_law sit runs few stay c asked limit r x honest d ends turns are told =
    let ran = runs c asked limit r x in
    let f = x.ran.ran in
    let (cores, are_runs) = all_runs go f.joined.jobs limit f.ran.core_threads f.ran.outcomes f.ran.ran in
    let set = set_up fresh c asked limit r x cores are_runs l first_law in
    let many : length r.turns ≡ length (cores_in x) = ap length ran.turns.turns ∙ length-map (cores_in x) (λ (y : EndedCore). y.part.turns) in
    let below = slice_get_within r.turns d.core turns told in
    let (one, one_is) = is_there (cores_in x) d.core (omega (arith, many, below)) in
    few c asked limit r x honest d.core d.place turns one ends one_is (are_ends law fresh sit x cores are_runs set d one one_is stay ran ends are) told
