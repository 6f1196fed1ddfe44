-- By a route: the refusals, and what is done.
use Rattle.std.proofs.Common.{◌≡◌, refl, sym, ◌∙◌, ap, subst, ℕ, ◌+◌, ◌<◌, inl, inr, nat_le, not, Bool, true, false, if◌then◌else◌, List, length, map, slice_get, slice_index, Option, Some, None, arith}
use Rattle.std.specs.Prelude.{Result, Ok, Err}
use Rattle.fl_base.specs.declared.identity.LinkId.{LinkId}
use Rattle.fl_base.specs.Given.{given}
use Rattle.fl_base.specs.Numbered.{core_id}
use Rattle.fl_compile.specs.declared.program.Program.{Program}
use Rattle.fl_hop.specs.declared.fault.HopFault.TheVariants.{NoLink, UsedUp as NoNumber, Misrouted as IsHere}
use Rattle.fl_hop.specs.Table.{TheCircuits, stands}
use Rattle.fl_hop.specs.Numbers.{next_own}
use Rattle.fl_hop.specs.Openings.{if_used_up, open_fault}
use Rattle.fl_core.specs.BoardView.{TheDispatcher}
use Rattle.fl_core.specs.declared.board_fault.BoardFault.TheVariants as board
use Rattle.fl_monitor.specs.declared.fault.MonitorFault.{MonitorFault}
use Rattle.fl_monitor.specs.declared.fault.MonitorFault.TheVariants as monitor
use Rattle.fl_monitor.specs.Monitors.{first_link, MayOpen, wanted as may_want, can_say as monitor_can_say}
use Rattle.fl_core.specs.View.{TheCore}
use Rattle.fl_core.specs.Making.{asked, Asks}
use Rattle.fl_core.specs.declared.fault.OpenFault.{OpenFault}
use Rattle.fl_core.specs.declared.fault.OpenFault.TheVariants as fault
use Rattle.fl_model.specs.Events.{DispatcherId, Answer, done, refused}
use Rattle.fl_model.specs.Calls.{Planned}
use Rattle.fl_model.specs.Monitors.{Core, Service, service_of, link_to, can_say}
use Rattle.fl_model.specs.State.{State, StepOutcome, answers, core_of}
use Rattle.fl_model.specs.Binding.{BindByNames, has_places_for, is_route, with_circuit_begun, opens_on, binds_by_route}
use Rattle.fl_world_refines.specs.Ends.{planned_of}
use Rattle.fl_world_refines.proofs.Boxes.{same_room}
use Rattle.fl_world_refines.proofs.Tests.{lt_true, le_true, le_false}
use Rattle.fl_world_refines.specs.View.{If, TheWorld, IsWhole}
use Rattle.fl_world_refines.specs.Lending.{Refuses}
use Rattle.fl_world_refines.specs.Binding.{BindingRequest, IsCopy, opening_for, AsksBy, by_cores, OpensOn, OpensBy, OpensFrom, may_be_route, BindsByRoute}
use Rattle.fl_world_refines.specs.ShowsState.{CoreShows, ShowsState, Shows}
use Rattle.fl_world_refines.specs.Laws.{Agrees}
use Rattle.fl_world_refines.proofs.MakingBase.{refuses}
use Rattle.fl_world_refines.proofs.MakingCores.{all_of, core_there}
use Rattle.fl_world_refines.proofs.JoiningEnds.{has_no_end}
use Rattle.fl_world_refines.proofs.JoiningQueues.{request, wanted}
use Rattle.fl_world_refines.proofs.JoiningLaws.{same_places, shown_as}
use Rattle.fl_world_refines.proofs.JoiningRoutes.{by_bool, RouteParts, route_parts, no_world_route, first_true, first_false, link_within, none_stands}
use Rattle.fl_world_refines.proofs.JoiningCircuits as circuits

-- ---- faults of an opening

number_there : (o : Option ℕ) → if_used_up o ≡ None → (c : ℕ) × (o ≡ Some c)
number_there None h = absurd (cc)
number_there (Some c) h = (c, refl)

no_number : (o : Option ℕ) → if_used_up o ≡ Some NoNumber → o ≡ None
no_number None h = refl
no_number (Some c) h = absurd (cc)

never_linkless : (o : Option ℕ) → if_used_up o ≡ Some NoLink → ⊥
never_linkless None h = absurd (cc)
never_linkless (Some c) h = absurd (cc)

never_here : (o : Option ℕ) → if_used_up o ≡ Some IsHere → ⊥
never_here None h = absurd (cc)
never_here (Some c) h = absurd (cc)

-- the machine's last tests
abbrev opens_number : BindByNames → List ℕ → Core → State → ℕ → ℕ → StepOutcome
opens_number m cores k s l c =
    if not (can_say l k) then answers s (refused 75) else answers (with_circuit_begun m cores (length s.bindings) l c s) done

abbrev opens_at : BindByNames → List ℕ → Core → State → ℕ → StepOutcome
opens_at m cores k s l =
    if not (has_places_for m.client 1 s) then answers s (refused 54) else given (next_own k.circuits l) (answers s (refused 74)) (opens_number m cores k s l)

refused_as : (n : ℕ) (o : StepOutcome) (w w2 : TheWorld) (s : State) (a : Answer) → ShowsState w s → o ≡ answers s (refused n) → Refuses n w a w2 → Agrees o a w2
refused_as n o w w2 s a h q r = subst (λ z. Agrees z a w2) (sym q) (refuses n w w2 s a h r)

module _ (client : DispatcherId) (i : ℕ) (p : Program) (planned : Planned) (service : Service) (iref : ℕ) (cores : List ℕ) (w w2 : TheWorld) (s : State) (a : Answer)
    (h : Shows w s) (interface_is : slice_get s.interfaces i ≡ Some planned) (program_is : planned_of p ≡ planned)
    (service_is : service_of s.services iref ≡ Some service) (offered : service.interface ≡ i) where
  abbrev n : ℕ
  n = client.core

  abbrev server : ℕ
  server = service.dispatcher.core

  abbrev want : BindingRequest
  want = request client i p service iref

  abbrev m : BindByNames
  m = wanted client i planned service iref

  module _ (core : TheCore) (core_is : slice_get w.cores n ≡ Some core) (whole : IsWhole core) where
    abbrev k : Core
    k = (core_there s.cores w.cores n core (all_of w s h.showing.cores) core_is).0

    kt : slice_get s.cores n ≡ Some k
    kt = (core_there s.cores w.cores n core (all_of w s h.showing.cores) core_is).1

    k_shows : CoreShows k core
    k_shows = h.showing.cores.each n k core kt core_is

    module _ (l : LinkId) (link_is : link_to (slice_index cores 1) k ≡ Some l.0) (parts : RouteParts cores n server (length s.cores)) where
      fault_is : open_fault core.monitor.circuits l.0 (length s.bindings) ≡ if_used_up (next_own k.circuits l.0)
      fault_is =
          ap (λ (t : TheCircuits). open_fault t l.0 (length s.bindings)) k_shows.monitor.circuits
          ∙ ap (λ b. if b then (if stands k.circuits (length s.bindings) then Some IsHere else if_used_up (next_own k.circuits l.0)) else Some NoLink)
          (lt_true l.0 (length k.circuits.links) (link_within k (slice_index cores 1) l.0 link_is))
          ∙ ap (λ b. if b then Some IsHere else if_used_up (next_own k.circuits l.0)) (none_stands s h.sound n k kt)

      has_room : (d : TheDispatcher) (b : Bool) → slice_get core.board.dispatchers client.place ≡ Some d → nat_le (length d.ends + 1) 1024 ≡ b → has_places_for client 1 s ≡ b
      has_room d b q r =
          sym (same_places w s client 1 h.showing)
          ∙ ap (λ o. given o false (λ (z : TheCore). given (slice_get z.board.dispatchers client.place) false (λ y. nat_le (length y.ends + 1) 1024))) core_is
          ∙ ap (λ o. given o false (λ (y : TheDispatcher). nat_le (length y.ends + 1) 1024)) q ∙ r

      places : (d : TheDispatcher) → slice_get core.board.dispatchers client.place ≡ Some d → length d.ends < 1024
          → opens_at m cores k s l.0 ≡ given (next_own k.circuits l.0) (answers s (refused 74)) (opens_number m cores k s l.0)
      places d q r = ap (λ b. if not b then answers s (refused 54) else given (next_own k.circuits l.0) (answers s (refused 74)) (opens_number m cores k s l.0))
          (has_room d true q (le_true (length d.ends + 1) 1024 (omega (arith, r))))

      room_is : (b : Bool) → monitor_can_say core.monitor.outboxes l.0 ≡ b → can_say l.0 k ≡ b
      room_is b q = sym (same_room k.links core.monitor.outboxes l.0 k_shows.monitor.outboxes) ∙ q

      numbered : (c : ℕ) → next_own k.circuits l.0 ≡ Some c → given (next_own k.circuits l.0) (answers s (refused 74)) (opens_number m cores k s l.0) ≡ opens_number m cores k s l.0 c
      numbered c q = ap (λ o. given o (answers s (refused 74)) (opens_number m cores k s l.0)) q

      module _ (program : Program) (copy : IsCopy want program) where
        opened : (result : Result ℕ OpenFault) (after : TheCore) → IsWhole after → Asks (asked client.place program l (opening_for want (length s.bindings) cores)) core result after
            → AsksBy want result w after a w2 → Agrees (opens_at m cores k s l.0) a w2
        opened (Ok place) after still asks comes =
            let begun = comes.1 in
            let number : next_own k.circuits l.0 ≡ Some asks.circuit.0 = ap (λ (t : TheCircuits). next_own t l.0) (sym k_shows.monitor.circuits) ∙ asks.opens.2 in
            let is : opens_at m cores k s l.0 ≡ answers (with_circuit_begun m cores (length s.bindings) l.0 asks.circuit.0 s) done =
            places asks.adds.1.0 asks.adds.1.1 asks.adds.1.2 ∙ numbered asks.circuit.0 number
            ∙ ap (λ b. if not b then answers s (refused 75) else answers (with_circuit_begun m cores (length s.bindings) l.0 asks.circuit.0 s) done)
            (room_is true asks.opens.1) in
            let reached = circuits.reached client i p planned service iref cores w s h.sound h.showing interface_is program_is service_is offered parts core after core_is whole still
            l program begun.program copy begun.copy place asks link_is in
            let shown = circuits.circuit_shown client i p planned service iref cores w s h.sound h.showing interface_is program_is service_is offered parts core after core_is whole still
            l program begun.program copy begun.copy place asks link_is in
            subst (λ z. Agrees z a w2) (sym is) (record {
              answer = sym comes.0;
              showing = shown_as w2 _ (with_circuit_begun m cores (length s.bindings) l.0 asks.circuit.0 s) _ begun.rest reached shown;
            })
        opened (Err (fault.Board board.TooManyEnds)) after still asks comes =
            let d = asks.0.0.0 in
            let full : length d.ends ≡ 1024 = asks.0.0.2 in
            refused_as 54 (opens_at m cores k s l.0) w w2 s a h.showing
            (ap (λ b. if not b then answers s (refused 54) else given (next_own k.circuits l.0) (answers s (refused 74)) (opens_number m cores k s l.0))
            (has_room d false asks.0.0.1 (le_false (length d.ends + 1) 1024 (omega (arith, full))))) comes
        opened (Err (fault.Board board.Memory)) after still asks comes = absurd comes
        opened (Err (fault.Board board.NotBound)) after still asks comes = absurd asks.0
        opened (Err (fault.Board board.Registered)) after still asks comes = absurd asks.0
        opened (Err (fault.Board board.NotRegistered)) after still asks comes = absurd asks.0
        opened (Err (fault.Board board.Failed)) after still asks comes = absurd asks.0
        opened (Err (fault.Monitor monitor.OutboxFull)) after still asks comes =
            let (c, number) = number_there (next_own k.circuits l.0) (sym fault_is ∙ asks.1.0) in
            refused_as 75 (opens_at m cores k s l.0) w w2 s a h.showing
            (places asks.0.0 asks.0.1 asks.0.2 ∙ numbered c number
            ∙ ap (λ b. if not b then answers s (refused 75) else answers (with_circuit_begun m cores (length s.bindings) l.0 c s) done) (room_is false asks.1.1)) comes
        opened (Err (fault.Monitor monitor.UsedUp)) after still asks comes =
            let none = no_number (next_own k.circuits l.0) (sym fault_is ∙ asks.1.0) in
            refused_as 74 (opens_at m cores k s l.0) w w2 s a h.showing
            (places asks.0.0 asks.0.1 asks.0.2 ∙ ap (λ o. given o (answers s (refused 74)) (opens_number m cores k s l.0)) none) comes
        opened (Err (fault.Monitor monitor.Memory)) after still asks comes = absurd comes
        opened (Err (fault.Monitor monitor.NoRoute)) after still asks comes = absurd (never_linkless (next_own k.circuits l.0) (sym fault_is ∙ asks.1.0))
        opened (Err (fault.Monitor monitor.Misrouted)) after still asks comes = absurd (never_here (next_own k.circuits l.0) (sym fault_is ∙ asks.1.0))
        opened (Err (fault.Monitor monitor.Differs)) after still asks comes = absurd asks.1.0
        opened (Err (fault.Monitor monitor.PlansDiffer)) after still asks comes = absurd asks.1.0

      on_link : OpensOn (by_cores want cores) l core w a w2 → Agrees (opens_at m cores k s l.0) a w2
      on_link e =
          opened e.program e.copy e.result e.after e.still
          (subst (λ c. Asks (asked client.place e.program l (opening_for want c cores)) core e.result e.after) h.showing.bindings.count e.asks) e.follows

    -- ---- by the route

    abbrev routed : Bool
    routed = is_route cores n server s

    abbrev outcome : StepOutcome
    outcome = binds_by_route m cores s

    here : routed ≡ true → outcome ≡ opens_on m cores k s
    here q =
        ap (λ b. if not b then answers s (refused 73) else given (core_of s n) (answers s (refused 73)) (λ z. opens_on m cores z s)) q
        ∙ ap (λ o. given o (answers s (refused 73)) (λ z. opens_on m cores z s)) kt

    elsewhere : routed ≡ false → outcome ≡ answers s (refused 73)
    elsewhere q = ap (λ b. if not b then answers s (refused 73) else given (core_of s n) (answers s (refused 73)) (λ z. opens_on m cores z s)) q

    link_true : routed ≡ true → first_link core.monitor.circuits (map core_id cores) server (length w.cores) ≡ link_to (slice_index cores 1) k
    link_true q = first_true cores server w s k n core.monitor.circuits k_shows.monitor.circuits (h.sound.cores n k kt).number h.showing.cores.count q

    link_false : routed ≡ false → first_link core.monitor.circuits (map core_id cores) server (length w.cores) ≡ None
    link_false q = first_false cores server w s k n core.monitor.circuits k_shows.monitor.circuits (h.sound.cores n k kt).number h.showing.cores.count q

    no_link : first_link core.monitor.circuits (map core_id cores) server (length w.cores) ≡ None → outcome ≡ answers s (refused 73)
    no_link q = by_bool routed (outcome ≡ answers s (refused 73))
        (λ r. here r ∙ ap (λ o. given o (answers s (refused 73)) (opens_at m cores k s)) (sym (link_true r) ∙ q)) elsewhere

    with_link : (l : LinkId) → first_link core.monitor.circuits (map core_id cores) server (length w.cores) ≡ Some l.0
        → OpensOn (by_cores want cores) l core w a w2 → Agrees outcome a w2
    with_link l q e = by_bool routed (Agrees outcome a w2)
        (λ r. (let to : link_to (slice_index cores 1) k ≡ Some l.0 = sym (link_true r) ∙ q in
        let is : outcome ≡ opens_at m cores k s l.0 = here r ∙ ap (λ o. given o (answers s (refused 73)) (opens_at m cores k s)) to in
        subst (λ z. Agrees z a w2) (sym is) (on_link l to (route_parts cores n server s r) e)))
        (λ r. absurd (let none : None ≡ Some l.0 = sym (link_false r) ∙ q in cc))

    from_here : (may : Result LinkId MonitorFault) → MayOpen (may_want p p (core_id server) (map core_id cores) (length w.cores)) core.monitor.circuits may
        → OpensBy may (by_cores want cores) core w a w2 → Agrees outcome a w2
    from_here (Ok l) may (inl e) = with_link l may.1 e
    from_here (Ok l) may (inr e) = absurd (has_no_end w s n h.showing e.0)
    from_here (Err monitor.NoRoute) may e = refused_as 73 outcome w w2 s a h.showing (no_link may.1) e
    from_here (Err monitor.Differs) may e = absurd (may refl)
    from_here (Err monitor.PlansDiffer) may e = absurd (may.1 refl)
    from_here (Err monitor.Misrouted) may e = absurd may
    from_here (Err monitor.UsedUp) may e = absurd may
    from_here (Err monitor.OutboxFull) may e = absurd may
    from_here (Err monitor.Memory) may e = absurd may

  pub route_agrees : BindsByRoute want cores w a w2 → Agrees (binds_by_route m cores s) a w2
  route_agrees e = by (may_be_route cores w) refl e
    where
      by : (b : Bool) → may_be_route cores w ≡ b → If (not b) (Refuses 73 w a w2) (OpensFrom want cores w a w2) → Agrees (binds_by_route m cores s) a w2
      by true q o = from_here o.core o.core_is o.whole o.may o.may_open o.opens
      by false q o =
          refused_as 73 (binds_by_route m cores s) w w2 s a h.showing
          (ap (λ b. if not b then answers s (refused 73) else given (core_of s n) (answers s (refused 73)) (λ z. opens_on m cores z s))
          (no_world_route cores n server w s h.showing.cores.count q)) o
