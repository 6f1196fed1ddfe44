-- The ends of a dispatcher, as the machine has them behind the set-up.
use Rattle.std.proofs.Common.{◌≡◌, refl, sym, ap, ◌∙◌, subst, ℕ, List, [], ◌∷◌, length, slice_get, Option, Some, None, option_map, arith}
use Rattle.std.proofs.lemmas.List.{length-map}
use Rattle.std.proofs.lemmas.Option.{same_Some, slice_get-map}
use Rattle.fl_base.specs.declared.identity.EndId.{EndId}
use Rattle.fl_base.specs.declared.identity.Side.{Side}
use Rattle.fl_base.specs.declared.identity.Side.TheVariants.{Client, Server}
use Rattle.fl_base.specs.Given.{given}
use Rattle.fl_core.specs.BoardView.{TheEndAtChannel}
use Rattle.fl_hop.proofs.Lists.{at_within, within}
use Rattle.fl_model.specs.Calls.{Planned}
use Rattle.fl_model.specs.Ends.{End}
use Rattle.fl_model.specs.Events.{DispatcherId}
use Rattle.fl_model.specs.Runs.{reached}
use Rattle.fl_model.specs.State.{Binding as TheBinding, State, end_in, interface_of}
use Rattle.fl_model.specs.Worlds.{start_with}
use Rattle.fl_core.specs.View.{TheCore, place_in, place_of}
use Rattle.fl_world_refines.specs.Ends.{planned_of}
use Rattle.fl_world_refines.specs.declared.binding.Binding.{Binding}
use Rattle.fl_world_refines.specs.ShowsState.{IsMade}
use Rattle.fl_world_refines.specs.View.{TheWorld, core_in}
use Rattle.fl_core_run.specs.Run.{TheRun}
use Rattle.fl_ring.specs.SharedSides.{TheSide}
use Rattle.fl_cores_file.specs.Jobs.{Job}
use Rattle.fl_cores_file.specs.Report.{TheReport}
use Rattle.fl_world.specs.Booting.{TheConfig}
use Rattle.fl_core_refines.specs.SetUpStart.{SetUpsStartFresh, StartsFresh}
use Rattle.fl_cores_jobs.specs.declared.end_work.BindingCores.{BindingCores}
use Rattle.fl_cores_jobs.specs.Joined.{core_of, core_at}
use Rattle.fl_cores_jobs.specs.Whole.{bound_of}
use Rattle.fl_cores_laws.specs.EndedCores.{OneCore}
use Rattle.fl_cores_laws.specs.EndedBegins.{Ran}
use Rattle.fl_cores_laws.specs.Few.{IsAt, EndsStay, AreEnds}
use Rattle.fl_cores.proofs.Booted.{all_making}
use Rattle.fl_cores_parts.specs.Begins.{TheCoreInputs, common_in}
use Rattle.fl_cores.specs.Promised.{Reports}
use Rattle.fl_cores.specs.Behind.{joined_in, cores_in}
use Rattle.fl_cores.specs.Outcomes.{ReportsAreOfRuns, UnfinishedHandleFew, HonestHandleFew, SetUpUnfinishedHandleFew, SetUpAt, AreSetUpAt, SetUpHandleFew}
use Rattle.fl_cores.proofs.CoresBegin.{places_in, are_core_threads}
use Rattle.fl_cores.proofs.CoresCoreThreads.{AtCoreThread, at_core_thread, AtCore, at_core, WasAt, on_boards}

core_side : (s : Side) (x : Binding) → core_of s (bound_of x) ≡ core_in s x
core_side Client x = refl
core_side Server x = refl

pub end_there : (o : Option TheBinding) (e : EndId) (x : End) → given o None (λ (b : TheBinding). Some (end_in e.side b)) ≡ Some x → (b : TheBinding) × (o ≡ Some b) × (end_in e.side b ≡ x)
end_there None e x is = absurd (cc)
end_there (Some b) e x is = (b, refl, same_Some (end_in e.side b) x is)

module _ (fresh : SetUpsStartFresh) (c : TheConfig) (jobs : List Job) (limit : ℕ) (r : TheReport) (w : Reports c jobs limit r)
    (d : DispatcherId) where
  abbrev state : State
  state = reached (start_with c.cores) c.setup

  abbrev world : TheWorld
  world = w.ran.made.world

  starts : StartsFresh world
  starts = fresh c.cores c.setup world (all_making c.setup w.accepted.making) w.ran.made.stands.1.shown

  -- ---- an end, as the set-up made it

  -- it is at the dispatcher's core, at that dispatcher, and jobs were joined to it there; no job opens its binding
  pub record Sits (e : EndId) : Type 0 where
    pub bound : BindingCores
    pub bound_is : slice_get (joined_in w).bindings e.binding ≡ Some bound
    pub opened : bound.opened ≡ None
    pub own : core_at (joined_in w).bindings e ≡ Some d.core
    pub core : TheCore
    pub core_is : slice_get world.cores d.core ≡ Some core
    pub place : ℕ
    pub place_is : place_of core e ≡ Some place
    pub seat : TheEndAtChannel
    pub seat_is : slice_get core.board.seats place ≡ Some seat
    pub dispatcher : seat.dispatcher ≡ d.place

  pub interface_there : (b : TheBinding) (x : Binding) (n : ℕ) → slice_get state.bindings n ≡ Some b → slice_get world.bindings n ≡ Some x → (i : Planned) × (interface_of state b ≡ Some i)
  interface_there b x n at there =
      let showing = w.ran.made.stands.1.shown.showing in
      let joined = starts.joined n x there in
      let same : x.interface ≡ b.interface = (showing.bindings.each n b x at there).interface in (
        planned_of joined.program,
        ap (λ (is : List Planned). slice_get is b.interface) (sym showing.programs) ∙ slice_get-map planned_of world.programs b.interface
            ∙ ap (λ (m : ℕ). option_map planned_of (slice_get world.programs m)) (sym same) ∙ ap (option_map planned_of) joined.program_is,
      )

  sits_by : (e : EndId) (at : SetUpAt c d e) (b : TheBinding) → slice_get state.bindings e.binding ≡ Some b → end_in e.side b ≡ at.end → (x : Binding)
      → slice_get world.bindings e.binding ≡ Some x → Sits e
  sits_by e at b stands is x there =
      let showing = w.ran.made.stands.1.shown.showing in
      let seat_is : (end_in e.side b).seat ≡ Some at.seat = ap (λ (y : End). y.seat) is ∙ at.seat_is in
      let (i, interface) = interface_there b x e.binding stands there in
      let made : IsMade world state e b i at.seat = showing.ends.made e b i at.seat stands interface seat_is in
      let core_is : at.seat.dispatcher.core ≡ d.core = ap (λ (y : DispatcherId). y.core) at.dispatcher in
      let home : core_in e.side x ≡ d.core = (showing.bindings.each e.binding b x stands there).seated e at.seat refl seat_is ∙ core_is in
      let bound_is : slice_get (joined_in w).bindings e.binding ≡ Some (bound_of x) =
      w.ran.ran.are_bound.first e.binding x (ap (λ (xs : List Binding). slice_get xs e.binding) w.ran.made.parts.bindings ∙ there) in
      record {
        bound = bound_of x;
        bound_is = bound_is;
        opened = refl;
        own = ap (λ (o : Option BindingCores). given o None (λ (y : BindingCores). Some (core_of e.side y))) bound_is ∙ ap Some (core_side e.side x ∙ home);
        core = made.core;
        core_is = subst (λ (n : ℕ). slice_get world.cores n ≡ Some made.core) core_is made.core_is;
        place = made.place;
        place_is = made.place_is;
        seat = made.at;
        seat_is = made.at_is;
        dispatcher = made.dispatcher ∙ ap (λ (y : DispatcherId). y.place) at.dispatcher;
      }

  pub sits : (e : EndId) → SetUpAt c d e → Sits e
  sits e at =
      let (b, stands, is) = end_there (slice_get state.bindings e.binding) e at.end at.end_is in
      let below = within state.bindings e.binding b stands in
      let many = w.ran.made.stands.1.shown.showing.bindings.count in
      let (x, there) = at_within world.bindings e.binding (omega (arith, below, many)) in
      sits_by e at b stands is x there

  -- ---- a core that ran

  module _ (stay : EndsStay) (ran : Ran jobs (joined_in w) limit (cores_in w) r) (core : OneCore) (at : slice_get (cores_in w) d.core ≡ Some core) where
    abbrev common : TheCoreInputs
    common = common_in w.ran.ran.parts (joined_in w) (places_in w)

    one : AtCore (joined_in w).jobs limit w.ran.ran.ran.core_threads w.ran.ran.ran.outcomes d.core core
    one = at_core (joined_in w).jobs limit w.ran.ran.ran.core_threads w.ran.ran.ran.outcomes w.ran.ran.ran.ran d.core core at

    core_thread : AtCoreThread common d.core w.ran.ran.parts.cores.items d.core one.core_thread
    core_thread = at_core_thread common 0 w.ran.ran.parts.cores.items w.ran.ran.ran.core_threads d.core d.core one.core_thread (are_core_threads w) one.core_thread_is (omega arith)

    was : WasAt w.ran.parts.cores.items d.core core_thread.core
    was = (on_boards w.ran.parts.bindings.items jobs w.ran.parts.cores.items w.ran.ran.parts.cores.items w.ran.ran.rules).each d.core core_thread.core core_thread.core_is

    pub is_at : (e : EndId) → Sits e → IsAt core.finish d.place e
    is_at e s =
        let same_core : was.core ≡ s.core =
        same_Some was.core s.core (sym was.core_is ∙ ap (λ (ks : List TheCore). slice_get ks d.core) w.ran.made.parts.cores ∙ s.core_is) in
        let begun : core.begin.run ≡ one.core_thread.run = ap (λ (x : OneCore). x.begin.run) (sym one.core_is) in
        let places : place_of one.core_thread.run.core e ≡ Some s.place =
        ap (λ (k : TheCore). place_of k e) core_thread.core_thread.core_is ∙ ap (λ (ps : List (Option ℕ)). place_in ps e) was.places ∙ ap (λ (k : TheCore). place_of k e) same_core
        ∙ s.place_is in
        let (sat, sat_is, sat_same) = was.seats.seats s.place s.seat (subst (λ (k : TheCore). slice_get k.board.seats s.place ≡ Some s.seat) (sym same_core) s.seat_is) in
        let seats : slice_get one.core_thread.run.core.board.seats s.place ≡ Some sat = ap (λ (k : TheCore). slice_get k.board.seats s.place) core_thread.core_thread.core_is ∙ sat_is in
        let stays : IsAt core.finish sat.dispatcher e =
        stay jobs (joined_in w) limit (cores_in w) r ran d.core s.place core e sat at (ap (λ (x : TheRun TheSide). place_of x.core e) begun ∙ places)
        (ap (λ (x : TheRun TheSide). slice_get x.core.board.seats s.place) begun ∙ seats) in
        subst (λ (n : ℕ). IsAt core.finish n e) (sat_same ∙ s.dispatcher) stays

    are_ends : (ends : List EndId) → AreSetUpAt c d ends → AreEnds (joined_in w) d.core core d.place ends
    are_ends [] are = tt
    are_ends (e ∷ ends) are = let s = sits e are.0 in (s.own, is_at e s, are.1, are_ends ends are.2)

pub set_up_few : SetUpsStartFresh → ReportsAreOfRuns → HonestHandleFew → EndsStay → SetUpHandleFew
set_up_few fresh runs law stay c jobs limit r w honest d ends turns are told =
    let ran = runs c jobs limit r w in
    let many : length r.turns ≡ length (cores_in w) = ap length ran.turns.turns ∙ length-map (cores_in w) (λ (x : OneCore). x.part.turns) in
    let below = within r.turns d.core turns told in
    let (core, at) = at_within (cores_in w) d.core (omega (arith, many, below)) in
    law c jobs limit r w honest d.core d.place turns core ends at (are_ends fresh c jobs limit r w d stay ran core at ends are) told

pub set_up_unfinished : SetUpsStartFresh → ReportsAreOfRuns → UnfinishedHandleFew → EndsStay → SetUpUnfinishedHandleFew
set_up_unfinished fresh runs law stay c jobs limit r w d ends turns core at left are told =
    law c jobs limit r w d.core d.place turns core ends at left (are_ends fresh c jobs limit r w d stay (runs c jobs limit r w) core at ends are) told
