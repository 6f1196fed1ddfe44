-- A core as its run begins shows the first cut, and is ready.
use Rattle.std.proofs.Common.{◌≡◌, inl, inr, refl, sym, ◌∙◌, ap, subst, ℕ, zero, suc, ◌<◌, List, [], ◌∷◌, length, map, slice_get, Option, Some, None, arith}
use Rattle.std.specs.Prelude.{IsSome}
use Rattle.std.specs.Option.{option_map}
use Rattle.std.proofs.lemmas.List.{length-map}
use Rattle.std.proofs.lemmas.Option.{slice_get-map}
use Rattle.std.specs.List.{AllZip}
use Rattle.fl_base.specs.declared.identity.EndId.{EndId}
use Rattle.fl_base.specs.Given.{given}
use Rattle.fl_compile.specs.declared.program.Program.{Program}
use Rattle.fl_compile.specs.Programs.{program_of}
use Rattle.fl_core.specs.BoardView.{TheDispatcher, TheEndAtChannel}
use Rattle.fl_hop.proofs.Lists.{at_within, within}
use Rattle.fl_link.specs.Queue.{TheQueue}
use Rattle.fl_ring.specs.SharedSides.{TheSide}
use Rattle.fl_core.specs.declared.wiring.WiredEnd.{WiredEnd}
use Rattle.fl_core.specs.declared.wiring.EndWiring.{EndWiring}
use Rattle.fl_core.specs.declared.wiring.EndWiring.TheVariants.{Queues, Ring, Circuit}
use Rattle.fl_core.specs.Numbers.{moved, moved_wiring, moved_wired_end, renumbered}
use Rattle.fl_core.specs.Sound.{IsCore}
use Rattle.fl_core.specs.View.{TheCore, place_of, arrivals_by}
use Rattle.fl_core.proofs.Numbering.{came_from}
use Rattle.fl_core_run_laws.specs.Led.{LeadsAtFirst}
use Rattle.fl_model.specs.Monitors.{Core}
use Rattle.fl_model.specs.State.{core_of}
use Rattle.fl_world_refines.specs.Ends.{planned_of}
use Rattle.fl_world_refines.specs.Cores.{MonitorShows, NamesShow}
use Rattle.fl_world_refines.specs.declared.parts.Parts.{Parts}
use Rattle.fl_world_refines.specs.Binding.{new_queue}
use Rattle.fl_world_refines.specs.ShowsState.{CoreShows, wiring_of, Shows, NamesQueue}
use Rattle.fl_world_refines.specs.View.{TheWorld}
use Rattle.fl_cores_file.specs.Jobs.{Job}
use Rattle.fl_cores_file.specs.Report.{TheReport}
use Rattle.fl_world.specs.Booting.{TheConfig}
use Rattle.fl_core_refines.specs.SetUpUntouched.{SetUpsTouchNothing}
use Rattle.fl_core_refines.specs.SetUpStart.{SetUpsStartFresh, StartsFresh}
use Rattle.fl_cores_fork.specs.Runs.{TheCoreThread}
use Rattle.fl_cores_parts.specs.Begins.{Places, common_in}
use Rattle.fl_cores_parts.specs.Shares.{sides_given, queues_given}
use Rattle.fl_cores.proofs.Booted.{all_making}
use Rattle.fl_cores.specs.Promised.{Reports}
use Rattle.fl_cores.specs.Behind.{joined_in}
use Rattle.fl_cores.proofs.CoresStart.{StartsQuiet, ruled_quiet, quiet_renumbered}
use Rattle.fl_cores.proofs.CoresCoreThreads.{AtCoreThread, at_core_thread}
use Rattle.fl_cores.proofs.SidesPlaces.{moved_to, holding_is}
use Rattle.fl_cores.proofs.StartShared.{AreReady, are_ready, queue_owner, begins_apart}
use Rattle.fl_core_refines.specs.CutEnds.{EndCut}
use Rattle.fl_core_refines.specs.Cut.{ShowsWaits, name_at, UsesQueue, IsUsed, ShowsCut}
use Rattle.fl_core_refines.specs.CutStart.{IsFirstEnd, IsFirstSide, IsFirstQueue, IsStarting, first_end, first_ends, first_cut, StartsShow}
use Rattle.fl_core_refines.specs.CutReady.{Serves, IsReady}
use Rattle.fl_cores.specs.Follows.{IsOfMachine}
use Rattle.fl_cores.specs.Wanted.{behind}
use Rattle.fl_cores.proofs.FollowsHandedOut.{own_is_one, new_sides}
use Rattle.fl_cores.proofs.FollowsEnds.{first_at, of_machine}
use Rattle.fl_cores.proofs.FollowsRuled.{WasEnd, Was, were}

-- ---- lists

-- two lists of one length, one for one
each_by : {A B : Type 0} (R : A → B → Type 0) (xs : List A) (ys : List B) → length ys ≡ length xs
    → ((n : ℕ) (x : A) (y : B) → slice_get xs n ≡ Some x → slice_get ys n ≡ Some y → R x y) → AllZip R xs ys
each_by R [] [] long h = tt
each_by R [] (y ∷ ys) long h = absurd (cc)
each_by R (x ∷ xs) [] long h = absurd (cc)
each_by R (x ∷ xs) (y ∷ ys) long h =
    let rest : length ys ≡ length xs = omega (arith, long) in (h 0 x y refl refl, each_by R xs ys rest (λ n u v p q. h (suc n) u v p q))

not_bound : (o : Option ℕ) → o ≡ Some 0 → o ≡ None → ⊥
not_bound None p q = absurd (cc)
not_bound (Some x) p q = absurd (cc)

-- no first end is unbound
first_bound : (core : ℕ) (seats : List TheEndAtChannel) (wired_ends : List WiredEnd) (e : ℕ) (x : EndCut) → slice_get (first_ends core seats wired_ends) e ≡ Some x
    → x.end.circuit ≡ None → ⊥
first_bound core [] wired_ends e x at none = absurd (cc)
first_bound core (seat ∷ seats) [] e x at none = absurd (cc)
first_bound core (seat ∷ seats) (p ∷ wired_ends) zero x at none =
    not_bound x.end.circuit (sym (ap (λ (o : Option EndCut). given o (Some 0) λ y. y.end.circuit) at)) none
first_bound core (seat ∷ seats) (p ∷ wired_ends) (suc e) x at none = first_bound core seats wired_ends e x at none

-- each end has a wired end
wired_end_by : (seats : List TheEndAtChannel) (wired_ends : List WiredEnd) → length wired_ends ≡ length seats → (e : ℕ) (seat : TheEndAtChannel) → slice_get seats e ≡ Some seat
    → (p : WiredEnd) × (slice_get wired_ends e ≡ Some p)
wired_end_by seats wired_ends long e seat at = let below = within seats e seat at in at_within wired_ends e (omega (arith, long, below))

-- the same names, whatever numbers are named
same_name : (sides queues : List ℕ) (wired_ends : List WiredEnd) (e : ℕ) → name_at (map (moved_wired_end sides queues) wired_ends) e ≡ name_at wired_ends e
same_name sides queues wired_ends e =
    ap (λ (o : Option WiredEnd). given o None λ p. Some p.name) (slice_get-map (moved_wired_end sides queues) wired_ends e) ∙ by (slice_get wired_ends e)
  where
    by : (o : Option WiredEnd) → (given (option_map (moved_wired_end sides queues) o) None λ p. Some p.name) ≡ (given o None λ p. Some p.name)
    by None = refl
    by (Some p) = refl

same_names : (sides queues : List ℕ) (wired_ends : List WiredEnd) (es : List ℕ) → map (name_at (map (moved_wired_end sides queues) wired_ends)) es ≡ map (name_at wired_ends) es
same_names sides queues wired_ends [] = refl
same_names sides queues wired_ends (e ∷ es) =
    ap (λ (o : Option EndId). o ∷ map (name_at (map (moved_wired_end sides queues) wired_ends)) es) (same_name sides queues wired_ends e)
    ∙ ap (λ (os : List (Option EndId)). name_at wired_ends e ∷ os) (same_names sides queues wired_ends es)

-- ---- a queue that an end uses

-- which queue of the set-up it is
record WasQueue (k : TheCore) (queues : List ℕ) (n : ℕ) : Type 0 where
  pub queue : ℕ
  pub named : NamesQueue k queue
  pub moved_is : moved queues queue ≡ n

wiring_there : (k : TheCore) (e : ℕ) (p : WiredEnd) → IsCore k → slice_get k.wired_ends e ≡ Some p → wiring_of k p.name ≡ Some p.wiring
wiring_there k e p core at =
    ap (λ (o : Option ℕ). given o None λ place. given (slice_get k.wired_ends place) None λ q. Some q.wiring) (core.named e p at)
    ∙ ap (λ (o : Option WiredEnd). given o None λ q. Some q.wiring) at

queue_before : (k : TheCore) (sides queues : List ℕ) (n : ℕ) (p : WiredEnd) → wiring_of k p.name ≡ Some p.wiring → UsesQueue n (moved_wiring sides queues p.wiring) → WasQueue k queues n
queue_before k sides queues n p is uses = by p.wiring is uses where
  by : (wiring : EndWiring) → wiring_of k p.name ≡ Some wiring → UsesQueue n (moved_wiring sides queues wiring) → WasQueue k queues n
  by (Queues out from) w (inl q) = record { queue = out; named = inl (p.name, from, w); moved_is = q }
  by (Queues out from) w (inr q) = record { queue = from; named = inr (p.name, out, w); moved_is = q }
  by (Ring side) w u = absurd u
  by (Circuit link arrivals) w u = absurd u

first_queue_is : (q : TheQueue) (slots : ℕ) → q ≡ new_queue slots → IsFirstQueue q
first_queue_is q slots e = record {
  items = ap (λ (x : TheQueue). x.items) e;
  freed = ap (λ (x : TheQueue). x.acked) e;
  unacknowledged = ap (λ (x : TheQueue). x.unacknowledged) e;
  sent = ap (λ (x : TheQueue). x.sent) e;
}

-- ---- a core of a run

module _ (fresh : SetUpsStartFresh) (c : TheConfig) (jobs : List Job) (limit : ℕ) (r : TheReport) (w : Reports c jobs limit r) where
  abbrev world : TheWorld
  world = w.ran.made.world

  abbrev parts : Parts
  parts = w.ran.ran.parts

  shown : Shows world (behind c)
  shown = w.ran.made.stands.1.shown

  starts : StartsFresh world
  starts = fresh c.cores c.setup world (all_making c.setup w.accepted.making) shown

  ready : AreReady world parts
  ready = are_ready world w.ran.parts parts jobs starts w.ran.made.parts w.ran.ran.rules w.ran.ran.beside

  module _ (n : ℕ) (s : TheCoreThread) (at : slice_get w.ran.ran.ran.core_threads n ≡ Some s) where
    abbrev places : Places
    places = w.ran.ran.ran.places

    pub core_thread : AtCoreThread (common_in parts (joined_in w) places) n parts.cores.items n s
    core_thread = at_core_thread (common_in parts (joined_in w) places) 0 parts.cores.items w.ran.ran.ran.core_threads n n s w.ran.ran.ran.begin at (omega arith)

    abbrev k : TheCore
    k = core_thread.core

    pub was : Was world.cores n k
    was = were w.ran.parts.bindings.items jobs world.cores parts.cores.items
        (subst (λ (ks : List TheCore). Rattle.fl_cores_jobs.specs.Rules.RulesOf w.ran.parts.bindings.items jobs ks parts.cores.items) w.ran.made.parts.cores w.ran.ran.rules) n k core_thread.core_is

    core : IsCore s.run.core
    core = w.ran.ran.ran.sound.begin n s at

    -- but for the numbers of sides and queues, it is the world's core with rules
    run_is : s.run.core ≡ renumbered places.sides places.queues k
    run_is = core_thread.core_thread.core_is

    was_core : IsCore (renumbered places.sides places.queues k)
    was_core = subst IsCore run_is core

    own_core : IsCore k
    own_core = Rattle.fl_cores.proofs.StartNumbers.core_before places.sides places.queues k was_core

    -- ---- the machine's core

    pub machine : (x : Core) × (core_of (behind c) n ≡ Some x) × CoreShows x was.core
    machine =
        let below = within world.cores n was.core was.core_is in
        let many = shown.showing.cores.count in
        let x = at_within (behind c).cores n (omega (arith, below, many)) in
        (x.0, x.1, shown.showing.cores.each n x.0 was.core x.1 was.core_is)

    monitor_shows : MonitorShows machine.0 s.run.core.monitor
    monitor_shows =
        subst (MonitorShows machine.0) (sym (ap (λ (y : TheCore). y.monitor) run_is ∙ ap (λ (y : TheCore). y.monitor) was.ruled.rest)) machine.2.monitor

    same_waits : s.run.core.board.dispatchers ≡ was.core.board.dispatchers
    same_waits = ap (λ (y : TheCore). y.board.dispatchers) run_is ∙ was.ruled.dispatchers

    wired_ends_are : s.run.core.wired_ends ≡ map (moved_wired_end places.sides places.queues) was.core.wired_ends
    wired_ends_are = ap (λ (y : TheCore). y.wired_ends) run_is ∙ ap (λ (y : TheCore). map (moved_wired_end places.sides places.queues) y.wired_ends) was.ruled.rest

    waits_show : AllZip (ShowsWaits s.run.core.wired_ends) machine.0.dispatchers s.run.core.board.dispatchers
    waits_show =
        each_by (ShowsWaits s.run.core.wired_ends) machine.0.dispatchers s.run.core.board.dispatchers (ap length same_waits ∙ machine.2.count)
        (λ i x d x_is d_is.
        let is = machine.2.dispatchers i x d x_is (ap (λ (ds : List TheDispatcher). slice_get ds i) (sym same_waits) ∙ d_is) in
        record {
          lists = is.lists;
          ends = ap (λ (ps : List WiredEnd). map (name_at ps) d.ends) wired_ends_are ∙ same_names places.sides places.queues was.core.wired_ends d.ends ∙ is.ends;
        })

    -- ---- its ends

    -- in the world
    record InWorld (e : ℕ) (seat : TheEndAtChannel) (p : WiredEnd) : Type 0 where
      pub old : WasEnd was.core.board.seats e seat
      pub here : place_of was.core p.name ≡ Some e

    in_world : (e : ℕ) (seat : TheEndAtChannel) (p : WiredEnd) → slice_get s.run.core.board.seats e ≡ Some seat → slice_get s.run.core.wired_ends e ≡ Some p → InWorld e seat p
    in_world e seat p seat_is p_is =
        let seats_are : s.run.core.board.seats ≡ k.board.seats = ap (λ (y : TheCore). y.board.seats) run_is in
        record {
          old = was.ruled.ends e seat (ap (λ (ss : List TheEndAtChannel). slice_get ss e) (sym seats_are) ∙ seat_is);
          here = sym (ap (λ (y : TheCore). place_of y p.name) was.ruled.rest) ∙ sym (ap (λ (y : TheCore). place_of y p.name) run_is) ∙ core.named e p p_is;
        }

    end_first : (e : ℕ) (seat : TheEndAtChannel) → slice_get s.run.core.board.seats e ≡ Some seat → IsFirstEnd seat.end
    end_first e seat seat_is =
        let long : length s.run.core.wired_ends ≡ length s.run.core.board.seats
        = sym (length-map s.run.core.wired_ends _) ∙ sym (ap length core.kinds) ∙ length-map s.run.core.board.seats _ in
        let p = wired_end_by s.run.core.board.seats s.run.core.wired_ends long e seat seat_is in
        let x = in_world e seat p.0 seat_is p.1 in
        let old = x.old in
        let new = starts.ends n e was.core p.0.name old.before was.core_is x.here old.before_is in
        record {
          outgoing = old.outgoing ∙ new.new.outgoing;
          parts = old.parts ∙ new.new.parts;
          circuit = old.circuit ∙ new.circuit;
          sound = old.failed ∙ new.sound;
        }

    -- ---- its sides and queues

    side_first : (i : ℕ) (side : TheSide) → slice_get s.run.rings i ≡ Some side → IsFirstSide side
    side_first i side side_is =
        let shares = w.ran.ran.ran.shares in
        let holding : slice_get (sides_given w.ran.ran.ran.core_threads) n ≡ Some s.run.rings
        = slice_get-map (λ (x : TheCoreThread). x.run.rings) w.ran.ran.ran.core_threads n ∙ ap (option_map (λ (x : TheCoreThread). x.run.rings)) at in
        let own = sym (holding_is (sides_given w.ran.ran.ran.core_threads) n s.run.rings holding) ∙ shares.sides.handed_out.each n in
        let one = own_is_one n shares.side_owners (Rattle.fl_cores_shares.specs.Settled.sides_of shares.pairs) i side (ap (λ (xs : List TheSide). slice_get xs i) (sym own) ∙ side_is) in
        new_sides parts.rings.items shares.pairs shares.new one.0 side one.1

    queue_first : (i : ℕ) (q : TheQueue) → IsUsed UsesQueue s.run.core.wired_ends i → slice_get s.run.queues i ≡ Some q → IsFirstQueue q
    queue_first i q used q_is =
        let shares = w.ran.ran.ran.shares in
        let from = came_from (moved_wired_end places.sides places.queues) k.wired_ends used.place used.wired_end
        (ap (λ (y : TheCore). slice_get y.wired_ends used.place) (sym run_is) ∙ used.wired_end_is) in
        let uses : UsesQueue i (moved_wiring places.sides places.queues from.first.wiring) = subst (λ (p : WiredEnd). UsesQueue i p.wiring) from.same used.uses in
        let old = queue_before k places.sides places.queues i from.first (wiring_there k used.place from.first own_core from.first_is) uses in
        let new = ready.new n old.queue k core_thread.core_is old.named in
        let owner = queue_owner world parts ready places w.ran.ran.ran.core_threads w.ran.ran.ran.outcomes shares n old.queue k core_thread.core_is old.named in
        let thing : slice_get parts.queues.items old.queue ≡ Some (new_queue new.0) = ap (λ (qs : List TheQueue). slice_get qs old.queue) ready.queues ∙ new.1 in
        let put = shares.queues.at old.queue n (new_queue new.0) owner thing in
        let holding : slice_get (queues_given w.ran.ran.ran.core_threads) n ≡ Some s.run.queues
        = slice_get-map (λ (x : TheCoreThread). x.run.queues) w.ran.ran.ran.core_threads n ∙ ap (option_map (λ (x : TheCoreThread). x.run.queues)) at in
        let place : put.place ≡ i = sym (moved_to places.queues old.queue put.place put.place_is) ∙ old.moved_is in
        let stands : slice_get s.run.queues i ≡ Some (new_queue new.0)
        = ap (slice_get s.run.queues) (sym place)
        ∙ ap (λ (xs : List TheQueue). slice_get xs put.place) (sym (holding_is (queues_given w.ran.ran.ran.core_threads) n s.run.queues holding)) ∙ put.stands in
        let same : q ≡ new_queue new.0 = (let both : Some q ≡ Some (new_queue new.0) = sym q_is ∙ stands in cc) in
        first_queue_is q new.0 same

    quiet : StartsQuiet (joined_in w) s.run.core
    quiet = quiet_renumbered (joined_in w) places.sides places.queues k s.run.core run_is (ruled_quiet fresh c jobs limit r w n k core_thread.core_is)

    no_arrivals : (e : ℕ) (p : WiredEnd) → slice_get s.run.core.wired_ends e ≡ Some p → arrivals_by p.wiring ≡ None
    no_arrivals e p p_is = quiet.off_links p.name e p (core.named e p p_is) p_is

    pub is_starting : IsStarting s.run
    is_starting = record {
      core = core;
      ends = end_first;
      sides = side_first;
      queues = queue_first;
      arrivals = λ i q used q_is. (let none : None ≡ Some i = sym (no_arrivals used.place used.wired_end used.wired_end_is) ∙ used.uses in absurd (cc));
    }

    pub begins : StartsShow → ShowsCut (first_cut machine.0 s.run) s.run
    begins law = law machine.0 s.run is_starting monitor_shows waits_show

    -- each of its ends is the machine's
    pub ends_are : SetUpsTouchNothing → (place : ℕ) (x : EndCut) → slice_get (first_cut machine.0 s.run).ends place ≡ Some x → IsOfMachine (behind c) x
    ends_are law place x x_is =
        let number : s.run.core.monitor.circuits.core ≡ n
        = ap (λ (y : TheCore). y.monitor.circuits.core) run_is ∙ ap (λ (y : TheCore). y.monitor.circuits.core) was.ruled.rest ∙ starts.numbers n was.core was.core_is in
        let at_first = first_at s.run.core.monitor.circuits.core s.run.core.board.seats s.run.core.wired_ends place x x_is in
        let inside = in_world place at_first.seat at_first.wired_end at_first.seat_is at_first.wired_end_is in
        let is = of_machine world (behind c) n was.core place at_first.wired_end inside.old.before at_first.seat shown
        (law c.cores c.setup (all_making c.setup w.accepted.making)) was.core_is inside.here inside.old.before_is (ap planned_of inside.old.program) inside.old.dispatcher
        inside.old.channel in
        subst (IsOfMachine (behind c)) (sym (at_first.end_is ∙ ap (λ (m : ℕ). first_end m at_first.wired_end at_first.seat) number)) is

    -- ---- it is ready

    names : NamesShow (behind c).services s.run.offers.names
    names =
        subst (NamesShow (behind c).services) (sym (core_thread.core_thread.names ∙ w.ran.ran.beside.names ∙ w.ran.made.parts.names)) shown.showing.names

    serves : Serves (behind c).services (first_cut machine.0 s.run)
    serves i x x_is here =
        let stands = shown.sound.services i x x_is in
        let number : machine.0.circuits.core ≡ n
        = sym (ap (λ t. t.core) machine.2.monitor.circuits) ∙ starts.numbers n was.core was.core_is in
        let own : core_of (behind c) x.dispatcher.core ≡ Some machine.0 = ap (core_of (behind c)) (here ∙ number) ∙ machine.1 in
        let dispatcher : IsSome (slice_get machine.0.dispatchers x.dispatcher.place)
        = subst (λ (o : Option Core). IsSome (given o None λ y. slice_get y.dispatchers x.dispatcher.place)) own stands.0 in
        let lent : length s.run.offers.programs ≡ length world.programs
        = sym (length-map s.run.offers.programs program_of) ∙ ap length core_thread.core_thread.programs ∙ length-map parts.programs.items program_of
        ∙ ap length (w.ran.ran.beside.programs ∙ w.ran.made.parts.programs) in
        let plans : length (map (λ (p : Program). planned_of p) s.run.offers.programs) ≡ length (behind c).interfaces
        = length-map s.run.offers.programs _ ∙ lent ∙ sym (length-map world.programs planned_of) ∙ ap length shown.showing.programs in
        let interface = below (behind c).interfaces x.interface stands.1 in
        (below machine.0.dispatchers x.dispatcher.place dispatcher, omega (arith, interface, plans))
      where
        below : {X : Type 0} (xs : List X) (i : ℕ) → IsSome (slice_get xs i) → i < length xs
        below xs i some = by (slice_get xs i) refl some where
          by : (o : Option _) → slice_get xs i ≡ o → IsSome o → i < length xs
          by None q none = absurd (cc)
          by (Some y) q none = within xs i y q

    pub is_ready : LeadsAtFirst → IsReady (behind c).services (first_cut machine.0 s.run) s.run
    is_ready leads = record {
      names = names;
      serves = serves;
      quiet = λ e x x_is none. absurd (first_bound s.run.core.monitor.circuits.core s.run.core.board.seats s.run.core.wired_ends e x x_is none);
      apart = subst Rattle.fl_core_run_laws.specs.Flows.IsApart (sym run_is)
          (begins_apart world parts ready places w.ran.ran.ran.core_threads w.ran.ran.ran.outcomes w.ran.ran.ran.shares n k core_thread.core_is was_core);
      led = leads s.run.core no_arrivals quiet.quiet;
    }
