-- One core by itself has no side of a ring, and asks for no circuit: what it did in its turns is an order by itself.
use Rattle.std.proofs.Common.{◌≡◌, refl, sym, ◌∙◌, ap, subst, ℕ, ◌==◌, ◌&&◌, ◌||◌, nat_lt, nat_le, not, Bool, true, false, if◌then◌else◌, List, [], ◌∷◌, length, slice_get, Some, None}
use Rattle.std.specs.List.{list_any, list_all}
use Rattle.std.proofs.lemmas.Bool.Decides.{nat_tests}
use Rattle.std.proofs.Common.{arith}
use Rattle.fl_base.specs.declared.identity.CoreId.{CoreId}
use Rattle.fl_base.specs.Given.{given}
use Rattle.fl_hop.specs.Table.{TheCircuits, link_of}
use Rattle.fl_hop.specs.declared.forward.ForwardOutcome.TheVariants as outcome
use Rattle.fl_monitor.specs.Monitors.{first_link}
use Rattle.fl_monitor.specs.Routing.{is_core, all_differ, begins_at, ends_at_core, is_route}
use Rattle.fl_ring.specs.SharedSides.{TheSide}
use Rattle.fl_core.specs.declared.core_job.CoreJob.{CoreJob}
use Rattle.fl_core.specs.declared.wiring.Inlet.TheVariants as inlet
use Rattle.fl_core.specs.declared.wiring.Outlet.TheVariants as outlet
use Rattle.fl_core_run.specs.Run.{TheRun}
use Rattle.fl_core_run.specs.LogEntries.{LogEntry, looked, passed, arrived, heard, said, told, opened, called, ruled, wrote, acked, turned, Does}
use Rattle.fl_core_run_laws.proofs.Aside.{progresses_alone}
use Rattle.fl_core_refines.specs.CutStart.{first_cut}
use Rattle.fl_core_turned.specs.Reasons.{lacks_memory}
use Rattle.fl_core_turned.specs.TurnEvents.{Event, event}
use Rattle.fl_core_turned.specs.Turned.{CutMoment, moment, shared_ways, Follows, AllFollow}
use Rattle.fl_model.specs.Monitors.{Service}
use Rattle.fl_model.specs.Sound.{Sound}
use Rattle.fl_model.specs.State.{State}
use Rattle.fl_model.specs.Worlds.{start_with}
use Rattle.fl_model_laws.proofs.Small.{both_are}
use Rattle.fl_model_laws.proofs.Start.{world_is_sound}
use Rattle.fl_world.specs.Booting.{TheConfig}
use Rattle.fl_world_refines.specs.View.{IsWhole}
use Rattle.fl_world_refines.specs.declared.parts.Parts.{Parts}
use Rattle.fl_world_refines.proofs.FramesBase.{same_some}
use Rattle.fl_world_refines.proofs.Tests.{by_test}
use Rattle.fl_cores_file.specs.Jobs.{Job}
use Rattle.fl_cores_file.specs.Report.{TheReport}
use Rattle.fl_cores_fork.specs.Runs.{TheCoreThread}
use Rattle.fl_cores_parts.specs.Shares.{AreShared, Shares, sides_given}
use Rattle.fl_cores_shares.specs.Settled.{sides_of}
use Rattle.fl_cores.specs.Behind.{joined_in}
use Rattle.fl_cores.specs.OneCore.{begins}
use Rattle.fl_cores.specs.Promised.{cores_by, Reports}
use Rattle.fl_cores.proofs.Booted.{all_making, cores_are}
use Rattle.fl_cores.proofs.OneBare.{no_rings, one_of, none_in, the_one}
use Rattle.fl_cores.proofs.OneBegin.{no_sides}
use Rattle.fl_cores_joined.specs.Rings.{FacingSide}
use Rattle.fl_cores_joined.specs.Joined.{JoinedCore, alone}
use Rattle.fl_cores_joined.specs.Steps.{true_ways, HappensAt, Moment, does, forwards, IsWholeEvent, Interleaves}
use Rattle.fl_cores_joined.specs.Runs.{AsksRightlyAt, IsNumberedAt, AllAskRightly, AllAreNumbered}
use Rattle.fl_cores_joined.proofs.Joining.{long_set}
use Rattle.fl_cores_joined.proofs.Lifted.{lifted, queue_lifted, core_lifted, notes_lifted, acts_lifted, in_place_lifted}
use Rattle.fl_cores_whole.specs.Begin.{Owners, numbers_of, joined_from, owners_in}
use Rattle.fl_cores_whole.specs.Whole.{begun, events_at}
use Rattle.fl_cores_whole.specs.One.{OneCoreJoins}
use Rattle.fl_cores_whole.proofs.Asking.{many_cores, open_rightly}
use Rattle.fl_cores_whole.proofs.Begin.{joined_long}
use Rattle.fl_cores_whole.proofs.Holds.{both_false, some_cores, few_cores}

-- ---- an event of a core without sides

abbrev no_facing : List TheSide → List FacingSide
no_facing ps = []

abbrev by_itself : TheRun TheSide → TheRun FacingSide
by_itself r = lifted no_facing r

no_side : {P : Type 0} (r : TheRun TheSide) (n : ℕ) (p : TheSide) → r.rings ≡ [] → slice_get r.rings n ≡ Some p → P
no_side r n p none at = absurd (let e : None ≡ Some p = sym (ap (λ (ps : List TheSide). slice_get ps n) none) ∙ at in cc)

record IsByItself (log_entry : LogEntry) (s m : TheRun TheSide) : Type 0 where
  is_whole : lacks_memory log_entry ≡ false → IsWholeEvent log_entry
  is_done : Does true_ways log_entry (by_itself s) (by_itself m)
  ringless : m.rings ≡ []

does_by_itself : (log_entry : LogEntry) (s m : TheRun TheSide) → s.rings ≡ [] → Does shared_ways log_entry s m → IsByItself log_entry s m
does_by_itself (looked n l answer) s m none h = no_side s n h.before none h.before_is
does_by_itself (passed n k frag c outcome.Moved) s m none (mid, put, take) = no_side s k put.before none put.before_is
does_by_itself (passed n k frag c outcome.Full) s m none h = no_side s k h.before none h.before_is
does_by_itself (passed n k frag c outcome.Spent) s m none h = no_side s k h.before none h.before_is
does_by_itself (arrived n l frag e answer) s m none h = no_side s n h.before none h.before_is
does_by_itself (heard n l frag answer) s m none h = no_side s n h.before none h.before_is
does_by_itself (said n l answer) s m none h = no_side s n h.before none h.before_is
does_by_itself (told n l answer) s m none h = no_side s n h.before none h.before_is
does_by_itself (opened name request answer) s m none h =
    record { is_whole = λ some. some; is_done = core_lifted no_facing s m _ h; ringless = ap (λ (r : TheRun TheSide). r.rings) h.rest ∙ none }
does_by_itself (called name c answer) s m none (e, at, h) =
    record { is_whole = λ some. some; is_done = (e, at, core_lifted no_facing s m _ h); ringless = ap (λ (r : TheRun TheSide). r.rings) h.rest ∙ none }
does_by_itself (ruled name msg reply answer) s m none (e, at, h) =
    record { is_whole = λ some. tt; is_done = (e, at, core_lifted no_facing s m _ h); ringless = ap (λ (r : TheRun TheSide). r.rings) h.rest ∙ none }
does_by_itself (wrote name (outlet.Queue n) answer) s m none (e, at, h) =
    record { is_whole = λ some. tt; is_done = (e, at, queue_lifted no_facing n s m _ h); ringless = ap (λ (r : TheRun TheSide). r.rings) h.rest ∙ none }
does_by_itself (wrote name (outlet.Side n) answer) s m none (e, at, h) = no_side s n h.before none h.before_is
does_by_itself (acked name n answer) s m none (e, at, h) = no_side s n h.before none h.before_is
does_by_itself (turned d name (inlet.Queue n) answer) s m none (e, at, is, h) =
    record { is_whole = λ some. tt; is_done = (e, at, is, queue_lifted no_facing n s m _ h); ringless = ap (λ (r : TheRun TheSide). r.rings) h.rest ∙ none }
does_by_itself (turned d name inlet.Arrivals answer) s m none (e, at, is, h) =
    record { is_whole = λ some. tt; is_done = (e, at, is, core_lifted no_facing s m _ h); ringless = ap (λ (r : TheRun TheSide). r.rings) h.rest ∙ none }
does_by_itself (turned d name (inlet.Side n) answer) s m none (e, at, is, h) = no_side s n h.before none h.before_is

-- ---- events one after another

abbrev core_at : List ℕ → List ℕ → TheRun TheSide → JoinedCore
core_at sides queues r = record { run = r; sides = sides; queues = queues }

module _ (services : List Service) (jobs : List CoreJob) (sides queues : List ℕ) where
  abbrev here : TheRun TheSide → JoinedCore
  here r = core_at sides queues r

  same_back : (r : TheRun TheSide) → r.rings ≡ [] → alone (by_itself r) ≡ r
  same_back r none = ap (λ (ps : List TheSide). record r { rings = ps }) (sym none)

  record One (log_entry : LogEntry) (s t : TheRun TheSide) : Type 0 where
    whole : IsWholeEvent log_entry
    happens : HappensAt jobs 0 log_entry (here s ∷ []) (here t ∷ [])
    after_is : alone happens.after ≡ t
    rings : t.rings ≡ []

  one : (log_entry : LogEntry) (a b : CutMoment) → a.run.rings ≡ [] → Follows services jobs log_entry a b → One log_entry a.run b.run
  one log_entry a b none h =
      let mid = h.happens.0 in
      let its = does_by_itself log_entry a.run mid none h.happens.1 in
      let rings : b.run.rings ≡ [] = ap (λ (r : TheRun TheSide). r.rings) (progresses_alone mid b.run log_entry h.happens.2) ∙ its.ringless in
      record {
        whole = its.is_whole h.remembers;
        happens = record {
          before = here a.run;
          before_is = refl;
          beside = by_itself a.run;
          beside_is = record { own = same_back a.run none; across = λ i m p number at. absurd (cc) };
          after = by_itself b.run;
          happens = (
            by_itself mid,
            its.is_done,
            notes_lifted no_facing log_entry mid b.run h.happens.2,
            h.happens.3,
            acts_lifted no_facing log_entry a.run h.happens.4,
            tt,
          );
          in_place = in_place_lifted no_facing a.run (ap (λ (ps : List TheSide). length ps) (sym none)) jobs log_entry h.in_place;
          rest = ap (λ (r : TheRun TheSide). here r ∷ []) (sym (same_back b.run rings));
        };
        after_is = same_back b.run rings;
        rings = rings;
      }

  record Ordered (events : List (Event TheSide)) (s t : TheRun TheSide) : Type 0 where
    moments : List Moment
    order : Interleaves jobs (here s ∷ []) moments (here t ∷ [])
    events_are : events_at 0 jobs (here s ∷ []) moments (here t ∷ []) order ≡ events

  ordered : (events : List (Event TheSide)) (a b : CutMoment) → a.run.rings ≡ [] → AllFollow services jobs events a b → Ordered events a.run b.run
  ordered [] a b none h = record { moments = []; order = ap (λ (m : CutMoment). here m.run ∷ []) h; events_are = refl }
  ordered (x ∷ events) a b none h =
      let first = one x.log_entry a (moment x.run h.0) none h.1 in
      let rest = ordered events (moment x.run h.0) b first.rings h.2 in
      record {
        moments = does 0 x.log_entry ∷ rest.moments;
        order = (here x.run ∷ [], (first.whole, first.happens), rest.order);
        events_are = λ j. event x.log_entry (first.after_is j) ∷ rest.events_are j;
      }

-- ---- no circuit is asked for: a route has two cores at least

no_two : (path : List CoreId) (client server : ℕ) → is_route path client server 1 ≡ true → ⊥
no_two [] client server h = absurd (cc)
no_two (c ∷ []) client server h = absurd (cc)
no_two (c ∷ d ∷ cs) client server h =
    let path = c ∷ d ∷ cs in
    let some = nat_le 2 (length path) in
    let few = nat_le (length path) 16 in
    let all = list_all (λ (x : CoreId). nat_lt x.0 1) path in
    let begins = begins_at path client in
    let ends = ends_at_core path server in
    let (abcde, apart) = both_are (some && few && all && begins && ends) (all_differ path) h in
    let (abcd, e_is) = both_are (some && few && all && begins) ends abcde in
    let (abc, d_is) = both_are (some && few && all) begins abcd in
    let (ab, small) = both_are (some && few) all abc in
    let (first, others) = both_are (nat_lt c.0 1) (list_all (λ (x : CoreId). nat_lt x.0 1) (d ∷ cs)) small in
    let (second, more) = both_are (nat_lt d.0 1) (list_all (λ (x : CoreId). nat_lt x.0 1) cs) others in
    let (differs, rest) = both_are (not (list_any (is_core c.0) (d ∷ cs))) (all_differ (d ∷ cs)) apart in
    let same : (d.0 == c.0) ≡ true = grind (arith, nat_tests, first, second) in
    let no : false ≡ true = sym (ap (λ (b : Bool). not (b || list_any (is_core c.0) cs)) same) ∙ differs in
    absurd (cc)

no_route : {P : Type 0} (t : TheCircuits) (path : List CoreId) (server l : ℕ) → first_link t path server 1 ≡ Some l → P
no_route t path server l leads = by_test (is_route path t.core server 1) (λ q. absurd (no_two path t.core server q))
    (λ q.
    let none : None ≡ Some l =
    sym (ap (λ (b : Bool). if b then given (slice_get path 1) None (λ (c : CoreId). link_of t c.0) else None) q) ∙ leads in
    absurd (cc))

opens_none : (xs : List JoinedCore) (r : TheRun TheSide) (s : State) (log_entry : LogEntry) → length xs ≡ 1 → AsksRightlyAt xs r s log_entry
    → IsNumberedAt xs r s log_entry
opens_none xs r s (opened name request answer) one right =
    no_route r.core.monitor.circuits request.opening.path right.service.service.core.0 request.link.0
    (ap (first_link r.core.monitor.circuits request.opening.path right.service.service.core.0) (sym one) ∙ right.leads)
opens_none xs r s log_entry one right = tt

open_none : (jobs : List CoreJob) (moments : List Moment) (s : State) (xs ys : List JoinedCore) → length xs ≡ 1 → (h : Interleaves jobs xs moments ys)
    → AllAskRightly jobs s xs moments ys h → AllAreNumbered jobs s xs moments ys h
open_none jobs [] s xs ys one h right = tt
open_none jobs (does n log_entry ∷ moments) s xs ys one h right = (
  opens_none xs h.1.1.before.run s log_entry one right.0,
  open_none jobs moments _ h.0 ys
      (ap (λ (l : List JoinedCore). length l) h.1.1.rest ∙ long_set xs n (record h.1.1.before { run = alone h.1.1.after }) ∙ one) h.2 right.1,
)
open_none jobs (forwards n look follows ∷ moments) s xs ys one h right =
    open_none jobs moments _ h.0 ys
    (ap (λ (l : List JoinedCore). length l) h.1.1.2.rest ∙ long_set h.1.1.0 n (record h.1.1.2.before { run = alone h.1.1.2.after })
    ∙ ap (λ (l : List JoinedCore). length l) h.1.1.1.rest ∙ long_set xs n (record h.1.1.1.before { run = alone h.1.1.1.after }) ∙ one) h.2 right

-- ---- a reported run of one core

module _ (c : TheConfig) (jobs : List Job) (limit : ℕ) (r : TheReport) (w : Reports c jobs limit r) (one_core : cores_by c ≡ 1) where
  abbrev threads : List TheCoreThread
  threads = w.ran.ran.ran.core_threads

  abbrev parts : Parts
  parts = w.ran.ran.parts

  abbrev shares : Shares parts w.ran.ran.ran.places threads w.ran.ran.ran.outcomes
  shares = w.ran.ran.ran.shares

  abbrev owners : Owners
  owners = owners_in shares

  long : length (begun w) ≡ 1
  long =
      many_cores c jobs limit r w ∙ cores_are c w.ran.made.world w.ran.parts w.ran.made.stands w.ran.made.parts ∙ one_core

  many : length threads ≡ 1
  many = sym (joined_long owners 0 threads) ∙ long

  sound_start : Sound (start_with c.cores)
  sound_start =
      let both = both_false (nat_lt c.cores 1) (nat_lt 16 c.cores) w.accepted.cores in
      world_is_sound c.cores (some_cores c.cores both.0) (few_cores c.cores both.1)

  bare : parts.rings.items ≡ []
  bare =
      w.ran.ran.beside.rings ∙ w.ran.made.parts.rings
      ∙ none_in w.ran.made.world.rings (w.ran.made.stands.1.shown.showing.rings.count
      ∙ ap (λ rs. length rs) (no_rings c.setup (start_with c.cores) (all_making c.setup w.accepted.making) sound_start (λ q. refl) one_core))

  module _ (s : TheCoreThread) (s_is : slice_get threads 0 ≡ Some s) where
    threads_are : threads ≡ s ∷ []
    threads_are =
        let (t, is) = one_of threads many in
        let same : t ≡ s = same_some (slice_get threads 0) t s (ap (λ (ts : List TheCoreThread). slice_get ts 0) is) s_is in
        is ∙ ap (λ (z : TheCoreThread). z ∷ []) same

    begun_is : begun w ≡ core_at (numbers_of 0 owners.sides) (numbers_of 0 owners.queues) s.run ∷ []
    begun_is = ap (joined_from owners 0) threads_are

    no_sides_here : s.run.rings ≡ []
    no_sides_here =
        no_sides parts.rings.items shares.pairs shares.side_owners w.ran.ran.ran.places.sides s.run.rings shares.new bare
        (subst (AreShared shares.side_owners (sides_of shares.pairs) w.ran.ran.ran.places.sides) (ap sides_given threads_are) shares.sides)

pub one_core_joins : OneCoreJoins
one_core_joins c jobs limit r w follow s o one_core given_is left_is =
    let its = follow 0 s o given_is left_is in
    let number = owners c jobs limit r w one_core in
    let all = ordered _ (joined_in w).jobs (numbers_of 0 number.sides) (numbers_of 0 number.queues) its.turned.events
    (moment s.run (first_cut its.core s.run)) (moment o.run its.after) (no_sides_here c jobs limit r w one_core s given_is) its.turned.follows in
    let last = core_at (numbers_of 0 number.sides) (numbers_of 0 number.queues) o.run in
    let (order, events_are) = subst
    (λ (xs : List JoinedCore). (h : Interleaves (joined_in w).jobs xs all.moments (last ∷ []))
    × (events_at 0 (joined_in w).jobs xs all.moments (last ∷ []) h ≡ its.turned.events))
    (sym (begun_is c jobs limit r w one_core s given_is)) (all.order, all.events_are) in
    let sound = w.ran.ran.ran.sound.left 0 o left_is in
    record {
      moments = all.moments;
      cores = last ∷ [];
      order = order;
      events_are = events_are;
      whole = λ n y y_is.
          subst (λ (x : JoinedCore). IsWhole x.run.core) (sym (the_one last y n y_is).1)
          (record { core = sound.core; board = sound.board; outboxes = sound.outboxes });
      in_turn = open_none (joined_in w).jobs all.moments (begins c jobs) (begun w) (last ∷ []) (long c jobs limit r w one_core) order
          (open_rightly c jobs limit r w all.moments (begins c jobs) (last ∷ []) order);
    }
