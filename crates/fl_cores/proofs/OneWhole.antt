-- The report of a run of one core is a function of the configuration, the jobs and the limit.
use Rattle.std.proofs.Common.{◌≡◌, ◌≢◌, refl, sym, ◌∙◌, ap, subst, ℕ, zero, suc, ◌<◌, ◌≤◌, ◌||◌, nat_lt, Bool, true, false, if◌then◌else◌, List, [], ◌∷◌, length, map}
use Rattle.std.proofs.Common.{slice_get, None, arith}
use Rattle.std.specs.List.{flat_map, list_all, range_with_len, AllZip}
use Rattle.std.proofs.lemmas.Bool.Decides.{nat_tests}
use Rattle.fl_base.specs.declared.identity.EndId.{EndId}
use Rattle.fl_base.specs.Numbered.{most_cores}
use Rattle.fl_model_laws.proofs.Start.{world_is_sound}
use Rattle.fl_core.specs.Sound.{IsCore}
use Rattle.fl_core.specs.View.{TheCore}
use Rattle.fl_model.specs.Runs.{reached}
use Rattle.fl_model.specs.Sound.{Sound}
use Rattle.fl_model.specs.State.{State}
use Rattle.fl_model.specs.Worlds.{start_with}
use Rattle.fl_ring.specs.SharedSides.{TheSide}
use Rattle.fl_core_run.specs.declared.run.RunEnd.{RunEnd}
use Rattle.fl_core_run.specs.declared.run.RunEnd.TheVariants.{Finished, Unfinished, Told}
use Rattle.fl_core_run.specs.Finished.{is_finished as is_finished_run}
use Rattle.fl_core_run.specs.Ran.{RunTask, RunMoment, moment, task, TakesStock, CountedTurn, EndsAs, is_unfinished}
use Rattle.fl_core_run.specs.Turn.{Swept}
use Rattle.fl_core_run.specs.OpeningStatus.{TheRunSeat}
use Rattle.fl_cores_file.specs.Jobs.{Job}
use Rattle.fl_cores_file.specs.Report.{TheReport, complete, turns_out}
use Rattle.fl_world_refines.specs.View.{TheWorld}
use Rattle.fl_world_refines.specs.ShowsState.{Shows}
use Rattle.fl_world_refines.specs.Laws.{StepsAgree}
use Rattle.fl_world_refines.proofs.FramesBase.{same_some}
use Rattle.fl_world_refines.specs.declared.parts.Parts.{Parts}
use Rattle.fl_world_refines.specs.Apart.{is_making, AreParts}
use Rattle.fl_world.specs.Booting.{TheConfig}
use Rattle.fl_core_refines.specs.SetUpStart.{StartsFresh, SetUpsStartFresh}
use Rattle.fl_core_refines.specs.SetUpUntouched.{SetUpsTouchNothing}
use Rattle.fl_cores_jobs.specs.Rules.{RulesOf}
use Rattle.fl_cores_jobs.specs.State.{TheJoinedJobs, AreJoined}
use Rattle.fl_cores_jobs.specs.Whole.{request_in}
use Rattle.fl_cores_fork.specs.Runs.{TheFinishedCore, TheCoreThread, shared_ways, RanTo}
use Rattle.fl_cores_fork.specs.Tells.{made_at, handled_at, both_at, refusal_at, Tells}
use Rattle.fl_cores_parts.specs.Begins.{Places, ends_from, IsCoreThread, AreCoreThreads, common_in}
use Rattle.fl_cores.specs.Promised.{cores_by, Reports}
use Rattle.fl_cores.proofs.Booted.{all_making}
use Rattle.fl_core_refines.specs.AloneCalls.{CallRun, turned, is_finished, are_done, first_finished}
use Rattle.fl_cores.specs.Honesty.{RunsReportHonestly}
use Rattle.fl_cores.specs.OneCore.{begins, both_ends, ends_in, solo_for, span_in, comes_to, made_at as made_there, handled_at as handled_there, ending_of, report_of_one}
use Rattle.fl_cores.specs.OneCore.{RunsOfOneCore}
use Rattle.fl_cores.proofs.CoresCoreThreads.{on_boards}
use Rattle.fl_cores.proofs.OneBare.{no_rings, no_link_sides, one_of, none_in}
use Rattle.fl_cores.proofs.OneBegun.{rules_keep, none_sent, own_core, rules_are}
use Rattle.fl_cores.proofs.OneJoined as joined
use Rattle.fl_cores.proofs.OneRan.{IsAlone, not_told, one_ran}
use Rattle.fl_cores.proofs.OneReport.{told, same_report}
use Rattle.fl_cores.proofs.OneRules.{ShownWith, rules_shown}
use Rattle.fl_cores.proofs.OneSends.{Begun}
use Rattle.fl_cores.proofs.Requests.{none_requested}

either_false : (a b : Bool) → (a || b) ≡ false → (a ≡ false) × (b ≡ false)
either_false false b q = (refl, q)
either_false true b q = absurd (cc)

at_least : (n m : ℕ) → nat_lt n m ≡ false → m ≤ n
at_least n m q = grind (arith, nat_tests, q)

-- ---- nothing was made: no end, and so no turn

-- its thread, and what came of that
pub record Single (p : Parts) (j : TheJoinedJobs) (limit : ℕ) (r : TheReport) (at : Places) : Type 0 where
  pub core : TheCore
  pub core_thread : TheCoreThread
  pub outcome : TheFinishedCore
  pub is : IsCoreThread (common_in p j at) 0 core core_thread
  pub ran : RanTo j.jobs limit core_thread outcome
  pub tells : Tells j (outcome ∷ []) r

single : (p : Parts) (j : TheJoinedJobs) (limit : ℕ) (r : TheReport) (at : Places) (k : TheCore) (cores : List TheCore) (core_threads : List TheCoreThread)
    (outcomes : List TheFinishedCore) → cores ≡ k ∷ [] → AreCoreThreads (common_in p j at) 0 cores core_threads → AllZip (RanTo j.jobs limit) core_threads outcomes
    → Tells j outcomes r → Single p j limit r at
single p j limit r at k cores core_threads outcomes one begin ran tells =
    by core_threads outcomes (subst (λ ks. AreCoreThreads (common_in p j at) 0 ks core_threads) one begin) ran tells
  where
    by : (sts : List TheCoreThread) (os : List TheFinishedCore) → AreCoreThreads (common_in p j at) 0 (k ∷ []) sts → AllZip (RanTo j.jobs limit) sts os → Tells j os r
        → Single p j limit r at
    by [] os b e t = absurd b
    by (st ∷ st2 ∷ sts) os b e t = absurd b.1
    by (st ∷ []) [] b e t = absurd e
    by (st ∷ []) (o ∷ o2 ∷ os) b e t = absurd e.1
    by (st ∷ []) (o ∷ []) b e t = record { core = k; core_thread = st; outcome = o; is = b.0; ran = e.0; tells = t }

module _ (p : Parts) (j : TheJoinedJobs) (limit : ℕ) (r : TheReport) (at : Places) (h : Single p j limit r at) (none : j.bindings ≡ []) where
  abbrev t : RunTask
  t = task h.core_thread.plan j.jobs limit

  ends : h.core_thread.plan.ends.items ≡ []
  ends = h.is.ends ∙ ap (ends_from 0 0) none

  never_left : {P : Type 0} (m : RunMoment TheSide) (c : TheRunSeat) → TakesStock h.core_thread.plan m c false → P
  never_left m c takes =
      let done : is_finished_run m.run h.core_thread.plan.ends.items c.words ≡ true = ap (λ es. is_finished_run m.run es c.words) ends in
      let both : true ≡ false = sym done ∙ takes.1 in
      absurd (cc)

  no_turn : (n : ℕ) (a b : RunMoment TheSide) → Swept (λ k. CountedTurn shared_ways t) n a b → n ≡ 0
  no_turn zero a b u = refl
  no_turn (suc n) a b (m, before, step) = never_left m step.stock step.left

  pub no_turns : h.outcome.part.turns ≡ 0
  no_turns = no_turn h.outcome.part.turns (moment h.core_thread.run h.core_thread.run_seat) h.ran.counted.after h.ran.counted.turns

  ended : (end : RunEnd) (m : RunMoment TheSide) (c : TheRunSeat) → EndsAs t h.outcome.part.turns end m c → end ≢ Told → end ≡ Finished
  ended Finished m c u not = refl
  ended Unfinished m c u not = never_left m c u.1
  ended Told m c u not = absurd (not refl)

  pub finished : h.outcome.part.end ≡ Finished
  finished = ended h.outcome.part.end h.ran.counted.after h.ran.middle.run_seat h.ran.counted.ends (not_told h.outcome h.tells.none_told)

-- ---- one core

module _ (law : StepsAgree) (fresh : SetUpsStartFresh) (untouched : SetUpsTouchNothing) (honest : RunsReportHonestly) (c : TheConfig) (jobs : List Job) (limit : ℕ) (r : TheReport)
    (w : Reports c jobs limit r) (one_core : cores_by c ≡ 1) where
  abbrev j : TheJoinedJobs
  j = w.ran.ran.joined

  abbrev made : Parts
  made = w.ran.parts

  abbrev parts : Parts
  parts = w.ran.ran.parts

  abbrev world : TheWorld
  world = w.ran.made.world

  abbrev state : State
  state = begins c jobs

  are_parts : AreParts world made
  are_parts = w.ran.made.parts

  shown : Shows world (reached (start_with c.cores) c.setup)
  shown = w.ran.made.stands.1.shown

  making : list_all is_making c.setup ≡ true
  making = all_making c.setup w.accepted.making

  starts : StartsFresh world
  starts = fresh c.cores c.setup world making shown

  -- ---- behind the set-up

  count : length world.cores ≡ 1
  count = shown.showing.cores.count ∙ one_core

  sound_start : Sound (start_with c.cores)
  sound_start =
      let both = either_false (nat_lt c.cores 1) (nat_lt most_cores c.cores) w.accepted.cores in
      world_is_sound c.cores (at_least c.cores 1 both.0) (at_least most_cores c.cores both.1)

  bare_world : world.rings ≡ []
  bare_world =
      none_in world.rings (shown.showing.rings.count
      ∙ ap (λ rs. length rs) (no_rings c.setup (start_with c.cores) making sound_start (λ q. refl) one_core))

  -- ---- with the rules

  rules : RulesOf world.bindings jobs world.cores parts.cores.items
  rules =
      subst (λ bs. RulesOf bs jobs world.cores parts.cores.items) are_parts.bindings
      (subst (λ ks. RulesOf made.bindings.items jobs ks parts.cores.items) are_parts.cores w.ran.ran.rules)

  ruled : ShownWith world parts.cores.items state
  ruled = rules_shown jobs world (reached (start_with c.cores) c.setup) parts.cores.items shown rules

  one_made : length made.cores.items ≡ 1
  one_made = ap (λ ks. length ks) are_parts.cores ∙ count

  one_part : (k : TheCore) × (parts.cores.items ≡ k ∷ [])
  one_part = one_of parts.cores.items ((on_boards made.bindings.items jobs made.cores.items parts.cores.items w.ran.ran.rules).count ∙ one_made)

  no_links : one_part.0.link_sides ≡ []
  no_links =
      let was = (on_boards made.bindings.items jobs made.cores.items parts.cores.items w.ran.ran.rules).each 0 one_part.0
      (ap (λ ks. slice_get ks 0) one_part.1) in
      let (k, only) = one_of world.cores count in
      let same : was.core ≡ k
      = same_some (slice_get made.cores.items 0) was.core k was.core_is (ap (λ ks. slice_get ks 0) (are_parts.cores ∙ only)) in
      was.link_sides ∙ ap (λ (x : TheCore). x.link_sides) same ∙ no_link_sides world k only starts.links

  are_joined : AreJoined 1 jobs j
  are_joined = subst (λ n. AreJoined n jobs j) one_made w.ran.ran.are_joined

  -- no binding is asked for
  no_request : flat_map request_in jobs ≡ []
  no_request =
      none_requested made.names made.cores.items made.bindings.items jobs j w.ran.ran.are_joined w.ran.ran.are_bound w.ran.ran.are_requested one_made

  as_many : length j.bindings ≡ length state.bindings
  as_many =
      joined.many made.bindings.items jobs j are_joined w.ran.ran.are_bound w.ran.ran.are_due no_request
      ∙ ap (λ bs. length bs) (are_parts.bindings ∙ sym ruled.bindings) ∙ ruled.shows.showing.bindings.count

  -- ---- with what its ends begin

  world_core : (x : TheCore) × (world.cores ≡ x ∷ [])
  world_core = one_of world.cores count

  own_sound : IsCore one_part.0
  own_sound =
      let ran = w.ran.ran.ran in
      own_core (common_in parts j ran.places) one_part.0 ran.core_threads
      (subst (λ ks. AreCoreThreads (common_in parts j ran.places) 0 ks ran.core_threads) one_part.1 ran.begin) ran.sound.begin

  begun : (e : EndId) → e.binding < length j.bindings → Begun jobs state e
  begun e below =
      let many : length world.bindings ≡ length j.bindings
      = sym (as_many ∙ sym ruled.shows.showing.bindings.count ∙ ap (λ bs. length bs) ruled.bindings) in
      let there : e.binding < length world.bindings = omega (arith, below, many) in
      record {
        none = rules_keep jobs e (reached (start_with c.cores) c.setup)
            ∙ none_sent (reached (start_with c.cores) c.setup) e (untouched c.cores c.setup making);
        rules = rules_are world starts world_core.0 world_core.1 jobs parts.cores.items rules one_part.0 one_part.1 own_sound ruled.world state
            ruled.shows ruled.cores_are e there;
      }

  -- ---- where the number of cores stands

  alone : state.may_set_cores ≡ false → IsAlone parts j state
  alone stands = record {
    world = ruled.world;
    shows = ruled.shows;
    core = one_part.0;
    core_is = ruled.cores_are ∙ one_part.1;
    cores = one_part.1;
    queues = w.ran.ran.beside.queues ∙ are_parts.queues ∙ sym ruled.queues;
    rings = w.ran.ran.beside.rings ∙ are_parts.rings ∙ bare_world;
    no_rings = ruled.rings ∙ bare_world;
    no_links = no_links;
    stands = stands;
    bindings = are_joined.bindings;
    unopened = joined.unopened made.bindings.items jobs j are_joined w.ran.ran.are_bound w.ran.ran.are_due no_request;
  }

  by_turns : state.may_set_cores ≡ false → r ≡ report_of_one c jobs limit
  by_turns stands =
      let ran = w.ran.ran.ran in
      told jobs limit r state j made.bindings.items are_joined w.ran.ran.are_bound w.ran.ran.are_due no_request (honest c jobs limit r w) ruled.shows.sound stands
      as_many begun (one_ran law parts j limit r state (alone stands) ran.places ran.core_threads ran.outcomes ran.begin ran.ran ran.shares ran.sound ran.tells)

  -- ---- and where it may still be set: there is nothing

  nothing_left : (x : CallRun) → ends_in state ≡ [] → is_finished (span_in state) x ≡ true
  nothing_left x none = ap (λ es. are_done x es (length es)) none

  first_none : (n : ℕ) → ends_in state ≡ [] → first_finished (span_in state) (solo_for c jobs) 0 n ≡ 0
  first_none zero none = refl
  first_none (suc n) none =
      ap (λ b. if b then 0 else first_finished (span_in state) (solo_for c jobs) 1 n) (nothing_left (turned (span_in state) 0 (solo_for c jobs)) none)

  by_nothing : state.may_set_cores ≡ true → r ≡ report_of_one c jobs limit
  by_nothing may =
      let no_bindings : length state.bindings ≡ 0 = ap (λ bs. length bs) (ruled.shows.sound.bare may).bindings in
      let none : ends_in state ≡ [] = ap (λ n. flat_map both_ends (range_with_len 0 n)) no_bindings in
      let many : length j.bindings ≡ 0 = as_many ∙ no_bindings in
      let ran = w.ran.ran.ran in
      let h = single parts j limit r ran.places one_part.0 parts.cores.items ran.core_threads ran.outcomes one_part.1 ran.begin ran.ran ran.tells in
      let bindings = none_in j.bindings many in
      same_report r (report_of_one c jobs limit)
      (h.tells.made ∙ ap (λ n. map (both_at (made_at j (h.outcome ∷ []))) (range_with_len 0 n)) many
      ∙ sym (ap (λ n. map (both_at (made_there (comes_to c jobs limit))) (range_with_len 0 n)) no_bindings))
      (h.tells.handled ∙ ap (λ n. map (both_at (handled_at j (h.outcome ∷ []))) (range_with_len 0 n)) many
      ∙ sym (ap (λ n. map (both_at (handled_there (comes_to c jobs limit))) (range_with_len 0 n)) no_bindings))
      (h.tells.refused ∙ ap (λ n. map (refusal_at j (h.outcome ∷ [])) (range_with_len 0 n)) many
      ∙ sym (ap (λ n. map (λ k. None) (range_with_len 0 n)) no_bindings))
      (h.tells.turns ∙ ap (λ n. n ∷ []) (no_turns parts j limit r ran.places h bindings ∙ sym (first_none limit none)))
      (h.tells.ending ∙ ap (λ e. if is_unfinished e || false then turns_out else complete) (finished parts j limit r ran.places h bindings)
      ∙ sym (ap ending_of (nothing_left (comes_to c jobs limit) none)))

  pub report_is : r ≡ report_of_one c jobs limit
  report_is = by state.may_set_cores refl
    where
      by : (b : Bool) → state.may_set_cores ≡ b → r ≡ report_of_one c jobs limit
      by false q = by_turns q
      by true q = by_nothing q

pub of_one_core : StepsAgree → SetUpsStartFresh → SetUpsTouchNothing → RunsReportHonestly → RunsOfOneCore
of_one_core law fresh untouched honest c jobs limit r w one_core = report_is law fresh untouched honest c jobs limit r w one_core
