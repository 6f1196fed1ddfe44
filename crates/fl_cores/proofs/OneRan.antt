-- One core by itself behind a report: it begins with what the set-up and the rules come to, and its turns are the machine's.
use Rattle.std.proofs.Common.{◌≡◌, ◌≢◌, refl, sym, ◌∙◌, ap, subst, ℕ, ◌||◌, true, false, List, [], ◌∷◌, length, map, slice_get, Some, None}
use Rattle.std.specs.List.{list_any, AllZip}
use Rattle.fl_base.specs.Given.{given}
use Rattle.fl_ring.specs.SharedSides.{TheSide}
use Rattle.fl_core.specs.View.{TheCore}
use Rattle.fl_core.specs.Sound.{IsCore}
use Rattle.fl_core.specs.Numbers.{moved_link_side}
use Rattle.fl_model.specs.Monitors.{Core}
use Rattle.fl_model.specs.State.{State, core_of}
use Rattle.fl_cores_file.specs.Report.{TheReport}
use Rattle.fl_world_refines.specs.View.{TheWorld}
use Rattle.fl_world_refines.specs.ShowsState.{CoreShows, Shows, NamesQueue}
use Rattle.fl_world_refines.specs.Laws.{StepsAgree}
use Rattle.fl_world_refines.proofs.FramesBase.{gets}
use Rattle.fl_world_refines.specs.declared.parts.Parts.{Parts}
use Rattle.fl_core_run.specs.declared.run.RunEnd.{RunEnd}
use Rattle.fl_core_run.specs.declared.run.RunEnd.TheVariants.{Finished, Unfinished, Told}
use Rattle.fl_core_run.specs.Run.{TheRun}
use Rattle.fl_core_run.specs.Ran.{moment, task, GoesOn, is_told}
use Rattle.fl_cores_jobs.specs.declared.end_work.BindingCores.{BindingCores}
use Rattle.fl_cores_jobs.specs.Joined.{AreBindings}
use Rattle.fl_cores_jobs.specs.State.{TheJoinedJobs}
use Rattle.fl_cores_fork.specs.Runs.{TheFinishedCore, TheCoreThread, shared_ways, RanTo}
use Rattle.fl_cores_fork.specs.Tells.{was_told, Tells}
use Rattle.fl_cores_parts.specs.Begins.{Places, ends_from, progresses_of, IsCoreThread, AreCoreThreads, common_in}
use Rattle.fl_cores_parts.specs.Shares.{AreOwners, AreShared, Shares, AreSound}
use Rattle.fl_core_refines.specs.AloneTurns.{MachineRun, MachineTask, turned, is_finished, counted, ran}
use Rattle.fl_core_refines.specs.AloneShown.{progress_of, work_of, alone_with, ShowsAlone, HasFew, AreSilent}
use Rattle.fl_core_refines.specs.AloneLaws.{end_of, RanAsMachine}
use Rattle.fl_core_refines.proofs.Counting.{counts_are}
use Rattle.fl_core_refines.proofs.Handing.{handed_show}
use Rattle.fl_core_refines.proofs.Rounds.{rounds_are}
use Rattle.fl_cores.proofs.OneBegin.{are_handed, no_sides, are_silent, has_few}

-- ---- with what it begins

-- with this state, and the ends' progress of the jobs that were joined
abbrev pub begins_with : TheJoinedJobs → State → MachineRun
begins_with j s = record { state = s; progresses = map progress_of (progresses_of 0 j) }

abbrev pub work_in : TheJoinedJobs → State → MachineTask
work_in j s = record {
  ends = ends_from 0 0 j.bindings;
  dispatchers = given (core_of s 0) 0 λ (k : Core). length k.dispatchers;
  jobs = j.jobs;
}

-- these parts have one core, without links and rings; a world with them shows the state, whose number of cores stands; and no job opens a binding
pub record IsAlone (p : Parts) (j : TheJoinedJobs) (s : State) : Type 0 where
  pub world : TheWorld
  pub shows : Shows world s
  pub core : TheCore
  pub core_is : world.cores ≡ core ∷ []
  pub cores : p.cores.items ≡ core ∷ []
  pub queues : p.queues.items ≡ world.queues
  pub rings : p.rings.items ≡ []
  pub no_rings : world.rings ≡ []
  pub no_links : core.link_sides ≡ []
  pub stands : s.may_set_cores ≡ false
  pub bindings : AreBindings 1 j.bindings j.owners
  pub unopened : (n : ℕ) (b : BindingCores) → slice_get j.bindings n ≡ Some b → b.opened ≡ None

module _ (p : Parts) (j : TheJoinedJobs) (s : State) (x : IsAlone p j s) (st : TheCoreThread) (at : Places)
    (is : IsCoreThread (common_in p j at) 0 x.core st) (sound : IsCore st.run.core) (rings : st.run.rings ≡ [])
    (owners : List ℕ) (named : AreOwners (x.core ∷ []) NamesQueue (length x.world.queues) owners)
    (shared : AreShared owners x.world.queues at.queues (st.run.queues ∷ [])) where
  there : slice_get x.world.cores 0 ≡ Some x.core
  there = ap (λ cs. slice_get cs 0) x.core_is

  pub core_thread_shows : ShowsAlone x.world st.run (begins_with j s)
  core_thread_shows = record {
    core = sound;
    shows = subst (λ (k : TheCore). Shows (alone_with x.world k st.run.queues) s) (sym is.core_is)
        (handed_show x.world x.core at.sides at.queues st.run.queues s x.shows x.core_is x.no_rings x.no_links x.stands
        (are_handed x.world s x.core owners at.queues st.run.queues x.shows there named shared));
    no_rings = rings;
    no_links = ap (λ (k : TheCore). k.link_sides) is.core_is ∙ ap (map (moved_link_side at.sides)) x.no_links;
    progresses = sym (ap (map progress_of) is.progresses);
  }

  dispatchers_are : st.plan.dispatchers ≡ given (core_of s 0) 0 (λ (k : Core). length k.dispatchers)
  dispatchers_are =
      let k = gets x.world.cores s.cores 0 x.core (sym x.shows.showing.cores.count) there in
      let shows : CoreShows k.0 x.core = x.shows.showing.cores.each 0 k.0 x.core k.1 there in
      is.dispatchers ∙ shows.count ∙ sym (ap (λ o. given o 0 (λ (c : Core). length c.dispatchers)) k.1)

  pub work_is : work_of st.plan j.jobs ≡ work_in j s
  work_is =
      ap (λ ends. record (work_of st.plan j.jobs) { ends = ends }) is.ends
      ∙ ap (λ n. record (work_in j s) { dispatchers = n }) dispatchers_are

  pub few : HasFew st.plan.ends.items
  few = subst HasFew (sym is.ends) (has_few 0 j.bindings x.bindings.few)

  pub silent : AreSilent st.plan.ends.items st.run_seat.words
  silent =
      subst (λ ends. AreSilent ends st.run_seat.words) (sym is.ends)
      (subst (λ words. AreSilent (ends_from 0 0 j.bindings) words) (sym is.words) (are_silent 0 0 j.bindings x.unopened))

-- ---- what comes of it

-- as many turns as are counted; it ended by whether anything was left; and its ends' progress are what these come to, or some turns more where nothing was
pub record Went (j : TheJoinedJobs) (limit : ℕ) (s : State) (o : TheFinishedCore) (work : MachineTask) : Type 0 where
  pub turns : o.part.turns ≡ counted work limit (begins_with j s)
  pub end : o.part.end ≡ end_of (is_finished work (ran work limit (begins_with j s)))
  pub more : ℕ
  pub none_more : is_finished work (ran work limit (begins_with j s)) ≡ false → more ≡ 0
  pub progresses : MachineRun.progresses (turned work more (ran work limit (begins_with j s))) ≡ map progress_of o.run.progresses
  -- the core shows what these come to, as a world of its own; and so it did when its turns were counted
  pub world : TheWorld
  pub shows : ShowsAlone world o.run (turned work more (ran work limit (begins_with j s)))
  pub point : TheRun TheSide
  pub shown : ShowsAlone world point (ran work limit (begins_with j s))

pub not_told : (o : TheFinishedCore) → list_any was_told (o ∷ []) ≡ false → o.part.end ≢ Told
not_told o none q =
    let told : list_any was_told (o ∷ []) ≡ true = ap (λ e. is_told e || false) q in
    let both : true ≡ false = sym told ∙ none in
    absurd (cc)

went_on : (law : StepsAgree) (w : TheWorld) (j : TheJoinedJobs) (limit : ℕ) (s : State) (st : TheCoreThread) (o : TheFinishedCore) (m : TheRun TheSide)
    → RanAsMachine w (task st.plan j.jobs limit) (begins_with j s) o.part m → (end : RunEnd) → o.part.end ≡ end
    → GoesOn shared_ways (task st.plan j.jobs limit) end m o.run → end ≢ Told → Went j limit s o (work_of st.plan j.jobs)
went_on law w j limit s st o m one Finished is (more, turns) told = record {
  turns = one.turns;
  end = one.end;
  more = more;
  none_more = λ left.
      let both : Finished ≡ Unfinished = sym is ∙ one.end ∙ ap end_of left in
      absurd (cc);
  progresses = (rounds_are shared_ways law w st.plan j.jobs more m o.run (ran (work_of st.plan j.jobs) limit (begins_with j s)) one.shows turns).progresses;
  world = w;
  shows = rounds_are shared_ways law w st.plan j.jobs more m o.run (ran (work_of st.plan j.jobs) limit (begins_with j s)) one.shows turns;
  point = m;
  shown = one.shows;
}
went_on law w j limit s st o m one Unfinished is same told = record {
  turns = one.turns;
  end = one.end;
  more = 0;
  none_more = λ left. refl;
  progresses = one.shows.progresses ∙ ap (λ (r : TheRun TheSide). map progress_of r.progresses) (sym same);
  world = w;
  shows = subst (λ (r : TheRun TheSide). ShowsAlone w r (ran (work_of st.plan j.jobs) limit (begins_with j s))) (sym same) one.shows;
  point = m;
  shown = one.shows;
}
went_on law w j limit s st o m one Told is same told = absurd (told refl)

went_by : (law : StepsAgree) (w : TheWorld) (j : TheJoinedJobs) (limit : ℕ) (s : State) (r : TheReport) (st : TheCoreThread) (o : TheFinishedCore)
    → ShowsAlone w st.run (begins_with j s) → work_of st.plan j.jobs ≡ work_in j s → HasFew st.plan.ends.items
    → AreSilent st.plan.ends.items st.run_seat.words → RanTo j.jobs limit st o → Tells j (o ∷ []) r → Went j limit s o (work_in j s)
went_by law w j limit s r st o shows work few silent run tells =
    let told = not_told o tells.none_told in
    let one = counts_are shared_ways law w (task st.plan j.jobs limit) (moment st.run st.run_seat) run.middle o.part (begins_with j s) shows few silent told
    run.counted in
    subst (Went j limit s o) work (went_on law w j limit s st o run.middle.run one o.part.end refl run.goes_on told)

-- ---- the whole

pub record OneRan (j : TheJoinedJobs) (limit : ℕ) (r : TheReport) (s : State) : Type 0 where
  pub outcome : TheFinishedCore
  pub went : Went j limit s outcome (work_in j s)
  pub tells : Tells j (outcome ∷ []) r

pub one_ran : (law : StepsAgree) (p : Parts) (j : TheJoinedJobs) (limit : ℕ) (r : TheReport) (s : State) (x : IsAlone p j s) (at : Places)
    (core_threads : List TheCoreThread) (outcomes : List TheFinishedCore) → AreCoreThreads (common_in p j at) 0 p.cores.items core_threads
    → AllZip (RanTo j.jobs limit) core_threads outcomes → Shares p at core_threads outcomes → AreSound core_threads outcomes → Tells j outcomes r → OneRan j limit r s
one_ran law p j limit r s x at core_threads outcomes begin ran shares sound tells =
    by core_threads outcomes (subst (λ ks. AreCoreThreads (common_in p j at) 0 ks core_threads) x.cores begin) ran shares sound tells
  where
    by : (sts : List TheCoreThread) (os : List TheFinishedCore) → AreCoreThreads (common_in p j at) 0 (x.core ∷ []) sts → AllZip (RanTo j.jobs limit) sts os
        → Shares p at sts os → AreSound sts os → Tells j os r → OneRan j limit r s
    by [] os b e h k t = absurd b
    by (st ∷ st2 ∷ sts) os b e h k t = absurd b.1
    by (st ∷ []) [] b e h k t = absurd e
    by (st ∷ []) (o ∷ o2 ∷ os) b e h k t = absurd e.1
    by (st ∷ []) (o ∷ []) b e h k t =
        let none = no_sides p.rings.items h.pairs h.side_owners at.sides st.run.rings h.new x.rings h.sides in
        let named : AreOwners (x.core ∷ []) NamesQueue (length x.world.queues) h.queue_owners
        = subst (λ ks. AreOwners ks NamesQueue (length x.world.queues) h.queue_owners) x.cores
        (subst (λ qs. AreOwners p.cores.items NamesQueue (length qs) h.queue_owners) x.queues h.queues_named) in
        let shared : AreShared h.queue_owners x.world.queues at.queues (st.run.queues ∷ [])
        = subst (λ qs. AreShared h.queue_owners qs at.queues (st.run.queues ∷ [])) x.queues h.queues in
        let core = k.begin 0 st refl in
        record {
          outcome = o;
          went = went_by law x.world j limit s r st o
              (core_thread_shows p j s x st at b.0 core none h.queue_owners named shared)
              (work_is p j s x st at b.0 core none h.queue_owners named shared)
              (few p j s x st at b.0 core none h.queue_owners named shared)
              (silent p j s x st at b.0 core none h.queue_owners named shared) e.0 t;
          tells = t;
        }
