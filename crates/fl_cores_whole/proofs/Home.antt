-- An end that a core has in the end is its own, so no other core handles a call there.
use Rattle.std.proofs.Common.{◌≡◌, ◌≢◌, ◌⊎◌, inl, inr, refl, sym, ◌∙◌, ap, subst, ℕ, zero, suc, ◌≤◌, ◌==◌, Bool, true, false, if◌then◌else◌, List, [], ◌∷◌, ◌++◌, length, map, slice_get, Option, Some, None, arith}
use Rattle.std.proofs.lemmas.Bool.{eqb-true}
use Rattle.fl_base.specs.declared.identity.EndId.{EndId}
use Rattle.fl_base.specs.declared.identity.Side.{Side}
use Rattle.fl_base.specs.declared.identity.Side.TheVariants.{Client, Server}
use Rattle.fl_base.specs.Given.{given}
use Rattle.fl_value_data.specs.Value.{TheCall, call_of}
use Rattle.fl_value_data.specs.declared.value.Call.{Call}
use Rattle.fl_hop.proofs.Lists.{at_within, within}
use Rattle.fl_hop.specs.Stretch.{same_end}
use Rattle.fl_compile.specs.Programs.{program_of}
use Rattle.fl_ring.specs.SharedSides.{TheSide}
use Rattle.fl_core.specs.BoardView.{TheEndAtChannel}
use Rattle.fl_core.specs.Sound.{IsCore}
use Rattle.fl_core.specs.View.{TheCore, place_of, client_of, server_of}
use Rattle.fl_core.specs.declared.core_job.CoreJob.{CoreJob}
use Rattle.fl_core.specs.declared.core_job.CoreJob.TheVariants as job
use Rattle.fl_core.specs.declared.core_job.OpenRequest.{OpenRequest}
use Rattle.fl_core.specs.declared.turn_answer.TurnAnswer.{TurnAnswer}
use Rattle.fl_core.proofs.HasWiredEnd.{placed_below}
use Rattle.fl_core_run.specs.LogEntries.{LogEntry, turned}
use Rattle.fl_core_run.specs.Run.{TheRun}
use Rattle.fl_core_run_laws.specs.Led.{LeadsAtFirst}
use Rattle.fl_core_run_laws.specs.Logs.{call_in, handled_at, Goes}
use Rattle.fl_core_run_laws.proofs.CircuitsMade.{places_to}
use Rattle.fl_core_run_laws.proofs.Handling.{one_end}
use Rattle.fl_core_refines.specs.SetUpStart.{SetUpsStartFresh}
use Rattle.fl_core_turned.specs.TurnEvents.{Event, event, log_of}
use Rattle.fl_core_turned.specs.Turned.{shared_ways}
use Rattle.fl_cores_file.specs.Jobs.{Job}
use Rattle.fl_cores_file.specs.Report.{TheReport, at_end}
use Rattle.fl_cores_fork.specs.Runs.{TheCoreThread, TheFinishedCore}
use Rattle.fl_cores_jobs.specs.declared.end_work.BindingCores.{BindingCores}
use Rattle.fl_cores_jobs.specs.Joined.{core_of, core_at}
use Rattle.fl_cores_jobs.specs.State.{TheJoinedJobs}
use Rattle.fl_cores_jobs.specs.Whole.{bound_of}
use Rattle.fl_cores_laws.specs.Asked.{IsOwnJob, AreStaffed, EndsAreAtHome, ServersAreRequested, ClientsAreRequested}
use Rattle.fl_cores_laws.specs.Cores.{OneCore, CoresGo}
use Rattle.fl_cores_laws.specs.Runs.{AreSetUp}
use Rattle.fl_cores_laws.specs.Whole.{HasOwn}
use Rattle.fl_model.specs.Runs.{calls_handled}
use Rattle.fl_world.specs.Booting.{TheConfig}
use Rattle.fl_world_refines.specs.declared.binding.Binding.{Binding}
use Rattle.fl_world_refines.specs.View.{core_in}
use Rattle.fl_world_refines.proofs.FramesBase.{same_some}
use Rattle.fl_cores.specs.Behind.{joined_in}
use Rattle.fl_cores.specs.Outcomes.{ReportsAreOfRuns}
use Rattle.fl_cores.specs.Promised.{Reports}
use Rattle.fl_cores.specs.Runs.{AreRuns}
use Rattle.fl_cores.proofs.Booted.{all_making}
use Rattle.fl_cores.proofs.FollowsBegin.{core_thread, was}
use Rattle.fl_cores.proofs.FollowsTells.{all_beside}
use Rattle.fl_cores.proofs.Runs.{all_runs, as_many, run_at}
use Rattle.fl_cores.proofs.SidesCross.{SideLaws}
use Rattle.fl_cores.proofs.Whole.{set_up}
use Rattle.fl_cores_joined.specs.Joined.{JoinedCore, alone}
use Rattle.fl_cores_joined.specs.Steps.{Moment, does, forwards, Interleaves}
use Rattle.fl_cores_joined.specs.Runs.{asked_in}
use Rattle.fl_cores_joined.proofs.Joining.{long_set}
use Rattle.fl_cores_whole.specs.Begin.{owners_in}
use Rattle.fl_cores_whole.specs.Whole.{begun, events_at}
use Rattle.fl_cores_whole.proofs.Begin.{joined_long, zip_long}
use Rattle.fl_cores_whole.proofs.Told.{of_all, OwnLogs, own_calls_are_told}

-- what is known of ends that are made in a run
pub record HomeLaws : Type 0 where
  pub fresh : SetUpsStartFresh
  pub leads : LeadsAtFirst
  pub go : CoresGo
  pub sides : SideLaws
  pub servers : ServersAreRequested
  pub clients : ClientsAreRequested
  pub home : EndsAreAtHome

-- ---- an end that never comes to a core handles nothing there

module _ (jobs : List CoreJob) (e : EndId) where
  if_other : (b : Bool) (answer : TurnAnswer) → b ≡ false → (if b then call_in answer else []) ≡ []
  if_other true answer is = absurd (cc)
  if_other false answer is = refl

  nowhere : (log : List LogEntry) (s t : TheRun TheSide) → Goes shared_ways jobs s log t → ((place : ℕ) → place_of t.core e ≡ Some place → ⊥)
      → handled_at e log ≡ []
  nowhere [] s t h none = refl
  nowhere (turned d name from answer ∷ log) s t h none =
      ap (λ (l : List Call). l ++ handled_at e log) (by (same_end name e) refl) ∙ nowhere log h.0 t h.3 none
    where
      by : (b : Bool) → same_end name e ≡ b → (if same_end name e then call_in answer else []) ≡ []
      by true is =
          let same : name ≡ e = one_end name e is in
          let here : place_of s.core e ≡ Some h.2.0.end = ap (place_of s.core) (sym same) ∙ h.2.2 in
          absurd (none h.2.0.end (places_to shared_ways jobs e (turned d name from answer ∷ log) s t h.2.0.end h here))
      by false is = if_other (same_end name e) answer is
  nowhere (log_entry ∷ log) s t h none = nowhere log h.0 t h.3 none

-- ---- a core that isn't there does nothing

not_same : (m n : ℕ) → m ≢ n → (m == n) ≡ false
not_same m n other = by (m == n) refl
  where
    by : (b : Bool) → (m == n) ≡ b → (m == n) ≡ false
    by true q = absurd (other (eqb-true m n q))
    by false q = q

past : (n : ℕ) (jobs : List CoreJob) (moments : List Moment) (xs ys : List JoinedCore) (h : Interleaves jobs xs moments ys) → length xs ≤ n
    → events_at n jobs xs moments ys h ≡ []
past n jobs [] xs ys h beyond = refl
past n jobs (does m log_entry ∷ moments) xs ys h beyond =
    let long : length h.0 ≡ length xs = ap length h.1.1.rest ∙ long_set xs m (record h.1.1.before { run = alone h.1.1.after }) in
    let less = within xs m h.1.1.before h.1.1.before_is in
    let other : (m == n) ≡ false = not_same m n (λ e. omega (arith, less, beyond, e)) in
    ap (λ (b : Bool). (if b then event log_entry (alone h.1.1.after) ∷ [] else []) ++ events_at n jobs h.0 moments ys h.2) other
    ∙ past n jobs moments h.0 ys h.2 (omega (arith, long, beyond))
past n jobs (forwards m look follows ∷ moments) xs ys h beyond =
    let first : length h.1.1.0 ≡ length xs = ap length h.1.1.1.rest ∙ long_set xs m (record h.1.1.1.before { run = alone h.1.1.1.after }) in
    let second : length h.0 ≡ length h.1.1.0 = ap length h.1.1.2.rest ∙ long_set h.1.1.0 m (record h.1.1.2.before { run = alone h.1.1.2.after }) in
    let less = within xs m h.1.1.1.before h.1.1.1.before_is in
    let other : (m == n) ≡ false = not_same m n (λ e. omega (arith, less, beyond, e)) in
    ap (λ (b : Bool). (if b then event look (alone h.1.1.1.after) ∷ event follows (alone h.1.1.2.after) ∷ [] else [])
    ++ events_at n jobs h.0 moments ys h.2) other
    ∙ past n jobs moments h.0 ys h.2 (omega (arith, first, second, beyond))

-- ---- whose an end is

same_home : (side : Side) (b : Binding) → core_of side (bound_of b) ≡ core_in side b
same_home Client b = refl
same_home Server b = refl

abbrev an_end : ℕ → Side → EndId
an_end n side = record { binding = n; side = side }

-- a job asks for a circuit of this binding
record Requested (j : TheJoinedJobs) (binding : ℕ) : Type 0 where
  place : ℕ
  request : OpenRequest
  job_is : slice_get j.jobs place ≡ Some (job.Open request)
  binding_is : request.opening.binding ≡ binding

-- a job of an end's progress is one of its end's work
own_job : (j : TheJoinedJobs) (n : ℕ) (e : EndId) (jobs : List ℕ) (turn k : ℕ) → slice_get jobs turn ≡ Some k
    → (jobs ≡ []) ⊎ HasOwn j n e jobs → IsOwnJob j n e k
own_job j n e jobs turn k at (inl none) = absurd (let clash : None ≡ Some k = sym (ap (λ (xs : List ℕ). slice_get xs turn) none) ∙ at in cc)
own_job j n e jobs turn k at (inr own) = record {
  turn = turn;
  job_is = sym (ap (λ (xs : List ℕ). slice_get xs turn) own.jobs_are) ∙ at;
  bound = own.bound;
  bound_is = own.bound_is;
  core_is = own.core_is;
}

module _ (l : HomeLaws) (c : TheConfig) (jobs : List Job) (limit : ℕ) (r : TheReport) (w : Reports c jobs limit r) where
  abbrev j : TheJoinedJobs
  j = joined_in w

  abbrev threads : List TheCoreThread
  threads = w.ran.ran.ran.core_threads

  abbrev outcomes : List TheFinishedCore
  outcomes = w.ran.ran.ran.outcomes

  runs : (cores : List OneCore) × AreRuns j.jobs threads outcomes cores
  runs = all_runs l.go j.jobs limit threads outcomes w.ran.ran.ran.ran

  abbrev cores : List OneCore
  cores = runs.0

  s : AreSetUp jobs j cores w.ran.parts.names (map program_of w.ran.parts.programs.items)
  s = set_up l.fresh c jobs limit r w cores runs.1 l.sides l.leads

  are_staffed : AreStaffed j cores w.ran.parts.names (map program_of w.ran.parts.programs.items)
  are_staffed = record {
    beside = all_beside jobs j cores w.ran.parts.names (map program_of w.ran.parts.programs.items) s;
    numbered = s.numbered;
    named = s.named;
    programmed = s.programmed;
    requests = s.requests;
    progresses = λ n core e progress turn k is progress_is at. own_job j n e progress.jobs turn k at (s.own n core e progress is progress_is);
  }

  module _ (m : ℕ) (t : TheCoreThread) (o : TheFinishedCore) (t_is : slice_get threads m ≡ Some t) (o_is : slice_get outcomes m ≡ Some o) where
    record Ran : Type 0 where
      core : OneCore
      core_is : slice_get cores m ≡ Some core
      start : core.start ≡ t.run
      finish : core.finish ≡ o.run

    ran : Ran
    ran =
        let below = within threads m t t_is in
        let many = as_many j.jobs threads outcomes cores runs.1 in
        let one = at_within cores m (omega (arith, below, many)) in
        let it = run_at j.jobs threads outcomes cores runs.1 m one.0 one.1 in
        record {
          core = one.0;
          core_is = one.1;
          start = it.is.start ∙ ap (λ (y : TheCoreThread). y.run) (same_some (slice_get threads m) it.core_thread t it.core_thread_is t_is);
          finish = it.is.finish ∙ ap (λ (y : TheFinishedCore). y.run) (same_some (slice_get outcomes m) it.outcome o it.outcome_is o_is);
        }

    sound_last : IsCore o.run.core
    sound_last = (w.ran.ran.ran.sound.left m o o_is).core

    module _ (e : EndId) (place : ℕ) (here : place_of o.run.core e ≡ Some place) where
      -- it stood there as the run began
      stood : (first : ℕ) → place_of t.run.core e ≡ Some first → core_at j.bindings e ≡ Some m
      stood first at =
          let old = was l.fresh c jobs limit r w m t t_is in
          let there : place_of old.core e ≡ Some first
          = sym (ap (λ (y : TheCore). place_of y e) old.ruled.rest)
          ∙ sym (ap (λ (y : TheCore). place_of y e) (core_thread l.fresh c jobs limit r w m t t_is).core_thread.core_is) ∙ at in
          let starts = l.fresh c.cores c.setup w.ran.made.world (all_making c.setup w.accepted.making) w.ran.made.stands.1.shown in
          let y = starts.bindings m first old.core e old.core_is there in
          let y_is : slice_get j.bindings e.binding ≡ Some (bound_of y.0)
          = w.ran.ran.are_bound.first e.binding y.0 (ap (λ (bs : List Binding). slice_get bs e.binding) w.ran.made.parts.bindings ∙ y.1) in
          ap (λ (b : Option BindingCores). given b None (λ (x : BindingCores). Some (core_of e.side x))) y_is
          ∙ ap (λ (n : ℕ). Some n) (same_home e.side y.0 ∙ y.2)

      -- it was made in the run
      module _ (absent : place_of t.run.core e ≡ None) where
        seat : (seat : TheEndAtChannel) × (slice_get ran.core.finish.core.board.seats place ≡ Some seat)
        seat =
            let it = at_within o.run.core.board.seats place (placed_below o.run.core e place sound_last here) in
            (it.0, ap (λ (u : TheRun TheSide). slice_get u.core.board.seats place) ran.finish ∙ it.1)

        absent_first : place_of ran.core.start.core e ≡ None
        absent_first = ap (λ (u : TheRun TheSide). place_of u.core e) ran.start ∙ absent

        here_last : place_of ran.core.finish.core e ≡ Some place
        here_last = ap (λ (u : TheRun TheSide). place_of u.core e) ran.finish ∙ here

        requested : (side : Side) → e.side ≡ side → Requested j e.binding
        requested Server q =
            let name : e ≡ server_of e.binding = ap (an_end e.binding) q in
            let y = l.servers j.jobs cores are_staffed.beside m ran.core ran.core_is e.binding place seat.0
            (subst (λ (f : EndId). place_of ran.core.start.core f ≡ None) name absent_first)
            (subst (λ (f : EndId). place_of ran.core.finish.core f ≡ Some place) name here_last) seat.1 in
            record { place = y.place; request = y.request; job_is = y.job_is; binding_is = y.binding_is }
        requested Client q =
            let name : e ≡ client_of e.binding = ap (an_end e.binding) q in
            let unused = are_staffed.beside.unused m ran.core ran.core_is in
            let y = (l.clients j.jobs ran.core (s.wired.leading m ran.core ran.core_is) unused e.binding place seat.0
            (subst (λ (f : EndId). place_of ran.core.start.core f ≡ None) name absent_first)
            (subst (λ (f : EndId). place_of ran.core.finish.core f ≡ Some place) name here_last) seat.1).2 in
            record { place = y.place; request = y.request; job_is = y.job_is; binding_is = sym (ap (λ (f : EndId). f.binding) y.name_is) }

        bound : (b : BindingCores) × (slice_get j.bindings e.binding ≡ Some b)
        bound =
            let asked = requested e.side refl in
            let below = w.ran.ran.are_joined.there asked.place (job.Open asked.request) asked.job_is in
            let same = asked.binding_is in
            at_within j.bindings e.binding (omega (arith, below, same))

        made : core_at j.bindings e ≡ Some m
        made =
            let home = l.home jobs j cores w.ran.parts.names (map program_of w.ran.parts.programs.items) s.joined are_staffed e bound.0 m ran.core seat.0
            bound.1 ran.core_is (record { absent = absent_first; place = place; place_is = here_last; seat_is = seat.1 }) in
            ap (λ (b : Option BindingCores). given b None (λ (x : BindingCores). Some (core_of e.side x))) bound.1 ∙ ap (λ (n : ℕ). Some n) home.core_is

      at_home : core_at j.bindings e ≡ Some m
      at_home = by (place_of t.run.core e) refl
        where
          by : (was_at : Option ℕ) → place_of t.run.core e ≡ was_at → core_at j.bindings e ≡ Some m
          by None absent = made absent
          by (Some first) at = stood first at

  -- ---- in an order of all turns

  module _ (moments : List Moment) (ys : List JoinedCore) (h : Interleaves j.jobs (begun w) moments ys) (own_logs : OwnLogs w moments ys h)
      (e : EndId) where
    abbrev handled : ℕ → List TheCall
    handled m = map call_of (handled_at e (log_of (events_at m j.jobs (begun w) moments ys h)))

    none_by : (m : ℕ) → core_at j.bindings e ≢ Some m → handled m ≡ []
    none_by m other = by (slice_get threads m) refl
      where
        by : (o : Option TheCoreThread) → slice_get threads m ≡ o → handled m ≡ []
        by None none =
            let many = joined_long (owners_in w.ran.ran.ran.shares) 0 threads in
            let beyond = not_there threads m none in
            ap (λ (events : List (Event TheSide)). map call_of (handled_at e (log_of events)))
            (past m j.jobs moments (begun w) ys h (omega (arith, many, beyond)))
          where
            not_there : (xs : List TheCoreThread) (i : ℕ) → slice_get xs i ≡ None → length xs ≤ i
            not_there [] i q = omega arith
            not_there (x ∷ xs) zero q = absurd (cc)
            not_there (x ∷ xs) (suc i) q = let less = not_there xs i q in omega (arith, less)
        by (Some t) t_is =
            let below = within threads m t t_is in
            let count = zip_long j.jobs limit threads outcomes w.ran.ran.ran.ran in
            let (o, o_is) = at_within outcomes m (omega (arith, below, count)) in
            let its = own_logs m t o t_is o_is in
            ap (λ (log : List LogEntry). map call_of (handled_at e log)) its.log_is
            ∙ ap (map call_of) (nowhere j.jobs e its.log t.run o.run its.goes (λ place here. other (at_home m t o t_is o_is e place here)))

    pub told : ReportsAreOfRuns → calls_handled e (asked_in j.jobs (begun w) moments ys h) ≡ at_end r.handled e
    told are = by (slice_get j.bindings e.binding) refl
      where
        by : (o : Option BindingCores) → slice_get j.bindings e.binding ≡ o → calls_handled e (asked_in j.jobs (begun w) moments ys h) ≡ at_end r.handled e
        by None none =
            let no_core = λ (m : ℕ) (own : core_at j.bindings e ≡ Some m).
            no_such m (sym (ap (λ (b : Option BindingCores). given b None (λ (x : BindingCores). Some (core_of e.side x))) none) ∙ own) in
            of_all e 0 j.jobs moments (begun w) ys h (λ m other. none_by m (no_core m)) ∙ none_by 0 (no_core 0)
            ∙ sym ((are c jobs limit r w).progresses.no_more e none)
          where
            no_such : (m : ℕ) → None ≡ Some m → ⊥
            no_such m q = absurd (cc)
        by (Some b) is =
            let n = core_of e.side b in
            let own : core_at j.bindings e ≡ Some n = ap (λ (x : Option BindingCores). given x None (λ (y : BindingCores). Some (core_of e.side y))) is in
            of_all e n j.jobs moments (begun w) ys h (λ m other. none_by m (λ at. other (same_some (core_at j.bindings e) m n at own)))
            ∙ own_calls_are_told are c jobs limit r w moments ys h own_logs n e own
