-- What a report tells of each end of each core's cut is what the machine's end accepted, and what came there: of the set-up's, and of those that jobs opened.
use Rattle.std.proofs.Common.{◌≡◌, ◌⊎◌, inl, inr, refl, sym, ◌∙◌, ap, subst, ℕ, List, [], map, slice_get, Option, Some, None, arith}
use Rattle.fl_base.specs.declared.identity.EndId.{EndId}
use Rattle.fl_base.specs.declared.identity.Side.{Side}
use Rattle.fl_base.specs.declared.identity.Side.TheVariants.{Client, Server}
use Rattle.fl_compile.specs.Programs.{TheProgram, program_of}
use Rattle.fl_hop.proofs.Lists.{at_within, within}
use Rattle.fl_nameserv.specs.Registrations.{TheRegistration}
use Rattle.fl_ring.specs.SharedSides.{TheSide}
use Rattle.fl_core.specs.BoardView.{TheEndAtChannel}
use Rattle.fl_core.specs.declared.core_job.CoreJob.TheVariants as job
use Rattle.fl_core.specs.declared.core_job.OpenRequest.{OpenRequest}
use Rattle.fl_core.specs.Sound.{IsCore}
use Rattle.fl_core.specs.View.{TheCore, place_in, place_of, client_of, server_of}
use Rattle.fl_core_run.specs.EndProgress.{TheEndProgress}
use Rattle.fl_core_run.specs.Run.{TheRun}
use Rattle.fl_core_run_laws.specs.Flows.{IsApart}
use Rattle.fl_core_run_laws.specs.Led.{LeadsAtFirst}
use Rattle.fl_model.specs.Monitors.{Service, Core}
use Rattle.fl_cores_file.specs.Jobs.{Job}
use Rattle.fl_cores_file.specs.Report.{TheReport, at_end}
use Rattle.fl_cores_jobs.specs.declared.end_work.BindingCores.{BindingCores}
use Rattle.fl_cores_jobs.specs.EndWork.{end_work_at}
use Rattle.fl_cores_jobs.specs.Joined.{core_of}
use Rattle.fl_cores_jobs.specs.State.{TheJoinedJobs}
use Rattle.fl_cores_jobs.specs.Whole.{bound_of}
use Rattle.fl_world.specs.Booting.{TheConfig}
use Rattle.fl_world_refines.specs.declared.binding.Binding.{Binding}
use Rattle.fl_world_refines.specs.View.{core_in}
use Rattle.fl_core_refines.specs.CutEnds.{EndCut}
use Rattle.fl_core_refines.specs.Cut.{ShowsSeat, CoreCut, ShowsCut}
use Rattle.fl_core_refines.specs.CutStart.{first_cut}
use Rattle.fl_core_refines.specs.SetUpStart.{SetUpsStartFresh}
use Rattle.fl_core_turned.specs.TurnEvents.{Event, log_of}
use Rattle.fl_core_turned.specs.Turned.{CutMoment, moment, AllFollow}
use Rattle.fl_cores_laws.specs.Asked.{AreBeside, IsOwnJob, AreStaffed, IsAtHome, EndsAreAtHome, ServersAreRequested, ClientsAreRequested}
use Rattle.fl_cores_laws.specs.Circuits.{Leading}
use Rattle.fl_cores_laws.specs.Cores.{OneCore, Went, CoresGo}
use Rattle.fl_cores_laws.specs.Ends.{HasProgress}
use Rattle.fl_cores_laws.specs.Runs.{AreSetUp}
use Rattle.fl_cores_laws.specs.Stands.{IsPlanned, PlannedEndsStand}
use Rattle.fl_cores_laws.specs.Told.{handled_by, made_by, IsOf}
use Rattle.fl_cores_laws.specs.Unbound.{LooseEndsRest}
use Rattle.fl_cores_laws.specs.Whole.{HasOwn}
use Rattle.fl_cores_fork.specs.Runs.{TheFinishedCore, TheCoreThread}
use Rattle.fl_cores.specs.Follows.{TellsEnd}
use Rattle.fl_cores.specs.Promised.{Reports}
use Rattle.fl_cores.specs.Runs.{AreRuns}
use Rattle.fl_cores.proofs.Booted.{all_making}
use Rattle.fl_cores.proofs.FollowsBegin.{core_thread, was}
use Rattle.fl_cores.proofs.FollowsEnds.{first_at}
use Rattle.fl_cores.proofs.FollowsMade.{is_there}
use Rattle.fl_cores.proofs.FollowsSent.{IsOk, at_home, ends_go, shows_last}
use Rattle.fl_cores.proofs.FollowsTold.{SentLaws, Ready, ready_at, RuledLast, goes_by, across, first_ok, told_there, told_new}
use Rattle.fl_cores.proofs.Runs.{all_runs, as_many, run_at}
use Rattle.fl_cores.proofs.SidesCross.{SideLaws}
use Rattle.fl_cores.proofs.StartBindings.{off_links}
use Rattle.fl_cores.proofs.Whole.{beginning, begun, told as are_told, set_up}

-- what is known of ends that are made in a run
pub record MadeLaws : Type 0 where
  pub servers : ServersAreRequested
  pub clients : ClientsAreRequested
  pub home : EndsAreAtHome
  pub stand : PlannedEndsStand
  pub rest : LooseEndsRest

same_value : {X : Type 0} (a b : X) → Some a ≡ Some b → a ≡ b
same_value a b is = cc

same_home : (side : Side) (b : Binding) → core_of side (bound_of b) ≡ core_in side b
same_home Client b = refl
same_home Server b = refl

abbrev an_end : ℕ → Side → EndId
an_end n side = record { binding = n; side = side }

-- each link has a core on the other side, which the table names
pub all_beside : (asked : List Job) (j : TheJoinedJobs) (cores : List OneCore) (names : List TheRegistration) (programs : List TheProgram) → AreSetUp asked j cores names programs
    → AreBeside j.jobs cores
all_beside asked j cores names programs s = record {
  leading = s.wired.leading;
  unused = s.wired.unused;
  beside = λ n side d m is link_side.
      (let x = s.wired.links n side d m is link_side in
      record {
        place = x.across.place;
        core = x.across.core;
        core_is = x.across.core_is;
        link = x.across.link;
        one = x.across.one;
        state = x.forth.link;
        state_is = x.forth.link_is;
        number = s.numbered x.across.place x.across.core x.across.core_is ∙ sym x.forth.neighbour;
      });
}

-- a job of an end's progress is one of its end's work
own_job : (j : TheJoinedJobs) (n : ℕ) (e : EndId) (progress : TheEndProgress) (turn k : ℕ) → slice_get progress.jobs turn ≡ Some k
    → (progress.jobs ≡ []) ⊎ HasOwn j n e progress.jobs → IsOwnJob j n e k
own_job j n e progress turn k at (inl none) =
    let clash : None ≡ Some k = sym (ap (λ (xs : List ℕ). slice_get xs turn) none) ∙ at in
    absurd (cc)
own_job j n e progress turn k at (inr own) = record {
  turn = turn;
  job_is = sym (ap (λ (xs : List ℕ). slice_get xs turn) own.jobs_are) ∙ at;
  bound = own.bound;
  bound_is = own.bound_is;
  core_is = own.core_is;
}

are_staffed : (asked : List Job) (j : TheJoinedJobs) (cores : List OneCore) (names : List TheRegistration) (programs : List TheProgram)
    → AreSetUp asked j cores names programs → AreStaffed j cores names programs
are_staffed asked j cores names programs s = record {
  beside = all_beside asked j cores names programs s;
  numbered = s.numbered;
  named = s.named;
  programmed = s.programmed;
  requests = s.requests;
  progresses = λ n c e progress turn k is progress_is at. own_job j n e progress turn k at (s.own n c e progress is progress_is);
}

-- a job asks for a circuit of this binding
record Requested (j : TheJoinedJobs) (binding : ℕ) : Type 0 where
  pub place : ℕ
  pub request : OpenRequest
  pub job_is : slice_get j.jobs place ≡ Some (job.Open request)
  pub binding_is : request.opening.binding ≡ binding

-- one of the cores, by what it was given and what came of it
record OneAt (cores : List OneCore) (n : ℕ) (t : TheCoreThread) (o : TheFinishedCore) : Type 0 where
  pub core : OneCore
  pub core_is : slice_get cores n ≡ Some core
  pub start : core.start ≡ t.run
  pub finish : core.finish ≡ o.run

module _ (fresh : SetUpsStartFresh) (leads : LeadsAtFirst) (go : CoresGo) (sides : SideLaws) (l : SentLaws) (ends : MadeLaws)
    (c : TheConfig) (jobs : List Job) (limit : ℕ) (r : TheReport) (w : Reports c jobs limit r) where
  abbrev j : TheJoinedJobs
  j = w.ran.ran.joined

  runs : (cores : List OneCore) × AreRuns j.jobs w.ran.ran.ran.core_threads w.ran.ran.ran.outcomes cores
  runs = all_runs go j.jobs limit w.ran.ran.ran.core_threads w.ran.ran.ran.outcomes w.ran.ran.ran.ran

  abbrev cores : List OneCore
  cores = runs.0

  abbrev names : List TheRegistration
  names = w.ran.parts.names

  abbrev programs : List TheProgram
  programs = map program_of w.ran.parts.programs.items

  s : AreSetUp jobs j cores names programs
  s = set_up fresh c jobs limit r w cores runs.1 sides leads

  staffed : AreStaffed j cores names programs
  staffed = are_staffed jobs j cores names programs s

  one_at : (n : ℕ) (t : TheCoreThread) (o : TheFinishedCore) → slice_get w.ran.ran.ran.core_threads n ≡ Some t → slice_get w.ran.ran.ran.outcomes n ≡ Some o → OneAt cores n t o
  one_at n t o at is =
      let below = within w.ran.ran.ran.core_threads n t at in
      let many = as_many j.jobs w.ran.ran.ran.core_threads w.ran.ran.ran.outcomes cores runs.1 in
      let one = at_within cores n (omega (arith, below, many)) in
      let it = run_at j.jobs w.ran.ran.ran.core_threads w.ran.ran.ran.outcomes cores runs.1 n one.0 one.1 in
      record {
        core = one.0;
        core_is = one.1;
        start = it.is.start ∙ ap (λ (y : TheCoreThread). y.run) (same_value it.core_thread t (sym it.core_thread_is ∙ at));
        finish = it.is.finish ∙ ap (λ (y : TheFinishedCore). y.run) (same_value it.outcome o (sym it.outcome_is ∙ is));
      }

  module _ (n : ℕ) (t : TheCoreThread) (o : TheFinishedCore) (at : slice_get w.ran.ran.ran.core_threads n ≡ Some t) (is : slice_get w.ran.ran.ran.outcomes n ≡ Some o)
      (core : Core) (services : List Service) (events : List (Event TheSide)) (after : CoreCut) (shows : ShowsCut (first_cut core t.run) t.run)
      (all : AllFollow services j.jobs events (moment t.run (first_cut core t.run)) (moment o.run after)) where
    abbrev a : CutMoment
    a = moment t.run (first_cut core t.run)

    abbrev b : CutMoment
    b = moment o.run after

    one : OneAt cores n t o
    one = one_at n t o at is

    sound : IsCore t.run.core
    sound = w.ran.ran.ran.sound.begin n t at

    sound_last : IsCore o.run.core
    sound_last = (w.ran.ran.ran.sound.left n o is).core

    last : ShowsCut after o.run
    last = shows_last services j.jobs events a b shows all

    leading : Leading j.jobs one.core
    leading = s.wired.leading n one.core one.core_is

    went : Went j.jobs (record { start = t.run; log = log_of events; finish = o.run })
    went = record {
      goes = goes_by services j.jobs events a b all;
      core = sound;
      apart = subst (λ (u : TheRun TheSide). IsApart u.core) one.start leading.went.apart;
      ends = λ p seat seat_is. leading.went.ends p seat (ap (λ (u : TheRun TheSide). slice_get u.core.board.seats p) one.finish ∙ seat_is);
    }

    -- ---- an end of this core, by its binding

    module _ (e : EndId) (of_it : IsOf j cores e one.core) where
      progress : HasProgress (end_work_at j.end_works e) t.run e
      progress = subst (λ (u : TheRun TheSide). HasProgress (end_work_at j.end_works e) u e) one.start (s.progresses e one.core of_it)

      told_made : at_end r.made e ≡ made_by j.jobs (end_work_at j.end_works e) o.run e
      told_made =
          (are_told fresh c jobs limit r w cores runs.1).made e one.core of_it
          ∙ ap (λ (u : TheRun TheSide). made_by j.jobs (end_work_at j.end_works e) u e) one.finish

      told_handled : at_end r.handled e ≡ handled_by o.run e
      told_handled = (are_told fresh c jobs limit r w cores runs.1).handled e one.core of_it ∙ ap (λ (u : TheRun TheSide). handled_by u e) one.finish

    -- ---- one that stood there as the run began

    first_told : (place : ℕ) (before x : EndCut) → slice_get (first_cut core t.run).ends place ≡ Some before → slice_get after.ends place ≡ Some x
        → x.wired_end.name ≡ before.wired_end.name → TellsEnd r x
    first_told place before x before_is x_is name_is =
        let its = first_at t.run.core.monitor.circuits.core t.run.core.board.seats t.run.core.wired_ends place before before_is in
        let e : EndId = its.wired_end.name in
        let here : place_of t.run.core e ≡ Some place = sound.named place its.wired_end its.wired_end_is in
        let old = was fresh c jobs limit r w n t at in
        let there : place_of old.core e ≡ Some place
        = sym (ap (λ (y : TheCore). place_of y e) old.ruled.rest)
        ∙ sym (ap (λ (y : TheCore). place_of y e) (core_thread fresh c jobs limit r w n t at).core_thread.core_is) ∙ here in
        let starts = fresh c.cores c.setup w.ran.made.world (all_making c.setup w.accepted.making) w.ran.made.stands.1.shown in
        let y = starts.bindings n place old.core e old.core_is there in
        let y_is : slice_get j.bindings e.binding ≡ Some (bound_of y.0)
        = w.ran.ran.are_bound.first e.binding y.0 (ap (λ (bs : List Binding). slice_get bs e.binding) w.ran.made.parts.bindings ∙ y.1) in
        let own : slice_get cores (core_of e.side (bound_of y.0)) ≡ Some one.core = ap (slice_get cores) (same_home e.side y.0 ∙ y.2) ∙ one.core_is in
        let of_it : IsOf j cores e one.core = record { bound = bound_of y.0; bound_is = y_is; core_is = own } in
        let off = off_links (beginning fresh c jobs limit r w cores runs.1) (begun fresh c jobs limit r w cores runs.1) sides e.binding (bound_of y.0) y_is refl in
        told_there l jobs j r services events a b shows all sound sound_last went e (w.ran.ran.are_joined.each e)
        (progress e of_it) (told_made e of_it) (told_handled e of_it) place x x_is
        (name_is ∙ ap (λ (u : EndCut). u.wired_end.name) its.end_is)
        t.run.core.monitor.circuits.core its.wired_end its.seat refl its.seat_is here (before_is ∙ ap (λ (u : EndCut). Some u) its.end_is)
        (subst (λ (u : TheRun TheSide). Ready j.jobs (end_work_at j.end_works e) u e) one.start (ready_at j cores e (bound_of y.0) one.core own off))

    -- ---- one that was made in the run

    module _ (place : ℕ) (x : EndCut) (x_is : slice_get after.ends place ≡ Some x) (absent : place_of t.run.core x.wired_end.name ≡ None) where
      abbrev e : EndId
      e = x.wired_end.name

      seat : (seat : TheEndAtChannel) × (slice_get one.core.finish.core.board.seats place ≡ Some seat)
      seat =
          let it = across (ShowsSeat o.run.core.monitor.circuits.core) after.ends o.run.core.board.seats place x last.ends x_is in
          (it.there, ap (λ (u : TheRun TheSide). slice_get u.core.board.seats place) one.finish ∙ it.there_is)

      absent_first : place_of one.core.start.core e ≡ None
      absent_first = ap (λ (u : TheRun TheSide). place_of u.core e) one.start ∙ absent

      here_last : place_of one.core.finish.core e ≡ Some place
      here_last =
          ap (λ (u : TheRun TheSide). place_of u.core e) one.finish
          ∙ ap (λ (places : List (Option ℕ)). place_in places e) (sym last.places)
          ∙ at_home after o.run place x last sound_last x_is

      requested : (side : Side) → e.side ≡ side → Requested j e.binding
      requested Server q =
          let name : e ≡ server_of e.binding = ap (an_end e.binding) q in
          let y = ends.servers j.jobs cores staffed.beside n one.core one.core_is e.binding place seat.0
          (subst (λ (f : EndId). place_of one.core.start.core f ≡ None) name absent_first)
          (subst (λ (f : EndId). place_of one.core.finish.core f ≡ Some place) name here_last) seat.1 in
          record { place = y.place; request = y.request; job_is = y.job_is; binding_is = y.binding_is }
      requested Client q =
          let name : e ≡ client_of e.binding = ap (an_end e.binding) q in
          let y = (ends.clients j.jobs one.core leading (staffed.beside.unused n one.core one.core_is) e.binding place seat.0
          (subst (λ (f : EndId). place_of one.core.start.core f ≡ None) name absent_first)
          (subst (λ (f : EndId). place_of one.core.finish.core f ≡ Some place) name here_last) seat.1).2 in
          record { place = y.place; request = y.request; job_is = y.job_is; binding_is = sym (ap (λ (f : EndId). f.binding) y.name_is) }

      asked : Requested j e.binding
      asked = requested e.side refl

      bound : (y : BindingCores) × (slice_get j.bindings e.binding ≡ Some y)
      bound =
          let below = w.ran.ran.are_joined.there asked.place (job.Open asked.request) asked.job_is in
          let same = asked.binding_is in
          at_within j.bindings e.binding (omega (arith, below, same))

      opened_by : (v : Option ℕ) → bound.0.opened ≡ v → (number : ℕ) × (bound.0.opened ≡ Some number)
      opened_by None q = absurd (w.ran.ran.are_joined.set_up e.binding bound.0 bound.1 q asked.place asked.request asked.job_is asked.binding_is)
      opened_by (Some number) q = (number, q)

      opened : (number : ℕ) × (bound.0.opened ≡ Some number)
      opened = opened_by bound.0.opened refl

      home_of : (p : ℕ) (seat : TheEndAtChannel) → place_of one.core.finish.core e ≡ Some p → slice_get one.core.finish.core.board.seats p ≡ Some seat
          → IsAtHome e bound.0 programs n seat
      home_of p seat place_is seat_is =
          ends.home jobs j cores names programs s.joined staffed e bound.0 n one.core seat bound.1 one.core_is
          (record { absent = absent_first; place = p; place_is = place_is; seat_is = seat_is })

      of_it : IsOf j cores e one.core
      of_it = record {
        bound = bound.0;
        bound_is = bound.1;
        core_is = ap (slice_get cores) (home_of place seat.0 here_last seat.1).core_is ∙ one.core_is;
      }

      planned : IsPlanned j.jobs (end_work_at j.end_works e) one.core e
      planned = record {
        absent = absent_first;
        lead = s.joined.lead e;
        none = s.joined.unruled e;
        set = s.joined.later e bound.0 opened.0 bound.1 opened.1;
        fit = λ p seat place_is seat_is.
            s.fit e bound.0 opened.0 (program_of seat.end.program) bound.1 opened.1 (home_of p seat place_is seat_is).program_is;
      }

      ruled : RuledLast (end_work_at j.end_works e) one.core.finish e
      ruled = elim (ends.stand j.jobs (end_work_at j.end_works e) one.core e leading (s.progresses e one.core of_it) planned) [
        | inl loose ↦ inl (ends.rest j.jobs (end_work_at j.end_works e) one.core e leading.went (s.progresses e one.core of_it) loose).handled
        | inr y ↦ (elim y.2.rules [
          | inl none ↦ inl none
          | inr same ↦ inr (record { place = y.2.place; place_is = y.2.place_is; seat = y.2.seat; seat_is = y.2.seat_is; rules = same })
        ])
      ]

      new_told : TellsEnd r x
      new_told =
          told_new l jobs j r services events a b shows all sound sound_last went e (w.ran.ran.are_joined.each e)
          (progress e of_it) (told_made e of_it) (told_handled e of_it) place x x_is refl
          absent (s.joined.lead e) (s.joined.unruled e)
          (subst (λ (u : TheRun TheSide). RuledLast (end_work_at j.end_works e) u e) one.finish ruled)

    -- ---- any

    -- an end stays where it stood
    stays_at : (q place : ℕ) (x : EndCut) → slice_get after.ends place ≡ Some x → (before : EndCut) → slice_get (first_cut core t.run).ends q ≡ Some before
        → before.wired_end.name ≡ x.wired_end.name → q ≡ place
    stays_at q place x x_is before before_is name_is =
        let its = first_at t.run.core.monitor.circuits.core t.run.core.board.seats t.run.core.wired_ends q before before_is in
        let ok : IsOk before = subst IsOk (sym its.end_is) (first_ok t.run.core.monitor.circuits.core its.wired_end its.seat) in
        let on = ends_go services j.jobs events a b shows all x.wired_end.name q before before_is name_is ok in
        let there : place_in after.places x.wired_end.name ≡ Some q
        = ap (place_in after.places) (sym (ap (λ y. y.name) on.goes.wired_end ∙ name_is)) ∙ at_home after o.run q on.after last sound_last on.after_is in
        same_value q place (sym there ∙ at_home after o.run place x last sound_last x_is)

    pub told : (place : ℕ) (x : EndCut) → slice_get after.ends place ≡ Some x → TellsEnd r x
    told place x x_is = by (place_of t.run.core x.wired_end.name) refl
      where
        by : (v : Option ℕ) → place_of t.run.core x.wired_end.name ≡ v → TellsEnd r x
        by None absent = new_told place x x_is absent
        by (Some q) here =
            let it = is_there x.wired_end.name q (first_cut core t.run) t.run shows sound (ap (λ (places : List (Option ℕ)). place_in places x.wired_end.name) shows.places ∙ here) in
            let same = stays_at q place x x_is it.end it.end_is it.name_is in
            first_told q it.end x it.end_is (ap (slice_get after.ends) same ∙ x_is) (sym it.name_is)
