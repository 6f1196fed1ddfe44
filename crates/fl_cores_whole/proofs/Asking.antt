-- In an interleaving of a reported run each circuit is asked for as its job says: a core's jobs, its names and its links'
-- neighbours stay what they were at first.
use Rattle.std.proofs.Common.{◌≡◌, inl, inr, refl, sym, ◌∙◌, ap, subst, ℕ, List, [], ◌∷◌, length, slice_get, Some, None}
use Rattle.std.proofs.lemmas.Slice.Eq.{bytes_eq-Decides}
use Rattle.fl_base.specs.declared.identity.EndId.{EndId}
use Rattle.fl_hop.proofs.Lists.{set_cases}
use Rattle.fl_hop.specs.Table.{TheCircuits}
use Rattle.fl_nameserv.specs.Registrations.{TheRegistration, has_name, by_name, by_iref}
use Rattle.fl_monitor.specs.Monitors.{TheMonitor, first_link}
use Rattle.fl_ring.specs.SharedSides.{TheSide}
use Rattle.fl_core.specs.declared.core_job.CoreJob.{CoreJob}
use Rattle.fl_core.specs.declared.core_job.OpenRequest.{OpenRequest}
use Rattle.fl_core.specs.Hearing.{Offers}
use Rattle.fl_core.specs.View.{TheCore, client_of}
use Rattle.fl_core_run.specs.Run.{TheRun}
use Rattle.fl_core_run.specs.LogEntries.{LogEntry, opened}
use Rattle.fl_core_run_laws.proofs.Aside.{core_aside}
use Rattle.fl_cores_file.specs.Jobs.{Job}
use Rattle.fl_cores_file.specs.Report.{TheReport}
use Rattle.fl_cores_fork.specs.Runs.{TheCoreThread}
use Rattle.fl_cores_jobs.specs.declared.end_work.BindingCores.{BindingCores}
use Rattle.fl_cores_jobs.specs.EndWork.{end_work_at}
use Rattle.fl_cores_jobs.specs.Joined.{core_of}
use Rattle.fl_cores_jobs.specs.Requested.{IsRequested}
use Rattle.fl_cores_jobs.specs.State.{TheJoinedJobs}
use Rattle.fl_cores_laws.specs.Asked.{IsForBinding}
use Rattle.fl_cores_laws.specs.Whole.{HasOwn}
use Rattle.fl_cores_laws.proofs.Opening.{given_work}
use Rattle.fl_cores_parts.specs.Begins.{TheCoreInputs, common_in}
use Rattle.fl_world.specs.Booting.{TheConfig}
use Rattle.fl_world_refines.specs.declared.parts.Parts.{Parts}
use Rattle.fl_world_refines.proofs.FramesBase.{same_some}
use Rattle.fl_model.specs.State.{State}
use Rattle.fl_cores.specs.Behind.{joined_in}
use Rattle.fl_cores.specs.Promised.{Reports}
use Rattle.fl_cores.proofs.CoresCoreThreads.{WasAt, OnBoards, on_boards}
use Rattle.fl_cores.proofs.RunsSetUp.{own_progress, is_for_binding}
use Rattle.fl_cores_joined.specs.Joined.{JoinedCore, alone}
use Rattle.fl_cores_joined.specs.Steps.{true_ways, HappensAt, Moment, does, forwards, Interleaves}
use Rattle.fl_cores_joined.specs.Laws.{AsksRightly}
use Rattle.fl_cores_joined.specs.Runs.{AsksRightlyAt, AllAskRightly}
use Rattle.fl_cores_joined.proofs.Earlier.{SameLinks, does_same}
use Rattle.fl_cores_joined.proofs.Joining.{long_set}
use Rattle.fl_cores_joined.proofs.Opening.{find_holds}
use Rattle.fl_cores_whole.specs.Begin.{Owners, owners_in}
use Rattle.fl_cores_whole.specs.Whole.{begun}
use Rattle.fl_cores_whole.proofs.Staying.{offers_stay, AllGoOn, all_same, progresses_go, go_then, HasJob, job_before, next_there, next_is_had, first_same}
use Rattle.fl_cores_whole.proofs.Begin.{threads_long, joined_long, first_thread, first_joined, FirstThread, FirstJoined}

-- ---- what stays of a core

pub record Stays (p q : TheRun TheSide) : Type 0 where
  pub offers : q.offers ≡ p.offers
  pub links : SameLinks p.core.monitor.circuits q.core.monitor.circuits
  pub progresses : AllGoOn p.progresses q.progresses

itself : (p : TheRun TheSide) → Stays p p
itself p = record { offers = refl; links = record { core = refl; neighbours = refl }; progresses = all_same p.progresses p.progresses refl }

stays_then : (p q r : TheRun TheSide) → Stays p q → Stays q r → Stays p r
stays_then p q r g h = record {
  offers = h.offers ∙ g.offers;
  links = record { core = h.links.core ∙ g.links.core; neighbours = h.links.neighbours ∙ g.links.neighbours };
  progresses = go_then p.progresses q.progresses r.progresses g.progresses h.progresses;
}

module _ (jobs : List CoreJob) (n : ℕ) (log_entry : LogEntry) (xs ys : List JoinedCore) (h : HappensAt jobs n log_entry xs ys) where
  pub by_event : Stays h.before.run (alone h.after)
  by_event =
      let m = h.happens.0 in
      let aside : h.after.core ≡ m.core = core_aside m h.after log_entry h.happens.2 in
      let its : Stays (alone h.beside) (alone h.after) = record {
        offers = offers_stay true_ways log_entry h.beside m h.after h.happens.1 h.happens.2;
        links = subst (λ (k : TheCore). SameLinks h.beside.core.monitor.circuits k.monitor.circuits) (sym aside)
            (does_same true_ways log_entry h.beside m h.happens.1).links;
        progresses = progresses_go true_ways log_entry h.beside m h.after h.happens.1 h.happens.2;
      } in
      subst (λ (t : TheRun TheSide). Stays t (alone h.after)) h.beside_is.own its

-- ---- of all cores

pub record AllStay (xs ys : List JoinedCore) : Type 0 where
  pub long : length ys ≡ length xs
  pub each : (n : ℕ) (y : JoinedCore) → slice_get ys n ≡ Some y → (x : JoinedCore) × (slice_get xs n ≡ Some x) × Stays x.run y.run

pub all_themselves : (xs : List JoinedCore) → AllStay xs xs
all_themselves xs = record { long = refl; each = λ n y at. (y, at, itself y.run) }

pub one_more : (jobs : List CoreJob) (n : ℕ) (log_entry : LogEntry) (xs ms ys : List JoinedCore) → HappensAt jobs n log_entry ms ys → AllStay xs ms → AllStay xs ys
one_more jobs n log_entry xs ms ys h g = record {
  long = ap length h.rest ∙ long_set ms n (record h.before { run = alone h.after }) ∙ g.long;
  each = λ k y at.
      elim (set_cases ms n (record h.before { run = alone h.after }) k y (ap (λ (l : List JoinedCore). slice_get l k) (sym h.rest) ∙ at)) [
        | inl (place, is) ↦
            (let (x, x_is, stays) = g.each n h.before h.before_is in (
              x,
              ap (slice_get xs) place ∙ x_is,
              subst (λ (c : JoinedCore). Stays x.run c.run) (sym is)
                  (stays_then x.run h.before.run (alone h.after) stays (by_event jobs n log_entry ms ys h)),
            ))
        | inr (other, was) ↦ g.each k y was
      ];
}

-- ---- names and routes

named_itself : (name : List ℕ) (names : List TheRegistration) (g : TheRegistration) → by_name name names ≡ Some g → by_name g.name names ≡ Some g
named_itself name names g found =
    let same : name ≡ g.name = (bytes_eq-Decides name g.name).0 (find_holds (has_name name) names g found) in
    subst (λ (x : List ℕ). by_name x names ≡ Some g) same found

pub none_there : {X : Type 0} (xs : List ℕ) (i k : ℕ) → xs ≡ [] → slice_get xs i ≡ Some k → X
none_there xs i k none at = absurd (let e : None ≡ Some k = sym (ap (λ (ys : List ℕ). slice_get ys i) none) ∙ at in cc)

-- ---- a circuit is asked for

module _ (c : TheConfig) (jobs : List Job) (limit : ℕ) (r : TheReport) (w : Reports c jobs limit r) where
  abbrev j : TheJoinedJobs
  j = joined_in w

  -- what the set-up made, and the same with the jobs' rules
  abbrev made : Parts
  made = w.ran.parts

  abbrev parts : Parts
  parts = w.ran.ran.parts

  abbrev inputs : TheCoreInputs
  inputs = common_in parts j w.ran.ran.ran.places

  abbrev threads : List TheCoreThread
  threads = w.ran.ran.ran.core_threads

  abbrev owners : Owners
  owners = owners_in w.ran.ran.ran.shares

  on : OnBoards made.cores.items parts.cores.items
  on = on_boards made.bindings.items jobs made.cores.items parts.cores.items w.ran.ran.rules

  pub many_cores : length (begun w) ≡ length made.cores.items
  many_cores = joined_long owners 0 threads ∙ sym (threads_long inputs 0 parts.cores.items threads w.ran.ran.ran.begin) ∙ on.count

  module _ (n : ℕ) (x : JoinedCore) (x_is : slice_get (begun w) n ≡ Some x) (q : TheRun TheSide) (stays : Stays x.run q) (name : EndId) (request : OpenRequest)
      (next : HasJob j.jobs q.progresses name request) where
    its : FirstJoined owners n threads x
    its = first_joined owners n threads x x_is

    thread : FirstThread inputs n parts.cores.items its.thread
    thread = first_thread inputs n parts.cores.items threads its.thread w.ran.ran.ran.begin its.thread_is

    same_run : x.run ≡ its.thread.run
    same_run = ap (λ (z : JoinedCore). z.run) its.is

    -- its job was one at first
    first : HasJob j.jobs its.thread.run.progresses name request
    first =
        subst (λ (t : TheRun TheSide). HasJob j.jobs t.progresses name request) same_run
        (job_before j.jobs x.run.progresses q.progresses name request stays.progresses next)

    asked : IsRequested made.names made.cores.items (length made.bindings.items) jobs j.bindings request
    asked = w.ran.ran.are_requested first.place request first.job_is

    fits : IsForBinding made.names request asked.bound
    fits = is_for_binding made.names made.programs.items j w.ran.ran.are_fit first.place request asked.bound first.job_is asked.bound_is

    names : q.offers.names ≡ made.names
    names =
        ap (λ (o : Offers). o.names) stays.offers ∙ ap (λ (t : TheRun TheSide). t.offers.names) same_run
        ∙ thread.is.names ∙ w.ran.ran.beside.names

    was : WasAt made.cores.items n thread.core
    was = on.each n thread.core thread.core_is

    -- the core is that of the binding's client
    at_client : HasOwn j n name first.progress.jobs → asked.bound.client ≡ n
    at_client own =
        let at : slice_get (end_work_at j.end_works name).jobs first.turn ≡ Some first.place =
        ap (λ (ks : List ℕ). slice_get ks first.turn) (sym own.jobs_are) ∙ first.place_is in
        let opener : name ≡ client_of request.opening.binding =
        (given_work (length made.cores.items) jobs j w.ran.ran.are_joined name).own first.turn first.place request at first.job_is in
        let bound : own.bound ≡ asked.bound =
        same_some (slice_get j.bindings request.opening.binding) own.bound asked.bound
        (ap (λ (e : EndId). slice_get j.bindings e.binding) (sym opener) ∙ own.bound_is) asked.bound_is in
        sym (ap (λ (b : BindingCores). b.client) bound) ∙ sym (ap (λ (e : EndId). core_of e.side own.bound) opener) ∙ own.core_is

    client : asked.bound.client ≡ n
    client =
        elim (own_progress n j w.ran.ran.are_joined.bindings.few its.thread.run.progresses thread.is.progresses name first.progress first.progress_is) [
          | inl none ↦ none_there first.progress.jobs first.turn first.place none first.place_is
          | inr own ↦ at_client own
        ]

    circuits : its.thread.run.core.monitor.circuits ≡ asked.asks.begins.core.monitor.circuits
    circuits =
        let begins = asked.asks.begins in
        let core : was.core ≡ begins.core =
        same_some (slice_get made.cores.items n) was.core begins.core was.core_is (ap (slice_get made.cores.items) (sym client ∙ asked.client) ∙ begins.core_is) in
        ap (λ (k : TheCore). k.monitor.circuits) thread.is.core_is ∙ ap (λ (m : TheMonitor). m.circuits) was.monitor
        ∙ ap (λ (k : TheCore). k.monitor.circuits) core

    -- it is asked for rightly, at one of so many cores
    asks_so : (cores : ℕ) → cores ≡ length (begun w) → AsksRightly cores q request
    asks_so cores count =
        let name_is = asked.asks.service in
        let g = name_is.registration in
        let path = request.opening.path in
        let t = asked.asks.begins.core.monitor.circuits in
        let same : fits.registration ≡ g = same_some (by_iref request.opening.service.0 made.names) fits.registration g fits.service name_is.registered in
        let server : g.service.core.0 ≡ asked.bound.server = ap (λ (z : TheRegistration). z.service.core.0) (sym same) ∙ fits.core_is in
        record {
          service = g;
          registered = ap (by_iref request.opening.service.0) names ∙ name_is.registered;
          named = ap (by_name g.name) names ∙ named_itself asked.request.service made.names g name_is.named;
          interface = ap (λ (z : TheRegistration). z.service.interface) (sym same) ∙ fits.offered ∙ sym fits.interface;
          leads =
              first_same x.run.core.monitor.circuits q.core.monitor.circuits stays.links path g.service.core.0 cores
              ∙ ap (λ (z : TheRun TheSide). first_link z.core.monitor.circuits path g.service.core.0 cores) same_run
              ∙ ap (λ (z : TheCircuits). first_link z path g.service.core.0 cores) circuits
              ∙ ap (λ (s : ℕ). first_link t path s cores) server
              ∙ ap (first_link t path asked.bound.server) (count ∙ many_cores)
              ∙ asked.asks.begins.begins;
        }

  -- ---- in an interleaving

  one : (n : ℕ) (log_entry : LogEntry) (ms ys : List JoinedCore) (s : State) (h : HappensAt j.jobs n log_entry ms ys) → AllStay (begun w) ms
      → AsksRightlyAt ms h.before.run s log_entry
  one n (opened name request answer) ms ys s h g =
      let (x, x_is, stays) = g.each n h.before h.before_is in
      let found = next_is_had j.jobs h.beside.progresses name request (next_there j.jobs h.beside name request h.in_place.0) in
      asks_so n x x_is h.before.run stays name request (subst (λ (t : TheRun TheSide). HasJob j.jobs t.progresses name request) h.beside_is.own found)
      (length ms) g.long
  one n log_entry ms ys s h g = tt

  all : (moments : List Moment) (s : State) (ms ys : List JoinedCore) → AllStay (begun w) ms → (h : Interleaves j.jobs ms moments ys)
      → AllAskRightly j.jobs s ms moments ys h
  all [] s ms ys g h = tt
  all (does n log_entry ∷ moments) s ms ys g h = (
    one n log_entry ms h.0 s h.1.1 g,
    all moments _ h.0 ys (one_more j.jobs n log_entry (begun w) ms h.0 h.1.1 g) h.2,
  )
  all (forwards n look follows ∷ moments) s ms ys g h =
      all moments _ h.0 ys (one_more j.jobs n follows (begun w) h.1.1.0 h.0 h.1.1.2 (one_more j.jobs n look (begun w) ms h.1.1.0 h.1.1.1 g)) h.2

  pub open_rightly : (moments : List Moment) (s : State) (ys : List JoinedCore) (h : Interleaves j.jobs (begun w) moments ys)
      → AllAskRightly j.jobs s (begun w) moments ys h
  open_rightly moments s ys h = all moments s (begun w) ys (all_themselves (begun w)) h
