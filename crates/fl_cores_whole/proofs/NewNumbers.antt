-- Each circuit is asked for under a number that none has yet: a job that is done is next no more, and no other opens its
-- binding.
use Rattle.std.proofs.Common.{◌≡◌, inl, inr, sym, ◌∙◌, ap, subst, ℕ, zero, suc, ◌+◌, ◌<◌, ◌≤◌, List, [], ◌∷◌, length, slice_get, Option}
use Rattle.std.proofs.Common.{Some, None, Result, Ok, Err, arith}
use Rattle.fl_base.specs.declared.identity.EndId.{EndId}
use Rattle.fl_base.specs.Given.{given}
use Rattle.fl_hop.proofs.Lists.{set_cases, set_here}
use Rattle.fl_ring.specs.SharedSides.{TheSide}
use Rattle.fl_core.specs.declared.fault.OpenFault.{OpenFault}
use Rattle.fl_core.specs.declared.core_job.CoreJob.{CoreJob}
use Rattle.fl_core.specs.declared.core_job.CoreJob.TheVariants as job
use Rattle.fl_core.specs.declared.core_job.OpenRequest.{OpenRequest}
use Rattle.fl_core.specs.View.{client_of}
use Rattle.fl_core_run.specs.EndProgress.{TheEndProgress, progress_place, advanced, ChangesIf, ChangesProgress}
use Rattle.fl_core_run.specs.Run.{TheRun}
use Rattle.fl_core_run.specs.LogEntries.{LogEntry, opened}
use Rattle.fl_core_run_laws.proofs.Handling.{progresses_stay, same_place}
use Rattle.fl_cores_file.specs.Jobs.{Job}
use Rattle.fl_cores_file.specs.Report.{TheReport}
use Rattle.fl_cores_fork.specs.Runs.{TheCoreThread}
use Rattle.fl_cores_jobs.specs.declared.end_work.BindingCores.{BindingCores}
use Rattle.fl_cores_jobs.specs.EndWork.{end_work_at}
use Rattle.fl_cores_jobs.specs.Joined.{core_of}
use Rattle.fl_cores_jobs.specs.State.{TheJoinedJobs}
use Rattle.fl_cores_laws.specs.Whole.{HasOwn}
use Rattle.fl_cores_laws.proofs.Opening.{GivenWork, given_work}
use Rattle.fl_cores_parts.specs.Begins.{TheCoreInputs, common_in}
use Rattle.fl_world.specs.Booting.{TheConfig}
use Rattle.fl_world_refines.specs.declared.parts.Parts.{Parts}
use Rattle.fl_world_refines.proofs.FramesBase.{same_some}
use Rattle.fl_cores.specs.Behind.{joined_in}
use Rattle.fl_cores.specs.Promised.{Reports}
use Rattle.fl_cores.proofs.RunsSetUp.{own_progress}
use Rattle.fl_cores_joined.specs.Joined.{JoinedCore, alone}
use Rattle.fl_cores_joined.specs.RenamedRuns.{IsNewNumber, and_taken, AllAreNew}
use Rattle.fl_cores_joined.specs.Steps.{true_ways, HappensAt, Moment, does, forwards, Interleaves}
use Rattle.fl_cores_whole.specs.Begin.{Owners, owners_in}
use Rattle.fl_cores_whole.specs.Whole.{begun}
use Rattle.fl_cores_whole.proofs.Staying.{progress_at, progress_before, IsNext, next_there}
use Rattle.fl_cores_whole.proofs.Begin.{first_thread, first_joined}
use Rattle.fl_cores_whole.proofs.Asking.{Stays, by_event, AllStay, all_themselves, one_more, none_there}

-- what happens leaves the progress of ends as it was, but for what is noted of it
progresses_kept : (jobs : List CoreJob) (n : ℕ) (log_entry : LogEntry) (xs ys : List JoinedCore) (h : HappensAt jobs n log_entry xs ys)
    → h.happens.0.progresses ≡ h.before.run.progresses
progresses_kept jobs n log_entry xs ys h =
    progresses_stay true_ways log_entry h.beside h.happens.0 h.happens.1 ∙ ap (λ (t : TheRun TheSide). t.progresses) h.beside_is.own

-- ---- in a run

module _ (c : TheConfig) (jobs : List Job) (limit : ℕ) (r : TheReport) (w : Reports c jobs limit r) where
  abbrev j : TheJoinedJobs
  j = joined_in w

  abbrev made : Parts
  made = w.ran.parts

  abbrev parts : Parts
  parts = w.ran.ran.parts

  abbrev inputs : TheCoreInputs
  inputs = common_in parts j w.ran.ran.ran.places

  abbrev threads : List TheCoreThread
  threads = w.ran.ran.ran.core_threads

  abbrev owners : Owners
  owners = owners_in w.ran.ran.ran.shares

  -- an end with a job at a core is the core's own
  own_there : (n : ℕ) (x : JoinedCore) (q : TheRun TheSide) (e : EndId) (d : TheEndProgress) (turn place : ℕ) → slice_get (begun w) n ≡ Some x
      → Stays x.run q → progress_at q.progresses e ≡ Some d → slice_get d.jobs turn ≡ Some place → HasOwn j n e d.jobs
  own_there n x q e d turn place x_is stays d_is at =
      let its = first_joined owners n threads x x_is in
      let thread = first_thread inputs n parts.cores.items threads its.thread w.ran.ran.ran.begin its.thread_is in
      let (f, f_is, goes) = progress_before x.run.progresses q.progresses e d stays.progresses d_is in
      let first : progress_at its.thread.run.progresses e ≡ Some f = ap (λ (z : JoinedCore). progress_at z.run.progresses e) (sym its.is) ∙ f_is in
      elim (own_progress n j w.ran.ran.are_joined.bindings.few its.thread.run.progresses thread.is.progresses e f first) [
        | inl none ↦ none_there d.jobs turn place (goes.jobs ∙ none) at
        | inr own ↦ record { jobs_are = goes.jobs ∙ own.jobs_are; bound = own.bound; bound_is = own.bound_is; core_is = own.core_is }
      ]

  -- the job that opens this binding is done, wherever it is one
  abbrev HasDone : TheRun TheSide → ℕ → Type 0
  HasDone q binding = (d : TheEndProgress) (turn place : ℕ) (request : OpenRequest) → progress_at q.progresses (client_of binding) ≡ Some d
      → slice_get d.jobs turn ≡ Some place → slice_get j.jobs place ≡ Some (job.Open request) → turn < d.done

  abbrev AreDone : List JoinedCore → List ℕ → Type 0
  AreDone ms taken = (i binding n : ℕ) (x : JoinedCore) → slice_get taken i ≡ Some binding → slice_get ms n ≡ Some x → HasDone x.run binding

  one_taken : (first : ℕ) (taken : List ℕ) (ms : List JoinedCore) → ((n : ℕ) (x : JoinedCore) → slice_get ms n ≡ Some x → HasDone x.run first)
      → AreDone ms taken → AreDone ms (first ∷ taken)
  one_taken first taken ms now past zero binding n x is x_is =
      let same : first ≡ binding = cc in subst (λ (b : ℕ). HasDone x.run b) same (now n x x_is)
  one_taken first taken ms now past (suc i) binding n x is x_is = past i binding n x is x_is

  -- what was done is, by whatever happens
  done_on : (n : ℕ) (log_entry : LogEntry) (taken : List ℕ) (ms ys : List JoinedCore) → HappensAt j.jobs n log_entry ms ys → AreDone ms taken → AreDone ys taken
  done_on n log_entry taken ms ys h past i binding k y is y_is d turn place request d_is at opens =
      elim (set_cases ms n (record h.before { run = alone h.after }) k y (ap (λ (l : List JoinedCore). slice_get l k) (sym h.rest) ∙ y_is)) [
        | inl (here, same) ↦
            (let there : progress_at h.after.progresses (client_of binding) ≡ Some d =
            ap (λ (z : JoinedCore). progress_at z.run.progresses (client_of binding)) (sym same) ∙ d_is in
            let on = (by_event j.jobs n log_entry ms ys h).progresses in
            let (f, f_is, goes) = progress_before h.before.run.progresses h.after.progresses (client_of binding) d on there in
            let less = past i binding n h.before is h.before_is f turn place request f_is (ap (λ (l : List ℕ). slice_get l turn) (sym goes.jobs) ∙ at) opens in
            let more = goes.done in
            omega (arith, less, more))
        | inr (other, was) ↦ past i binding k y is was d turn place request d_is at opens
      ]

  -- ---- a circuit is asked for

  module _ (n : ℕ) (name : EndId) (request : OpenRequest) (answer : Result ℕ OpenFault) (ms ys : List JoinedCore)
      (h : HappensAt j.jobs n (opened name request answer) ms ys) (g : AllStay (begun w) ms) where
    abbrev its_binding : ℕ
    its_binding = request.opening.binding

    next : IsNext j.jobs h.before.run.progresses name request
    next =
        subst (λ (t : TheRun TheSide). IsNext j.jobs t.progresses name request) h.beside_is.own (next_there j.jobs h.beside name request h.in_place.0)

    at_next : progress_at h.before.run.progresses name ≡ Some next.progress
    at_next = ap (λ (o : Option ℕ). given o None λ i. slice_get h.before.run.progresses i) next.slot_is ∙ next.progress_is

    own : HasOwn j n name next.progress.jobs
    own =
        let (x, x_is, stays) = g.each n h.before h.before_is in
        own_there n x h.before.run name next.progress next.progress.done next.place x_is stays at_next next.place_is

    work : GivenWork j.jobs name (end_work_at j.end_works name).jobs
    work = given_work (length made.cores.items) jobs j w.ran.ran.are_joined name

    at_work : (turn place : ℕ) → slice_get next.progress.jobs turn ≡ Some place → slice_get (end_work_at j.end_works name).jobs turn ≡ Some place
    at_work turn place at = ap (λ (ks : List ℕ). slice_get ks turn) (sym own.jobs_are) ∙ at

    opener : name ≡ client_of its_binding
    opener = work.own next.progress.done next.place request (at_work next.progress.done next.place next.place_is) next.job_is

    -- no other job of the end opens a circuit
    one_turn : (turn place : ℕ) (other : OpenRequest) → slice_get next.progress.jobs turn ≡ Some place → slice_get j.jobs place ≡ Some (job.Open other)
        → turn ≡ next.progress.done
    one_turn turn place other at opens =
        work.once turn next.progress.done place next.place other request (at_work turn place at) opens
        (at_work next.progress.done next.place next.place_is) next.job_is

    behind_first : length made.bindings.items ≤ its_binding
    behind_first =
        let asked = w.ran.ran.are_requested next.place request next.job_is in
        let is = asked.number in
        omega (arith, is)

    not_taken : (taken : List ℕ) → AreDone ms taken → (i : ℕ) → slice_get taken i ≡ Some its_binding → ⊥
    not_taken taken past i is =
        let less = past i its_binding n h.before is h.before_is next.progress next.progress.done next.place request
        (ap (progress_at h.before.run.progresses) (sym opener) ∙ at_next) next.place_is next.job_is in
        absurd (omega (arith, less))

    -- no other core has a job of this end
    one_core : (k : ℕ) (y : JoinedCore) (d : TheEndProgress) (turn place : ℕ) → slice_get ms k ≡ Some y
        → progress_at y.run.progresses (client_of its_binding) ≡ Some d → slice_get d.jobs turn ≡ Some place → k ≡ n
    one_core k y d turn place y_is d_is at =
        let (x, x_is, stays) = g.each k y y_is in
        let two = own_there k x y.run (client_of its_binding) d turn place x_is stays d_is at in
        let one : HasOwn j n (client_of its_binding) next.progress.jobs = subst (λ (e : EndId). HasOwn j n e next.progress.jobs) opener own in
        let same : two.bound ≡ one.bound = same_some (slice_get j.bindings its_binding) two.bound one.bound two.bound_is one.bound_is in
        sym two.core_is ∙ ap (λ (b : BindingCores). core_of (client_of its_binding).side b) same ∙ one.core_is

  -- it was accepted: its job is done
  module _ (n : ℕ) (name : EndId) (request : OpenRequest) (place_made : ℕ) (ms ys : List JoinedCore)
      (h : HappensAt j.jobs n (opened name request (Ok place_made)) ms ys) (g : AllStay (begun w) ms) where
    abbrev before_it : List TheEndProgress
    before_it = h.before.run.progresses

    abbrev behind_it : List TheEndProgress
    behind_it = h.after.progresses

    abbrev its_job : IsNext j.jobs before_it name request
    its_job = next n name request (Ok place_made) ms ys h g

    advances : ChangesProgress before_it its_job.slot advanced behind_it
    advances =
        subst (λ (o : Option ℕ). ChangesIf o before_it advanced behind_it) its_job.slot_is
        (subst (λ (l : List TheEndProgress). ChangesIf (progress_place l name) l advanced behind_it)
        (progresses_kept j.jobs n (opened name request (Ok place_made)) ms ys h) h.happens.2.changes)

    advanced_there : progress_at behind_it name ≡ Some (advanced its_job.progress)
    advanced_there =
        let same : advances.progress ≡ its_job.progress =
        same_some (slice_get before_it its_job.slot) advances.progress its_job.progress advances.progress_is its_job.progress_is in
        let long = (by_event j.jobs n (opened name request (Ok place_made)) ms ys h).progresses.long in
        ap (λ (o : Option ℕ). given o None λ i. slice_get behind_it i) (same_place before_it behind_it name long ∙ its_job.slot_is)
        ∙ ap (λ (l : List TheEndProgress). slice_get l its_job.slot) advances.rest
        ∙ set_here before_it its_job.slot its_job.progress (advanced advances.progress) its_job.progress_is
        ∙ ap (λ (d : TheEndProgress). Some (advanced d)) same

    done_here : HasDone (alone h.after) request.opening.binding
    done_here d turn place other d_is at opens =
        let name_is = opener n name request (Ok place_made) ms ys h g in
        let same : d ≡ advanced its_job.progress =
        same_some (progress_at behind_it name) d (advanced its_job.progress) (ap (progress_at behind_it) name_is ∙ d_is) advanced_there in
        let place_is : slice_get its_job.progress.jobs turn ≡ Some place = ap (λ (z : TheEndProgress). slice_get z.jobs turn) (sym same) ∙ at in
        let turn_is = one_turn n name request (Ok place_made) ms ys h g turn place other place_is opens in
        let done_is : d.done ≡ its_job.progress.done + 1 = ap (λ (z : TheEndProgress). z.done) same in
        omega (arith, turn_is, done_is)

    done_there : (k : ℕ) (y : JoinedCore) → slice_get ys k ≡ Some y → HasDone y.run request.opening.binding
    done_there k y y_is d turn place other d_is at opens =
        elim (set_cases ms n (record h.before { run = alone h.after }) k y (ap (λ (l : List JoinedCore). slice_get l k) (sym h.rest) ∙ y_is)) [
          | inl (here, same) ↦
              done_here d turn place other (ap (λ (z : JoinedCore). progress_at z.run.progresses (client_of request.opening.binding)) (sym same)
              ∙ d_is) at opens
          | inr (apart, stood) ↦ absurd (apart (one_core n name request (Ok place_made) ms ys h g k y d turn place stood d_is at))
        ]

  -- ---- in an interleaving

  module _ (first : ℕ) (number : first ≡ length made.bindings.items) where
    one_new : (n : ℕ) (log_entry : LogEntry) (taken : List ℕ) (ms ys : List JoinedCore) → HappensAt j.jobs n log_entry ms ys → AllStay (begun w) ms
        → AreDone ms taken → IsNewNumber first taken log_entry
    one_new n (opened name request answer) taken ms ys h g past =
        let many = behind_first n name request answer ms ys h g in
        (omega (arith, many, number), not_taken n name request answer ms ys h g taken past)
    one_new n log_entry taken ms ys h g past = tt

    and_done : (n : ℕ) (log_entry : LogEntry) (taken : List ℕ) (ms ys : List JoinedCore) → HappensAt j.jobs n log_entry ms ys → AllStay (begun w) ms
        → AreDone ms taken → AreDone ys (and_taken taken log_entry)
    and_done n (opened name request (Ok e)) taken ms ys h g past =
        one_taken request.opening.binding taken ys (done_there n name request e ms ys h g) (done_on n (opened name request (Ok e)) taken ms ys h past)
    and_done n (opened name request (Err fault)) taken ms ys h g past = done_on n (opened name request (Err fault)) taken ms ys h past
    and_done n log_entry taken ms ys h g past = done_on n log_entry taken ms ys h past

    all_new : (moments : List Moment) (taken : List ℕ) (ms ys : List JoinedCore) → AllStay (begun w) ms → AreDone ms taken
        → Interleaves j.jobs ms moments ys → AllAreNew first taken moments
    all_new [] taken ms ys g past h = tt
    all_new (does n log_entry ∷ moments) taken ms ys g past h = (
      one_new n log_entry taken ms h.0 h.1.1 g past,
      all_new moments (and_taken taken log_entry) h.0 ys (one_more j.jobs n log_entry (begun w) ms h.0 h.1.1 g)
          (and_done n log_entry taken ms h.0 h.1.1 g past) h.2,
    )
    all_new (forwards n look follows ∷ moments) taken ms ys g past h =
        let between = h.1.1.0 in
        let stays = one_more j.jobs n look (begun w) ms between h.1.1.1 g in
        let still = done_on n look taken ms between h.1.1.1 past in
        all_new moments taken h.0 ys (one_more j.jobs n follows (begun w) between h.0 h.1.1.2 stays) (done_on n follows taken between h.0 h.1.1.2 still) h.2

    pub numbers_are_new : (moments : List Moment) (ys : List JoinedCore) → Interleaves j.jobs (begun w) moments ys → AllAreNew first [] moments
    numbers_are_new moments ys h = all_new moments [] (begun w) ys (all_themselves (begun w)) none h
      where
        none : AreDone (begun w) []
        none i binding n x is x_is d turn place request d_is at opens = absurd (cc)
