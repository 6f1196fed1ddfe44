-- A refusal that stood at an end's progress stays there: no entry leads to the end then, and no job is left that opens its binding.
use Rattle.std.proofs.Common.{◌≡◌, ◌≢◌, refl, sym, ap, ◌∙◌, subst, ℕ, ◌+◌, ◌≤◌, ◌⊎◌, inl, inr, List, [], ◌∷◌, slice_get, Option, Some, None, Bool, true, false}
use Rattle.std.proofs.Common.{Result, Ok, Err, arith}
use Rattle.fl_base.specs.declared.fragment.Frag.{Frag}
use Rattle.fl_base.specs.declared.identity.EndId.{EndId}
use Rattle.fl_base.specs.declared.identity.LinkId.{LinkId}
use Rattle.fl_base.specs.declared.identity.Side.TheVariants.{Client}
use Rattle.fl_base.specs.Given.{given}
use Rattle.fl_ring.specs.SharedSides.{TheSide}
use Rattle.fl_hop.specs.declared.entry.HopTarget.TheVariants.{End}
use Rattle.fl_hop.specs.Later.{way_at}
use Rattle.fl_hop.specs.Stretch.{same_end}
use Rattle.fl_hop.specs.Table.{slot}
use Rattle.fl_hop.proofs.Lists.{within}
use Rattle.fl_monitor.specs.declared.fault.MonitorFault.TheVariants as monitor
use Rattle.fl_core.specs.View.{TheCore, client_of}
use Rattle.fl_core.specs.declared.answer.MonitorAnswer.{MonitorAnswer}
use Rattle.fl_core.specs.declared.answer.MonitorAnswer.TheVariants as heard_as
use Rattle.fl_core.specs.declared.fault.LinkReceiveFault.{LinkReceiveFault}
use Rattle.fl_core.specs.declared.fault.OpenFault.{OpenFault}
use Rattle.fl_core.specs.declared.fault.OpenFault.TheVariants as opening
use Rattle.fl_core.specs.declared.core_job.CoreJob.{CoreJob}
use Rattle.fl_core.specs.declared.core_job.CoreJob.TheVariants as job
use Rattle.fl_core.specs.declared.core_job.OpenRequest.{OpenRequest}
use Rattle.fl_core_run.specs.EndProgress.{TheEndProgress, progress_place}
use Rattle.fl_core_run.specs.Run.{TheRun, AtProgress, next_job}
use Rattle.fl_core_run.specs.LogEntries.{LogEntry, looked, passed, arrived, heard, said, told, opened, called, ruled, wrote, acked, turned, Does, Notes, IsSound}
use Rattle.fl_core_run.specs.OpeningStatus.{refusal_at}
use Rattle.fl_core_run_laws.specs.Logs.{InPlace, Goes, TurnsAreLogged}
use Rattle.fl_core_run_laws.specs.Made.{progress_of}
use Rattle.fl_core_run_laws.proofs.Aside.{core_aside}
use Rattle.fl_core_run_laws.proofs.Handling.{progresses_stay, one_end}
use Rattle.fl_core_run_laws.proofs.Tables.{way_there, stands_there}
use Rattle.fl_cores_file.specs.Jobs.{Job}
use Rattle.fl_cores_jobs.specs.State.{TheJoinedJobs, AreJoined}
use Rattle.fl_cores_laws.specs.EndedCores.{shared_ways, OneCore}
use Rattle.fl_cores_laws.specs.EndedBegins.{IsUntouched, Begins}
use Rattle.fl_cores_laws.specs.Complete.{RefusalsStay}
use Rattle.fl_cores_laws.proofs.Older.{refuses, refused_heard, refused_here, number_stays, all_older, Younger, younger, changed_progress}
use Rattle.fl_cores_laws.proofs.Opening.{Opens, GivenWork, given_work_none, given_work}
use Rattle.fl_cores_laws.proofs.Entries.{IsAskedFor, IsGone, is_gone, came}

-- ---- the next job

pub record NextJob (jobs : List CoreJob) (s : TheRun TheSide) (e : EndId) (next : CoreJob) : Type 0 where
  pub progress : TheEndProgress
  pub progress_is : progress_of s e ≡ Some progress
  pub place : ℕ
  pub place_is : slice_get progress.jobs progress.done ≡ Some place
  pub job_is : slice_get jobs place ≡ Some next

by_given : {X Y : Type 0} (o : Option X) (f : X → Option Y) (y : Y) → given o None f ≡ Some y → (x : X) × (o ≡ Some x) × (f x ≡ Some y)
by_given None f y is = absurd (cc)
by_given (Some x) f y is = (x, refl, is)

next_is : (jobs : List CoreJob) (s : TheRun TheSide) (e : EndId) (next : CoreJob) → next_job jobs s e ≡ Some next → NextJob jobs s e next
next_is jobs s e next is =
    let (n, place, one) = by_given (progress_place s.progresses e) (λ (i : ℕ). given (slice_get s.progresses i) None (λ (d : TheEndProgress). given (slice_get d.jobs d.done) None (λ (p : ℕ). slice_get jobs p))) next is in
    let (d, there, two) = by_given (slice_get s.progresses n) (λ (x : TheEndProgress). given (slice_get x.jobs x.done) None (λ (p : ℕ). slice_get jobs p)) next one in
    let (p, at, three) = by_given (slice_get d.jobs d.done) (λ (i : ℕ). slice_get jobs i) next two in
    record {
      progress = d;
      progress_is = ap (λ (o : Option ℕ). given o None (λ (i : ℕ). slice_get s.progresses i)) place ∙ there;
      place = p;
      place_is = at;
      job_is = three;
    }

-- ---- what is kept

module _ (jobs : List CoreJob) (e : EndId) where
  -- no job that is left at this end's progress opens a circuit
  abbrev Behind : TheEndProgress → Type 0
  Behind d = (i p : ℕ) (w : OpenRequest) → d.done ≤ i → slice_get d.jobs i ≡ Some p → Opens jobs p w → ⊥

  abbrev Begun : TheRun TheSide → Type 0
  Begun s = (d : TheEndProgress) → progress_of s e ≡ Some d → Behind d

  -- a job opens the end's binding
  pub record IsRequested : Type 0 where
    pub place : ℕ
    pub request : OpenRequest
    pub job_is : Opens jobs place request
    pub end_is : e ≡ client_of request.opening.binding

  abbrev NoneLeads : TheRun TheSide → Type 0
  NoneLeads s = (l n : ℕ) → way_at s.core.monitor.circuits l n ≡ Some (End e) → ⊥

  pub record IsOver (s : TheRun TheSide) : Type 0 where
    pub client : e.side ≡ Client
    pub begun : Begun s
    pub requested : IsRequested
    pub none : NoneLeads s

  pub record Stays (s : TheRun TheSide) : Type 0 where
    pub end_works : (f : EndId) (d : TheEndProgress) → progress_of s f ≡ Some d → GivenWork jobs f d.jobs
    pub led : e.side ≡ Client → (l n : ℕ) → way_at s.core.monitor.circuits l n ≡ Some (End e) → Begun s × IsRequested
    pub over : refusal_at s e ≢ 0 → IsOver s

  -- ---- one event

  module _ (s : TheRun TheSide) (log_entry : LogEntry) (t m : TheRun TheSide) (does : Does shared_ways log_entry s m) (notes : Notes log_entry m t) (sound : IsSound s.core)
      (by : InPlace jobs s log_entry) (stays : Stays s) where
    progresses_are : m.progresses ≡ s.progresses
    progresses_are = progresses_stay shared_ways log_entry s m does

    core_is : t.core ≡ m.core
    core_is = core_aside m t log_entry notes

    progress_before : (f : EndId) (d : TheEndProgress) → progress_of s f ≡ Some d → progress_of m f ≡ Some d
    progress_before f d is = ap (λ (ds : List TheEndProgress). given (progress_place ds f) None (λ (i : ℕ). slice_get ds i)) progresses_are ∙ is

    was : (f : EndId) (u : TheEndProgress) → progress_of t f ≡ Some u → Younger m t f u
    was f u is = younger m t (all_older m t log_entry notes) f u is

    was_there : (f : EndId) (d : TheEndProgress) → progress_of m f ≡ Some d → progress_of s f ≡ Some d
    was_there f d is = ap (λ (ds : List TheEndProgress). given (progress_place ds f) None (λ (i : ℕ). slice_get ds i)) (sym progresses_are) ∙ is

    end_works_on : (f : EndId) (d : TheEndProgress) → progress_of t f ≡ Some d → GivenWork jobs f d.jobs
    end_works_on f d is =
        let y = was f d is in
        subst (λ (ps : List ℕ). GivenWork jobs f ps) (sym y.older.jobs) (stays.end_works f y.progress (was_there f y.progress y.progress_is))

    begun_on : Begun s → Begun t
    begun_on begun d is i p w after at opens =
        let y = was e d is in
        let older = y.older.done in
        begun y.progress (was_there e y.progress y.progress_is) i p w (omega (arith, older, after)) (ap (λ (ps : List ℕ). slice_get ps i) (sym y.older.jobs) ∙ at) opens

    number_before : refusal_at m e ≡ refusal_at s e
    number_before = ap (λ (ds : List TheEndProgress). given (progress_place ds e) 0 (λ (n : ℕ). given (slice_get ds n) 0 (λ (d : TheEndProgress). d.refused))) progresses_are

    -- ---- an opening of this end

    module _ (f : EndId) (request : OpenRequest) (next : next_job jobs s f ≡ Some (job.Open request)) where
      abbrev it : NextJob jobs s f (job.Open request)
      it = next_is jobs s f (job.Open request) next

      opens_own : f ≡ client_of request.opening.binding
      opens_own = (stays.end_works f it.progress it.progress_is).own it.progress.done it.place request it.place_is it.job_is

      -- then a job that opens is left
      not_begun : f ≡ e → Begun s → ⊥
      not_begun same begun =
          begun it.progress (subst (λ (x : EndId). progress_of s x ≡ Some it.progress) same it.progress_is) it.progress.done it.place request (omega arith) it.place_is it.job_is

      requests : f ≡ e → IsRequested
      requests same = record { place = it.place; request = request; job_is = it.job_is; end_is = sym same ∙ opens_own }

      -- and none once it is done
      begins : (change : TheEndProgress → TheEndProgress) → ((d : TheEndProgress) → ((change d).done ≡ d.done + 1) × ((change d).jobs ≡ d.jobs)) → AtProgress f change m t → f ≡ e → Begun t
      begins change is at same u there i p w after place opens =
          let d = it.progress in
          let here : progress_of t f ≡ Some u = subst (λ (x : EndId). progress_of t x ≡ Some u) (sym same) there in
          let now : u ≡ change d = changed_progress m t f change d u (progress_before f d it.progress_is) here at in
          let jobs_are : u.jobs ≡ d.jobs = ap (λ (x : TheEndProgress). x.jobs) now ∙ (is d).1 in
          let done_is : u.done ≡ d.done + 1 = ap (λ (x : TheEndProgress). x.done) now ∙ (is d).0 in
          let one : i ≡ d.done =
          (stays.end_works f d it.progress_is).once i d.done p it.place w request (ap (λ (ps : List ℕ). slice_get ps i) (sym jobs_are) ∙ place) opens it.place_is it.job_is in
          absurd (omega (arith, one, done_is, after))

    -- ---- what leads to the end

    led_before : (client : e.side ≡ Client) (l n : ℕ) → way_at t.core.monitor.circuits l n ≡ Some (End e) → (way_at s.core.monitor.circuits l n ≡ Some (End e)) ⊎ IsAskedFor e log_entry
    led_before client l n at = came s m sound.table e client l n log_entry does (ap (λ (k : TheCore). way_at k.monitor.circuits l n) (sym core_is) ∙ at)

-- an event that asks for the end's circuit is in its place, and is noted
asked_begun : (jobs : List CoreJob) (e : EndId) (s : TheRun TheSide) (log_entry : LogEntry) (t m : TheRun TheSide) (does : Does shared_ways log_entry s m) (notes : Notes log_entry m t) (sound : IsSound s.core)
    (by : InPlace jobs s log_entry) (stays : Stays jobs e s) → IsAskedFor e log_entry → Begun jobs e t × IsRequested jobs e
asked_begun jobs e s (opened f request (Ok k)) t m does notes sound by stays asked =
    let own = opens_own jobs e s (opened f request (Ok k)) t m does notes sound by stays f request by.0 in (
      begins jobs e s (opened f request (Ok k)) t m does notes sound by stays f request by.0 _ (λ d. (refl, refl)) notes (own ∙ sym asked),
      requests jobs e s (opened f request (Ok k)) t m does notes sound by stays f request by.0 (own ∙ sym asked),
    )
asked_begun jobs e s (opened f request (Err fault)) t m does notes sound by stays asked = absurd asked
asked_begun jobs e s (looked n l answer) t m does notes sound by stays asked = absurd asked
asked_begun jobs e s (passed n k frag c outcome) t m does notes sound by stays asked = absurd asked
asked_begun jobs e s (arrived n l frag f answer) t m does notes sound by stays asked = absurd asked
asked_begun jobs e s (heard n l frag answer) t m does notes sound by stays asked = absurd asked
asked_begun jobs e s (said n l answer) t m does notes sound by stays asked = absurd asked
asked_begun jobs e s (told n l answer) t m does notes sound by stays asked = absurd asked
asked_begun jobs e s (called f c answer) t m does notes sound by stays asked = absurd asked
asked_begun jobs e s (ruled f msg reply answer) t m does notes sound by stays asked = absurd asked
asked_begun jobs e s (wrote f out answer) t m does notes sound by stays asked = absurd asked
asked_begun jobs e s (acked f n answer) t m does notes sound by stays asked = absurd asked
asked_begun jobs e s (turned d f from answer) t m does notes sound by stays asked = absurd asked

-- nor does one come where no job is left that opens
not_asked : (jobs : List CoreJob) (e : EndId) (s : TheRun TheSide) (log_entry : LogEntry) (t m : TheRun TheSide) (does : Does shared_ways log_entry s m) (notes : Notes log_entry m t) (sound : IsSound s.core)
    (by : InPlace jobs s log_entry) (stays : Stays jobs e s) → Begun jobs e s → IsAskedFor e log_entry → ⊥
not_asked jobs e s (opened f request (Ok k)) t m does notes sound by stays begun asked =
    let own = opens_own jobs e s (opened f request (Ok k)) t m does notes sound by stays f request by.0 in
    not_begun jobs e s (opened f request (Ok k)) t m does notes sound by stays f request by.0 (own ∙ sym asked) begun
not_asked jobs e s (opened f request (Err fault)) t m does notes sound by stays begun asked = asked
not_asked jobs e s (looked n l answer) t m does notes sound by stays begun asked = asked
not_asked jobs e s (passed n k frag c outcome) t m does notes sound by stays begun asked = asked
not_asked jobs e s (arrived n l frag f answer) t m does notes sound by stays begun asked = asked
not_asked jobs e s (heard n l frag answer) t m does notes sound by stays begun asked = asked
not_asked jobs e s (said n l answer) t m does notes sound by stays begun asked = asked
not_asked jobs e s (told n l answer) t m does notes sound by stays begun asked = asked
not_asked jobs e s (called f c answer) t m does notes sound by stays begun asked = asked
not_asked jobs e s (ruled f msg reply answer) t m does notes sound by stays begun asked = asked
not_asked jobs e s (wrote f out answer) t m does notes sound by stays begun asked = asked
not_asked jobs e s (acked f n answer) t m does notes sound by stays begun asked = asked
not_asked jobs e s (turned d f from answer) t m does notes sound by stays begun asked = asked

-- ---- where the end's opening is refused

-- it had not been, and is over then
abbrev NowOver : List CoreJob → EndId → TheRun TheSide → TheRun TheSide → Type 0
NowOver jobs e s t = (refusal_at s e ≢ 0 → ⊥) × IsOver jobs e t

module _ (jobs : List CoreJob) (e : EndId) (s t m : TheRun TheSide) (sound : IsSound s.core) (stays : Stays jobs e s) where
  heard_over : (n : ℕ) (l : LinkId) (frag : Frag) (answer : Result MonitorAnswer LinkReceiveFault) (does : Does shared_ways (heard n l frag answer) s m) (notes : Notes (heard n l frag answer) m t)
      (by : InPlace jobs s (heard n l frag answer)) → refused_heard e answer ≡ true → NowOver jobs e s t
  heard_over n l frag (Ok (heard_as.OpeningRefused f reason)) does notes by test =
      let log_entry : LogEntry = heard n l frag (Ok (heard_as.OpeningRefused f reason)) in
      let gone : IsGone e s.core m.core = subst (λ (x : EndId). IsGone x s.core m.core) (one_end f e test) (is_gone s.offers l s.core sound.table f reason m.core frag does.event.0) in (
        λ some. (stays.over some).none gone.link gone.number gone.led,
        record {
          client = gone.client;
          begun = begun_on jobs e s log_entry t m does notes sound by stays (stays.led gone.client gone.link gone.number gone.led).0;
          requested = (stays.led gone.client gone.link gone.number gone.led).1;
          none = λ a b at. gone.none a b (ap (λ (k : TheCore). way_at k.monitor.circuits a b) (sym (core_is jobs e s log_entry t m does notes sound by stays)) ∙ at);
        },
      )
  heard_over n l frag (Ok heard_as.Full) does notes by test = absurd (cc)
  heard_over n l frag (Ok heard_as.Done) does notes by test = absurd (cc)
  heard_over n l frag (Ok (heard_as.Opened f)) does notes by test = absurd (cc)
  heard_over n l frag (Err fault) does notes by test = absurd (cc)

  here_over : (f : EndId) (request : OpenRequest) (fault : OpenFault) (does : Does shared_ways (opened f request (Err fault)) s m) (notes : Notes (opened f request (Err fault)) m t)
      (by : InPlace jobs s (opened f request (Err fault))) (change : TheEndProgress → TheEndProgress) → ((d : TheEndProgress) → ((change d).done ≡ d.done + 1) × ((change d).jobs ≡ d.jobs)) → AtProgress f change m t
      → same_end f e ≡ true → NowOver jobs e s t
  here_over f request fault does notes by change is at test =
      let log_entry : LogEntry = opened f request (Err fault) in
      let same : f ≡ e = one_end f e test in
      let never : Begun jobs e s → ⊥ = not_begun jobs e s log_entry t m does notes sound by stays f request by.0 same in
      let client : e.side ≡ Client = ap (λ (x : EndId). x.side) (sym same ∙ opens_own jobs e s log_entry t m does notes sound by stays f request by.0) in (
        λ some. never (stays.over some).begun,
        record {
          client = client;
          begun = begins jobs e s log_entry t m does notes sound by stays f request by.0 change is at same;
          requested = requests jobs e s log_entry t m does notes sound by stays f request by.0 same;
          none = λ a b there. elim (led_before jobs e s log_entry t m does notes sound by stays client a b there) [
            | inl old ↦ never (stays.led client a b old).0
            | inr asked ↦ asked
          ];
        },
      )

  opened_over : (f : EndId) (request : OpenRequest) (answer : Result ℕ OpenFault) (does : Does shared_ways (opened f request answer) s m) (notes : Notes (opened f request answer) m t)
      (by : InPlace jobs s (opened f request answer)) → refused_here e f answer ≡ true → NowOver jobs e s t
  opened_over f request (Ok k) does notes by test = absurd (cc)
  opened_over f request (Err (opening.Board fault)) does notes by test = here_over f request (opening.Board fault) does notes by _ (λ d. (refl, refl)) notes test
  opened_over f request (Err (opening.Monitor monitor.OutboxFull)) does notes by test = absurd (cc)
  opened_over f request (Err (opening.Monitor monitor.Misrouted)) does notes by test = here_over f request (opening.Monitor monitor.Misrouted) does notes by _ (λ d. (refl, refl)) notes test
  opened_over f request (Err (opening.Monitor monitor.Differs)) does notes by test = here_over f request (opening.Monitor monitor.Differs) does notes by _ (λ d. (refl, refl)) notes test
  opened_over f request (Err (opening.Monitor monitor.NoRoute)) does notes by test = here_over f request (opening.Monitor monitor.NoRoute) does notes by _ (λ d. (refl, refl)) notes test
  opened_over f request (Err (opening.Monitor monitor.UsedUp)) does notes by test = here_over f request (opening.Monitor monitor.UsedUp) does notes by _ (λ d. (refl, refl)) notes test
  opened_over f request (Err (opening.Monitor monitor.PlansDiffer)) does notes by test = here_over f request (opening.Monitor monitor.PlansDiffer) does notes by _ (λ d. (refl, refl)) notes test
  opened_over f request (Err (opening.Monitor monitor.Memory)) does notes by test = here_over f request (opening.Monitor monitor.Memory) does notes by _ (λ d. (refl, refl)) notes test

  now_over : (log_entry : LogEntry) (does : Does shared_ways log_entry s m) (notes : Notes log_entry m t) (by : InPlace jobs s log_entry) → refuses e log_entry ≡ true → NowOver jobs e s t
  now_over (looked n l answer) does notes by test = absurd (cc)
  now_over (passed n k frag c outcome) does notes by test = absurd (cc)
  now_over (arrived n l frag f answer) does notes by test = absurd (cc)
  now_over (heard n l frag answer) does notes by test = heard_over n l frag answer does notes by test
  now_over (said n l answer) does notes by test = absurd (cc)
  now_over (told n l answer) does notes by test = absurd (cc)
  now_over (opened f request answer) does notes by test = opened_over f request answer does notes by test
  now_over (called f c answer) does notes by test = absurd (cc)
  now_over (ruled f msg reply answer) does notes by test = absurd (cc)
  now_over (wrote f out answer) does notes by test = absurd (cc)
  now_over (acked f n answer) does notes by test = absurd (cc)
  now_over (turned d f from answer) does notes by test = absurd (cc)

-- ---- a log

module _ (jobs : List CoreJob) (e : EndId) where
  -- a refusal that stood there stands there
  record StaysOn (s t : TheRun TheSide) : Type 0 where
    pub stays : Stays jobs e t
    pub keeps : refusal_at s e ≢ 0 → refusal_at t e ≢ 0

  module _ (s : TheRun TheSide) (log_entry : LogEntry) (t m : TheRun TheSide) (does : Does shared_ways log_entry s m) (notes : Notes log_entry m t) (sound : IsSound s.core)
      (by : InPlace jobs s log_entry) (stays : Stays jobs e s) where
    over_on : refuses e log_entry ≡ false → refusal_at t e ≢ 0 → IsOver jobs e t
    over_on not some =
        let before : refusal_at s e ≢ 0 = λ none. some (number_stays m t e log_entry not notes ∙ number_before jobs e s log_entry t m does notes sound by stays ∙ none) in
        let over = stays.over before in
        record {
          client = over.client;
          begun = begun_on jobs e s log_entry t m does notes sound by stays over.begun;
          requested = over.requested;
          none = λ a b at. elim (led_before jobs e s log_entry t m does notes sound by stays over.client a b at) [
            | inl old ↦ over.none a b old
            | inr asked ↦ not_asked jobs e s log_entry t m does notes sound by stays over.begun asked
          ];
        }

    led_on : e.side ≡ Client → (l n : ℕ) → way_at t.core.monitor.circuits l n ≡ Some (End e) → Begun jobs e t × IsRequested jobs e
    led_on client l n at = elim (led_before jobs e s log_entry t m does notes sound by stays client l n at) [
      | inl old ↦ (let was = stays.led client l n old in (begun_on jobs e s log_entry t m does notes sound by stays was.0, was.1))
      | inr asked ↦ asked_begun jobs e s log_entry t m does notes sound by stays asked
    ]

    one_by : (b : Bool) → refuses e log_entry ≡ b → StaysOn s t
    one_by false test = record {
      stays = record { end_works = end_works_on jobs e s log_entry t m does notes sound by stays; led = led_on; over = over_on test };
      keeps = λ some none. some (sym (number_before jobs e s log_entry t m does notes sound by stays) ∙ sym (number_stays m t e log_entry test notes) ∙ none);
    }
    one_by true test =
        let now = now_over jobs e s t m sound stays log_entry does notes by test in
        record {
          stays = record { end_works = end_works_on jobs e s log_entry t m does notes sound by stays; led = led_on; over = λ some. now.1 };
          keeps = λ some. absurd (now.0 some);
        }

  log_stays : (log : List LogEntry) (s t : TheRun TheSide) → Goes shared_ways jobs s log t → Stays jobs e s → StaysOn s t
  log_stays [] s t same stays = record {
    stays = subst (λ (x : TheRun TheSide). Stays jobs e x) (sym same) stays;
    keeps = λ some none. some (ap (λ (x : TheRun TheSide). refusal_at x e) (sym same) ∙ none);
  }
  log_stays (log_entry ∷ log) s t h stays =
      let one = one_by s log_entry h.0 h.1.0 h.1.1 h.1.2 h.1.3 h.2 stays (refuses e log_entry) refl in
      let rest = log_stays log h.0 t h.3 one.stays in
      record { stays = rest.stays; keeps = λ some. rest.keeps (one.keeps some) }

-- ---- a whole run

no_number : (o : Option ℕ) (progresses : List TheEndProgress) → ((d : TheEndProgress) → given o None (λ n. slice_get progresses n) ≡ Some d → d.refused ≡ 0)
    → given o 0 (λ n. given (slice_get progresses n) 0 (λ (d : TheEndProgress). d.refused)) ≡ 0
no_number None progresses none = refl
no_number (Some n) progresses none = by_progress (slice_get progresses n) none where
  by_progress : (o : Option TheEndProgress) → ((d : TheEndProgress) → o ≡ Some d → d.refused ≡ 0) → given o 0 (λ (d : TheEndProgress). d.refused) ≡ 0
  by_progress None all = refl
  by_progress (Some d) all = all d refl

module _ (cores : ℕ) (asked : List Job) (j : TheJoinedJobs) (joined : AreJoined cores asked j) (n : ℕ) (c : OneCore) (begins_so : Begins j n c) (e : EndId) where
  abbrev start : TheRun TheSide
  start = c.begin.run

  none_there : refusal_at start e ≡ 0
  none_there = no_number (progress_place start.progresses e) start.progresses (λ d is. (begins_so.untouched e d is).refused)

  end_works_by : (f : EndId) (d : TheEndProgress) → IsUntouched j f d → GivenWork j.jobs f d.jobs
  end_works_by f d is = elim is.jobs [
    | inl all ↦ subst (λ (ps : List ℕ). GivenWork j.jobs f ps) (sym all) (given_work cores asked j joined f)
    | inr none ↦ subst (λ (ps : List ℕ). GivenWork j.jobs f ps) (sym none) (given_work_none j.jobs f)
  ]

  idle : IsSound start.core → (l i : ℕ) → way_at start.core.monitor.circuits l i ≡ Some (End e) → ⊥
  idle sound l i at =
      let t = start.core.monitor.circuits in
      let (hop, there, way) = way_there t l i (End e) at in
      let stands = stands_there t l i hop there in
      let below = within t.hops (slot l i) (Some hop) stands.1 in
      let whole = sound.table.whole in
      let link_sides = sound.core.link_sides in
      let none = begins_so.idle l i (omega (arith, below, whole, link_sides)) in
      let clash : Some hop ≡ None = sym there ∙ none in
      absurd (cc)

  at_start : IsSound start.core → Stays j.jobs e start
  at_start sound = record {
    end_works = λ f d is. end_works_by f d (begins_so.untouched f d is);
    led = λ client l i at. absurd (idle sound l i at);
    over = λ some. absurd (some none_there);
  }

  pub by_log : (log : List LogEntry) (m : TheRun TheSide) → Goes shared_ways j.jobs start log m → refusal_at m e ≢ 0 → Stays j.jobs e m
  by_log [] m same some = absurd (some (ap (λ (x : TheRun TheSide). refusal_at x e) same ∙ none_there))
  by_log (log_entry ∷ log) m h some = (log_stays j.jobs e (log_entry ∷ log) start m h (at_start h.1.3)).stays

pub refusals_stay : TurnsAreLogged shared_ways → (cores : ℕ) (asked : List Job) (j : TheJoinedJobs) → AreJoined cores asked j → (n : ℕ) (c : OneCore) → Begins j n c → RefusalsStay j.jobs c
refusals_stay logged cores asked j joined n c begins_so m e from on some =
    let before = logged c.plan j.jobs from.0 c.begin.run m from.1 in
    let after = logged c.plan j.jobs on.0 m c.finish on.1 in
    (log_stays j.jobs e after.log m c.finish after.goes (by_log cores asked j joined n c begins_so e before.log m before.goes some)).keeps some
