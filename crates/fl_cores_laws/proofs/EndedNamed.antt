-- Each binding of which a core knew that its opening was refused is named.
use Rattle.std.proofs.Common.{◌≡◌, ◌≢◌, refl, sym, ap, ◌∙◌, subst, ℕ, ◌==◌, inl, inr, if◌then◌else◌, List, length, slice_get, Option, Some, None, Bool, true, false, arith, ◌+◌, ◌⊎◌, [], ◌∷◌}
use Rattle.std.proofs.lemmas.Option.{same_Some}
use Rattle.std.proofs.lemmas.Bool.Decides.{nat_tests}
use Rattle.fl_base.specs.declared.identity.EndId.{EndId}
use Rattle.fl_base.specs.declared.identity.Side.{Side}
use Rattle.fl_base.specs.declared.identity.Side.TheVariants.{Client, Server}
use Rattle.fl_base.specs.Given.{given}
use Rattle.fl_core.proofs.BoardPlaces.{one_stands}
use Rattle.fl_core.specs.View.{client_of}
use Rattle.fl_core_run.specs.declared.opening_status.OpeningStatus.{OpeningStatus}
use Rattle.fl_core_run.specs.declared.opening_status.OpeningStatus.TheVariants.{Silent, Tells, Hears, Refused}
use Rattle.fl_core_run.specs.OpeningStatus.{refusal_at, word_by}
use Rattle.fl_core_run_laws.specs.Logs.{TurnsAreLogged, ProgressTellHandled, CountedAreTurns}
use Rattle.fl_cores_file.specs.Jobs.{Job}
use Rattle.fl_cores_file.specs.Report.{TheReport, refusal_of}
use Rattle.fl_cores_jobs.specs.declared.end_work.BindingCores.{BindingCores}
use Rattle.fl_cores_jobs.specs.State.{TheJoinedJobs}
use Rattle.fl_cores_jobs.specs.Joined.{core_at}
use Rattle.fl_cores_laws.specs.EndedCores.{shared_ways, OneCore}
use Rattle.fl_cores_laws.specs.EndedBegins.{word_at, word_of, Ran}
use Rattle.fl_cores_laws.specs.EndedHeard.{Among}
use Rattle.fl_cores_laws.specs.Complete.{Knows, AreNamed, RefusalsStay, RunsKeepRefusals, RefusalsAreNamed}
use Rattle.fl_cores_laws.specs.Refused.{SetUpIsNotRefused}
use Rattle.fl_cores_laws.proofs.Learning.{Became, Tracks}
use Rattle.fl_cores_laws.proofs.Ended.{tracks}
use Rattle.fl_cores_laws.proofs.Staying.{refusals_stay}

-- ---- whose word it is

client_end : (e : EndId) → e.side ≡ Client → e ≡ client_of e.binding
client_end e is = ap (λ (s : Side). record { binding = e.binding; side = s }) is

-- a word that tells of a job is that of the client's end of the binding that the job opens
pub record Opens (bindings : List BindingCores) (e : EndId) (job : ℕ) : Type 0 where
  pub bound : BindingCores
  pub bound_is : slice_get bindings e.binding ≡ Some bound
  pub opened : bound.opened ≡ Some job
  pub client : e ≡ client_of e.binding

job_by : (o : Option ℕ) (job : ℕ) → word_by Tells o ≡ Tells job → o ≡ Some job
job_by None job is = absurd (let clash : Silent ≡ Tells job = is in cc)
job_by (Some i) job is = let same : i ≡ job = cc in ap Some same

no_tells_by : (o : Option ℕ) (job : ℕ) → word_by Hears o ≡ Tells job → ⊥
no_tells_by None job is = absurd (let clash : Silent ≡ Tells job = is in cc)
no_tells_by (Some i) job is = absurd (let clash : Hears i ≡ Tells job = is in cc)

opens_at : (bindings : List BindingCores) (e : EndId) (job : ℕ) (b : BindingCores) → slice_get bindings e.binding ≡ Some b → (s : Side) → e.side ≡ s → word_at s b ≡ Tells job
    → Opens bindings e job
opens_at bindings e job b at Client side is = record { bound = b; bound_is = at; opened = job_by b.opened job is; client = client_end e side }
opens_at bindings e job b at Server side is = absurd (no_tells_by b.opened job is)

opens_by : (bindings : List BindingCores) (e : EndId) (job : ℕ) (o : Option BindingCores) → slice_get bindings e.binding ≡ o → given o Silent (word_at e.side) ≡ Tells job
    → Opens bindings e job
opens_by bindings e job None at is = absurd (let clash : Silent ≡ Tells job = is in cc)
opens_by bindings e job (Some b) at is = opens_at bindings e job b at e.side refl is

opens_of : (bindings : List BindingCores) (e : EndId) (job : ℕ) → word_of bindings e ≡ Tells job → Opens bindings e job
opens_of bindings e job is = opens_by bindings e job (slice_get bindings e.binding) refl is

-- a word that hears of a job is that of an end of the binding that the job opens
heard_job : (o : Option ℕ) (job : ℕ) → word_by Hears o ≡ Hears job → o ≡ Some job
heard_job None job is = absurd (let clash : Silent ≡ Hears job = is in cc)
heard_job (Some i) job is = let same : i ≡ job = cc in ap Some same

no_hears_by : (o : Option ℕ) (job : ℕ) → word_by Tells o ≡ Hears job → ⊥
no_hears_by None job is = absurd (let clash : Silent ≡ Hears job = is in cc)
no_hears_by (Some i) job is = absurd (let clash : Tells i ≡ Hears job = is in cc)

hears_at : (job : ℕ) (b : BindingCores) (s : Side) → word_at s b ≡ Hears job → b.opened ≡ Some job
hears_at job b Client is = absurd (no_hears_by b.opened job is)
hears_at job b Server is = heard_job b.opened job is

hears_by : (bindings : List BindingCores) (e : EndId) (job : ℕ) (o : Option BindingCores) → slice_get bindings e.binding ≡ o → given o Silent (word_at e.side) ≡ Hears job
    → (b : BindingCores) × (slice_get bindings e.binding ≡ Some b) × (b.opened ≡ Some job)
hears_by bindings e job None at is = absurd (let clash : Silent ≡ Hears job = is in cc)
hears_by bindings e job (Some b) at is = (b, at, hears_at job b e.side is)

-- no end's first word knows of a refusal
plain_by : (make : ℕ → OpeningStatus) (o : Option ℕ) (number : ℕ) → ((job : ℕ) → make job ≡ Refused number → ⊥) → word_by make o ≡ Refused number → ⊥
plain_by make None number other is = absurd (let clash : Silent ≡ Refused number = is in cc)
plain_by make (Some job) number other is = other job is

plain_at : (s : Side) (b : BindingCores) (number : ℕ) → word_at s b ≡ Refused number → ⊥
plain_at Client b number is = plain_by Tells b.opened number (λ job same. absurd (let clash : Tells job ≡ Refused number = same in cc)) is
plain_at Server b number is = plain_by Hears b.opened number (λ job same. absurd (let clash : Hears job ≡ Refused number = same in cc)) is

plain : (e : EndId) (number : ℕ) (o : Option BindingCores) → given o Silent (word_at e.side) ≡ Refused number → ⊥
plain e number None is = absurd (let clash : Silent ≡ Refused number = is in cc)
plain e number (Some b) is = plain_at e.side b number is

-- ---- what is told of an end's progress with a refusal

named_by : (number : ℕ) (b : Bool) → (number == 0) ≡ b → number ≢ 0 → (if b then None else Some number) ≢ None
named_by number true is some none = absurd (some (let zero_is : number ≡ 0 = grind (arith, nat_tests, is) in zero_is))
named_by number false is some none = absurd (let clash : Some number ≡ None = none in cc)

module _ (logged : TurnsAreLogged shared_ways) (tell : ProgressTellHandled shared_ways) (turns : CountedAreTurns shared_ways)
    (asked : List Job) (j : TheJoinedJobs) (limit : ℕ) (cores : List OneCore) (r : TheReport) (ran : Ran asked j limit cores r)
    (stay : (n : ℕ) (c : OneCore) → slice_get cores n ≡ Some c → RefusalsStay j.jobs c) where
  -- the end's progress of this end has a refusal in the end
  abbrev Refuses : OneCore → EndId → Type 0
  Refuses c e = refusal_at c.finish e ≢ 0

  all_tracks : (n : ℕ) (c : OneCore) → slice_get cores n ≡ Some c → Tracks (Refuses c) c.plan.ends.items (word_of j.bindings) c.point.run_seat
  all_tracks n c at =
      tracks logged tell turns j limit n c (ran.begins n c at) (ran.went n c at) (Refuses c) (λ m e from on some. stay n c at m e from on some)

  -- the client's core of a binding that a job opens has that refusal in the end
  pub record RefusedThere (binding : ℕ) : Type 0 where
    pub bound : BindingCores
    pub bound_is : slice_get j.bindings binding ≡ Some bound
    pub job : ℕ
    pub opened : bound.opened ≡ Some job
    pub core : OneCore
    pub core_is : slice_get cores bound.client ≡ Some core
    pub refuses : Refuses core (client_of binding)

  -- so the binding is named
  names : (binding : ℕ) → RefusedThere binding → refusal_of r binding ≢ None
  names binding there none =
      let told = ran.progresses.refused binding there.bound there.core there.bound_is there.core_is in
      named_by (refusal_at there.core.finish (client_of binding)) (refusal_at there.core.finish (client_of binding) == 0) refl there.refuses (sym told ∙ none)

  -- a client's own core has that refusal
  own_there : (n k job : ℕ) (c : OneCore) (e : EndId) → slice_get cores n ≡ Some c → slice_get c.plan.ends.items k ≡ Some e → Opens j.bindings e job → Refuses c e
      → RefusedThere e.binding
  own_there n k job c e at place o refuses =
      let own : core_at j.bindings (client_of e.binding) ≡ Some n = subst (λ (x : EndId). core_at j.bindings x ≡ Some n) o.client ((ran.begins n c at).own k e place) in
      let client : o.bound.client ≡ n =
      same_Some o.bound.client n (sym (ap (λ (x : Option BindingCores). given x None (λ (b : BindingCores). Some b.client)) o.bound_is) ∙ own) in
      record {
        bound = o.bound;
        bound_is = o.bound_is;
        job = job;
        opened = o.opened;
        core = c;
        core_is = subst (λ (i : ℕ). slice_get cores i ≡ Some c) (sym client) at;
        refuses = subst (λ (x : EndId). Refuses c x) o.client refuses;
      }

  -- what a core stored of a job is of the one binding that the job opens
  stored_there : (binding : ℕ) (b : BindingCores) (job number n : ℕ) (c : OneCore) → slice_get j.bindings binding ≡ Some b → b.opened ≡ Some job
      → slice_get cores n ≡ Some c → Among job number c.point.run_seat.seat.knows.stored → RefusedThere binding
  stored_there binding b job number n c at opened there among =
      let (f, k, place, word, refuses) = (all_tracks n c there).stored job number among in
      let o = opens_of j.bindings f job word in
      let same : f.binding ≡ binding = ran.joined.bindings.apart f.binding binding job o.bound b o.bound_is at o.opened opened in
      subst (λ (i : ℕ). RefusedThere i) same (own_there n k job c f there place o refuses)

  by_word : (n k : ℕ) (c : OneCore) (e : EndId) (number : ℕ) → slice_get cores n ≡ Some c → slice_get c.plan.ends.items k ≡ Some e → (first : OpeningStatus)
      → word_of j.bindings e ≡ first → Became (Refuses c) c.point.run_seat.seat.knows.heard e first (Refused number) → RefusedThere e.binding
  by_word n k c e number at place Silent word became = absurd (let clash : Refused number ≡ Silent = became in cc)
  by_word n k c e number at place (Tells job) word (inl same) = absurd (let clash : Refused number ≡ Tells job = same in cc)
  by_word n k c e number at place (Tells job) word (inr (refusal, is, refuses)) = own_there n k job c e at place (opens_of j.bindings e job word) refuses
  by_word n k c e number at place (Hears job) word (inl same) = absurd (let clash : Refused number ≡ Hears job = same in cc)
  -- what was heard of the job that opens this end's binding a core told
  by_word n k c e number at place (Hears job) word (inr (refusal, is, some, among)) =
      let (b, bound, opened) = hears_by j.bindings e job (slice_get j.bindings e.binding) refl word in
      let (m, d, told, there, stored) = ran.heard n job refusal b.client c at (ran.joined.bindings.opened e.binding job b bound opened) some among in
      stored_there e.binding b job told m d bound opened there stored
  by_word n k c e number at place (Refused first) word became = absurd (plain e first (slice_get j.bindings e.binding) word)

  pub refused_there : (n : ℕ) (c : OneCore) (e : EndId) → slice_get cores n ≡ Some c → Knows c e → RefusedThere e.binding
  refused_there n c e at knows =
      let (word, there, became) = (all_tracks n c at).words knows.place e knows.end_is in
      let is : word ≡ Refused knows.number = one_stands c.point.run_seat.words knows.place word (Refused knows.number) there knows.word_is in
      by_word n knows.place c e knows.number at knows.end_is (word_of j.bindings e) refl
      (subst (λ (w : OpeningStatus). Became (Refuses c) c.point.run_seat.seat.knows.heard e (word_of j.bindings e) w) is became)

  pub are_named : AreNamed cores r
  are_named n c e at knows = names e.binding (refused_there n c e at knows)

  -- of an end of a binding that no job opens nothing is known
  silent_word : (e : EndId) (b : BindingCores) → slice_get j.bindings e.binding ≡ Some b → b.opened ≡ None → word_of j.bindings e ≡ Silent
  silent_word e b at none = ap (λ (o : Option BindingCores). given o Silent (word_at e.side)) at ∙ silent_by e.side where
    silent_by : (s : Side) → word_at s b ≡ Silent
    silent_by Client = ap (word_by Tells) none
    silent_by Server = ap (word_by Hears) none

  pub unknown : (n : ℕ) (c : OneCore) (e : EndId) (b : BindingCores) → slice_get cores n ≡ Some c → slice_get j.bindings e.binding ≡ Some b → b.opened ≡ None → Knows c e → ⊥
  unknown n c e b at bound none knows =
      let (word, there, became) = (all_tracks n c at).words knows.place e knows.end_is in
      let is : word ≡ Refused knows.number = one_stands c.point.run_seat.words knows.place word (Refused knows.number) there knows.word_is in
      let still : word ≡ Silent =
      subst (λ (first : OpeningStatus). Became (Refuses c) c.point.run_seat.seat.knows.heard e first word) (silent_word e b bound none) became in
      let clash : Silent ≡ Refused knows.number = sym still ∙ is in
      absurd (cc)

-- in each run refusals stay
pub stay_so : (logged : TurnsAreLogged shared_ways) (asked : List Job) (j : TheJoinedJobs) (limit : ℕ) (cores : List OneCore) (r : TheReport) → Ran asked j limit cores r
    → (n : ℕ) (c : OneCore) → slice_get cores n ≡ Some c → RefusalsStay j.jobs c
stay_so logged asked j limit cores r ran n c at = refusals_stay logged (length cores) asked j ran.joined n c (ran.begins n c at)

pub keep_refusals : TurnsAreLogged shared_ways → RunsKeepRefusals
keep_refusals logged asked j limit cores r ran n c at = stay_so logged asked j limit cores r ran n c at

pub refusals_named : TurnsAreLogged shared_ways → ProgressTellHandled shared_ways → CountedAreTurns shared_ways → RefusalsAreNamed
refusals_named logged tell turns asked j limit cores r ran = are_named logged tell turns asked j limit cores r ran (stay_so logged asked j limit cores r ran)

pub not_refused : TurnsAreLogged shared_ways → ProgressTellHandled shared_ways → CountedAreTurns shared_ways → SetUpIsNotRefused
not_refused logged tell turns asked j limit cores r ran n c e b at bound none knows =
    unknown logged tell turns asked j limit cores r ran (stay_so logged asked j limit cores r ran) n c e b at bound none knows
