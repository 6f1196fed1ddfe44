-- A core's ends' progress as it begins, and what a report tells of them in the end.
use Rattle.std.proofs.Common.{◌≡◌, refl, sym, ap, ◌∙◌, subst, ℕ, ◌+◌, ◌*◌, ◌<◌, ◌≤◌, ◌==◌, nat_lt, List, [], map, length, slice_get, Option, Some, None, Bool, true, false, if◌then◌else◌, ◌⊎◌, inl, inr, arith}
use Rattle.std.proofs.lemmas.Bool.Decides.{nat_tests}
use Rattle.std.proofs.lemmas.Option.{slice_get_within, same_Some}
use Rattle.fl_base.specs.declared.identity.EndId.{EndId}
use Rattle.fl_base.specs.declared.identity.Side.{Side}
use Rattle.fl_base.specs.declared.identity.Side.TheVariants.{Client, Server}
use Rattle.fl_base.specs.Given.{given}
use Rattle.fl_value_data.specs.declared.value.Call.{Call}
use Rattle.fl_value_data.specs.Value.{TheCall, call_of}
use Rattle.fl_core.specs.View.{slot_of, client_of, server_of}
use Rattle.fl_core_run.specs.EndProgress.{TheEndProgress, progress_place}
use Rattle.fl_core_run_laws.specs.Logs.{in_progress}
use Rattle.fl_cores_file.specs.Report.{BothEnds, at_side, at_end}
use Rattle.fl_cores_jobs.specs.State.{TheJoinedJobs}
use Rattle.fl_cores_jobs.specs.EndWork.{TheEndWork, end_work_at}
use Rattle.fl_cores_jobs.specs.Joined.{core_at}
use Rattle.fl_cores_laws.specs.EndedBegins.{IsUntouched, refusal_by}
use Rattle.fl_cores_fork.specs.Tells.{handled_by, refusal_in, both_at, by_binding}
use Rattle.fl_cores_parts.specs.Begins.{owns, progress_by, progress_for, progresses_of}
use Rattle.fl_cores.proofs.CoresLists.{map_at, map_past, first_at, second_at, twos_many}
use Rattle.fl_cores.proofs.CoresEnding.{end_by}

-- ---- as a core begins

abbrev client_progress : ℕ → TheJoinedJobs → ℕ → TheEndProgress
client_progress core j n = progress_for core j (client_of n)

abbrev server_progress : ℕ → TheJoinedJobs → ℕ → TheEndProgress
server_progress core j n = progress_for core j (server_of n)

by_side : (core : ℕ) (j : TheJoinedJobs) (e : EndId) → e.binding < length j.bindings → (s : Side) → e.side ≡ s → slice_get (progresses_of core j) (slot_of e) ≡ Some (progress_for core j e)
by_side core j e below Client side =
    let slot : slot_of e ≡ 2 * e.binding =
    ap (λ (x : EndId). slot_of x) (end_by e e.binding Client refl side) ∙ (let same : slot_of (client_of e.binding) ≡ 2 * e.binding = omega arith in same) in
    first_at (client_progress core j) (server_progress core j) 0 (length j.bindings) e.binding e.binding (slot_of e) below (omega arith) slot
    ∙ ap (λ (x : EndId). Some (progress_for core j x)) (sym (end_by e e.binding Client refl side))
by_side core j e below Server side =
    let slot : slot_of e ≡ 2 * e.binding + 1 = ap (λ (x : EndId). slot_of x) (end_by e e.binding Server refl side) in
    second_at (client_progress core j) (server_progress core j) 0 (length j.bindings) e.binding e.binding (slot_of e) below (omega arith) slot
    ∙ ap (λ (x : EndId). Some (progress_for core j x)) (sym (end_by e e.binding Server refl side))

pub at_slot : (core : ℕ) (j : TheJoinedJobs) (e : EndId) → e.binding < length j.bindings → slice_get (progresses_of core j) (slot_of e) ≡ Some (progress_for core j e)
at_slot core j e below = by_side core j e below e.side refl

-- any end's progress is one of these, with no job done
pub record IsNew (core : ℕ) (j : TheJoinedJobs) (e : EndId) (d : TheEndProgress) : Type 0 where
  pub below : e.binding < length j.bindings
  pub progress : d ≡ progress_for core j e

pub is_new : (core : ℕ) (j : TheJoinedJobs) (e : EndId) (d : TheEndProgress) → slice_get (progresses_of core j) (slot_of e) ≡ Some d → IsNew core j e d
is_new core j e d at =
    let many = twos_many (client_progress core j) (server_progress core j) 0 (length j.bindings) in
    let there = slice_get_within (progresses_of core j) (slot_of e) d at in
    let below : e.binding < length j.bindings = omega (arith, many, there) in
    record { below = below; progress = same_Some d (progress_for core j e) (sym at ∙ at_slot core j e below) }

jobs_by : (own : Bool) (d : TheEndWork) → ((progress_by own d).jobs ≡ d.jobs) ⊎ ((progress_by own d).jobs ≡ [])
jobs_by true d = inl refl
jobs_by false d = inr refl

-- an own end's progress has the jobs of its end's work
same_test : (n : ℕ) → (n == n) ≡ true
same_test n = grind (arith, nat_tests)

pub own_jobs : (core : ℕ) (j : TheJoinedJobs) (e : EndId) → core_at j.bindings e ≡ Some core → (progress_for core j e).jobs ≡ (end_work_at j.end_works e).jobs
own_jobs core j e own =
    ap (λ (o : Option ℕ). (progress_by (given o false (λ (c : ℕ). c == core)) (end_work_at j.end_works e)).jobs) own
    ∙ ap (λ (b : Bool). (progress_by b (end_work_at j.end_works e)).jobs) (same_test core)

pub untouched : (core : ℕ) (j : TheJoinedJobs) (e : EndId) (d : TheEndProgress) → d ≡ progress_for core j e → IsUntouched j e d
untouched core j e d is = subst (λ (x : TheEndProgress). IsUntouched j e x) (sym is) (record {
  jobs = jobs_by (owns core j.bindings e) (end_work_at j.end_works e);
  done = refl;
  refused = refl;
})

-- where it is found
less : (m n : ℕ) → m < n → nat_lt m n ≡ true
less m n l = grind (arith, nat_tests, l)

abbrev placed : Bool → Bool → ℕ → Option ℕ
placed a b n = if a then (if b then Some n else None) else None

pub place_is : (progresses : List TheEndProgress) (e : EndId) (d : TheEndProgress) → e.binding < 1024 → slice_get progresses (slot_of e) ≡ Some d → progress_place progresses e ≡ Some (slot_of e)
place_is progresses e d few at =
    ap (λ (b : Bool). placed b (nat_lt (slot_of e) (length progresses)) (slot_of e)) (less e.binding 1024 few)
    ∙ ap (λ (b : Bool). placed true b (slot_of e)) (less (slot_of e) (length progresses) (slice_get_within progresses (slot_of e) d at))

-- and where it is found there it stands
placed_at : (a b : Bool) (n m : ℕ) → placed a b n ≡ Some m → n ≡ m
placed_at true true n m is = same_Some n m is
placed_at true false n m is = absurd (cc)
placed_at false b n m is = absurd (cc)

found_by : (progresses : List TheEndProgress) (e : EndId) (d : TheEndProgress) (o : Option ℕ) → progress_place progresses e ≡ o → given o None (λ n. slice_get progresses n) ≡ Some d → slice_get progresses (slot_of e) ≡ Some d
found_by progresses e d None place is = absurd (cc)
found_by progresses e d (Some n) place is =
    let same : slot_of e ≡ n = placed_at (nat_lt e.binding 1024) (nat_lt (slot_of e) (length progresses)) (slot_of e) n place in
    subst (λ (i : ℕ). slice_get progresses i ≡ Some d) (sym same) is

pub progress_found : (progresses : List TheEndProgress) (e : EndId) (d : TheEndProgress) → given (progress_place progresses e) None (λ n. slice_get progresses n) ≡ Some d → slice_get progresses (slot_of e) ≡ Some d
progress_found progresses e d is = found_by progresses e d (progress_place progresses e) refl is

pub progress_there : (progresses : List TheEndProgress) (e : EndId) (d : TheEndProgress) → e.binding < 1024 → slice_get progresses (slot_of e) ≡ Some d
    → given (progress_place progresses e) None (λ n. slice_get progresses n) ≡ Some d
progress_there progresses e d few at = ap (λ (o : Option ℕ). given o None (λ n. slice_get progresses n)) (place_is progresses e d few at) ∙ at

-- and where none is found none stands there
missing_by : (progresses : List TheEndProgress) (e : EndId) (o : Option TheEndProgress) → slice_get progresses (slot_of e) ≡ o → e.binding < 1024
    → given (progress_place progresses e) None (λ n. slice_get progresses n) ≡ None → slice_get progresses (slot_of e) ≡ None
missing_by progresses e None at few none = at
missing_by progresses e (Some d) at few none = absurd (let clash : Some d ≡ None = sym (progress_there progresses e d few at) ∙ none in cc)

pub progress_missing : (progresses : List TheEndProgress) (e : EndId) → e.binding < 1024 → given (progress_place progresses e) None (λ n. slice_get progresses n) ≡ None → slice_get progresses (slot_of e) ≡ None
progress_missing progresses e few none = missing_by progresses e (slice_get progresses (slot_of e)) refl few none

-- ---- in the end

module _ (progresses : List TheEndProgress) (e : EndId) where
  abbrev handled_here : Option ℕ → List Call
  handled_here o = given o [] (λ n. in_progress (slice_get progresses n))

  abbrev refused_here : Option ℕ → ℕ
  refused_here o = given o 0 (λ n. given (slice_get progresses n) 0 (λ (d : TheEndProgress). d.refused))

  none_handled : slice_get progresses (slot_of e) ≡ None → (a b : Bool) → handled_here (placed a b (slot_of e)) ≡ []
  none_handled none false b = refl
  none_handled none true false = refl
  none_handled none true true = ap in_progress none

  none_refused : slice_get progresses (slot_of e) ≡ None → (a b : Bool) → refused_here (placed a b (slot_of e)) ≡ 0
  none_refused none false b = refl
  none_refused none true false = refl
  none_refused none true true = ap (λ (o : Option TheEndProgress). given o 0 (λ (d : TheEndProgress). d.refused)) none

  handled_by_progress : e.binding < 1024 → (o : Option TheEndProgress) → slice_get progresses (slot_of e) ≡ o → given o [] handled_by ≡ map call_of (handled_here (progress_place progresses e))
  handled_by_progress few None at = sym (ap (map call_of) (none_handled at (nat_lt e.binding 1024) (nat_lt (slot_of e) (length progresses))))
  handled_by_progress few (Some d) at = sym (ap (map call_of) (ap handled_here (place_is progresses e d few at) ∙ ap in_progress at))

  -- of an end's progress that is found
  pub handled_there : (d : TheEndProgress) → e.binding < 1024 → slice_get progresses (slot_of e) ≡ Some d → handled_here (progress_place progresses e) ≡ d.handled
  handled_there d few at = ap handled_here (place_is progresses e d few at) ∙ ap in_progress at

  pub handled_is : e.binding < 1024 → given (slice_get progresses (slot_of e)) [] handled_by ≡ map call_of (handled_here (progress_place progresses e))
  handled_is few = handled_by_progress few (slice_get progresses (slot_of e)) refl

  refused_by_progress : e.binding < 1024 → (o : Option TheEndProgress) → slice_get progresses (slot_of e) ≡ o → given o None refusal_in ≡ refusal_by (refused_here (progress_place progresses e))
  refused_by_progress few None at = sym (ap refusal_by (none_refused at (nat_lt e.binding 1024) (nat_lt (slot_of e) (length progresses))))
  refused_by_progress few (Some d) at =
      sym (ap refusal_by (ap refused_here (place_is progresses e d few at) ∙ ap (λ (o : Option TheEndProgress). given o 0 (λ (x : TheEndProgress). x.refused)) at))

  pub refused_is : e.binding < 1024 → given (slice_get progresses (slot_of e)) None refusal_in ≡ refusal_by (refused_here (progress_place progresses e))
  refused_is few = refused_by_progress few (slice_get progresses (slot_of e)) refl

-- ---- what is told of an end

side_of : (what : EndId → List TheCall) (e : EndId) (s : Side) → e.side ≡ s → at_side e.side (both_at what e.binding) ≡ what e
side_of what e Client side =
    ap (λ (s : Side). at_side s (both_at what e.binding)) side ∙ ap what (sym (end_by e e.binding Client refl side))
side_of what e Server side =
    ap (λ (s : Side). at_side s (both_at what e.binding)) side ∙ ap what (sym (end_by e e.binding Server refl side))

pub told_at : (j : TheJoinedJobs) (what : EndId → List TheCall) (e : EndId) → e.binding < length j.bindings → at_end (by_binding j (both_at what)) e ≡ what e
told_at j what e below =
    ap (λ (o : Option BothEnds). given o [] (at_side e.side)) (map_at (both_at what) 0 (length j.bindings) e.binding e.binding below (omega arith))
    ∙ side_of what e e.side refl

pub told_past : (j : TheJoinedJobs) (what : EndId → List TheCall) (e : EndId) → length j.bindings ≤ e.binding → at_end (by_binding j (both_at what)) e ≡ []
told_past j what e past = ap (λ (o : Option BothEnds). given o [] (at_side e.side)) (map_past (both_at what) 0 (length j.bindings) e.binding past)

pub no_number : (j : TheJoinedJobs) (what : ℕ → Option ℕ) (n : ℕ) → length j.bindings ≤ n → given (slice_get (by_binding j what) n) None (λ (fault : Option ℕ). fault) ≡ None
no_number j what n past = ap (λ (o : Option (Option ℕ)). given o None (λ (fault : Option ℕ). fault)) (map_past what 0 (length j.bindings) n past)

pub told_number : (j : TheJoinedJobs) (what : ℕ → Option ℕ) (n : ℕ) → n < length j.bindings → given (slice_get (by_binding j what) n) None (λ (fault : Option ℕ). fault) ≡ what n
told_number j what n below = ap (λ (o : Option (Option ℕ)). given o None (λ (fault : Option ℕ). fault)) (map_at what 0 (length j.bindings) n n below (omega arith))
