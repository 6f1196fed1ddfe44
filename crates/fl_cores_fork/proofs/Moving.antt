-- Calls moved out of jobs.
use Rattle.std.proofs.Common.{◌≡◌, ◌≢◌, refl, sym, ap, ◌∙◌, subst, ℕ, zero, suc, ◌+◌, ◌-◌, ◌*◌, ◌<◌, ◌≤◌, ◌==◌, ◌&&◌, Bool, true, false, if◌then◌else◌}
use Rattle.std.proofs.Common.{List, [], ◌∷◌, ◌++◌, map, length, take, drop, get_or, slice_get, slice_set, Option, Some, None, arith}
use Rattle.std.specs.List.{flat_map, range_with_len}
use Rattle.std.proofs.lemmas.List.{append_assoc, length-map, take-map}
use Rattle.std.proofs.lemmas.Bool.Decides.{nat_tests}
use Rattle.fl_base.specs.declared.identity.EndId.{EndId}
use Rattle.fl_base.specs.declared.identity.Side.{Side}
use Rattle.fl_base.specs.declared.identity.Side.TheVariants.{Client, Server}
use Rattle.fl_base.specs.Given.{given}
use Rattle.fl_value_data.specs.declared.value.Call.{Call}
use Rattle.fl_value_data.specs.Value.{TheCall, call_of}
use Rattle.fl_model.specs.Runs.{same_side, same_end}
use Rattle.fl_core.specs.View.{slot_of, client_of, server_of}
use Rattle.fl_core.specs.declared.core_job.CoreJob.{CoreJob}
use Rattle.fl_core_run.specs.EndProgress.{TheEndProgress}
use Rattle.fl_core.specs.Jobs.{calls_of_job, calls_of_jobs}
use Rattle.fl_cores_file.specs.declared.report.CallsByEnd.{CallsByEnd as RustBoth}
use Rattle.fl_cores_file.specs.Report.{BothEnds}
use Rattle.fl_cores_file.specs.Reports.{both_of}
use Rattle.fl_cores_jobs.specs.declared.end_work.EndWork.{EndWork}
use Rattle.fl_cores_jobs.specs.EndWork.{TheEndWork, end_work_of, no_end_work, end_work_at, end_of, places_of, reply_by}
use Rattle.fl_cores_jobs.specs.State.{TheJoinedJobs}
use Rattle.fl_cores_fork.specs.Runs.{TheFinishedCore}
use Rattle.fl_core_run.specs.Accepted.{accepted_of}
use Rattle.fl_cores_fork.specs.Tells.{both_at, progress_left, handled_by, sent_by, sent_at, waiting_left, made_at}
use Rattle.fl_cores_fork.specs.Taking.{AreOnce, KeepsOthers, KeepsJobs, HavePlaces, with_jobs}
use Rattle.fl_cores_fork.proofs.Lists.{calls_more, both_more}

-- ---- one job

-- where one changes its end stays
pub ends_set : (jobs : List CoreJob) (n : ℕ) (job job2 : CoreJob) → job ≡ get_or jobs n job → end_of job2 ≡ end_of job
    → map end_of (slice_set jobs n job2) ≡ map end_of jobs
ends_set [] n job job2 is same = refl
ends_set (j ∷ jobs) zero job job2 is same = ap (λ (e : EndId). e ∷ map end_of jobs) (same ∙ ap end_of is)
ends_set (j ∷ jobs) (suc n) job job2 is same = ap (λ (es : List EndId). end_of j ∷ es) (ends_set jobs n job job2 is same)

-- and so do all others
pub others_set : (jobs : List CoreJob) (k : ℕ) (job : CoreJob) (n : ℕ) → n ≢ k → slice_get (slice_set jobs k job) n ≡ slice_get jobs n
others_set [] k job n other = refl
others_set (j ∷ jobs) zero job zero other = absurd (other refl)
others_set (j ∷ jobs) zero job (suc n) other = refl
others_set (j ∷ jobs) (suc k) job zero other = refl
others_set (j ∷ jobs) (suc k) job (suc n) other = others_set jobs k job n (λ same. other (ap suc same))

-- ---- jobs at places

place_at : (places : List ℕ) (k p : ℕ) → k < length places → p ≡ get_or places k p → slice_get places k ≡ Some p
place_at [] k p below is = absurd (omega (arith, below))
place_at (q ∷ places) zero p below is = ap (λ (n : ℕ). Some n) (sym is)
place_at (q ∷ places) (suc k) p below is = place_at places k p (omega (arith, below)) is

pub keeps_none : (places : List ℕ) (jobs : List CoreJob) → KeepsOthers places 0 jobs jobs
keeps_none places jobs = record { ends = refl; others = λ n other. refl }

-- one place more
moved_more : (jobs now : List CoreJob) (places : List ℕ) (k p : ℕ) (calls calls2 : List TheCall) → k < length places → p ≡ get_or places k p → AreOnce places
    → KeepsOthers places k jobs now → calls ++ calls_of_jobs jobs (drop k places) ≡ calls_of_jobs jobs places
    → calls2 ≡ calls ++ calls_of_job (slice_get now p) → calls2 ++ calls_of_jobs jobs (drop (k + 1) places) ≡ calls_of_jobs jobs places
moved_more jobs now places k p calls calls2 below is once keeps so added =
    let rest = calls_of_jobs jobs (drop (k + 1) places) in
    let next : suc k ≡ k + 1 = omega arith in
    let same : slice_get now p ≡ slice_get jobs p = keeps.others p (λ i less. once i k p less (place_at places k p below is)) in
    ap (λ (cs : List TheCall). cs ++ rest) added
    ∙ ap (λ (j : Option CoreJob). (calls ++ calls_of_job j) ++ rest) same
    ∙ append_assoc calls (calls_of_job (slice_get jobs p)) rest
    ∙ ap (λ (m : ℕ). calls ++ (calls_of_job (slice_get jobs p) ++ calls_of_jobs jobs (drop m places))) (sym next)
    ∙ ap (λ (cs : List TheCall). calls ++ cs) (sym (calls_more jobs places k p below is))
    ∙ so

keeps_more : (jobs now now2 : List CoreJob) (places : List ℕ) (k p : ℕ) → k < length places → p ≡ get_or places k p → KeepsOthers places k jobs now
    → map end_of now2 ≡ map end_of now → ((n : ℕ) → n ≢ p → slice_get now2 n ≡ slice_get now n) → KeepsOthers places (k + 1) jobs now2
keeps_more jobs now now2 places k p below is keeps ends others = record {
  ends = ends ∙ keeps.ends;
  others = λ n other.
      others n (λ same. other k (omega arith) (place_at places k p below is ∙ ap (λ (m : ℕ). Some m) (sym same)))
      ∙ keeps.others n (λ i less. other i (omega (arith, less)));
}

-- the calls behind these, and what stays
pub record MovesOne (jobs now2 : List CoreJob) (places : List ℕ) (k : ℕ) (calls2 : List TheCall) : Type 0 where
  pub moved : calls2 ++ calls_of_jobs jobs (drop (k + 1) places) ≡ calls_of_jobs jobs places
  pub rest : KeepsOthers places (k + 1) jobs now2

moves_at : (jobs now now2 : List CoreJob) (places : List ℕ) (k p : ℕ) (calls calls2 : List TheCall) → k < length places → p ≡ get_or places k p → AreOnce places
    → KeepsOthers places k jobs now → calls ++ calls_of_jobs jobs (drop k places) ≡ calls_of_jobs jobs places
    → calls2 ≡ calls ++ calls_of_job (slice_get now p) → map end_of now2 ≡ map end_of now → ((n : ℕ) → n ≢ p → slice_get now2 n ≡ slice_get now n)
    → MovesOne jobs now2 places k calls2
moves_at jobs now now2 places k p calls calls2 below is once keeps so added ends others = record {
  moved = moved_more jobs now places k p calls calls2 below is once keeps so added;
  rest = keeps_more jobs now now2 places k p below is keeps ends others;
}

read : (places : List ℕ) (k : ℕ) → k < length places → get_or places k 0 ≡ get_or places k (get_or places k 0)
read [] k below = absurd (omega (arith, below))
read (q ∷ places) zero below = refl
read (q ∷ places) (suc k) below = read places k (omega (arith, below))

pub moves_one : (jobs now now2 : List CoreJob) (places : List ℕ) (k : ℕ) (calls calls2 : List TheCall) → k < length places → AreOnce places
    → KeepsOthers places k jobs now → calls ++ calls_of_jobs jobs (drop k places) ≡ calls_of_jobs jobs places
    → calls2 ≡ calls ++ calls_of_job (slice_get now (get_or places k 0)) → map end_of now2 ≡ map end_of now
    → ((n : ℕ) → n ≢ get_or places k 0 → slice_get now2 n ≡ slice_get now n) → MovesOne jobs now2 places k calls2
moves_one jobs now now2 places k calls calls2 below once keeps so added ends others =
    moves_at jobs now now2 places k (get_or places k 0) calls calls2 below (read places k below) once keeps so added ends others

-- ---- the first of these places

first_at : (count : ℕ) (places : List ℕ) (i n : ℕ) → slice_get (take count places) i ≡ Some n → slice_get places i ≡ Some n
first_at zero places i n at = absurd (let no : None ≡ Some n = at in cc)
first_at (suc count) [] i n at = absurd (let no : None ≡ Some n = at in cc)
first_at (suc count) (p ∷ places) zero n at = at
first_at (suc count) (p ∷ places) (suc i) n at = first_at count places i n at

within : (places : List ℕ) (i n : ℕ) → slice_get places i ≡ Some n → i < length places
within [] i n at = absurd (let no : None ≡ Some n = at in cc)
within (p ∷ places) zero n at = omega arith
within (p ∷ places) (suc i) n at = let low = within places i n at in omega (arith, low)

pub keeps_first : (count : ℕ) (places some : List ℕ) (jobs now : List CoreJob) → some ≡ take count places → KeepsOthers some (length some) jobs now
    → KeepsOthers places (length places) jobs now
keeps_first count places some jobs now is keeps =
    let first : KeepsOthers (take count places) (length (take count places)) jobs now =
    subst (λ (ps : List ℕ). KeepsOthers ps (length ps) jobs now) is keeps in
    record {
      ends = first.ends;
      others = λ n other. first.others n (λ i less at.
          let there = first_at count places i n at in other i (within places i n there) there);
    }

-- ---- the places of an end

-- a place that is one of them: its job is done there
record Here (e : EndId) (m : ℕ) (jobs : List CoreJob) (n : ℕ) : Type 0 where
  place : ℕ
  job : CoreJob
  is : n ≡ m + place
  at : slice_get jobs place ≡ Some job
  same : same_end e (end_of job) ≡ true

-- behind a job
here_behind : (e : EndId) (m : ℕ) (j : CoreJob) (jobs : List CoreJob) (n : ℕ) → Here e (suc m) jobs n → Here e m (j ∷ jobs) n
here_behind e m j jobs n h = record {
  place = suc h.place;
  job = h.job;
  is = (let is = h.is in omega (arith, is));
  at = h.at;
  same = h.same;
}

here_by : (e : EndId) (m : ℕ) (j : CoreJob) (jobs : List CoreJob) (b : Bool) (i n : ℕ) → same_end e (end_of j) ≡ b
    → slice_get (if b then m ∷ places_of e (suc m) jobs else places_of e (suc m) jobs) i ≡ Some n
    → ((k : ℕ) → slice_get (places_of e (suc m) jobs) k ≡ Some n → Here e (suc m) jobs n) → Here e m (j ∷ jobs) n
here_by e m j jobs true zero n same at rest =
    let is : m ≡ n = cc in
    record { place = 0; job = j; is = omega (arith, is); at = refl; same = same }
here_by e m j jobs true (suc i) n same at rest = here_behind e m j jobs n (rest i at)
here_by e m j jobs false i n same at rest = here_behind e m j jobs n (rest i at)

here : (e : EndId) (m : ℕ) (jobs : List CoreJob) (i n : ℕ) → slice_get (places_of e m jobs) i ≡ Some n → Here e m jobs n
here e m [] i n at = absurd (let no : None ≡ Some n = at in cc)
here e m (j ∷ jobs) i n at = here_by e m j jobs (same_end e (end_of j)) i n refl at (λ k there. here e (suc m) jobs k n there)

-- none stands there twice
once_by : (e : EndId) (m : ℕ) (jobs : List CoreJob) (b : Bool) (i k n : ℕ) → i < k → AreOnce (places_of e (suc m) jobs)
    → slice_get (if b then m ∷ places_of e (suc m) jobs else places_of e (suc m) jobs) k ≡ Some n
    → slice_get (if b then m ∷ places_of e (suc m) jobs else places_of e (suc m) jobs) i ≢ Some n
once_by e m jobs true i zero n less rest at there = absurd (omega (arith, less))
once_by e m jobs true zero (suc k) n less rest at there =
    let is : m ≡ n = cc in
    let behind = (here e (suc m) jobs k n at).is in
    absurd (omega (arith, is, behind))
once_by e m jobs true (suc i) (suc k) n less rest at there = rest i k n (omega (arith, less)) at there
once_by e m jobs false i k n less rest at there = rest i k n less at there

once_of : (e : EndId) (m : ℕ) (jobs : List CoreJob) → AreOnce (places_of e m jobs)
once_of e m [] i k n less at there = absurd (let no : None ≡ Some n = at in cc)
once_of e m (j ∷ jobs) i k n less at there = once_by e m jobs (same_end e (end_of j)) i k n less (once_of e (suc m) jobs) at there

pub are_once : (e : EndId) (places : List ℕ) (jobs : List CoreJob) → places ≡ places_of e 0 jobs → AreOnce places
are_once e places jobs is = subst AreOnce (sym is) (once_of e 0 jobs)

-- ---- one name of an end

one_side : (a b : Side) → same_side a b ≡ true → a ≡ b
one_side Client Client is = refl
one_side Client Server is = absurd (cc)
one_side Server Client is = absurd (cc)
one_side Server Server is = refl

one_end_by : (e f : EndId) (a b : Bool) → (e.binding == f.binding) ≡ a → same_side e.side f.side ≡ b → (a && b) ≡ true → slot_of e ≡ slot_of f
one_end_by e f true true same sides is =
    let bindings : e.binding ≡ f.binding = grind (arith, nat_tests, same) in
    let side : e.side ≡ f.side = one_side e.side f.side sides in
    ap (λ (n : ℕ). let x : EndId = record { binding = n; side = e.side } in slot_of x) bindings
    ∙ ap (λ (s : Side). let x : EndId = record { binding = f.binding; side = s } in slot_of x) side
one_end_by e f true false same sides is = absurd (cc)
one_end_by e f false b same sides is = absurd (cc)

one_slot : (e f : EndId) → same_end e f ≡ true → slot_of e ≡ slot_of f
one_slot e f is = one_end_by e f (e.binding == f.binding) (same_side e.side f.side) refl refl is

-- ---- jobs of other ends

pub jobs_kept : (e : EndId) (places : List ℕ) (jobs now : List CoreJob) → places ≡ places_of e 0 jobs → KeepsOthers places (length places) jobs now
    → KeepsJobs (slot_of e + 1) jobs now
jobs_kept e places jobs now is keeps = record {
  ends = keeps.ends;
  from = λ n job at low. keeps.others n (λ i less there.
      let h = here e 0 jobs i n (ap (λ (ps : List ℕ). slice_get ps i) (sym is) ∙ there) in
      let place : n ≡ h.place = (let was = h.is in omega (arith, was)) in
      let both : Some job ≡ Some h.job = sym at ∙ ap (slice_get jobs) place ∙ h.at in
      let one : job ≡ h.job = cc in
      let slots : slot_of e ≡ slot_of (end_of job) = one_slot e (end_of h.job) h.same ∙ ap (λ (j : CoreJob). slot_of (end_of j)) (sym one) in
      absurd (omega (arith, slots, low))) ∙ at;
}

pub jobs_none : (p : ℕ) (jobs : List CoreJob) → KeepsJobs p jobs jobs
jobs_none p jobs = record { ends = refl; from = λ n job at low. at }

pub jobs_on : (p q : ℕ) (xs ys zs : List CoreJob) → p ≤ q → KeepsJobs p xs ys → KeepsJobs q ys zs → KeepsJobs q xs zs
jobs_on p q xs ys zs less f g = record {
  ends = g.ends ∙ f.ends;
  from = λ n job at low. g.from n job (f.from n job at (omega (arith, less, low))) low;
}

-- the places of ends stay
same_places : (e : EndId) (m : ℕ) (jobs now : List CoreJob) → map end_of now ≡ map end_of jobs → places_of e m now ≡ places_of e m jobs
same_places e m [] [] ends = refl
same_places e m [] (k ∷ now) ends = absurd (cc)
same_places e m (j ∷ jobs) [] ends = absurd (cc)
same_places e m (j ∷ jobs) (k ∷ now) ends =
    let one : end_of k ≡ end_of j = cc in
    let rest : map end_of now ≡ map end_of jobs = cc in
    ap (λ (f : EndId). if same_end e f then m ∷ places_of e (suc m) now else places_of e (suc m) now) one
    ∙ ap (λ (ps : List ℕ). if same_end e (end_of j) then m ∷ ps else ps) (same_places e (suc m) jobs now rest)

pub places_kept : (p : ℕ) (end_works : List TheEndWork) (jobs now : List CoreJob) → HavePlaces end_works jobs → KeepsJobs p jobs now → HavePlaces end_works now
places_kept p end_works jobs now have keeps e = have e ∙ sym (same_places e 0 jobs now keeps.ends)

-- ---- what an end came to send, and what it made

same_calls : (jobs now : List CoreJob) (places : List ℕ) (count : ℕ) → ((i n : ℕ) → slice_get places i ≡ Some n → slice_get now n ≡ slice_get jobs n)
    → calls_of_jobs now (take count places) ≡ calls_of_jobs jobs (take count places)
same_calls jobs now places zero each = refl
same_calls jobs now [] (suc count) each = refl
same_calls jobs now (p ∷ places) (suc count) each =
    ap (λ (j : Option CoreJob). calls_of_job j ++ calls_of_jobs now (take count places)) (each 0 p refl)
    ∙ ap (λ (cs : List TheCall). calls_of_job (slice_get jobs p) ++ cs) (same_calls jobs now places count (λ i n at. each (suc i) n at))

calls_kept : (e : EndId) (p : ℕ) (places : List ℕ) (jobs now : List CoreJob) (count : ℕ) → places ≡ places_of e 0 jobs → KeepsJobs p jobs now → p ≤ slot_of e
    → calls_of_jobs now (take count places) ≡ calls_of_jobs jobs (take count places)
calls_kept e p places jobs now count is keeps from = same_calls jobs now places count (λ i n at.
    let h = here e 0 jobs i n (ap (λ (ps : List ℕ). slice_get ps i) (sym is) ∙ at) in
    let place : n ≡ h.place = (let was = h.is in omega (arith, was)) in
    let there : slice_get jobs n ≡ Some h.job = ap (slice_get jobs) place ∙ h.at in
    let slots = one_slot e (end_of h.job) h.same in
    keeps.from n h.job there (omega (arith, slots, from)) ∙ sym there)

kept_by : (e : EndId) (p : ℕ) (end_work : TheEndWork) (jobs now : List CoreJob) (progress : Option TheEndProgress) → end_work.jobs ≡ places_of e 0 jobs → KeepsJobs p jobs now
    → p ≤ slot_of e → given progress [] (sent_by now end_work) ≡ given progress [] (sent_by jobs end_work)
kept_by e p end_work jobs now None is keeps from = refl
kept_by e p end_work jobs now (Some d) is keeps from =
    ap (λ (cs : List TheCall). cs ++ flat_map (reply_by end_work.rules) (handled_by d)) (calls_kept e p end_work.jobs jobs now d.done is keeps from)

made_kept : (j : TheJoinedJobs) (os : List TheFinishedCore) (e : EndId) (p : ℕ) (jobs now : List CoreJob) → HavePlaces j.end_works jobs → KeepsJobs p jobs now → p ≤ slot_of e
    → made_at (with_jobs now j) os e ≡ made_at (with_jobs jobs j) os e
made_kept j os e p jobs now have keeps from =
    ap (accepted_of (waiting_left j os e)) (kept_by e p (end_work_at j.end_works e) jobs now (progress_left j os e) (have e) keeps from)

-- the end's work of an end
pub end_work_there : (e : EndId) (n : ℕ) (ds : List EndWork) (d : EndWork) → n ≡ slot_of e → n < length ds → d ≡ get_or ds n d → end_work_of d ≡ end_work_at (map end_work_of ds) e
end_work_there e n ds d same below is =
    at n ds d below is ∙ ap (λ (m : ℕ). given (slice_get (map end_work_of ds) m) no_end_work λ x. x) same where
      at : (n : ℕ) (ds : List EndWork) (d : EndWork) → n < length ds → d ≡ get_or ds n d → end_work_of d ≡ (given (slice_get (map end_work_of ds) n) no_end_work λ x. x)
      at n [] d below is = absurd (omega (arith, below))
      at zero (x ∷ ds) d below is = ap end_work_of is
      at (suc n) (x ∷ ds) d below is = at n ds d (omega (arith, below)) is

pub sent_there : (j : TheJoinedJobs) (os : List TheFinishedCore) (e : EndId) (jobs : List CoreJob) (end_work : TheEndWork) (progress : TheEndProgress) → progress_left j os e ≡ Some progress
    → end_work ≡ end_work_at j.end_works e → sent_by jobs end_work progress ≡ sent_at (with_jobs jobs j) os e
sent_there j os e jobs end_work progress there is =
    ap (λ (d : TheEndWork). sent_by jobs d progress) is ∙ ap (λ (o : Option TheEndProgress). given o [] (sent_by jobs (end_work_at j.end_works e))) (sym there)

-- all but the last so many
pub but_last : (calls : List Call) (waiting : ℕ) → map call_of (take (length calls - waiting) calls) ≡ accepted_of waiting (map call_of calls)
but_last calls waiting =
    sym (take-map call_of (length calls - waiting) calls)
    ∙ ap (λ (n : ℕ). take (n - waiting) (map call_of calls)) (sym (length-map calls call_of))

-- both ends of a binding, the client's first
pub both_moved : (j : TheJoinedJobs) (os : List TheFinishedCore) (n : ℕ) (jobs now : List CoreJob) (client server : List TheCall) → HavePlaces j.end_works jobs
    → KeepsJobs (slot_of (client_of n) + 1) jobs now → client ≡ made_at (with_jobs jobs j) os (client_of n) → server ≡ made_at (with_jobs now j) os (server_of n)
    → (let b : BothEnds = record { client = client; server = server } in b) ≡ both_at (made_at (with_jobs jobs j) os) n
both_moved j os n jobs now client server have keeps first second =
    ap (λ (c : List TheCall). let b : BothEnds = record { client = c; server = server } in b) first
    ∙ ap (λ (c : List TheCall). let b : BothEnds = record { client = made_at (with_jobs jobs j) os (client_of n); server = c } in b)
    (second ∙ made_kept j os (server_of n) (slot_of (client_of n) + 1) jobs now have keeps (omega arith))

pub both_keep : (n : ℕ) (xs ys zs : List CoreJob) → KeepsJobs (slot_of (client_of n) + 1) xs ys → KeepsJobs (slot_of (server_of n) + 1) ys zs
    → KeepsJobs (2 * (n + 1)) xs zs
both_keep n xs ys zs f g =
    let same : slot_of (server_of n) + 1 ≡ 2 * (n + 1) = omega arith in
    subst (λ (p : ℕ). KeepsJobs p xs zs) same (jobs_on (slot_of (client_of n) + 1) (slot_of (server_of n) + 1) xs ys zs (omega arith) f g)

-- one binding more
pub made_more : (j : TheJoinedJobs) (os : List TheFinishedCore) (n : ℕ) (jobs now : List CoreJob) (all : List RustBoth) (b : RustBoth) → HavePlaces j.end_works jobs
    → KeepsJobs (2 * n) jobs now → map both_of all ≡ map (both_at (made_at (with_jobs jobs j) os)) (range_with_len 0 n)
    → both_of b ≡ both_at (made_at (with_jobs now j) os) n
    → map both_of (all ++ b ∷ []) ≡ map (both_at (made_at (with_jobs jobs j) os)) (range_with_len 0 (n + 1))
made_more j os n jobs now all b have keeps so is =
    both_more (both_at (made_at (with_jobs jobs j) os)) n all b so
    (is ∙ ap (λ (c : List TheCall). let x : BothEnds = record { client = c; server = made_at (with_jobs now j) os (server_of n) } in x)
    (made_kept j os (client_of n) (2 * n) jobs now have keeps (omega arith))
    ∙ ap (λ (c : List TheCall). let x : BothEnds = record { client = made_at (with_jobs jobs j) os (client_of n); server = c } in x)
    (made_kept j os (server_of n) (2 * n) jobs now have keeps (omega arith)))
