-- Which jobs open bindings.
use Rattle.std.proofs.Common.{◌≡◌, ◌≢◌, inl, inr, refl, sym, ap, ◌∙◌, subst, ℕ, zero, suc, ◌<◌, ◌==◌, ◌&&◌, if◌then◌else◌, List, [], ◌∷◌, ◌++◌, length, slice_get}
use Rattle.std.proofs.Common.{Some, None, Bool, true, false, arith}
use Rattle.std.proofs.lemmas.Bool.Decides.{nat_tests}
use Rattle.fl_base.specs.declared.identity.EndId.{EndId}
use Rattle.fl_base.specs.declared.identity.MsgNo.{MsgNo}
use Rattle.fl_model.specs.Runs.{same_side, same_end}
use Rattle.fl_core.specs.View.{TheCore, client_of}
use Rattle.fl_core.specs.declared.core_job.CoreJob.{CoreJob}
use Rattle.fl_core.specs.declared.core_job.CoreJob.TheVariants as core
use Rattle.fl_core.specs.declared.core_job.OpenRequest.{OpenRequest}
use Rattle.fl_world_refines.specs.declared.binding.Binding.{Binding}
use Rattle.fl_cores_file.specs.Jobs.{Job, opens, replies, calls}
use Rattle.fl_cores_jobs.specs.declared.end_work.BindingCores.{BindingCores}
use Rattle.fl_cores_jobs.specs.EndWork.{end_of, places_of, OpensFirst, OpensNever}
use Rattle.fl_cores_jobs.specs.Kept.{AreOpened}
use Rattle.fl_cores_jobs.specs.State.{TheJoinedJobs, with_job}
use Rattle.fl_cores_jobs.specs.Whole.{is_set_up, so_far, Joins}
use Rattle.fl_cores_jobs.proofs.Growing.{got, kept, last, places_more}
use Rattle.fl_cores_jobs.proofs.OneMore.{none_some}

-- ---- places

no_places : (e : EndId) (jobs : List CoreJob) (n : ℕ) → ((k : ℕ) (x : CoreJob) → slice_get jobs k ≡ Some x → same_end e (end_of x) ≡ false) → places_of e n jobs ≡ []
no_places e [] n none = refl
no_places e (j ∷ jobs) n none =
    ap (λ (b : Bool). if b then n ∷ places_of e (suc n) jobs else places_of e (suc n) jobs) (none 0 j refl)
    ∙ no_places e jobs (suc n) (λ k x at. none (suc k) x at)

other_binding : (e f : EndId) → f.binding < e.binding → same_end e f ≡ false
other_binding e f less =
    let differ : (e.binding == f.binding) ≡ false = grind (arith, nat_tests, less) in ap (λ (b : Bool). b && same_side e.side f.side) differ

same_client : (n m : ℕ) → n ≡ m → same_end (client_of n) (client_of m) ≡ true
same_client n m same = let is : (n == m) ≡ true = grind (arith, nat_tests, same) in ap (λ (b : Bool). b && true) is

pub within : {X : Type 0} (xs : List X) (n : ℕ) (x : X) → slice_get xs n ≡ Some x → n < length xs
within [] n x at = absurd (cc)
within (y ∷ xs) zero x at = omega arith
within (y ∷ xs) (suc n) x at = let h = within xs n x at in omega (arith, h)

-- ---- a job that doesn't open it

first_more : (jobs : List CoreJob) (j : CoreJob) (n interface : ℕ) → ((w : OpenRequest) → j ≡ core.Open w → w.opening.binding ≢ n)
    → OpensFirst jobs (places_of (client_of n) 0 jobs) n interface → OpensFirst (jobs ++ j ∷ []) (places_of (client_of n) 0 (jobs ++ j ∷ [])) n interface
first_more jobs j n interface other k = record {
  request = k.request;
  place = k.place;
  place_is = kept jobs (j ∷ []) (core.Open k.request) k.place k.place_is;
  binding_is = k.binding_is;
  interface_is = k.interface_is;
  behind = k.behind ++ (if same_end (client_of n) (end_of j) then length jobs ∷ [] else []);
  first = places_more (client_of n) 0 (length jobs) jobs j (omega arith)
      ∙ ap (λ (ns : List ℕ). ns ++ (if same_end (client_of n) (end_of j) then length jobs ∷ [] else [])) k.first;
  alone = λ m w at is. elim (got jobs j (core.Open w) m at) [
    | inl before ↦ k.alone m w before is
    | inr new ↦ absurd (other w new.1 is)
  ];
}

never_more : (jobs : List CoreJob) (j : CoreJob) (n : ℕ) → ((w : OpenRequest) → j ≡ core.Open w → w.opening.binding ≢ n) → OpensNever jobs n → OpensNever (jobs ++ j ∷ []) n
never_more jobs j n other k = λ m w at is. elim (got jobs j (core.Open w) m at) [
  | inl before ↦ k m w before is
  | inr new ↦ other w new.1 is
]

job_more : (jobs : List CoreJob) (bindings : List BindingCores) (j : CoreJob) → ((w : OpenRequest) → j ≡ core.Open w → ⊥) → AreOpened jobs bindings → AreOpened (jobs ++ j ∷ []) bindings
job_more jobs bindings j quiet k = record {
  opened = λ n b number at is. first_more jobs j n b.interface (λ w same eq. quiet w same) (k.opened n b number at is);
  set_up = λ n b at none. never_more jobs j n (λ w same eq. quiet w same) (k.set_up n b at none);
}

-- ---- a binding more

module _ (jobs : List CoreJob) (bindings : List BindingCores) (x : BindingCores)
    (there : (m : ℕ) (j : CoreJob) → slice_get jobs m ≡ Some j → (end_of j).binding < length bindings) (k : AreOpened jobs bindings) where
  never_yet : (n : ℕ) → n ≡ length bindings → OpensNever jobs n
  never_yet n new = λ m w at is.
      let below : w.opening.binding < length bindings = there m (core.Open w) at in absurd (omega (arith, below, is, new))

  none_there : (n : ℕ) → n ≡ length bindings → places_of (client_of n) 0 jobs ≡ []
  none_there n new = no_places (client_of n) jobs 0 (λ m j at. let below = there m j at in other_binding (client_of n) (end_of j) (omega (arith, below, new)))

  -- which no job opens
  pub binding_more : x.opened ≡ None → AreOpened jobs (bindings ++ x ∷ [])
  binding_more none = record {
    opened = λ n b number at is. elim (got bindings x b n at) [
      | inl before ↦ k.opened n b number before is
      | inr new ↦ absurd (none_some x b number new.1 none is)
    ];
    set_up = λ n b at is. elim (got bindings x b n at) [
      | inl before ↦ k.set_up n b before is
      | inr new ↦ never_yet n new.0
    ];
  }

  -- which this one opens
  module _ (request : OpenRequest) (number : ℕ) (binding : request.opening.binding ≡ length bindings) (interface : request.interface ≡ x.interface)
      (opened : x.opened ≡ Some number) where
    other : (n : ℕ) → n < length bindings → (w : OpenRequest) → core.Open request ≡ core.Open w → w.opening.binding ≢ n
    other n less w same is =
        let one : request.opening.binding ≡ w.opening.binding = ap (λ (j : CoreJob). (end_of j).binding) same in absurd (omega (arith, one, is, binding, less))

    new_first : (n : ℕ) (b : BindingCores) → n ≡ length bindings → x ≡ b
        → OpensFirst (jobs ++ core.Open request ∷ []) (places_of (client_of n) 0 (jobs ++ core.Open request ∷ [])) n b.interface
    new_first n b new same = record {
      request = request;
      place = length jobs;
      place_is = last jobs (core.Open request);
      binding_is = binding ∙ sym new;
      interface_is = interface ∙ ap (λ (y : BindingCores). y.interface) same;
      behind = [];
      first = places_more (client_of n) 0 (length jobs) jobs (core.Open request) (omega arith)
          ∙ ap (λ (ns : List ℕ). ns ++ (if same_end (client_of n) (client_of request.opening.binding) then length jobs ∷ [] else [])) (none_there n new)
          ∙ ap (λ (c : Bool). if c then length jobs ∷ [] else []) (same_client n request.opening.binding (new ∙ sym binding));
      alone = λ m w at is. elim (got jobs (core.Open request) (core.Open w) m at) [
        | inl before ↦ absurd (never_yet n new m w before is)
        | inr at_end ↦ at_end.0
      ];
    }

    pub opening_more : AreOpened (jobs ++ core.Open request ∷ []) (bindings ++ x ∷ [])
    opening_more = record {
      opened = λ n b found at is. elim (got bindings x b n at) [
        | inl before ↦ first_more jobs (core.Open request) n b.interface (other n (within bindings n b before)) (k.opened n b found before is)
        | inr new ↦ new_first n b new.0 new.1
      ];
      set_up = λ n b at none. elim (got bindings x b n at) [
        | inl before ↦ never_more jobs (core.Open request) n (other n (within bindings n b before)) (k.set_up n b before none)
        | inr new ↦ absurd (none_some b x number (sym new.1) none opened)
      ];
    }

-- ---- whatever the job

ruled_opened : (b : Bool) (e : EndId) (message reply : MsgNo) (j : TheJoinedJobs) → AreOpened j.jobs j.bindings
    → let t : TheJoinedJobs = (if b then j else with_job e (core.Reply e message reply) j) in AreOpened t.jobs t.bindings
ruled_opened true e message reply j k = k
ruled_opened false e message reply j k = job_more j.jobs j.bindings (core.Reply e message reply) (λ w same. absurd (cc)) k

pub openings_more : (set_up : List Binding) (one : Job) (j : TheJoinedJobs) (ks : List TheCore) (j2 : TheJoinedJobs) (ks2 : List TheCore) → Joins set_up one (so_far j ks) (so_far j2 ks2)
    → ((m : ℕ) (x : CoreJob) → slice_get j.jobs m ≡ Some x → (end_of x).binding < length j.bindings)
    → AreOpened j.jobs j.bindings → AreOpened j2.jobs j2.bindings
openings_more set_up (opens w) j ks j2 ks2 (o, same) there k =
    subst (λ (t : TheJoinedJobs). AreOpened t.jobs t.bindings) (sym o.rest)
    (opening_more j.jobs j.bindings o.bound there k o.request (length j.owners) o.binding (o.program ∙ sym o.interface) o.opened)
openings_more set_up (replies e msg answer) j ks j2 ks2 r there k =
    subst (λ (t : TheJoinedJobs). AreOpened t.jobs t.bindings) (sym r.planned.rest)
    (ruled_opened (is_set_up set_up e) e r.message r.reply (record j { end_works = r.planned.end_works }) k)
openings_more set_up (calls e c) j ks j2 ks2 ((call, is, p), same) there k =
    subst (λ (t : TheJoinedJobs). AreOpened t.jobs t.bindings) (sym p.rest) (job_more j.jobs j.bindings (core.Call e call) (λ w same. absurd (cc)) k)

pub none_opened : AreOpened [] []
none_opened = record { opened = λ n b number at is. absurd (cc); set_up = λ n b at none m w opens is. absurd (cc) }
