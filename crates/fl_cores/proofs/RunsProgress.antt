-- Ends' progress as the cores of a run begin: each end's stands at its slot, with the jobs of its end's work, at the end's own core.
use Rattle.std.proofs.Common.{◌≡◌, refl, sym, ap, ◌∙◌, ℕ, zero, suc, ◌+◌, ◌*◌, ◌<◌, ◌≤◌, ◌==◌, nat_lt, Bool, true, false, if◌then◌else◌, List, [], ◌∷◌, length, slice_get, Option, Some, None, arith}
use Rattle.std.specs.List.{flat_map, range_with_len}
use Rattle.std.proofs.lemmas.Bool.Decides.{nat_tests}
use Rattle.std.proofs.lemmas.Option.{slice_get_past, slice_get_within}
use Rattle.fl_base.specs.declared.identity.Side.{Side}
use Rattle.fl_base.specs.declared.identity.Side.TheVariants.{Client, Server}
use Rattle.fl_base.specs.declared.identity.EndId.{EndId}
use Rattle.fl_base.specs.Given.{given}
use Rattle.fl_base.specs.Numbered.{most_bindings}
use Rattle.fl_core.specs.View.{TheCore, slot_of, client_of, server_of}
use Rattle.fl_core_run.specs.EndProgress.{TheEndProgress, progress_place}
use Rattle.fl_cores_jobs.specs.declared.end_work.BindingCores.{BindingCores}
use Rattle.fl_cores_jobs.specs.EndWork.{end_work_at}
use Rattle.fl_cores_jobs.specs.Joined.{core_of}
use Rattle.fl_cores_jobs.specs.State.{TheJoinedJobs}
use Rattle.fl_cores_laws.specs.Ends.{HasProgress}
use Rattle.fl_cores_fork.specs.Runs.{TheCoreThread}
use Rattle.fl_cores_parts.specs.Begins.{TheCoreInputs, IsCoreThread, progress_by, progress_for, progresses_of, owns}

-- ---- two for each number

first_of_two : {X : Type 0} (f g : ℕ → X) (a n i p k : ℕ) → i < n → p ≡ 2 * i → k ≡ a + i
    → slice_get (flat_map (λ m. f m ∷ g m ∷ []) (range_with_len a n)) p ≡ Some (f k)
first_of_two f g a zero i p k below p_is k_is = absurd (omega (arith, below))
first_of_two f g a (suc n) zero zero k below p_is k_is = let same : a ≡ k = omega (arith, k_is) in ap (λ m. Some (f m)) same
first_of_two f g a (suc n) zero (suc p) k below p_is k_is = absurd (omega (arith, p_is))
first_of_two f g a (suc n) (suc i) zero k below p_is k_is = absurd (omega (arith, p_is))
first_of_two f g a (suc n) (suc i) (suc zero) k below p_is k_is = absurd (omega (arith, p_is))
first_of_two f g a (suc n) (suc i) (suc (suc p)) k below p_is k_is =
    first_of_two f g (a + 1) n i p k (omega (arith, below)) (omega (arith, p_is)) (omega (arith, k_is))

second_of_two : {X : Type 0} (f g : ℕ → X) (a n i p k : ℕ) → i < n → p ≡ 2 * i + 1 → k ≡ a + i
    → slice_get (flat_map (λ m. f m ∷ g m ∷ []) (range_with_len a n)) p ≡ Some (g k)
second_of_two f g a zero i p k below p_is k_is = absurd (omega (arith, below))
second_of_two f g a (suc n) i zero k below p_is k_is = absurd (omega (arith, p_is))
second_of_two f g a (suc n) zero (suc zero) k below p_is k_is = let same : a ≡ k = omega (arith, k_is) in ap (λ m. Some (g m)) same
second_of_two f g a (suc n) (suc i) (suc zero) k below p_is k_is = absurd (omega (arith, p_is))
second_of_two f g a (suc n) zero (suc (suc p)) k below p_is k_is = absurd (omega (arith, p_is))
second_of_two f g a (suc n) (suc i) (suc (suc p)) k below p_is k_is =
    second_of_two f g (a + 1) n i p k (omega (arith, below)) (omega (arith, p_is)) (omega (arith, k_is))

-- ---- slots

-- what is read of an end's progress, is read at the end's slot
pub at_slot : (progresses : List TheEndProgress) (e : EndId) → e.binding < most_bindings → {Y : Type 0} (f : Option TheEndProgress → Y) (y : Y) → f None ≡ y
    → given (progress_place progresses e) y (λ n. f (slice_get progresses n)) ≡ f (slice_get progresses (slot_of e))
at_slot progresses e few f y none =
    let within : nat_lt e.binding most_bindings ≡ true = grind (arith, nat_tests, few) in
    ap (λ (b : Bool). given (if b then (if nat_lt (slot_of e) (length progresses) then Some (slot_of e) else None) else None) y (λ n. f (slice_get progresses n))) within
    ∙ by (slot_of e) (nat_lt (slot_of e) (length progresses)) refl
  where
    by : (n : ℕ) (b : Bool) → nat_lt n (length progresses) ≡ b → given (if b then Some n else None) y (λ i. f (slice_get progresses i)) ≡ f (slice_get progresses n)
    by n true is = refl
    by n false is = let past : length progresses ≤ n = grind (arith, nat_tests, is) in sym none ∙ ap f (sym (slice_get_past progresses n past))

-- ---- at a core thread

abbrev pub EndOf : ℕ → Side → EndId
EndOf n s = record { binding = n; side = s }

module _ (core : ℕ) (j : TheJoinedJobs) where
  pub slotted : (n : ℕ) (s : Side) → n < length j.bindings → slice_get (progresses_of core j) (slot_of (EndOf n s)) ≡ Some (progress_for core j (EndOf n s))
  slotted n Client below =
      first_of_two (λ m. progress_for core j (client_of m)) (λ m. progress_for core j (server_of m)) 0 (length j.bindings) n (slot_of (client_of n)) n below (omega arith) (omega arith)
  slotted n Server below =
      second_of_two (λ m. progress_for core j (client_of m)) (λ m. progress_for core j (server_of m)) 0 (length j.bindings) n (slot_of (server_of n)) n below (omega arith) (omega arith)

  pub owned : (e : EndId) (b : BindingCores) → slice_get j.bindings e.binding ≡ Some b → core_of e.side b ≡ core → owns core j.bindings e ≡ true
  owned e b is own =
      let same : (core_of e.side b == core) ≡ true = grind (arith, nat_tests, own) in
      ap (λ (o : Option BindingCores). given (given o None (λ x. Some (core_of e.side x))) false (λ c. c == core)) is ∙ same

-- the end's progress of a core's own end
pub own_progress : (common : TheCoreInputs) (n : ℕ) (k : TheCore) (s : TheCoreThread) → IsCoreThread common n k s
    → (e : EndId) (b : BindingCores) → slice_get common.joined.bindings e.binding ≡ Some b → core_of e.side b ≡ n
    → slice_get s.run.progresses (slot_of e) ≡ Some (progress_by true (end_work_at common.joined.end_works e))
own_progress common n k s is e b bound own =
    ap (λ (ds : List TheEndProgress). slice_get ds (slot_of e)) is.progresses
    ∙ slotted n common.joined e.binding e.side (slice_get_within common.joined.bindings e.binding b bound)
    ∙ ap (λ (o : Bool). Some (progress_by o (end_work_at common.joined.end_works e))) (owned n common.joined e b bound own)

-- has the jobs of its end's work, of which none is done
pub has_progress : (common : TheCoreInputs) (n : ℕ) (k : TheCore) (s : TheCoreThread) → IsCoreThread common n k s → length common.joined.bindings ≤ 1024
    → (e : EndId) (b : BindingCores) → slice_get common.joined.bindings e.binding ≡ Some b → core_of e.side b ≡ n → HasProgress (end_work_at common.joined.end_works e) s.run e
has_progress common n k s is few e b bound own =
    let within = slice_get_within common.joined.bindings e.binding b bound in
    let below : e.binding < most_bindings = omega (arith, within, few) in
    record {
      progress = progress_by true (end_work_at common.joined.end_works e);
      progress_is = at_slot s.run.progresses e below (λ o. o) None refl ∙ own_progress common n k s is e b bound own;
      jobs = refl;
      none_done = refl;
      none_handled = refl;
    }
