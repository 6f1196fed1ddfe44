-- A call and a rule are refused as the reader of cores files refuses them.
use Rattle.std.proofs.Common.{◌≡◌, refl, sym, ap, ◌∙◌, ℕ, ◌&&◌, ◌||◌, not, nat_le, if◌then◌else◌, List, length, slice_get, Option, Some, None, Bool, true, false}
use Rattle.std.specs.Option.{option_map}
use Rattle.std.proofs.lemmas.List.{length-map}
use Rattle.std.proofs.lemmas.Option.{slice_get-map}
use Rattle.fl_base.specs.declared.identity.Side.{Side}
use Rattle.fl_base.specs.declared.identity.Side.TheVariants.{Client, Server}
use Rattle.fl_base.specs.declared.identity.EndId.{EndId}
use Rattle.fl_base.specs.Ends.{peer, other}
use Rattle.fl_base.specs.Given.{given}
use Rattle.fl_interface.specs.SameTypes.{same_arguments}
use Rattle.fl_value_data.specs.Fits.{fits_of}
use Rattle.fl_value_data.specs.Value.{TheCall}
use Rattle.fl_compile.specs.declared.program.Program.{Program}
use Rattle.fl_model.specs.Calls.{Planned}
use Rattle.fl_model.specs.Taking.{arguments_of, has_message}
use Rattle.fl_cores_file.specs.Jobs.{TheCircuitRequest, Job, opens, own_calls, has_rules}
use Rattle.fl_cores_file.specs.Draft.{Bound as ReadBound, use_at, is_for_calls, is_for_rules, call_fault, rule_fault}
use Rattle.fl_world_refines.specs.Ends.{planned_of}
use Rattle.fl_world_refines.specs.declared.binding.Binding.{Binding}
use Rattle.fl_world_refines.specs.declared.parts.Parts.{Parts}
use Rattle.fl_cores_jobs.specs.declared.end_work.BindingCores.{BindingCores}
use Rattle.fl_cores_jobs.specs.EndWork.{TheEndWork, end_work_at, is_ruled, are_some, IsAsked}
use Rattle.fl_cores_jobs.specs.Faults.{use_in, as_read, found_at, call_fault_by, rule_fault_by, call_fault_at, rule_fault_at, request_fault}
use Rattle.fl_cores_jobs.specs.State.{TheJoinedJobs, AreJoined}
use Rattle.fl_cores_jobs.specs.Whole.{About, about, all_about, AreBound, found_behind, call_refusal, rule_refusal, job_fault}

its_use : (set_up : ℕ) (asked : List Job) (n interface : ℕ) (s : Side)
    → use_at s (as_read set_up asked n interface) ≡ (let e : EndId = record { binding = n; side = s } in use_in asked e)
its_use set_up asked n interface Client = refl
its_use set_up asked n interface Server = refl

for_rules_by : (asked : List Job) (e : EndId) (a b : Bool) → has_rules asked e ≡ a → are_some (own_calls asked e) ≡ b → is_for_rules (use_in asked e) ≡ a
for_rules_by asked e true b has some = rw has refl
for_rules_by asked e false true has some = rw (has, some) refl
for_rules_by asked e false false has some = rw (has, some) refl

rules_there : (asked : List Job) (e : EndId) (d : TheEndWork) → IsAsked asked e d → is_for_rules (use_in asked e) ≡ is_ruled d
rules_there asked e d a = for_rules_by asked e (has_rules asked e) (are_some (own_calls asked e)) refl refl ∙ sym a.ruled

for_calls_by : (asked : List Job) (e : EndId) (a b : Bool) → has_rules asked e ≡ a → are_some (own_calls asked e) ≡ b → (a ≡ true → b ≡ false)
    → is_for_calls (use_in asked e) ≡ b
for_calls_by asked e true b has some alone = rw has (sym (alone refl))
for_calls_by asked e false true has some alone = rw (has, some) refl
for_calls_by asked e false false has some alone = rw (has, some) refl

calls_there : (asked : List Job) (e : EndId) (d : TheEndWork) → IsAsked asked e d → is_for_calls (use_in asked e) ≡ d.makes_calls
calls_there asked e d a =
    for_calls_by asked e (has_rules asked e) (are_some (own_calls asked e)) refl refl (λ h. ap (λ (cs : List TheCall). are_some cs) (a.alone h)) ∙ sym a.calls

module _ (set_up : ℕ) (asked : List Job) (e : EndId) (interface : ℕ) (i : Planned) where
  abbrev read : ReadBound
  read = as_read set_up asked e.binding interface

  pub call_alike : (d : TheEndWork) (c : TheCall) → IsAsked asked e d → call_fault_by d c i ≡ call_fault e.side c read i
  call_alike d c a =
      ap (λ (b : Bool). if nat_le (length i.interface.messages) c.msg then Some 41 else if not (fits_of i.interface c) then Some 42 else if b then Some 44 else None)
      (sym (ap is_for_rules (its_use set_up asked e.binding interface e.side) ∙ rules_there asked e d a))

  pub rule_alike : (d across : TheEndWork) (msg answer : ℕ) → IsAsked asked e d → IsAsked asked (peer e) across
      → rule_fault_by d across msg answer i ≡ rule_fault e.side msg answer read i
  rule_alike d across msg answer a o =
      let here = ap is_for_calls (its_use set_up asked e.binding interface e.side) ∙ calls_there asked e d a in
      let there = ap is_for_rules (its_use set_up asked e.binding interface (other e.side)) ∙ rules_there asked (peer e) across o in
      ap (λ (b : Bool). if not (has_message msg i && has_message answer i) then Some 41
      else if not (same_arguments (arguments_of msg i) (arguments_of answer i)) then Some 42 else if b || is_ruled across then Some 44 else None) (sym here)
      ∙ ap (λ (b : Bool). if not (has_message msg i && has_message answer i) then Some 41
      else if not (same_arguments (arguments_of msg i) (arguments_of answer i)) then Some 42
      else if is_for_calls (use_at e.side read) || b then Some 44 else None) (sym there)

-- ---- an end, by what is asked of its binding

same_in : (o : Option Program) (f g : Planned → Option ℕ) → ((i : Planned) → f i ≡ g i)
    → given o (Some 92) (λ p. f (planned_of p)) ≡ given o (Some 92) (λ p. g (planned_of p))
same_in None f g same = refl
same_in (Some p) f g same = same (planned_of p)

same_by : (programs : List Program) (o : Option BindingCores) (f : Planned → Option ℕ) (g : ℕ → Planned → Option ℕ) → ((n : ℕ) (i : Planned) → f i ≡ g n i)
    → given o (Some 92) (λ x. given (slice_get programs x.interface) (Some 92) (λ p. f (planned_of p)))
    ≡ given (option_map about o) (Some 92) (λ x. given (slice_get programs x.interface) (Some 92) (λ p. g x.interface (planned_of p)))
same_by programs None f g same = refl
same_by programs (Some x) f g same = same_in (slice_get programs x.interface) f (g x.interface) (same x.interface)

module _ (programs : List Program) (set_up : List Binding) (asked : List Job) (j : TheJoinedJobs) (bound : AreBound set_up asked j) (e : EndId) where
  its_about : option_map about (slice_get j.bindings e.binding) ≡ slice_get (all_about set_up asked) e.binding
  its_about = sym (slice_get-map about j.bindings e.binding) ∙ ap (λ (t : List About). slice_get t e.binding) bound.bound

  same_found : (f : Planned → Option ℕ) (finds : ReadBound → Planned → Option ℕ)
      → ((n : ℕ) (i : Planned) → f i ≡ finds (as_read (length set_up) asked e.binding n) i)
      → found_at programs j.bindings e (λ x i. f i) ≡ found_behind programs set_up asked e finds
  same_found f finds same =
      same_by programs (slice_get j.bindings e.binding) f (λ n i. finds (as_read (length set_up) asked e.binding n) i) same
      ∙ ap (λ (o : Option About). given o (Some 92) λ x. given (slice_get programs x.interface) (Some 92) λ p.
      finds (as_read (length set_up) asked e.binding x.interface) (planned_of p)) its_about

-- ---- the fault of a job behind those that are joined

module _ (p : Parts) (cores : ℕ) (asked : List Job) (j : TheJoinedJobs) (joined : AreJoined cores asked j) (bound : AreBound p.bindings.items asked j) where
  pub call_refused : (e : EndId) (c : TheCall) → call_fault_at p.programs.items j.bindings j.end_works e c ≡ call_refusal p asked e c
  call_refused e c =
      same_found p.programs.items p.bindings.items asked j bound e (λ i. call_fault_by (end_work_at j.end_works e) c i) (call_fault e.side c)
      (λ n i. call_alike (length p.bindings.items) asked e n i (end_work_at j.end_works e) c (joined.each e).asked)

  pub rule_refused : (e : EndId) (msg answer : ℕ)
      → rule_fault_at p.programs.items j.bindings j.end_works e msg answer ≡ rule_refusal p asked e msg answer
  rule_refused e msg answer =
      same_found p.programs.items p.bindings.items asked j bound e
      (λ i. rule_fault_by (end_work_at j.end_works e) (end_work_at j.end_works (peer e)) msg answer i) (rule_fault e.side msg answer)
      (λ n i. rule_alike (length p.bindings.items) asked e n i (end_work_at j.end_works e) (end_work_at j.end_works (peer e)) msg answer (joined.each e).asked
      (joined.each (peer e)).asked)

  pub request_refused : (w : TheCircuitRequest) → request_fault p (length j.bindings) w ≡ job_fault p asked (opens w)
  request_refused w =
      ap (λ (n : ℕ). request_fault p n w) (sym (length-map j.bindings about) ∙ ap (λ (t : List About). length t) bound.bound)
