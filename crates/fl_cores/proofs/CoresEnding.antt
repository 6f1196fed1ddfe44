-- Which ends a core's plan has, and the word of each.
use Rattle.std.proofs.Common.{◌≡◌, refl, sym, ap, ◌∙◌, subst, ℕ, zero, suc, ◌+◌, ◌==◌, List, [], ◌∷◌, slice_get, Option, Some, None, true, inl, inr, arith}
use Rattle.std.proofs.lemmas.Bool.Decides.{nat_tests}
use Rattle.std.proofs.lemmas.Option.{same_Some}
use Rattle.fl_base.specs.declared.identity.EndId.{EndId}
use Rattle.fl_base.specs.declared.identity.Side.{Side}
use Rattle.fl_base.specs.declared.identity.Side.TheVariants.{Client, Server}
use Rattle.fl_base.specs.Given.{given}
use Rattle.fl_core.specs.View.{client_of, server_of}
use Rattle.fl_core_run.specs.declared.opening_status.OpeningStatus.TheVariants.{Silent, Tells, Hears}
use Rattle.fl_core_run.specs.OpeningStatus.{word_by}
use Rattle.fl_cores_jobs.specs.declared.end_work.BindingCores.{BindingCores}
use Rattle.fl_cores_jobs.specs.Joined.{core_of, core_at}
use Rattle.fl_cores_laws.specs.EndedBegins.{word_at, word_of}
use Rattle.fl_cores_parts.specs.Begins.{ends_from, words_of}
use Rattle.fl_cores.proofs.CoresLists.{behind, first_in, second_in, one_of}

same_number : (m n : ℕ) → (m == n) ≡ true → m ≡ n
same_number m n is = grind (arith, nat_tests, is)

number_is : (m n : ℕ) → m ≡ n → (m == n) ≡ true
number_is m n is = grind (arith, nat_tests, is)

pub end_by : (e : EndId) (n : ℕ) (s : Side) → e.binding ≡ n → e.side ≡ s → e ≡ record { binding = n; side = s }
end_by e n s binding side =
    ap (λ (x : Side). record { binding = e.binding; side = x }) side ∙ ap (λ (m : ℕ). record { binding = m; side = s }) binding

-- ---- an end of the plan

pub record Found (core n : ℕ) (bindings : List BindingCores) (k : ℕ) (e : EndId) : Type 0 where
  pub place : ℕ
  pub binding : e.binding ≡ n + place
  pub bound : BindingCores
  pub bound_is : slice_get bindings place ≡ Some bound
  pub core_is : core_of e.side bound ≡ core
  pub word : slice_get (words_of core bindings) k ≡ Some (word_at e.side bound)

at_client : (core n : ℕ) (b : BindingCores) (bindings : List BindingCores) (k : ℕ) (e : EndId) → (b.client == core) ≡ true → e ≡ client_of n
    → slice_get (words_of core (b ∷ bindings)) k ≡ Some (word_by Tells b.opened) → Found core n (b ∷ bindings) k e
at_client core n b bindings k e own is word = record {
  place = 0;
  binding = (let same = ap (λ (x : EndId). x.binding) is in omega (arith, same));
  bound = b;
  bound_is = refl;
  core_is = ap (λ (x : EndId). core_of x.side b) is ∙ same_number b.client core own;
  word = word ∙ ap Some (ap (λ (x : EndId). word_at x.side b) (sym is));
}

at_server : (core n : ℕ) (b : BindingCores) (bindings : List BindingCores) (k : ℕ) (e : EndId) → (b.server == core) ≡ true → e ≡ server_of n
    → slice_get (words_of core (b ∷ bindings)) k ≡ Some (word_by Hears b.opened) → Found core n (b ∷ bindings) k e
at_server core n b bindings k e own is word = record {
  place = 0;
  binding = (let same = ap (λ (x : EndId). x.binding) is in omega (arith, same));
  bound = b;
  bound_is = refl;
  core_is = ap (λ (x : EndId). core_of x.side b) is ∙ same_number b.server core own;
  word = word ∙ ap Some (ap (λ (x : EndId). word_at x.side b) (sym is));
}

pub found : (core n : ℕ) (bindings : List BindingCores) (k : ℕ) (e : EndId) → slice_get (ends_from core n bindings) k ≡ Some e → Found core n bindings k e
found core n [] k e at = absurd (cc)
found core n (b ∷ bindings) k e at =
    elim (one_of (b.client == core) (b.server == core) (client_of n) (server_of n) (ends_from core (suc n) bindings) (word_by Tells b.opened) (word_by Hears b.opened)
    (words_of core bindings) k e at) [
      | inl (own, is, word) ↦ at_client core n b bindings k e own is word
      | inr (inl (own, is, word)) ↦ at_server core n b bindings k e own is word
      | inr (inr (m, there, word)) ↦
          (let f = found core (suc n) bindings m e there in
          let moved = f.binding in
          record {
            place = suc f.place;
            binding = omega (arith, moved);
            bound = f.bound;
            bound_is = f.bound_is;
            core_is = f.core_is;
            word = word (word_at e.side f.bound) f.word;
          })
    ]

-- ---- an end of the core's own

module _ (core : ℕ) (e : EndId) where
  abbrev Has : ℕ → List BindingCores → Type 0
  Has n bindings = (k : ℕ) × (slice_get (ends_from core n bindings) k ≡ Some e)

  here_by : (n : ℕ) (b : BindingCores) (bindings : List BindingCores) (s : Side) → e.side ≡ s → e.binding ≡ n → core_of s b ≡ core → Has n (b ∷ bindings)
  here_by n b bindings Client side binding own =
      let (k, at) = first_in (b.client == core) (b.server == core) (client_of n) (server_of n) (ends_from core (suc n) bindings) (number_is b.client core own) in
      (k, at ∙ ap Some (sym (end_by e n Client binding side)))
  here_by n b bindings Server side binding own =
      let (k, at) = second_in (b.client == core) (b.server == core) (client_of n) (server_of n) (ends_from core (suc n) bindings) (number_is b.server core own) in
      (k, at ∙ ap Some (sym (end_by e n Server binding side)))

  owned : (n : ℕ) (bindings : List BindingCores) (place : ℕ) (b : BindingCores) → e.binding ≡ n + place → slice_get bindings place ≡ Some b → core_of e.side b ≡ core → Has n bindings
  owned n [] place b binding at own = absurd (cc)
  owned n (x ∷ bindings) zero b binding at own =
      let same : x ≡ b = cc in
      here_by n x bindings e.side refl (omega (arith, binding)) (ap (core_of e.side) same ∙ own)
  owned n (x ∷ bindings) (suc place) b binding at own =
      let (m, there) = owned (suc n) bindings place b (omega (arith, binding)) at own in
      behind (x.client == core) (x.server == core) (client_of n) (server_of n) (ends_from core (suc n) bindings) m e there

  by_bound : (bindings : List BindingCores) (o : Option BindingCores) → slice_get bindings e.binding ≡ o → given o None (λ (b : BindingCores). Some (core_of e.side b)) ≡ Some core → Has 0 bindings
  by_bound bindings None at is = absurd (cc)
  by_bound bindings (Some b) at is = owned 0 bindings e.binding b (omega arith) at (same_Some (core_of e.side b) core is)

  -- is one of its plan
  pub in_plan : (bindings : List BindingCores) → core_at bindings e ≡ Some core → Has 0 bindings
  in_plan bindings is = by_bound bindings (slice_get bindings e.binding) refl is

-- an end of the plan is the core's own, and has its word
pub record InPlan (core : ℕ) (bindings : List BindingCores) (k : ℕ) (e : EndId) : Type 0 where
  pub own : core_at bindings e ≡ Some core
  pub word : slice_get (words_of core bindings) k ≡ Some (word_of bindings e)

pub is_in_plan : (core : ℕ) (bindings : List BindingCores) (k : ℕ) (e : EndId) → slice_get (ends_from core 0 bindings) k ≡ Some e → InPlan core bindings k e
is_in_plan core bindings k e at =
    let f = found core 0 bindings k e at in
    let moved = f.binding in
    let same : e.binding ≡ f.place = omega (arith, moved) in
    let there : slice_get bindings e.binding ≡ Some f.bound = subst (λ (i : ℕ). slice_get bindings i ≡ Some f.bound) (sym same) f.bound_is in
    record {
      own = ap (λ (o : Option BindingCores). given o None (λ (b : BindingCores). Some (core_of e.side b))) there ∙ ap Some f.core_is;
      word = f.word ∙ ap Some (sym (ap (λ (o : Option BindingCores). given o Silent (word_at e.side)) there));
    }
