-- What calls did with files, one after another, and the status of an outcome. The program above uses these, too.
use Rattle.std.proofs.Common.{◌≡◌, ℕ, List, [], ◌∷◌, ◌++◌, Option, None, Some, sym, ap, ◌∙◌, subst, append_assoc, append-nil}
use Rattle.std.specs.Prelude.{IfErr, OnOk, Result, Ok, Err}
use Rattle.flounder_commands.specs.declared.fault.Fault.{Fault}
use Rattle.flounder_commands.specs.Status.{status_of}
use Rattle.flounder_commands.specs.FileEffects.{FileEffect, Tells, Adds, Does}
use Rattle.flounder_commands.specs.Parts.{EndsSo}

added_none : (old : Option (List FileEffect)) → Tells old old []
added_none None = tt
added_none (Some before) = sym (append-nil before)

added_more : (old middle new : Option (List FileEffect)) (first : FileEffect) (more : List FileEffect) → Adds old middle first → Tells middle new more → Tells old new (first ∷ more)
added_more None None None first more a b = tt
added_more None None (Some after) first more a b = absurd b
added_more None (Some between) new first more a b = absurd a
added_more (Some before) None None first more a b = tt
added_more (Some before) None (Some after) first more a b = absurd b
added_more (Some before) (Some between) None first more a b = tt
added_more (Some before) (Some between) (Some after) first more a b =
    b ∙ ap (λ (ds : List FileEffect). ds ++ more) a ∙ append_assoc before (first ∷ []) more

pub does_none : (old : Option (List FileEffect)) (P : List FileEffect → Type 0) → P [] → Does old old P
does_none old P p = ([], added_none old, p)

pub does_one : (old new : Option (List FileEffect)) (effect : FileEffect) (P : List FileEffect → Type 0) → Adds old new effect → P (effect ∷ []) → Does old new P
does_one old new effect P a p = (effect ∷ [], a, p)

pub does_more : (old middle new : Option (List FileEffect)) (first : FileEffect) (P : List FileEffect → Type 0) → Adds old middle first → Does middle new (λ effects. P (first ∷ effects)) → Does old new P
does_more old middle new first P a h = (first ∷ h.0, added_more old middle new first h.0 a h.1, h.2)

pub does_weaker : (old new : Option (List FileEffect)) (P Q : List FileEffect → Type 0) → ((effects : List FileEffect) → P effects → Q effects) → Does old new P → Does old new Q
does_weaker old new P Q f h = (h.0, h.1, f h.0 h.2)

-- the status of an outcome
pub finished : {A : Type 0} (r : Result A Fault) (P : ℕ → Type 0) (status : ℕ) → EndsSo r P → OnOk r (status ≡ 0) → IfErr r (λ f. status ≡ status_of f) → P status
finished (Ok x) P status h done fault = subst (λ (n : ℕ). P n) (sym done) h
finished (Err f) P status h done fault = subst (λ (n : ℕ). P n) (sym fault) h
