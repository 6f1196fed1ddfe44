-- What `header` did, from what each of its calls did.
use Rattle.std.proofs.Common.{◌≡◌, ℕ, List, [], ◌∷◌, Option, refl, ◌∙◌, subst, inl, inr}
use Rattle.std.specs.Prelude.{IfErr, OnOk, Result, Ok, Err}
use Rattle.std.specs.declared.io.ErrorKind.{ErrorKind}
use Rattle.flounder_show.specs.declared.fault.ShowFault.{ShowFault}
use Rattle.flounder_show.specs.Content.{HasHeader, IsRefusedAs, status_of}
use Rattle.flounder_commands.specs.declared.fault.Fault.{Fault}
use Rattle.flounder_commands.specs.Status as program
use Rattle.flounder_commands.specs.FileEffects.{FileEffect, was_read, was_not_read, Adds, Does}
use Rattle.flounder_commands.specs.Streams.{Output, PutsPrefix, Prints, IsUntouched}
use Rattle.flounder_commands.specs.Parts.{EndsSo, IsCut}
use Rattle.flounder_commands.specs.Commands.{failed_status}
use Rattle.flounder_commands.specs.Headers.{Heads}
use Rattle.flounder_commands.proofs.FileEffects.{does_one}

pub not_headed : (old new : Option (List FileEffect)) (file : List ℕ) (o : Output) (kind : ErrorKind) (status failed : ℕ) → Adds old new (was_not_read file kind) → IsUntouched o → status ≡ failed → failed ≡ failed_status kind
    → Does old new (Heads file o status)
not_headed old new file o kind status failed a same e h =
    does_one old new (was_not_read file kind) (Heads file o status) a (inr (inl (same, record { kind = kind; done = refl; ends = e ∙ h })))

-- what came of the content that was read
pub header_done : (old new : Option (List FileEffect)) (file bytes content : List ℕ) (o : Output) (status : ℕ) → Adds old new (was_read file bytes) → content ≡ bytes → Heads file o status (was_read file content ∷ [])
    → Does old new (Heads file o status)
header_done old new file bytes content o status a e h =
    does_one old new (was_read file bytes) (Heads file o status) a (subst (λ (t : List ℕ). Heads file o status (was_read file t ∷ [])) e h)

pub has_no_header : (file bytes : List ℕ) (o : Output) (fault : ShowFault) (status : ℕ) → IsRefusedAs bytes fault → IsUntouched o → status ≡ status_of fault → Heads file o status (was_read file bytes ∷ [])
has_no_header file bytes o fault status h same e = inr (inr (inl record { bytes = bytes; fault = fault; is_fault = h; printed = same; done = refl; ends = e }))

pub headed_so : {A : Type 0} (r : Result A Fault) (file bytes header put : List ℕ) (o : Output) → put ≡ header → HasHeader bytes header → OnOk r (Prints o put) → IfErr r (λ f. IsCut o put (program.status_of f))
    → EndsSo r (λ status. Heads file o status (was_read file bytes ∷ []))
headed_so (Ok x) file bytes header put o e h done fault =
    inl record { bytes = bytes; header = header; has = h; printed = subst (λ (t : List ℕ). Prints o t) e done; done = refl; ends = refl }
headed_so (Err f) file bytes header put o e h done fault =
    inr (inr (inr record { bytes = bytes; header = header; has = h; put = subst (λ (t : List ℕ). PutsPrefix o t) e fault.1; done = refl; ends = fault.0 }))
