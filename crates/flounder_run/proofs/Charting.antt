-- What `chart` did, from what each of its calls did.
use Rattle.std.proofs.Common.{◌≡◌, ◌≤◌, ℕ, Bool, true, false, List, [], ◌∷◌, length, Option, Some, None, refl, ◌∙◌, subst, inl, inr}
use Rattle.std.specs.Prelude.{cond, IfErr, OnOk, Result, Ok, Err}
use Rattle.std.specs.declared.io.ErrorKind.{ErrorKind}
use Rattle.clap.specs.Words.{Text}
use Rattle.flounder_svg.specs.Xml.{IsDocument}
use Rattle.flounder_chart.specs.declared.fault.ChartFault.{ChartFault}
use Rattle.flounder_chart.specs.Faults as chart
use Rattle.flounder_chart.specs.Lines.{count_of, number_of, first_word, last_word}
use Rattle.flounder_commands.specs.declared.fault.Fault.{Fault}
use Rattle.flounder_commands.specs.Status as program
use Rattle.flounder_commands.specs.FileEffects.{FileEffect, was_read, was_not_read, Adds, Does}
use Rattle.flounder_commands.specs.Streams.{Output, PutsPrefix, Prints, IsUntouched}
use Rattle.flounder_commands.specs.Parts.{EndsSo, IsCut}
use Rattle.flounder_commands.specs.Commands.{failed_status}
use Rattle.flounder_commands.proofs.FileEffects.{does_none, does_one, does_weaker}
use Rattle.flounder_run.specs.Charts.{Charts, Draws, TellsNone}

pub not_charted : (old new : Option (List FileEffect)) (file : List ℕ) (count : Option ℕ) (o : Output) (kind : ErrorKind) (status failed : ℕ) → Adds old new (was_not_read file kind) → IsUntouched o → status ≡ failed → failed ≡ failed_status kind
    → Does old new (Draws file count o status)
not_charted old new file count o kind status failed a same e h =
    does_one old new (was_not_read file kind) (Draws file count o status) a (inr (inl (same, record { kind = kind; done = refl; ends = e ∙ h })))

-- what came of the script that was read
pub chart_done : (old new : Option (List FileEffect)) (file bytes script : List ℕ) (count : Option ℕ) (o : Output) (status : ℕ) → Adds old new (was_read file bytes) → script ≡ bytes
    → Draws file count o status (was_read file script ∷ []) → Does old new (Draws file count o status)
chart_done old new file bytes script count o status a e h =
    does_one old new (was_read file bytes) (Draws file count o status) a (subst (λ (t : List ℕ). Draws file count o status (was_read file t ∷ [])) e h)

pub not_drawn : (file bytes : List ℕ) (count : Option ℕ) (o : Output) (fault : ChartFault) (status : ℕ) → chart.IsFaultOf bytes count fault → IsUntouched o → status ≡ chart.status_of fault
    → Draws file count o status (was_read file bytes ∷ [])
not_drawn file bytes count o fault status h same e = inr (inr (inl record { bytes = bytes; fault = fault; is_fault = h; printed = same; done = refl; ends = e }))

pub drawn_so : {A : Type 0} (r : Result A Fault) (file bytes drawing put : List ℕ) (count : Option ℕ) (o : Output) → length bytes ≤ 1048576 → put ≡ drawing → IsDocument drawing → OnOk r (Prints o put)
    → IfErr r (λ f. IsCut o put (program.status_of f)) → EndsSo r (λ status. Draws file count o status (was_read file bytes ∷ []))
drawn_so (Ok x) file bytes drawing put count o fits e h done fault = inl record {
  bytes = bytes;
  fits = fits;
  drawing = drawing;
  is_document = h;
  printed = subst (λ (t : List ℕ). Prints o t) e done;
  done = refl;
  ends = refl;
}
drawn_so (Err f) file bytes drawing put count o fits e h done fault = inr (inr (inr record {
  bytes = bytes;
  fits = fits;
  drawing = drawing;
  is_document = h;
  put = subst (λ (t : List ℕ). PutsPrefix o t) e fault.1;
  done = refl;
  ends = fault.0;
}))

-- ---- the word behind `--lines`

pub true_is_not_false : true ≡ false → ⊥
true_is_not_false e = subst (λ (b : Bool). cond b (Unit {0}) ⊥) e tt

pub all_lines : (old new : Option (List FileEffect)) (file : List ℕ) (o : Output) (status : ℕ) → Does old new (Draws file None o status) → Does old new (Charts file None o status)
all_lines old new file o status h = does_weaker old new (Draws file None o status) (Charts file None o status) (λ effects d. inl (λ none. none, d)) h

pub lines_told : (old new : Option (List FileEffect)) (file word : List ℕ) (first last : ℕ) (o : Output) (status : ℕ) → (TellsNone (Some word) → ⊥) → first ≡ number_of (first_word word)
    → last ≡ number_of (last_word word) → Does old new (Draws file (Some (count_of first last)) o status) → Does old new (Charts file (Some word) o status)
lines_told old new file word first last o status told f l h =
    does_weaker old new (Draws file (Some (count_of first last)) o status) (Charts file (Some word) o status)
    (λ effects d. inl (
      told,
      subst (λ (n : ℕ). Draws file (Some (count_of (number_of (first_word word)) n)) o status effects) l
          (subst (λ (n : ℕ). Draws file (Some (count_of n last)) o status effects) f d),
    )) h

pub no_lines : (effects : Option (List FileEffect)) (file : List ℕ) (lines : Option Text) (o : Output) (status : ℕ) → TellsNone lines → IsUntouched o → status ≡ 1 → Does effects effects (Charts file lines o status)
no_lines effects file lines o status none same e =
    does_none effects (Charts file lines o status) (inr record { tells_none = none; printed = same; done = refl; ends = e })
