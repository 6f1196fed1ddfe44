-- What `cores` and a whole run did, from what each of their calls did.
use Rattle.std.proofs.Common.{◌≡◌, ◌⊎◌, arith, ℕ, Bool, List, [], ◌∷◌, Option, Some, refl, sym, ◌∙◌, subst, inl, inr}
use Rattle.std.specs.Prelude.{MatchResult, Result, Ok, Err}
use Rattle.std.specs.declared.io.ErrorKind.{ErrorKind}
use Rattle.clap.specs.Words.{Text, HasKind, kind_of}
use Rattle.clap.specs.declared.error.Error.{Error}
use Rattle.flounder_args.specs.Words.{Asked, asks_for, refusals}
use Rattle.flounder_commands.specs.declared.fault.Fault.{Fault}
use Rattle.flounder_commands.specs.Commands.{failed_status, Compiles, Views, Execs, Helps}
use Rattle.flounder_commands.specs.FileEffects.{FileEffect, was_read, was_not_read, was_written, was_not_written, Adds, Does}
use Rattle.flounder_commands.specs.Headers.{Heads}
use Rattle.flounder_commands.specs.Parts.{EndsSo}
use Rattle.flounder_commands.specs.Status.{status_of}
use Rattle.flounder_commands.specs.Streams.{Output, Streams, Prints, IsUntouched, IsUnread}
use Rattle.flounder_commands.proofs.FileEffects.{does_none, does_one, does_more, does_weaker}
use Rattle.fl_cores.specs.declared.fault.CoresFault.{CoresFault}
use Rattle.fl_cores.specs.declared.fault.CoresFault.TheVariants as fault
use Rattle.fl_cores.specs.declared.text.CoresEnd.{CoresEnd}
use Rattle.fl_cores.specs.declared.text.CoresEnd.TheVariants.{Complete, Refused, TurnsOut}
use Rattle.fl_cores.specs.Promised.{IsFaultOfText}
use Rattle.fl_cores.specs.Honesty as run
use Rattle.fl_cores_script.specs.Kept.{KeepsToFile}
use Rattle.fl_cores_script.specs.Replays.{Replays}
use Rattle.fl_world_refines.specs.ShowsState.{Shows as WorldShows}
use Rattle.flounder_run.specs.Charts.{Charts}
use Rattle.flounder_run.specs.Commands.{cores_status, end_status, unprinted_status, IsTold, IsReported, TellsCores, RunsCores, RecordsCores, DoesCores, KeepsScript, WritesScript, Performs, Runs}

-- ---- cores

pub cores_unread : (old new : Option (List FileEffect)) (file : List ℕ) (turns : ℕ) (o : Output) (kind : ErrorKind) (status failed : ℕ) → Adds old new (was_not_read file kind) → IsUntouched o → status ≡ failed → failed ≡ failed_status kind
    → Does old new (RunsCores file turns o status)
cores_unread old new file turns o kind status failed a same e h =
    does_one old new (was_not_read file kind) (RunsCores file turns o status) a (inr (inl (same, record { kind = kind; done = refl; ends = e ∙ h })))

-- what came of the content that was read
pub cores_done : (old new : Option (List FileEffect)) (file bytes content : List ℕ) (turns : ℕ) (o : Output) (status : ℕ) → Adds old new (was_read file bytes) → content ≡ bytes
    → RunsCores file turns o status (was_read file content ∷ []) → Does old new (RunsCores file turns o status)
cores_done old new file bytes content turns o status a e h =
    does_one old new (was_read file bytes) (RunsCores file turns o status) a (subst (λ (t : List ℕ). RunsCores file turns o status (was_read file t ∷ [])) e h)

pub cores_failed : (file bytes : List ℕ) (turns : ℕ) (o : Output) (fault : CoresFault) (status : ℕ) → IsUntouched o → IsFaultOfText bytes fault
    → status ≡ cores_status fault → RunsCores file turns o status (was_read file bytes ∷ [])
cores_failed file bytes turns o (fault.Setup number place) status same is e = absurd is
cores_failed file bytes turns o (fault.Job number place) status same is e = absurd is
cores_failed file bytes turns o fault.Memory status same is e =
    inr (inr (inr record { bytes = bytes; fault = fault.Memory; is_fault = is; printed = same; done = refl; ends = e }))
cores_failed file bytes turns o fault.Thread status same is e =
    inr (inr (inr record { bytes = bytes; fault = fault.Thread; is_fault = is; printed = same; done = refl; ends = e }))

ran_cores : (file bytes told : List ℕ) (turns : ℕ) (end : CoresEnd) (o : Output) (status : ℕ) → IsTold bytes turns end told → TellsCores end told o status → RunsCores file turns o status (was_read file bytes ∷ [])
ran_cores file bytes told turns end o status h (inl p) =
    inl record { bytes = bytes; end = end; told = told; is_told = h; printed = p.1; done = refl; ends = p.0 }
ran_cores file bytes told turns end o status h (inr p) =
    inr (inr (inl record { bytes = bytes; end = end; told = told; is_told = h; put = p.1; done = refl; ends = p.0 }))

pub cores_so : {A : Type 0} (r : Result A Fault) (file bytes told put : List ℕ) (turns : ℕ) (end : CoresEnd) (o : Output) → put ≡ told → IsTold bytes turns end told → EndsSo r (TellsCores end put o)
    → EndsSo r (λ status. RunsCores file turns o status (was_read file bytes ∷ []))
cores_so (Ok x) file bytes told put turns end o e h t = ran_cores file bytes told turns end o 0 h (subst (λ (u : List ℕ). TellsCores end u o 0) e t)
cores_so (Err f) file bytes told put turns end o e h t =
    ran_cores file bytes told turns end o (status_of f) h (subst (λ (u : List ℕ). TellsCores end u o (status_of f)) e t)

-- what was put behind nothing is all that is told
pub all_told : (bytes before told : List ℕ) (turns : ℕ) (end : CoresEnd) → run.Appends bytes turns end before told → before ≡ [] → IsTold bytes turns end told
all_told bytes before told turns end h nothing = subst (λ (u : List ℕ). run.Appends bytes turns end u told) nothing h

-- all was printed, and the outcome tells the rest
pub told_so : {A : Type 0} (r : Result A Fault) (end : CoresEnd) (told : List ℕ) (o : Output) → Prints o told → MatchResult r (λ x. end_status end ≡ 0) (λ f. status_of f ≡ end_status end)
    → EndsSo r (TellsCores end told o)
told_so (Ok x) end told o p h = inl (sym h, p)
told_so (Err f) end told o p h = inl (h, p)

-- ---- cores, recorded

-- what is done without a script is done with the option, too
pub recorded_so : (old new : Option (List FileEffect)) (file : List ℕ) (turns : ℕ) (out : List ℕ) (o : Output) (status : ℕ) → Does old new (RunsCores file turns o status)
    → Does old new (RecordsCores file turns out o status)
recorded_so old new file turns out o status h = does_weaker old new (RunsCores file turns o status) (RecordsCores file turns out o status) (λ ds p. inl p) h

-- what came of the content that was read
pub recorded_done : (old middle new : Option (List FileEffect)) (file bytes content : List ℕ) (turns : ℕ) (out : List ℕ) (o : Output) (status : ℕ) → Adds old middle (was_read file bytes)
    → content ≡ bytes → Does middle new (λ effects. RecordsCores file turns out o status (was_read file content ∷ effects)) → Does old new (RecordsCores file turns out o status)
recorded_done old middle new file bytes content turns out o status a e h =
    does_more old middle new (was_read file bytes) (RecordsCores file turns out o status) a
    (subst (λ (t : List ℕ). Does middle new (λ effects. RecordsCores file turns out o status (was_read file t ∷ effects))) e h)

-- no script was looked for
pub not_kept : (old : Option (List FileEffect)) (file bytes : List ℕ) (turns : ℕ) (out : List ℕ) (o : Output) (status : ℕ) → RunsCores file turns o status (was_read file bytes ∷ [])
    → Does old old (λ effects. RecordsCores file turns out o status (was_read file bytes ∷ effects))
not_kept old file bytes turns out o status h = does_none old (λ effects. RecordsCores file turns out o status (was_read file bytes ∷ effects)) (inl h)

-- the status of a run with a report
abbrev pub HasReport : ℕ → Type 0
HasReport status = (status ≡ 0) ⊎ (((status ≡ 0) → ⊥) × (status ≡ 5))

-- no status of what couldn't be written is that
not_unprinted : (end : CoresEnd) (status : ℕ) → status ≡ unprinted_status end → HasReport status → ⊥
not_unprinted Complete status e (inl h) = omega (arith, e, h)
not_unprinted Complete status e (inr h) = omega (arith, e, h.1)
not_unprinted Refused status e (inl h) = omega (arith, e, h)
not_unprinted Refused status e (inr h) = omega (arith, e, h.1)
not_unprinted TurnsOut status e (inl h) = omega (arith, e, h)
not_unprinted TurnsOut status e (inr h) = omega (arith, e, h.1)

-- where the status is that, the report was printed
all_printed : (end : CoresEnd) (told : List ℕ) (o : Output) (status : ℕ) → TellsCores end told o status → HasReport status → (status ≡ end_status end) × Prints o told
all_printed end told o status (inl p) h = p
all_printed end told o status (inr p) h = absurd (not_unprinted end status p.0 h)

-- there is a report then
is_reported : (end : CoresEnd) (status : ℕ) → status ≡ end_status end → HasReport status → IsReported end
is_reported Complete status same h = tt
is_reported Refused status same (inl h) = omega (arith, same, h)
is_reported Refused status same (inr h) = omega (arith, same, h.1)
is_reported TurnsOut status same h = tt

-- a script of the run was looked for, once all was printed
pub kept_so : (old new : Option (List FileEffect)) (file bytes told put report : List ℕ) (turns : ℕ) (end : CoresEnd) (out : List ℕ) (o : Output) (status result : ℕ) → put ≡ told
    → report ≡ told → IsTold bytes turns end told → TellsCores end put o status → HasReport status → Does old new (KeepsScript out bytes report status result)
    → Does old new (λ effects. RecordsCores file turns out o result (was_read file bytes ∷ effects))
kept_so old new file bytes told put report turns end out o status result e same h t is kept =
    let p = all_printed end told o status (subst (λ (u : List ℕ). TellsCores end u o status) e t) is in
    does_weaker old new (KeepsScript out bytes report status result) (λ effects. RecordsCores file turns out o result (was_read file bytes ∷ effects))
    (λ ds k. inr (
      bytes,
      told,
      end,
      ds,
      h,
      is_reported end status p.0 is,
      p.1,
      refl,
      subst (λ (n : ℕ). KeepsScript out bytes told n result ds) p.0 (subst (λ (u : List ℕ). KeepsScript out bytes u status result ds) same k),
    )) kept

-- a script that was found
pub script_found : (old new : Option (List FileEffect)) (out bytes script put told : List ℕ) (status result : ℕ) → put ≡ script → Replays script told
    → KeepsToFile script bytes → Does old new (WritesScript out put status result) → Does old new (KeepsScript out bytes told status result)
script_found old new out bytes script put told status result e r keeps h =
    does_weaker old new (WritesScript out put status result) (KeepsScript out bytes told status result)
    (λ ds w. inl (put, subst (λ (u : List ℕ). Replays u told) (sym e) r, subst (λ (u : List ℕ). KeepsToFile u bytes) (sym e) keeps, w)) h

pub none_found : (old : Option (List FileEffect)) (out bytes told : List ℕ) (status result : ℕ) → (result ≡ status) ⊎ (result ≡ 3)
    → Does old old (KeepsScript out bytes told status result)
none_found old out bytes told status result e = does_none old (KeepsScript out bytes told status result) (inr (refl, e))

pub wrote : (old new : Option (List FileEffect)) (out script : List ℕ) (status : ℕ) → Adds old new (was_written out script) → Does old new (WritesScript out script status status)
wrote old new out script status a = does_one old new (was_written out script) (WritesScript out script status status) a (inl (refl, refl))

pub not_wrote : (old new : Option (List FileEffect)) (out script : List ℕ) (kind : ErrorKind) (status result failed : ℕ) → Adds old new (was_not_written out kind) → result ≡ failed → failed ≡ failed_status kind
    → Does old new (WritesScript out script status result)
not_wrote old new out script kind status result failed a e h = does_one old new (was_not_written out kind) (WritesScript out script status result) a (inr (kind, refl, e ∙ h))

-- ---- a whole run

pub performs_exec : (old : Option (List FileEffect)) (strict : Bool) (io : Streams) (status : ℕ) → Execs WorldShows strict io status
    → Does old old (λ effects. (effects ≡ []) × Execs WorldShows strict io status)
performs_exec old strict io status h = does_none old (λ effects. (effects ≡ []) × Execs WorldShows strict io status) (refl, h)

pub performs_show : (old new : Option (List FileEffect)) (io : Streams) (file : List ℕ) (names : Bool) (status : ℕ) → IsUnread io → Does old new (Views file names io.output status)
    → Does old new (λ effects. IsUnread io × Views file names io.output status effects)
performs_show old new io file names status u h =
    does_weaker old new (Views file names io.output status) (λ effects. IsUnread io × Views file names io.output status effects) (λ ds p. (u, p)) h

pub performs_compile : (old new : Option (List FileEffect)) (io : Streams) (file out : List ℕ) (status : ℕ) → IsUnread io → IsUntouched io.output → Does old new (Compiles file out status)
    → Does old new (λ effects. IsUnread io × IsUntouched io.output × Compiles file out status effects)
performs_compile old new io file out status u v h =
    does_weaker old new (Compiles file out status) (λ effects. IsUnread io × IsUntouched io.output × Compiles file out status effects) (λ ds p. (u, v, p)) h

pub performs_cores : (old new : Option (List FileEffect)) (io : Streams) (file : List ℕ) (turns : ℕ) (script : Option Text) (status : ℕ) → IsUnread io
    → Does old new (DoesCores file turns script io.output status) → Does old new (λ effects. IsUnread io × DoesCores file turns script io.output status effects)
performs_cores old new io file turns script status u h =
    does_weaker old new (DoesCores file turns script io.output status) (λ effects. IsUnread io × DoesCores file turns script io.output status effects) (λ ds p. (u, p)) h

pub performs_chart : (old new : Option (List FileEffect)) (io : Streams) (file : List ℕ) (lines : Option Text) (status : ℕ) → IsUnread io → Does old new (Charts file lines io.output status)
    → Does old new (λ effects. IsUnread io × Charts file lines io.output status effects)
performs_chart old new io file lines status u h =
    does_weaker old new (Charts file lines io.output status) (λ effects. IsUnread io × Charts file lines io.output status effects) (λ ds p. (u, p)) h

pub performs_header : (old new : Option (List FileEffect)) (io : Streams) (file : List ℕ) (status : ℕ) → IsUnread io → Does old new (Heads file io.output status)
    → Does old new (λ effects. IsUnread io × Heads file io.output status effects)
performs_header old new io file status u h =
    does_weaker old new (Heads file io.output status) (λ effects. IsUnread io × Heads file io.output status effects) (λ ds p. (u, p)) h

pub runs_asked : (old new : Option (List FileEffect)) (words : List Text) (io : Streams) (asked : Asked) (status : ℕ) → asks_for words ≡ Some asked → refusals words ≡ [] → Does old new (Performs asked io status)
    → Does old new (Runs words io status)
runs_asked old new words io asked status a r h =
    does_weaker old new (Performs asked io status) (Runs words io status) (λ ds p. inl record { asked = asked; is_asked = (a, r); done = p }) h

pub runs_refused : (old : Option (List FileEffect)) (words : List Text) (io : Streams) (error : Error) (status : ℕ) → IsUnread io → HasKind (refusals words) error → Helps (kind_of error) io.output status
    → Does old old (Runs words io status)
runs_refused old words io error status u k h =
    does_none old (Runs words io status) (inr record { kind = kind_of error; is_kind = k; nothing_done = refl; nothing_read = u; told = h })
