-- What the commands do with files, standard input and standard output, and the statuses with which they end. `cores` and whole runs
-- have theirs in `flounder_run`. Public promises rest on this file.
use Rattle.std.specs.Prelude.{◌≡◌, ◌⊎◌, ◌&&◌, ℕ, Bool, true, false, List, [], ◌∷◌, Option, IfSome, if◌then◌else◌}
use Rattle.std.specs.declared.io.ErrorKind.{ErrorKind}
use Rattle.std.specs.declared.io.ErrorKind.TheVariants.{OutOfMemory}
use Rattle.clap.specs.declared.error.kind.ErrorKind.{ErrorKind as UsageKind}
use Rattle.clap.specs.declared.error.kind.ErrorKind.TheVariants.{DisplayHelp, DisplayVersion, OutOfMemory as NoMemory}
use Rattle.fl_interface.specs.Interface.{TheInterface}
use Rattle.fl_value_data.specs.declared.value.PlanNo.TheVariants.{Two}
use Rattle.fl_script_exec.specs.declared.running.ExecFault.{ExecFault}
use Rattle.fl_script_exec.specs.Transcript.{Transcript}
use Rattle.fl_script_exec.specs.CutShort.{LeavesWritten}
use Rattle.fl_script_exec.specs.Reading as script
use Rattle.fl_script_exec.specs.Written as written
use Rattle.fl_model.specs.State.{State}
use Rattle.flounder_show.specs.declared.fault.ShowFault.{ShowFault}
use Rattle.flounder_show.specs.Content as content
use Rattle.flounder_show.specs.Named.{StandsIn}
use Rattle.flounder_show.specs.Content.{StandsFor, IsImageOf, IsRefusalOf, Shows, IsRefusedAs}
use Rattle.flounder_commands.specs.Refusals.{has_refusal}
use Rattle.flounder_commands.specs.FileEffects.{FileEffect, was_read, was_not_read, was_written, was_not_written}
use Rattle.flounder_commands.specs.Streams.{Output, Streams, Puts, PutsPrefix, Prints, IsUntouched}

-- the status of a read or a write that failed with an error of a kind: 3 when out of memory, else 4
abbrev pub failed_status : ErrorKind → ℕ
failed_status OutOfMemory = 3
failed_status kind = 4

-- the status where the words of the command line can't be had: 3 when out of memory, else 1
abbrev pub no_words_status : ErrorKind → ℕ
no_words_status OutOfMemory = 3
no_words_status kind = 1

-- the file couldn't be read, and nothing else was done
pub record Unread (file : List ℕ) (effects : List FileEffect) (status : ℕ) : Type 0 where
  pub kind : ErrorKind
  pub done : effects ≡ was_not_read file kind ∷ []
  pub ends : status ≡ failed_status kind

-- ---- compile FILE OUT

-- FILE was read and its text stands for an interface; then OUT was written: the interface's image under plan 2
pub record WritesImage (file out : List ℕ) (effects : List FileEffect) (status : ℕ) : Type 0 where
  pub bytes : List ℕ
  pub interface : TheInterface
  pub stands : StandsFor bytes interface
  pub image : List ℕ
  pub is_image : IsImageOf image Two interface
  pub done : effects ≡ was_read file bytes ∷ was_written out image ∷ []
  pub ends : status ≡ 0

-- FILE was read and nothing was written: its text has a fault (2), or memory was refused (3)
pub record NotCompiled (file : List ℕ) (effects : List FileEffect) (status : ℕ) : Type 0 where
  pub bytes : List ℕ
  pub fault : ShowFault
  pub is_fault : IsRefusalOf bytes fault
  pub done : effects ≡ was_read file bytes ∷ []
  pub ends : status ≡ content.status_of fault

-- FILE was read and its text stands for an interface; then OUT couldn't be written
pub record NotWritten (file out : List ℕ) (effects : List FileEffect) (status : ℕ) : Type 0 where
  pub bytes : List ℕ
  pub interface : TheInterface
  pub stands : StandsFor bytes interface
  pub kind : ErrorKind
  pub done : effects ≡ was_read file bytes ∷ was_not_written out kind ∷ []
  pub ends : status ≡ failed_status kind

abbrev pub Compiles : List ℕ → List ℕ → ℕ → List FileEffect → Type 0
Compiles file out status effects =
    WritesImage file out effects status ⊎ (Unread file effects status ⊎ (NotCompiled file effects status ⊎ NotWritten file out effects status))

-- ---- show FILE

-- what is printed of a table: it alone; or, with names, a text in which it stands, with other bytes between its own
abbrev pub IsShown : Bool → List ℕ → List ℕ → Type 0
IsShown false table text = text ≡ table
IsShown true table text = StandsIn table text

-- FILE was read, and the table that it shows was printed
pub record Printed (file : List ℕ) (names : Bool) (output : Output) (effects : List FileEffect) (status : ℕ) : Type 0 where
  pub bytes : List ℕ
  pub table : List ℕ
  pub text : List ℕ
  pub shows : Shows bytes table
  pub is_shown : IsShown names table text
  pub printed : Prints output text
  pub done : effects ≡ was_read file bytes ∷ []
  pub ends : status ≡ 0

-- FILE was read and nothing was printed: it has a fault (2), or memory was refused (3)
pub record NotShown (file : List ℕ) (output : Output) (effects : List FileEffect) (status : ℕ) : Type 0 where
  pub bytes : List ℕ
  pub fault : ShowFault
  pub is_fault : IsRefusedAs bytes fault
  pub printed : IsUntouched output
  pub done : effects ≡ was_read file bytes ∷ []
  pub ends : status ≡ content.status_of fault

-- FILE was read and shows a table, and of what is printed of that a prefix was put, which may be all of it; the rest couldn't be put or
-- written out
pub record NotPrinted (file : List ℕ) (names : Bool) (output : Output) (effects : List FileEffect) (status : ℕ) : Type 0 where
  pub bytes : List ℕ
  pub table : List ℕ
  pub text : List ℕ
  pub shows : Shows bytes table
  pub is_shown : IsShown names table text
  pub put : PutsPrefix output text
  pub done : effects ≡ was_read file bytes ∷ []
  pub ends : status ≡ 4

-- FILE was read and shows a table, and memory was refused before its arguments' names stood in it; nothing was printed
pub record NotNamed (file : List ℕ) (names : Bool) (output : Output) (effects : List FileEffect) (status : ℕ) : Type 0 where
  pub bytes : List ℕ
  pub table : List ℕ
  pub shows : Shows bytes table
  pub asked : names ≡ true
  pub printed : IsUntouched output
  pub done : effects ≡ was_read file bytes ∷ []
  pub ends : status ≡ 3

abbrev pub Views : List ℕ → Bool → Output → ℕ → List FileEffect → Type 0
Views file names output status effects =
    Printed file names output effects status
    ⊎ ((IsUntouched output × Unread file effects status)
    ⊎ (NotShown file output effects status ⊎ (NotPrinted file names output effects status ⊎ NotNamed file names output effects status)))

-- ---- exec

-- The status of a script that was run to its end: 2 where that is asked for and what reached standard output tells of a refused
-- line, else 0.
abbrev pub EndsRun : Bool → Option (List ℕ) → ℕ → Type 0
EndsRun strict reached status =
    (is_refused : Bool) × IfSome reached (λ all. is_refused ≡ has_refusal all) × (status ≡ (if strict && is_refused then 2 else 0))

-- a machine of a kind ran standard input, and shows the state behind it; its transcript was printed
pub record Ran {M : Type 0} (shows : M → State → Type 0) (strict : Bool) (io : Streams) (status : ℕ) : Type 0 where
  pub machine : IfSome io.input (written.Ran shows)
  pub transcript : IfSome io.input (λ bytes. (out : List ℕ) × Transcript bytes out × Prints io.output out)
  pub ends : EndsRun strict io.output.reached status

-- memory was refused (3), or a read or a write failed (4): a prefix of the transcript was put, and for each fault which
pub record CutShort (io : Streams) (status : ℕ) : Type 0 where
  pub fault : ExecFault
  pub prefix : IfSome io.input (λ bytes. (out : List ℕ) × LeavesWritten fault bytes out × Puts io.output out)
  pub ends : status ≡ script.status_of fault

-- the whole transcript was put, and what the buffer kept back couldn't be written out
pub record NotFlushed (io : Streams) (status : ℕ) : Type 0 where
  pub transcript : IfSome io.input (λ bytes. (out : List ℕ) × Transcript bytes out × Puts io.output out)
  pub ends : status ≡ 4

abbrev pub Execs : {M : Type 0} → (M → State → Type 0) → Bool → Streams → ℕ → Type 0
Execs shows strict io status = Ran shows strict io status ⊎ (CutShort io status ⊎ NotFlushed io status)

-- ---- no command

-- help or the version was asked for: its text was printed (0), or a prefix of it was put (4); or memory was refused before (3)
pub record Helped (output : Output) (status : ℕ) : Type 0 where
  pub text : List ℕ
  pub ends : ((status ≡ 0) × Prints output text) ⊎ ((status ≡ 4) × PutsPrefix output text)

-- help or the version was asked for; memory was refused (3); or the words are of no form (1)
abbrev pub Helps : UsageKind → Output → ℕ → Type 0
Helps DisplayHelp output status = Helped output status ⊎ (IsUntouched output × (status ≡ 3))
Helps DisplayVersion output status = Helped output status ⊎ (IsUntouched output × (status ≡ 3))
Helps NoMemory output status = IsUntouched output × (status ≡ 3)
Helps kind output status = IsUntouched output × (status ≡ 1)
