-- What `cores` does with files and standard output, what a whole run of the program does, and the statuses with which they end.
-- Public promises rest on this file.
use Rattle.std.specs.Prelude.{◌≡◌, ◌⊎◌, ℕ, List, [], ◌∷◌, Option, None, Some}
use Rattle.std.specs.declared.io.ErrorKind.{ErrorKind}
use Rattle.clap.specs.declared.error.kind.ErrorKind.{ErrorKind as UsageKind}
use Rattle.clap.specs.declared.error.kind.ErrorKind.TheVariants.{OutOfMemory as NoMemory}
use Rattle.clap.specs.Words.{IsAmong, Text}
use Rattle.flounder_args.specs.Words.{Asked, to_run, to_show, to_compile, to_run_cores, to_chart, to_head, AskFor, refusals}
use Rattle.flounder_commands.specs.Commands.{Unread, failed_status, Compiles, Views, Execs, Helps}
use Rattle.flounder_commands.specs.FileEffects.{FileEffect, was_read, was_written, was_not_written}
use Rattle.flounder_commands.specs.Headers.{Heads}
use Rattle.flounder_commands.specs.Streams.{Output, Streams, PutsPrefix, Prints, IsUntouched, IsUnread}
use Rattle.flounder_run.specs.Charts.{Charts}
use Rattle.fl_cores.specs.declared.fault.CoresFault.{CoresFault}
use Rattle.fl_cores.specs.declared.fault.CoresFault.TheVariants as fault
use Rattle.fl_cores.specs.declared.text.CoresEnd.{CoresEnd}
use Rattle.fl_cores.specs.declared.text.CoresEnd.TheVariants as end
use Rattle.fl_cores.specs.Promised.{IsFaultOfText}
use Rattle.fl_cores.specs.Honesty.{Appends}
use Rattle.fl_cores_script.specs.Kept.{KeepsToFile}
use Rattle.fl_cores_script.specs.Replays.{Replays}
use Rattle.fl_world_refines.specs.ShowsState.{Shows as WorldShows}

-- ---- cores FILE --turns N

-- a text is all that is told of a cores file: an honest report, or the line that is refused
abbrev pub IsTold : List ℕ → ℕ → CoresEnd → List ℕ → Type 0
IsTold bytes turns end told = Appends bytes turns end [] told

-- 0 where all cores finished, 2 where a line is refused, 5 where the turns of a core were used up
abbrev pub end_status : CoresEnd → ℕ
end_status end.Complete = 0
end_status end.Refused = 2
end_status end.TurnsOut = 5

-- where a run of cores came to no report: 2 where a part of it is refused, 3 when out of memory or of threads; of a file it is 3 alone
abbrev pub cores_status : CoresFault → ℕ
cores_status (fault.Setup number place) = 2
cores_status (fault.Job number place) = 2
cores_status fault.Memory = 3
cores_status fault.Thread = 3

-- where that can't be written: 2 where a line is refused, which is found before any write fails, else 4
abbrev pub unprinted_status : CoresEnd → ℕ
unprinted_status end.Complete = 4
unprinted_status end.Refused = 2
unprinted_status end.TurnsOut = 4

-- all that is told of a cores file was printed, or only a prefix of it was put; no public promise rests on it
abbrev pub TellsCores : CoresEnd → List ℕ → Output → ℕ → Type 0
TellsCores end told output status =
    ((status ≡ end_status end) × Prints output told) ⊎ ((status ≡ unprinted_status end) × PutsPrefix output told)

-- FILE was read, and run unless a line is refused; what is told of that was printed
pub record CoresRan (file : List ℕ) (turns : ℕ) (output : Output) (effects : List FileEffect) (status : ℕ) : Type 0 where
  pub bytes : List ℕ
  pub end : CoresEnd
  pub told : List ℕ
  pub is_told : IsTold bytes turns end told
  pub printed : Prints output told
  pub done : effects ≡ was_read file bytes ∷ []
  pub ends : status ≡ end_status end

-- FILE was read, and run unless a line is refused; a prefix of what is told of that was put, which may be all of it; the rest couldn't be put
-- or written out
pub record CoresToldInPart (file : List ℕ) (turns : ℕ) (output : Output) (effects : List FileEffect) (status : ℕ) : Type 0 where
  pub bytes : List ℕ
  pub end : CoresEnd
  pub told : List ℕ
  pub is_told : IsTold bytes turns end told
  pub put : PutsPrefix output told
  pub done : effects ≡ was_read file bytes ∷ []
  pub ends : status ≡ unprinted_status end

-- FILE was read, and nothing was put, as its run came to no report (3): memory was refused, or it is a cores file of which this may be told
-- where a thread doesn't start
pub record CoresFailed (file : List ℕ) (output : Output) (effects : List FileEffect) (status : ℕ) : Type 0 where
  pub bytes : List ℕ
  pub fault : CoresFault
  pub is_fault : IsFaultOfText bytes fault
  pub printed : IsUntouched output
  pub done : effects ≡ was_read file bytes ∷ []
  pub ends : status ≡ 3

abbrev pub RunsCores : List ℕ → ℕ → Output → ℕ → List FileEffect → Type 0
RunsCores file turns output status effects =
    CoresRan file turns output effects status
    ⊎ ((IsUntouched output × Unread file effects status)
    ⊎ (CoresToldInPart file turns output effects status ⊎ CoresFailed file output effects status))

-- ---- cores FILE --turns N --script OUT

-- a script was written to OUT, and the status is the run's; or OUT couldn't be written
abbrev pub WritesScript : List ℕ → List ℕ → ℕ → ℕ → List FileEffect → Type 0
WritesScript out script status result effects =
    ((effects ≡ was_written out script ∷ []) × (result ≡ status))
    ⊎ ((kind : ErrorKind) × (effects ≡ was_not_written out kind ∷ []) × (result ≡ failed_status kind))

-- a script of the run of this file with this report was found: what it tells of each end are the report's calls, and its lines stand in
-- the file, or ask for an event of a core; or none was found, and the status is the run's, or memory was refused (3)
abbrev pub KeepsScript : List ℕ → List ℕ → List ℕ → ℕ → ℕ → List FileEffect → Type 0
KeepsScript out bytes report status result effects =
    ((script : List ℕ) × Replays script report × KeepsToFile script bytes × WritesScript out script status result effects)
    ⊎ ((effects ≡ []) × ((result ≡ status) ⊎ (result ≡ 3)))

-- the cores ran and there is a report: no line is refused
abbrev pub IsReported : CoresEnd → Type 0
IsReported end.Complete = Unit {0}
IsReported end.Refused = ⊥
IsReported end.TurnsOut = Unit {0}

-- as without `--script`; where all of a report was printed, a script of the run may have been written behind that
abbrev pub RecordsCores : List ℕ → ℕ → List ℕ → Output → ℕ → List FileEffect → Type 0
RecordsCores file turns out output result effects =
    RunsCores file turns output result effects
    ⊎ ((bytes told : List ℕ) × (end : CoresEnd) × (kept : List FileEffect) × IsTold bytes turns end told × IsReported end × Prints output told
    × (effects ≡ was_read file bytes ∷ kept) × KeepsScript out bytes told (end_status end) result kept)

abbrev pub DoesCores : List ℕ → ℕ → Option (List ℕ) → Output → ℕ → List FileEffect → Type 0
DoesCores file turns None output status effects = RunsCores file turns output status effects
DoesCores file turns (Some out) output status effects = RecordsCores file turns out output status effects

-- ---- a whole run

-- each command does what it says, and touches nothing else
abbrev pub Performs : Asked → Streams → ℕ → List FileEffect → Type 0
Performs (to_run explain strict) io status effects = (effects ≡ []) × Execs WorldShows strict io status
Performs (to_show file names) io status effects = IsUnread io × Views file names io.output status effects
Performs (to_compile file out) io status effects = IsUnread io × IsUntouched io.output × Compiles file out status effects
Performs (to_run_cores file turns script) io status effects = IsUnread io × DoesCores file turns script io.output status effects
Performs (to_chart file lines) io status effects = IsUnread io × Charts file lines io.output status effects
Performs (to_head file) io status effects = IsUnread io × Heads file io.output status effects

-- the words ask for something, and it was done
pub record DoesAsked (words : List Text) (io : Streams) (status : ℕ) (effects : List FileEffect) : Type 0 where
  pub asked : Asked
  pub is_asked : AskFor words asked
  pub done : Performs asked io status effects

-- the words ask for nothing, or memory was refused before it was known what they ask for; nothing was read
pub record Refuses (words : List Text) (io : Streams) (status : ℕ) (effects : List FileEffect) : Type 0 where
  pub kind : UsageKind
  pub is_kind : (kind ≡ NoMemory) ⊎ IsAmong kind (refusals words)
  pub nothing_done : effects ≡ []
  pub nothing_read : IsUnread io
  pub told : Helps kind io.output status

-- a run on these words, of which the first is the program's name
abbrev pub Runs : List Text → Streams → ℕ → List FileEffect → Type 0
Runs words io status effects = DoesAsked words io status effects ⊎ Refuses words io status effects
