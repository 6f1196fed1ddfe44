-- What the parts of a command come to. No public promise rests on this file.
use Rattle.std.specs.Prelude.{◌≡◌, ◌⊎◌, ℕ, Bool, true, List, Option, Result, MatchResult}
use Rattle.std.specs.declared.io.ErrorKind.{ErrorKind}
use Rattle.flounder_commands.specs.declared.fault.Fault.{Fault}
use Rattle.flounder_commands.specs.Status.{status_of}
use Rattle.flounder_commands.specs.FileEffects.{FileEffect, Adds, was_not_written}
use Rattle.flounder_commands.specs.Streams.{Output, Prints, PutsPrefix, IsUntouched}
use Rattle.flounder_commands.specs.Commands.{failed_status, IsShown}

-- a property of the status with which an outcome ends: 0, or that of the fault
abbrev pub EndsSo : {T : Type 0} → Result T Fault → (ℕ → Type 0) → Type 0
EndsSo outcome Property = MatchResult outcome (λ _. Property 0) (λ fault. Property (status_of fault))

-- only a prefix of a text was put, or all of it, and the rest couldn't be put or written out
abbrev pub IsCut : Output → List ℕ → ℕ → Type 0
IsCut o text status = (status ≡ 4) × PutsPrefix o text

-- OUT couldn't be written
abbrev pub IsUnmade : List ℕ → Option (List FileEffect) → Option (List FileEffect) → ℕ → Type 0
IsUnmade out old new status = (kind : ErrorKind) × Adds old new (was_not_written out kind) × (status ≡ failed_status kind)

-- what is printed of a table was printed, or only a prefix of it was put; or memory was refused before
abbrev pub TellsText : Bool → List ℕ → Output → ℕ → Type 0
TellsText names table o status = (text : List ℕ) × IsShown names table text × (((status ≡ 0) × Prints o text) ⊎ IsCut o text status)

abbrev pub TellsTable : Bool → List ℕ → Output → ℕ → Type 0
TellsTable names table o status = TellsText names table o status ⊎ ((names ≡ true) × IsUntouched o × (status ≡ 3))
