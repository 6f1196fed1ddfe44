-- What `chart` does with files and standard output. Public promises rest on this file.
use Rattle.std.specs.Prelude.{◌≡◌, ◌≤◌, ◌⊎◌, ℕ, List, [], ◌∷◌, Option, Some, None, option_map, length}
use Rattle.clap.specs.Words.{Text}
use Rattle.flounder_svg.specs.Xml.{IsDocument}
use Rattle.flounder_chart.specs.declared.fault.ChartFault.{ChartFault}
use Rattle.flounder_chart.specs.Faults as chart
use Rattle.flounder_chart.specs.Lines.{TellsLines, count_told}
use Rattle.flounder_commands.specs.FileEffects.{FileEffect, was_read}
use Rattle.flounder_commands.specs.Streams.{Output, PutsPrefix, Prints, IsUntouched}
use Rattle.flounder_commands.specs.Commands.{Unread}

-- FILE was read, and a well-formed document was printed
pub record Drawn (file : List ℕ) (output : Output) (status : ℕ) (effects : List FileEffect) : Type 0 where
  pub bytes : List ℕ
  pub fits : length bytes ≤ 1048576
  pub drawing : List ℕ
  pub is_document : IsDocument drawing
  pub printed : Prints output drawing
  pub done : effects ≡ was_read file bytes ∷ []
  pub ends : status ≡ 0

-- FILE was read and nothing was printed: its script is too long, or too many of its lines are asked for (2), or memory was refused (3)
pub record NotDrawn (file : List ℕ) (count : Option ℕ) (output : Output) (status : ℕ) (effects : List FileEffect) : Type 0 where
  pub bytes : List ℕ
  pub fault : ChartFault
  pub is_fault : chart.IsFaultOf bytes count fault
  pub printed : IsUntouched output
  pub done : effects ≡ was_read file bytes ∷ []
  pub ends : status ≡ chart.status_of fault

-- FILE was read, and a prefix of a document was put, which may be all of it; the rest couldn't be put or
-- written out
pub record DrawnInPart (file : List ℕ) (output : Output) (status : ℕ) (effects : List FileEffect) : Type 0 where
  pub bytes : List ℕ
  pub fits : length bytes ≤ 1048576
  pub drawing : List ℕ
  pub is_document : IsDocument drawing
  pub put : PutsPrefix output drawing
  pub done : effects ≡ was_read file bytes ∷ []
  pub ends : status ≡ 4

-- all that `chart FILE` does, where all lines are asked for or so many: it reads FILE alone, and writes standard output alone
abbrev pub Draws : List ℕ → Option ℕ → Output → ℕ → List FileEffect → Type 0
Draws file count output status effects =
    Drawn file output status effects
    ⊎ ((IsUntouched output × Unread file effects status)
    ⊎ (NotDrawn file count output status effects ⊎ DrawnInPart file output status effects))

-- a word stands behind `--lines`, and tells no lines
abbrev pub TellsNone : Option Text → Type 0
TellsNone None = ⊥
TellsNone (Some word) = TellsLines word → ⊥

-- then nothing was read or printed
pub record NoLines (lines : Option Text) (output : Output) (status : ℕ) (effects : List FileEffect) : Type 0 where
  pub tells_none : TellsNone lines
  pub printed : IsUntouched output
  pub done : effects ≡ []
  pub ends : status ≡ 1

-- all lines are asked for, or those that the word behind `--lines` tells
abbrev pub Charts : List ℕ → Option Text → Output → ℕ → List FileEffect → Type 0
Charts file lines output status effects =
    ((TellsNone lines → ⊥) × Draws file (option_map count_told lines) output status effects) ⊎ NoLines lines output status effects
