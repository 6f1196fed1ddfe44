-- What the cores of a run begin with, where none runs.
use Rattle.std.specs.Prelude.{List, ℕ, Option, None, Some}
use Rattle.fl_world_refines.specs.declared.parts.Parts.{Parts}
use Rattle.fl_world.specs.Booting.{TheConfig}
use Rattle.fl_cores_file.specs.Jobs.{Job}
use Rattle.fl_cores_file.specs.CoresFile.{CoresFile, Reads, is_file, refused_at}
use Rattle.fl_cores_parts.specs.declared.again.WiredCores.{WiredCores}
use Rattle.fl_cores_parts.specs.Wired.{WiredFrom}
use Rattle.fl_cores.specs.declared.wired.WiredFile.{WiredFile}
use Rattle.fl_cores.specs.Promised.{config_in, IsAccepted, Made}

-- the set-up was accepted, and with these jobs a run of what it makes begins so
pub record Wires (c : TheConfig) (jobs : List Job) (w : WiredCores) : Type 0 where
  pub accepted : IsAccepted c
  pub parts : Parts
  pub made : Made c parts
  pub wired : WiredFrom parts jobs w

-- so does a run of the file that the text is
pub record WiresText (text : List ℕ) (w : WiredCores) : Type 0 where
  pub file : CoresFile
  pub reads : Reads text (is_file file)
  pub wires : Wires (config_in file) file.jobs w

-- a line of the text is refused
pub record RefusesText (text : List ℕ) : Type 0 where
  pub line : ℕ
  pub number : ℕ
  pub reads : Reads text (refused_at line number)

-- there are no cores just where a line of the text is refused
abbrev pub WiresOrRefuses : List ℕ → Option WiredFile → Type 0
WiresOrRefuses text None = RefusesText text
WiresOrRefuses text (Some file) = WiresText text file.wired
