-- Parts of a run of a script.
use Rattle.std.specs.Prelude.{◌≡◌, ◌<◌, ◌≤◌, ℕ, List, ◌++◌, length, true, ⊤, Option, Result, Ok, Err}
use Rattle.std.specs.Bool.{MatchBool}
use Rattle.std.specs.Io.KnownBytes.{Consumes, IsAtEnd}
use Rattle.fl_script_lines.specs.Items.{is_too_long}
use Rattle.fl_script_exec.specs.declared.running.ExecFault.{ExecFault}
use Rattle.fl_script_exec.specs.declared.running.ExecFault.TheVariants.{Memory, Read, Write}
use Rattle.fl_script_exec.specs.CutShort.{SomeAnswers, PartOfAnswers}
use Rattle.fl_script_exec.specs.Transcript.{Script, Effect, Runs}

-- the status with which a program ends that met the fault
abbrev pub status_of : ExecFault → ℕ
status_of Memory = 3
status_of Read = 4
status_of Write = 4

-- the text is all of the input, or both are too long for a script
abbrev pub ReadsWhole : List ℕ → List ℕ → Type 0
ReadsWhole input text = MatchBool (is_too_long text) (is_too_long input ≡ true) (text ≡ input)

-- an input can be left unread for that: memory is refused for bytes that were read, so there are some
abbrev pub CanBeUnread : ExecFault → List ℕ → Type 0
CanBeUnread Memory input = 0 < length input
CanBeUnread Read input = ⊤
CanBeUnread Write input = ⊥

-- ---- what the reader has given, where it tells its bytes

-- these, its first: what it has left stands behind them. They are at most as many as a script may have, and one read more
abbrev pub Gives : Option (List ℕ) → List ℕ → Option (List ℕ) → Type 0
Gives before text after = Consumes before after text × (length text ≤ 1064960)

-- some of them
abbrev pub GivesSome : Option (List ℕ) → Option (List ℕ) → Type 0
GivesSome before after = (text : List ℕ) × Gives before text after

-- these, and no others are left; or these are more than a script may have
abbrev pub GivesScript : Option (List ℕ) → List ℕ → Option (List ℕ) → Type 0
GivesScript before text after = Gives before text after × MatchBool (is_too_long text) ⊤ (IsAtEnd after)

-- a whole script, but where memory was refused or a read failed: that may have been earlier
abbrev pub GivesUntil : Option (List ℕ) → Result (Unit {0}) ExecFault → Option (List ℕ) → Type 0
GivesUntil before (Ok done) after = (text : List ℕ) × GivesScript before text after
GivesUntil before (Err Write) after = (text : List ℕ) × GivesScript before text after
GivesUntil before (Err Memory) after = GivesSome before after
GivesUntil before (Err Read) after = GivesSome before after

-- ---- what is written

-- what is written of a script's bytes where a fault ends the run of its items; no read is among what can fail
abbrev pub StopsWith : ExecFault → Script → List ℕ → List ℕ → Type 0
StopsWith Memory s bytes out = SomeAnswers s bytes out
StopsWith Read s bytes out = ⊥
StopsWith Write s bytes out = PartOfAnswers s bytes out

-- what was done, and then what the rest does, is what the whole script does
pub record GoesOn (first : Script) (whole : List ℕ) (now : Script) (rest : List ℕ) (done : List Effect) : Type 0 where
  pub runs : (more : List Effect) → Runs now rest more → Runs first whole (done ++ more)
