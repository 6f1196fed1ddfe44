-- What is written of what was read, where the reader and the writer tell their bytes.
use Rattle.std.specs.Prelude.{ℕ, ◌≢◌, List, [], Option, IfSome, ⊤}
use Rattle.std.specs.Bool.{MatchBool}
use Rattle.std.specs.Io.KnownBytes.{Appends}
use Rattle.fl_script_exec.specs.declared.running.ExecFault.{ExecFault}
use Rattle.fl_model.specs.State.{State}
use Rattle.fl_script_lines.specs.Items.{is_too_long}
use Rattle.fl_script_exec.specs.Transcript.{Script, Effect, Runs, beginning, last_of, text_of, Transcript}
use Rattle.fl_script_exec.specs.CutShort.{LeavesWritten}
use Rattle.fl_script_exec.specs.Reading.{StopsWith}

-- the transcript, behind what was there
abbrev pub WritesTranscript : Option (List ℕ) → Option (List ℕ) → Option (List ℕ) → Type 0
WritesTranscript input before after = IfSome input (λ bytes. (out : List ℕ) × Transcript bytes out × Appends before after out)

-- what a fault leaves of it
abbrev pub WritesPrefix : ExecFault → Option (List ℕ) → Option (List ℕ) → Option (List ℕ) → Type 0
WritesPrefix fault input before after = IfSome input (λ bytes. (prefix : List ℕ) × LeavesWritten fault bytes prefix × Appends before after prefix)

-- the same of a running script and its bytes
abbrev pub WritesAnswers : Script → List ℕ → Option (List ℕ) → Option (List ℕ) → Type 0
WritesAnswers s bytes before after = (effects : List Effect) × Runs s bytes effects × Appends before after (text_of effects)

-- and what a fault leaves of these
abbrev pub WritesUntil : ExecFault → Script → List ℕ → Option (List ℕ) → Option (List ℕ) → Type 0
WritesUntil fault s bytes before after = (prefix : List ℕ) × StopsWith fault s bytes prefix × Appends before after prefix

-- ---- what it ran on

-- this machine ran the items of these bytes: it shows the state behind them
abbrev pub RanOn : {M : Type 0} → (M → State → Type 0) → M → Script → List ℕ → Type 0
RanOn shows machine s bytes =
    (effects : List Effect) × Runs s bytes effects × shows machine (last_of s effects).state

-- some machine of this kind ran the script, if it has a byte and isn't too long
abbrev pub Ran : {M : Type 0} → (M → State → Type 0) → List ℕ → Type 0
Ran {M} shows bytes =
    MatchBool (is_too_long bytes) ⊤ (bytes ≢ [] → (machine : M) × RanOn shows machine beginning bytes)
