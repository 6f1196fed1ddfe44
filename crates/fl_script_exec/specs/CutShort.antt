-- What is written of a script that `exec` leaves with a fault: a prefix of its transcript, and for each fault which.
use Rattle.std.specs.Prelude.{◌≡◌, ℕ, List, [], ◌∷◌, ◌++◌}
use Rattle.std.specs.Bool.{MatchBool}
use Rattle.fl_base.specs.Prefix.{IsPrefix}
use Rattle.fl_script_lines.specs.Items.{is_too_long}
use Rattle.fl_script_exec.specs.declared.running.ExecFault.{ExecFault}
use Rattle.fl_script_exec.specs.declared.running.ExecFault.TheVariants.{Memory, Read, Write}
use Rattle.fl_script_exec.specs.Transcript.{Script, beginning, Effect, Runs, text_of, Transcript}

-- the second list begins with the first, and is longer
abbrev pub IsProperPrefix : List ℕ → List ℕ → Type 0
IsProperPrefix prefix whole = (next : ℕ) × (more : List ℕ) × (whole ≡ prefix ++ next ∷ more)

-- the answers of the first items of a script, each of them whole; at least one item stands behind these
abbrev pub SomeAnswers : Script → List ℕ → List ℕ → Type 0
SomeAnswers s bytes out =
    (done : List Effect) × (next : Effect) × (others : List Effect) × Runs s bytes (done ++ next ∷ others) × (out ≡ text_of done)

-- a proper prefix of all answers
abbrev pub PartOfAnswers : Script → List ℕ → List ℕ → Type 0
PartOfAnswers s bytes out = (effects : List Effect) × Runs s bytes effects × IsProperPrefix out (text_of effects)

-- Memory is refused between two answers, while an item is still to be answered; a read fails before anything is written; a
-- write fails while a byte is still to be written.
abbrev pub LeavesWritten : ExecFault → List ℕ → List ℕ → Type 0
LeavesWritten Memory bytes out = MatchBool (is_too_long bytes) (out ≡ []) (SomeAnswers beginning bytes out)
LeavesWritten Read bytes out = out ≡ []
LeavesWritten Write bytes out = (whole : List ℕ) × Transcript bytes whole × IsProperPrefix out whole

-- ---- the law

-- what a fault leaves is a prefix of the transcript
abbrev pub LeavesAPrefix : Type 0
LeavesAPrefix = (fault : ExecFault) (bytes prefix whole : List ℕ) → LeavesWritten fault bytes prefix → Transcript bytes whole → IsPrefix prefix whole
