use Rattle.std.proofs.Common.{◌≡◌, List, length}
use Rattle.std.specs.Io.KnownBytes.{Appends}
use Rattle.fl_script_exec.specs.Shown.{IsAt}
use Rattle.fl_script_exec.specs.Transcript.{Script, Effect, last_of, text_of}
use Rattle.fl_script_exec.specs.Reading.{GoesOn}
use Rattle.fl_script_exec.proofs.running.run.Given as goal

abbrev pub invariant-loop-rest : goal.invariant-loop-rest
invariant-loop-rest g l =
    (s : Script) → IsAt g.M.Machine.shows l.fn.script s
    → (now : Script) × (done : List Effect) × IsAt g.M.Machine.shows l.script now × GoesOn s l.text now l.rest done
    × Appends (g.W.Write.contents l.fn.writer) (g.W.Write.contents l.writer) (text_of done) × (now ≡ last_of s done)

abbrev pub decreases-loop-rest : goal.decreases-loop-rest
decreases-loop-rest g l = length l.rest
