use Rattle.std.proofs.Common.{◌≤◌, length}
use Rattle.std.specs.Io.KnownBytes.{Consumes}
use Rattle.fl_script_exec.specs.Counting.{CountsUpTo}
use Rattle.fl_script_exec.proofs.running.read_script.Given as goal

abbrev pub invariant-loop-turn : goal.invariant-loop-turn
invariant-loop-turn g l =
    Consumes (g.R.ScriptReader.remaining l.fn.reader) (g.R.ScriptReader.remaining l.reader) l.text.items × (l._turn ≤ length l.text.items)
    × (length l.text.items ≤ 1048576) × CountsUpTo l._turn (g.R.ScriptReader.reads l.fn.reader) (g.R.ScriptReader.reads l.reader)
