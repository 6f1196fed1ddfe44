-- The statuses with which the program ends.
use Rattle.std.specs.Prelude.{ℕ}
use Rattle.fl_script_exec.specs.Reading as script
use Rattle.flounder_show.specs.Content as shown
use Rattle.flounder_commands.specs.declared.fault.Fault.{Fault}
use Rattle.flounder_commands.specs.declared.fault.Fault.TheVariants.{Usage, Words, NoText, Unread, Show, Unmade, Exec, Line, TurnsOut, Unwritten, Memory}

-- 1 usage, 2 a content that is refused, 3 out of memory, 4 a read or a write that failed, 5 turns that were used up
abbrev pub status_of : Fault → ℕ
status_of (Usage e hint) = 1
status_of (Words e) = 1
status_of (NoText e) = 1
status_of (Unread file e) = 4
status_of (Show refused) = shown.status_of refused.fault
status_of (Unmade file e) = 4
status_of (Exec f reason) = script.status_of f
status_of (Line file) = 2
status_of (TurnsOut turns) = 5
status_of (Unwritten e) = 4
status_of Memory = 3
