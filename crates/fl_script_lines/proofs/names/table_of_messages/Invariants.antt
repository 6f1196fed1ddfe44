use Rattle.std.proofs.Common.{◌≡◌, map, take}
use Rattle.fl_script_lines.specs.Tables.{table_of}
use Rattle.fl_script_lines.proofs.names.table_of_messages.Given as goal

abbrev pub invariant-loop-message : goal.invariant-loop-message
invariant-loop-message l = table_of l.table ≡ map (λ m. m.name.bytes.items) (take l.message-index l.messages)
