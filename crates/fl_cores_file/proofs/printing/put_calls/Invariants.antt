use Rattle.std.proofs.Common.{◌≡◌, ◌++◌, map, take}
use Rattle.std.specs.List.{flat_map}
use Rattle.fl_value_data.specs.Value.{call_of}
use Rattle.fl_model.specs.Events.{handle}
use Rattle.fl_script_lines.specs.Answers.{answer_text, line}
use Rattle.fl_script_lines.specs.Told.{names_of}
use Rattle.fl_cores_file.specs.Printed.{head_text}
use Rattle.fl_cores_file.proofs.printing.put_calls.Given as goal

abbrev pub invariant-loop-call : goal.invariant-loop-call
invariant-loop-call l =
    (l.head.text.items ≡ head_text (names_of l.names) l.end l.head.msg.0)
    × (l.out.items ≡ l.fn.out.items ++ flat_map (λ c. line (answer_text (names_of l.names) (handle l.end c))) (map call_of (take l.call-index l.calls)))
