use Rattle.std.proofs.Common.{◌≡◌, ◌++◌}
use Rattle.std.specs.List.{flat_map, range_with_len}
use Rattle.fl_cores_file.specs.Files.{file_from}
use Rattle.fl_cores_file.specs.Printed.{text_at_rank}
use Rattle.fl_cores_file.specs.Reports.{report_of}
use Rattle.fl_cores_file.proofs.printing.put_bindings.Given as goal

abbrev pub invariant-loop-rank : goal.invariant-loop-rank
invariant-loop-rank l =
    l.out.items ≡ l.fn.out.items ++ flat_map (text_at_rank (file_from l.file) (report_of l.report)) (range_with_len 0 l.rank)
