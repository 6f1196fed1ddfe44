-- The numbers of the reasons why there is no report.
use Rattle.std.specs.Prelude.{ℕ}
use Rattle.fl_cores_fork.specs.declared.no_report.NoReport.{NoReport}
use Rattle.fl_cores_fork.specs.declared.no_report.NoReport.TheVariants.{Memory, Thread}

-- the fault's number; of a thread that doesn't start the program's status, which is no E3
abbrev pub number_of : NoReport → ℕ
number_of Memory = 99
number_of Thread = 3
