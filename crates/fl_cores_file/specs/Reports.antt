-- A report of the code, as the definitions have it.
use Rattle.std.specs.Prelude.{map}
use Rattle.fl_value_data.specs.Value.{call_of}
use Rattle.fl_cores_file.specs.declared.report.CallsByEnd.{CallsByEnd as RustBothEnds}
use Rattle.fl_cores_file.specs.declared.report.Ending.{Ending as RustEnding}
use Rattle.fl_cores_file.specs.declared.report.Ending.TheVariants.{Complete, TurnsOut}
use Rattle.fl_cores_file.specs.declared.report.Report.{Report as RustReport}
use Rattle.fl_cores_file.specs.Report.{BothEnds, Ending, complete, turns_out, TheReport}

abbrev pub both_of : RustBothEnds → BothEnds
both_of b = record { client = map call_of b.client.items; server = map call_of b.server.items }

abbrev pub ending_of : RustEnding → Ending
ending_of Complete = complete
ending_of TurnsOut = turns_out

abbrev pub report_of : RustReport → TheReport
report_of r = record {
  made = map both_of r.made.items;
  handled = map both_of r.handled.items;
  refused = r.refused.items;
  turns = r.turns.items;
  ending = ending_of r.ending;
}
