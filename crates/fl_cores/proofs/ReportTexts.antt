-- What a text comes to, with an honest report.
use Rattle.std.proofs.Common.{ℕ, List}
use Rattle.fl_cores_file.specs.CoresFile.{FileOutcome, is_file, refused_at}
use Rattle.fl_cores.specs.declared.text.CoresEnd.{CoresEnd}
use Rattle.fl_cores.specs.Promised as plain
use Rattle.fl_cores.specs.Promised.{config_in}
use Rattle.fl_cores.specs.Endings.{RunsEndAsTold}
use Rattle.fl_cores.specs.Follows.{RunsFollow}
use Rattle.fl_cores.specs.OneCore.{RunsOfOneCore}
use Rattle.fl_cores.specs.Honesty.{RunsReportHonestly, AppendsFor, Appends}

appends_for : RunsReportHonestly → RunsEndAsTold → RunsFollow → RunsOfOneCore → (o : FileOutcome) (limit : ℕ) (e : CoresEnd) (before after : List ℕ)
    → plain.AppendsFor o limit e before after → AppendsFor o limit e before after
appends_for honest ends follow one (is_file file) limit e before after h = record {
  appends = h;
  honest = honest (config_in file) file.jobs limit h.report h.reports;
  ends = ends (config_in file) file.jobs limit h.report h.reports;
  cores = follow (config_in file) file.jobs limit h.report h.reports;
  one = one (config_in file) file.jobs limit h.report h.reports;
}
appends_for honest ends follow one (refused_at line number) limit e before after h = h

pub honestly : RunsReportHonestly → RunsEndAsTold → RunsFollow → RunsOfOneCore → (text : List ℕ) (limit : ℕ) (e : CoresEnd) (before after : List ℕ)
    → plain.Appends text limit e before after → Appends text limit e before after
honestly honest ends follow one text limit e before after h = record {
  outcome = h.outcome;
  reads = h.reads;
  appends = appends_for honest ends follow one h.outcome limit e before after h.appends;
}
