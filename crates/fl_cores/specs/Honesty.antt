-- That what is reported of a run of cores is honest, that it ended as is told, that each core went on as the
-- machine does, and what the report of one core is. Public promises rest on this file.
use Rattle.std.specs.Prelude.{ℕ, List}
use Rattle.fl_cores_file.specs.CoresFile.{CoresFile, FileOutcome, Reads, is_file, refused_at}
use Rattle.fl_cores_file.specs.Jobs.{Job}
use Rattle.fl_cores_file.specs.Report.{TheReport, Honest}
use Rattle.fl_world.specs.Booting.{TheConfig}
use Rattle.fl_cores.specs.declared.text.CoresEnd.{CoresEnd}
use Rattle.fl_cores.specs.Promised.{Reports, AppendsReport, AppendsRefusal}
use Rattle.fl_cores.specs.Endings.{EndsAsTold}
use Rattle.fl_cores.specs.Follows.{CoresFollow}
use Rattle.fl_cores.specs.OneCore.{IsThatOfOne, IsThatOfFile}

-- ---- cores

-- a run of cores is reported, and honestly: what an end handled is a prefix of what the other end made, and what it made of what was handed in for it
pub record ReportsHonestly (c : TheConfig) (jobs : List Job) (limit : ℕ) (r : TheReport) : Type 0 where
  pub reports : Reports c jobs limit r
  pub honest : Honest jobs r
  pub ends : EndsAsTold reports
  -- in its turns each core went on as the machine does, event by event, on what it knew of the machine's state; and what
  -- is told of its ends is what these accepted, and what came there
  pub cores : CoresFollow reports
  -- of one core it is a function of the configuration, the jobs and the limit
  pub one : IsThatOfOne c jobs limit r

-- each report of a run is honest. Law
abbrev pub RunsReportHonestly : Type 0
RunsReportHonestly = (c : TheConfig) (jobs : List Job) (limit : ℕ) (r : TheReport) → Reports c jobs limit r → Honest jobs r

-- ---- cores files

-- behind what stood there an honest report is told
pub record AppendsHonestly (file : CoresFile) (limit : ℕ) (e : CoresEnd) (before after : List ℕ) : Type 0 where
  pub appends : AppendsReport file limit e before after
  pub honest : Honest file.jobs appends.report
  pub ends : EndsAsTold appends.reports
  -- each core went on as the machine does, and its ends accepted what is told
  pub cores : CoresFollow appends.reports
  -- of one core it is a function of the file and the limit
  pub one : IsThatOfFile file limit appends.report

abbrev pub AppendsFor : FileOutcome → ℕ → CoresEnd → List ℕ → List ℕ → Type 0
AppendsFor (is_file file) limit e before after = AppendsHonestly file limit e before after
AppendsFor (refused_at line number) limit e before after = AppendsRefusal line number e before after

-- whatever a text comes to
pub record Appends (text : List ℕ) (limit : ℕ) (e : CoresEnd) (before after : List ℕ) : Type 0 where
  pub outcome : FileOutcome
  pub reads : Reads text outcome
  pub appends : AppendsFor outcome limit e before after
