-- Two runs of one core come to the same: what is told is a function of what is run. Laws.
use Rattle.std.specs.Prelude.{ℕ, ◌≡◌, List}
use Rattle.fl_cores_file.specs.CoresFile.{CoresFile, Reads, is_file}
use Rattle.fl_cores_file.specs.Jobs.{Job}
use Rattle.fl_cores_file.specs.Report.{TheReport}
use Rattle.fl_world.specs.Booting.{TheConfig}
use Rattle.fl_cores.specs.declared.text.CoresEnd.{CoresEnd}
use Rattle.fl_cores.specs.Promised.{cores_by, Reports, config_in}
use Rattle.fl_cores.specs.Honesty.{Appends}

-- two reports of one configuration, with the same jobs and limit, are equal
abbrev pub OneReport : Type 0
OneReport = (c : TheConfig) (jobs : List Job) (limit : ℕ) (r q : TheReport) → cores_by c ≡ 1 → Reports c jobs limit r → Reports c jobs limit q → r ≡ q

-- two runs of one file, with the same limit, end alike, and append the same text
abbrev pub OneText : Type 0
OneText = (text : List ℕ) (limit : ℕ) (file : CoresFile) (e f : CoresEnd) (before after again : List ℕ) → Reads text (is_file file)
    → cores_by (config_in file) ≡ 1 → Appends text limit e before after → Appends text limit f before again
    → (e ≡ f) × (after ≡ again)
