-- Two runs of one core come to the same.
use Rattle.std.proofs.Common.{◌≡◌, sym, ◌∙◌, ap, subst, ℕ, ◌++◌, List}
use Rattle.fl_cores_file.specs.CoresFile.{CoresFile, Reads, OneOutcome, is_file}
use Rattle.fl_cores_file.specs.Printed.{report_text}
use Rattle.fl_cores_file.specs.Report.{TheReport}
use Rattle.fl_cores.specs.declared.text.CoresEnd.{CoresEnd}
use Rattle.fl_cores.specs.Promised.{ending_by}
use Rattle.fl_cores.specs.Honesty.{AppendsHonestly, AppendsFor, Appends}
use Rattle.fl_cores.specs.OneCore.{RunsOfOneCore}
use Rattle.fl_cores.specs.Again.{OneReport, OneText}

pub one_report : RunsOfOneCore → OneReport
one_report one c jobs limit r q cores x y = one c jobs limit r x cores ∙ sym (one c jobs limit q y cores)

-- what stands for a file
read_as : OneOutcome → (text : List ℕ) (limit : ℕ) (file : CoresFile) (e : CoresEnd) (before after : List ℕ) → Reads text (is_file file)
    → Appends text limit e before after → AppendsHonestly file limit e before after
read_as law text limit file e before after reads h =
    subst (λ o. AppendsFor o limit e before after) (law text h.outcome (is_file file) h.reads reads) h.appends

pub one_text : OneOutcome → OneText
one_text law text limit file e f before after again reads cores x y =
    let a = read_as law text limit file e before after reads x in
    let b = read_as law text limit file f before again reads y in
    let same : a.appends.report ≡ b.appends.report = a.one cores ∙ sym (b.one cores) in (
      a.appends.ending ∙ ap (λ (r : TheReport). ending_by r.ending) same ∙ sym b.appends.ending,
      a.appends.rest ∙ ap (λ (r : TheReport). before ++ report_text file r) same ∙ sym b.appends.rest,
    )
