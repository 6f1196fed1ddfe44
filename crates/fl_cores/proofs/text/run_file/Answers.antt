use Rattle.std.proofs.lemmas.Result.{err_from_is_err_and}
use Rattle.fl_cores_file.specs.Files.{file_from}
use Rattle.fl_cores.specs.Promised.{config_in}
use Rattle.fl_cores.proofs.Texts.{memory_behind}
use Rattle.fl_cores.proofs.text.run_file.Goals as goal

pub returns-in_err-report-clause-fault : goal.returns-in_err-report-clause-fault
returns-in_err-report-clause-fault g c =
    let p = err_from_is_err_and c.from_residual.result c.from_residual.ensures.1 in
    rw (p.1, p.2) c.in_err-report.ensures.refused

pub returns-in_err-print_report-clause-fault : goal.returns-in_err-print_report-clause-fault
returns-in_err-print_report-clause-fault g c =
    let file = file_from c.args.file in
    memory_behind (config_in file) file.jobs _ _ c.from_residual-in_err-print_report.result c.in_ok-report.ensures.reports
    c.from_residual-in_err-print_report.ensures.1
