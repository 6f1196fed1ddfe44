use Rattle.std.proofs.Common.{map}
use Rattle.fl_cores_file.specs.Views.{job_of}
use Rattle.fl_world.specs.Booting.{config_of}
use Rattle.fl_cores.proofs.Reporting.{reports_ran}
use Rattle.fl_cores.proofs.run.run_recorded.Goals as goal

pub returns-clause-reports : goal.returns-clause-reports
returns-clause-reports g c =
    reports_ran (config_of c.args.config.now) (map job_of c.args.jobs.items) c.args.limit c.in_ok-parts.parts c.run_made.result
    c.in_ok-parts.ensures.accepted c.in_ok-parts.ensures.made c.in_ok-parts.ensures.cores c.run_made.ensures.ran c.run_made.ensures.keeps

pub returns-in-Some-clause-refused : goal.returns-in-Some-clause-refused
returns-in-Some-clause-refused g c = c.refuse_other.ensures.refused (map job_of c.args.jobs.items)
