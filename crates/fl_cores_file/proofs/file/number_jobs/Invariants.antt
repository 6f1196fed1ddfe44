use Rattle.std.proofs.Common.{◌≡◌, map}
use Rattle.fl_cores_file.specs.CoresFile.{job_by}
use Rattle.fl_cores_file.specs.Views.{job_of}
use Rattle.fl_cores_file.proofs.Lists.{front_of}
use Rattle.fl_cores_file.proofs.file.number_jobs.Given as goal

abbrev pub invariant-loop-job : goal.invariant-loop-job
invariant-loop-job l = front_of job_of (job_by l.numbers) l.job-index l.jobs ≡ map (job_by l.numbers) (map job_of l.fn.jobs)
