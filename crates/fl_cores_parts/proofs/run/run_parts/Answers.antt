use Rattle.std.proofs.Common.{ℕ, subst}
use Rattle.fl_cores_file.specs.Reports.{report_of}
use Rattle.fl_cores_jobs.specs.State.{joined_of}
use Rattle.fl_cores_parts.specs.Ran.{Keeps}
use Rattle.fl_cores_parts.proofs.Keeping.{keeps_ran}
use Rattle.fl_cores_parts.proofs.run.run_parts.Goals as goal

pub returns-clause-keeps : goal.returns-clause-keeps
returns-clause-keeps g c =
    let report = report_of c.in_ok-report.report in
    subst (λ (n : ℕ). Keeps n c.args.limit report) c.in_ok-joined.ensures.cores
    (keeps_ran c.join_jobs.new.parts (joined_of c.in_ok-joined.joined) c.args.limit report c.in_ok-report.ensures.ran)

pub returns-clause-ran : goal.returns-clause-ran
returns-clause-ran g c = record {
  joined = joined_of c.in_ok-joined.joined;
  are_joined = c.in_ok-joined.ensures.joined;
  are_bound = c.in_ok-joined.ensures.bound;
  are_fit = c.in_ok-joined.ensures.fits;
  are_requested = c.in_ok-joined.ensures.requested;
  are_due = c.in_ok-joined.ensures.due;
  parts = c.join_jobs.new.parts;
  rules = c.in_ok-joined.ensures.rules;
  beside = c.in_ok-joined.ensures.beside;
  ran = c.in_ok-report.ensures.ran;
  passed = c.in_ok-joined.ensures.passed;
}
