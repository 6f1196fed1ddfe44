use Rattle.std.proofs.Common.{map}
use Rattle.std.proofs.lemmas.Result.{err_from_is_err_and}
use Rattle.fl_cores_file.specs.Views.{job_of}
use Rattle.fl_cores_parts.proofs.Faults.{job_refused}
use Rattle.fl_cores_parts.proofs.again.wire_parts.Goals as goal

pub returns-in_err-joined-clause-refused : goal.returns-in_err-joined-clause-refused
returns-in_err-joined-clause-refused c =
    let p = err_from_is_err_and c.from_residual.result c.from_residual.ensures.1 in
    rw (p.1, p.2) (job_refused c.args.parts (map job_of c.args.jobs.items) _ c.in_err-joined.ensures.refused)

pub returns-in-Ok-clause-wired : goal.returns-in-Ok-clause-wired
returns-in-Ok-clause-wired c = record {
  are_joined = c.in_ok-joined.ensures.joined;
  are_bound = c.in_ok-joined.ensures.bound;
  are_fit = c.in_ok-joined.ensures.fits;
  are_requested = c.in_ok-joined.ensures.requested;
  are_due = c.in_ok-joined.ensures.due;
  parts = c.join_jobs.new.parts;
  rules = c.in_ok-joined.ensures.rules;
  beside = c.in_ok-joined.ensures.beside;
  wires = c.in-Ok.ensures.wires;
  ready = c.in-Ok.ensures.ready;
  passed = c.in_ok-joined.ensures.passed;
}
