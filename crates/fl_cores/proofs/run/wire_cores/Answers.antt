use Rattle.std.proofs.Common.{map}
use Rattle.std.proofs.lemmas.Result.{IfOk-weaker}
use Rattle.fl_cores_file.specs.Views.{job_of}
use Rattle.fl_cores.proofs.run.wire_cores.Goals as goal

pub returns-clause-wires : goal.returns-clause-wires
returns-clause-wires c = IfOk-weaker c.wire_made.result _ _ (λ w wired. record {
  accepted = c.in_ok-parts.ensures.accepted;
  parts = c.in_ok-parts.parts;
  made = c.in_ok-parts.ensures.made;
  wired = wired;
}) c.wire_made.ensures.wired

pub returns-in-Some-clause-refused : goal.returns-in-Some-clause-refused
returns-in-Some-clause-refused c = c.refuse_other.ensures.refused (map job_of c.args.jobs.items)
