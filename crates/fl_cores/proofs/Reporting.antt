-- A run of what a set-up makes is a report.
use Rattle.std.proofs.Common.{◌≡◌, subst, ℕ, List, length, Result, Ok, Err, IfOk}
use Rattle.fl_cores_file.specs.Jobs.{Job as TheJob}
use Rattle.fl_cores_file.specs.declared.report.Report.{Report}
use Rattle.fl_cores_file.specs.Reports.{report_of}
use Rattle.fl_world_refines.specs.declared.parts.Parts.{Parts}
use Rattle.fl_world.specs.Booting.{TheConfig}
use Rattle.fl_cores_parts.specs.Ran.{Keeps, RanFrom}
use Rattle.fl_cores.specs.declared.fault.CoresFault.{CoresFault}
use Rattle.fl_cores.specs.Promised.{IsAccepted, Made, Reports, cores_by}

-- what a set-up makes ran
pub reports_ran : (c : TheConfig) (jobs : List TheJob) (limit : ℕ) (p : Parts) (result : Result Report CoresFault) → IsAccepted c → Made c p
    → length p.cores.items ≡ cores_by c → IfOk result (λ r. RanFrom p jobs limit (report_of r))
    → IfOk result (λ r. Keeps (length p.cores.items) limit (report_of r)) → IfOk result (λ r. Reports c jobs limit (report_of r))
reports_ran c jobs limit p (Ok r) accepted made same ran keeps = record {
  accepted = accepted;
  keeps = subst (λ (n : ℕ). Keeps n limit (report_of r)) same keeps;
  ran = record { parts = p; made = made; ran = ran };
}
reports_ran c jobs limit p (Err e) accepted made same ran keeps = tt
