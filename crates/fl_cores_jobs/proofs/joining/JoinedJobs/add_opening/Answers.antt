use Rattle.std.proofs.Common.{ap, length}
use Rattle.fl_cores_jobs.proofs.Slots.{opens_slot}
use Rattle.fl_cores_jobs.proofs.joining.JoinedJobs.add_opening.Goals as goal

pub add_job-requires-clause-there : goal.add_job-requires-clause-there
add_job-requires-clause-there c =
    opens_slot c.args.self.now c.add_binding.new.self _ (length c.as_slice.result.now) (ap length c.as_slice.ensures.value) c.in_ok-add_binding.ensures.added c.requires.end_works
