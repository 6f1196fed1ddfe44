use Rattle.std.proofs.Common.{◌<◌, length, arith}
use Rattle.std.proofs.lemmas.List.{length-map}
use Rattle.fl_cores_jobs.specs.EndWork.{end_work_of}
use Rattle.fl_cores_jobs.specs.State.{joined_of}
use Rattle.fl_cores_jobs.proofs.Dues.{told_turn}
use Rattle.fl_cores_jobs.proofs.joining.JoinedJobs.set_dues.Goals as goal

pub loop-slot-preserved : goal.loop-slot-preserved
loop-slot-preserved c =
    let all = length-map c.args.self.now.end_works.items end_work_of in
    let count = c.loop-slot.invariant.count in
    let below = c.loop-slot-test.true in
    let end = c.loop-slot.auto.slot-end in
    let within : c.loop-slot.slot < length (joined_of c.loop-slot.self).end_works = omega (arith, all, count, below, end) in
    told_turn c.loop-slot.slot (joined_of c.args.self.now) (joined_of c.loop-slot.self) (joined_of c.set_due.new.self) c.end_at.result c.end_at.ensures.end within
    c.loop-slot.invariant c.set_due.ensures.set
