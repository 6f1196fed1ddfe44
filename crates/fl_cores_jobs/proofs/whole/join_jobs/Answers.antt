use Rattle.std.proofs.Common.{ap, map, length}
use Rattle.fl_cores_file.specs.Views.{job_of}
use Rattle.fl_cores_jobs.specs.State.{joined_of}
use Rattle.fl_cores_jobs.proofs.Fitting.{told_fits}
use Rattle.fl_cores_jobs.proofs.Keeping.{told_kept, all_joined}
use Rattle.fl_cores_jobs.proofs.Owed.{told_placed, all_due}
use Rattle.fl_cores_jobs.proofs.Refusing.{first_fault, none_set}
use Rattle.fl_cores_jobs.proofs.Stepwise.{told_bound}
use Rattle.fl_cores_jobs.proofs.Requested.{told_requested}
use Rattle.fl_cores_jobs.proofs.whole.join_jobs.Goals as goal

pub returns-clause-joined : goal.returns-clause-joined
returns-clause-joined c =
    let jobs = map job_of c.args.jobs.items in
    let before = joined_of c.join_all.new.self in
    let after = joined_of c.set_dues.new.self in
    let dues = c.set_dues.ensures.dues in
    let cores = length c.args.parts.now.cores.items in
    let set_up = c.args.parts.now.bindings.items in
    all_joined cores set_up jobs after
    (told_placed cores jobs _ before after c.in_ok-join_all.ensures.joined dues)
    (told_bound set_up jobs _ before after c.in_ok-join_all.ensures.bound dues)
    (told_kept set_up jobs _ before after c.in_ok-join_all.ensures.kept dues)

pub returns-clause-due : goal.returns-clause-due
returns-clause-due c =
    all_due (length c.args.parts.now.cores.items) (map job_of c.args.jobs.items) (joined_of c.join_all.new.self) (joined_of c.set_dues.new.self)
    c.in_ok-join_all.ensures.joined c.set_dues.ensures.dues

pub returns-clause-bound : goal.returns-clause-bound
returns-clause-bound c =
    told_bound c.args.parts.now.bindings.items (map job_of c.args.jobs.items) _ (joined_of c.join_all.new.self) (joined_of c.set_dues.new.self)
    c.in_ok-join_all.ensures.bound c.set_dues.ensures.dues

pub returns-clause-fits : goal.returns-clause-fits
returns-clause-fits c =
    told_fits c.args.parts.now.names c.args.parts.now.programs.items _ (joined_of c.join_all.new.self) (joined_of c.set_dues.new.self)
    c.in_ok-join_all.ensures.fits c.set_dues.ensures.dues

pub returns-clause-requested : goal.returns-clause-requested
returns-clause-requested c =
    told_requested c.args.parts.now.names c.args.parts.now.cores.items (length c.args.parts.now.bindings.items) (map job_of c.args.jobs.items) _
    (joined_of c.join_all.new.self) (joined_of c.set_dues.new.self) c.in_ok-join_all.ensures.requested c.set_dues.ensures.dues

pub join_all-requires-clause-none : goal.join_all-requires-clause-none
join_all-requires-clause-none c = c.in-Ok.ensures.none

pub returns-in-Err-clause-refused : goal.returns-in-Err-clause-refused
returns-in-Err-clause-refused c =
    first_fault c.args.parts.now c.deref.result.now _ (map job_of c.args.jobs.items) c.in-Err.stop c.fault_at.result c.deref.ensures.value
    (ap length c.as_slice-cores.ensures.value) c.fault_at.ensures.fault c.in-Err.ensures.refused

pub returns-in-Err-clause-set : goal.returns-in-Err-clause-set
returns-in-Err-clause-set c =
    none_set c.args.parts.now c.deref.result.now _ (map job_of c.args.jobs.items) c.in-Err.stop c.fault_at.result c.deref.ensures.value
    (ap length c.as_slice-cores.ensures.value) c.fault_at.ensures.fault c.in-Err.ensures.refused
