use Rattle.std.proofs.Common.{◌<◌, length, Some, None, arith}
use Rattle.fl_core_run.specs.Run.{run_by, next_at}
use Rattle.fl_core_run.proofs.AtProgress.{no_job, some_within, next_by, has_left, job_read, no_job_read, if_some}
use Rattle.fl_core_run.proofs.ends.next_job.Goals as goal

pub returns-in-None-clause-none : goal.returns-in-None-clause-none
returns-in-None-clause-none g c = no_job c.args.jobs.now (run_by g.S.CoreSides.states c.args.run.now) c.args.progress c.in-None.is

pub index-requires : goal.index-requires
index-requires g c =
    let within : c.in-Some.place < length c.args.run.now.progresses.items =
    some_within c.args.progress c.in-Some.place (length c.args.run.now.progresses.items) c.in-Some.is c.requires.there in
    omega (arith, within, c.args.run.now.progresses.ok.0)

pub returns-in-None-next-clause-none : goal.returns-in-None-next-clause-none
returns-in-None-next-clause-none g c =
    next_by (run_by g.S.CoreSides.states c.args.run.now) c.args.progress c.in-Some.place c.index.result.now c.in-Some.is
    (some_within c.args.progress c.in-Some.place (length c.args.run.now.progresses.items) c.in-Some.is c.requires.there) c.index.ensures
    c.args.jobs.now None c.in-None-next.ensures.next

pub returns-in-Some-next-clause-next : goal.returns-in-Some-next-clause-next
returns-in-Some-next-clause-next g c = job_read c.args.jobs.now c.in-Some-next.job c.get.result (next_at c.args.jobs.now (run_by g.S.CoreSides.states c.args.run.now) c.args.progress)
    (next_by (run_by g.S.CoreSides.states c.args.run.now) c.args.progress c.in-Some.place c.index.result.now c.in-Some.is
    (some_within c.args.progress c.in-Some.place (length c.args.run.now.progresses.items) c.in-Some.is c.requires.there) c.index.ensures
    c.args.jobs.now (Some c.in-Some-next.job) c.in-Some-next.ensures.next)
    c.get.ensures.lookup.0 c.get.ensures.lookup.1

pub returns-in-Some-next-clause-none : goal.returns-in-Some-next-clause-none
returns-in-Some-next-clause-none g c = no_job_read c.args.jobs.now c.in-Some-next.job c.get.result (next_at c.args.jobs.now (run_by g.S.CoreSides.states c.args.run.now) c.args.progress)
    (next_by (run_by g.S.CoreSides.states c.args.run.now) c.args.progress c.in-Some.place c.index.result.now c.in-Some.is
    (some_within c.args.progress c.in-Some.place (length c.args.run.now.progresses.items) c.in-Some.is c.requires.there) c.index.ensures
    c.args.jobs.now (Some c.in-Some-next.job) c.in-Some-next.ensures.next)
    c.get.ensures.lookup.0

pub returns-in-Some-next-clause-left : goal.returns-in-Some-next-clause-left
returns-in-Some-next-clause-left g c = if_some c.get.result (has_left (run_by g.S.CoreSides.states c.args.run.now) c.args.progress c.in-Some.place c.index.result.now c.in-Some.is
    (some_within c.args.progress c.in-Some.place (length c.args.run.now.progresses.items) c.in-Some.is c.requires.there) c.index.ensures c.in-Some-next.ensures.left)
