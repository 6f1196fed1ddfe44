use Rattle.std.proofs.Common.{◌∙◌, ap, refl, true, false, Some, None}
use Rattle.fl_core.specs.declared.core_job.CoreJob.TheVariants.{Open, Call, Reply}
use Rattle.fl_core_run.specs.Run.{run_by}
use Rattle.fl_core_run.proofs.AtProgress.{awaits_by}
use Rattle.fl_core_run.proofs.dispatchers.awaits.Goals as goal

pub next_job-requires : goal.next_job-requires
next_job-requires g c = record { there = c.requires.there }

pub returns-in-None : goal.returns-in-None
returns-in-None g c = record { awaits = awaits_by c.args.jobs.now (run_by g.S.CoreSides.states c.args.run.now) c.args.progress None c.in-None.ensures.none false refl }

pub returns-in-Open : goal.returns-in-Open
returns-in-Open g c = record {
  awaits = awaits_by c.args.jobs.now (run_by g.S.CoreSides.states c.args.run.now) c.args.progress (Some (Open c.in-Open.field-0)) (c.in-Some.ensures.next ∙ ap Some c.in-Open.is) true refl;
}

pub returns-in-Reply : goal.returns-in-Reply
returns-in-Reply g c = record {
  awaits = awaits_by c.args.jobs.now (run_by g.S.CoreSides.states c.args.run.now) c.args.progress (Some (Reply c.in-Reply.end c.in-Reply.msg c.in-Reply.reply))
      (c.in-Some.ensures.next ∙ ap Some c.in-Reply.is) true refl;
}

pub returns-in-Call : goal.returns-in-Call
returns-in-Call g c = record {
  awaits = awaits_by c.args.jobs.now (run_by g.S.CoreSides.states c.args.run.now) c.args.progress (Some (Call c.in-Call.end c.in-Call.call))
      (c.in-Some.ensures.next ∙ ap Some c.in-Call.is) false refl;
}
