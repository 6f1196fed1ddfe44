use Rattle.std.proofs.Common.{◌∙◌, refl, sym, ap, subst, ℕ, Option}
use Rattle.fl_core.specs.declared.core_job.CoreJob.{CoreJob}
use Rattle.fl_core.specs.declared.core_job.CoreJob.TheVariants.{Open, Call, Reply}
use Rattle.fl_core_run.specs.Run.{run_by, next_at, next_job}
use Rattle.fl_core.specs.declared.core_job.OpenRequest.{OpenRequest}
use Rattle.fl_core_run.specs.Steps.{may_ask, OpensIf, Tries}
use Rattle.fl_core_run.specs.Wants.{BeginsCircuit}
use Rattle.fl_core_run.proofs.Trying.{tried, tried_if, does, does_if}
use Rattle.fl_core_run.proofs.Stopping.{on_err}
use Rattle.fl_core_run.proofs.ends.try_job.Goals as goal

pub next_job-requires : goal.next_job-requires
next_job-requires g c = record { there = c.progress_of-progress.ensures.within }

pub open-requires : goal.open-requires
open-requires g c = record { left = c.in-Some.ensures.left }

pub try_call-requires : goal.try_call-requires
try_call-requires g c = record { found = sym c.progress_of-progress.ensures.place; left = c.in-Some.ensures.left }

pub try_rule-requires : goal.try_rule-requires
try_rule-requires g c = record { found = sym c.progress_of-progress.ensures.place; left = c.in-Some.ensures.left }

pub returns-in-None : goal.returns-in-None
returns-in-None g c = record {
  tries = subst (λ (o : Option CoreJob). Tries g.S.CoreSides.ways c.args.name o (run_by g.S.CoreSides.states c.args.run.now) (run_by g.S.CoreSides.states c.args.run.now))
      (sym (ap (λ (o : Option ℕ). next_at c.args.jobs.now (run_by g.S.CoreSides.states c.args.run.now) o) (sym c.progress_of-progress.ensures.place) ∙ c.in-None.ensures.none)) refl;
  place = record { is = sym c.place.ensures.place; within = c.place.ensures.within };
  kept = tt;
  does = tt;
}

pub returns-in_err-open-in-Open-clause-kept : goal.returns-in_err-open-in-Open-clause-kept
returns-in_err-open-in-Open-clause-kept g c = on_err c.from_residual.result c.in_err-open-in-Open.ensures.kept

pub returns-in_err-open-in-Open-clause-does : goal.returns-in_err-open-in-Open-clause-does
returns-in_err-open-in-Open-clause-does g c = on_err c.from_residual.result
    (does g.S.CoreSides.ways c.args.name (next_job c.args.jobs.now (run_by g.S.CoreSides.states c.args.run.now) c.args.name) c.in-Some.job.now (Open c.in-Open.request) (run_by g.S.CoreSides.states c.args.run.now) (run_by g.S.CoreSides.states c.open.new.run)
    (ap (λ (o : Option ℕ). next_at c.args.jobs.now (run_by g.S.CoreSides.states c.args.run.now) o) (sym c.progress_of-progress.ensures.place) ∙ c.in-Some.ensures.next) c.in-Open.is
    (subst (λ (request : OpenRequest). BeginsCircuit (run_by g.S.CoreSides.states c.args.run.now) request) c.get.ensures.same c.in_err-open-in-Open.ensures.begins))

pub returns-in_ok-open-in-Open-clause-tries : goal.returns-in_ok-open-in-Open-clause-tries
returns-in_ok-open-in-Open-clause-tries g c =
    tried g.S.CoreSides.ways c.args.name (next_job c.args.jobs.now (run_by g.S.CoreSides.states c.args.run.now) c.args.name) c.in-Some.job.now (Open c.in-Open.request) (run_by g.S.CoreSides.states c.args.run.now) (run_by g.S.CoreSides.states c.open.new.run)
    (ap (λ (o : Option ℕ). next_at c.args.jobs.now (run_by g.S.CoreSides.states c.args.run.now) o) (sym c.progress_of-progress.ensures.place) ∙ c.in-Some.ensures.next) c.in-Open.is
    (subst (λ (request : OpenRequest). OpensIf g.S.CoreSides.ways (may_ask (run_by g.S.CoreSides.states c.args.run.now) request) c.args.name request
    (run_by g.S.CoreSides.states c.args.run.now) (run_by g.S.CoreSides.states c.open.new.run)) c.get.ensures.same (c.in_ok-open-in-Open.ensures.opens c.args.name (sym c.progress_of-progress.ensures.place)))

pub returns-in_ok-open-in-Open-clause-place : goal.returns-in_ok-open-in-Open-clause-place
returns-in_ok-open-in-Open-clause-place g c = record { is = sym c.place-in-Open.ensures.place; within = c.place-in-Open.ensures.within }

pub returns-in-Call : goal.returns-in-Call
returns-in-Call g c = record {
  tries = tried_if g.S.CoreSides.ways c.args.name (next_job c.args.jobs.now (run_by g.S.CoreSides.states c.args.run.now) c.args.name) c.in-Some.job.now (Call c.in-Call.end c.in-Call.call) (run_by g.S.CoreSides.states c.args.run.now) (run_by g.S.CoreSides.states c.try_call.new.run)
      (ap (λ (o : Option ℕ). next_at c.args.jobs.now (run_by g.S.CoreSides.states c.args.run.now) o) (sym c.progress_of-progress.ensures.place) ∙ c.in-Some.ensures.next) c.in-Call.is c.try_call.result c.try_call.ensures.calls;
  place = c.try_call.ensures.place;
  kept = c.try_call.ensures.kept;
  does = does_if g.S.CoreSides.ways c.args.name (next_job c.args.jobs.now (run_by g.S.CoreSides.states c.args.run.now) c.args.name) c.in-Some.job.now (Call c.in-Call.end c.in-Call.call) (run_by g.S.CoreSides.states c.args.run.now) (run_by g.S.CoreSides.states c.try_call.new.run)
      (ap (λ (o : Option ℕ). next_at c.args.jobs.now (run_by g.S.CoreSides.states c.args.run.now) o) (sym c.progress_of-progress.ensures.place) ∙ c.in-Some.ensures.next) c.in-Call.is c.try_call.result c.try_call.ensures.accepts;
}

pub returns-in-Reply-clause-tries : goal.returns-in-Reply-clause-tries
returns-in-Reply-clause-tries g c = tried g.S.CoreSides.ways c.args.name (next_job c.args.jobs.now (run_by g.S.CoreSides.states c.args.run.now) c.args.name) c.in-Some.job.now (Reply c.in-Reply.end c.in-Reply.msg c.in-Reply.reply) (run_by g.S.CoreSides.states c.args.run.now) (run_by g.S.CoreSides.states c.try_rule.new.run)
    (ap (λ (o : Option ℕ). next_at c.args.jobs.now (run_by g.S.CoreSides.states c.args.run.now) o) (sym c.progress_of-progress.ensures.place) ∙ c.in-Some.ensures.next) c.in-Reply.is c.try_rule.ensures.rules

pub returns-in-Reply-clause-place : goal.returns-in-Reply-clause-place
returns-in-Reply-clause-place g c = c.try_rule.ensures.place
