use Rattle.std.proofs.Common.{◌≡◌, ◌<◌, ℕ, List, map, length, sym, ap, ◌∙◌, subst, IfOk}
use Rattle.std.proofs.lemmas.Result.{on_ok_weaker}
use Rattle.fl_value_data.specs.Value.{TheCall, call_of}
use Rattle.fl_cores_jobs.specs.EndWork.{TheEndWork, end_work_of, end_work_at}
use Rattle.fl_cores_jobs.specs.State.{joined_of}
use Rattle.fl_cores_fork.specs.CoreThreads.{outcome_of}
use Rattle.fl_cores_fork.proofs.Moving.{end_work_there, are_once, sent_there, jobs_kept}
use Rattle.fl_cores_fork.proofs.telling.sent_at.Goals as goal

pub sent_by-requires : goal.sent_by-requires
sent_by-requires c =
    let end_work : end_work_of c.index.result.now ≡ end_work_at (joined_of c.args.joined.now).end_works c.args.end =
    end_work_there c.args.end c.slot_of.result c.args.joined.now.end_works.items c.index.result.now c.slot_of.ensures.slot
    (subst (λ (n : ℕ). n < length c.args.joined.now.end_works.items) (sym c.slot_of.ensures.slot) c.requires.end_work) c.index.ensures in
    record { once = are_once c.args.end c.index.result.now.jobs.items c.args.jobs.now.items (ap (λ (d : TheEndWork). d.jobs) end_work ∙ c.requires.places c.args.end) }

pub returns-in-Some-clause-sent : goal.returns-in-Some-clause-sent
returns-in-Some-clause-sent c =
    let end_work : end_work_of c.index.result.now ≡ end_work_at (joined_of c.args.joined.now).end_works c.args.end =
    end_work_there c.args.end c.slot_of.result c.args.joined.now.end_works.items c.index.result.now c.slot_of.ensures.slot
    (subst (λ (n : ℕ). n < length c.args.joined.now.end_works.items) (sym c.slot_of.ensures.slot) c.requires.end_work) c.index.ensures in
    subst (λ (cs : List TheCall). IfOk c.sent_by.result (λ calls. map call_of calls.items ≡ cs))
    (sent_there (joined_of c.args.joined.now) (map outcome_of c.args.done.now) c.args.end c.args.jobs.now.items (end_work_of c.index.result.now) c.in-Some.progress.now
    (sym c.in-Some.ensures.progress) end_work)
    c.sent_by.ensures.sent

pub returns-in-Some-clause-rest : goal.returns-in-Some-clause-rest
returns-in-Some-clause-rest c =
    let end_work : end_work_of c.index.result.now ≡ end_work_at (joined_of c.args.joined.now).end_works c.args.end =
    end_work_there c.args.end c.slot_of.result c.args.joined.now.end_works.items c.index.result.now c.slot_of.ensures.slot
    (subst (λ (n : ℕ). n < length c.args.joined.now.end_works.items) (sym c.slot_of.ensures.slot) c.requires.end_work) c.index.ensures in
    on_ok_weaker c.sent_by.result
    (jobs_kept c.args.end c.index.result.now.jobs.items c.args.jobs.now.items c.sent_by.new.jobs.items (ap (λ (d : TheEndWork). d.jobs) end_work ∙ c.requires.places c.args.end))
    c.sent_by.ensures.rest
