use Rattle.std.proofs.Common.{◌≡◌, ◌++◌, map, OnOk, List, sym, ap, ◌∙◌, subst}
use Rattle.std.proofs.lemmas.List.{append-nil}
use Rattle.fl_value_data.specs.Value.{TheCall, call_of}
use Rattle.fl_cores_fork.proofs.Lists.{no_call, call_there}
use Rattle.fl_cores_fork.proofs.Moving.{ends_set, others_set}
use Rattle.fl_cores_fork.proofs.telling.move_at.Goals as goal

pub returns-in-None-clause-moved : goal.returns-in-None-clause-moved
returns-in-None-clause-moved c =
    sym (append-nil (map call_of c.args.calls.now.items))
    ∙ ap (λ (xs : List TheCall). map call_of c.args.calls.now.items ++ xs) (sym (no_call c.args.jobs.now.items c.args.place c.in-None.ensures.item.3))

pub returns-in-Some-clause-moved : goal.returns-in-Some-clause-moved
returns-in-Some-clause-moved c =
    subst (λ (xs : List TheCall). OnOk c.move_call.result (map call_of c.move_call.new.calls.items ≡ map call_of c.args.calls.now.items ++ xs))
    (sym (call_there c.args.jobs.now.items c.args.place c.in-Some.job.now c.in-Some.ensures.item.3.0 c.in-Some.ensures.value)) c.move_call.ensures.moved

pub returns-in-Some-clause-ends : goal.returns-in-Some-clause-ends
returns-in-Some-clause-ends c = ends_set c.args.jobs.now.items c.args.place c.in-Some.job.now c.move_call.new.job c.in-Some.ensures.value c.move_call.ensures.end

pub returns-in-Some-clause-others : goal.returns-in-Some-clause-others
returns-in-Some-clause-others c n other = others_set c.args.jobs.now.items c.args.place c.move_call.new.job n other
