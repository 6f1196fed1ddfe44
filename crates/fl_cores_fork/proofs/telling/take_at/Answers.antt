use Rattle.std.proofs.Common.{◌≡◌, ◌+◌, ◌∙◌, ℕ, map, slice_get, List, [], sym, ap, subst}
use Rattle.fl_base.specs.Given.{given}
use Rattle.fl_value_data.specs.Value.{TheCall, call_of}
use Rattle.fl_core.specs.View.{slot_of}
use Rattle.fl_cores_jobs.specs.declared.end_work.BindingCores.{BindingCores}
use Rattle.fl_cores_jobs.specs.State.{joined_of}
use Rattle.fl_cores_jobs.specs.Joined.{core_at}
use Rattle.fl_cores_fork.specs.Tells.{handled_by}
use Rattle.fl_cores_fork.specs.CoreThreads.{outcome_of}
use Rattle.fl_cores_fork.specs.Taking.{KeepsFrom}
use Rattle.fl_cores_fork.proofs.Taking.{keeps_all, handled_nowhere, handled_there, keeps_set, same_hands}
use Rattle.fl_cores_fork.proofs.telling.take_at.Goals as goal

pub returns-in-None-clause-rest : goal.returns-in-None-clause-rest
returns-in-None-clause-rest c = keeps_all (slot_of c.args.end + 1) (map outcome_of c.args.done.now.items)

pub returns-in-None-get_mut-clause-handled : goal.returns-in-None-get_mut-clause-handled
returns-in-None-get_mut-clause-handled c =
    handled_nowhere (joined_of c.args.joined.now) c.args.end c.in-Some.core c.args.done.now.items (map call_of c.new-in-None-get_mut.result.items)
    (ap (λ (bs : List BindingCores). core_at bs c.args.end) (sym c.deref.ensures.value) ∙ sym c.in-Some.ensures.core) c.in-None-get_mut.ensures.item.3
    (ap (map call_of) c.new-in-None-get_mut.ensures.items)

pub returns-in-None-get_mut-clause-rest : goal.returns-in-None-get_mut-clause-rest
returns-in-None-get_mut-clause-rest c = keeps_all (slot_of c.args.end + 1) (map outcome_of c.args.done.now.items)

pub returns-in-Some-get_mut-clause-handled : goal.returns-in-Some-get_mut-clause-handled
returns-in-Some-get_mut-clause-handled c =
    handled_there (joined_of c.args.joined.now) c.args.end c.in-Some.core c.args.done.now.items c.in-Some-get_mut.one.now (map call_of c.take_from.result.items)
    (ap (λ (bs : List BindingCores). core_at bs c.args.end) (sym c.deref.ensures.value) ∙ sym c.in-Some.ensures.core)
    c.in-Some-get_mut.ensures.item.3.0 c.in-Some-get_mut.ensures.value
    (subst (λ (slot : ℕ). map call_of c.take_from.result.items
    ≡ given {Y = List TheCall} (slice_get c.in-Some-get_mut.one.now.core_thread.running.value.progresses.items slot) [] handled_by) c.slot_of.ensures.slot c.take_from.ensures.handled)

pub returns-in-Some-get_mut-clause-rest : goal.returns-in-Some-get_mut-clause-rest
returns-in-Some-get_mut-clause-rest c =
    keeps_set (slot_of c.args.end + 1) c.in-Some.core c.args.done.now.items c.in-Some-get_mut.one.now c.take_from.new.one c.in-Some-get_mut.ensures.value
    (subst (λ (slot : ℕ). KeepsFrom (slot + 1) (outcome_of c.in-Some-get_mut.one.now) (outcome_of c.take_from.new.one)) c.slot_of.ensures.slot c.take_from.ensures.rest)

pub returns-in-Some-get_mut-clause-hands : goal.returns-in-Some-get_mut-clause-hands
returns-in-Some-get_mut-clause-hands c =
    same_hands c.in-Some.core c.args.done.now.items c.in-Some-get_mut.one.now c.take_from.new.one c.in-Some-get_mut.ensures.value c.take_from.ensures.hand
