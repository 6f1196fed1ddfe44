use Rattle.std.proofs.Common.{◌≡◌, ◌-◌, ◌∙◌, ℕ, List, map, length, take, ap}
use Rattle.fl_value_data.specs.declared.value.Call.{Call}
use Rattle.fl_value_data.specs.Value.{call_of}
use Rattle.fl_core_run.specs.Accepted.{accepted_of}
use Rattle.fl_cores_jobs.specs.State.{joined_of}
use Rattle.fl_cores_fork.specs.CoreThreads.{outcome_of}
use Rattle.fl_cores_fork.specs.Tells.{waiting_left}
use Rattle.fl_cores_fork.proofs.Moving.{but_last}
use Rattle.fl_cores_fork.proofs.telling.made_at.Goals as goal

pub returns-clause-made : goal.returns-clause-made
returns-clause-made c =
    let waiting = waiting_left (joined_of c.args.joined.now) (map outcome_of c.args.done.now) c.args.end in
    let calls = c.in_ok-calls.calls.items in
    let accepted : c.saturating_sub-accepted.result ≡ length calls - waiting =
    c.saturating_sub-accepted.ensures ∙ ap (λ (xs : List Call). length xs - c.waiting_left.result) c.as_slice.ensures.value
    ∙ ap (λ (n : ℕ). length calls - n) c.waiting_left.ensures.waiting in
    ap (map call_of) (c.truncate.ensures.items ∙ ap (λ (n : ℕ). take n calls) accepted)
    ∙ but_last calls waiting ∙ ap (accepted_of waiting) c.in_ok-calls.ensures.sent
