use Rattle.std.proofs.Common.{◌≡◌, ◌++◌, map, drop}
use Rattle.std.specs.List.{flat_map}
use Rattle.fl_value_data.specs.Value.{call_of}
use Rattle.fl_cores_jobs.specs.EndWork.{reply_by}
use Rattle.fl_cores_fork.proofs.telling.add_replies.Given as goal

-- the calls so far, and the replies to those that are left
abbrev pub invariant-loop-call : goal.invariant-loop-call
invariant-loop-call l =
    map call_of l.calls.items ++ flat_map (reply_by l.end_work.rules.items) (map call_of (drop l.call-index l.handled))
    ≡ map call_of l.fn.calls.items ++ flat_map (reply_by l.end_work.rules.items) (map call_of l.handled)
