use Rattle.std.proofs.Common.{ℕ, ◌+◌, ap, ◌∙◌}
use Rattle.fl_c_operations.proofs.Transmissions.{all_busy, all_idle}
use Rattle.fl_c_operations.proofs.transmitting.all_calls.Goals as goal

pub returns-then-is_busy : goal.returns-then-is_busy
returns-then-is_busy c =
    let o = c.args.end.now.outgoing in
    record { all = ap (λ (n : ℕ). n + 1) c.replies_waiting-waiting.ensures.waiting ∙ all_busy o.unwritten o.waiting c.if-is_busy.ensures.busy }

pub returns : goal.returns
returns c =
    let o = c.args.end.now.outgoing in
    record { all = c.replies_waiting-waiting.ensures.waiting ∙ all_idle o.unwritten o.waiting c.if-is_busy.ensures.busy }
