use Rattle.std.proofs.Common.{◌≡◌, ◌-◌, ◌*◌, ◌/◌, ◌≤◌}
use Rattle.fl_wire.proofs.Texts.{stretch}
use Rattle.fl_wire.proofs.text.bytes_from.Given as goal

-- the words so far
abbrev pub invariant-loop-next : goal.invariant-loop-next
invariant-loop-next l = (l.at / 8 ≤ l.next) × (l.next ≤ l.end) × (l.bytes.items ≡ stretch l.frags (8 * (l.at / 8)) (8 * (l.next - l.at / 8)))

abbrev pub decreases-loop-next : goal.decreases-loop-next
decreases-loop-next l = l.end - l.next
