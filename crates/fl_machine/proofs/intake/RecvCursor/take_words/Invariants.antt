use Rattle.std.proofs.Common.{◌≡◌, ◌≤◌, ◌+◌, ◌-◌, ◌++◌, ℕ, List, length, take, drop}
use Rattle.fl_machine.specs.Taking.{words_bytes, Stands, IsFed, IsAtField}
use Rattle.fl_machine.proofs.intake.RecvCursor.take_words.Given as goal

abbrev pub invariant-loop-used : goal.invariant-loop-used
invariant-loop-used l =
    (l.used ≤ 56) × IsAtField l.ops l.self × (l.fn.self.count ≤ l.self.count) × (l.self.count ≤ length l.tape) × (length l.tape ≡ length l.fn.tape)
    × (take l.fn.self.count l.tape ≡ take l.fn.self.count l.fn.tape)
    × ((before bytes : List ℕ) → Stands l.ops (before ++ take l.fn.self.count l.fn.tape) l.fn.self bytes → IsFed l.ops (before ++ take l.self.count l.tape) l.self (bytes ++ words_bytes l.words) (drop l.used (take 56 l.buffer)))
    × (l.self.count ≤ l.fn.self.count + l.used)

abbrev pub decreases-loop-used : goal.decreases-loop-used
decreases-loop-used l = 56 - l.used
