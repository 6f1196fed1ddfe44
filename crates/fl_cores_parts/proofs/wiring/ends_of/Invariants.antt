use Rattle.std.proofs.Common.{◌≡◌, ◌++◌, drop, length}
use Rattle.fl_cores_parts.specs.Begins.{ends_from, words_of}
use Rattle.fl_cores_parts.proofs.wiring.ends_of.Given as goal

-- the ends and words so far, and those of the bindings that are left
abbrev pub invariant-loop-binding : goal.invariant-loop-binding
invariant-loop-binding l =
    (l.ends.items ++ ends_from l.core l.binding (drop l.binding l.bindings) ≡ ends_from l.core 0 l.bindings)
    × (l.words.items ++ words_of l.core (drop l.binding l.bindings) ≡ words_of l.core l.bindings)
    × (length l.words.items ≡ length l.ends.items)
