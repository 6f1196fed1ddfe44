use Rattle.std.proofs.Common.{◌≡◌, ◌++◌, drop, map, true}
use Rattle.fl_interface.specs.Interface.{message_of}
use Rattle.fl_interface.specs.Limits.{are_messages_within}
use Rattle.fl_layout.specs.Extents.{placed_of}
use Rattle.fl_layout.proofs.plans.plan_messages.Given as goal

abbrev pub invariant-loop-message : goal.invariant-loop-message
invariant-loop-message l =
    let rest = map message_of (drop l.message-index l.interface.messages.items) in
    (map (λ m. m.placed.items) l.messages.items ++ map (placed_of l.plan) rest ≡ map (placed_of l.plan) (map message_of l.interface.messages.items))
    × (are_messages_within rest ≡ true)
