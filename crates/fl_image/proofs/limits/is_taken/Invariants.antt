use Rattle.std.proofs.Common.{◌≡◌, drop, map}
use Rattle.fl_interface.specs.Interface.{TheMessage, message_of}
use Rattle.fl_interface.specs.Limits.{is_among}
use Rattle.fl_image.proofs.limits.is_taken.Given as goal

abbrev pub invariant-loop-message : goal.invariant-loop-message
invariant-loop-message l = is_among (map (λ (m : TheMessage). m.name) (map message_of (drop l.message-index l.messages))) l.name ≡ is_among (map (λ (m : TheMessage). m.name) (map message_of l.messages)) l.name
