use Rattle.std.proofs.Common.{◌≡◌, drop, map}
use Rattle.std.specs.List.{list_all}
use Rattle.fl_interface.specs.Interface.{message_of}
use Rattle.fl_image.specs.Image.{message_has_short_enums}
use Rattle.fl_image.proofs.writable.messages_have_short_enums.Given as goal

abbrev pub invariant-loop-message : goal.invariant-loop-message
invariant-loop-message l = list_all message_has_short_enums (map message_of (drop l.message-index l.messages)) ≡ list_all message_has_short_enums (map message_of l.messages)
