use Rattle.std.proofs.Common.{◌≡◌, ◌++◌, drop, map}
use Rattle.std.specs.List.{flat_map}
use Rattle.fl_interface.specs.Interface.{message_of}
use Rattle.fl_image.specs.Image.{message_image}
use Rattle.fl_image.proofs.writer.put_messages.Given as goal

abbrev pub invariant-loop-message : goal.invariant-loop-message
invariant-loop-message l =
    l.out.items ++ flat_map message_image (map message_of (drop l.message-index l.messages)) ≡ l.fn.out.items ++ flat_map message_image (map message_of l.messages)
