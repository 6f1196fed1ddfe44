use Rattle.std.proofs.Common.{◌≡◌, ◌-◌, map, []}
use Rattle.fl_interface.specs.Interface.{message_of}
use Rattle.fl_image.specs.Reading.{message_after, more_at}
use Rattle.fl_image.proofs.messages.some_messages.Given as goal

abbrev pub invariant-loop : goal.invariant-loop
invariant-loop l = more_at message_after (l.count - l.counter) (map message_of l.found.items) l.rest ≡ more_at message_after l.count [] l.bytes
