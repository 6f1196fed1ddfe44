use Rattle.std.proofs.Common.{map, refl, arith}
use Rattle.std.specs.List.{list_all}
use Rattle.fl_interface.specs.Interface.{message_of}
use Rattle.fl_image.specs.Image.{message_has_short_enums}
use Rattle.fl_image.proofs.Places.{goes_past, stops_at, all_passed}
use Rattle.fl_image.proofs.writable.messages_have_short_enums.Goals as goal

pub loop-message-preserved : goal.loop-message-preserved
loop-message-preserved c = goes_past (list_all message_has_short_enums) message_has_short_enums (λ y ys. refl) message_of c.args.messages.now c.loop-message.message-index c.message-item.result (list_all message_has_short_enums (map message_of c.args.messages.now)) c.loop-message-test.true c.message-item.is (cc) c.loop-message.invariant

pub returns-then-not-arguments_have_short_enums : goal.returns-then-not-arguments_have_short_enums
returns-then-not-arguments_have_short_enums c = record { exact = stops_at (list_all message_has_short_enums) message_has_short_enums (λ y ys. refl) message_of c.args.messages.now c.loop-message.message-index c.message-item.result (list_all message_has_short_enums (map message_of c.args.messages.now)) c.loop-message-test.true c.message-item.is (cc) c.loop-message.invariant }

pub returns : goal.returns
returns c = record { exact = all_passed (list_all message_has_short_enums) refl message_of c.args.messages.now c.loop-message.message-index (list_all message_has_short_enums (map message_of c.args.messages.now)) (omega (arith, c.loop-message-test.false)) c.loop-message.invariant }
