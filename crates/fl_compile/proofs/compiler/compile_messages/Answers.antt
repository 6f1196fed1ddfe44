use Rattle.std.proofs.Common.{◌≡◌, List, map, ap, sym, ◌∙◌}
use Rattle.std.specs.Prelude.{slice_get, Some}
use Rattle.fl_interface.specs.declared.interface.Message.{Message}
use Rattle.fl_interface.specs.Interface.{message_of, interface_of}
use Rattle.fl_compile.proofs.Depths.{message_within, message_words}
use Rattle.fl_compile.proofs.Compiling.{message_at}
use Rattle.fl_compile.proofs.compiler.compile_messages.Goals as goal

pub compile_both-requires-clause-within : goal.compile_both-requires-clause-within
compile_both-requires-clause-within c =
    let here = message_at message_of c.deref-message-items.result.now c.loop-message.message-index c.message-item.result c.loop-message-test.true c.message-item.is in
    let all = interface_of c.args.interface.now in
    let there : slice_get all.messages c.loop-message.message-index ≡ Some (message_of c.message-item.result)
    = ap (λ (ms : List Message). slice_get (map message_of ms) c.loop-message.message-index) (sym c.deref-message-items.ensures.value) ∙ here in
    message_within all c.loop-message.message-index (message_of c.message-item.result) c.args.interface.now.within there

pub compile_both-requires-clause-words : goal.compile_both-requires-clause-words
compile_both-requires-clause-words c =
    let here = message_at message_of c.deref-message-items.result.now c.loop-message.message-index c.message-item.result c.loop-message-test.true c.message-item.is in
    let all = interface_of c.args.interface.now in
    let there : slice_get all.messages c.loop-message.message-index ≡ Some (message_of c.message-item.result)
    = ap (λ (ms : List Message). slice_get (map message_of ms) c.loop-message.message-index) (sym c.deref-message-items.ensures.value) ∙ here in
    message_words all c.loop-message.message-index (message_of c.message-item.result) c.args.interface.now.counted there
