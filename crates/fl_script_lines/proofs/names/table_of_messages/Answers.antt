use Rattle.std.proofs.Common.{◌∙◌, sym, ap, arith, Option, Some}
use Rattle.std.proofs.lemmas.Option.{slice_get-get_or}
use Rattle.fl_interface.specs.declared.interface.Message.{Message}
use Rattle.fl_script_lines.specs.Tables.{table_of}
use Rattle.fl_script_lines.proofs.TableLemmas.{next_is_new}
use Rattle.fl_script_lines.proofs.names.table_of_messages.Goals as goal

pub add-requires : goal.add-requires
add-requires c =
    let some : Message → Option Message = λ m. Some m in
    next_is_new (λ (m : Message). m.name.bytes.items) c.args.messages.now c.loop-message.message-index c.message-item.result c.deref.result.now (table_of c.loop-message.table) c.requires
    (slice_get-get_or c.args.messages.now c.loop-message.message-index c.message-item.result (omega arith) ∙ ap some (sym c.message-item.is)) c.deref.ensures.value c.loop-message.invariant
