use Rattle.std.proofs.Common.{◌∙◌, ap, map, List}
use Rattle.fl_interface.specs.declared.interface.Message.{Message}
use Rattle.fl_script_lines.proofs.TableLemmas.{named_messages, messages_differ}
use Rattle.fl_script_lines.proofs.names.names_in.Goals as goal

pub table_of_messages-requires : goal.table_of_messages-requires
table_of_messages-requires c =
    messages_differ c.args.interface.now.name.bytes.items c.args.interface.now.messages.items c.deref-2.result.now c.args.interface.now.within c.deref-2.ensures.value

pub returns-clause-messages : goal.returns-clause-messages
returns-clause-messages c =
    c.in_ok-table_of_messages.ensures.names ∙ (ap (λ (x : List Message). map (λ (m : Message). m.name.bytes.items) x) c.deref-2.ensures.value ∙ named_messages c.args.interface.now.messages.items)
