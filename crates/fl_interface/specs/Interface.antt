-- Interfaces and types as contracts see them.
use Rattle.std.specs.Prelude.{map}
use Rattle.fl_interface.specs.declared.interface.Interface.{Interface}
pub use Rattle.fl_interface.specs.Types.{TheType, scalar, enumeration, structure, array, TheTypes, no_more, field, TheArgType, fixed, text, sized}
pub use Rattle.fl_interface.specs.Types.{TheMessage, TheInterface, fields_from, type_step, type_of, arg_type_of, message_of}

abbrev pub interface_of : Interface → TheInterface
interface_of i = record { name = i.name.bytes.items; messages = map message_of i.messages.items }
