-- For the code alone: what was read, as contracts see it.
use Rattle.std.specs.Prelude.{map}
use Rattle.fl_interface.specs.Interface.{interface_of}
use Rattle.fl_image.specs.declared.code.MessageOps.{MessageOps}
use Rattle.fl_image.specs.declared.reader.ImageFields.{ImageFields}
use Rattle.fl_image.specs.Image.{Codes, Fields}

abbrev pub codes_view : MessageOps → Codes
codes_view ops = record { send = ops.send.items; receive = ops.receive.items }

abbrev pub found_view : ImageFields → Fields
found_view f = record { plan = f.plan; interface = interface_of f.interface; codes = map codes_view f.codes.items }
