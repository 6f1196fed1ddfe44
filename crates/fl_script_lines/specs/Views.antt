-- What the code reads of a line, as the definitions have it: for which command, line or item one of the code's stands, in public
-- contracts too.
use Rattle.fl_script_lines.specs.declared.command.EndName.{EndName as RustEndName}
use Rattle.fl_script_lines.specs.declared.command.BackEndText.{BackEndText}
use Rattle.fl_script_lines.specs.declared.command.BackEndText.TheVariants.{Local, Ump, Hop}
use Rattle.fl_script_lines.specs.declared.command.Command.{Command as RustCommand}
use Rattle.fl_script_lines.specs.declared.command.Command.TheVariants as rust
use Rattle.fl_script_lines.specs.declared.command.Line.{Line as RustLine}
use Rattle.fl_script_lines.specs.declared.command.Line.TheVariants as line
use Rattle.fl_script_lines.specs.Commands.{EndName, BackEnd, local, ump, hop, Command, cores, link, disp, export}
use Rattle.fl_script_lines.specs.Commands.{bind, call, show, write, turn, ack, register, deregister, reply, mwrite}
use Rattle.fl_script_lines.specs.Commands.{forward, mack}
use Rattle.fl_script_lines.specs.Grammar.{Line, silent, heading, command, unread}
use Rattle.fl_script_lines.specs.Items.{Item, a_line, a_block, open_block}
use Rattle.fl_script_lines.specs.Words.{numbers_in}
use Rattle.fl_script_lines.specs.Reading.{command_by, line_with}
use Rattle.fl_script_lines.specs.declared.command.LineHead.{LineHead as RustOpening}
use Rattle.fl_script_lines.specs.declared.command.LineHead.TheVariants as opening
use Rattle.fl_script_lines.specs.declared.item.RawItem.{RawItem as RustPart}
use Rattle.fl_script_lines.specs.declared.item.RawItem.TheVariants as part
use Rattle.fl_script_lines.specs.declared.item.Item.{Item as RustItem}
use Rattle.fl_script_lines.specs.declared.item.Item.TheVariants as item

abbrev pub end_name_of : RustEndName → EndName
end_name_of e = record { binding = e.binding.now; side = e.side }

abbrev pub back_end_of : BackEndText → BackEnd
back_end_of (Local slots) = local slots
back_end_of (Ump slots) = ump slots
back_end_of (Hop route) = hop route.first (numbers_in route.others.now)

abbrev pub command_of : RustCommand → Command
command_of (rust.Cores n) = cores n
command_of (rust.Link a b slots) = link a b slots
command_of (rust.Disp name core) = disp name.now core
command_of (rust.Export name dispatcher interface) = export name.now dispatcher.now interface.now
command_of (rust.Bind name client interface service back_end) =
    bind name.now client.now interface.now service.now (back_end_of back_end)
command_of (rust.Call e text) = call (end_name_of e) text.now
command_of (rust.Show e) = show (end_name_of e)
command_of (rust.Write e) = write (end_name_of e)
command_of (rust.Turn dispatcher) = turn dispatcher.now
command_of (rust.Ack e) = ack (end_name_of e)
command_of (rust.Register e) = register (end_name_of e)
command_of (rust.Deregister e) = deregister (end_name_of e)
command_of (rust.Reply e message answer) = reply (end_name_of e) message.now answer.now
command_of (rust.MonitorWrite core neighbour) = mwrite core neighbour
command_of (rust.Forward core neighbour) = forward core neighbour
command_of (rust.MonitorAck core neighbour) = mack core neighbour

abbrev pub line_of : RustLine → Line
line_of line.Silent = silent
line_of (line.Heading plan) = heading plan
line_of (line.Command c) = command (command_of c)
line_of line.Unread = unread

abbrev pub item_of : RustItem → Item
item_of (item.Line l) = a_line (line_of l)
item_of (item.Block plan text) = a_block plan text.now
item_of item.OpenBlock = open_block

-- the line that begins so
abbrev pub opening_of : RustOpening → Line
opening_of opening.Silent = silent
opening_of (opening.Heading plan) = heading plan
opening_of (opening.Command verb rest) = line_with (command_by verb rest.now)
opening_of opening.Unread = unread

-- the item that begins so
abbrev pub part_of : RustPart → Item
part_of part.Silent = a_line silent
part_of (part.Command verb rest) = a_line (line_with (command_by verb rest.now))
part_of part.Unread = a_line unread
part_of (part.Block plan text) = a_block plan text.now
part_of part.OpenBlock = open_block
