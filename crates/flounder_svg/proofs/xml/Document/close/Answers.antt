use Rattle.std.proofs.Common.{[]}
use Rattle.flounder_svg.specs.Xml.{nothing, line_end}
use Rattle.flounder_svg.proofs.xml.Document.close.Goals as goal

pub close_with-requires : goal.close_with-requires
close_with-requires c = line_end [] [] nothing
