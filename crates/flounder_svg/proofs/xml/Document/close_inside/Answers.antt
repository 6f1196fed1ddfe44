use Rattle.flounder_svg.specs.Xml.{nothing}
use Rattle.flounder_svg.proofs.xml.Document.close_inside.Goals as goal

pub close_with-requires : goal.close_with-requires
close_with-requires c = nothing
