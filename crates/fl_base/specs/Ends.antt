-- A binding's two ends.
use Rattle.fl_base.specs.declared.identity.Side.{Side}
use Rattle.fl_base.specs.declared.identity.Side.TheVariants.{Client, Server}
use Rattle.fl_base.specs.declared.identity.EndId.{EndId}

abbrev pub other : Side → Side
other Client = Server
other Server = Client

-- the other end of the same binding
abbrev pub peer : EndId → EndId
peer e = record { binding = e.binding; side = other e.side }
