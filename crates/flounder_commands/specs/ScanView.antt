-- What the code's own types say of how far a transcript was read. No public promise rests on this file.
use Rattle.flounder_commands.specs.declared.refusals.LineState.{LineState}
use Rattle.flounder_commands.specs.declared.refusals.LineState.TheVariants.{Before, Behind, Other}
use Rattle.flounder_commands.specs.declared.refusals.Scan.{Scan}
use Rattle.flounder_commands.specs.Scan.{Ahead, before, behind, other, Scanned}

abbrev pub ahead : LineState → Ahead
ahead (Before cs) = before cs.now
ahead (Behind cs) = behind cs.now
ahead Other = other

abbrev pub scanned : Scan → Scanned
scanned s = record { found = s.found; line = ahead s.line }
