-- A replayed side, as its looks and puts are told: nothing is promised of what they come to.
use Rattle.fl_link.specs.Looks.{Look}

-- anything may come of a step
abbrev pub Any : {S : Type 0} → S → Look → S → Type 0
Any s look t = Unit {0}
