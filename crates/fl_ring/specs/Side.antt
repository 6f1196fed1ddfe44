-- A side of a ring of two directions, lent: its steps are the ring's at that side.
use Rattle.std.specs.Prelude.{◌≡◌}
use Rattle.fl_link.specs.Looks.{Look}
use Rattle.fl_ring.specs.Duo.{DuoPuts, DuoTakes}
use Rattle.fl_ring.specs.declared.duo_side.DuoSide.{DuoSide}

-- the same side of the same ring is held
abbrev pub SameSide : DuoSide → DuoSide → Type 0
SameSide s t = (t.duo.ghost_name ≡ s.duo.ghost_name) × (t.which ≡ s.which)

-- one put, and one look, take or tell: each is what the ring does at that side
abbrev pub SidePuts : DuoSide → Look → DuoSide → Type 0
SidePuts s look t = SameSide s t × DuoPuts s.which s.duo.now look t.duo.now

abbrev pub SideTakes : DuoSide → Look → DuoSide → Type 0
SideTakes s look t = SameSide s t × DuoTakes s.which s.duo.now look t.duo.now
