-- Working file: fields outside loops, which lie in one fragment.
use Rattle.std.specs.Prelude.{◌≡◌, drop, ℕ, ◌+◌, ◌%◌, ◌^◌, ◌<◌, ◌≤◌, Bool, true, false, List, [], ◌++◌}
use Rattle.fl_stub.specs.declared.op.Op.{Op}
use Rattle.fl_stub.specs.declared.op.Op.TheVariants.{Read, ReadBool, ReadEnum, ReadChar, ReadText, Skip}
use Rattle.fl_stub.specs.Meaning.{number_bytes}
use Rattle.fl_stub.specs.Locations.{TheEndLocation, IsLocation, bytes_from}
use Rattle.fl_machine.specs.declared.cursor.SendCursor.{SendCursor}
use Rattle.fl_machine.specs.declared.intake.ByteField.{ByteField}
use Rattle.fl_machine.specs.declared.intake.RecvCursor.{RecvCursor}
use Rattle.fl_machine.specs.Taking.{Grows, bytes_left}

-- an instruction that takes bytes wherever it stands, and one number or zeros by them
abbrev pub is_straight : Op → Bool
is_straight (Read width) = true
is_straight ReadBool = true
is_straight (ReadEnum count) = true
is_straight ReadChar = true
is_straight ReadText = true
is_straight (Skip zeros) = true
is_straight op = false

-- where a run stands that has met no loop, at so many bytes of a call's first fragment
abbrev pub straight_intake : ℕ → ℕ → ℕ → RecvCursor
straight_intake place count used = record { place = place; loops = []; depth = 0; count = count; phase = used % 8; value = 0; have = 0 }

-- where a run stands behind straight instructions from where it stood: at this place, with so many numbers, at this place in the payload
abbrev pub straight_behind : RecvCursor → ℕ → ℕ → ℕ → RecvCursor
straight_behind c place count phase = record c { place = place; count = count; phase = phase; value = 0; have = 0 }

-- the bytes of a field from a place on are this number, which is right
pub record HasNumber (f : ByteField) (buffer : List ℕ) (used number : ℕ) : Type 0 where
  pub inside : used + f.width ≤ 56
  pub grows : Grows 0 0 number f.width (bytes_left buffer used) (bytes_left buffer (used + f.width))
  pub least : f.least ≤ number
  pub last : number ≤ f.last

-- where a run of send code stands that has met no loop: before this instruction, this number of the tape, with so many
-- bytes given
abbrev pub straight_location : List ℕ → ℕ → ℕ → ℕ → TheEndLocation
straight_location tape place next filled = record {
  place = place;
  loops = [];
  tape = drop next tape;
  at = filled % 8;
  value = 0;
  width = 0;
}

-- the bytes of this number given whole, from one location to another
pub record GivesNumber (ops : List Op) (s t : TheEndLocation) (number width : ℕ) : Type 0 where
  pub few : width ≤ 8
  pub small : number < 256 ^ width
  pub location : IsLocation ops t
  pub bytes : bytes_from ops s ≡ number_bytes width number ++ bytes_from ops t

-- where a run of send code stands further on in the same loops: before this instruction, this number of the tape, at this place in
-- the payload, with so many bytes of a number to be given
abbrev pub cursor_on : SendCursor → ℕ → ℕ → ℕ → ℕ → ℕ → SendCursor
cursor_on c place next phase value width = record c { place = place; next = next; phase = phase; value = value; width = width }
