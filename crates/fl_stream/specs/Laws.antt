-- What holds of a side of a stream over steps in a row: laws.
use Rattle.std.specs.Prelude.{◌≡◌, List, ◌++◌}
use Rattle.fl_link.specs.Looks.{Look, Looks, puts_of, takes_of}
use Rattle.fl_stream.specs.Sides.{TheSender, TheReceiver}
use Rattle.fl_stream.specs.Steps.{StreamPuts, StreamTakes}

-- of the side that puts: what it sent grew by what was placed
pub record SenderConserves (s : TheSender) (looks : List Look) (t : TheSender) : Type 0 where
  pub stream : t.stream ≡ s.stream
  pub size : t.size ≡ s.size
  pub sent : t.sent ≡ s.sent ++ puts_of looks

-- puts in a row do that, whatever each of them came to
abbrev pub SenderLaw : Type 0
SenderLaw = (s t : TheSender) (looks : List Look) → Looks StreamPuts s looks t → SenderConserves s looks t

-- of the side that takes: what it got grew by what was found
pub record ReceiverConserves (s : TheReceiver) (looks : List Look) (t : TheReceiver) : Type 0 where
  pub stream : t.stream ≡ s.stream
  pub size : t.size ≡ s.size
  pub got : t.got ≡ s.got ++ takes_of looks

-- looks, takes and tells in a row do that, whatever each of them came to
abbrev pub ReceiverLaw : Type 0
ReceiverLaw = (s t : TheReceiver) (looks : List Look) → Looks StreamTakes s looks t → ReceiverConserves s looks t
