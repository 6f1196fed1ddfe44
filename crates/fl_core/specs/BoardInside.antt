-- A working file, on which no public promise rests by itself: what a board stores, and the parts of a turn, by what the end
-- answered.
use Rattle.std.specs.Prelude.{◌≡◌, ◌<◌, ◌≤◌, ℕ, List, [], ◌∷◌, Result, Ok, Err}
use Rattle.std.specs.Allocator.{alloc_error}
use Rattle.std.specs.declared.alloc.AllocError.{AllocError}
use Rattle.fl_lists.specs.declared.place.Place.TheVariants as place
use Rattle.fl_lists.specs.ThreeLists.{ThreeLists, unlinked}
use Rattle.fl_link.specs.Looks.{Look, no_room, told, kept}
use Rattle.fl_endpoint.specs.declared.fault.EndFault.{EndFault}
use Rattle.fl_endpoint.specs.declared.fault.EndFault.TheVariants.{Spent, Busy, UnknownMessage, Misfit, NotBound, Failed, Wire, Memory}
use Rattle.fl_endpoint.specs.declared.answer.ReceiveAnswer.{ReceiveAnswer}
use Rattle.fl_endpoint.specs.declared.answer.ReceiveAnswer.TheVariants as receive
use Rattle.fl_core.specs.declared.kind.ChannelKind.{ChannelKind}
use Rattle.fl_core.specs.declared.turn_answer.TurnAnswer.{TurnAnswer}
use Rattle.fl_core.specs.declared.turn_answer.TurnAnswer.TheVariants.{Refused}
use Rattle.fl_core.specs.declared.turn_answer.AckAnswer.{AckAnswer}
use Rattle.fl_core.specs.declared.turn_answer.AckAnswer.TheVariants as ack
use Rattle.fl_core.specs.declared.board_fault.BoardFault.{BoardFault}
use Rattle.fl_core.specs.declared.board_fault.BoardFault.TheVariants as board
use Rattle.fl_waitset.specs.declared.waitset.Pick.{Pick}
use Rattle.fl_base.specs.declared.fragment.Frag.{Frag}
use Rattle.fl_machine.specs.Reassembling.{TheReassembly, ChangesPlace}
use Rattle.fl_compile.specs.Programs.{program_of}
use Rattle.fl_endpoint.specs.View.{TheEnd, with_parts}
use Rattle.fl_endpoint.specs.Accounts.{Sound}
use Rattle.fl_core.specs.BoardView.{TheDispatcher, TheEndAtChannel, TheBoard}
use Rattle.fl_core.specs.BoardSound.{IsBoard}
use Rattle.fl_core.specs.BoardTurns.{GoesOn, put_off, ListsAndSide, EndMoment, moment, LooksAt}

-- ---- what a board stores: its seats, each with an end by itself, and for each seat a place, with what was taken there

-- a seat, with these fragments taken by its end
abbrev pub seat_with : TheEndAtChannel → List Frag → TheEndAtChannel
seat_with s parts = record { end = with_parts s.end parts; dispatcher = s.dispatcher; channel = s.channel; kind = s.kind }

-- each seat, with what was taken at its place
abbrev pub seats_of : List TheEndAtChannel → List TheReassembly → List TheEndAtChannel
seats_of [] calls = []
seats_of (s ∷ seats) [] = []
seats_of (s ∷ seats) (r ∷ calls) = seat_with s r.parts ∷ seats_of seats calls

-- a place is of an end's program, and the end is sound with what was taken there
pub record Belongs (r : TheReassembly) (s : TheEnd) : Type 0 where
  pub program : program_of r.program ≡ program_of s.program
  pub sound : Sound (with_parts s r.parts)

-- there is a place for each seat, and it belongs to the seat's end
abbrev pub GoTogether : List TheEndAtChannel → List TheReassembly → Type 0
GoTogether [] [] = Unit {0}
GoTogether [] (r ∷ calls) = ⊥
GoTogether (s ∷ seats) [] = ⊥
GoTogether (s ∷ seats) (r ∷ calls) = Belongs r s.end × GoTogether seats calls

abbrev pub board_of : List TheDispatcher → List TheEndAtChannel → List TheReassembly → TheBoard
board_of dispatchers seats calls = record { dispatchers = dispatchers; seats = seats_of seats calls }

pub record IsStored (dispatchers : List TheDispatcher) (seats : List TheEndAtChannel) (calls : List TheReassembly) : Type 0 where
  pub board : IsBoard (board_of dispatchers seats calls)
  pub together : GoTogether seats calls

-- ---- the parts of a turn

-- the turn of the end that is due: what was picked, how its dispatcher's lists, the end and the side were, what is answered, and
-- how they are then
pub record EndTurn (T : Type 0) : Type 0 where
  pub picked : Pick
  pub kind : ChannelKind
  pub before : EndMoment T
  pub answer : Result TurnAnswer AllocError
  pub after : EndMoment T

abbrev pub end_turn : {T : Type 0} → Pick → ChannelKind → EndMoment T → Result TurnAnswer AllocError → EndMoment T → EndTurn T
end_turn picked kind a answer b = record { picked = picked; kind = kind; before = a; answer = answer; after = b }

-- a moment, where what was taken at the end's place stands beside the end
abbrev pub moment_with : {T : Type 0} → EndMoment T → List Frag → EndMoment T
moment_with a parts = moment a.lists (with_parts a.end parts) a.side

-- so the turn is
abbrev pub LooksWith : {T : Type 0} → (T → Look → T → Type 0) → EndTurn T → TheReassembly → TheReassembly → Type 0
LooksWith takes x was is =
    (is.program ≡ was.program)
    × LooksAt takes x.picked x.kind (moment_with x.before was.parts) x.answer (moment_with x.after is.parts)

-- of all places, the end's alone has changed
abbrev pub LooksAtPlace : {T : Type 0} → (T → Look → T → Type 0) → EndTurn T → List TheReassembly → ℕ → List TheReassembly → Type 0
LooksAtPlace takes x before place after = ChangesPlace before place (LooksWith takes x) after

-- what an end answered says where its channel goes
abbrev pub Settles : {T : Type 0} → (T → Look → T → Type 0) → ChannelKind → ℕ → ListsAndSide T → ReceiveAnswer → ListsAndSide T → Type 0
Settles takes kind c a (receive.Handle call) b = GoesOn takes kind c a b
Settles takes kind c a receive.Part b = GoesOn takes kind c a b
Settles takes kind c a receive.Quiet b = GoesOn takes kind c a b
Settles takes kind c a receive.Empty b = GoesOn takes kind c a b
Settles takes kind c a receive.HeldBack b = (b.lists ≡ put_off a.lists place.Pending c place.Pending) × (b.side ≡ a.side)

-- the faults that an end answers that is bound and never failed
abbrev pub MayCome : EndFault → Type 0
MayCome (Wire fault) = Unit {0}
MayCome Memory = Unit {0}
MayCome Spent = ⊥
MayCome Busy = ⊥
MayCome UnknownMessage = ⊥
MayCome Misfit = ⊥
MayCome NotBound = ⊥
MayCome Failed = ⊥

abbrev pub Refuses : ℕ → ThreeLists → EndFault → Result TurnAnswer AllocError → ThreeLists → Type 0
Refuses c w (Wire fault) answer v = (answer ≡ Ok (Refused fault)) × (v ≡ unlinked w c)
Refuses c w fault answer v = (answer ≡ Err alloc_error) × (v ≡ w)

-- what a ring's side tells
abbrev pub Tells : {T : Type 0} → (T → Look → T → Type 0) → T → AckAnswer → T → Type 0
Tells takes p ack.Done q = takes p told q
Tells takes p ack.Nothing q = takes p kept q
Tells takes p ack.Full q = takes p no_room q

-- why a dispatcher with so many ends gets no other
abbrev pub HasNoRoom : ℕ → BoardFault → Type 0
HasNoRoom ends board.TooManyEnds = 1024 ≤ ends
HasNoRoom ends board.Memory = ends < 1024
HasNoRoom ends fault = ⊥
