-- What a core notes of what it does by its sides: how a step of a side goes with the core's own list of steps.
use Rattle.std.specs.Prelude.{ℕ, ◌≡◌, ◌⊎◌, false, List, [], ◌∷◌, ◌++◌}
use Rattle.fl_base.specs.declared.fragment.Frag.{Frag}
use Rattle.fl_base.specs.Control.{bare}
use Rattle.fl_link.specs.Looks.{Look, placed, no_room, spent, saw, saw_ack, found, found_ack, missed, told, kept}
use Rattle.fl_link.specs.Queue.{look_at}
use Rattle.fl_ring.specs.Duo.{acknowledgement}
use Rattle.fl_ring.specs.SharedSeats.{front_seen}
use Rattle.fl_ring.specs.SharedSides.{SharedPuts, SharedTakes}
use Rattle.fl_history_rings.specs.declared.board.Action.{Action}
use Rattle.fl_history_rings.specs.declared.board.Action.TheVariants.{Put, Found, Missed, Saw, Took}
use Rattle.fl_history_rings.specs.declared.board.Entry.{Entry}
use Rattle.fl_history_rings.specs.Cores.{TheCore, noting}
use Rattle.fl_history_sides.specs.States.{TheHistorySide, side_after, acts_in, with_steps}

-- ---- which actions are noted

-- where room was found: nothing, or by a look for it a control word
abbrev pub NotesFound : List Action → Type 0
NotesFound did = (did ≡ []) ⊎ ((control : ℕ) × (did ≡ Found control ∷ []))

-- where none was found: the same, or that nothing stands first
abbrev pub NotesFull : List Action → Type 0
NotesFull did = NotesFound did ⊎ (did ≡ Missed ∷ [])

-- by a put of a fragment that is this one but for its epoch and the count that it tells
abbrev pub NotesPut : Frag → List Action → Type 0
NotesPut frag did = (room : List Action) × (f : Frag)
    × NotesFound room × (bare f ≡ frag) × (did ≡ room ++ Put f ∷ [])

-- by a look, and by a take, where a look at the fragment has this label
abbrev pub NotesSeen : Look → List Action → Type 0
NotesSeen look did = (f : Frag) × (look_at f ≡ look) × (did ≡ Found f.control ∷ Saw f ∷ [])

abbrev pub NotesTaken : Look → List Action → Type 0
NotesTaken look did = (f : Frag) × (look_at f ≡ look) × (did ≡ Found f.control ∷ Took f ∷ [])

-- by one step of a side, by what it came to
abbrev pub Notes : Look → List Action → Type 0
Notes (placed frag) did = NotesPut frag did
Notes no_room did = NotesFull did
Notes spent did = did ≡ []
Notes (saw frag) did = NotesSeen (saw frag) did
Notes saw_ack did = NotesSeen saw_ack did
Notes (found frag) did = NotesTaken (saw frag) did
Notes found_ack did = NotesTaken saw_ack did
Notes missed did = did ≡ Missed ∷ []
Notes told did = NotesPut acknowledgement did
Notes kept did = did ≡ []

-- ---- behind what else the core did

-- the core, once it did these too by the side of this number, one after another
abbrev pub noting_all : TheCore → ℕ → List Action → TheCore
noting_all c s [] = c
noting_all c s (d ∷ did) = noting_all (noting c s d) s did

-- d is core c, as it was once it last did something by the side of this number, after that did these: of what
-- the core did since by other sides nobody is told
abbrev pub GoesOn : ℕ → TheCore → List Action → TheCore → Type 0
GoesOn s c [] d = d ≡ c
GoesOn s c (a ∷ did) d = (since : List Entry) × (acts_in s since ≡ false)
    × (d ≡ noting_all (with_steps c (c.steps ++ since)) s (a ∷ did))

-- one step of a side, by what it came to, is noted by its core
pub record IsNoted (p : TheHistorySide) (look : Look) (q : TheHistorySide) : Type 0 where
  pub number : q.number ≡ p.number
  pub did : List Action
  pub notes : Notes look did
  pub goes_on : GoesOn p.number p.core did q.core
  -- the side is shown by what its core did
  pub shown : q.side ≡ side_after q.side.ring q.side.size q.number q.core.steps

-- A step of a side is one of a side of a ring that has a table of its own, and is noted.
abbrev pub HistoryPuts : TheHistorySide → Look → TheHistorySide → Type 0
HistoryPuts p look q = SharedPuts p.side look q.side × IsNoted p look q

abbrev pub HistoryTakes : TheHistorySide → Look → TheHistorySide → Type 0
HistoryTakes p look q = SharedTakes p.side look q.side × IsNoted p look q

-- what the last look of a side saw, where it saw something
abbrev pub front_of : TheHistorySide → Look
front_of p = front_seen p.side.peeked
