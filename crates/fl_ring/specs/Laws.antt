-- What holds of rings over looks in a row: laws.
use Rattle.std.specs.Prelude.{◌≡◌, ◌+◌, List, [], ◌∷◌, ◌++◌, map, length}
use Rattle.std.specs.List.{flat_map}
use Rattle.fl_base.specs.declared.fragment.Frag.{Frag}
use Rattle.fl_base.specs.Control.{bare}
use Rattle.fl_link.specs.Looks.{Look, Looks, LinkStep, placed, found, found_ack, told, puts_of, takes_of}
use Rattle.fl_link.specs.Calls.{bare_calls}
use Rattle.fl_link.specs.Laws.{QueueConserves}
use Rattle.fl_ring.specs.Ring.{TheRing, queue_of, RingPuts, RingTakes}
use Rattle.fl_ring.specs.Duo.{TheHalf, TheDuo, DuoPuts, DuoTakes, DuoLooks, CountsAreNear, MayForget, acknowledgement, side_of, across, got, knowing}
use Rattle.fl_ring.specs.Duo.{with_waiting}
use Rattle.fl_ring.specs.SharedSeats.{Sender, Receiver, SenderPuts, ReceiverTakes}
use Rattle.fl_ring.specs.SharedSides.{TheSide, SharedPuts, SharedTakes}
use Rattle.fl_ring.specs.declared.one_duo.WhichSide.{WhichSide}

-- ---- a ring with one owner is a queue that counts

-- over steps in a row it loses no call's fragment, makes none up, and keeps their order
abbrev pub RingLaw : Type 0
RingLaw = (s t : TheRing) (looks : List Look) → Looks (LinkStep RingPuts RingTakes) s looks t → QueueConserves (queue_of s) looks (queue_of t)

-- ---- what a side of a ring of two directions writes and reads

-- the fragment that a step wrote, if it did: a `tell` that wrote has written one that only acknowledges
abbrev pub wrote_in : Look → List Frag
wrote_in (placed frag) = frag ∷ []
wrote_in told = acknowledgement ∷ []
wrote_in look = []

-- the fragment that a step took, if it did
abbrev pub read_in : Look → List Frag
read_in (found frag) = frag ∷ []
read_in found_ack = acknowledgement ∷ []
read_in look = []

-- the fragments that a stretch of steps wrote, and those that it took, acknowledgements among them
abbrev pub writes_of : List Look → List Frag
writes_of looks = flat_map wrote_in looks

abbrev pub reads_of : List Look → List Frag
reads_of looks = flat_map read_in looks

-- ---- a ring of two directions with one owner

-- Looks alone, forgotten, leave the ring as it was.
abbrev pub ForgetsLooks : Type 0
ForgetsLooks = (which : WhichSide) (s t : TheDuo) (looks : List Look) → CountsAreNear s.size (side_of which s) (across which s)
    → Looks (DuoLooks which) s looks t → MayForget t.size (side_of which t) (side_of which s).known × (knowing which t (side_of which s).known ≡ s)

-- What steps at a side do to it, from s to t, and to the side across, from p to q: what was written waits there, what was
-- taken waited here, each in order; nothing else of the side across changes.
pub record HalfConserves (s p : TheHalf) (looks : List Look) (t q : TheHalf) : Type 0 where
  pub sent : t.sent ≡ s.sent + length (writes_of looks)
  pub read : got t ≡ got s + length (reads_of looks)
  pub wrote : map bare q.waiting ≡ map bare p.waiting ++ map bare (writes_of looks)
  pub put : bare_calls q.waiting ≡ bare_calls p.waiting ++ map bare (puts_of looks)
  pub took : bare_calls s.waiting ≡ takes_of looks ++ bare_calls t.waiting
  pub elsewhere : q ≡ with_waiting p q.waiting

-- of the whole ring, where the side of this name steps: its number of slots stays
pub record DuoConserves (which : WhichSide) (s : TheDuo) (looks : List Look) (t : TheDuo) : Type 0 where
  pub same_size : t.size ≡ s.size
  pub sides : HalfConserves (side_of which s) (across which s) looks (side_of which t) (across which t)

-- steps of either kind in a row at one side do that
abbrev pub DuoLaw : Type 0
DuoLaw = (which : WhichSide) (s t : TheDuo) (looks : List Look) → Looks (LinkStep (DuoPuts which) (DuoTakes which)) s looks t → DuoConserves which s looks t

-- ---- sides of rings over shared words

-- of the side that puts: what it sent grew by what was placed
pub record SenderConserves (s : Sender) (looks : List Look) (t : Sender) : Type 0 where
  pub same_ring : t.ring ≡ s.ring
  pub same_size : t.size ≡ s.size
  pub sent : map bare t.sent ≡ map bare s.sent ++ map bare (puts_of looks)
  pub put : bare_calls t.sent ≡ bare_calls s.sent ++ map bare (puts_of looks)

-- puts in a row do that, whatever each of them came to
abbrev pub SenderLaw : Type 0
SenderLaw = (s t : Sender) (looks : List Look) → Looks SenderPuts s looks t → SenderConserves s looks t

-- of the side that takes: what it got grew by what was found
pub record ReceiverConserves (s : Receiver) (looks : List Look) (t : Receiver) : Type 0 where
  pub same_ring : t.ring ≡ s.ring
  pub same_size : t.size ≡ s.size
  pub read : length t.got ≡ length s.got + length (reads_of looks)
  pub took : bare_calls t.got ≡ bare_calls s.got ++ takes_of looks

-- looks, takes and tells in a row do that, whatever each of them came to
abbrev pub ReceiverLaw : Type 0
ReceiverLaw = (s t : Receiver) (looks : List Look) → Looks ReceiverTakes s looks t → ReceiverConserves s looks t

-- of a side of a ring of two directions: what it sent grew by what was placed and by its acknowledgements, what it got by
-- what was found
pub record SideConserves (s : TheSide) (looks : List Look) (t : TheSide) : Type 0 where
  pub same_ring : t.ring ≡ s.ring
  pub same_holder : t.holder ≡ s.holder
  pub same_size : t.size ≡ s.size
  pub sent : map bare t.sent ≡ map bare s.sent ++ map bare (writes_of looks)
  pub put : bare_calls t.sent ≡ bare_calls s.sent ++ map bare (puts_of looks)
  pub read : length t.got ≡ length s.got + length (reads_of looks)
  pub took : bare_calls t.got ≡ bare_calls s.got ++ takes_of looks

-- steps of either kind in a row do that, whatever each of them came to
abbrev pub SideLaw : Type 0
SideLaw = (s t : TheSide) (looks : List Look) → Looks (LinkStep SharedPuts SharedTakes) s looks t → SideConserves s looks t
