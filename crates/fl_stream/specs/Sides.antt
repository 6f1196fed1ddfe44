-- What callers see of the two sides of a stream.
use Rattle.std.specs.Prelude.{ℕ, ◌≡◌, ◌+◌, ◌≤◌, ◌<◌, List, [], ◌++◌, length}
use denote.RawPtr.{Ptr}
use Rattle.std.specs.Global.{Global}
use Rattle.rtrb.specs.Shared.{Names}
use Rattle.rtrb.specs.declared.producer.Producer.{Producer}
use Rattle.rtrb.specs.declared.consumer.Consumer.{Consumer}
use Rattle.rtrb.specs.Ring as ring
use Rattle.fl_base.specs.declared.fragment.Frag.{Frag}

-- which stream: the memory that its two sides share, and the names by which they account for it
pub record StreamId : Type 0 where
  pub words : Ptr
  pub slots : Ptr
  pub names : Names
  pub heap : Global

-- the side that puts
pub record TheSender : Type 0 where
  pub stream : StreamId
  pub size : ℕ
  -- the fragments that it has put
  pub sent : List Frag
  -- how many slots it knows to be free
  pub free : ℕ

-- the side that takes
pub record TheReceiver : Type 0 where
  pub stream : StreamId
  pub size : ℕ
  -- the fragments that it has taken
  pub got : List Frag
  -- the fragments that it has seen to wait, the first put first: those that it takes next
  pub seen : List Frag

-- the sides of a new stream
abbrev pub new_sender : StreamId → ℕ → TheSender
new_sender stream size = record { stream = stream; size = size; sent = []; free = size }

abbrev pub new_receiver : StreamId → ℕ → TheReceiver
new_receiver stream size = record { stream = stream; size = size; got = []; seen = [] }

-- how many slots a stream may have
abbrev pub MayHaveSlots : ℕ → Type 0
MayHaveSlots n = (0 < n) × (n ≤ 1024)

-- ---- as the code holds them

module _ {P : Type 0} where
  abbrev pub sender_of : Producer Frag Global P → TheSender
  sender_of p = record {
    stream = record { words = p.end.words; slots = p.end.slots; names = p.end.names; heap = p.end.heap };
    size = p.capacity;
    sent = ring.sent p;
    free = ring.known_free p;
  }

  abbrev pub receiver_of : Consumer Frag Global P → TheReceiver
  receiver_of c = record {
    stream = record { words = c.end.words; slots = c.end.slots; names = c.end.names; heap = c.end.heap };
    size = c.capacity;
    got = ring.received c;
    seen = ring.known_items c;
  }
