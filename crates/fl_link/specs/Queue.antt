-- The bounded queue: what a link is to the layers above.
use Rattle.std.specs.Prelude.{ℕ, ◌≡◌, ◌+◌, ◌<◌, ◌≤◌, ◌^◌, ◌&&◌, nat_lt, Bool, IsTrue, true, false, if◌then◌else◌, List, [], ◌∷◌, ◌++◌, length}
use Rattle.std.specs.Int.{is_power_of_two}
use Rattle.fl_base.specs.declared.fragment.Frag.{Frag}
use Rattle.fl_base.specs.Control.{is_ack_only, bare, stamped}
use Rattle.fl_link.specs.Cursor.{epoch_at}
use Rattle.fl_link.specs.Looks.{Look, placed, no_room, spent, saw, saw_ack, found, found_ack, missed, told, kept}

-- what contracts see of a queue
pub record TheQueue : Type 0 where
  -- the fragments that stand in it, the first put first
  pub items : List Frag
  -- how many were taken and not told; always 0 where a take frees the slot
  pub unacknowledged : ℕ
  -- how many were ever put; always 0 where a take frees the slot, since such a queue doesn't count
  pub sent : ℕ
  pub capacity : ℕ
  -- whether a slot is free once its fragment is told (else once it is taken)
  pub acked : Bool

-- slots in use
abbrev pub used : TheQueue → ℕ
used s = length s.items + s.unacknowledged

-- there is room for one more fragment
abbrev pub HasRoom : TheQueue → Type 0
HasRoom s = (s.sent < 2 ^ 62) × (used s < s.capacity)

-- whether there is room
abbrev pub has_room : TheQueue → Bool
has_room s = nat_lt s.sent (2 ^ 62) && nat_lt (used s) s.capacity

-- every slot is in use
abbrev pub IsFull : TheQueue → Type 0
IsFull s = (s.sent < 2 ^ 62) × (used s ≡ s.capacity)

-- it has carried as many fragments as it ever will
abbrev pub IsSpent : TheQueue → Type 0
IsSpent s = s.sent ≡ 2 ^ 62

-- the epoch of the fragment that is put next: always 1 where a take frees the slot
abbrev pub next_epoch_of : TheQueue → ℕ
next_epoch_of s = if s.acked then epoch_at s.capacity s.sent else 1

-- the queue with this fragment put last, in a round of its epoch and telling nothing
abbrev pub with_put : TheQueue → Frag → TheQueue
with_put s frag = record {
  items = s.items ++ stamped frag (next_epoch_of s) 0 ∷ [];
  unacknowledged = s.unacknowledged;
  sent = (if s.acked then s.sent + 1 else s.sent);
  capacity = s.capacity;
  acked = s.acked;
}

-- the queue with its first fragment taken, where these are the others
abbrev pub with_taken : TheQueue → List Frag → TheQueue
with_taken s rest = record {
  items = rest;
  unacknowledged = (if s.acked then s.unacknowledged + 1 else s.unacknowledged);
  sent = s.sent;
  capacity = s.capacity;
  acked = s.acked;
}

-- the queue with all that was taken told
abbrev pub with_told : TheQueue → TheQueue
with_told s = record { items = s.items; unacknowledged = 0; sent = s.sent; capacity = s.capacity; acked = s.acked }

-- the label of a look at this fragment
abbrev pub look_at : Frag → Look
look_at frag = if is_ack_only frag then saw_ack else saw (bare frag)

-- the label of a look at the first fragment of a list
abbrev pub front_of : List Frag → Look
front_of [] = missed
front_of (frag ∷ rest) = look_at frag

-- this fragment stands first
abbrev pub BeginsWith : List Frag → Frag → Type 0
BeginsWith items frag = (rest : List Frag) × (items ≡ frag ∷ rest)

-- how many slots a queue may have: any number where a take frees, else a power of two
abbrev pub MayHave : Bool → ℕ → Type 0
MayHave false n = (0 < n) × (n ≤ 1024)
MayHave true n = (1 < n) × (n ≤ 1024) × IsTrue (is_power_of_two n)

-- there was room, and this fragment stands last now
abbrev pub QueueGains : TheQueue → Frag → TheQueue → Type 0
QueueGains s frag t = HasRoom s × (t ≡ with_put s frag)

-- one put, by what it came to
abbrev pub QueuePuts : TheQueue → Look → TheQueue → Type 0
QueuePuts s (placed frag) t = (is_ack_only frag ≡ false) × QueueGains s frag t
QueuePuts s no_room t = IsFull s × (t ≡ s)
QueuePuts s spent t = IsSpent s × (t ≡ s)
QueuePuts s _ t = ⊥

-- the first fragment is taken
abbrev pub LosesFirst : TheQueue → TheQueue → Type 0
LosesFirst s t = (first : Frag) × (rest : List Frag) × (s.items ≡ first ∷ rest) × (t ≡ with_taken s rest)

-- one look, take or tell, by what it came to
abbrev pub QueueTakes : TheQueue → Look → TheQueue → Type 0
QueueTakes s (saw frag) t = (front_of s.items ≡ saw frag) × (t ≡ s)
QueueTakes s saw_ack t = (front_of s.items ≡ saw_ack) × (t ≡ s)
QueueTakes s (found frag) t = (front_of s.items ≡ saw frag) × LosesFirst s t
QueueTakes s found_ack t = (front_of s.items ≡ saw_ack) × LosesFirst s t
QueueTakes s missed t = (s.items ≡ []) × (t ≡ s)
QueueTakes s told t = (s.acked ≡ true) × (t ≡ with_told s)
QueueTakes s kept t = (s.acked ≡ false) × (t ≡ s)
QueueTakes s _ t = ⊥
