-- A ring with one owner: a queue that counts, in words.
use Rattle.std.specs.Prelude.{ℕ, ◌≡◌, ◌+◌, ◌*◌, ◌-◌, ◌≤◌, ◌^◌, true, List, [], ◌++◌, length, slice_index}
use Rattle.fl_base.specs.declared.fragment.Frag.{Frag}
use Rattle.fl_link.specs.Looks.{Look, placed, found, found_ack, told}
use Rattle.fl_link.specs.Queue.{TheQueue, QueueGains, QueuePuts, QueueTakes}
use Rattle.fl_ring.specs.Way.{Marked, standing, IsClear, WayStands}

-- what contracts see of a ring
pub record TheRing : Type 0 where
  -- the fragments that were taken and not told
  pub read : List Frag
  -- the fragments that were put and not taken
  pub items : List Frag
  -- how many were taken and told
  pub told : ℕ
  pub capacity : ℕ

-- the ring as a queue
abbrev pub queue_of : TheRing → TheQueue
queue_of r = record { items = r.items; unacknowledged = length r.read; sent = r.told + length r.read + length r.items; capacity = r.capacity; acked = true }

-- what a step does to the fragments that stand in the slots from the number told on
abbrev pub ReadsOn : TheRing → Look → TheRing → Type 0
ReadsOn s told t = (t.read ≡ []) × (t.told ≡ s.told + length s.read)
ReadsOn s (found frag) t = (t.read ++ t.items ≡ s.read ++ s.items) × (t.told ≡ s.told)
ReadsOn s found_ack t = (t.read ++ t.items ≡ s.read ++ s.items) × (t.told ≡ s.told)
ReadsOn s _ t = (t.read ≡ s.read) × (t.told ≡ s.told)

-- there was room, and this fragment is put; nothing is read
abbrev pub RingGains : TheRing → Frag → TheRing → Type 0
RingGains s frag t = QueueGains (queue_of s) frag (queue_of t) × ReadsOn s (placed frag) t

-- one put: the queue's, and nothing is read
abbrev pub RingPuts : TheRing → Look → TheRing → Type 0
RingPuts s look t = QueuePuts (queue_of s) look (queue_of t) × ReadsOn s look t

-- one look, take or tell: the queue's
abbrev pub RingTakes : TheRing → Look → TheRing → Type 0
RingTakes s look t = QueueTakes (queue_of s) look (queue_of t) × ReadsOn s look t

-- The words of a ring: a way at word 0, and after it the number told.
pub record RingStands (words : List ℕ) (r : TheRing) : Type 0 where
  pub wide : length words ≡ 8 * r.capacity + 1
  pub way : WayStands 0 r.capacity words r.told (r.read ++ r.items)
  pub told_is : slice_index words (8 * r.capacity) ≡ r.told

-- a ring's words, with the numbers that the code keeps beside them: how many were put and taken
pub record IsRing (words : List ℕ) (n sent taken : ℕ) : Type 0 where
  pub few : n ≤ 1024
  pub wide : length words ≡ 8 * n + 1
  pub told_taken : slice_index words (8 * n) ≤ taken
  pub taken_sent : taken ≤ sent
  pub most : sent ≤ 2 ^ 62
  pub marked : Marked 0 n words (slice_index words (8 * n)) sent
  pub clear : IsClear 0 n words sent

-- what those words and numbers show
abbrev pub ring_of : List ℕ → ℕ → ℕ → ℕ → TheRing
ring_of words n sent taken = record {
  read = standing 0 n words (slice_index words (8 * n)) (taken - slice_index words (8 * n));
  items = standing 0 n words taken (sent - taken);
  told = slice_index words (8 * n);
  capacity = n;
}
