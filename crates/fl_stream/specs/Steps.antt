-- What one step does to a side of a stream, by what it came to.
use Rattle.std.specs.Prelude.{ℕ, ◌≡◌, ◌+◌, ◌≤◌, ◌<◌, Bool, nat_lt, true, List, [], ◌∷◌, ◌++◌, length, take, drop}
use Rattle.fl_base.specs.declared.fragment.Frag.{Frag}
use Rattle.fl_base.specs.Control.{bare}
use Rattle.fl_base.specs.Prefix.{IsPrefix}
use Rattle.fl_link.specs.Looks.{Look, placed, no_room, saw, found, missed, kept}
use Rattle.fl_stream.specs.Plain.{is_plain, all_plain}
use Rattle.fl_stream.specs.Sides.{TheSender, TheReceiver}

-- ---- the side that puts

-- These fragments were put, in this order. Of the slots known to be free none is lost but for those filled.
pub record Sends (s : TheSender) (frags : List Frag) (t : TheSender) : Type 0 where
  pub stream : t.stream ≡ s.stream
  pub size : t.size ≡ s.size
  pub sent : t.sent ≡ s.sent ++ frags
  pub plain : all_plain frags ≡ true
  pub free : s.free ≤ t.free + length frags

-- Nothing was put: fewer than so many slots are known to be free, also after a look at what the other side took.
pub record LacksRoom (need : ℕ) (s t : TheSender) : Type 0 where
  pub stream : t.stream ≡ s.stream
  pub size : t.size ≡ s.size
  pub sent : t.sent ≡ s.sent
  pub before : s.free ≤ t.free
  pub free : t.free < need

-- one put, by what it came to; a stream is never spent
abbrev pub StreamPuts : TheSender → Look → TheSender → Type 0
StreamPuts s (placed frag) t = Sends s (frag ∷ []) t
StreamPuts s no_room t = LacksRoom 1 s t
StreamPuts s _ t = ⊥

-- whether it knows of a free slot
abbrev pub sender_has_room : TheSender → Bool
sender_has_room s = nat_lt 0 s.free

-- ---- the side that takes

-- These fragments were taken, in this order: those that were seen to wait come first.
pub record Receives (s : TheReceiver) (frags : List Frag) (t : TheReceiver) : Type 0 where
  pub stream : t.stream ≡ s.stream
  pub size : t.size ≡ s.size
  pub got : t.got ≡ s.got ++ frags
  pub plain : all_plain frags ≡ true
  pub seen : IsPrefix s.seen (frags ++ t.seen)

-- Nothing was taken: of what waits the side knows at least as much as before.
pub record Sees (s t : TheReceiver) : Type 0 where
  pub stream : t.stream ≡ s.stream
  pub size : t.size ≡ s.size
  pub got : t.got ≡ s.got
  pub seen : IsPrefix s.seen t.seen

-- the label of a look at the first of these
abbrev pub front_of : List Frag → Look
front_of [] = missed
front_of (frag ∷ rest) = saw frag

-- One look, take or tell, by what it came to. Nothing that waits only acknowledges, and a tell has nothing to tell: a
-- slot is free once its fragment is taken.
abbrev pub StreamTakes : TheReceiver → Look → TheReceiver → Type 0
StreamTakes s (saw frag) t = Sees s t × (front_of t.seen ≡ saw frag) × (is_plain frag ≡ true)
StreamTakes s (found frag) t = Receives s (frag ∷ []) t
StreamTakes s missed t = Sees s t × (t.seen ≡ [])
StreamTakes s kept t = t ≡ s
StreamTakes s _ t = ⊥

-- So many fragments were taken into the places of a list that was `before` and is `after`, its first places. There
-- are fewer than it has places only where no more is seen to wait.
pub record Fills (s : TheReceiver) (n : ℕ) (before after : List Frag) (t : TheReceiver) : Type 0 where
  pub within : n ≤ length before
  pub receives : Receives s (take n after) t
  pub others : drop n after ≡ drop n before
  pub all : n < length before → t.seen ≡ []

-- ---- both sides in one hand

-- What was put is what was taken and what is seen to wait, and every other slot is known to be free.
pub record Settled (tx : TheSender) (rx : TheReceiver) : Type 0 where
  pub all : tx.sent ≡ rx.got ++ rx.seen
  pub few : length rx.seen ≤ tx.size
  pub free : tx.size ≤ tx.free + length rx.seen

-- ---- two streams as one side

-- the side that puts makes the step, and the other stays as it is
abbrev pub SidePuts : TheSender → TheReceiver → Look → TheSender → TheReceiver → Type 0
SidePuts s p look t q = StreamPuts s look t × (q ≡ p)

-- the side that takes does
abbrev pub SideTakes : TheSender → TheReceiver → Look → TheSender → TheReceiver → Type 0
SideTakes s p look t q = StreamTakes p look q × (t ≡ s)
