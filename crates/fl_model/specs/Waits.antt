-- A dispatcher's waitset: its channels, one an end, in three lists. A channel that is in none isn't
-- registered.
use Rattle.std.specs.Prelude.{ℕ, ◌+◌, nat_le, nat_lt, Bool, if◌then◌else◌, List, [], ◌∷◌, ◌++◌, length, slice_get}
use Rattle.std.specs.Prelude.{Option, Some, None}
use Rattle.fl_base.specs.declared.identity.EndId.{EndId}
use Rattle.fl_lists.specs.declared.place.Place.{Place}
use Rattle.fl_lists.specs.declared.place.Place.TheVariants.{Idle, Polled, Pending}
use Rattle.fl_lists.specs.ThreeLists.{ThreeLists, empty, pushed, popped, unlinked}
use Rattle.fl_waitset.specs.Waiting.{triggered}
use Rattle.fl_model.specs.Ends.{Queue}

-- a waitset, and the ends whose channels it has: channel c is that of the end at place c
pub record Dispatcher : Type 0 where
  -- its channels: idle, polled, pending
  pub lists : ThreeLists
  -- the end of each channel
  pub ends : List EndId

-- how many ends a dispatcher may have
abbrev pub most_ends : ℕ
most_ends = 1024

abbrev pub fresh_dispatcher : Dispatcher
fresh_dispatcher = record { lists = empty most_ends; ends = [] }

-- it has so many places left for ends
abbrev pub has_places : ℕ → Dispatcher → Bool
has_places n d = nat_le (length d.ends + n) most_ends

-- one more end, whose channel isn't registered yet
abbrev pub with_end : EndId → Dispatcher → Dispatcher
with_end e d = record d { ends = d.ends ++ e ∷ [] }

-- where a channel waits, by the queue of its end: a ring is polled; a queue's channel is pending where a
-- fragment stands, and else idle
abbrev pub waits_in : Option Queue → Place
waits_in None = Polled
waits_in (Some q) = if nat_lt 0 (length q.labels) then Pending else Idle

-- a channel that is in no list comes to the back of one
abbrev pub registers : ℕ → Place → Dispatcher → Dispatcher
registers c to d = record d { lists = pushed d.lists c to }

-- the channel is in none of the lists any more
abbrev pub deregisters : ℕ → Dispatcher → Dispatcher
deregisters c d = record d { lists = unlinked d.lists c }

-- a fragment came for a channel: from idle it goes to the back of pending; elsewhere it stays
abbrev pub triggers : ℕ → Dispatcher → Dispatcher
triggers c d = record d { lists = triggered d.lists c }

-- the first channel of a list, c, goes to the back of one
abbrev pub puts_off : Place → ℕ → Place → Dispatcher → Dispatcher
puts_off from c to d = record d { lists = pushed (popped d.lists from) c to }

-- whose turn it is
pub data Due : Type 0 where
  -- the first pending channel's, which is given a fragment
  pending : ℕ → Due
  -- else the first polled one's, which is examined
  polled : ℕ → Due
  no_one : Due

-- by the pending channels and the polled ones, each first to last
abbrev pub first_due : List ℕ → List ℕ → Due
first_due (c ∷ cs) polled_ones = pending c
first_due [] (c ∷ cs) = polled c
first_due [] [] = no_one

abbrev pub due : Dispatcher → Due
due d = first_due d.lists.pending d.lists.polled

-- the end whose turn it is
abbrev pub end_due : Dispatcher → Due → Option EndId
end_due x (pending c) = slice_get x.ends c
end_due x (polled c) = slice_get x.ends c
end_due x no_one = None
