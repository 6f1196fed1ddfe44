-- A board, as contracts see it: one core's dispatchers and ends, each by its place. What happened to it is not kept.
use Rattle.std.specs.Prelude.{ℕ, List, [], ◌∷◌, ◌++◌, length, slice_get, slice_set, Option, Some, None, Result, Ok, Err}
use Rattle.fl_lists.specs.ThreeLists.{ThreeLists, empty}
use Rattle.fl_waitset.specs.declared.fault.WaitFault.{WaitFault}
use Rattle.fl_waitset.specs.declared.waitset.Pick.{Pick}
use Rattle.fl_waitset.specs.declared.waitset.Pick.TheVariants.{Pending, Polled}
use Rattle.fl_waitset.specs.Waiting.{next_pick}
use Rattle.fl_endpoint.specs.View.{TheEnd}
use Rattle.fl_core.specs.declared.kind.ChannelKind.{ChannelKind}

-- a dispatcher: its waitset's three lists of channels, and the end of each of its channels
pub record TheDispatcher : Type 0 where
  pub lists : ThreeLists
  pub ends : List ℕ

-- where an end sits: its dispatcher, its channel there, and how fragments come to it
pub record TheEndAtChannel : Type 0 where
  pub end : TheEnd
  pub dispatcher : ℕ
  pub channel : ℕ
  pub kind : ChannelKind

-- dispatchers and ends are named by their places here
pub record TheBoard : Type 0 where
  pub dispatchers : List TheDispatcher
  pub seats : List TheEndAtChannel

-- ---- which end is due

-- the channel that was picked
abbrev pub channel_of : Pick → ℕ
channel_of (Pending c) = c.0
channel_of (Polled c) = c.0

-- the end of what was picked, if something was
abbrev pub end_picked : List ℕ → Result Pick WaitFault → Option ℕ
end_picked ends (Ok pick) = slice_get ends (channel_of pick)
end_picked ends (Err fault) = None

abbrev pub due_in : Option TheDispatcher → Option ℕ
due_in None = None
due_in (Some d) = end_picked d.ends (next_pick d.lists)

-- the end at which the next turn of dispatcher n looks: that of the first pending channel, else of the first polled one
abbrev pub due : TheBoard → ℕ → Option ℕ
due b n = due_in (slice_get b.dispatchers n)

-- ---- what events make of a board

-- the board with other lists at dispatcher n, which is d
abbrev pub with_lists : TheBoard → ℕ → TheDispatcher → ThreeLists → TheBoard
with_lists b n d w = record {
  dispatchers = slice_set b.dispatchers n (record { lists = w; ends = d.ends });
  seats = b.seats;
}

-- the board with another end at place e, where s sits
abbrev pub with_end : TheBoard → ℕ → TheEndAtChannel → TheEnd → TheBoard
with_end b e s t = record {
  dispatchers = b.dispatchers;
  seats = slice_set b.seats e (record { end = t; dispatcher = s.dispatcher; channel = s.channel; kind = s.kind });
}

-- a dispatcher without ends; its waitset has a place for each of the 1,024 that it may get
abbrev pub new_dispatcher : TheDispatcher
new_dispatcher = record { lists = empty 1024; ends = [] }

abbrev pub with_dispatcher : TheBoard → TheBoard
with_dispatcher b = record { dispatchers = b.dispatchers ++ new_dispatcher ∷ []; seats = b.seats }

-- the board with one end more, at dispatcher n, which is d; its channel isn't registered
abbrev pub with_new_end : TheBoard → ℕ → TheDispatcher → TheEnd → ChannelKind → TheBoard
with_new_end b n d s kind = record {
  dispatchers = slice_set b.dispatchers n (record { lists = d.lists; ends = d.ends ++ length b.seats ∷ [] });
  seats = b.seats ++ record { end = s; dispatcher = n; channel = length d.ends; kind = kind } ∷ [];
}
