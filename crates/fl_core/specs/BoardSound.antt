-- What is known of a board at any time.
use Rattle.std.specs.Prelude.{◌≡◌, ◌≤◌, ℕ, true, List, length, slice_get, Some}
use Rattle.fl_lists.specs.declared.place.Place.{Place}
use Rattle.fl_lists.specs.declared.place.Place.TheVariants.{Idle, Polled}
use Rattle.fl_lists.specs.ThreeLists.{list_at, is_in, IsApart}
use Rattle.fl_endpoint.specs.Events.{IsReady}
use Rattle.fl_core.specs.declared.kind.ChannelKind.{ChannelKind}
use Rattle.fl_core.specs.declared.kind.ChannelKind.TheVariants.{Queue, Ring}
use Rattle.fl_core.specs.BoardView.{TheDispatcher, TheEndAtChannel, TheBoard}

-- the end at place e has a channel at one of these dispatchers, and that channel leads back to it
pub record IsSeated (dispatchers : List TheDispatcher) (e : ℕ) (s : TheEndAtChannel) : Type 0 where
  pub dispatcher : TheDispatcher
  pub dispatcher_is : slice_get dispatchers s.dispatcher ≡ Some dispatcher
  pub leads_back : slice_get dispatcher.ends s.channel ≡ Some e

-- the end at place e has channel c at dispatcher n
pub record HasChannel (seats : List TheEndAtChannel) (n c e : ℕ) : Type 0 where
  pub seat : TheEndAtChannel
  pub seat_is : slice_get seats e ≡ Some seat
  pub dispatcher_is : seat.dispatcher ≡ n
  pub channel_is : seat.channel ≡ c

-- a ring's channel is never idle, and a queue's is never polled
abbrev pub MayWaitIn : ChannelKind → Place → Type 0
MayWaitIn Ring Idle = ⊥
MayWaitIn Queue Polled = ⊥
MayWaitIn kind place = Unit {0}

-- channel c, in this list, is that of an end which is bound and never failed
pub record MayTurn (seats : List TheEndAtChannel) (ends : List ℕ) (list : Place) (c : ℕ) : Type 0 where
  pub place : ℕ
  pub place_is : slice_get ends c ≡ Some place
  pub seat : TheEndAtChannel
  pub seat_is : slice_get seats place ≡ Some seat
  pub ready : IsReady seat.end
  pub waits : MayWaitIn seat.kind list

pub record IsDispatcher (seats : List TheEndAtChannel) (n : ℕ) (d : TheDispatcher) : Type 0 where
  pub size : d.lists.size ≡ 1024
  pub few : length d.ends ≤ 1024
  -- no channel is in two of the lists, or twice in one
  pub apart : IsApart d.lists
  pub ends : (c e : ℕ) → slice_get d.ends c ≡ Some e → HasChannel seats n c e
  pub registered : (list : Place) (c : ℕ) → is_in c (list_at d.lists list) ≡ true → MayTurn seats d.ends list c

-- each end is where its dispatcher's channel leads; a channel is registered only where its end is bound and never failed
pub record IsBoard (b : TheBoard) : Type 0 where
  pub seats : (e : ℕ) (s : TheEndAtChannel) → slice_get b.seats e ≡ Some s → IsSeated b.dispatchers e s
  pub dispatchers : (n : ℕ) (d : TheDispatcher) → slice_get b.dispatchers n ≡ Some d → IsDispatcher b.seats n d
