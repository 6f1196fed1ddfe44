-- What alone a turn wants memory for: it handles a call. The channel that the dispatcher looks at is pending, and a fragment that may stand
-- first where its end takes from makes a call whole there. Running cores' turns stop for the same, by the same words (`fl_core_run`). Public
-- promises rest on this file.
use Rattle.std.specs.Prelude.{ℕ, ◌≡◌, ◌∷◌, [], ◌++◌, slice_get, Some, Ok}
use Rattle.fl_base.specs.declared.fragment.Frag.{Frag}
use Rattle.fl_base.specs.declared.identity.ChanId.{ChanId}
use Rattle.fl_value_data.specs.Value.{TheCall}
use Rattle.fl_waitset.specs.declared.waitset.Pick.TheVariants.{Pending}
use Rattle.fl_waitset.specs.Waiting.{next_pick}
use Rattle.fl_link.specs.Looks.{Look, saw}
use Rattle.fl_link.specs.Queue.{TheQueue, QueueTakes}
use Rattle.fl_ring.specs.Duo.{TheDuo}
use Rattle.fl_ring.specs.Side.{SideTakes}
use Rattle.fl_ring.specs.declared.duo_side.DuoSide.{DuoSide}
use Rattle.fl_endpoint.specs.View.{TheEnd}
use Rattle.fl_endpoint.specs.Events.{IsOpen, AreCall}
use Rattle.fl_core.specs.BoardView.{TheDispatcher, TheBoard}
use Rattle.fl_core.specs.BoardEvents.{Holds}
use Rattle.fl_core.specs.View.{TheCore, arrivals_of}
use Rattle.fl_world_refines.specs.Lending.{IsLent}

-- the end takes fragments, and one that may stand first on its side makes a call whole
abbrev pub MakesWhole : {T : Type 0} → (T → Look → T → Type 0) → T → TheEnd → Type 0
MakesWhole {T} takes p s = IsOpen s × ((frag : Frag) × (q : T) × takes p (saw frag) q × ((c : TheCall) × AreCall s (s.parts ++ frag ∷ []) c))

-- the channel at which the dispatcher looks is pending, so that its end is given a fragment
pub record LooksAtPending (b : TheBoard) (d : ℕ) : Type 0 where
  pub dispatcher : TheDispatcher
  pub dispatcher_is : slice_get b.dispatchers d ≡ Some dispatcher
  pub channel : ChanId
  pub picks : next_pick dispatcher.lists ≡ Ok (Pending channel)

-- dispatcher d looks at a pending channel, and what stands first makes a call whole at the end at place e, which callers know to be due
pub record HandlesCall {T : Type 0} (takes : T → Look → T → Type 0) (d e : ℕ) (b : TheBoard) (p : T) : Type 0 where
  pub pending : LooksAtPending b d
  pub whole : Holds b e (λ seat. MakesWhole takes p seat.end)

-- over side m of a ring
pub record HandlesOnRing (m d e : ℕ) (b : TheBoard) (r : TheDuo) : Type 0 where
  pub side : DuoSide
  pub lent : IsLent m r side
  pub handles : HandlesCall SideTakes d e b side

-- over the end's own arrival queue, which its core keeps
pub record HandlesArrival (d e : ℕ) (k : TheCore) : Type 0 where
  pub place : ℕ
  pub place_is : arrivals_of k e ≡ Some place
  pub queue : TheQueue
  pub queue_is : slice_get k.arrivals place ≡ Some queue
  pub handles : HandlesCall QueueTakes d e k.board queue
