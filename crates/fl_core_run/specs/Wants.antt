-- What in a turn wants memory: the event would do something there, and no refusal, and no answer that nothing was done, is due in its place. A turn stops
-- for nothing else. Of a monitors' message `HearsFragLast` of the core says it: it would be heard, and something said then.
use Rattle.std.specs.Prelude.{ℕ, ◌≡◌, true, ◌∷◌, [], ◌++◌, slice_get, Option, Some, Ok}
use Rattle.fl_base.specs.declared.fragment.Frag.{Frag}
use Rattle.fl_base.specs.declared.identity.EndId.{EndId}
use Rattle.fl_base.specs.declared.identity.ChanId.{ChanId}
use Rattle.fl_value_data.specs.Fits.{fits_of}
use Rattle.fl_value_data.specs.Value.{TheCall, call_of}
use Rattle.fl_waitset.specs.declared.waitset.Pick.TheVariants.{Pending}
use Rattle.fl_waitset.specs.Waiting.{next_pick}
use Rattle.fl_link.specs.Looks.{Look, saw}
use Rattle.fl_link.specs.Queue.{TheQueue, QueueTakes}
use Rattle.fl_endpoint.specs.View.{TheEnd, interface_in}
use Rattle.fl_endpoint.specs.Events.{IsReady, IsOpen, AreCall}
use Rattle.fl_core.specs.BoardView.{TheDispatcher, TheBoard}
use Rattle.fl_core.specs.BoardEvents.{Holds}
use Rattle.fl_core.specs.declared.wiring.Inlet.{Inlet}
use Rattle.fl_core.specs.declared.wiring.Inlet.TheVariants as inlet
use Rattle.fl_core.specs.View.{TheCore, place_of, arrivals_of}
use Rattle.fl_core.specs.Making.{MayOpen}
use Rattle.fl_core.specs.declared.core_job.OpenRequest.{OpenRequest}
use Rattle.fl_core.specs.declared.core_job.CoreJob.{CoreJob}
use Rattle.fl_core.specs.declared.core_job.CoreJob.TheVariants as job
use Rattle.fl_core_run.specs.declared.lent.LentTakeEnd.{LentTakeEnd}
use Rattle.fl_core_run.specs.Run.{SideRelations, TheRun}
use Rattle.fl_core_run.specs.Steps.{may_ask}

-- ---- for an end: its next job

-- the end would accept the call: it fits, the end is ready, and no call is in transmission
abbrev pub Accepts : TheEnd → TheCall → Type 0
Accepts s c = (fits_of (interface_in s) c ≡ true) × IsReady s × (s.outgoing.unwritten ≡ [])

-- so does the end of this name, which is at the core
pub record AcceptsAt (k : TheCore) (name : EndId) (c : TheCall) : Type 0 where
  pub place : ℕ
  pub place_is : place_of k name ≡ Some place
  pub accepts : Holds k.board place (λ seat. Accepts seat.end c)

-- a circuit can be asked for, and would be begun
abbrev pub BeginsCircuit : {S : Type 0} → TheRun S → OpenRequest → Type 0
BeginsCircuit s request = (may_ask s request ≡ true) × MayOpen request.dispatcher request.link request.opening s.core

-- by the job; a rule takes no memory
abbrev pub DoesJob : {S : Type 0} → TheRun S → EndId → Option CoreJob → Type 0
DoesJob s name (Some (job.Open request)) = BeginsCircuit s request
DoesJob s name (Some (job.Call e call)) = AcceptsAt s.core name (call_of call)
DoesJob s name next = ⊥

-- ---- for a dispatcher: a call is handled

-- the end takes fragments, and one that may stand first on its side makes a call whole
abbrev pub MakesWhole : {T : Type 0} → (T → Look → T → Type 0) → T → TheEnd → Type 0
MakesWhole {T} takes p s = IsOpen s × ((frag : Frag) × (q : T) × takes p (saw frag) q × ((c : TheCall) × AreCall s (s.parts ++ frag ∷ []) c))

-- so it is at the end at place e, over where that takes from
abbrev pub FindsCall : {S : Type 0} → SideRelations S → ℕ → Inlet → TheRun S → Type 0
FindsCall w e (inlet.Queue n) s = (p : TheQueue) × (slice_get s.queues n ≡ Some p) × Holds s.core.board e (λ seat. MakesWhole QueueTakes p seat.end)
FindsCall {S} w e (inlet.Side n) s = (p : S) × (slice_get s.rings n ≡ Some p) × Holds s.core.board e (λ seat. MakesWhole w.takes p seat.end)
FindsCall w e inlet.Arrivals s =
    (n : ℕ) × (p : TheQueue) × (arrivals_of s.core e ≡ Some n) × (slice_get s.core.arrivals n ≡ Some p)
    × Holds s.core.board e (λ seat. MakesWhole QueueTakes p seat.end)

-- the channel at which the dispatcher looks is pending, so that its end is given a fragment
pub record LooksAtPending (b : TheBoard) (d : ℕ) : Type 0 where
  pub dispatcher : TheDispatcher
  pub dispatcher_is : slice_get b.dispatchers d ≡ Some dispatcher
  pub channel : ChanId
  pub picks : next_pick dispatcher.lists ≡ Ok (Pending channel)

-- the dispatcher's turn handles a call at the end that is due
pub record HandlesCall {S : Type 0} (w : SideRelations S) (d : ℕ) (due : LentTakeEnd) (s : TheRun S) : Type 0 where
  pub pending : LooksAtPending s.core.board d
  pub finds : FindsCall w due.end due.inlet s
