-- Writes: what the laws of parts are, and what a write leaves of its core.
use Rattle.std.proofs.Common.{◌≡◌, sym, ◌∙◌, ap, subst, ℕ, Option, Some, None, slice_get, arith}
use Rattle.std.specs.Prelude.{Result}
use Rattle.fl_base.specs.declared.identity.EndId.{EndId}
use Rattle.fl_link.specs.Looks.{Look}
use Rattle.fl_link.specs.Queue.{QueuePuts}
use Rattle.fl_ring.specs.Side.{SidePuts}
use Rattle.fl_endpoint.specs.declared.fault.EndFault.{EndFault}
use Rattle.fl_endpoint.specs.declared.answer.WriteAnswer.{WriteAnswer}
use Rattle.fl_endpoint.specs.View.{TheEnd}
use Rattle.fl_endpoint.specs.Events.{Writes}
use Rattle.fl_core.specs.BoardView.{TheEndAtChannel, with_end}
use Rattle.fl_core.specs.View.{TheCore, with_board}
use Rattle.fl_core.specs.Ends.{at_side, WritesAt, TriggersIf, woken_by}
use Rattle.fl_model.specs.State.{State}
use Rattle.fl_world_refines.specs.Ends.{machine_end}
use Rattle.fl_world_refines.specs.EndLaws.{WriteShows, WriteAgrees, OthersStay}
use Rattle.fl_world_refines.specs.RingLaws.{RingPuts, QueuePutShows, ShowingsGoOn}
use Rattle.fl_world_refines.specs.FragmentLaws.{CallsCarried, CallsAreCarried, LabelsStay}
use Rattle.fl_world_refines.specs.StateLaws.{FirstIsInTurn, NextIsWritten, SmallNumbers}
use Rattle.fl_world_refines.specs.View.{TheWorld, with_core}
use Rattle.fl_world_refines.specs.ShowsState.{Shows}
use Rattle.fl_world_refines.proofs.Frames.{Stands, FindsNone, FindsUnmade, FindsMade, EndFrame, ListsFrame, RingFrame, QueueFrame}
use Rattle.fl_world_refines.proofs.FramesBase.{same_some}
use Rattle.fl_world_refines.proofs.WritingPieces.{same_end_there, same_core_there}
use Rattle.fl_world_refines.proofs.WritingMachine.{long_enough}

-- the laws of parts that writes rest on
pub record WriteLaws : Type 0 where
  pub finds_none : FindsNone
  pub finds_unmade : FindsUnmade
  pub finds_made : FindsMade
  pub end_frame : EndFrame
  pub lists_frame : ListsFrame
  pub ring_frame : RingFrame
  pub queue_frame : QueueFrame
  pub queue_writes : WriteShows QueuePuts
  pub side_writes : WriteShows SidePuts
  pub queue_puts : QueuePutShows
  pub ring_puts : RingPuts
  pub still : ShowingsGoOn
  pub carried : CallsCarried
  pub labels : LabelsStay
  pub first : FirstIsInTurn
  pub others : OthersStay
  pub next : NextIsWritten
  pub small : SmallNumbers

pub all_carried : (law : WriteLaws) (w : TheWorld) (s : State) → Shows w s → CallsAreCarried s
all_carried law w s h =
    law.carried s h.sound.calls h.showing.limits (law.small s h.sound.cores h.sound.numbers h.sound.opened_numbers)

-- ---- the end of a write's event is the one that stands there

pub at_end : {P : Type 0} (puts : P → Look → P → Type 0) (w : TheWorld) (s : State) (e : EndId) (n place : ℕ) (h : Stands w s e n place) (k k2 : TheCore) (p q : P)
    (r : Result WriteAnswer EndFault) (a : WritesAt puts place (at_side k p) r (at_side k2 q)) → slice_get w.cores n ≡ Some k → a.writes.seat ≡ h.at
at_end puts w s e n place h k k2 p q r a there =
    let same : h.core ≡ k = same_some (slice_get w.cores n) h.core k h.core_is there in
    same_some (slice_get k.board.seats place) a.writes.seat h.at a.writes.seat_is
    (ap (λ (c : TheCore). slice_get c.board.seats place) (sym same) ∙ h.at_is)

pub its_write : {P : Type 0} (puts : P → Look → P → Type 0) (w : TheWorld) (s : State) (e : EndId) (n place : ℕ) (h : Stands w s e n place) (k k2 : TheCore) (p q : P)
    (r : Result WriteAnswer EndFault) (a : WritesAt puts place (at_side k p) r (at_side k2 q)) → slice_get w.cores n ≡ Some k → Writes puts h.at.end p r a.writes.end q
its_write puts w s e n place h k k2 p q r a there =
    subst (λ (at : TheEndAtChannel). Writes puts at.end p r a.writes.end q) (at_end puts w s e n place h k k2 p q r a there) a.writes.event

-- the write agrees with the machine's
pub write_agrees : {P : Type 0} (puts : P → Look → P → Type 0) → WriteShows puts → (w : TheWorld) (s : State) (e : EndId) (n place : ℕ) → Shows w s
    → (h : Stands w s e n place) (p q : P) (r : Result WriteAnswer EndFault) (t : TheEnd) → Writes puts h.at.end p r t q
    → WriteAgrees puts (machine_end h.interface e.side h.binding) p r t q
write_agrees puts law w s e n place shown h p q r t a =
    let long = long_enough s e h.binding shown.sound h.binding_is in
    law (machine_end h.interface e.side h.binding) p q h.at.end t r h.shows
    (shown.sound.counted e h.binding h.interface h.binding_is h.interface_is) (omega (arith, long)) a

-- the board once the end has written
pub wrote_board : {P : Type 0} (puts : P → Look → P → Type 0) (w : TheWorld) (s : State) (e : EndId) (n place : ℕ) (h : Stands w s e n place) (k k2 : TheCore) (p q : P)
    (r : Result WriteAnswer EndFault) (a : WritesAt puts place (at_side k p) r (at_side k2 q)) → slice_get w.cores n ≡ Some k
    → a.wrote ≡ with_end h.core.board place h.at a.writes.end
wrote_board puts w s e n place h k k2 p q r a there =
    let same : k ≡ h.core = same_some (slice_get w.cores n) k h.core there h.core_is in
    a.writes.board
    ∙ ap (λ (at : TheEndAtChannel). with_end k.board place at a.writes.end) (at_end puts w s e n place h k k2 p q r a there)
    ∙ ap (λ (c : TheCore). with_end c.board place h.at a.writes.end) same

-- where no other end is told of it, that is all
pub wrote_core : {P : Type 0} (puts : P → Look → P → Type 0) (w : TheWorld) (s : State) (e : EndId) (n place : ℕ) (h : Stands w s e n place) (k k2 : TheCore) (p q : P)
    (r : Result WriteAnswer EndFault) (a : WritesAt puts place (at_side k p) r (at_side k2 q)) → slice_get w.cores n ≡ Some k → woken_by k place r ≡ None
    → k2 ≡ with_board h.core (with_end h.core.board place h.at a.writes.end)
wrote_core puts w s e n place h k k2 p q r a there none =
    let same : k ≡ h.core = same_some (slice_get w.cores n) k h.core there h.core_is in
    let board : k2.board ≡ a.wrote = subst (λ (o : Option ℕ). TriggersIf o a.wrote k2.board) none a.triggers in
    a.rest
    ∙ ap (with_board k) (board ∙ wrote_board puts w s e n place h k k2 p q r a there)
    ∙ ap (λ (c : TheCore). with_board c (with_end h.core.board place h.at a.writes.end)) same

-- and where the end is as it was, so is its core
pub core_still : (w : TheWorld) (s : State) (e : EndId) (n place : ℕ) (h : Stands w s e n place) (k : TheCore) (t : TheEnd)
    → k ≡ with_board h.core (with_end h.core.board place h.at t) → t ≡ h.at.end → with_core w n k ≡ w
core_still w s e n place h k t q same =
    ap (with_core w n) (q ∙ ap (with_board h.core) (same_end_there h.core.board place h.at t h.at_is same))
    ∙ same_core_there w n h.core h.core_is
