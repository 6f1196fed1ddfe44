-- What it comes to, by where the end is, that an end makes a call, shows its next fragment, or writes it.
use Rattle.std.specs.Prelude.{ℕ, ◌≡◌, ◌⊎◌, ◌%◌, slice_get, Option, Some, None, Result, Ok, Err}
use Rattle.fl_base.specs.declared.fragment.Frag.{Frag}
use Rattle.fl_base.specs.declared.identity.EndId.{EndId}
use Rattle.fl_value_data.specs.Value.{TheCall}
use Rattle.fl_link.specs.Cursor.{epoch_at}
use Rattle.fl_link.specs.Looks.{Look}
use Rattle.fl_link.specs.Queue.{TheQueue, QueuePuts, next_epoch_of}
use Rattle.fl_ring.specs.Duo.{TheDuo, side_of, got}
use Rattle.fl_ring.specs.Side.{SidePuts}
use Rattle.fl_endpoint.specs.declared.fault.EndFault.{EndFault}
use Rattle.fl_endpoint.specs.declared.fault.EndFault.TheVariants.{Memory}
use Rattle.fl_endpoint.specs.declared.answer.WriteAnswer.{WriteAnswer}
use Rattle.fl_endpoint.specs.declared.answer.WriteAnswer.TheVariants as write
use Rattle.fl_endpoint.specs.Faults.{fault_number}
use Rattle.fl_endpoint.specs.Events.{Calls, ShowsNext}
use Rattle.fl_core.specs.BoardEvents.{ChangesEnd, Holds}
use Rattle.fl_core.specs.declared.wiring.Outlet.{Outlet}
use Rattle.fl_core.specs.declared.wiring.Outlet.TheVariants as outlet
use Rattle.fl_core.specs.View.{TheCore, outlet_of}
use Rattle.fl_core.specs.Ends.{at_side, OnBoard, WritesAt}
use Rattle.fl_model.specs.Events.{Answer, accepted, nothing, full, written, words, refused}
use Rattle.fl_world_refines.specs.View.{TheWorld, ring_at, which_at, WhereEnd, nowhere, unmade, made, location_of}
use Rattle.fl_world_refines.specs.Lending.{AnswerAt, answer_at, Refuses, AtCore, OverQueue, OverSide, AtUnmade, KeepsNone, IsStray}

-- ---- a call

-- what is answered for an end's own answer; out of memory isn't an answer
abbrev pub IsCalled : Result (Unit {0}) EndFault → Answer → Type 0
IsCalled (Ok done) a = a ≡ accepted
IsCalled (Err Memory) a = ⊥
IsCalled (Err fault) a = a ≡ refused (fault_number fault)

-- by where the end is; one that isn't made yet is asked where its binding keeps it
abbrev pub CallsAt : WhereEnd → EndId → TheCall → TheWorld → Answer → TheWorld → Type 0
CallsAt nowhere e c w a w2 = Refuses 92 w a w2
CallsAt unmade e c w a w2 =
    (AtUnmade w e.binding (λ s t. (r : Result (Unit {0}) EndFault) × Calls s c r t × IsCalled r a) w2)
    ⊎ (KeepsNone w e.binding × Refuses 92 w a w2)
CallsAt (made n place) e c w a w2 =
    AtCore w n (λ k k2. (r : Result (Unit {0}) EndFault) × OnBoard k (λ b d. ChangesEnd b place (λ s t. Calls s c r t) d) k2 × IsCalled r a) w2

abbrev pub MakesCall : EndId → TheCall → TheWorld → Answer → TheWorld → Type 0
MakesCall e c w a w2 = CallsAt (location_of w e) e c w a w2

-- ---- the fragment that would be written next

-- the fragment as it would stand, `nothing` where all is written, or the end's refusal
abbrev pub IsShown : Result (Option Frag) EndFault → Answer → Type 0
IsShown (Ok (Some frag)) a = a ≡ words frag
IsShown (Ok None) a = a ≡ nothing
IsShown (Err fault) a = a ≡ refused (fault_number fault)

-- at a place of a core's board, with the epoch and the count of the side that would take it
abbrev pub PreviewsWith : ℕ → ℕ → TheCore → ℕ → Answer → Type 0
PreviewsWith epoch told k place a =
    (r : Result (Option Frag) EndFault) × Holds k.board place (λ s. ShowsNext epoch told s.end r) × IsShown r a

-- by where the end puts: to a queue, where nothing is told, or to a side, which tells what it has taken
abbrev pub PreviewsOver : TheWorld → TheCore → ℕ → Outlet → Answer → TheWorld → Type 0
PreviewsOver w k place (outlet.Queue q) a w2 =
    ((t : TheQueue) × (slice_get w.queues q ≡ Some t) × PreviewsWith (next_epoch_of t) 0 k place a × (w2 ≡ w))
    ⊎ IsStray w.queues q w a w2
PreviewsOver w k place (outlet.Side m) a w2 =
    ((r : TheDuo) × (slice_get w.rings (ring_at m) ≡ Some r)
    × PreviewsWith (epoch_at r.size (side_of (which_at m) r).sent) (got (side_of (which_at m) r) % 65536) k place a × (w2 ≡ w))
    ⊎ IsStray w.rings (ring_at m) w a w2

-- the core is there, and so is the end's outlet
pub record HasOutlet (w : TheWorld) (n place : ℕ) (o : Outlet) : Type 0 where
  pub core : TheCore
  pub core_is : slice_get w.cores n ≡ Some core
  pub outlet_is : outlet_of core place ≡ Some o

-- by where the end is; one that isn't made is refused as not bound, and nothing ever changes
abbrev pub PreviewsAt : WhereEnd → TheWorld → Answer → TheWorld → Type 0
PreviewsAt nowhere w a w2 = Refuses 92 w a w2
PreviewsAt unmade w a w2 = Refuses 43 w a w2
PreviewsAt (made n place) w a w2 = (o : Outlet) × ((h : HasOutlet w n place o) × PreviewsOver w h.core place o a w2)

abbrev pub Previews : EndId → TheWorld → Answer → TheWorld → Type 0
Previews e w a w2 = PreviewsAt (location_of w e) w a w2

-- ---- a write

-- fragment k of n, no room for it, nothing to write, or the end's refusal
abbrev pub IsWritten : Result WriteAnswer EndFault → Answer → Type 0
IsWritten (Ok (write.Written k n)) a = a ≡ written k n
IsWritten (Ok write.Full) a = a ≡ full
IsWritten (Ok write.Nothing) a = a ≡ nothing
IsWritten (Err fault) a = a ≡ refused (fault_number fault)

-- the end at a place writes over what is lent; a fragment that it wrote triggers the channel of the end joined to it by a queue
abbrev pub WritesWith : {P : Type 0} → (P → Look → P → Type 0) → AnswerAt → TheCore → P → TheCore → P → Type 0
WritesWith puts at k p k2 q = (r : Result WriteAnswer EndFault) × WritesAt puts at.place (at_side k p) r (at_side k2 q) × IsWritten r at.answer

-- at core n, over the queue or the side of a ring to which the end at this place puts
abbrev pub WritesOver : Outlet → ℕ → ℕ → TheWorld → Answer → TheWorld → Type 0
WritesOver (outlet.Queue q) n place w a w2 = OverQueue w n q (WritesWith QueuePuts (answer_at place a)) w2 ⊎ IsStray w.queues q w a w2
WritesOver (outlet.Side m) n place w a w2 = OverSide w n m (WritesWith SidePuts (answer_at place a)) w2 ⊎ IsStray w.rings (ring_at m) w a w2

-- by where the end is; one that isn't made is refused as not bound
abbrev pub WritesBy : WhereEnd → TheWorld → Answer → TheWorld → Type 0
WritesBy nowhere w a w2 = Refuses 92 w a w2
WritesBy unmade w a w2 = Refuses 43 w a w2
WritesBy (made n place) w a w2 = (o : Outlet) × HasOutlet w n place o × WritesOver o n place w a w2

abbrev pub WritesFragment : EndId → TheWorld → Answer → TheWorld → Type 0
WritesFragment e w a w2 = WritesBy (location_of w e) w a w2
