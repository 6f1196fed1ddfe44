-- A turn over the side that its end takes from.
use Rattle.std.proofs.Common.{◌≡◌, refl, sym, ap, subst, ℕ, ◌<◌, true, List, length, slice_set, slice_index_or, Result}
use Rattle.std.proofs.lemmas.Option.{slice_get_read}
use Rattle.std.proofs.lemmas.Bool.{ltb-true}
use Rattle.std.specs.declared.alloc.AllocError.{AllocError}
use Rattle.fl_link.specs.Queue.{TheQueue, QueueTakes}
use Rattle.fl_core.specs.declared.turn_answer.TurnAnswer.{TurnAnswer}
use Rattle.fl_core.specs.BoardTurns.{Turns, over}
use Rattle.fl_core.specs.declared.wiring.Inlet.{Inlet}
use Rattle.fl_core.specs.declared.wiring.Inlet.TheVariants.{Queue, Side, Arrivals}
use Rattle.fl_core.specs.View.{TheCore}
use Rattle.fl_core.specs.Ends.{OnBoard}
use Rattle.fl_core_run.specs.Run.{SideRelations, TheRun, lends_in}
use Rattle.fl_core_run.specs.LogEntries.{DispatcherTurn, dispatcher_turn, TurnsOver}
use Rattle.fl_core_run.specs.Inside.{OverSide}
use Rattle.fl_core_run.proofs.Sides.{on_ring}

-- it leaves ends' progress
pub same_progresses : {S : Type 0} (w : SideRelations S) (x : DispatcherTurn) (i : Inlet) (s t : TheRun S) → TurnsOver w x i s t → t.progresses ≡ s.progresses
same_progresses {S} w x (Queue n) s t h = ap (λ (r : TheRun S). r.progresses) h.rest
same_progresses {S} w x (Side n) s t h = ap (λ (r : TheRun S). r.progresses) h.rest
same_progresses {S} w x Arrivals s t h = ap (λ (r : TheRun S). r.progresses) h.rest

pub over_queue : {S : Type 0} (w : SideRelations S) (d e n : ℕ) (i : Inlet) (answer : Result TurnAnswer AllocError) (s : TheRun S) (k2 : TheCore) (p q : TheQueue)
    → i ≡ Queue n → lends_in s i ≡ true → p ≡ slice_index_or s.queues n p → OnBoard s.core (λ b c. Turns QueueTakes d e (over b p) answer (over c q)) k2
    → TurnsOver w (dispatcher_turn d e answer) i s (record s { core = k2; queues = slice_set s.queues n q })
over_queue {S} w d e n i answer s k2 p q is lent value turns =
    let lends : lends_in s (Queue n) ≡ true = subst (λ (j : Inlet). lends_in s j ≡ true) is lent in
    let below : n < length s.queues = ltb-true n (length s.queues) lends in
    subst (λ (j : Inlet). TurnsOver w (dispatcher_turn d e answer) j s (record s { core = k2; queues = slice_set s.queues n q })) (sym is) (record {
      before = p;
      before_is = slice_get_read s.queues (length s.queues) n p refl below value;
      after = q;
      event = turns;
      rest = refl;
    })

pub over_side : {S : Type 0} (w : SideRelations S) (d e n : ℕ) (i : Inlet) (answer : Result TurnAnswer AllocError) (s : TheRun S) (k2 : TheCore) (ts : List S)
    → i ≡ Side n → OverSide n s.rings (λ p q. OnBoard s.core (λ b c. Turns w.takes d e (over b p) answer (over c q)) k2) ts
    → TurnsOver w (dispatcher_turn d e answer) i s (record s { core = k2; rings = ts })
over_side w d e n i answer s k2 ts is turns =
    subst (λ (j : Inlet). TurnsOver w (dispatcher_turn d e answer) j s (record s { core = k2; rings = ts })) (sym is)
    (on_ring s n ts (λ k p m q. OnBoard k (λ b c. Turns w.takes d e (over b p) answer (over c q)) m) k2 turns)
