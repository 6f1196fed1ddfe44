-- Memory is wanted in a dispatcher's turn only where that handles a call.
use Rattle.std.proofs.Common.{◌≡◌, refl, sym, ap, ◌∙◌, subst, inl, inr, ℕ, Some, Result, Ok, Err}
use Rattle.std.specs.Prelude.{◌⊎◌}
use Rattle.std.specs.declared.alloc.AllocError.{AllocError}
use Rattle.fl_base.specs.declared.identity.ChanId.{ChanId}
use Rattle.fl_base.specs.declared.identity.EndId.{EndId}
use Rattle.fl_value_data.specs.declared.value.Call.{Call}
use Rattle.fl_value_data.specs.Value.{call_of}
use Rattle.fl_lists.specs.ThreeLists.{ThreeLists}
use Rattle.fl_waitset.specs.declared.waitset.Pick.{Pick}
use Rattle.fl_waitset.specs.declared.waitset.Pick.TheVariants as pick
use Rattle.fl_link.specs.Looks.{Look}
use Rattle.fl_link.specs.Queue.{QueueTakes}
use Rattle.fl_endpoint.specs.View.{TheEnd}
use Rattle.fl_core.specs.declared.kind.ChannelKind.{ChannelKind}
use Rattle.fl_core.specs.declared.turn_answer.TurnAnswer.{TurnAnswer}
use Rattle.fl_core.specs.declared.turn_answer.TurnAnswer.TheVariants.{Handle}
use Rattle.fl_core.specs.BoardView.{TheBoard}
use Rattle.fl_core.specs.BoardEvents.{Holds}
use Rattle.fl_core.specs.BoardTurns.{moment, over, LooksAt, Turns}
use Rattle.fl_core.specs.declared.wiring.Inlet.{Inlet}
use Rattle.fl_core.specs.declared.wiring.Inlet.TheVariants as inlet
use Rattle.fl_core.specs.View.{place_of}
use Rattle.fl_core_run.specs.declared.lent.LentTakeEnd.{LentTakeEnd}
use Rattle.fl_core_run.specs.Run.{SideRelations, TheRun}
use Rattle.fl_core_run.specs.LogEntries.{dispatcher_turn, TurnsOver}
use Rattle.fl_core_run.specs.Wants.{MakesWhole, FindsCall, LooksAtPending, HandlesCall}
use Rattle.fl_core_run.specs.Stops.{LeavesCall}

-- ---- by what the end is given

-- the pick was a pending channel, and what its end is given makes a call whole
record Given {T : Type 0} (takes : T → Look → T → Type 0) (picked : Pick) (s : TheEnd) (p : T) : Type 0 where
  pub channel : ChanId
  pub picked_is : picked ≡ pick.Pending channel
  pub whole : MakesWhole takes p s

module _ {T : Type 0} (takes : T → Look → T → Type 0) (kind : ChannelKind) (w v : ThreeLists) (s t : TheEnd) (p q : T) where
  without_memory : (picked : Pick) (error : AllocError) → LooksAt takes picked kind (moment w s p) (Err error) (moment v t q) → Given takes picked s p
  without_memory (pick.Pending c) error h =
      record { channel = c; picked_is = refl; whole = (h.0.0, (h.0.1.0, q, h.0.1.2, h.0.1.3.0)) }
  without_memory (pick.Polled c) error h = absurd h.0

  handled : (picked : Pick) (call : Call) → LooksAt takes picked kind (moment w s p) (Ok (Handle call)) (moment v t q) → Given takes picked s p
  handled (pick.Pending c) call h =
      record { channel = c; picked_is = refl; whole = (h.1.0, (h.1.1.0, h.1.1.1, h.1.1.3, (call_of call, h.1.1.5.0))) }
  handled (pick.Polled c) call h = absurd h.0

-- ---- by the turn

-- an answer with which memory may be wanted: none was told, or a call was handled
abbrev Wants : Result TurnAnswer AllocError → Type 0
Wants answer = ((error : AllocError) × (answer ≡ Err error)) ⊎ ((call : Call) × (answer ≡ Ok (Handle call)))

record Finds {T : Type 0} (takes : T → Look → T → Type 0) (d e : ℕ) (b : TheBoard) (p : T) : Type 0 where
  pub pending : LooksAtPending b d
  pub holds : Holds b e (λ seat. MakesWhole takes p seat.end)

module _ {T : Type 0} (takes : T → Look → T → Type 0) (d e : ℕ) (b c : TheBoard) (p q : T) (answer : Result TurnAnswer AllocError)
    (turn : Turns takes d e (over b p) answer (over c q)) where
  looked : (a : Result TurnAnswer AllocError) → answer ≡ a
      → LooksAt takes turn.picked turn.seat.kind (moment turn.dispatcher.lists turn.seat.end p) a (moment turn.lists turn.end q)
  looked a is =
      subst (λ (x : Result TurnAnswer AllocError). LooksAt takes turn.picked turn.seat.kind (moment turn.dispatcher.lists turn.seat.end p) x (moment turn.lists turn.end q))
      is turn.looks

  by_given : Given takes turn.picked turn.seat.end p → Finds takes d e b p
  by_given it = record {
    pending = record {
      dispatcher = turn.dispatcher;
      dispatcher_is = turn.dispatcher_is;
      channel = it.channel;
      picks = turn.picked_is ∙ ap Ok it.picked_is;
    };
    holds = (turn.seat, turn.seat_is, it.whole);
  }

  finds : Wants answer → Finds takes d e b p
  finds (inl h) =
      by_given (without_memory takes turn.seat.kind turn.dispatcher.lists turn.lists turn.seat.end turn.end p q turn.picked h.0 (looked (Err h.0) h.1))
  finds (inr h) =
      by_given (handled takes turn.seat.kind turn.dispatcher.lists turn.lists turn.seat.end turn.end p q turn.picked h.0 (looked (Ok (Handle h.0)) h.1))

-- ---- over where the end takes from

module _ {S : Type 0} (w : SideRelations S) (d e : ℕ) (answer : Result TurnAnswer AllocError) (s t : TheRun S) (wants : Wants answer) where
  finds_over : (i : Inlet) → TurnsOver w (dispatcher_turn d e answer) i s t → LooksAtPending s.core.board d × FindsCall w e i s
  finds_over (inlet.Queue n) h =
      let it = finds QueueTakes d e s.core.board t.core.board h.before h.after answer h.event.event wants in
      (it.pending, (h.before, h.before_is, it.holds))
  finds_over (inlet.Side n) h =
      let it = finds w.takes d e s.core.board t.core.board h.before h.after answer h.event.event wants in
      (it.pending, (h.before, h.before_is, it.holds))
  finds_over inlet.Arrivals h =
      let it = finds QueueTakes d e s.core.board t.core.board h.event.before h.event.after answer h.event.event wants in
      (it.pending, (h.event.place, h.event.before, h.event.place_is, h.event.before_is, it.holds))

-- so it is wherever a turn stops for want of memory
pub handles : {S : Type 0} (w : SideRelations S) (d : ℕ) (name : EndId) (due : LentTakeEnd) (s t : TheRun S) → place_of s.core name ≡ Some due.end
    → LeavesCall w d name due s t → HandlesCall w d due s
handles w d name due s t at (inl h) =
    let it = finds_over w d due.end (Err h.0) s t (inl (h.0, refl)) due.inlet h.1 in
    record { pending = it.0; finds = it.1 }
handles w d name due s t at (inr h) =
    let same : h.1.0 ≡ due.end = (let e : Some h.1.0 ≡ Some due.end = sym h.1.1 ∙ at in cc) in
    let it = finds_over w d h.1.0 (Ok (Handle h.0)) s t (inr (h.0, refl)) due.inlet h.1.3 in
    record { pending = it.0; finds = subst (λ (n : ℕ). FindsCall w n due.inlet s) same it.1 }
