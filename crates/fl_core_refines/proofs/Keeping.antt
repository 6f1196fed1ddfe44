-- What is known of a core is kept by the events of its ends and dispatchers over its own queues.
use Rattle.std.proofs.Common.{◌≡◌, refl, sym, ◌∙◌, subst, ℕ, Bool, true, false, slice_get, Option, Some, None}
use Rattle.std.specs.Prelude.{Result, Ok}
use Rattle.fl_lists.specs.declared.place.Place.{Place}
use Rattle.fl_lists.specs.declared.place.Place.TheVariants as place
use Rattle.fl_lists.specs.ThreeLists.{ThreeLists, list_at, is_in, unlinked, pushed, IsApart}
use Rattle.fl_lists.proofs.Tables.{front_in, pop_is}
use Rattle.fl_waitset.specs.declared.waitset.Pick.{Pick}
use Rattle.fl_waitset.specs.declared.waitset.Pick.TheVariants as pick
use Rattle.fl_waitset.specs.Waiting.{next_pick, triggered}
use Rattle.fl_waitset.proofs.Moves.{idle_moves}
use Rattle.fl_hop.proofs.Lists.{index_there}
use Rattle.fl_link.specs.Looks.{Look}
use Rattle.fl_link.specs.Queue.{TheQueue, QueuePuts, QueueTakes}
use Rattle.fl_value_data.specs.Value.{TheCall}
use Rattle.fl_endpoint.specs.declared.fault.EndFault.{EndFault}
use Rattle.fl_endpoint.specs.declared.answer.WriteAnswer.{WriteAnswer}
use Rattle.fl_endpoint.specs.View.{TheEnd}
use Rattle.fl_endpoint.specs.Events.{IsReady, Calls, SetsRule, Writes}
use Rattle.fl_core.specs.declared.kind.ChannelKind.{ChannelKind}
use Rattle.fl_core.specs.declared.turn_answer.TurnAnswer.{TurnAnswer}
use Rattle.fl_core.specs.declared.turn_answer.TurnAnswer.TheVariants.{Handle, Part, Ready, Quiet, Full, Nothing, Refused}
use Rattle.fl_core.specs.BoardView.{TheBoard}
use Rattle.fl_core.specs.BoardSound.{IsBoard}
use Rattle.fl_core.specs.BoardEvents.{ChangesEnd}
use Rattle.fl_core.specs.BoardTurns.{Turns, LooksAt, moment, over, put_off}
use Rattle.fl_core.proofs.Registered.{left_all}
use Rattle.fl_core.proofs.Readiness.{calls_ready, sets_ready, writes_ready}
use Rattle.fl_core.proofs.BoardKept.{end_kept, seated_ready}
use Rattle.fl_core.proofs.Lists.{kept_triggered}
use Rattle.fl_core.proofs.Picks.{first_pending, first_polled}
use Rattle.fl_core.proofs.Turning.{turn_kept}
use Rattle.fl_hop.specs.Joined.{Sound as IsTable}
use Rattle.fl_model_laws.proofs.Waitsets.{push_apart, unlink_apart}
use Rattle.fl_core.specs.View.{TheCore, with_board}
use Rattle.fl_core.specs.Sound.{IsCore, kinds_seated}
use Rattle.fl_core.specs.Ends.{at_side, OnBoard, TriggersIf, woken_by, WritesAt}
use Rattle.fl_core.proofs.Kept.{board_kept}
use Rattle.fl_core.proofs.Seated.{end_kinds, turn_kinds, triggers_kinds}
use Rattle.fl_world_refines.proofs.Tests.{then_is, else_is}
use Rattle.fl_core_run.specs.LogEntries.{IsSound}

-- ---- lists of channels

-- the first of a list goes to the back of one
off_apart : (w : ThreeLists) (from : Place) (c : ℕ) (to : Place) → IsApart w → slice_get (list_at w from) 0 ≡ Some c → IsApart (put_off w from c to)
off_apart w from c to apart first =
    subst (λ (x : ThreeLists). IsApart (pushed x c to)) (pop_is w from c apart first)
    (push_apart (unlinked w c) c to (left_all w c) (apart.below from c (front_in (list_at w from) c first)) (unlink_apart w c apart))

triggered_apart : (w : ThreeLists) (c : ℕ) → IsApart w → IsApart (triggered w c)
triggered_apart w c apart = by (is_in c w.idle) refl
  where
    by : (b : Bool) → is_in c w.idle ≡ b → IsApart (triggered w c)
    by true q =
        subst IsApart (idle_moves w c apart (then_is (is_in c w.idle) (Some place.Idle) _ q))
        (push_apart (unlinked w c) c place.Pending (left_all w c) (apart.below place.Idle c q) (unlink_apart w c apart))
    by false q = subst IsApart (sym (else_is (is_in c w.idle) _ w q)) apart

turned_apart : {T : Type 0} (takes : T → Look → T → Type 0) (kind : ChannelKind) (w v : ThreeLists) (s t : TheEnd) (p q : T) (picked : Pick) (answer : TurnAnswer)
    → IsApart w → next_pick w ≡ Ok picked → LooksAt takes picked kind (moment w s p) (Ok answer) (moment v t q) → IsApart v
turned_apart takes kind w v s t p q (pick.Pending c) (Handle call) apart next (m, received, (to, waits, e)) =
    subst IsApart (sym e) (off_apart w place.Pending c.0 to apart (first_pending w c next))
turned_apart takes kind w v s t p q (pick.Pending c) Part apart next (m, received, (to, waits, e)) =
    subst IsApart (sym e) (off_apart w place.Pending c.0 to apart (first_pending w c next))
turned_apart takes kind w v s t p q (pick.Pending c) Quiet apart next (m, received, (to, waits, e)) =
    subst IsApart (sym e) (off_apart w place.Pending c.0 to apart (first_pending w c next))
turned_apart takes kind w v s t p q (pick.Pending c) Nothing apart next (m, received, (to, waits, e)) =
    subst IsApart (sym e) (off_apart w place.Pending c.0 to apart (first_pending w c next))
turned_apart takes kind w v s t p q (pick.Pending c) Full apart next h =
    subst IsApart (sym h.1) (off_apart w place.Pending c.0 place.Pending apart (first_pending w c next))
turned_apart takes kind w v s t p q (pick.Pending c) (Refused fault) apart next h = subst IsApart (sym h.1) (unlink_apart w c.0 apart)
turned_apart takes kind w v s t p q (pick.Pending c) Ready apart next h = absurd h
turned_apart takes kind w v s t p q (pick.Polled c) Ready apart next h =
    subst IsApart (sym h.0.1) (off_apart w place.Polled c.0 place.Pending apart (first_polled w c next))
turned_apart takes kind w v s t p q (pick.Polled c) Quiet apart next h =
    subst IsApart (sym h.0.1) (off_apart w place.Polled c.0 place.Polled apart (first_polled w c next))
turned_apart takes kind w v s t p q (pick.Polled c) (Handle call) apart next h = absurd h.0
turned_apart takes kind w v s t p q (pick.Polled c) Part apart next h = absurd h.0
turned_apart takes kind w v s t p q (pick.Polled c) Full apart next h = absurd h.0
turned_apart takes kind w v s t p q (pick.Polled c) Nothing apart next h = absurd h.0
turned_apart takes kind w v s t p q (pick.Polled c) (Refused fault) apart next h = absurd h.0

-- ---- boards

end_board : (b b2 : TheBoard) (e : ℕ) (Event : TheEnd → TheEnd → Type 0) → IsBoard b → ((x y : TheEnd) → Event x y → IsReady x → IsReady y)
    → ChangesEnd b e Event b2 → IsBoard b2
end_board b b2 e Event sound ready h =
    subst IsBoard (sym h.board)
    (end_kept b sound e h.seat h.seat_is h.end (λ d at list registered. ready h.seat.end h.end h.event
    (seated_ready b sound e h.seat h.seat_is d at list registered)))

triggered_board : (o : Option ℕ) (b b2 : TheBoard) → IsBoard b → TriggersIf o b b2 → IsBoard b2
triggered_board None b b2 sound h = subst IsBoard (sym h) sound
triggered_board (Some e) b b2 sound h =
    let known = sound.dispatchers h.seat.dispatcher h.dispatcher h.dispatcher_is in
    let apart : IsApart h.lists = subst IsApart (sym h.event) (triggered_apart h.dispatcher.lists h.seat.channel known.apart) in
    subst IsBoard (sym h.board)
    (kept_triggered b b refl e h.seat h.seat_is sound
    h.dispatcher h.dispatcher (sym (index_there b.dispatchers h.seat.dispatcher h.dispatcher h.dispatcher h.dispatcher_is)) refl h.lists h.event apart)

turned_board : (b b2 : TheBoard) (n e : ℕ) (p q : TheQueue) (answer : TurnAnswer) → IsBoard b → Turns QueueTakes n e (over b p) (Ok answer)
    (over b2 q) → IsBoard b2
turned_board b b2 n e p q answer sound h =
    let known = sound.dispatchers n h.dispatcher h.dispatcher_is in
    subst IsBoard (sym h.board)
    (turn_kept b sound n h.dispatcher h.dispatcher_is h.picked h.picked_is e h.end_is h.seat h.seat_is QueueTakes h.lists h.end p q (Ok answer) h.looks
    (turned_apart QueueTakes h.seat.kind h.dispatcher.lists h.lists h.seat.end h.end p q h.picked answer known.apart h.picked_is h.looks))

-- ---- cores

board_sound : (k k2 : TheCore) → IsSound k → k2 ≡ with_board k k2.board → IsBoard k2.board
    → kinds_seated k2.board.seats ≡ kinds_seated k.board.seats → IsSound k2
board_sound k k2 sound rest board kinds = record {
  core = subst IsCore (sym rest) (board_kept k k2.board sound.core kinds);
  board = board;
  table = subst (λ (c : TheCore). IsTable c.monitor.circuits) (sym rest) sound.table;
}

pub call_keeps : (k k2 : TheCore) (e : ℕ) (c : TheCall) (r : Result (Unit {0}) EndFault) → IsSound k
    → OnBoard k (λ b b2. ChangesEnd b e (λ x y. Calls x c r y) b2) k2 → IsSound k2
call_keeps k k2 e c r sound h =
    board_sound k k2 sound h.rest (end_board k.board k2.board e (λ x y. Calls x c r y) sound.board (λ x y event. calls_ready x y c r event) h.event)
    (end_kinds k.board k2.board e (λ x y. Calls x c r y) h.event)

pub rule_keeps : (k k2 : TheCore) (e msg answer : ℕ) (r : Result (Unit {0}) EndFault) → IsSound k
    → OnBoard k (λ b b2. ChangesEnd b e (λ x y. SetsRule x msg answer r y) b2) k2 → IsSound k2
rule_keeps k k2 e msg answer r sound h =
    board_sound k k2 sound h.rest (end_board k.board k2.board e (λ x y. SetsRule x msg answer r y) sound.board
    (λ x y event. sets_ready x y msg answer r event) h.event)
    (end_kinds k.board k2.board e (λ x y. SetsRule x msg answer r y) h.event)

pub write_keeps : (k k2 : TheCore) (e : ℕ) (p q : TheQueue) (r : Result WriteAnswer EndFault) → IsSound k → WritesAt QueuePuts e (at_side k p) r (at_side k2 q) → IsSound k2
write_keeps k k2 e p q r sound h =
    let wrote = end_board k.board h.wrote e (λ x y. Writes QueuePuts x p r y q) sound.board (λ x y event. writes_ready QueuePuts x y p q r event) h.writes in
    board_sound k k2 sound h.rest (triggered_board (woken_by k e r) h.wrote k2.board wrote h.triggers)
    (triggers_kinds (woken_by k e r) h.wrote k2.board h.triggers ∙ end_kinds k.board h.wrote e (λ x y. Writes QueuePuts x p r y q) h.writes)

pub turn_keeps : (k k2 : TheCore) (n e : ℕ) (p q : TheQueue) (answer : TurnAnswer) → IsSound k
    → OnBoard k (λ b b2. Turns QueueTakes n e (over b p) (Ok answer) (over b2 q)) k2 → IsSound k2
turn_keeps k k2 n e p q answer sound h =
    board_sound k k2 sound h.rest (turned_board k.board k2.board n e p q answer sound.board h.event)
    (turn_kinds QueueTakes n e (over k.board p) (over k2.board q) (Ok answer) h.event)
