-- A channel of an end is registered or deregistered in a world as in the machine.
use Rattle.std.proofs.Common.{◌≡◌, refl, sym, ◌∙◌, ap, subst, ℕ, not, true, false, if◌then◌else◌, slice_get, Option, Some, None, Result, Ok, Err}
use Rattle.std.specs.Prelude.{IsSome, is_some}
use Rattle.fl_base.specs.declared.identity.EndId.{EndId}
use Rattle.fl_base.specs.declared.identity.Side.{Side}
use Rattle.fl_base.specs.Given.{given}
use Rattle.fl_lists.specs.ThreeLists.{ThreeLists, unlinked}
use Rattle.fl_waitset.specs.Waiting.{is_registered}
use Rattle.fl_core.specs.declared.board_fault.BoardFault.{BoardFault}
use Rattle.fl_core.specs.declared.board_fault.BoardFault.TheVariants.{NotBound, Registered, NotRegistered, TooManyEnds, Failed, Memory}
use Rattle.fl_core.specs.BoardView.{TheDispatcher, TheEndAtChannel, TheBoard, with_lists}
use Rattle.fl_core.specs.BoardEvents.{ChangesLists, Deregisters}
use Rattle.fl_core.specs.View.{TheCore, with_board}
use Rattle.fl_core.specs.Ends.{OnBoard}
use Rattle.fl_model.specs.Events.{Answer, done, refused}
use Rattle.fl_model.specs.Ends.{End, is_bound}
use Rattle.fl_model.specs.Waits.{Dispatcher, deregisters}
use Rattle.fl_model.specs.State.{Binding, State, StepOutcome, answers, end_of, end_in, binding_of, dispatcher_of, change_channel, change_dispatcher}
use Rattle.fl_model.specs.Taking.{has_channel_listed, deregisters_channel}
use Rattle.fl_world_refines.proofs.Tests.{unless_is, past_not}
use Rattle.fl_world_refines.specs.View.{TheWorld, WhereEnd, nowhere, unmade, made, location_of, with_core}
use Rattle.fl_world_refines.specs.ShowsState.{ShowsState, Shows}
use Rattle.fl_world_refines.specs.Taking.{IsRegistered, DeregistersBy}
use Rattle.fl_world_refines.specs.Laws.{Agrees, DeregistersAgree}
use Rattle.fl_world_refines.proofs.Frames.{Stands, Awaits}
use Rattle.fl_world_refines.proofs.FramesBase.{gets, same_some, end_of_binding}
use Rattle.fl_world_refines.proofs.FramesFind.{find_none, find_unmade, find_made}
use Rattle.fl_world_refines.proofs.FramesCores.{dispatcher_by, lists_frame}
use Rattle.fl_world_refines.proofs.Holding.{agrees_by, in_world, same_answer, refuses, set_same}

-- ---- an end's channel

-- its dispatcher, in the state and at its core
pub record Channel (w : TheWorld) (s : State) (e : EndId) (n place : ℕ) (h : Stands w s e n place) : Type 0 where
  pub dispatcher : Dispatcher
  pub dispatcher_is : dispatcher_of s h.seat.dispatcher ≡ Some dispatcher
  pub there : TheDispatcher
  pub there_is : slice_get h.core.board.dispatchers h.at.dispatcher ≡ Some there
  pub lists : there.lists ≡ dispatcher.lists

pub channel_of : (w : TheWorld) (s : State) (e : EndId) (n place : ℕ) (h : Stands w s e n place) → Shows w s → Channel w s e n place h
channel_of w s e n place h shown =
    let d = h.seat.dispatcher in
    let sits = shown.sound.seats.seated e d h.seat.channel (end_in e.side h.binding, end_of_binding s e h.binding h.binding_is, h.seat_is) in
    let k = dispatcher_by (slice_get s.cores d.core) d.place sits.0 sits.1 in
    let shows = shown.showing.cores.each d.core k.0 h.core k.1 (ap (slice_get w.cores) h.core_at ∙ h.core_is) in
    let there = gets k.0.dispatchers h.core.board.dispatchers d.place sits.0 shows.count k.2 in
    record {
      dispatcher = sits.0;
      dispatcher_is = sits.1;
      there = there.0;
      there_is = ap (slice_get h.core.board.dispatchers) h.dispatcher ∙ there.1;
      lists = (shows.dispatchers d.place sits.0 there.0 k.2 there.1).lists;
    }

-- the world with other lists at that dispatcher
abbrev pub with_lists_at : (w : TheWorld) (s : State) (e : EndId) (n place : ℕ) (h : Stands w s e n place) → Channel w s e n place h → ThreeLists → TheWorld
with_lists_at w s e n place h c lists = with_core w n (with_board h.core (with_lists h.core.board h.at.dispatcher c.there lists))

pub lists_at : (w : TheWorld) (s : State) (e : EndId) (n place : ℕ) (h : Stands w s e n place) (c : Channel w s e n place h) (f : Dispatcher → Dispatcher)
    (lists : ThreeLists) → ShowsState w s → (f c.dispatcher).ends ≡ c.dispatcher.ends → lists ≡ (f c.dispatcher).lists
    → ShowsState (with_lists_at w s e n place h c lists) (change_dispatcher h.seat.dispatcher f s)
lists_at w s e n place h c f lists p q r =
    let d = h.seat.dispatcher in
    subst (λ m. ShowsState (with_core w m (with_board h.core (with_lists h.core.board h.at.dispatcher c.there lists))) (change_dispatcher d f s)) h.core_at
    (subst (λ m. ShowsState (with_core w d.core (with_board h.core (with_lists h.core.board m c.there lists))) (change_dispatcher d f s)) (sym h.dispatcher)
    (lists_frame w s d h.core c.there c.dispatcher f lists p (ap (slice_get w.cores) h.core_at ∙ h.core_is)
    (ap (slice_get h.core.board.dispatchers) (sym h.dispatcher) ∙ c.there_is) c.dispatcher_is q r))

pub lists_same : (w : TheWorld) (s : State) (e : EndId) (n place : ℕ) (h : Stands w s e n place) (c : Channel w s e n place h) (lists : ThreeLists)
    → lists ≡ c.there.lists → with_lists_at w s e n place h c lists ≡ w
lists_same w s e n place h c lists q =
    ap (λ l. with_lists_at w s e n place h c l) q
    ∙ ap (λ ds. with_core w n (with_board h.core (let b : TheBoard = record { dispatchers = ds; seats = h.core.board.seats } in b)))
    (set_same h.core.board.dispatchers h.at.dispatcher c.there c.there_is)
    ∙ ap (λ cs. let v : TheWorld = record w { cores = cs } in v) (set_same w.cores n h.core h.core_is)

-- an event at the channel's lists, on the core's board
pub record ListsBecome (w : TheWorld) (s : State) (e : EndId) (n place : ℕ) (h : Stands w s e n place) (c : Channel w s e n place h)
    (Event : TheEndAtChannel → ThreeLists → ThreeLists → Type 0) (after : TheCore) : Type 0 where
  pub lists : ThreeLists
  pub event : Event h.at c.there.lists lists
  pub world : with_core w n after ≡ with_lists_at w s e n place h c lists

pub lists_become : (w : TheWorld) (s : State) (e : EndId) (n place : ℕ) (h : Stands w s e n place) (c : Channel w s e n place h)
    (Event : TheEndAtChannel → ThreeLists → ThreeLists → Type 0) (before after : TheCore) → before ≡ h.core
    → OnBoard before (λ b d. ChangesLists b place Event d) after → ListsBecome w s e n place h c Event after
lists_become w s e n place h c Event before after core board =
    let u = board.event in
    let seat : u.seat ≡ h.at
    = same_some (slice_get h.core.board.seats place) u.seat h.at (ap (λ (x : TheCore). slice_get x.board.seats place) (sym core) ∙ u.seat_is) h.at_is in
    let there : u.dispatcher ≡ c.there
    = same_some (slice_get h.core.board.dispatchers h.at.dispatcher) u.dispatcher c.there
    (ap (λ (x : TheCore). slice_get x.board.dispatchers h.at.dispatcher) (sym core) ∙ ap (λ (x : TheEndAtChannel). slice_get before.board.dispatchers x.dispatcher) (sym seat)
    ∙ u.dispatcher_is) c.there_is in
    record {
      lists = u.lists;
      event = subst (λ (x : TheEndAtChannel). Event x c.there.lists u.lists) seat (subst (λ (x : TheDispatcher). Event u.seat x.lists u.lists) there u.event);
      world = ap (with_core w n) (board.rest ∙ ap (with_board before) u.board
          ∙ ap (λ (x : TheCore). with_board x (with_lists x.board u.seat.dispatcher u.dispatcher u.lists)) core
          ∙ ap (λ (x : TheEndAtChannel). with_board h.core (with_lists h.core.board x.dispatcher u.dispatcher u.lists)) seat
          ∙ ap (λ (x : TheDispatcher). with_board h.core (with_lists h.core.board h.at.dispatcher x u.lists)) there);
    }

-- ---- in the machine

pub listed_is : (w : TheWorld) (s : State) (e : EndId) (n place : ℕ) (h : Stands w s e n place) (c : Channel w s e n place h)
    → has_channel_listed (end_in e.side h.binding) s ≡ is_registered c.there.lists h.at.channel
listed_is w s e n place h c =
    ap (λ o. given o false (λ seat. given (dispatcher_of s seat.dispatcher) false (λ (d : Dispatcher). is_registered d.lists seat.channel))) h.seat_is
    ∙ ap (λ o. given o false (λ (d : Dispatcher). is_registered d.lists h.seat.channel)) c.dispatcher_is
    ∙ ap (λ l. is_registered l h.seat.channel) (sym c.lists) ∙ ap (is_registered c.there.lists) (sym h.channel)

pub channel_changed : (w : TheWorld) (s : State) (e : EndId) (n place : ℕ) (h : Stands w s e n place) (f : ℕ → End → Dispatcher → Dispatcher)
    → change_channel e f s ≡ change_dispatcher h.seat.dispatcher (f h.seat.channel (end_in e.side h.binding)) s
channel_changed w s e n place h f =
    ap (λ o. given o s (λ (x : End). given x.seat s (λ seat. change_dispatcher seat.dispatcher (f seat.channel x) s))) (end_of_binding s e h.binding h.binding_is)
    ∙ ap (λ o. given o s (λ seat. change_dispatcher seat.dispatcher (f seat.channel (end_in e.side h.binding)) s)) h.seat_is

pub bound_is : (w : TheWorld) (s : State) (e : EndId) (n place : ℕ) (h : Stands w s e n place) → is_bound (end_in e.side h.binding) ≡ is_some h.at.end.circuit
bound_is w s e n place h = ap (λ (o : Option ℕ). is_some o) (sym h.shows.circuit)

pub some_is : {X : Type 0} (o : Option X) → IsSome o → is_some o ≡ true
some_is None q = absurd (let z : false ≡ true = q in cc)
some_is (Some x) q = refl

pub none_is : {X : Type 0} (o : Option X) → o ≡ None → is_some o ≡ false
none_is o q = ap is_some q

-- ---- deregistered

abbrev leaves_by : EndId → End → State → StepOutcome
leaves_by e x s =
    if not (is_bound x) then answers s (refused 43)
    else if not (has_channel_listed x s) then answers s (refused 51)
    else answers (change_channel e (λ c y. deregisters c) s) done

leaves_at : (e : EndId) (s : State) (o : Option End) → end_of s e ≡ o → deregisters_channel e s ≡ given o (answers s (refused 92)) (λ x. leaves_by e x s)
leaves_at e s o q = ap (λ p. given p (answers s (refused 92)) (λ x. leaves_by e x s)) q

leave_made : (w : TheWorld) (s : State) (e : EndId) (n place : ℕ) (h : Stands w s e n place) (c : Channel w s e n place h) (a : Answer)
    (r : Result (Unit {0}) BoardFault) (lists : ThreeLists) → ShowsState w s → Deregisters h.at c.there.lists r lists → IsRegistered r a
    → Agrees (leaves_by e (end_in e.side h.binding) s) a (with_lists_at w s e n place h c lists)
leave_made w s e n place h c a (Ok unit) lists p u is =
    let x = end_in e.side h.binding in
    let bound : is_bound x ≡ true = bound_is w s e n place h ∙ some_is h.at.end.circuit u.0 in
    let listed : has_channel_listed x s ≡ true = listed_is w s e n place h c ∙ u.1 in
    agrees_by (leaves_by e x s) (answers (change_dispatcher h.seat.dispatcher (deregisters h.seat.channel) s) done) a (with_lists_at w s e n place h c lists)
    (past_not (is_bound x) _ _ bound ∙ past_not (has_channel_listed x s) _ _ listed
    ∙ ap (λ z. answers z done) (channel_changed w s e n place h (λ m y. deregisters m)))
    (record {
      answer = sym is;
      showing = lists_at w s e n place h c (deregisters h.seat.channel) lists p refl
          (u.2 ∙ ap (unlinked c.there.lists) h.channel ∙ ap (λ l. unlinked l h.seat.channel) c.lists);
    })
leave_made w s e n place h c a (Err NotBound) lists p u is =
    let x = end_in e.side h.binding in
    agrees_by (leaves_by e x s) (answers s (refused 43)) a (with_lists_at w s e n place h c lists)
    (unless_is (is_bound x) _ _ (bound_is w s e n place h ∙ none_is h.at.end.circuit u.0))
    (same_answer w (with_lists_at w s e n place h c lists) s a (refused 43) p is (lists_same w s e n place h c lists u.1))
leave_made w s e n place h c a (Err NotRegistered) lists p u is =
    let x = end_in e.side h.binding in
    agrees_by (leaves_by e x s) (answers s (refused 51)) a (with_lists_at w s e n place h c lists)
    (past_not (is_bound x) _ _ (bound_is w s e n place h ∙ some_is h.at.end.circuit u.0)
    ∙ unless_is (has_channel_listed x s) _ _ (listed_is w s e n place h c ∙ u.1))
    (same_answer w (with_lists_at w s e n place h c lists) s a (refused 51) p is (lists_same w s e n place h c lists u.2))
leave_made w s e n place h c a (Err Registered) lists p u is = absurd u
leave_made w s e n place h c a (Err TooManyEnds) lists p u is = absurd u
leave_made w s e n place h c a (Err Failed) lists p u is = absurd u
leave_made w s e n place h c a (Err Memory) lists p u is = absurd u

pub end_none : (s : State) (e : EndId) → binding_of s e ≡ None → end_of s e ≡ None
end_none s e q = ap (λ o. given o None (λ (b : Binding). Some (end_in e.side b))) q

pub unbound : (w : TheWorld) (s : State) (e : EndId) (h : Awaits w s e) → is_bound (end_in e.side h.binding) ≡ false
unbound w s e h = none_is (end_in e.side h.binding).circuit (ap (λ (side : Side). (end_in side h.binding).circuit) h.server ∙ h.circuit)

pub deregisters_agree : DeregistersAgree
deregisters_agree e w v s a shown event = by (location_of w e) refl event
  where
    by : (location : WhereEnd) → location_of w e ≡ location → DeregistersBy location w a v → Agrees (deregisters_channel e s) a v
    by nowhere q u =
        agrees_by (deregisters_channel e s) (answers s (refused 92)) a v (leaves_at e s None (end_none s e (find_none w s e shown.showing q)))
        (refuses w v s a 92 shown.showing u)
    by unmade q u =
        let h = find_unmade w s e shown q in
        let x = end_in e.side h.binding in
        agrees_by (deregisters_channel e s) (answers s (refused 43)) a v
        (leaves_at e s (Some x) (end_of_binding s e h.binding h.binding_is) ∙ unless_is (is_bound x) _ _ (unbound w s e h))
        (refuses w v s a 43 shown.showing u)
    by (made n place) q u =
        let h = find_made w s e n place shown q in
        let x = end_in e.side h.binding in
        let c = channel_of w s e n place h shown in
        let core : u.before ≡ h.core = same_some (slice_get w.cores n) u.before h.core u.before_is h.core_is in
        let m = lists_become w s e n place h c (λ t l k. Deregisters t l u.event.0 k) u.before u.after core u.event.1 in
        agrees_by (deregisters_channel e s) (leaves_by e x s) a v (leaves_at e s (Some x) (end_of_binding s e h.binding h.binding_is))
        (in_world (leaves_by e x s) a v (with_lists_at w s e n place h c m.lists) (u.rest ∙ m.world)
        (leave_made w s e n place h c a u.event.0 m.lists shown.showing m.event u.event.2))
