-- A dispatcher's turn, by which channel is due and how its end is wired, agrees with the machine's.
use Rattle.std.proofs.Common.{◌≡◌, inl, inr, refl, sym, ◌∙◌, ap, subst, ℕ, zero, suc, nat_lt, not, Bool, true, false, List, [], ◌∷◌, length, map, slice_get, slice_set, Option, Some, None, arith}
use Rattle.std.specs.Prelude.{Ok, IsNone}
use Rattle.fl_base.specs.declared.identity.Side.{Side}
use Rattle.fl_base.specs.declared.identity.EndId.{EndId}
use Rattle.fl_base.specs.declared.identity.LinkId.{LinkId}
use Rattle.fl_base.specs.Given.{given}
use Rattle.fl_hop.proofs.Lists.{at_within, within, set_here, set_same}
use Rattle.fl_lists.specs.declared.place.Place.TheVariants.{Polled, Pending}
use Rattle.fl_lists.specs.ThreeLists.{ThreeLists}
use Rattle.fl_waitset.specs.declared.waitset.Pick.{Pick}
use Rattle.fl_waitset.specs.declared.waitset.Pick.TheVariants as pick
use Rattle.fl_waitset.specs.Waiting.{next_pick, first_of}
use Rattle.fl_link.specs.Queue.{TheQueue, QueueTakes}
use Rattle.fl_endpoint.specs.View.{TheEnd}
use Rattle.fl_ring.specs.Side.{SideTakes}
use Rattle.fl_ring.specs.declared.duo_side.DuoSide.{DuoSide}
use Rattle.fl_core.specs.declared.kind.ChannelKind.{ChannelKind}
use Rattle.fl_core.specs.declared.kind.ChannelKind.TheVariants as kind
use Rattle.fl_core.specs.declared.turn_answer.TurnAnswer.{TurnAnswer}
use Rattle.fl_core.specs.BoardView.{TheDispatcher, TheBoard, end_picked, due_in}
use Rattle.fl_core.specs.BoardView.{due as due_on}
use Rattle.fl_core.specs.BoardTurns.{Gives, LooksAt, moment}
use Rattle.fl_core.specs.declared.wiring.EndWiring.{EndWiring}
use Rattle.fl_core.specs.declared.wiring.EndWiring.TheVariants.{Queues, Ring as OverRing, Circuit}
use Rattle.fl_core.specs.declared.wiring.WiredEnd.{WiredEnd}
use Rattle.fl_core.specs.declared.wiring.Inlet.{Inlet}
use Rattle.fl_core.specs.Sound.{IsCore}
use Rattle.fl_core.specs.View.{TheCore, place_of, kind_of, inlet_by, inlet_of, arrivals_of, arrivals_by, with_board, with_arrivals}
use Rattle.fl_model.specs.Events.{DispatcherId, Answer, nothing, refused}
use Rattle.fl_model.specs.Rings.{RingEnd}
use Rattle.fl_model.specs.Ends.{Queue, without_first, Seat, End}
use Rattle.fl_model.specs.Waits.{Dispatcher, Due, pending, polled, no_one, due, first_due}
use Rattle.fl_model.specs.Monitors.{Core}
use Rattle.fl_model.specs.State.{Back, local, over_ring, over_route, Binding, State, StepOutcome, answers, binding_of, end_in, end_of, with_end_in, in_queue, dispatcher_of, own_ring, side_of, change_end}
use Rattle.fl_model.specs.Taking.{chosen, gives, examines, turns_by, turns}
use Rattle.fl_model.specs.SoundPlaces.{TakesFrom as QueueOrRing}
use Rattle.fl_world_refines.specs.Rings.{which_of}
use Rattle.fl_world_refines.proofs.Tests.{true_lt, false_lt}
use Rattle.fl_world_refines.specs.View.{Given, If, TheWorld, ring_at, with_core, with_ring, with_queue}
use Rattle.fl_world_refines.specs.ShowsState.{name_at, DispatcherShows, TakesFrom, IsWiring, ShowsState, Shows}
use Rattle.fl_world_refines.specs.Lending.{Refuses, DoesNothing, OverQueue, OverSide, AtCore}
use Rattle.fl_world_refines.specs.Taking.{turn_answer, as_turn, TurnsWith, TurnsArrivals, TurnsOver, TurnsAt, due_at}
use Rattle.fl_world_refines.specs.Laws.{Agrees, TurnsAgree}
use Rattle.fl_world_refines.proofs.Frames.{Stands}
use Rattle.fl_world_refines.proofs.FramesBase.{gets, same_some, not_both, end_of_binding}
use Rattle.fl_world_refines.proofs.FramesEnds.{changed_end, other_end}
use Rattle.fl_world_refines.proofs.WritingPieces.{queued_seat, agreed, by_given, core_twice, stands_there, dispatcher_shown, end_changed, interface_changed}
use Rattle.fl_world_refines.proofs.WritingStreams.{own_ring_there}
use Rattle.fl_world_refines.proofs.WritingRings.{IsSide}
use Rattle.fl_world_refines.proofs.Writing.{side_is}
use Rattle.fl_world_refines.proofs.TurningShowings.{TurnLaws, DueAt, Sided}
use Rattle.fl_world_refines.proofs.TurningMachine.{turns_found, pending_turns, polled_turns, first_in, listed_by, turn_of, its_kind}
use Rattle.fl_world_refines.proofs.TurningQueues.{MayReceive, may_receive, QueueSide, queue_turn, turned_board}
use Rattle.fl_world_refines.proofs.TurningRings.{OwnRing, ring_turn, polled_turn}

-- ---- an end's queue changed

queued_circuit : (f : Queue → Queue) (x : End) → (in_queue f x).circuit ≡ x.circuit
queued_circuit f x = by_given (λ (y : End). y.circuit ≡ x.circuit) x.queue x (λ q. record x { queue = Some (f q) }) refl (λ q r. refl)

queued_rules : (f : Queue → Queue) (x : End) → (in_queue f x).rules ≡ x.rules
queued_rules f x = by_given (λ (y : End). y.rules ≡ x.rules) x.queue x (λ q. record x { queue = Some (f q) }) refl (λ q r. refl)

queued_out : (f : Queue → Queue) (x : End) → (in_queue f x).out ≡ x.out
queued_out f x = by_given (λ (y : End). y.out ≡ x.out) x.queue x (λ q. record x { queue = Some (f q) }) refl (λ q r. refl)

-- what is shown once the queue that is lent has changed, from which the turn goes on
queue_sided : (w : TheWorld) (s : State) (d : DispatcherId) (c place : ℕ) (e : EndId) (u : DueAt w s d c place e) (v : TheWorld) (core : TheCore)
    → ShowsState v (change_end e (in_queue without_first) s) → slice_get v.cores d.core ≡ Some core → core.board ≡ u.at.core.board → place_of core e ≡ Some place
    → Sided w s d c place e u v (change_end e (in_queue without_first) s) core
queue_sided w s d c place e u v core showing here board there =
    let x : End = end_in e.side u.at.binding in
    let same : end_in e.side (with_end_in e.side (in_queue without_first) u.at.binding) ≡ in_queue without_first x = changed_end e.side (in_queue without_first) u.at.binding in
    record {
      showing = showing;
      core_is = here;
      board = board;
      place_is = there;
      cores = refl;
      binding = with_end_in e.side (in_queue without_first) u.at.binding;
      binding_is = end_changed s e (in_queue without_first) u.at.binding u.at.binding_is;
      interface_is = interface_changed s e (in_queue without_first) u.at.binding u.at.interface u.at.interface_is;
      seat = ap (λ (y : End). y.seat) same ∙ queued_seat without_first x;
      circuit = ap (λ (y : End). y.circuit) same ∙ queued_circuit without_first x;
      rules = ap (λ (y : End). y.rules) same ∙ queued_rules without_first x;
      out = ap (λ (y : End). y.out) same ∙ queued_out without_first x;
      other = other_end e.side (in_queue without_first) u.at.binding;
    }

-- ---- the sides that may be lent

abbrev local_side : (law : TurnLaws) (w : TheWorld) (s : State) (d : DispatcherId) (c place out from : ℕ) (e : EndId) (u : DueAt w s d c place e) (t : TakesFrom w.queues s (end_in e.side u.at.binding) from)
    → Shows w s → u.at.wired_end.wiring ≡ Queues out from → QueueSide w s d c place e u t.queue t.there
local_side law w s d c place out from e u t shown wiring = record {
  queue_is = t.queue_is;
  shows = t.shows;
  world = λ q. with_queue w from q;
  core = λ q. u.at.core;
  sided = λ q shows. queue_sided w s d c place e u (with_queue w from q) u.at.core
      (law.queue_frame w s e d.core place out from u.at t.queue without_first q shown.showing wiring t.queue_is shows)
      u.at.core_is refl u.at.place_is;
  still = λ b. ap (λ (qs : List TheQueue). record (with_core w d.core (with_board u.at.core b)) { queues = qs }) (set_same w.queues from t.there t.there_is);
}

abbrev arrivals_side : (law : TurnLaws) (w : TheWorld) (s : State) (d : DispatcherId) (c place : ℕ) (link : LinkId) (arrivals : ℕ) (e : EndId)
    (u : DueAt w s d c place e) (t : TakesFrom u.at.core.arrivals s (end_in e.side u.at.binding) arrivals)
    → Shows w s → IsCore u.at.core → u.at.wired_end.wiring ≡ Circuit link arrivals → QueueSide w s d c place e u t.queue t.there
arrivals_side law w s d c place link arrivals e u t shown is wiring = record {
  queue_is = t.queue_is;
  shows = t.shows;
  world = λ q. with_core w d.core (with_arrivals u.at.core arrivals q);
  core = λ q. with_arrivals u.at.core arrivals q;
  sided = λ q shows. queue_sided w s d c place e u (with_core w d.core (with_arrivals u.at.core arrivals q)) (with_arrivals u.at.core arrivals q)
      (law.arrivals_frame w s e d.core place link arrivals u.at t.queue without_first q shown.showing is wiring t.queue_is shows)
      (set_here w.cores d.core u.at.core (with_arrivals u.at.core arrivals q) u.at.core_is) refl u.at.place_is;
  still = λ b.
      core_twice w d.core (with_arrivals u.at.core arrivals t.there) (with_board (with_arrivals u.at.core arrivals t.there) b)
      ∙ ap (λ (qs : List TheQueue). with_core w d.core (record u.at.core { board = b; arrivals = qs })) (set_same u.at.core.arrivals arrivals t.there t.there_is);
}

none_of : {X : Type 0} (o : Option X) → IsNone o → o ≡ None
none_of None h = refl
none_of (Some x) h = absurd (cc)

some_end : (at at2 : RingEnd) → Some at ≡ Some at2 → at ≡ at2
some_end at at2 q = cc

own_back : (side : Side) (back : Back) (at : RingEnd) → own_ring side back ≡ Some at → (back ≡ over_ring at.ring) × (at.side ≡ side_of side)
own_back side local at q = absurd (cc)
own_back side (over_ring n) at q =
    let same = some_end (record { ring = n; side = side_of side }) at q in
    (ap (λ (x : RingEnd). over_ring x.ring) same, ap (λ (x : RingEnd). x.side) (sym same))
own_back side (over_route route) at q = absurd (cc)

own_side : (w : TheWorld) (s : State) (d : DispatcherId) (c place : ℕ) (e : EndId) (u : DueAt w s d c place e) (at : RingEnd) → Shows w s
    → own_ring e.side u.at.binding.back ≡ Some at → OwnRing w s d c place e u at
own_side w s d c place e u at shown own =
    let b = u.at.binding in
    let back = own_back e.side u.at.binding.back at own in
    let r = own_ring_there s e u.at.binding at.ring shown.sound.ends u.at.binding_is back.0 in
    let there = gets s.rings w.rings at.ring r.0 shown.showing.rings.count r.1 in
    let k = shown.sound.ends e (end_in e.side u.at.binding) (end_of_binding s e u.at.binding u.at.binding_is) in
    let same : k.binding ≡ u.at.binding = same_some (binding_of s e) k.binding u.at.binding k.there u.at.binding_is in
    let takes : QueueOrRing s (over_ring at.ring) (end_in e.side u.at.binding)
    = subst (λ (x : Back). QueueOrRing s x (end_in e.side u.at.binding)) (ap (λ (x : Binding). x.back) same ∙ back.0) k.queue in
    record {
      own = own;
      back = back.0;
      side = back.1;
      no_queue = none_of (end_in e.side u.at.binding).queue takes.0;
      ring = r.0;
      ring_is = r.1;
      duo = there.0;
      duo_is = there.1;
    }

-- ---- a pending channel, by the wiring of its end

same_inlet : (i j : Inlet) → Some i ≡ Some j → j ≡ i
same_inlet i j q = cc

inlet_found : (w : TheWorld) (s : State) (e : EndId) (n place : ℕ) (h : Stands w s e n place) (core : TheCore) (wiring : EndWiring) (i : Inlet) → slice_get w.cores n ≡ Some core
    → h.wired_end.wiring ≡ wiring → inlet_of core place ≡ Some i → i ≡ inlet_by wiring
inlet_found w s e n place h core wiring i there q r =
    let same : h.core ≡ core = same_some (slice_get w.cores n) h.core core h.core_is there in
    let is : Some (inlet_by h.wired_end.wiring) ≡ Some i
    = ap (λ (o : Option WiredEnd). given o None λ p. Some (inlet_by p.wiring)) (sym h.wired_end_is) ∙ ap (λ (k : TheCore). inlet_of k place) same ∙ r in
    same_inlet (inlet_by h.wired_end.wiring) i is ∙ ap inlet_by q

core_same : (w : TheWorld) (s : State) (e : EndId) (n place : ℕ) (h : Stands w s e n place) (core : TheCore) → slice_get w.cores n ≡ Some core → IsCore core → IsCore h.core
core_same w s e n place h core there is = subst IsCore (same_some (slice_get w.cores n) core h.core there h.core_is) is

-- what is given over a queue within the core
local_turn : (law : TurnLaws) (w w2 : TheWorld) (s : State) (a : Answer) (d : DispatcherId) (c place out from : ℕ) (cs : List ℕ) (e : EndId) (u : DueAt w s d c place e) → Shows w s
    → MayReceive w s d c place e u → u.machine.lists.pending ≡ c ∷ cs → next_pick u.there.lists ≡ Ok (pick.Pending (record { 0 = c }))
    → u.at.wired_end.wiring ≡ Queues out from → IsWiring w u.at.core s e u.at.binding (Queues out from)
    → OverQueue w d.core from (TurnsWith QueueTakes (as_turn d.place place e a)) w2 → Agrees (gives (chosen d c e) s) a w2
local_turn law w w2 s a d c place out from cs e u shown may due picks wiring wired over =
    let t = wired.1 in
    let queue : over.queue ≡ t.there = same_some (slice_get w.queues from) over.queue t.there over.queue_is t.there_is in
    let k = turn_of QueueTakes w s d c place e u (pick.Pending (record { 0 = c })) over.queue over.event.0 over.before over.after.board over.left over.before_is picks
    over.event.2.event in
    let kind_is : u.at.at.kind ≡ kind.Queue
    = its_kind w s e d.core place u.at (core_same w s e d.core place u.at over.before over.before_is over.whole.core) ∙ ap kind_of wiring in
    let g : Gives QueueTakes kind.Queue c (moment u.there.lists u.at.at.end t.there) (Ok over.event.0) (moment k.lists k.end over.left)
    = subst (λ (p : TheQueue). Gives QueueTakes kind.Queue c (moment u.there.lists u.at.at.end p) (Ok over.event.0) (moment k.lists k.end over.left)) queue
    (subst (λ (x : ChannelKind). Gives QueueTakes x c (moment u.there.lists u.at.at.end over.queue) (Ok over.event.0) (moment k.lists k.end over.left)) kind_is k.looks) in
    queue_turn law w w2 s a d c place cs e u t.queue t.there over.left over.event.0 k.end k.lists (local_side law w s d c place out from e u t shown wiring) shown may due g over.event.3
    (over.rest ∙ ap (λ (x : TheCore). with_queue (with_core w d.core x) from over.left) (over.event.2.rest ∙ k.core))

arriving_turn : (law : TurnLaws) (w w2 : TheWorld) (s : State) (a : Answer) (d : DispatcherId) (c place : ℕ) (link : LinkId) (arrivals : ℕ)
    (cs : List ℕ) (e : EndId) (u : DueAt w s d c place e) → Shows w s
    → MayReceive w s d c place e u → u.machine.lists.pending ≡ c ∷ cs → next_pick u.there.lists ≡ Ok (pick.Pending (record { 0 = c }))
    → u.at.wired_end.wiring ≡ Circuit link arrivals → IsWiring w u.at.core s e u.at.binding (Circuit link arrivals)
    → AtCore w d.core (TurnsArrivals (as_turn d.place place e a)) w2 → Agrees (gives (chosen d c e) s) a w2
arriving_turn law w w2 s a d c place link arrivals cs e u shown may due picks wiring wired over =
    let t = wired.1 in
    let ev = over.event.2 in
    let core : u.at.core ≡ over.before = same_some (slice_get w.cores d.core) u.at.core over.before u.at.core_is over.before_is in
    let number : arrivals ≡ ev.place = same_some (arrivals_of over.before place) arrivals ev.place
    (ap (λ (x : TheCore). arrivals_of x place) (sym core) ∙ ap (λ (o : Option WiredEnd). given o None λ p. arrivals_by p.wiring) u.at.wired_end_is ∙ ap arrivals_by wiring) ev.place_is in
    let queue : ev.before ≡ t.there = same_some (slice_get over.before.arrivals ev.place) ev.before t.there ev.before_is
    (ap (λ (x : TheCore). slice_get x.arrivals ev.place) (sym core) ∙ ap (slice_get u.at.core.arrivals) (sym number) ∙ t.there_is) in
    let k = turn_of QueueTakes w s d c place e u (pick.Pending (record { 0 = c })) ev.before over.event.0 over.before over.after.board ev.after over.before_is picks ev.event in
    let is = core_same w s e d.core place u.at over.before over.before_is over.whole.core in
    let kind_is : u.at.at.kind ≡ kind.Queue = its_kind w s e d.core place u.at is ∙ ap kind_of wiring in
    let g : Gives QueueTakes kind.Queue c (moment u.there.lists u.at.at.end t.there) (Ok over.event.0) (moment k.lists k.end ev.after)
    = subst (λ (p : TheQueue). Gives QueueTakes kind.Queue c (moment u.there.lists u.at.at.end p) (Ok over.event.0) (moment k.lists k.end ev.after)) queue
    (subst (λ (x : ChannelKind). Gives QueueTakes x c (moment u.there.lists u.at.at.end ev.before) (Ok over.event.0) (moment k.lists k.end ev.after)) kind_is k.looks) in
    let side = arrivals_side law w s d c place link arrivals e u t shown is wiring in
    let b2 : TheBoard = turned_board w s d c place e u u.at.core.board k.lists k.end in
    let board : over.after.board ≡ turned_board w s d c place e u u.at.core.board k.lists k.end = ap (λ (x : TheCore). x.board) k.core in
    queue_turn law w w2 s a d c place cs e u t.queue t.there ev.after over.event.0 k.end k.lists side shown may due g over.event.3
    (over.rest
    ∙ ap (with_core w d.core)
    (ev.rest
    ∙ ap (λ (x : TheBoard). record over.before { board = x; arrivals = slice_set over.before.arrivals ev.place ev.after }) board
    ∙ ap (λ (n : ℕ). record over.before { board = b2; arrivals = slice_set over.before.arrivals n ev.after }) (sym number)
    ∙ ap (λ (x : TheCore). record x { board = b2; arrivals = slice_set x.arrivals arrivals ev.after }) (sym core))
    ∙ sym (core_twice w d.core (with_arrivals u.at.core arrivals ev.after) (with_board (with_arrivals u.at.core arrivals ev.after) b2)))

-- what was picked at a side of the binding's ring
pub record SideTurn (w w2 : TheWorld) (s : State) (a : Answer) (d : DispatcherId) (c place : ℕ) (e : EndId) (u : DueAt w s d c place e) (at : RingEnd)
    (o : OwnRing w s d c place e u at) (picked : Pick) : Type 0 where
  pub answer : TurnAnswer
  pub is : a ≡ turn_answer e answer
  pub side : DuoSide
  pub left : DuoSide
  pub which : side.which ≡ which_of at.side
  pub now : side.duo.now ≡ o.duo
  pub lists : ThreeLists
  pub end : TheEnd
  pub looks : LooksAt SideTakes picked kind.Ring (moment u.there.lists u.at.at.end side) (Ok answer) (moment lists end left)
  pub rest : w2 ≡ with_core (with_ring w at.ring left.duo.now) d.core (with_board u.at.core (turned_board w s d c place e u u.at.core.board lists end))

side_turn : (w w2 : TheWorld) (s : State) (a : Answer) (d : DispatcherId) (c place m : ℕ) (e : EndId) (u : DueAt w s d c place e) (at : RingEnd)
    (o : OwnRing w s d c place e u at) (picked : Pick) → IsSide m at → u.at.wired_end.wiring ≡ OverRing m
    → next_pick u.there.lists ≡ Ok picked → OverSide w d.core m (TurnsWith SideTakes (as_turn d.place place e a)) w2 → SideTurn w w2 s a d c place e u at o picked
side_turn w w2 s a d c place m e u at o picked is wiring picks over =
    let k = turn_of SideTakes w s d c place e u picked over.side over.event.0 over.before over.after.board over.left over.before_is picks over.event.2.event in
    let kind_is : u.at.at.kind ≡ kind.Ring
    = its_kind w s e d.core place u.at (core_same w s e d.core place u.at over.before over.before_is over.whole.core) ∙ ap kind_of wiring in
    let duo : over.ring ≡ o.duo = same_some (slice_get w.rings at.ring) over.ring o.duo (ap (slice_get w.rings) (sym is.ring) ∙ over.ring_is) o.duo_is in
    record {
      answer = over.event.0;
      is = over.event.3;
      side = over.side;
      left = over.left;
      which = over.lent.which ∙ is.which;
      now = over.lent.ring ∙ duo;
      lists = k.lists;
      end = k.end;
      looks = subst (λ (x : ChannelKind). LooksAt SideTakes picked x (moment u.there.lists u.at.at.end over.side) (Ok over.event.0) (moment k.lists k.end over.left)) kind_is k.looks;
      rest = over.rest
          ∙ ap (λ (n : ℕ). with_ring (with_core w d.core over.after) n over.left.duo.now) is.ring
          ∙ ap (λ (x : TheCore). with_ring (with_core w d.core x) at.ring over.left.duo.now) (over.event.2.rest ∙ k.core);
    }

no_side : {P : Type 0} (w : TheWorld) (s : State) (d : DispatcherId) (c place m : ℕ) (e : EndId) (u : DueAt w s d c place e) (at : RingEnd)
    → OwnRing w s d c place e u at → IsSide m at → slice_get w.rings (ring_at m) ≡ None → P
no_side w s d c place m e u at o is none = not_both (slice_get w.rings at.ring) o.duo (ap (slice_get w.rings) (sym is.ring) ∙ none) o.duo_is

pending_by_wiring : (law : TurnLaws) (w w2 : TheWorld) (s : State) (a : Answer) (d : DispatcherId) (c place : ℕ) (cs : List ℕ) (e : EndId) (u : DueAt w s d c place e) (wiring : EndWiring) → Shows w s
    → MayReceive w s d c place e u → u.machine.lists.pending ≡ c ∷ cs → next_pick u.there.lists ≡ Ok (pick.Pending (record { 0 = c }))
    → u.at.wired_end.wiring ≡ wiring → IsWiring w u.at.core s e u.at.binding wiring → TurnsOver (inlet_by wiring) d.core (as_turn d.place place e a) w w2 → Agrees (gives (chosen d c e) s) a w2
pending_by_wiring law w w2 s a d c place cs e u (Queues out from) shown may due picks wiring wired event = elim event [
  | inl over ↦ local_turn law w w2 s a d c place out from cs e u shown may due picks wiring wired over
  | inr (stray, none) ↦ not_both (slice_get w.queues from) wired.1.there stray wired.1.there_is
]
pending_by_wiring law w w2 s a d c place cs e u (OverRing m) shown may due picks wiring wired event =
    let o = own_side w s d c place e u wired.0 shown wired.1 in
    let is = side_is m wired.0 wired.2 in
    elim event [
      | inl over ↦
          let k = side_turn w w2 s a d c place m e u wired.0 o (pick.Pending (record { 0 = c })) is wiring picks over in
          ring_turn law w w2 s a d c place cs e u wired.0 o k.side k.left k.answer k.end k.lists shown may k.which k.now due k.looks k.is k.rest
      | inr (stray, none) ↦ no_side w s d c place m e u wired.0 o is stray
    ]
pending_by_wiring law w w2 s a d c place cs e u (Circuit link arrivals) shown may due picks wiring wired event =
    arriving_turn law w w2 s a d c place link arrivals cs e u shown may due picks wiring wired event

-- ---- a polled channel: its end takes from a ring

no_queue : {P : Type 0} (x : End) (q : Queue) → IsNone x.queue → x.queue ≡ Some q → P
no_queue {P} x q h r = not_both x.queue q (none_of x.queue h) r

polled_by_wiring : (law : TurnLaws) (w w2 : TheWorld) (s : State) (a : Answer) (d : DispatcherId) (c place : ℕ) (e : EndId) (u : DueAt w s d c place e) (wiring : EndWiring) → Shows w s
    → IsNone (end_in e.side u.at.binding).queue → next_pick u.there.lists ≡ Ok (pick.Polled (record { 0 = c }))
    → u.at.wired_end.wiring ≡ wiring → IsWiring w u.at.core s e u.at.binding wiring → TurnsOver (inlet_by wiring) d.core (as_turn d.place place e a) w w2 → Agrees (examines (chosen d c e) s) a w2
polled_by_wiring law w w2 s a d c place e u (Queues out from) shown none picks wiring wired event =
    no_queue (end_in e.side u.at.binding) wired.1.queue none wired.1.queue_is
polled_by_wiring law w w2 s a d c place e u (OverRing m) shown none picks wiring wired event =
    let o = own_side w s d c place e u wired.0 shown wired.1 in
    let is = side_is m wired.0 wired.2 in
    elim event [
      | inl over ↦
          let k = side_turn w w2 s a d c place m e u wired.0 o (pick.Polled (record { 0 = c })) is wiring picks over in
          polled_turn law w w2 s a d c place e u wired.0 o k.side k.left k.answer k.end k.lists shown k.which k.now k.looks.0 k.looks.1 k.is k.rest
      | inr (stray, nothing_done) ↦ no_side w s d c place m e u wired.0 o is stray
    ]
polled_by_wiring law w w2 s a d c place e u (Circuit link arrivals) shown none picks wiring wired event =
    no_queue (end_in e.side u.at.binding) wired.1.queue none wired.1.queue_is

-- ---- which channel is due

-- what stands in one list shows what stands in the other
at_both : {X Y Z : Type 0} (f : X → Z) (g : Y → Z) (xs : List X) (ys : List Y) (n : ℕ) (x : X) → map f xs ≡ map g ys → slice_get xs n ≡ Some x
    → (y : Y) × (slice_get ys n ≡ Some y) × (f x ≡ g y)
at_both f g [] ys n x q r = absurd (cc)
at_both f g (v ∷ xs) [] n x q r = absurd (cc)
at_both f g (v ∷ xs) (u ∷ ys) zero x q r =
    let a : v ≡ x = cc in
    let b : f v ≡ g u = cc in
    (u, refl, ap f (sym a) ∙ b)
at_both f g (v ∷ xs) (u ∷ ys) (suc n) x q r = at_both f g xs ys n x (cc) r

none_both : {X Y Z : Type 0} (f : X → Z) (g : Y → Z) (xs : List X) (ys : List Y) (n : ℕ) → map f xs ≡ map g ys → slice_get xs n ≡ None → slice_get ys n ≡ None
none_both f g [] [] n q r = refl
none_both f g [] (u ∷ ys) n q r = absurd (cc)
none_both f g (v ∷ xs) [] n q r = refl
none_both f g (v ∷ xs) (u ∷ ys) zero q r = absurd (cc)
none_both f g (v ∷ xs) (u ∷ ys) (suc n) q r = none_both f g xs ys n (cc) r

same_name : (e f : EndId) → Some e ≡ Some f → e ≡ f
same_name e f q = cc

same_seat : (a b : Seat) → Some a ≡ Some b → a ≡ b
same_seat a b q = cc

-- the dispatcher, in the world and in the machine
record Found (w : TheWorld) (s : State) (d : DispatcherId) : Type 0 where
  pub core : TheCore
  pub core_is : slice_get w.cores d.core ≡ Some core
  pub there : TheDispatcher
  pub there_is : slice_get core.board.dispatchers d.place ≡ Some there
  pub machine : Dispatcher
  pub machine_is : dispatcher_of s d ≡ Some machine
  pub shows : DispatcherShows core machine there

-- the end of a channel that is due
due_end : (w : TheWorld) (s : State) (d : DispatcherId) (c place : ℕ) (x : Found w s d) (name : EndId) (core : TheCore) → Shows w s
    → slice_get x.there.ends c ≡ Some place → slice_get w.cores d.core ≡ Some core → place_of core name ≡ Some place
    → DueAt w s d c place name
due_end w s d c place x name core shown q there is =
    let at = stands_there w s name d.core place core shown there is in
    let same : x.core ≡ at.core = same_some (slice_get w.cores d.core) x.core at.core x.core_is at.core_is in
    let both = at_both (name_at x.core) (λ (f : EndId). Some f) x.there.ends x.machine.ends c place x.shows.ends q in
    let named : Some name ≡ Some both.0
    = ap (λ (f : EndId). Some f) (sym at.name_is)
    ∙ ap (λ (o : Option WiredEnd). given o None λ p. Some p.name) (sym at.wired_end_is)
    ∙ ap (λ (k : TheCore). name_at k place) (sym same)
    ∙ both.2 in
    let end_is : slice_get x.machine.ends c ≡ Some name = both.1 ∙ sym named in
    let has = shown.sound.seats.listed d x.machine c name x.machine_is end_is in
    let seat : Some at.seat ≡ Some (record { dispatcher = d; channel = c })
    = sym at.seat_is
    ∙ ap (λ (y : End). y.seat) (same_some (end_of s name) (end_in name.side at.binding) has.0 (end_of_binding s name at.binding at.binding_is) has.1)
    ∙ has.2 in
    record {
      at = at;
      there = x.there;
      there_is = ap (λ (k : TheCore). slice_get k.board.dispatchers d.place) (sym same) ∙ x.there_is;
      machine = x.machine;
      machine_is = x.machine_is;
      lists = x.shows.lists;
      end_is = end_is;
      seat = same_seat at.seat (record { dispatcher = d; channel = c }) seat;
    }

pending_due : (law : TurnLaws) (w w2 : TheWorld) (s : State) (a : Answer) (d : DispatcherId) (c place : ℕ) (cs : List ℕ) (x : Found w s d) → Shows w s
    → x.machine.lists.pending ≡ c ∷ cs → next_pick x.there.lists ≡ Ok (pick.Pending (record { 0 = c })) → due x.machine ≡ pending c
    → slice_get x.there.ends c ≡ Some place → TurnsAt d place w a w2 → Agrees (turns d s) a w2
pending_due law w w2 s a d c place cs x shown ps picks is there event =
    let name = event.0 in
    let u = due_end w s d c place x event.0 event.2.core shown there event.2.core_is event.2.name_is in
    let listed = shown.sound.listed Pending event.0 u.at.binding (listed_by w s d c place event.0 u Pending (first_in c cs u.machine.lists.pending (same_lists u))) in
    let may = may_receive law w s d c place event.0 u shown listed.0 in
    let i_is = inlet_found w s event.0 d.core place u.at event.2.core u.at.wired_end.wiring event.1 event.2.core_is refl event.2.inlet_is in
    let over : TurnsOver (inlet_by u.at.wired_end.wiring) d.core (as_turn d.place place event.0 a) w w2 = subst (λ (i : Inlet). TurnsOver i d.core (as_turn d.place place event.0 a) w w2) i_is event.3 in
    let k = pending_by_wiring law w w2 s a d c place cs event.0 u u.at.wired_end.wiring shown may (same_lists u) (same_picks u) refl u.at.wiring over in
    let to : turns d s ≡ gives (chosen d c event.0) s = turns_found d s x.machine x.machine_is ∙ pending_turns d s x.machine c event.0 is (same_end u) in
    record {
      answer = ap (λ (o : StepOutcome). o.answer) to ∙ k.answer;
      showing = subst (ShowsState w2) (ap (λ (o : StepOutcome). o.state) (sym to)) k.showing;
    }
  where
    machine_same : (u : DueAt w s d c place event.0) → x.machine ≡ u.machine
    machine_same u = same_some (dispatcher_of s d) x.machine u.machine x.machine_is u.machine_is

    same_lists : (u : DueAt w s d c place event.0) → u.machine.lists.pending ≡ c ∷ cs
    same_lists u = ap (λ (y : Dispatcher). y.lists.pending) (sym (machine_same u)) ∙ ps

    same_picks : (u : DueAt w s d c place event.0) → next_pick u.there.lists ≡ Ok (pick.Pending (record { 0 = c }))
    same_picks u =
        ap next_pick (u.lists ∙ ap (λ (y : Dispatcher). y.lists) (sym (machine_same u)) ∙ sym x.shows.lists) ∙ picks

    same_end : (u : DueAt w s d c place event.0) → slice_get x.machine.ends c ≡ Some event.0
    same_end u = ap (λ (y : Dispatcher). slice_get y.ends c) (machine_same u) ∙ u.end_is

polled_due : (law : TurnLaws) (w w2 : TheWorld) (s : State) (a : Answer) (d : DispatcherId) (c place : ℕ) (cs : List ℕ) (x : Found w s d) → Shows w s
    → x.machine.lists.polled ≡ c ∷ cs → next_pick x.there.lists ≡ Ok (pick.Polled (record { 0 = c })) → due x.machine ≡ polled c
    → slice_get x.there.ends c ≡ Some place → TurnsAt d place w a w2 → Agrees (turns d s) a w2
polled_due law w w2 s a d c place cs x shown ps picks is there event =
    let u = due_end w s d c place x event.0 event.2.core shown there event.2.core_is event.2.name_is in
    let listed = shown.sound.listed Polled event.0 u.at.binding (listed_by w s d c place event.0 u Polled (first_in c cs u.machine.lists.polled (same_lists u))) in
    let i_is = inlet_found w s event.0 d.core place u.at event.2.core u.at.wired_end.wiring event.1 event.2.core_is refl event.2.inlet_is in
    let over : TurnsOver (inlet_by u.at.wired_end.wiring) d.core (as_turn d.place place event.0 a) w w2 = subst (λ (i : Inlet). TurnsOver i d.core (as_turn d.place place event.0 a) w w2) i_is event.3 in
    let k = polled_by_wiring law w w2 s a d c place event.0 u u.at.wired_end.wiring shown listed.1 (same_picks u) refl u.at.wiring over in
    let to : turns d s ≡ examines (chosen d c event.0) s = turns_found d s x.machine x.machine_is ∙ polled_turns d s x.machine c event.0 is (same_end u) in
    record {
      answer = ap (λ (o : StepOutcome). o.answer) to ∙ k.answer;
      showing = subst (ShowsState w2) (ap (λ (o : StepOutcome). o.state) (sym to)) k.showing;
    }
  where
    machine_same : (u : DueAt w s d c place event.0) → x.machine ≡ u.machine
    machine_same u = same_some (dispatcher_of s d) x.machine u.machine x.machine_is u.machine_is

    same_lists : (u : DueAt w s d c place event.0) → u.machine.lists.polled ≡ c ∷ cs
    same_lists u = ap (λ (y : Dispatcher). y.lists.polled) (sym (machine_same u)) ∙ ps

    same_picks : (u : DueAt w s d c place event.0) → next_pick u.there.lists ≡ Ok (pick.Polled (record { 0 = c }))
    same_picks u =
        ap next_pick (u.lists ∙ ap (λ (y : Dispatcher). y.lists) (sym (machine_same u)) ∙ sym x.shows.lists) ∙ picks

    same_end : (u : DueAt w s d c place event.0) → slice_get x.machine.ends c ≡ Some event.0
    same_end u = ap (λ (y : Dispatcher). slice_get y.ends c) (machine_same u) ∙ u.end_is

-- ---- the turn

abbrev After : DispatcherId → TheWorld → Answer → TheWorld → Option ℕ → Type 0
After d w a w2 o = Given o (DoesNothing w a w2) λ e. TurnsAt d e w a w2

-- no channel is due, or none with an end
idle_agrees : (w w2 : TheWorld) (s : State) (a : Answer) (d : DispatcherId) (x : Found w s d) → Shows w s → turns_by d x.machine (due x.machine) s ≡ answers s nothing
    → DoesNothing w a w2 → Agrees (turns d s) a w2
idle_agrees w w2 s a d x shown is event =
    agreed (turns d s) s nothing a w w2 (turns_found d s x.machine x.machine_is ∙ is) event.0 event.1 shown.showing

by_lists : (law : TurnLaws) (w w2 : TheWorld) (s : State) (a : Answer) (d : DispatcherId) (x : Found w s d) (ps qs : List ℕ) → Shows w s
    → x.machine.lists.pending ≡ ps → x.machine.lists.polled ≡ qs → After d w a w2 (end_picked x.there.ends (first_of ps qs)) → Agrees (turns d s) a w2
by_lists law w w2 s a d x [] [] shown p q event =
    let none : due x.machine ≡ no_one = ap (λ (ls : List ℕ). first_due ls x.machine.lists.polled) p ∙ ap (first_due []) q in
    idle_agrees w w2 s a d x shown (ap (λ (y : Due). turns_by d x.machine y s) none) event
by_lists law w w2 s a d x (c ∷ cs) qs shown p q event = by (slice_get x.there.ends c) refl event
  where
    is : due x.machine ≡ pending c
    is = ap (λ (ls : List ℕ). first_due ls x.machine.lists.polled) p

    picks : next_pick x.there.lists ≡ Ok (pick.Pending (record { 0 = c }))
    picks = ap next_pick x.shows.lists ∙ ap (λ (ls : List ℕ). first_of ls x.machine.lists.polled) p

    by : (o : Option ℕ) → slice_get x.there.ends c ≡ o → After d w a w2 o → Agrees (turns d s) a w2
    by None r ev =
        let none = none_both (name_at x.core) (λ (f : EndId). Some f) x.there.ends x.machine.ends c x.shows.ends r in
        idle_agrees w w2 s a d x shown
        (ap (λ (y : Due). turns_by d x.machine y s) is ∙ ap (λ (o : Option EndId). given o (answers s nothing) λ f. gives (chosen d c f) s) none) ev
    by (Some place) r ev = pending_due law w w2 s a d c place cs x shown p picks is r ev
by_lists law w w2 s a d x [] (c ∷ cs) shown p q event = by (slice_get x.there.ends c) refl event
  where
    is : due x.machine ≡ polled c
    is = ap (λ (ls : List ℕ). first_due ls x.machine.lists.polled) p ∙ ap (first_due []) q

    picks : next_pick x.there.lists ≡ Ok (pick.Polled (record { 0 = c }))
    picks = ap next_pick x.shows.lists ∙ ap (λ (ls : List ℕ). first_of ls x.machine.lists.polled) p ∙ ap (first_of []) q

    by : (o : Option ℕ) → slice_get x.there.ends c ≡ o → After d w a w2 o → Agrees (turns d s) a w2
    by None r ev =
        let none = none_both (name_at x.core) (λ (f : EndId). Some f) x.there.ends x.machine.ends c x.shows.ends r in
        idle_agrees w w2 s a d x shown
        (ap (λ (y : Due). turns_by d x.machine y s) is ∙ ap (λ (o : Option EndId). given o (answers s nothing) λ f. examines (chosen d c f) s) none) ev
    by (Some place) r ev = polled_due law w w2 s a d c place cs x shown q picks is r ev

found_agrees : (law : TurnLaws) (w w2 : TheWorld) (s : State) (a : Answer) (d : DispatcherId) (x : Found w s d) → Shows w s → After d w a w2 (due_at w d) → Agrees (turns d s) a w2
found_agrees law w w2 s a d x shown event =
    let is : due_at w d ≡ end_picked x.there.ends (first_of x.machine.lists.pending x.machine.lists.polled)
    = ap (λ (o : Option TheCore). given o None λ k. due_on k.board d.place) x.core_is
    ∙ ap due_in x.there_is
    ∙ ap (λ (l : ThreeLists). end_picked x.there.ends (next_pick l)) x.shows.lists in
    by_lists law w w2 s a d x x.machine.lists.pending x.machine.lists.polled shown refl refl (subst (After d w a w2) is event)

-- ---- where there is no such dispatcher

none_shown : {X Y : Type 0} (xs : List X) (ys : List Y) (n : ℕ) → length ys ≡ length xs → slice_get xs n ≡ None → slice_get ys n ≡ None
none_shown {X} {Y} xs ys n e q = by (slice_get ys n) refl
  where
    by : (o : Option Y) → slice_get ys n ≡ o → slice_get ys n ≡ None
    by None r = r
    by (Some y) r = let g = gets ys xs n y (sym e) r in not_both (slice_get xs n) g.0 q g.1

past_none : {X : Type 0} (xs : List X) (n : ℕ) → nat_lt n (length xs) ≡ false → slice_get xs n ≡ None
past_none {X} [] n h = refl
past_none {X} (x ∷ xs) n h = by (slice_get (x ∷ xs) n) refl
  where
    by : (o : Option X) → slice_get (x ∷ xs) n ≡ o → slice_get (x ∷ xs) n ≡ None
    by None r = r
    by (Some y) r =
        let less = within (x ∷ xs) n y r in
        let more = false_lt n (length (x ∷ xs)) h in
        absurd (omega (arith, less, more))

no_dispatcher : (w w2 : TheWorld) (s : State) (a : Answer) (d : DispatcherId) → Shows w s → dispatcher_of s d ≡ None → Refuses 92 w a w2 → Agrees (turns d s) a w2
no_dispatcher w w2 s a d shown none event =
    agreed (turns d s) s (refused 92) a w w2 (ap (λ (o : Option Dispatcher). given o (answers s (refused 92)) λ y. turns_by d y (due y) s) none)
    event.0 event.1 shown.showing

abbrev Tested : DispatcherId → TheWorld → Answer → TheWorld → Bool → Type 0
Tested d w a w2 has = If (not has) (Refuses 92 w a w2) (After d w a w2 (due_at w d))

by_core : (law : TurnLaws) (w w2 : TheWorld) (s : State) (a : Answer) (d : DispatcherId) (o : Option TheCore) → Shows w s → slice_get w.cores d.core ≡ o
    → Tested d w a w2 (given o false λ k. nat_lt d.place (length k.board.dispatchers)) → Agrees (turns d s) a w2
by_core law w w2 s a d None shown q event =
    let none = none_shown w.cores s.cores d.core (sym shown.showing.cores.count) q in
    no_dispatcher w w2 s a d shown (ap (λ (o : Option Core). given o None λ k. slice_get k.dispatchers d.place) none) event
by_core law w w2 s a d (Some core) shown q event = by (nat_lt d.place (length core.board.dispatchers)) refl event
  where
    by : (b : Bool) → nat_lt d.place (length core.board.dispatchers) ≡ b → Tested d w a w2 b → Agrees (turns d s) a w2
    by false r ev =
        let k = gets w.cores s.cores d.core core (sym shown.showing.cores.count) q in
        let count = (shown.showing.cores.each d.core k.0 core k.1 q).count in
        let none = none_shown core.board.dispatchers k.0.dispatchers d.place (sym count) (past_none core.board.dispatchers d.place r) in
        no_dispatcher w w2 s a d shown (ap (λ (o : Option Core). given o None λ y. slice_get y.dispatchers d.place) k.1 ∙ none) ev
    by true r ev =
        let there = at_within core.board.dispatchers d.place (true_lt d.place (length core.board.dispatchers) r) in
        let x = dispatcher_shown w s d core there.0 shown.showing q there.1 in
        found_agrees law w w2 s a d (record {
          core = core;
          core_is = q;
          there = there.0;
          there_is = there.1;
          machine = x.0;
          machine_is = x.1;
          shows = x.2;
        }) shown ev

pub turns_agree : TurnLaws → TurnsAgree
turns_agree law d w w2 s a shown event =
    by_core law w w2 s a d (slice_get w.cores d.core) shown refl event
