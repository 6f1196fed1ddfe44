-- A turn of a pending channel whose end takes from a queue: within a core, or an arrival queue.
use Rattle.std.proofs.Common.{◌≡◌, inl, inr, refl, sym, ◌∙◌, ap, ℕ, suc, ◌≤◌, nat_lt, true, false, List, [], ◌∷◌, length, drop, slice_get, Option, Some, None, arith}
use Rattle.std.specs.Prelude.{Result, Ok, Err}
use Rattle.fl_base.specs.declared.fragment.Frag.{Frag}
use Rattle.fl_base.specs.declared.identity.EndId.{EndId}
use Rattle.fl_base.specs.Ends.{other, peer}
use Rattle.fl_base.specs.Given.{given}
use Rattle.fl_lists.specs.declared.place.Place.{Place}
use Rattle.fl_lists.specs.declared.place.Place.TheVariants.{Idle, Polled, Pending}
use Rattle.fl_lists.specs.ThreeLists.{ThreeLists}
use Rattle.fl_value_data.specs.Value.{call_of}
use Rattle.fl_link.specs.Looks.{saw, saw_ack, found, missed}
use Rattle.fl_link.specs.Queue.{TheQueue, QueueTakes}
use Rattle.fl_endpoint.specs.declared.fault.EndFault.{EndFault}
use Rattle.fl_endpoint.specs.declared.fault.EndFault.TheVariants.{Wire as WireFaulty}
use Rattle.fl_endpoint.specs.declared.answer.ReceiveAnswer.{ReceiveAnswer}
use Rattle.fl_endpoint.specs.declared.answer.ReceiveAnswer.TheVariants as receive
use Rattle.fl_endpoint.specs.View.{TheEnd}
use Rattle.fl_endpoint.specs.Events.{Receives}
use Rattle.fl_endpoint.specs.Accounts.{Sound as EndIsSound}
use Rattle.fl_core.specs.declared.kind.ChannelKind.TheVariants as kind
use Rattle.fl_core.specs.declared.turn_answer.TurnAnswer.{TurnAnswer}
use Rattle.fl_core.specs.declared.turn_answer.TurnAnswer.TheVariants.{Handle, Part, Ready, Quiet, Full, Nothing, Refused}
use Rattle.fl_core.specs.BoardView.{TheBoard, with_end, with_lists}
use Rattle.fl_core.specs.BoardTurns.{WaitsIn, Gives, moment, put_off}
use Rattle.fl_core.specs.View.{TheCore, with_board}
use Rattle.fl_model.specs.Calls.{Planned}
use Rattle.fl_model.specs.Events.{DispatcherId, Answer, full}
use Rattle.fl_model.specs.Rings.{Label, next_of}
use Rattle.fl_model.specs.Ends.{Queue, without_first, takes_one, Taken, whole, a_part, comes_to, replies, End, is_bound, holds_back}
use Rattle.fl_model.specs.Waits.{waits_in}
use Rattle.fl_model.specs.State.{Binding, State, binding_of, end_in, end_of, change_end, in_queue}
use Rattle.fl_model.specs.Taking.{chosen, takes_next, taken_answer, takes_label, goes_back, gives}
use Rattle.fl_model.specs.Standing.{queue_of}
use Rattle.fl_model.specs.SoundCalls.{AllFit}
use Rattle.fl_model.specs.SoundLabels.{IsCounted}
use Rattle.fl_model_laws.proofs.Small.{first_of}
use Rattle.fl_world_refines.specs.Fragments.{Streams, calls_off_links}
use Rattle.fl_world_refines.specs.Queues.{QueueShows}
use Rattle.fl_world_refines.specs.Ends.{EndShows, machine_end}
use Rattle.fl_world_refines.specs.EndLaws.{IsNextAt, ReceiveAgrees}
use Rattle.fl_world_refines.specs.RingLaws.{AllCarried, HoldsCalls}
use Rattle.fl_world_refines.specs.StateLaws.{EndIn, FirstInTurn}
use Rattle.fl_world_refines.specs.View.{TheWorld, with_core}
use Rattle.fl_world_refines.specs.ShowsState.{Shows}
use Rattle.fl_world_refines.specs.Taking.{turn_answer}
use Rattle.fl_world_refines.specs.Laws.{Agrees}
use Rattle.fl_world_refines.proofs.FramesBase.{end_of_binding}
use Rattle.fl_world_refines.proofs.WritingPieces.{agreed, when_true, when_false, same_end_there}
use Rattle.fl_world_refines.proofs.WritingMachine.{long_enough}
use Rattle.fl_world_refines.proofs.TurningSound.{fair, sound_end}
use Rattle.fl_world_refines.proofs.TurningShowings.{TurnLaws, small_numbers, turn_carried, DueAt, Sided, unsided, lists_change, take_change}
use Rattle.fl_world_refines.proofs.TurningMachine.{gives_held, gives_queue, label_taken, first_in, listed_by}

-- ---- what a receive asks of an end whose channel is listed

pub record MayReceive (w : TheWorld) (s : State) (d : DispatcherId) (c place : ℕ) (e : EndId) (u : DueAt w s d c place e) : Type 0 where
  pub bound : is_bound (end_in e.side u.at.binding) ≡ true
  pub sound : EndIsSound u.at.at.end
  pub counted : IsCounted u.at.interface (end_in e.side u.at.binding).out
  pub few : length (end_in e.side u.at.binding).out.waiting ≤ 16
  pub fits : AllFit u.at.interface (end_in (other e.side) u.at.binding).out.accepted
  pub some : 1 ≤ length (end_in (other e.side) u.at.binding).out.passed
  pub turn : FirstInTurn s

pub may_receive : (law : TurnLaws) (w : TheWorld) (s : State) (d : DispatcherId) (c place : ℕ) (e : EndId) (u : DueAt w s d c place e) → Shows w s
    → is_bound (end_in e.side u.at.binding) ≡ true → MayReceive w s d c place e u
may_receive law w s d c place e u shown bound =
    let b = u.at.binding in
    let i = u.at.interface in
    let k = fair s e b i shown.sound shown.showing.limits (turn_carried law s w shown) (small_numbers law s w shown) u.at.binding_is u.at.interface_is bound in
    let long = long_enough s (peer e) b shown.sound u.at.binding_is in
    record {
      bound = bound;
      sound = sound_end i (end_in e.side b) (end_in (other e.side) b).out u.at.at.end u.at.shows k;
      counted = k.counted;
      few = k.few;
      fits = k.peer_fits;
      some = omega (arith, long);
      turn = law.first s shown.sound.ends shown.sound.routes shown.sound.labels shown.sound.ways shown.sound.counted;
    }

-- ---- how the queue is lent

pub record QueueSide (w : TheWorld) (s : State) (d : DispatcherId) (c place : ℕ) (e : EndId) (u : DueAt w s d c place e) (q : Queue) (p : TheQueue) : Type 0 where
  pub queue_is : (end_in e.side u.at.binding).queue ≡ Some q
  pub shows : QueueShows (calls_off_links s) q p
  -- the world with another queue there, and the core
  pub world : TheQueue → TheWorld
  pub core : TheQueue → TheCore
  pub sided : (t : TheQueue) → QueueShows (calls_off_links s) (without_first q) t
      → Sided w s d c place e u (world t) (change_end e (in_queue without_first) s) (core t)
  pub still : (b : TheBoard) → with_core (world p) d.core (with_board (core p) b) ≡ with_core w d.core (with_board u.at.core b)

-- the board after the turn
abbrev pub turned_board : (w : TheWorld) (s : State) (d : DispatcherId) (c place : ℕ) (e : EndId) → DueAt w s d c place e → TheBoard → ThreeLists → TheEnd → TheBoard
turned_board w s d c place e u b lists end = with_end (with_lists b d.place u.there lists) place u.at.at end

-- ---- where the channel waits then

none_is_empty : (ls : List Label) → slice_get ls 0 ≡ None → ls ≡ []
none_is_empty [] q = refl
none_is_empty (l ∷ ls) q = absurd (cc)

some_is_more : (ls : List Label) (l : Label) → slice_get ls 0 ≡ Some l → nat_lt 0 (length ls) ≡ true
some_is_more [] l q = absurd (cc)
some_is_more (m ∷ ls) l q = Rattle.fl_world_refines.proofs.Tests.lt_true 0 (length (m ∷ ls)) (omega arith)

record Waits (streams : Streams) (q : Queue) (to : Place) (t : TheQueue) : Type 0 where
  pub to_is : to ≡ waits_in (Some q)
  pub shows : QueueShows streams q t

waits_by : (law : TurnLaws) (streams : Streams) (q : Queue) (m t : TheQueue) (to : Place) → QueueShows streams q m → AllCarried streams → HoldsCalls q
    → WaitsIn QueueTakes kind.Queue m to t → Waits streams q to t
waits_by law streams q m t Pending h all calls a = elim a [
  | inl (f, k) ↦
      let g = law.queue_takes streams q m t (saw f) h all calls k in
      record { to_is = sym (when_true (nat_lt 0 (length q.labels)) Pending Idle (some_is_more q.labels g.0.first g.0.there)); shows = g.1 }
  | inr k ↦ absurd (law.queue_takes streams q m t saw_ack h all calls k)
]
waits_by law streams q m t Idle h all calls a =
    let g = law.queue_takes streams q m t missed h all calls a in
    let none : nat_lt 0 (length q.labels) ≡ false = ap (λ (ls : List Label). nat_lt 0 (length ls)) (none_is_empty q.labels g.0) in
    record { to_is = sym (when_false (nat_lt 0 (length q.labels)) Pending Idle none); shows = g.1 }
waits_by law streams q m t Polled h all calls a = absurd a

fewer_calls : (q : Queue) → HoldsCalls q → HoldsCalls (without_first q)
fewer_calls q h n label r = h (suc n) label (behind q.labels n label r)
  where
    behind : (ls : List Label) (n : ℕ) (label : Label) → slice_get (drop 1 ls) n ≡ Some label → slice_get ls (suc n) ≡ Some label
    behind [] n label r = absurd (cc)
    behind (l ∷ ls) n label r = r

-- ---- the end takes a fragment

-- what a take of the queue's first comes to
record TakesFirst (w : TheWorld) (s : State) (d : DispatcherId) (c place : ℕ) (e : EndId) (u : DueAt w s d c place e) (q : Queue) (to : Place) (t : TheQueue) : Type 0 where
  pub label : Label
  pub there : slice_get q.labels 0 ≡ Some label
  pub number : ℕ
  pub is : label ≡ next_of (peer e) number
  pub waits : Waits (calls_off_links s) (without_first q) to t

queue_labels : (s : State) (e : EndId) (b : Binding) (q : Queue) → binding_of s e ≡ Some b → (end_in e.side b).queue ≡ Some q → queue_of s e ≡ q.labels
queue_labels s e b q p r =
    ap (λ (o : Option End). given o [] λ x. given x.queue [] λ y. y.labels) (end_of_binding s e b p) ∙ ap (λ (o : Option Queue). given o [] λ y. y.labels) r

takes_first : (law : TurnLaws) (w : TheWorld) (s : State) (d : DispatcherId) (c place : ℕ) (e : EndId) (u : DueAt w s d c place e) (q : Queue) (p m n t : TheQueue)
    (f : Frag) (to : Place) (side : QueueSide w s d c place e u q p) → Shows w s → MayReceive w s d c place e u → QueueTakes p (saw f) n → QueueTakes n (found f) m
    → WaitsIn QueueTakes kind.Queue m to t → TakesFirst w s d c place e u q to t
takes_first law w s d c place e u q p m n t f to side shown may sees takes waits =
    let all = (turn_carried law s w shown).off_links in
    let calls = may.turn.calls e u.at.binding u.at.interface q (record { binding = u.at.binding_is; interface = u.at.interface_is }) side.queue_is in
    let first = law.queue_takes (calls_off_links s) q p n (saw f) side.shows all calls sees in
    let second = law.queue_takes (calls_off_links s) q n m (found f) first.1 all calls takes in
    let mine = shown.sound.ways.queues e first.0.first (first_of (queue_of s e) 0 first.0.first
    (ap (λ (ls : List Label). slice_get ls 0) (queue_labels s e u.at.binding q u.at.binding_is side.queue_is) ∙ first.0.there)) in
    record {
      label = first.0.first;
      there = first.0.there;
      number = mine.0;
      is = mine.1;
      waits = waits_by law (calls_off_links s) (without_first q) m t to second.1 all (fewer_calls q calls) waits;
    }

-- and the turn goes on
taken_agrees : (law : TurnLaws) (w w2 : TheWorld) (s : State) (a : Answer) (d : DispatcherId) (c place : ℕ) (e : EndId) (u : DueAt w s d c place e) (q : Queue) (p t : TheQueue)
    (to : Place) (taken : Taken) (end : TheEnd) (lists : ThreeLists) (side : QueueSide w s d c place e u q p) → Shows w s → MayReceive w s d c place e u
    → holds_back (end_in e.side u.at.binding) ≡ false → TakesFirst w s d c place e u q to t
    → comes_to u.at.interface (end_in (other e.side) u.at.binding).out ≡ taken
    → EndShows u.at.interface (replies u.at.interface taken (end_in e.side u.at.binding)) (takes_one (end_in (other e.side) u.at.binding).out) end
    → a ≡ taken_answer e taken → lists ≡ put_off u.there.lists Pending c to
    → w2 ≡ with_core (side.world t) d.core (with_board (side.core t) (turned_board w s d c place e u u.at.core.board lists end))
    → Agrees (gives (chosen d c e) s) a w2
taken_agrees law w w2 s a d c place e u q p t to taken end lists side shown may unheld first comes shows is lists_are now =
    let i : Planned = u.at.interface in
    let b : Binding = u.at.binding in
    let z : State = change_end e (in_queue without_first) s in
    let h = side.sided t first.waits.shows in
    let z2 : State = goes_back (chosen d c e) to z in
    let end2 : end_of z2 (peer e) ≡ Some (end_in (other e.side) h.binding) = end_of_binding z2 (peer e) h.binding h.binding_is in
    let comes2 : comes_to i (end_in (other e.side) h.binding).out ≡ taken = ap (λ (y : End). comes_to i y.out) h.other ∙ comes in
    agreed (gives (chosen d c e) s) (takes_next e (peer e) taken i z2) (taken_answer e taken) a
    (with_core (side.world t) d.core (with_board (side.core t) (turned_board w s d c place e u (side.core t).board (put_off u.there.lists Pending c to) end))) w2
    (gives_queue (chosen d c e) b i s q first.label u.at.binding_is u.at.interface_is unheld side.queue_is first.there
    ∙ ap (λ (l : Label). takes_label e i l (goes_back (chosen d c e) (waits_in (Some (without_first q))) z)) first.is
    ∙ ap (λ (x : Place). takes_label e i (next_of (peer e) first.number) (goes_back (chosen d c e) x z)) (sym first.waits.to_is)
    ∙ label_taken e (peer e) i first.number z2 (end_in (other e.side) h.binding) taken end2 comes2)
    is
    (now
    ∙ ap (λ (x : ThreeLists). with_core (side.world t) d.core (with_board (side.core t) (turned_board w s d c place e u u.at.core.board x end))) lists_are
    ∙ ap (λ (x : TheBoard). with_core (side.world t) d.core (with_board (side.core t) (turned_board w s d c place e u x (put_off u.there.lists Pending c to) end))) (sym h.board))
    (take_change law w s d c place e u (side.world t) z (side.core t) Pending to taken end shown h may.bound shows)

-- ---- the turn

next_at : (law : TurnLaws) (w : TheWorld) (s : State) (d : DispatcherId) (c place : ℕ) (e : EndId) (u : DueAt w s d c place e) (q : Queue) (p : TheQueue)
    → QueueSide w s d c place e u q p → Shows w s → MayReceive w s d c place e u
    → IsNextAt QueueTakes u.at.interface (end_in (other e.side) u.at.binding).out p
next_at law w s d c place e u q p side shown may f n a =
    let here : EndIn s e u.at.binding u.at.interface = record { binding = u.at.binding_is; interface = u.at.interface_is } in
    let calls = may.turn.calls e u.at.binding u.at.interface q here side.queue_is in
    may.turn.queues e u.at.binding u.at.interface q f here side.queue_is
    (law.queue_takes (calls_off_links s) q p n (saw f) side.shows (turn_carried law s w shown).off_links calls a).0

receives : (law : TurnLaws) (w : TheWorld) (s : State) (d : DispatcherId) (c place : ℕ) (e : EndId) (u : DueAt w s d c place e) (q : Queue) (p m : TheQueue)
    (r : Result ReceiveAnswer EndFault) (end : TheEnd) → QueueSide w s d c place e u q p → Shows w s → MayReceive w s d c place e u
    → Receives QueueTakes u.at.at.end p r end m
    → ReceiveAgrees QueueTakes (machine_end u.at.interface e.side u.at.binding) p r end m
receives law w s d c place e u q p m r end side shown may a =
    law.queue_receives (machine_end u.at.interface e.side u.at.binding) p m u.at.at.end end r u.at.shows may.sound may.counted
    may.few may.fits may.some (next_at law w s d c place e u q p side shown may) a

pub queue_turn : (law : TurnLaws) (w w2 : TheWorld) (s : State) (a : Answer) (d : DispatcherId) (c place : ℕ) (cs : List ℕ) (e : EndId) (u : DueAt w s d c place e) (q : Queue)
    (p t : TheQueue) (r : TurnAnswer) (end : TheEnd) (lists : ThreeLists) (side : QueueSide w s d c place e u q p) → Shows w s → MayReceive w s d c place e u
    → u.machine.lists.pending ≡ c ∷ cs
    → Gives QueueTakes kind.Queue c (moment u.there.lists u.at.at.end p) (Ok r) (moment lists end t)
    → a ≡ turn_answer e r
    → w2 ≡ with_core (side.world t) d.core (with_board (side.core t) (turned_board w s d c place e u u.at.core.board lists end))
    → Agrees (gives (chosen d c e) s) a w2
queue_turn law w w2 s a d c place cs e u q p t (Handle call) end lists side shown may due g is now =
    let k = receives law w s d c place e u q p g.0 (Ok (receive.Handle call)) end side shown may g.1 in
    let first = takes_first law w s d c place e u q p g.0 k.1.1 t k.1.0 g.2.0 side shown may k.1.2 k.1.3 g.2.1 in
    taken_agrees law w w2 s a d c place e u q p t g.2.0 (whole (call_of call)) end lists side shown may k.0.1 first k.2.0 k.2.1 is g.2.2 now
queue_turn law w w2 s a d c place cs e u q p t Part end lists side shown may due g is now =
    let k = receives law w s d c place e u q p g.0 (Ok receive.Part) end side shown may g.1 in
    let first = takes_first law w s d c place e u q p g.0 k.1.1 t k.1.0 g.2.0 side shown may k.1.2 k.1.3 g.2.1 in
    taken_agrees law w w2 s a d c place e u q p t g.2.0 a_part end lists side shown may k.0.1 first k.2.0 k.2.1 is g.2.2 now
queue_turn law w w2 s a d c place cs e u q p t Quiet end lists side shown may due g is now =
    let k = receives law w s d c place e u q p g.0 (Ok receive.Quiet) end side shown may g.1 in
    let calls = may.turn.calls e u.at.binding u.at.interface q (record { binding = u.at.binding_is; interface = u.at.interface_is }) side.queue_is in
    absurd (law.queue_takes (calls_off_links s) q p k.1.0 saw_ack side.shows (turn_carried law s w shown).off_links calls k.1.1)
queue_turn law w w2 s a d c place cs e u q p t Nothing end lists side shown may due g is now =
    let k = receives law w s d c place e u q p g.0 (Ok receive.Empty) end side shown may g.1 in
    let calls = may.turn.calls e u.at.binding u.at.interface q (record { binding = u.at.binding_is; interface = u.at.interface_is }) side.queue_is in
    let none = law.queue_takes (calls_off_links s) q p g.0 missed side.shows (turn_carried law s w shown).off_links calls k.1 in
    absurd (shown.sound.held e u.at.binding q (listed_by w s d c place e u Pending (first_in c cs u.machine.lists.pending due)) side.queue_is
    (none_is_empty q.labels none.0))
queue_turn law w w2 s a d c place cs e u q p t Full end lists side shown may due g is now =
    let k = receives law w s d c place e u q p t (Ok receive.HeldBack) end side shown may g.0 in
    let board : TheBoard = with_lists u.at.core.board d.place u.there (put_off u.there.lists Pending c Pending) in
    agreed (gives (chosen d c e) s) (goes_back (chosen d c e) Pending s) full a (with_core w d.core (with_board u.at.core board)) w2
    (gives_held (chosen d c e) u.at.binding u.at.interface s u.at.binding_is u.at.interface_is k.1)
    is
    (now
    ∙ ap (λ (x : TheQueue). with_core (side.world x) d.core (with_board (side.core x) (turned_board w s d c place e u u.at.core.board lists end))) k.2
    ∙ side.still (turned_board w s d c place e u u.at.core.board lists end)
    ∙ ap (λ (x : ThreeLists). with_core w d.core (with_board u.at.core (turned_board w s d c place e u u.at.core.board x end))) g.1
    ∙ ap (λ (x : TheBoard). with_core w d.core (with_board u.at.core x)) (same_end_there board place u.at.at end u.at.at_is g.0.3))
    (lists_change law w s d c place e u w s u.at.core Pending Pending (unsided w s d c place e u shown))
queue_turn law w w2 s a d c place cs e u q p t (Refused fault) end lists side shown may due g is now =
    absurd (receives law w s d c place e u q p t (Err (WireFaulty fault)) end side shown may g.0)
queue_turn law w w2 s a d c place cs e u q p t Ready end lists side shown may due g is now = absurd g
