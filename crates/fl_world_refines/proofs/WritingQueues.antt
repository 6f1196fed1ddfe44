-- A write into a queue within a core: the end on the other side takes from it, and is told.
use Rattle.std.proofs.Common.{◌≡◌, refl, sym, ◌∙◌, ap, subst, ℕ, true, List, Option, Some, None, slice_get, slice_set}
use Rattle.std.specs.Prelude.{Result, Ok, Err}
use Rattle.fl_base.specs.declared.fragment.Frag.{Frag}
use Rattle.fl_base.specs.declared.identity.EndId.{EndId}
use Rattle.fl_base.specs.Control.{bare}
use Rattle.fl_base.specs.Ends.{other, peer}
use Rattle.fl_base.specs.Given.{given}
use Rattle.fl_hop.proofs.Lists.{set_here}
use Rattle.fl_waitset.specs.Waiting.{triggered}
use Rattle.fl_lists.specs.ThreeLists.{ThreeLists}
use Rattle.fl_link.specs.Looks.{placed, no_room, spent}
use Rattle.fl_link.specs.Queue.{TheQueue, QueuePuts}
use Rattle.fl_endpoint.specs.declared.fault.EndFault.{EndFault}
use Rattle.fl_endpoint.specs.declared.fault.EndFault.TheVariants.{Spent, NotBound}
use Rattle.fl_endpoint.specs.declared.answer.WriteAnswer.{WriteAnswer}
use Rattle.fl_endpoint.specs.declared.answer.WriteAnswer.TheVariants.{Written, Full, Nothing}
use Rattle.fl_endpoint.specs.View.{TheEnd}
use Rattle.fl_endpoint.specs.Events.{Writes}
use Rattle.fl_core.specs.BoardView.{TheDispatcher, TheEndAtChannel, TheBoard, with_end, with_lists}
use Rattle.fl_core.specs.declared.wiring.EndWiring.{EndWiring}
use Rattle.fl_core.specs.declared.wiring.EndWiring.TheVariants.{Queues}
use Rattle.fl_core.specs.declared.wiring.WiredEnd.{WiredEnd}
use Rattle.fl_core.specs.View.{TheCore, place_of, with_board, joined_by as joined_for, joined_to}
use Rattle.fl_core.specs.Ends.{at_side, WritesAt, TriggersIf, Triggers}
use Rattle.fl_model.specs.Calls.{Planned}
use Rattle.fl_model.specs.Events.{Answer, DispatcherId, nothing, full, written, refused}
use Rattle.fl_model.specs.Rings.{Label, next_of, Room, there_is_room}
use Rattle.fl_model.specs.Ends.{Queue, joined_by, Direction, written_of, writes, Seat, End, is_bound}
use Rattle.fl_model.specs.Waits.{triggers}
use Rattle.fl_model.specs.State.{local, Binding, State, answers, binding_of, interface_of, end_in, end_of, with_end_in, in_queue, outlet_by, peer_queue}
use Rattle.fl_model.specs.State.{change_end, change_out, change_dispatcher, delivers}
use Rattle.fl_model.specs.Sending.{writes_to, writes_fragment}
use Rattle.fl_world_refines.specs.Fragments.{frag_of, calls_off_links}
use Rattle.fl_world_refines.specs.Queues.{QueueShows}
use Rattle.fl_world_refines.specs.StateLaws.{StandsFor}
use Rattle.fl_world_refines.specs.Ends.{EndShows, machine_end}
use Rattle.fl_world_refines.specs.EndLaws.{with_out, WriteAgrees, HasMore}
use Rattle.fl_world_refines.specs.View.{TheWorld, with_core, with_queue}
use Rattle.fl_world_refines.specs.ShowsState.{IsWiring, ShowsState, Shows}
use Rattle.fl_world_refines.specs.Lending.{answer_at, OverQueue}
use Rattle.fl_world_refines.specs.Sending.{IsWritten, WritesWith}
use Rattle.fl_world_refines.specs.Laws.{Agrees}
use Rattle.fl_world_refines.proofs.Frames.{Stands}
use Rattle.fl_world_refines.proofs.FramesBase.{same_some, end_of_binding}
use Rattle.fl_world_refines.proofs.FramesEnds.{changed_end, other_end}
use Rattle.fl_world_refines.proofs.WritingPieces.{agreed, set_twice, same_queue_there, end_keeps, end_changed, interface_changed, stands_made, stands_there, dispatcher_shown, channel_is, queued_seat}
use Rattle.fl_world_refines.proofs.WritingStreams.{from_given}
use Rattle.fl_world_refines.proofs.WritingMachine.{found_writes, unbound_writes, idle_writes, goes_writes, queue_room_is, writes_more, parts_stay, bound_not}
use Rattle.fl_world_refines.proofs.WritingEnds.{WriteLaws, all_carried, its_write, write_agrees, wrote_board, wrote_core, core_still}
use Rattle.fl_world_refines.proofs.WritingRings.{put_of, none_put, spent_put}

-- ---- the other end, which takes from the queue

pub record HasPeer (w : TheWorld) (s : State) (e : EndId) (n place : ℕ) (h : Stands w s e n place) (out from : ℕ) : Type 0 where
  pub back : h.binding.back ≡ local
  -- its place, seat and wired end
  pub location : ℕ
  pub location_is : place_of h.core (peer e) ≡ Some location
  pub seat : Seat
  pub seat_is : (end_in (other e.side) h.binding).seat ≡ Some seat
  pub seated : seat.dispatcher.core ≡ n
  pub wired_end : WiredEnd
  pub wired_end_is : slice_get h.core.wired_ends location ≡ Some wired_end
  pub wiring : wired_end.wiring ≡ Queues from out
  -- its queue
  pub queue : Queue
  pub queue_is : (end_in (other e.side) h.binding).queue ≡ Some queue
  pub there : TheQueue
  pub there_is : slice_get w.queues out ≡ Some there
  pub shows : QueueShows (calls_off_links s) queue there

some_wiring : (v u : EndWiring) → Some v ≡ Some u → v ≡ u
some_wiring v u q = cc

pub peer_of : (w : TheWorld) (s : State) (e : EndId) (n place : ℕ) (h : Stands w s e n place) (out from : ℕ) → Shows w s → h.wired_end.wiring ≡ Queues out from
    → HasPeer w s e n place h out from
peer_of w s e n place h out from shown q =
    let wired : IsWiring w h.core s e h.binding (Queues out from) = subst (IsWiring w h.core s e h.binding) q h.wiring in
    let f = from_given (place_of h.core (peer e)) (λ (p : ℕ). given (slice_get h.core.wired_ends p) None λ x. Some x.wiring) (Queues from out) wired.2 in
    let g = from_given (slice_get h.core.wired_ends f.0) (λ (x : WiredEnd). Some x.wiring) (Queues from out) f.2 in
    let k = stands_there w s (peer e) n f.0 h.core shown h.core_is f.1 in
    let core : h.core ≡ k.core = same_some (slice_get w.cores n) h.core k.core h.core_is k.core_is in
    let binding : k.binding ≡ h.binding = same_some (slice_get s.bindings e.binding) k.binding h.binding k.binding_is h.binding_is in
    let wired_end : k.wired_end ≡ g.0 = same_some (slice_get k.core.wired_ends f.0) k.wired_end g.0 k.wired_end_is (ap (λ (c : TheCore). slice_get c.wired_ends f.0) (sym core) ∙ g.1) in
    let wiring : g.0.wiring ≡ Queues from out = some_wiring g.0.wiring (Queues from out) g.2 in
    let takes : IsWiring w k.core s (peer e) k.binding (Queues from out)
    = subst (IsWiring w k.core s (peer e) k.binding) (ap (λ (p : WiredEnd). p.wiring) wired_end ∙ wiring) k.wiring in
    record {
      back = wired.0;
      location = f.0;
      location_is = f.1;
      seat = k.seat;
      seat_is = ap (λ (b : Binding). (end_in (other e.side) b).seat) (sym binding) ∙ k.seat_is;
      seated = k.core_at;
      wired_end = g.0;
      wired_end_is = g.1;
      wiring = wiring;
      queue = takes.1.queue;
      queue_is = ap (λ (b : Binding). (end_in (other e.side) b).queue) (sym binding) ∙ takes.1.queue_is;
      there = takes.1.there;
      there_is = takes.1.there_is;
      shows = takes.1.shows;
    }

-- a write wakes it
pub wakes : (w : TheWorld) (s : State) (e : EndId) (n place : ℕ) (h : Stands w s e n place) (out from : ℕ) (p : HasPeer w s e n place h out from)
    → h.wired_end.wiring ≡ Queues out from → joined_to h.core place ≡ Some p.location
wakes w s e n place h out from p q =
    ap (λ (o : Option WiredEnd). given o None λ x. joined_for h.core x.name x.wiring) h.wired_end_is
    ∙ ap (λ (f : EndId). joined_for h.core f h.wired_end.wiring) h.name_is
    ∙ ap (joined_for h.core e) q
    ∙ p.location_is

-- ---- the fragment is written

-- the end has written: it is a what is shown of its turn
record Turned (w : TheWorld) (s : State) (e : EndId) (n place : ℕ) (h : Stands w s e n place) (t : TheEnd) (s1 : State) (b1 : Binding) : Type 0 where
  pub showing : ShowsState (with_core w n (with_board h.core (with_end h.core.board place h.at t))) s1
  pub binding : binding_of s1 e ≡ Some b1
  pub interface : interface_of s1 b1 ≡ Some h.interface
  pub other : end_in (other e.side) b1 ≡ end_in (other e.side) h.binding
  pub queues : (q : Queue) (t : TheQueue) → QueueShows (calls_off_links s) q t → QueueShows (calls_off_links s1) q t
  pub cores : s1.cores ≡ s.cores

abbrev out_by : Planned → Direction → Direction
out_by i d = (writes i d there_is_room).direction

abbrev turn_by : Planned → End → End
turn_by i y = record y { out = out_by i y.out }

turned : (law : WriteLaws) (w : TheWorld) (s : State) (e : EndId) (n place : ℕ) (h : Stands w s e n place) (t : TheEnd) → Shows w s → is_bound (end_in e.side h.binding) ≡ true
    → EndShows h.interface (with_out (out_by h.interface) (end_in e.side h.binding)) (end_in (other e.side) h.binding).out t
    → Turned w s e n place h t (change_out e (out_by h.interface) s) (with_end_in e.side (turn_by h.interface) h.binding)
turned law w s e n place h t shown bound shows =
    let i : Planned = h.interface in
    let keeps = writes_more i (end_in e.side h.binding).out there_is_room in
    let same = law.labels s (change_out e (out_by i) s) (end_keeps s e (turn_by i) h.binding h.binding_is keeps) in
    record {
      showing = law.end_frame w s e n place h (turn_by i) t shown.showing (record {
        seat = refl;
        queue = refl;
        accepted = keeps;
        parts = (parts_stay s e h.binding i law.first law.others shown.sound h.binding_is h.interface_is).writing there_is_room;
        silent = bound_not (end_in e.side h.binding) bound;
      }) shows;
      binding = end_changed s e (turn_by i) h.binding h.binding_is;
      interface = interface_changed s e (turn_by i) h.binding i h.interface_is;
      other = other_end e.side (turn_by i) h.binding;
      queues = (law.still (calls_off_links s) (calls_off_links (change_out e (out_by i) s)) same.off_links).queues;
      cores = refl;
    }

-- the other end's channel, as the event tells of it
record IsTold (c : TheCore) (place : ℕ) (seat : Seat) (b2 : TheBoard) : Type 0 where
  pub dispatcher : TheDispatcher
  pub dispatcher_is : slice_get c.board.dispatchers seat.dispatcher.place ≡ Some dispatcher
  pub board : b2 ≡ with_lists c.board seat.dispatcher.place dispatcher (triggered dispatcher.lists seat.channel)

told_by : (c : TheCore) (place : ℕ) (seat : Seat) (at : TheEndAtChannel) (b2 : TheBoard) → slice_get c.board.seats place ≡ Some at → at.dispatcher ≡ seat.dispatcher.place
    → at.channel ≡ seat.channel → Triggers place c.board b2 → IsTold c place seat b2
told_by c place seat at b2 there dispatcher channel a =
    let same : a.seat ≡ at = same_some (slice_get c.board.seats place) a.seat at a.seat_is there in
    let number : a.seat.dispatcher ≡ seat.dispatcher.place = ap (λ (x : TheEndAtChannel). x.dispatcher) same ∙ dispatcher in
    let lists : a.lists ≡ triggered a.dispatcher.lists seat.channel
    = a.event ∙ ap (triggered a.dispatcher.lists) (ap (λ (x : TheEndAtChannel). x.channel) same ∙ channel) in
    record {
      dispatcher = a.dispatcher;
      dispatcher_is = ap (slice_get c.board.dispatchers) (sym number) ∙ a.dispatcher_is;
      board = a.board
          ∙ ap (λ (k : ℕ). with_lists c.board k a.dispatcher a.lists) number
          ∙ ap (with_lists c.board seat.dispatcher.place a.dispatcher) lists;
    }

-- the label is delivered
record Delivered (w1 : TheWorld) (s1 : State) (n : ℕ) (c : TheCore) (out : ℕ) (left : TheQueue) (label : Label) (f : EndId) (b2 : TheBoard) : Type 0 where
  pub state : State
  pub is : delivers label f s1 ≡ state
  pub showing : ShowsState (with_core (with_queue w1 out left) n (with_board c b2)) state

delivered : (law : WriteLaws) (w1 : TheWorld) (s1 : State) (e : EndId) (n place out from : ℕ) (k : Stands w1 s1 e n place) (c : TheCore) (q : Queue) (left : TheQueue)
    (label : Label) (b2 : TheBoard) → ShowsState w1 s1 → slice_get w1.cores n ≡ Some c → k.wired_end.wiring ≡ Queues out from → (end_in e.side k.binding).queue ≡ Some q
    → QueueShows (calls_off_links s1) (joined_by label q) left → Triggers place c.board b2
    → Delivered w1 s1 n c from left label e b2
delivered law w1 s1 e n place out from k c q left label b2 showing core_is wiring queue_is shows a =
    let core : k.core ≡ c = same_some (slice_get w1.cores n) k.core c k.core_is core_is in
    let told = told_by c place k.seat k.at b2 (ap (λ (x : TheCore). slice_get x.board.seats place) (sym core) ∙ k.at_is) k.dispatcher k.channel a in
    let d : DispatcherId = k.seat.dispatcher in
    let s2 : State = change_end e (in_queue (joined_by label)) s1 in
    let w2 : TheWorld = with_queue w1 from left in
    let p2 : ShowsState w2 s2 = law.queue_frame w1 s1 e n place out from k q (joined_by label) left showing wiring queue_is shows in
    let here : slice_get w2.cores d.core ≡ Some c = ap (λ (m : ℕ). slice_get w1.cores m) k.core_at ∙ core_is in
    let x = dispatcher_shown w2 s2 d c told.dispatcher p2 here told.dispatcher_is in
    let b3 : Binding = with_end_in e.side (in_queue (joined_by label)) k.binding in
    let end3 : end_of s2 e ≡ Some (end_in e.side b3) = end_of_binding s2 e b3 (end_changed s1 e (in_queue (joined_by label)) k.binding k.binding_is) in
    let seat3 : (end_in e.side b3).seat ≡ Some k.seat
    = ap (λ (y : End). y.seat) (changed_end e.side (in_queue (joined_by label)) k.binding) ∙ queued_seat (joined_by label) (end_in e.side k.binding) ∙ k.seat_is in
    let lists : triggered told.dispatcher.lists k.seat.channel ≡ triggered x.0.lists k.seat.channel
    = ap (λ (v : ThreeLists). triggered v k.seat.channel) x.2.lists in
    let p3 = law.lists_frame w2 s2 d c told.dispatcher x.0 (triggers k.seat.channel) (triggered told.dispatcher.lists k.seat.channel) p2 here told.dispatcher_is
    x.1 refl lists in
    record {
      state = change_dispatcher d (triggers k.seat.channel) s2;
      is = channel_is s2 e (λ channel y. triggers channel) (end_in e.side b3) k.seat end3 seat3;
      showing = subst (λ (v : TheWorld). ShowsState v (change_dispatcher d (triggers k.seat.channel) s2))
          (ap (λ (m : ℕ). with_core w2 m (with_board c (with_lists c.board d.place told.dispatcher (triggered told.dispatcher.lists k.seat.channel)))) k.core_at
          ∙ ap (λ (b : TheBoard). with_core w2 n (with_board c b)) (sym told.board)) p3;
    }

-- the fragment goes into the queue, and the other end is told
written_agrees : (law : WriteLaws) (w w2 : TheWorld) (s : State) (a : Answer) (e : EndId) (n place out from : ℕ) (h : Stands w s e n place) (x : HasPeer w s e n place h out from)
    (left : TheQueue) (t : TheEnd) (f : Frag) (number count : ℕ) (k : TheCore) (b2 : TheBoard) → Shows w s
    → HasMore h.interface (end_in e.side h.binding)
    → frag_of (calls_off_links s) (next_of e (written_of (end_in e.side h.binding).out)) ≡ Some f → bare f ≡ f
    → QueuePuts x.there (placed f) left
    → (writes h.interface (end_in e.side h.binding).out there_is_room).answer ≡ written number count
    → EndShows h.interface (with_out (out_by h.interface) (end_in e.side h.binding)) (end_in (other e.side) h.binding).out t
    → a ≡ written number count → Triggers x.location (with_end h.core.board place h.at t) b2 → k ≡ with_board h.core b2 → w2 ≡ with_queue (with_core w n k) out left
    → Agrees (writes_fragment e s) a w2
written_agrees law w w2 s a e n place out from h x left t f number count k b2 shown more next plain put answer shows is wakes core now =
    let i : Planned = h.interface in
    let d : Direction = (end_in e.side h.binding).out in
    let label : Label = next_of e (written_of d) in
    let s1 : State = change_out e (out_by i) s in
    let b1 : Binding = with_end_in e.side (turn_by i) h.binding in
    let c1 : TheCore = with_board h.core (with_end h.core.board place h.at t) in
    let w1 : TheWorld = with_core w n c1 in
    let tn = turned law w s e n place h t shown more.0 shows in
    let here : slice_get w1.cores n ≡ Some c1 = set_here w.cores n h.core c1 h.core_is in
    let seat : (end_in (other e.side) b1).seat ≡ Some x.seat = ap (λ (y : End). y.seat) tn.other ∙ x.seat_is in
    let k1 = stands_made w1 s1 (peer e) n x.location b1 i x.seat c1 tn.binding tn.interface seat x.seated here x.location_is
    (tn.showing.ends.made (peer e) b1 i x.seat tn.binding tn.interface seat) in
    let core1 : c1 ≡ k1.core = same_some (slice_get w1.cores n) c1 k1.core here k1.core_is in
    let wired_end : k1.wired_end ≡ x.wired_end
    = same_some (slice_get k1.core.wired_ends x.location) k1.wired_end x.wired_end k1.wired_end_is (ap (λ (c : TheCore). slice_get c.wired_ends x.location) (sym core1) ∙ x.wired_end_is) in
    let binding : k1.binding ≡ b1 = same_some (binding_of s1 e) k1.binding b1 k1.binding_is tn.binding in
    let queue : (end_in (other e.side) k1.binding).queue ≡ Some x.queue
    = ap (λ (b : Binding). (end_in (other e.side) b).queue) binding ∙ ap (λ (y : End). y.queue) tn.other ∙ x.queue_is in
    let puts = law.queue_puts (calls_off_links s) label x.queue x.there left (placed f) x.shows (put_of (calls_off_links s) label f next plain) put in
    let dl = delivered law w1 s1 (peer e) n x.location from out k1 c1 x.queue left label b2 tn.showing here (ap (λ (p : WiredEnd). p.wiring) wired_end ∙ x.wiring) queue
    (tn.queues (joined_by label x.queue) left puts.1) wakes in
    agreed (writes_fragment e s) dl.state (written number count) a (with_core (with_queue w1 out left) n (with_board c1 b2)) w2
    (found_writes e h.binding i s h.binding_is h.interface_is
    ∙ goes_writes e i h.binding (end_in e.side h.binding) s peer_queue more.0 more.1 (ap (outlet_by s e.side) x.back)
    ∙ ap (λ (y : Room). writes_to e i d peer_queue y s)
    (queue_room_is e s (end_in (other e.side) h.binding) x.queue (end_of_binding s (peer e) h.binding h.binding_is) x.queue_is ∙ puts.0)
    ∙ ap (λ (y : State). answers y (writes i d there_is_room).answer) dl.is
    ∙ ap (answers dl.state) answer)
    is
    (now
    ∙ ap (λ (c : TheCore). with_queue (with_core w n c) out left) core
    ∙ ap (λ (cores : List TheCore). record w { cores = cores; queues = slice_set w.queues out left }) (sym (set_twice w.cores n c1 (with_board h.core b2))))
    dl.showing

-- ---- the write

by_result : (law : WriteLaws) (w w2 : TheWorld) (s : State) (a : Answer) (e : EndId) (n place out from : ℕ) (h : Stands w s e n place) (x : HasPeer w s e n place h out from)
    (k k2 : TheCore) (q left : TheQueue) (r : Result WriteAnswer EndFault) (wrote : WritesAt QueuePuts place (at_side k q) r (at_side k2 left)) → Shows w s
    → h.wired_end.wiring ≡ Queues out from → slice_get w.cores n ≡ Some k → q ≡ x.there
    → Writes QueuePuts h.at.end q r wrote.writes.end left
    → WriteAgrees QueuePuts (machine_end h.interface e.side h.binding) q r wrote.writes.end left
    → IsWritten r a → w2 ≡ with_queue (with_core w n k2) out left → Agrees (writes_fragment e s) a w2
by_result law w w2 s a e n place out from h x k k2 q left (Ok (Written number count)) wrote shown wiring here queue its g told rest =
    let next : StandsFor s e h.interface (end_in e.side h.binding) local
    = subst (StandsFor s e h.interface (end_in e.side h.binding)) x.back
    (law.next s e h.binding h.interface shown.sound.routes shown.sound.numbers shown.sound.verdicts shown.sound.bound
    (record { binding = h.binding_is; interface = h.interface_is }) g.0.0) in
    let is = next ∙ g.1.1 in
    let plain = ((all_carried law w s shown).off_links e (written_of (end_in e.side h.binding).out) g.1.0 is).is_bare in
    let core : k ≡ h.core = same_some (slice_get w.cores n) k h.core here h.core_is in
    let who : joined_to k place ≡ Some x.location = ap (λ (c : TheCore). joined_to c place) core ∙ wakes w s e n place h out from x wiring in
    let tells : TriggersIf (Some x.location) wrote.wrote k2.board = subst (λ (o : Option ℕ). TriggersIf o wrote.wrote k2.board) who wrote.triggers in
    let board = wrote_board QueuePuts w s e n place h k k2 q left (Ok (Written number count)) wrote here in
    written_agrees law w w2 s a e n place out from h x left wrote.writes.end g.1.0 number count k2 k2.board shown g.0 is plain
    (subst (λ (p : TheQueue). QueuePuts p (placed g.1.0) left) queue g.1.2) g.2 g.3 told
    (subst (λ (b : TheBoard). Triggers x.location b k2.board) board tells)
    (wrote.rest ∙ ap (λ (c : TheCore). with_board c k2.board) core) rest
by_result law w w2 s a e n place out from h x k k2 q left (Ok Full) wrote shown wiring here queue its g told rest =
    let puts = law.queue_puts (calls_off_links s) (next_of e 0) x.queue x.there left no_room x.shows (none_put (calls_off_links s) (next_of e 0))
    (subst (λ (p : TheQueue). QueuePuts p no_room left) queue g.1) in
    agreed (writes_fragment e s) s full a w w2
    (found_writes e h.binding h.interface s h.binding_is h.interface_is
    ∙ goes_writes e h.interface h.binding (end_in e.side h.binding) s peer_queue g.0.0 g.0.1 (ap (outlet_by s e.side) x.back)
    ∙ ap (λ (y : Room). writes_to e h.interface (end_in e.side h.binding).out peer_queue y s)
    (queue_room_is e s (end_in (other e.side) h.binding) x.queue (end_of_binding s (peer e) h.binding h.binding_is) x.queue_is ∙ puts.0)
    ∙ ap (answers s) g.2)
    told
    (rest
    ∙ ap (λ (v : TheWorld). with_queue v out left)
    (core_still w s e n place h k2 wrote.writes.end (wrote_core QueuePuts w s e n place h k k2 q left (Ok Full) wrote here refl) its.3)
    ∙ ap (with_queue w out) (g.1.1 ∙ queue) ∙ same_queue_there w out x.there x.there_is)
    shown.showing
by_result law w w2 s a e n place out from h x k k2 q left (Err Spent) wrote shown wiring here queue its g told rest =
    absurd (law.queue_puts (calls_off_links s) (next_of e 0) x.queue x.there left spent x.shows (spent_put (calls_off_links s) (next_of e 0))
    (subst (λ (p : TheQueue). QueuePuts p spent left) queue g.1))
by_result law w w2 s a e n place out from h x k k2 q left (Ok Nothing) wrote shown wiring here queue its g told rest =
    agreed (writes_fragment e s) s nothing a w w2
    (found_writes e h.binding h.interface s h.binding_is h.interface_is ∙ idle_writes e h.interface h.binding (end_in e.side h.binding) s g.0 g.1)
    told
    (rest
    ∙ ap (λ (v : TheWorld). with_queue v out left)
    (core_still w s e n place h k2 wrote.writes.end (wrote_core QueuePuts w s e n place h k k2 q left (Ok Nothing) wrote here refl) its.3)
    ∙ ap (with_queue w out) (g.2 ∙ queue) ∙ same_queue_there w out x.there x.there_is)
    shown.showing
by_result law w w2 s a e n place out from h x k k2 q left (Err NotBound) wrote shown wiring here queue its g told rest =
    agreed (writes_fragment e s) s (refused 43) a w w2
    (found_writes e h.binding h.interface s h.binding_is h.interface_is ∙ unbound_writes e h.interface h.binding (end_in e.side h.binding) s g.0)
    told
    (rest
    ∙ ap (λ (v : TheWorld). with_queue v out left)
    (core_still w s e n place h k2 wrote.writes.end (wrote_core QueuePuts w s e n place h k k2 q left (Err NotBound) wrote here refl) its.2)
    ∙ ap (with_queue w out) (g.1 ∙ queue) ∙ same_queue_there w out x.there x.there_is)
    shown.showing
by_result law w w2 s a e n place out from h x k k2 q left (Err fault) wrote shown wiring here queue its g told rest = absurd g

-- a write over a queue that is lent
pub queue_write_agrees : (law : WriteLaws) (w w2 : TheWorld) (s : State) (a : Answer) (e : EndId) (n place out from : ℕ) (h : Stands w s e n place)
    (x : HasPeer w s e n place h out from) → Shows w s → h.wired_end.wiring ≡ Queues out from
    → OverQueue w n out (WritesWith QueuePuts (answer_at place a)) w2 → Agrees (writes_fragment e s) a w2
queue_write_agrees law w w2 s a e n place out from h x shown wiring over =
    let r = over.event.0 in
    let wrote = over.event.1 in
    let its = its_write QueuePuts w s e n place h over.before over.after over.queue over.left r wrote over.before_is in
    by_result law w w2 s a e n place out from h x over.before over.after over.queue over.left r wrote shown wiring over.before_is
    (same_some (slice_get w.queues out) over.queue x.there over.queue_is x.there_is) its
    (write_agrees QueuePuts law.queue_writes w s e n place shown h over.queue over.left r wrote.writes.end its) over.event.2 over.rest
