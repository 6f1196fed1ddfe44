-- Turns: what a turn of a dispatcher changes, and how the world goes on showing the machine's state: the side that is lent, the dispatcher's lists, and the two ends.
use Rattle.std.proofs.Common.{◌≡◌, refl, sym, ◌∙◌, ap, subst, ℕ, zero, suc, ◌+◌, ◌-◌, ◌≤◌, Bool, true, false, nat_lt, if◌then◌else◌, List, [], ◌∷◌, ◌++◌, length, map, drop, slice_get, slice_set, slice_index, Option, Some, None, is_some, arith}
use Rattle.fl_base.specs.declared.identity.EndId.{EndId}
use Rattle.fl_base.specs.Ends.{other, peer}
use Rattle.fl_base.specs.Prefix.{IsPrefix}
use Rattle.fl_base.specs.Given.{given}
use Rattle.fl_hop.proofs.Lists.{set_here}
use Rattle.fl_lists.specs.declared.place.Place.{Place}
use Rattle.fl_lists.specs.ThreeLists.{ThreeLists}
use Rattle.fl_value_data.specs.Value.{TheCall}
use Rattle.fl_wire.specs.Payload.{frags_on}
use Rattle.fl_link.specs.Queue.{QueueTakes}
use Rattle.fl_ring.specs.Side.{SideTakes}
use Rattle.fl_endpoint.specs.View.{TheEnd, number_or_0}
use Rattle.fl_core.specs.BoardView.{TheDispatcher, TheEndAtChannel, TheBoard, with_end, with_lists}
use Rattle.fl_core.specs.BoardTurns.{put_off}
use Rattle.fl_core.specs.View.{TheCore, place_of, with_board}
use Rattle.fl_model.specs.Given.{changed_at}
use Rattle.fl_model.specs.Calls.{Planned, total, last_count, stream}
use Rattle.fl_model.specs.Events.{DispatcherId}
use Rattle.fl_model.specs.Ends.{Direction, last_station, is_busy, accepts, accepts_or_waits, takes_one, Taken, whole, a_part, replies, rule_at, End, is_bound}
use Rattle.fl_model.specs.Waits.{Dispatcher, puts_off}
use Rattle.fl_model.specs.Monitors.{Core}
use Rattle.fl_model.specs.State.{Binding, State, binding_of, interface_of, end_in, dispatcher_of, change_dispatcher}
use Rattle.fl_model.specs.Taking.{takes_next}
use Rattle.fl_world_refines.specs.Ends.{outgoing_of, parts_of, circuit_of, EndShows}
use Rattle.fl_world_refines.specs.EndLaws.{ReceiveShows, OthersStay, PartsStay}
use Rattle.fl_world_refines.specs.RingLaws.{QueueTakeShows, RingTakes, LooksOnce}
use Rattle.fl_world_refines.specs.FragmentLaws.{CallsCarried, CallsAreCarried, NumbersAreSmall}
use Rattle.fl_world_refines.specs.StateLaws.{FirstIsInTurn, SmallNumbers}
use Rattle.fl_world_refines.specs.View.{TheWorld, with_core}
use Rattle.fl_world_refines.specs.ShowsState.{ShowsState, Shows}
use Rattle.fl_world_refines.proofs.Frames.{Stands, EndStays, OutStays, TakeFrame, ListsFrame, RingFrame, QueueFrame, ArrivalsFrame}
use Rattle.fl_world_refines.proofs.FramesBase.{same_some}
use Rattle.fl_world_refines.proofs.FramesWhole.{prefix_same}
use Rattle.fl_world_refines.proofs.WritingPieces.{core_twice, by_given, stands_made}
use Rattle.fl_world_refines.proofs.WritingMachine.{bound_not, long_enough, parts_stay}

-- the laws of parts that turns rest on
pub record TurnLaws : Type 0 where
  pub lists_frame : ListsFrame
  pub ring_frame : RingFrame
  pub queue_frame : QueueFrame
  pub arrivals_frame : ArrivalsFrame
  pub take_frame : TakeFrame
  pub queue_receives : ReceiveShows QueueTakes
  pub side_receives : ReceiveShows SideTakes
  pub queue_takes : QueueTakeShows
  pub ring_takes : RingTakes
  pub once : LooksOnce
  pub carried : CallsCarried
  pub first : FirstIsInTurn
  pub others : OthersStay
  pub small : SmallNumbers

pub small_numbers : (law : TurnLaws) (s : State) (w : TheWorld) → Shows w s → NumbersAreSmall s
small_numbers law s w h = law.small s h.sound.cores h.sound.numbers h.sound.opened_numbers

pub turn_carried : (law : TurnLaws) (s : State) (w : TheWorld) → Shows w s → CallsAreCarried s
turn_carried law s w h = law.carried s h.sound.calls h.showing.limits (small_numbers law s w h)

-- ---- whose turn it is

-- channel c of a dispatcher, whose end stands at this place
pub record DueAt (w : TheWorld) (s : State) (d : DispatcherId) (c place : ℕ) (e : EndId) : Type 0 where
  pub at : Stands w s e d.core place
  pub there : TheDispatcher
  pub there_is : slice_get at.core.board.dispatchers d.place ≡ Some there
  pub machine : Dispatcher
  pub machine_is : dispatcher_of s d ≡ Some machine
  pub lists : there.lists ≡ machine.lists
  pub end_is : slice_get machine.ends c ≡ Some e
  pub seat : at.seat ≡ record { dispatcher = d; channel = c }

-- ---- once the side that is lent has been changed

pub record Sided (w : TheWorld) (s : State) (d : DispatcherId) (c place : ℕ) (e : EndId) (u : DueAt w s d c place e) (v : TheWorld) (z : State) (core : TheCore) : Type 0 where
  pub showing : ShowsState v z
  pub core_is : slice_get v.cores d.core ≡ Some core
  pub board : core.board ≡ u.at.core.board
  pub place_is : place_of core e ≡ Some place
  pub cores : z.cores ≡ s.cores
  pub binding : Binding
  pub binding_is : binding_of z e ≡ Some binding
  pub interface_is : interface_of z binding ≡ Some u.at.interface
  pub seat : (end_in e.side binding).seat ≡ (end_in e.side u.at.binding).seat
  pub circuit : (end_in e.side binding).circuit ≡ (end_in e.side u.at.binding).circuit
  pub rules : (end_in e.side binding).rules ≡ (end_in e.side u.at.binding).rules
  pub out : (end_in e.side binding).out ≡ (end_in e.side u.at.binding).out
  pub other : end_in (other e.side) binding ≡ end_in (other e.side) u.at.binding

-- nothing has changed there
pub unsided : (w : TheWorld) (s : State) (d : DispatcherId) (c place : ℕ) (e : EndId) (u : DueAt w s d c place e) → Shows w s → Sided w s d c place e u w s u.at.core
unsided w s d c place e u shown = record {
  showing = shown.showing;
  core_is = u.at.core_is;
  board = refl;
  place_is = u.at.place_is;
  cores = refl;
  binding = u.at.binding;
  binding_is = u.at.binding_is;
  interface_is = u.at.interface_is;
  seat = refl;
  circuit = refl;
  rules = refl;
  out = refl;
  other = refl;
}

-- the channel goes to the back of a list
pub lists_change : (law : TurnLaws) (w : TheWorld) (s : State) (d : DispatcherId) (c place : ℕ) (e : EndId) (u : DueAt w s d c place e) (v : TheWorld) (z : State)
    (core : TheCore) (from to : Place) → Sided w s d c place e u v z core
    → ShowsState (with_core v d.core (with_board core (with_lists core.board d.place u.there (put_off u.there.lists from c to)))) (change_dispatcher d (puts_off from c to) z)
lists_change law w s d c place e u v z core from to h =
    law.lists_frame v z d core u.there u.machine (puts_off from c to) (put_off u.there.lists from c to) h.showing h.core_is
    (ap (λ (b : TheBoard). slice_get b.dispatchers d.place) h.board ∙ u.there_is)
    (ap (λ (cores : List Core). given (slice_get cores d.core) None λ k. slice_get k.dispatchers d.place) h.cores ∙ u.machine_is)
    refl (ap (λ (l : ThreeLists). put_off l from c to) u.lists)

-- ---- replies

pub replies_seat : (i : Planned) (t : Taken) (x : End) → (replies i t x).seat ≡ x.seat
replies_seat i a_part x = refl
replies_seat i (whole c) x = by_given (λ (y : End). y.seat ≡ x.seat) (rule_at x.rules c.msg) x _ refl (λ msg q. refl)

pub replies_queue : (i : Planned) (t : Taken) (x : End) → (replies i t x).queue ≡ x.queue
replies_queue i a_part x = refl
replies_queue i (whole c) x = by_given (λ (y : End). y.queue ≡ x.queue) (rule_at x.rules c.msg) x _ refl (λ msg q. refl)

pub replies_circuit : (i : Planned) (t : Taken) (x : End) → (replies i t x).circuit ≡ x.circuit
replies_circuit i a_part x = refl
replies_circuit i (whole c) x = by_given (λ (y : End). y.circuit ≡ x.circuit) (rule_at x.rules c.msg) x _ refl (λ msg q. refl)

pub replies_rules : (i : Planned) (t : Taken) (x : End) → (replies i t x).rules ≡ x.rules
replies_rules i a_part x = refl
replies_rules i (whole c) x = by_given (λ (y : End). y.rules ≡ x.rules) (rule_at x.rules c.msg) x _ refl (λ msg q. refl)

-- what the end has to send after it
abbrev reply_out : Planned → Taken → List (Option ℕ) → Direction → Direction
reply_out i a_part rules out = out
reply_out i (whole c) rules out = given (rule_at rules c.msg) out λ msg. accepts_or_waits i (record { msg = msg; args = c.args }) out

out_by : (o : Option ℕ) (i : Planned) (c : TheCall) (x : End)
    → End.out (given o x λ msg. record x { out = accepts_or_waits i (record { msg = msg; args = c.args }) x.out })
    ≡ given o x.out λ msg. accepts_or_waits i (record { msg = msg; args = c.args }) x.out
out_by None i c x = refl
out_by (Some msg) i c x = refl

replies_out : (i : Planned) (t : Taken) (x : End) → (replies i t x).out ≡ reply_out i t x.rules x.out
replies_out i a_part x = refl
replies_out i (whole c) x = out_by (rule_at x.rules c.msg) i c x

by_either : (P : Direction → Type 0) (b : Bool) (x y : Direction) → P x → P y → P (if b then x else y)
by_either P true x y h k = h
by_either P false x y h k = k

accepts_more : (i : Planned) (c : TheCall) (d : Direction) → IsPrefix d.accepted (accepts_or_waits i c d).accepted
accepts_more i c d =
    by_either (λ (y : Direction). IsPrefix d.accepted y.accepted) (is_busy i d) (record d { waiting = d.waiting ++ c ∷ [] }) (accepts c d)
    (prefix_same d.accepted) (c ∷ [], refl)

replies_more : (i : Planned) (t : Taken) (rules : List (Option ℕ)) (out : Direction) → IsPrefix out.accepted (reply_out i t rules out).accepted
replies_more i a_part rules out = prefix_same out.accepted
replies_more i (whole c) rules out =
    by_given (λ (y : Direction). IsPrefix out.accepted y.accepted) (rule_at rules c.msg) out (λ msg. accepts_or_waits i (record { msg = msg; args = c.args }) out)
    (prefix_same out.accepted) (λ msg q. accepts_more i (record { msg = msg; args = c.args }) out)

replies_parts : (i : Planned) (t : Taken) (rules : List (Option ℕ)) (out : Direction) → PartsStay i out → parts_of i (reply_out i t rules out) ≡ parts_of i out
replies_parts i a_part rules out h = refl
replies_parts i (whole c) rules out h =
    by_given (λ (y : Direction). parts_of i y ≡ parts_of i out) (rule_at rules c.msg) out (λ msg. accepts_or_waits i (record { msg = msg; args = c.args }) out)
    refl (λ msg q. h.replying (record { msg = msg; args = c.args }))

replies_stay : (i : Planned) (t : Taken) (x : End) → PartsStay i x.out → is_bound x ≡ true → EndStays i x (replies i t x)
replies_stay i t x h bound = record {
  seat = replies_seat i t x;
  queue = replies_queue i t x;
  accepted = subst (λ (y : Direction). IsPrefix x.out.accepted y.accepted) (sym (replies_out i t x)) (replies_more i t x.rules x.out);
  parts = ap (parts_of i) (replies_out i t x) ∙ replies_parts i t x.rules x.out h;
  silent = λ q. bound_not x bound (sym (replies_circuit i t x) ∙ q);
}

-- an end that differs in its queue alone shows the same
pub shows_like : (i : Planned) (x y : End) (p : Direction) (t : TheEnd) → y.circuit ≡ x.circuit → y.rules ≡ x.rules → y.out ≡ x.out → EndShows i x p t → EndShows i y p t
shows_like i x y p t circuit rules out h = record {
  program = h.program;
  circuit = h.circuit ∙ sym circuit;
  rules = h.rules ∙ sym rules;
  outgoing = h.outgoing
      ∙ ap (λ (d : Direction). outgoing_of (circuit_of x) i d) (sym out)
      ∙ ap (λ (o : Option ℕ). outgoing_of (number_or_0 o) i y.out) (sym circuit);
  parts = h.parts;
  failed = h.failed;
}

replies_like : (i : Planned) (t : Taken) (x y : End) (p : Direction) (s : TheEnd) → y.circuit ≡ x.circuit → y.rules ≡ x.rules → y.out ≡ x.out
    → EndShows i (replies i t x) p s → EndShows i (replies i t y) p s
replies_like i t x y p s circuit rules out h =
    shows_like i (replies i t x) (replies i t y) p s
    (replies_circuit i t y ∙ circuit ∙ sym (replies_circuit i t x))
    (replies_rules i t y ∙ rules ∙ sym (replies_rules i t x))
    (replies_out i t y ∙ ap (λ (r : List (Option ℕ)). reply_out i t r y.out) rules ∙ ap (reply_out i t x.rules) out ∙ sym (replies_out i t x))
    h

-- ---- one fragment more is taken

set_first : (xs : List ℕ) (n x : ℕ) → slice_index (slice_set xs (suc n) x) 0 ≡ slice_index xs 0
set_first [] n x = refl
set_first (y ∷ xs) n x = refl

first_stays : (xs : List ℕ) (n : ℕ) → 1 ≤ n → slice_index (changed_at n (λ k. k + 1) xs) 0 ≡ slice_index xs 0
first_stays xs zero h = absurd (omega (arith, h))
first_stays xs (suc n) h =
    by_given (λ (ys : List ℕ). slice_index ys 0 ≡ slice_index xs 0) (slice_get xs (suc n)) xs (λ x. slice_set xs (suc n) (x + 1)) refl
    (λ x q. set_first xs n (x + 1))

pub takes_stay : (i : Planned) (d : Direction) → 2 ≤ length d.passed → OutStays i d (takes_one d)
takes_stay i d h = record {
  accepted = refl;
  outgoing = λ circuit. ap (λ (n : ℕ). record {
    unwritten = drop n (stream circuit i d.accepted);
    count = if nat_lt n (total i d.accepted) then last_count i d.accepted else 0;
    waiting = map (frags_on circuit i.plan i.interface) d.waiting;
  }) (first_stays d.passed (last_station d) (let k : last_station d ≡ length d.passed - 1 = refl in omega (arith, h, k)));
}

-- ---- the end takes it

abbrev Premises : Taken → TheEnd → EndId → Planned → Binding → Type 0
Premises t end e i b =
    EndStays i (end_in e.side b) (replies i t (end_in e.side b))
    × OutStays i (end_in (other e.side) b).out (takes_one (end_in (other e.side) b).out)
    × EndShows i (replies i t (end_in e.side b)) (takes_one (end_in (other e.side) b).out) end

pub take_change : (law : TurnLaws) (w : TheWorld) (s : State) (d : DispatcherId) (c place : ℕ) (e : EndId) (u : DueAt w s d c place e) (v : TheWorld) (z : State)
    (core : TheCore) (from to : Place) (t : Taken) (end : TheEnd) → Shows w s → Sided w s d c place e u v z core → is_bound (end_in e.side u.at.binding) ≡ true
    → EndShows u.at.interface (replies u.at.interface t (end_in e.side u.at.binding)) (takes_one (end_in (other e.side) u.at.binding).out) end
    → ShowsState (with_core v d.core (with_board core (with_end (with_lists core.board d.place u.there (put_off u.there.lists from c to)) place u.at.at end)))
    (takes_next e (peer e) t u.at.interface (change_dispatcher d (puts_off from c to) z))
take_change law w s d c place e u v z core from to t end shown h bound shows =
    let i : Planned = u.at.interface in
    let x : End = end_in e.side u.at.binding in
    let y : End = end_in e.side h.binding in
    let board : TheBoard = with_lists core.board d.place u.there (put_off u.there.lists from c to) in
    let core2 : TheCore = with_board core board in
    let v2 : TheWorld = with_core v d.core core2 in
    let z2 : State = change_dispatcher d (puts_off from c to) z in
    let p2 : ShowsState v2 z2 = lists_change law w s d c place e u v z core from to h in
    let here : slice_get v2.cores d.core ≡ Some core2 = set_here v.cores d.core core core2 h.core_is in
    let seat : (end_in e.side h.binding).seat ≡ Some u.at.seat = h.seat ∙ u.at.seat_is in
    let k : Stands v2 z2 e d.core place = stands_made v2 z2 e d.core place h.binding i u.at.seat core2 h.binding_is h.interface_is seat u.at.core_at here h.place_is
    (p2.ends.made e h.binding i u.at.seat h.binding_is h.interface_is seat) in
    let core_same : k.core ≡ core2 = same_some (slice_get v2.cores d.core) k.core core2 k.core_is here in
    let binding_same : h.binding ≡ k.binding = same_some (binding_of z2 e) h.binding k.binding h.binding_is k.binding_is in
    let interface_same : i ≡ k.interface
    = same_some (interface_of z2 h.binding) i k.interface h.interface_is (ap (λ (b : Binding). interface_of z2 b) binding_same ∙ k.interface_is) in
    let at_same : k.at ≡ u.at.at = same_some (slice_get k.core.board.seats place) k.at u.at.at k.at_is
    (ap (λ (q : TheCore). slice_get q.board.seats place) core_same ∙ ap (λ (b : TheBoard). slice_get b.seats place) h.board ∙ u.at.at_is) in
    let stay : PartsStay i y.out
    = subst (λ (o : Direction). PartsStay i o) (sym h.out) (parts_stay s e u.at.binding i law.first law.others shown.sound u.at.binding_is u.at.interface_is) in
    let wide : 2 ≤ length (end_in (other e.side) h.binding).out.passed
    = subst (λ (o : End). 2 ≤ length o.out.passed) (sym h.other) (long_enough s (peer e) u.at.binding shown.sound u.at.binding_is) in
    let shown2 : EndShows i (replies i t y) (takes_one (end_in (other e.side) h.binding).out) end
    = subst (λ (o : End). EndShows i (replies i t y) (takes_one o.out) end) (sym h.other) (replies_like i t x y _ end h.circuit h.rules h.out shows) in
    let first : Premises t end e i h.binding = (
      replies_stay i t y stay (ap (λ (o : Option ℕ). is_some o) h.circuit ∙ bound),
      takes_stay i (end_in (other e.side) h.binding).out wide,
      shown2,
    ) in
    let all : Premises t end e k.interface k.binding
    = subst (λ (b : Binding). Premises t end e k.interface b) binding_same (subst (λ (j : Planned). Premises t end e j h.binding) interface_same first) in
    let p3 = law.take_frame v2 z2 e d.core place k (replies i t) takes_one end p2
    (subst (λ (j : Planned). EndStays k.interface (end_in e.side k.binding) (replies j t (end_in e.side k.binding))) (sym interface_same) all.0)
    all.1
    (subst (λ (j : Planned). EndShows k.interface (replies j t (end_in e.side k.binding)) (takes_one (end_in (other e.side) k.binding).out) end) (sym interface_same) all.2) in
    subst (λ (q : TheWorld). ShowsState q (takes_next e (peer e) t i z2))
    (ap (λ (q : TheCore). with_core v2 d.core (with_board q (with_end q.board place k.at end))) core_same
    ∙ ap (λ (a : TheEndAtChannel). with_core v2 d.core (with_board core2 (with_end board place a end))) at_same
    ∙ core_twice v d.core core2 (with_board core2 (with_end board place u.at.at end)))
    p3
