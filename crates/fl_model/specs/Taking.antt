-- Events by which a dispatcher takes: a turn of its waitset, and what an end says of itself: it acknowledges,
-- registers its channel or deregisters it, sets a reply rule. The refusals stand in the order in which they
-- are answered, and change nothing.
use Rattle.std.specs.Prelude.{ℕ, ◌&&◌, nat_lt, not, Bool, false, if◌then◌else◌, List, length, slice_get}
use Rattle.std.specs.Prelude.{Option, Some, None}
use Rattle.fl_base.specs.declared.identity.EndId.{EndId}
use Rattle.fl_base.specs.Given.{given}
use Rattle.fl_lists.specs.declared.place.Place.{Place}
use Rattle.fl_lists.specs.declared.place.Place.TheVariants.{Polled, Pending}
use Rattle.fl_waitset.specs.Waiting.{is_registered}
use Rattle.fl_interface.specs.Interface.{TheArgType}
use Rattle.fl_value_data.specs.Tape.{types_of}
use Rattle.fl_model.specs.Events.{DispatcherId, Answer, done, nothing, full, handle, part, ready, quiet}
use Rattle.fl_model.specs.Events.{refused}
use Rattle.fl_model.specs.Calls.{Planned}
use Rattle.fl_interface.specs.SameTypes.{same_arguments}
use Rattle.fl_model.specs.Rings.{Label, next_of, acknowledges, RingEnd, looks, Room}
use Rattle.fl_model.specs.Rings.{there_is_room, puts, takes, for_acknowledgement, owes}
use Rattle.fl_model.specs.Ends.{Queue, without_first, End, is_bound, with_rule, holds_back, Taken, whole}
use Rattle.fl_model.specs.Ends.{a_part, takes_one, comes_to, replies}
use Rattle.fl_model.specs.Waits.{Dispatcher, waits_in, deregisters, puts_off, pending, polled, no_one, Due}
use Rattle.fl_model.specs.Waits.{due}
use Rattle.fl_model.specs.State.{Back, first_on, ring_makes_sure, ring_room, State, StepOutcome, answers}
use Rattle.fl_model.specs.State.{dispatcher_of, binding_of, interface_of, end_in}
use Rattle.fl_model.specs.State.{end_of, change_dispatcher, change_ring, change_end, change_out, in_queue}
use Rattle.fl_model.specs.State.{change_channel, registers_end, own_ring}

-- ---- a turn: a pending channel is given a fragment

-- the channel whose turn it is, and its end
pub record Chosen : Type 0 where
  pub dispatcher : DispatcherId
  pub channel : ℕ
  pub end : EndId

-- the end takes the next fragment of the calls that another makes, and handles the call that becomes whole
abbrev pub takes_next : EndId → EndId → Taken → Planned → State → State
takes_next e sender taken i s = change_end e (replies i taken) (change_out sender takes_one s)

-- the call that became whole is handled; else more of it is to come
abbrev pub taken_answer : EndId → Taken → Answer
taken_answer e (whole c) = handle e c
taken_answer e a_part = part e

-- the end has this label before it: a fragment of a call, or one that belongs to none
abbrev pub takes_label : EndId → Planned → Label → State → StepOutcome
takes_label e i (next_of sender k) s =
    given (end_of s sender) (answers s (quiet e)) λ y.
    let taken = comes_to i y.out in
    answers (takes_next e sender taken i s) (taken_answer e taken)
takes_label e i label s = answers s (quiet e)

-- the channel was first pending, and goes to the back of a list
abbrev pub goes_back : Chosen → Place → State → State
goes_back t to s = change_dispatcher t.dispatcher (puts_off Pending t.channel to) s

-- from a queue: the channel goes back to pending where the queue still holds a fragment, and else to idle. A
-- pending channel without a fragment, which no run meets, does so too, and nothing is answered
abbrev pub gives_from_queue : Chosen → Planned → Queue → State → StepOutcome
gives_from_queue t i q s =
    given (slice_get q.labels 0) (answers (goes_back t (waits_in (Some q)) s) nothing) λ label.
    let taken = change_end t.end (in_queue without_first) s in
    takes_label t.end i label (goes_back t (waits_in (Some (without_first q))) taken)

-- from a ring: the channel goes to the back of polled
abbrev pub gives_from_ring : Chosen → Planned → RingEnd → State → StepOutcome
gives_from_ring t i at s =
    given (first_on at s) (answers (goes_back t Polled s) nothing) λ first.
    takes_label t.end i first.label (goes_back t Polled (change_ring at.ring (takes at.side) s))

-- from its queue; an end that has none takes from its binding's ring
abbrev pub gives_by : Chosen → Planned → Option Queue → Back → State → StepOutcome
gives_by t i (Some q) back s = gives_from_queue t i q s
gives_by t i None back s =
    given (own_ring t.end.side back) (answers s nothing) λ at.
    gives_from_ring t i at s

-- an end with a rule at which 16 replies wait takes nothing, and its channel goes to the back of pending
abbrev pub gives : Chosen → State → StepOutcome
gives t s =
    given (binding_of s t.end) (answers s nothing) λ b.
    given (interface_of s b) (answers s nothing) λ i.
    let x = end_in t.end.side b in
    if holds_back x then answers (goes_back t Pending s) full else gives_by t i x.queue b.back s

-- ---- a turn: a polled channel is examined

-- the channel was first polled, and goes to the back of a list
abbrev pub comes_off : Chosen → Place → State → State
comes_off t to s = change_dispatcher t.dispatcher (puts_off Polled t.channel to) s

-- by what stands first, which was looked at: a fragment of a call leaves the channel pending; one that only
-- acknowledges is taken
abbrev pub finds : Chosen → RingEnd → Label → State → StepOutcome
finds t at acknowledges s = answers (comes_off t Polled (change_ring at.ring (takes at.side) s)) (quiet t.end)
finds t at label s = answers (comes_off t Pending s) (ready t.end)

-- the end looks at its ring; where nothing stands there its channel stays polled, behind the others
abbrev pub examines : Chosen → State → StepOutcome
examines t s =
    given (binding_of s t.end) (answers s nothing) λ b.
    given (own_ring t.end.side b.back) (answers s nothing) λ at.
    given (first_on at s) (answers (comes_off t Polled s) (quiet t.end)) λ first.
    finds t at first.label (change_ring at.ring (looks at.side) s)

-- ---- a turn

abbrev pub chosen : DispatcherId → ℕ → EndId → Chosen
chosen d c e = record { dispatcher = d; channel = c; end = e }

-- where no channel is pending or polled, there is nothing to do
abbrev pub turns_by : DispatcherId → Dispatcher → Due → State → StepOutcome
turns_by d x (pending c) s = given (slice_get x.ends c) (answers s nothing) λ e. gives (chosen d c e) s
turns_by d x (polled c) s = given (slice_get x.ends c) (answers s nothing) λ e. examines (chosen d c e) s
turns_by d x no_one s = answers s nothing

abbrev pub turns : DispatcherId → State → StepOutcome
turns d s = given (dispatcher_of s d) (answers s (refused 92)) λ x. turns_by d x (due x) s

-- ---- an end of a ring acknowledges

-- by the room that there is for one more fragment
abbrev pub acknowledges_by : RingEnd → Room → State → StepOutcome
acknowledges_by at there_is_room s = answers (change_ring at.ring (puts at.side acknowledges) s) done
acknowledges_by at r s = answers s full

-- where half a ring was read and isn't told
abbrev pub acknowledges_on : RingEnd → State → StepOutcome
acknowledges_on at s =
    given (slice_get s.rings at.ring) (answers s nothing) λ r.
    if not (owes at.side r) then answers s nothing
    else
    let looked = ring_makes_sure for_acknowledgement at s in
    acknowledges_by at (ring_room for_acknowledgement at looked) looked

-- E43: the end isn't bound; where no ring is its binding's own, it has nothing to acknowledge
abbrev pub acknowledges_end : EndId → State → StepOutcome
acknowledges_end e s =
    given (binding_of s e) (answers s (refused 92)) λ b.
    if not (is_bound (end_in e.side b)) then answers s (refused 43)
    else given (own_ring e.side b.back) (answers s nothing) λ at.
    acknowledges_on at s

-- ---- an end's channel is registered, or deregistered

-- the end is seated, and its channel stands in one of its dispatcher's lists
abbrev pub has_channel_listed : End → State → Bool
has_channel_listed x s =
    given x.seat false λ seat.
    given (dispatcher_of s seat.dispatcher) false λ d.
    is_registered d.lists seat.channel

-- it comes to the list in which it has to wait; E43: the end isn't bound; E50: it stands in a list already
abbrev pub registers_channel : EndId → State → StepOutcome
registers_channel e s =
    given (end_of s e) (answers s (refused 92)) λ x.
    if not (is_bound x) then answers s (refused 43)
    else if has_channel_listed x s then answers s (refused 50)
    else answers (registers_end e s) done

-- what comes for it waits until it is registered again; E43: the end isn't bound; E51: it is in no list
abbrev pub deregisters_channel : EndId → State → StepOutcome
deregisters_channel e s =
    given (end_of s e) (answers s (refused 92)) λ x.
    if not (is_bound x) then answers s (refused 43)
    else if not (has_channel_listed x s) then answers s (refused 51)
    else answers (change_channel e (λ c y. deregisters c) s) done

-- ---- a reply rule, which may be set before the end is bound

abbrev pub has_message : ℕ → Planned → Bool
has_message msg i = nat_lt msg (length i.interface.messages)

abbrev pub arguments_of : ℕ → Planned → List TheArgType
arguments_of msg i = types_of (slice_get i.interface.messages msg)

-- E41: one of the two messages isn't there; E42: they have different argument types
abbrev pub sets_rule : EndId → ℕ → ℕ → State → StepOutcome
sets_rule e msg answer s =
    given (binding_of s e) (answers s (refused 92)) λ b.
    given (interface_of s b) (answers s (refused 92)) λ i.
    if not (has_message msg i && has_message answer i) then answers s (refused 41)
    else if not (same_arguments (arguments_of msg i) (arguments_of answer i)) then answers s (refused 42)
    else answers (change_end e (with_rule msg answer) s) done
