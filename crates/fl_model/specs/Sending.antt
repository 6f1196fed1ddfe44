-- Events by which an end sends: a call is made, the next fragment is shown, and written. The refusals stand
-- in the order in which they are answered, and change nothing.
use Rattle.std.specs.Prelude.{ℕ, ◌-◌, ◌/◌, ◌%◌, nat_le, not, if◌then◌else◌, length, slice_get, Option}
use Rattle.std.specs.Prelude.{unwrap_or}
use Rattle.fl_base.specs.declared.fragment.Frag.{Frag}
use Rattle.fl_base.specs.declared.identity.EndId.{EndId}
use Rattle.fl_base.specs.Ends.{peer}
use Rattle.fl_base.specs.Control.{stamped}
use Rattle.fl_base.specs.Given.{given}
use Rattle.fl_value_data.specs.Value.{TheCall}
use Rattle.fl_value_data.specs.Fits.{fits_of}
use Rattle.fl_model.specs.Events.{accepted, nothing, words, refused}
use Rattle.fl_model.specs.Calls.{Planned, stream}
use Rattle.fl_model.specs.Rings.{Label, next_of, Ring, RingSide, written_by, read_by, Room}
use Rattle.fl_model.specs.Rings.{there_is_room, no_room, puts, for_data}
use Rattle.fl_model.specs.Ends.{queue_room, Direction, written_of, is_busy, accepts, writes, End, is_bound}
use Rattle.fl_model.specs.State.{Binding, State, StepOutcome, answers, binding_of, interface_of, end_in, end_of}
use Rattle.fl_model.specs.State.{change_ring, ring_makes_sure, ring_room, change_out, Outlet, peer_queue}
use Rattle.fl_model.specs.State.{ring_side, outlet_by, delivers}

-- ---- a call

-- E41: no such message; E42: the arguments don't fit it; E43: the end isn't bound; E40: it is busy
abbrev pub makes_call : EndId → TheCall → Planned → End → State → StepOutcome
makes_call e c i x s =
    if nat_le (length i.interface.messages) c.msg then answers s (refused 41)
    else if not (fits_of i.interface c) then answers s (refused 42)
    else if not (is_bound x) then answers s (refused 43)
    else if is_busy i x.out then answers s (refused 40)
    else answers (change_out e (accepts c) s) accepted

-- E92, as in every event of an end: its binding isn't there
abbrev pub calls : EndId → TheCall → State → StepOutcome
calls e c s =
    given (binding_of s e) (answers s (refused 92)) λ b.
    given (interface_of s b) (answers s (refused 92)) λ i.
    makes_call e c i (end_in e.side b) s

-- ---- where the next fragment would go

-- whether an end's outlet has room for data
abbrev pub outlet_room : EndId → Outlet → State → Room
outlet_room e peer_queue s = given (end_of s (peer e)) no_room λ x. given x.queue no_room queue_room
outlet_room e (ring_side at) s = ring_room for_data at s

-- a ring is looked at where too few slots are known to be free
abbrev pub makes_sure_of : Outlet → State → State
makes_sure_of peer_queue s = s
makes_sure_of (ring_side at) s = ring_makes_sure for_data at s

-- the label goes there
abbrev pub puts_to : EndId → Outlet → Label → State → State
puts_to e peer_queue label s = delivers label (peer e) s
puts_to e (ring_side at) label s = change_ring at.ring (puts at.side label) s

-- ---- what would be written next

-- the epoch of the fragment that is put next: 1 in the first round of a ring, 0 in the second, and so on; 1
-- in a queue
abbrev pub epoch_next : RingSide → Ring → ℕ
epoch_next side r = 1 - (written_by side r).sent / r.size % 2

-- the fragment as it would stand there, with what it tells, a number of 16 bits
abbrev pub stamped_for : Outlet → State → Frag → Frag
stamped_for peer_queue s f = stamped f 1 0
stamped_for (ring_side at) s f =
    given (slice_get s.rings at.ring) f λ r.
    stamped f (epoch_next at.side r) ((read_by at.side r).read % 65536)

-- the next of the fragments of all the end's calls, on its circuit
abbrev pub next_fragment : Planned → End → Option Frag
next_fragment i x = slice_get (stream (unwrap_or x.circuit 0) i x.out.accepted) (written_of x.out)

-- nothing changes; the answer is `nothing` where no fragment is left to write; E43: the end isn't bound
abbrev pub shows_next : EndId → Planned → Binding → End → State → StepOutcome
shows_next e i b x s =
    if not (is_bound x) then answers s (refused 43)
    else given (next_fragment i x) (answers s nothing) λ f.
    given (outlet_by s e.side b.back) (answers s nothing) λ o.
    answers s (words (stamped_for o s f))

abbrev pub shows : EndId → State → StepOutcome
shows e s =
    given (binding_of s e) (answers s (refused 92)) λ b.
    given (interface_of s b) (answers s (refused 92)) λ i.
    shows_next e i b (end_in e.side b) s

-- ---- a write

-- by the room that there is: the next fragment's label goes to the outlet, or nothing changes
abbrev pub writes_to : EndId → Planned → Direction → Outlet → Room → State → StepOutcome
writes_to e i d o there_is_room s = record {
  state = puts_to e o (next_of e (written_of d)) (change_out e (λ x. (writes i x there_is_room).direction) s);
  answer = (writes i d there_is_room).answer;
}
writes_to e i d o r s = answers s (writes i d r).answer

-- an end with nothing to send looks at nothing
abbrev pub writes_next : EndId → Planned → Binding → End → State → StepOutcome
writes_next e i b x s =
    if not (is_bound x) then answers s (refused 43)
    else if not (is_busy i x.out) then answers s nothing
    else given (outlet_by s e.side b.back) (answers s nothing) λ o.
    let looked = makes_sure_of o s in
    writes_to e i x.out o (outlet_room e o looked) looked

abbrev pub writes_fragment : EndId → State → StepOutcome
writes_fragment e s =
    given (binding_of s e) (answers s (refused 92)) λ b.
    given (interface_of s b) (answers s (refused 92)) λ i.
    writes_next e i b (end_in e.side b) s
