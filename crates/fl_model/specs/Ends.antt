-- One end of a binding: the calls that it makes, its reply rules, and the queue that it takes from.
use Rattle.std.specs.Prelude.{ℕ, ◌+◌, ◌-◌, ◌&&◌, nat_le, nat_lt, Bool, if◌then◌else◌, List, [], ◌∷◌, ◌++◌}
use Rattle.std.specs.Prelude.{drop, length, replicate, slice_get, slice_index, slice_set, Option, Some, None}
use Rattle.std.specs.Prelude.{is_some}
use Rattle.std.specs.List.{list_any}
use Rattle.fl_base.specs.Given.{given}
use Rattle.fl_value_data.specs.Value.{TheCall}
use Rattle.fl_model.specs.Given.{changed_at}
use Rattle.fl_model.specs.Events.{DispatcherId, Answer, nothing, full, written, refused}
use Rattle.fl_model.specs.Calls.{Planned, total, last_count, whole_in}
use Rattle.fl_model.specs.Rings.{Label, Room, there_is_room, no_room, spent}

-- ---- queues

-- a local queue, or the arrival queue of an end of a circuit
pub record Queue : Type 0 where
  pub labels : List Label
  pub capacity : ℕ

abbrev pub fresh_queue : ℕ → Queue
fresh_queue capacity = record { labels = []; capacity = capacity }

abbrev pub has_room : Queue → Bool
has_room q = nat_lt (length q.labels) q.capacity

-- unlike a ring, a queue is never spent
abbrev pub queue_room : Queue → Room
queue_room q = if has_room q then there_is_room else no_room

-- a label goes to the back
abbrev pub joined_by : Label → Queue → Queue
joined_by label q = record q { labels = q.labels ++ label ∷ [] }

-- the first label is taken
abbrev pub without_first : Queue → Queue
without_first q = record q { labels = drop 1 q.labels }

-- ---- directions

-- the calls that an end makes, on their way to the other end
pub record Direction : Type 0 where
  -- the calls that were accepted, and the replies that wait to be
  pub accepted : List TheCall
  pub waiting : List TheCall
  -- how many of their fragments have passed each station: the write, then each link's exit, then the other
  -- end's take
  pub passed : List ℕ

-- no call yet, and no fragment past any of so many stations
abbrev pub fresh_direction : ℕ → Direction
fresh_direction stations = record { accepted = []; waiting = []; passed = replicate stations 0 }

-- how many fragments of its calls the end has written: the write is the first station
abbrev pub written_of : Direction → ℕ
written_of d = slice_index d.passed 0

-- the place of the last station, the other end's take
abbrev pub last_station : Direction → ℕ
last_station d = length d.passed - 1

-- how many fragments of these calls the other end has taken
abbrev pub taken_of : Direction → ℕ
taken_of d = slice_index d.passed (last_station d)

-- one more fragment has passed a station
abbrev pub passes : ℕ → Direction → Direction
passes station d = record d { passed = changed_at station (λ n. n + 1) d.passed }

-- an end is busy while a fragment of its calls isn't written
abbrev pub is_busy : Planned → Direction → Bool
is_busy i d = nat_lt (written_of d) (total i d.accepted)

-- one more call, behind those that were accepted before
abbrev pub accepts : TheCall → Direction → Direction
accepts c d = record d { accepted = d.accepted ++ c ∷ [] }

-- a reply is accepted at once, but waits where the end is busy
abbrev pub accepts_or_waits : Planned → TheCall → Direction → Direction
accepts_or_waits i c d = if is_busy i d then record d { waiting = d.waiting ++ c ∷ [] } else accepts c d

-- the first reply that waits is accepted
abbrev pub accepts_waiting : List TheCall → Direction → Direction
accepts_waiting [] d = d
accepts_waiting (c ∷ cs) d = record d { accepted = d.accepted ++ c ∷ []; waiting = cs }

-- where all is written, the first reply that waits is accepted
abbrev pub goes_on : Planned → Direction → Direction
goes_on i d = if is_busy i d then d else accepts_waiting d.waiting d

-- which fragment, of how many of the last call, is written next
abbrev pub progress : Planned → Direction → Answer
progress i d =
    let n = last_count i d.accepted in
    written (written_of d + 1 + n - total i d.accepted) n

-- the calls that the other end has handled
abbrev pub handled : Planned → Direction → List TheCall
handled i d = whole_in i d.accepted (taken_of d)

-- ---- writing, by the room that there is

-- what a write makes of a direction, and what it answers
pub record Wrote : Type 0 where
  pub direction : Direction
  pub answer : Answer

-- where there is room, one fragment is written, and after the last the first waiting reply is accepted; else
-- nothing changes, and on a spent ring the write is refused
abbrev pub writes_by : Planned → Direction → Room → Wrote
writes_by i d there_is_room = record { direction = goes_on i (passes 0 d); answer = progress i d }
writes_by i d no_room = record { direction = d; answer = full }
writes_by i d spent = record { direction = d; answer = refused 33 }

-- where the end isn't busy, room isn't asked for
abbrev pub writes : Planned → Direction → Room → Wrote
writes i d r = if is_busy i d then writes_by i d r else record { direction = d; answer = nothing }

-- ---- ends

-- where an end's channel is
pub record Seat : Type 0 where
  pub dispatcher : DispatcherId
  pub channel : ℕ

pub record End : Type 0 where
  -- none before it is made (the server's end of a circuit)
  pub seat : Option Seat
  -- the circuit's number that its fragments carry, 0 off links; none before it is bound
  pub circuit : Option ℕ
  -- for each message, the message of the reply to it, where there is a rule
  pub rules : List (Option ℕ)
  -- the calls that it makes
  pub out : Direction
  -- the queue that it takes from; none where it takes from a ring
  pub queue : Option Queue

-- from the bind on where queues or a ring join the ends; over a route only when a monitor opens it
abbrev pub is_bound : End → Bool
is_bound x = is_some x.circuit

-- an end that isn't bound, of an interface with so many messages, whose calls pass so many stations
abbrev pub unbound_end : ℕ → ℕ → Option Queue → End
unbound_end messages stations queue =
    record {
      seat = None;
      circuit = None;
      rules = replicate messages None;
      out = fresh_direction stations;
      queue = queue;
    }

-- ---- reply rules

-- with which message the end replies to this one, if it has a rule for it
abbrev pub rule_at : List (Option ℕ) → ℕ → Option ℕ
rule_at rules msg = given (slice_get rules msg) None λ rule. rule

-- a later rule for the same message replaces the earlier
abbrev pub with_rule : ℕ → ℕ → End → End
with_rule msg answer x = record x { rules = slice_set x.rules msg (Some answer) }

abbrev pub has_rules : End → Bool
has_rules x = list_any is_some x.rules

-- 16 replies may wait: an end with a rule at which 16 wait takes no fragment
abbrev pub holds_back : End → Bool
holds_back x = has_rules x && nat_le 16 (length x.out.waiting)

-- ---- taking, by what the fragment came to

-- one more fragment of a direction makes a call whole, or doesn't
pub data Taken : Type 0 where
  whole : TheCall → Taken
  a_part : Taken

-- one more fragment of a direction is taken by the other end
abbrev pub takes_one : Direction → Direction
takes_one d = passes (last_station d) d

-- what that comes to: a call is handled where one more is whole
abbrev pub comes_to : Planned → Direction → Taken
comes_to i d = given (slice_get (handled i (takes_one d)) (length (handled i d))) a_part λ c. whole c

-- an end that took a fragment: where it handled a call for whose message it has a rule, it replies with the
-- same arguments
abbrev pub replies : Planned → Taken → End → End
replies i a_part x = x
replies i (whole c) x =
    given (rule_at x.rules c.msg) x λ msg.
    record x { out = accepts_or_waits i (record { msg = msg; args = c.args }) x.out }
