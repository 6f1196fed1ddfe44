-- What the predicates of sound states speak of: how far a circuit has come, what stands between two cores,
-- and what stands of a direction at each of its stations.
use Rattle.std.specs.Prelude.{ℕ, zero, suc, ◌≡◌, ◌-◌, ◌==◌, if◌then◌else◌, List, [], ◌++◌, length}
use Rattle.std.specs.Prelude.{map, filter_map, slice_get, slice_index, Option, Some, None}
use Rattle.fl_base.specs.declared.identity.EndId.{EndId}
use Rattle.fl_base.specs.Ends.{peer}
use Rattle.fl_base.specs.Given.{given}
use Rattle.fl_hop.specs.declared.links.LinkState.{LinkState}
use Rattle.fl_model.specs.Monitors.{link_to}
use Rattle.fl_model.specs.Rings.{MonitorLabel, open_circuit, circuit_opened, circuit_refused, Label}
use Rattle.fl_model.specs.Rings.{next_of, says, RingLabel, read_by, written_by, RingEnd}
use Rattle.fl_model.specs.State.{OpeningVerdict, undecided, granted, denied, Route, Back, local, over_ring}
use Rattle.fl_model.specs.State.{over_route, Binding, State, way_of, side_of, core_of, end_of, link_between}
use Rattle.fl_model.specs.Runs.{same_end}

-- ---- circuits

-- binding n is joined by a circuit over this route
pub record Routed (s : State) (n : ℕ) (route : Route) : Type 0 where
  pub binding : Binding
  pub there : slice_get s.bindings n ≡ Some binding
  pub back : binding.back ≡ over_route route

-- the route's core j, and the circuit's number on the link from there to the next
abbrev pub core_at : Route → ℕ → ℕ
core_at route j = slice_index route.cores j

abbrev pub number_at : Route → ℕ → ℕ
number_at route j = slice_index route.numbers j

-- entries stand, undecided, at the cores with a number; granted, at all; denied, at those yet to hear of it
abbrev pub standing_by : Route → OpeningVerdict → ℕ
standing_by route undecided = length route.numbers
standing_by route (granted i) = length route.cores
standing_by route (denied i fault) = i

-- at how many cores of the route, from the client's on, the circuit's entry stands
abbrev pub standing : Route → ℕ
standing route = standing_by route route.verdict

-- who waits for the answer: undecided, the cores with a number; else those yet to hear of it
abbrev pub asking_by : Route → OpeningVerdict → ℕ
asking_by route undecided = length route.numbers
asking_by route (granted i) = i
asking_by route (denied i fault) = i

-- how many cores of the route, from the client's on, wait for the answer
abbrev pub asking : Route → ℕ
asking route = asking_by route route.verdict

-- a monitors' message, from a core to its neighbour
pub record Message : Type 0 where
  pub from : ℕ
  pub to : ℕ
  pub said : MonitorLabel

-- the message goes back to core i of the route
abbrev pub back_to : Route → ℕ → MonitorLabel → Message
back_to route i m = record { from = core_at route (suc i); to = core_at route i; said = m }

-- the one message that may be under way for binding n: its opening, to the core behind those that have numbers;
-- or the answer, to the last of those that wait for it
abbrev pub due_by : ℕ → Route → OpeningVerdict → Option Message
due_by n route undecided =
    let t = length route.numbers in
    Some (record {
      from = core_at route (t - 1);
      to = core_at route t;
      said = open_circuit (record {
        circuit = number_at route (t - 1);
        binding = n;
        service = route.service;
        path = route.cores;
      });
    })
due_by n route (granted zero) = None
due_by n route (granted (suc i)) =
    Some (back_to route i (circuit_opened (number_at route i)))
due_by n route (denied zero fault) = None
due_by n route (denied (suc i) fault) =
    Some (back_to route i (circuit_refused (number_at route i) fault))

abbrev pub due_message : ℕ → Route → Option Message
due_message n route = due_by n route route.verdict

-- ---- between two cores

-- the counts of a core's link to another: how many circuits it opened there, and how many of the other's it
-- took
abbrev pub link_state : State → ℕ → ℕ → Option LinkState
link_state s core neighbour =
    given (core_of s core) None λ k. given (link_to neighbour k) None λ l. slice_get k.circuits.links l

-- what a side of a ring has yet to read
abbrev pub unread : State → RingEnd → List RingLabel
unread s at = given (slice_get s.rings at.ring) [] λ r. (read_by at.side r).waiting

-- what each of them tells set aside
abbrev pub labels_of : List RingLabel → List Label
labels_of ls = map (λ (l : RingLabel). l.label) ls

-- what stands on the link from one core to another
abbrev pub on_link : State → ℕ → ℕ → List Label
on_link s from to = given (link_between s to from) [] λ link. labels_of (unread s link.ring)

-- the monitors' message, where the label stands for one
abbrev pub said_by : Label → Option MonitorLabel
said_by (says m) = Some m
said_by label = None

-- the monitors' messages from one core to another: those on the link, then those in the outbox
abbrev pub under_way : State → ℕ → ℕ → List MonitorLabel
under_way s from to =
    filter_map said_by (on_link s from to) ++ given (link_between s from to) [] λ link. link.outbox

-- the circuit's number on the link, where the message is an opening
abbrev pub opening_number : MonitorLabel → Option ℕ
opening_number (open_circuit o) = Some o.circuit
opening_number m = None

-- the same where it is an answer, of either kind
abbrev pub answer_number : MonitorLabel → Option ℕ
answer_number (open_circuit o) = None
answer_number (circuit_opened c) = Some c
answer_number (circuit_refused c fault) = Some c

-- ---- at the stations of a direction

-- what stands in the queue that the end takes from; nothing where it takes from a ring
abbrev pub queue_of : State → EndId → List Label
queue_of s e = given (end_of s e) [] λ x. given x.queue [] λ q. q.labels

-- what stands on ring n, its binding's own, on the way from this end to the other
abbrev pub ring_from : State → EndId → ℕ → List Label
ring_from s e n = given (slice_get s.rings n) [] λ r. labels_of (written_by (side_of e.side) r).waiting

-- what stands before station j of an end's direction, on a way over these cores: on the link that ends at
-- core j of the way, or, before the last station, in the other end's queue
abbrev pub before_on : State → EndId → List ℕ → ℕ → List Label
before_on s e way j =
    if j == length way then queue_of s (peer e) else on_link s (slice_index way (j - 1)) (slice_index way j)

-- the same by how the ends are joined: off links all stands in one place, before the other end's take
abbrev pub before_by : State → EndId → Back → ℕ → List Label
before_by s e local j = queue_of s (peer e)
before_by s e (over_ring n) j = ring_from s e n
before_by s e (over_route route) j = before_on s e (way_of e.side route) j

-- which fragment of this end's calls a label is, if it is one
abbrev pub number_of : EndId → Label → Option ℕ
number_of e (next_of f k) = if same_end e f then Some k else None
number_of e label = None

-- the numbers of the end's own fragments among some labels
abbrev pub picked : EndId → List Label → List ℕ
picked e labels = filter_map (number_of e) labels
