-- Events on links: a core's monitor writes its next message, a core forwards what stands first for it, and
-- acknowledges. The one refusal, for a link that isn't there, changes nothing.
use Rattle.std.specs.Prelude.{ℕ, ◌-◌, drop, length, slice_get, Option, Some, None}
use Rattle.fl_base.specs.declared.identity.EndId.{EndId}
use Rattle.fl_base.specs.declared.identity.Side.TheVariants.{Server}
use Rattle.std.specs.List.{push}
use Rattle.fl_base.specs.Given.{given}
use Rattle.fl_hop.specs.declared.entry.HopTarget.{HopTarget}
use Rattle.fl_hop.specs.declared.entry.HopTarget.TheVariants.{Link as to_link, End as to_end}
use Rattle.fl_hop.specs.Table.{hop_at}
use Rattle.fl_model.specs.Given.{changed_at}
use Rattle.fl_model.specs.Events.{done, nothing, full, written, forwarded, opened, opening_refused, refused}
use Rattle.fl_model.specs.Rings.{MonitorLabel, Label, next_of, says, acknowledges, RingEnd, looks, Room}
use Rattle.fl_model.specs.Rings.{there_is_room, puts, takes, for_data}
use Rattle.fl_model.specs.Ends.{queue_room, passes}
use Rattle.fl_model.specs.Monitors.{Link, Core, Heard, no_outbox, misrouted, opening_went_on, server_made}
use Rattle.fl_model.specs.Monitors.{opening_failed, answer_went_on, end_opened, end_refused, Hearing}
use Rattle.fl_model.specs.Monitors.{link_to, hears}
use Rattle.fl_model.specs.State.{OpeningVerdict, undecided, granted, denied, Route, Back, over_route, State}
use Rattle.fl_model.specs.State.{StepOutcome, answers, core_of, binding_of, end_of, link_between, station_at}
use Rattle.fl_model.specs.State.{number_between, change_core, change_ring, change_out, change_route, seats}
use Rattle.fl_model.specs.State.{binds_end, delivers, first_on, ring_makes_sure, ring_room}
use Rattle.fl_model.specs.Binding.{end_id}
use Rattle.fl_model.specs.Taking.{acknowledges_on}

-- one core's end of a link: its place among the core's links, and the core's side of the ring
pub record LinkEnd : Type 0 where
  pub core : ℕ
  pub neighbour : ℕ
  pub link : ℕ
  pub ring : RingEnd

-- none where there is no such core, or no link from it to that neighbour
abbrev pub link_end : ℕ → ℕ → State → Option LinkEnd
link_end core neighbour s =
    given (core_of s core) None λ k.
    given (link_to neighbour k) None λ l.
    given (slice_get k.links l) None λ link.
    Some (record { core = core; neighbour = neighbour; link = l; ring = link.ring })

-- ---- a monitor writes

-- the first message of the outbox of the core's link l is gone
abbrev pub without_first_said : ℕ → Core → Core
without_first_said l k =
    record k { links = changed_at l (λ (x : Link). record x { outbox = drop 1 x.outbox }) k.links }

-- by the room that there is on the link
abbrev pub monitor_writes_by : LinkEnd → MonitorLabel → Room → State → StepOutcome
monitor_writes_by here m there_is_room s =
    let put = change_ring here.ring.ring (puts here.ring.side (says m)) s in
    answers (change_core here.core (without_first_said here.link) put) (written 1 1)
monitor_writes_by here m r s = answers s full

-- with an empty outbox nothing is looked at
abbrev pub monitor_writes_on : LinkEnd → Link → State → StepOutcome
monitor_writes_on here link s =
    given (slice_get link.outbox 0) (answers s nothing) λ m.
    let looked = ring_makes_sure for_data here.ring s in
    monitor_writes_by here m (ring_room for_data here.ring looked) looked

abbrev pub monitor_writes : ℕ → ℕ → State → StepOutcome
monitor_writes core neighbour s =
    given (link_end core neighbour s) (answers s (refused 73)) λ here.
    given (link_between s core neighbour) (answers s (refused 73)) λ link.
    monitor_writes_on here link s

-- ---- a core acknowledges

abbrev pub monitor_acknowledges : ℕ → ℕ → State → StepOutcome
monitor_acknowledges core neighbour s =
    given (link_between s core neighbour) (answers s (refused 73)) λ link. acknowledges_on link.ring s

-- ---- a monitor's message is forwarded: heard, and taken where the outbox that is needed has room

-- one core fewer waits for the word on an opening
abbrev pub word_passes : OpeningVerdict → OpeningVerdict
word_passes undecided = undecided
word_passes (granted waiting) = granted (waiting - 1)
word_passes (denied waiting fault) = denied (waiting - 1) fault

-- the circuit has got its number on the next link of the route
abbrev pub with_number : ℕ → Route → Route
with_number c route = record route { numbers = push route.numbers c }

-- the opening has arrived: all cores of the route but the last wait for the word
abbrev pub grants : Route → Route
grants route = record route { verdict = granted (length route.cores - 1) }

-- it was refused: the cores with a number wait for the word
abbrev pub denies : ℕ → Route → Route
denies fault route = record route { verdict = denied (length route.numbers) fault }

-- the word has come to one core more
abbrev pub passes_word : Route → Route
passes_word route = record route { verdict = word_passes route.verdict }

-- what a message came to, beside what it made of the core that heard it
abbrev pub follows : Heard → State → StepOutcome
follows no_outbox s = answers s full
follows misrouted s = answers s nothing
follows (opening_went_on n c) s = answers (change_route n (with_number c) s) done
follows (server_made n d c) s =
    let e = end_id n Server in
    answers (binds_end e c (seats d e (change_route n grants s))) (opened e)
follows (opening_failed n fault) s = answers (change_route n (denies fault) s) done
follows (answer_went_on n) s = answers (change_route n passes_word s) done
follows (end_opened e c) s = answers (binds_end e c (change_route e.binding passes_word s)) (opened e)
follows (end_refused e fault) s = answers (change_route e.binding passes_word s) (opening_refused fault e)

-- the message is taken from the link, but where it's left or misrouted
abbrev pub takes_said : RingEnd → Heard → State → State
takes_said at no_outbox s = s
takes_said at misrouted s = s
takes_said at heard s = change_ring at.ring (takes at.side) s

-- the core is what hearing made of it, the message is taken or left, and the rest of the world follows
abbrev pub after_hearing : LinkEnd → Hearing → State → StepOutcome
after_hearing here h s =
    follows h.heard (takes_said here.ring h.heard (change_core here.core (λ k. h.core) s))

-- the core hears it, and looks services up in the world's table of names
abbrev pub forwards_said : LinkEnd → MonitorLabel → State → StepOutcome
forwards_said here m s =
    given (core_of s here.core) (answers s nothing) λ k.
    after_hearing here (hears s.services here.link m k) s

-- ---- a call's fragment is forwarded, by the entry of its circuit's number

-- fragment k of an end's calls, on the link that leads to this station of its way
pub record FragAtHop : Type 0 where
  pub end : EndId
  pub number : ℕ
  pub station : ℕ

abbrev pub label_of : FragAtHop → Label
label_of p = next_of p.end p.number

-- it leaves the link
abbrev pub leaves_link : LinkEnd → FragAtHop → State → State
leaves_link here p s =
    change_out p.end (passes p.station) (change_ring here.ring.ring (takes here.ring.side) s)

-- it goes on, over a side of a ring, by the room that there is
abbrev pub goes_on_by : LinkEnd → FragAtHop → RingEnd → Room → State → StepOutcome
goes_on_by here p on there_is_room s =
    answers (leaves_link here p (change_ring on.ring (puts on.side (label_of p)) s)) forwarded
goes_on_by here p on r s = answers s full

-- that side first looks at what came back, where it knows of too few free slots
abbrev pub goes_on_over : LinkEnd → FragAtHop → RingEnd → State → StepOutcome
goes_on_over here p on s =
    let looked = ring_makes_sure for_data on s in
    goes_on_by here p on (ring_room for_data on looked) looked

-- it comes into the arrival queue of an end, by the room that there is
abbrev pub arrives_by : LinkEnd → FragAtHop → EndId → Room → State → StepOutcome
arrives_by here p to there_is_room s = answers (leaves_link here p (delivers (label_of p) to s)) forwarded
arrives_by here p to r s = answers s full

-- by where the entry leads
abbrev pub follows_entry : LinkEnd → FragAtHop → Core → HopTarget → State → StepOutcome
follows_entry here p k (to_link l c) s =
    given (slice_get k.links l.0) (answers s nothing) λ link.
    goes_on_over here p link.ring s
follows_entry here p k (to_end to) s =
    given (end_of s to) (answers s nothing) λ x.
    given x.queue (answers s nothing) λ q.
    arrives_by here p to (queue_room q) s

-- the entry is that of the circuit's number on the link
abbrev pub forwards_passing : LinkEnd → FragAtHop → Route → State → StepOutcome
forwards_passing here p route s =
    given (core_of s here.core) (answers s nothing) λ k.
    given (number_between here.neighbour here.core route) (answers s nothing) λ c.
    given (hop_at k.circuits here.link c) (answers s nothing) λ hop.
    follows_entry here p k hop.way s

-- ends that are joined by queues or a ring have none
abbrev pub route_of : Back → Option Route
route_of (over_route route) = Some route
route_of back = None

-- this core is a station on the way of the end that made the call
abbrev pub forwards_call : LinkEnd → EndId → ℕ → State → StepOutcome
forwards_call here e number s =
    given (binding_of s e) (answers s nothing) λ b.
    given (route_of b.back) (answers s nothing) λ route.
    given (station_at e.side here.core route) (answers s nothing) λ station.
    forwards_passing here (record { end = e; number = number; station = station }) route s

-- ---- a core forwards

-- by what stands first on the link, which was looked at
abbrev pub forwards_label : LinkEnd → Label → State → StepOutcome
forwards_label here (next_of e number) s = forwards_call here e number s
forwards_label here (says m) s = forwards_said here m s
forwards_label here acknowledges s = answers (change_ring here.ring.ring (takes here.ring.side) s) done

-- E73: there is no such link; where nothing stands on it for this core, there is nothing to do
abbrev pub forwards : ℕ → ℕ → State → StepOutcome
forwards core neighbour s =
    given (link_end core neighbour s) (answers s (refused 73)) λ here.
    given (first_on here.ring s) (answers s nothing) λ first.
    forwards_label here first.label (change_ring here.ring.ring (looks here.ring.side) s)
