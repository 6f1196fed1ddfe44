-- Bindings under other numbers: what cores are and hold when each binding has another number, and no two have one.
use Rattle.std.specs.Prelude.{ℕ, ◌≡◌, ◌⊎◌, ◌<◌, true, false, Bool, List, length, map, slice_get}
use Rattle.std.specs.Prelude.{Option, Some, None, option_map, Result, Ok, Err}
use Rattle.std.specs.List.{AllZip}
use Rattle.fl_base.specs.declared.fragment.Frag.{Frag}
use Rattle.fl_base.specs.declared.identity.EndId.{EndId}
use Rattle.fl_base.specs.Control.{bare}
use Rattle.fl_base.specs.Numbered.{most_bindings}
use Rattle.fl_hop.specs.declared.entry.Hop.{Hop}
use Rattle.fl_hop.specs.declared.entry.HopTarget.{HopTarget}
use Rattle.fl_hop.specs.declared.entry.HopTarget.TheVariants.{Link, End}
use Rattle.fl_hop.specs.Table.{TheCircuits}
use Rattle.fl_monitor.specs.declared.heard.MessageOutcome.{MessageOutcome}
use Rattle.fl_monitor.specs.declared.heard.MessageOutcome.TheVariants as outcome
use Rattle.fl_monitor.specs.declared.message.MonitorMessage.{MonitorMessage}
use Rattle.fl_monitor.specs.declared.message.MonitorMessage.TheVariants.{OpenCircuit}
use Rattle.fl_monitor.specs.declared.opening.Opening.{Opening}
use Rattle.fl_monitor.specs.Saying.{Says}
use Rattle.fl_ring.specs.SharedSides.{TheSide}
use Rattle.fl_core.specs.declared.answer.MonitorAnswer.{MonitorAnswer}
use Rattle.fl_core.specs.declared.answer.MonitorAnswer.TheVariants as answered
use Rattle.fl_core.specs.declared.core_job.OpenRequest.{OpenRequest}
use Rattle.fl_core.specs.declared.fault.LinkReceiveFault.{LinkReceiveFault}
use Rattle.fl_core.specs.declared.wiring.WiredEnd.{WiredEnd}
use Rattle.fl_core.specs.View.{TheCore, place_of}
use Rattle.fl_core_run.specs.Run.{TheRun}
use Rattle.fl_world_refines.specs.View.{ring_at}
use Rattle.fl_cores_joined.specs.Joined.{JoinedCore}

-- ---- numbers

-- Each binding has another number, or its own; no two have one, and none comes over the limit or back below it.
pub record Renaming : Type 0 where
  pub to : ℕ → ℕ
  pub back : ℕ → ℕ
  pub there : (n : ℕ) → back (to n) ≡ n
  pub here : (n : ℕ) → to (back n) ≡ n
  pub few : (n : ℕ) → n < most_bindings → to n < most_bindings
  pub few_back : (n : ℕ) → n < most_bindings → back n < most_bindings

abbrev pub reversed : Renaming → Renaming
reversed r = record { to = r.back; back = r.to; there = r.here; here = r.there; few = r.few_back; few_back = r.few }

module _ (r : Renaming) where
  abbrev pub end_under : EndId → EndId
  end_under e = record { binding = r.to e.binding; side = e.side }

  abbrev pub opening_under : Opening → Opening
  opening_under o = record { binding = r.to o.binding; service = o.service; path = o.path }

  abbrev pub message_under : MonitorMessage → MonitorMessage
  message_under (OpenCircuit c binding service path) = OpenCircuit c (r.to binding) service path
  message_under m = m

  -- ---- tables of circuits: a function

  abbrev pub way_under : HopTarget → HopTarget
  way_under (Link l c) = Link l c
  way_under (End e) = End (end_under e)

  abbrev pub hop_under : Hop → Hop
  hop_under hop = record { binding = r.to hop.binding; way = way_under hop.way; answered = hop.answered }

  abbrev pub circuits_under : TheCircuits → TheCircuits
  circuits_under t = record { core = t.core; links = t.links; hops = map (option_map hop_under) t.hops }

  -- ---- what a message comes to, and what is said then

  abbrev pub outcome_under : MessageOutcome → MessageOutcome
  outcome_under (outcome.OpeningWentOn binding l c) = outcome.OpeningWentOn (r.to binding) l c
  outcome_under (outcome.ServerMade binding dispatcher c) = outcome.ServerMade (r.to binding) dispatcher c
  outcome_under (outcome.OpeningFailed binding reason) = outcome.OpeningFailed (r.to binding) reason
  outcome_under (outcome.AnswerWentOn binding l c) = outcome.AnswerWentOn (r.to binding) l c
  outcome_under (outcome.EndOpened e c) = outcome.EndOpened (end_under e) c
  outcome_under (outcome.EndRefused e reason) = outcome.EndRefused (end_under e) reason

  -- ---- fragments: a relation, since what words say is one

  -- a fragment that says no message, or one that stays as it is
  abbrev pub Unrenamed : Frag → Type 0
  Unrenamed f = (m : MonitorMessage) → Says f m → message_under m ≡ m

  pub record SaysRenamed (f g : Frag) : Type 0 where
    pub message : MonitorMessage
    pub says : Says f message
    pub under : Says g (message_under message)

  -- epoch and count told aside, the same fragment, where what it says stays; or what says the renamed message
  abbrev pub FragUnder : Frag → Frag → Type 0
  FragUnder f g = ((bare g ≡ bare f) × Unrenamed f) ⊎ SaysRenamed f g

  -- as they stand in a link
  abbrev pub Standing : Frag → Frag → Type 0
  Standing f g = (g.control ≡ f.control) × FragUnder f g

  abbrev pub SeenUnder : Option Frag → Option Frag → Type 0
  SeenUnder None None = Unit {0}
  SeenUnder (Some f) (Some g) = Standing f g
  SeenUnder o p = ⊥

  -- ---- a side of a link

  -- a side of a link that holds the same under the other numbers
  pub record Copy (s : TheSide) : Type 0 where
    pub sent : List Frag
    pub sent_is : AllZip Standing s.sent sent
    pub got : List Frag
    pub got_is : AllZip Standing s.got got
    pub peeked : Option Frag
    pub peeked_is : SeenUnder s.peeked peeked

  abbrev pub copied : {s : TheSide} → Copy s → TheSide
  copied {s} c = record {
    ring = s.ring;
    holder = s.holder;
    size = s.size;
    sent = c.sent;
    known = s.known;
    loads = s.loads;
    got = c.got;
    peeked = c.peeked;
    misses = s.misses;
    told = s.told;
  }

  -- on a ring of a binding nothing is renamed: a fragment there may look like a message
  abbrev pub SideUnder : Bool → TheSide → TheSide → Type 0
  SideUnder true p q = (c : Copy p) × (q ≡ copied c)
  SideUnder false p q = q ≡ p

  -- ---- a core: its places are told by look-ups, its outboxes by what they say

  abbrev pub wired_under : WiredEnd → WiredEnd
  wired_under p = record { name = end_under p.name; wiring = p.wiring }

  pub record CoreUnder (k k2 : TheCore) : Type 0 where
    pub circuits : k2.monitor.circuits ≡ circuits_under k.monitor.circuits
    pub outboxes : AllZip (AllZip SaysRenamed) k.monitor.outboxes k2.monitor.outboxes
    pub wired_ends : k2.wired_ends ≡ map wired_under k.wired_ends
    pub slots : length k2.places ≡ length k.places
    pub places : (e : EndId) → place_of k2 (end_under e) ≡ place_of k e
    pub rest : k2 ≡ record k { monitor = k2.monitor; wired_ends = k2.wired_ends; places = k2.places }

  -- links: which rings of the world are links'. Ends' progress isn't compared: no state of the machine shows it.
  pub record RunUnder (links : ℕ → Bool) (sides : List ℕ) (s t : TheRun TheSide) : Type 0 where
    pub core : CoreUnder s.core t.core
    pub count : length t.rings ≡ length s.rings
    pub rings : (i number : ℕ) (p q : TheSide) → slice_get sides i ≡ Some number → slice_get s.rings i ≡ Some p
        → slice_get t.rings i ≡ Some q → SideUnder (links (ring_at number)) p q
    pub queues : t.queues ≡ s.queues
    pub offers : t.offers ≡ s.offers

  pub record JoinedUnder (links : ℕ → Bool) (x y : JoinedCore) : Type 0 where
    pub run : RunUnder links x.sides x.run y.run
    pub sides : y.sides ≡ x.sides
    pub queues : y.queues ≡ x.queues

  -- ---- what is asked, and what is answered

  abbrev pub request_under : OpenRequest → OpenRequest
  request_under w = record { dispatcher = w.dispatcher; interface = w.interface; link = w.link; opening = opening_under w.opening }

  abbrev pub told_under : MonitorAnswer → MonitorAnswer
  told_under (answered.Opened e) = answered.Opened (end_under e)
  told_under (answered.OpeningRefused e reason) = answered.OpeningRefused (end_under e) reason
  told_under answer = answer

  abbrev pub heard_under : Result MonitorAnswer LinkReceiveFault → Result MonitorAnswer LinkReceiveFault
  heard_under (Ok answer) = Ok (told_under answer)
  heard_under (Err fault) = Err fault

  -- ---- all of them

  pub record AreUnder (links : ℕ → Bool) (xs ys : List JoinedCore) : Type 0 where
    pub count : length ys ≡ length xs
    pub each : (n : ℕ) (x y : JoinedCore) → slice_get xs n ≡ Some x → slice_get ys n ≡ Some y → JoinedUnder links x y
