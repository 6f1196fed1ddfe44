-- What passes through a core, fragment by fragment. Law.
use Rattle.std.specs.Prelude.{ℕ, ◌≡◌, List, [], map, slice_get, Some, None}
use Rattle.fl_base.specs.declared.fragment.Frag.{Frag}
use Rattle.fl_base.specs.declared.identity.EndId.{EndId}
use Rattle.fl_base.specs.declared.identity.LinkId.{LinkId}
use Rattle.fl_base.specs.declared.identity.Circuit.{Circuit as Number}
use Rattle.fl_base.specs.Control.{bare}
use Rattle.fl_link.specs.Looks.{Look, Looks, LinkStep, puts_of, takes_of}
use Rattle.fl_link.specs.Queue.{TheQueue, QueuePuts, QueueTakes}
use Rattle.fl_hop.specs.declared.entry.HopTarget.TheVariants.{Link}
use Rattle.fl_hop.specs.Joined.{Leads, Sound as IsTable}
use Rattle.fl_hop.specs.OfCircuit.{as_carried, of_circuit}
use Rattle.fl_hop.specs.Stretch.{TableStep, AllWent, taken_from, put_on, come_to, written_by}
use Rattle.fl_endpoint.specs.View.{TheEnd, no_rules, nothing_to_send}
use Rattle.fl_core.specs.BoardView.{TheEndAtChannel}
use Rattle.fl_core.specs.declared.wiring.WiredEnd.{WiredEnd}
use Rattle.fl_core.specs.declared.wiring.EndWiring.TheVariants.{Queues, Ring, Circuit}
use Rattle.fl_core.specs.View.{TheCore, place_of, side_of_link, new_arrivals}
use Rattle.fl_core.specs.Sound.{IsCore}
use Rattle.fl_core.specs.declared.core_job.CoreJob.{CoreJob}
use Rattle.fl_core_run.specs.Run.{SideRelations, TheRun}
use Rattle.fl_core_run.specs.LogEntries.{LogEntry}
use Rattle.fl_core_run_laws.specs.Logs.{Goes}
use Rattle.fl_core_run_laws.specs.Carried.{EndGoes, traffic, rules_at}
use Rattle.fl_core_run_laws.specs.Led.{IsLed, stretch}

-- the fragments that were put, and those that were taken
pub record Passed : Type 0 where
  pub put : List Frag
  pub took : List Frag

-- ---- ends

-- the end x of this name, at place e, went on by a log, in which it put and took these fragments
pub record EndCarries (name : EndId) (log : List LogEntry) (passed : Passed) (x : TheEnd) (seats : List TheEndAtChannel) (e : ℕ) : Type 0 where
  pub after : TheEndAtChannel
  pub after_is : slice_get seats e ≡ Some after
  pub goes : EndGoes (traffic name x.rules log passed.put passed.took) x after.end
  pub rules : after.end.rules ≡ rules_at name x.rules log

-- a new end: nothing to send, no part of a call, and no reply rules
pub record IsNew (x : TheEnd) : Type 0 where
  pub outgoing : x.outgoing ≡ nothing_to_send
  pub parts : x.parts ≡ []
  pub rules : x.rules ≡ no_rules x.program

-- the end of this name, which was made at some moment, has gone on since then
pub record MadeCarries (name : EndId) (log : List LogEntry) (passed : Passed) (seats : List TheEndAtChannel) (e : ℕ) : Type 0 where
  pub began : TheEnd
  pub new : IsNew began
  pub carries : EndCarries name log passed began seats e

-- ---- sides

-- no two links of a core have one side; no end on a ring has a link's side, and no two have one; no two ends put to one queue, or take from one
pub record IsApart (k : TheCore) : Type 0 where
  pub link_sides : (l m n : ℕ) → side_of_link k.link_sides l ≡ Some n → side_of_link k.link_sides m ≡ Some n → l ≡ m
  pub rings : (l e n : ℕ) (p : WiredEnd) → side_of_link k.link_sides l ≡ Some n → slice_get k.wired_ends e ≡ Some p → p.wiring ≡ Ring n → ⊥
  pub ends : (d e n : ℕ) (p q : WiredEnd) → slice_get k.wired_ends d ≡ Some p → slice_get k.wired_ends e ≡ Some q
      → p.wiring ≡ Ring n → q.wiring ≡ Ring n → d ≡ e
  pub puts : (d e n a b : ℕ) (p q : WiredEnd) → slice_get k.wired_ends d ≡ Some p → slice_get k.wired_ends e ≡ Some q
      → p.wiring ≡ Queues n a → q.wiring ≡ Queues n b → d ≡ e
  pub takes : (d e n a b : ℕ) (p q : WiredEnd) → slice_get k.wired_ends d ≡ Some p → slice_get k.wired_ends e ≡ Some q
      → p.wiring ≡ Queues a n → q.wiring ≡ Queues b n → d ≡ e

-- ---- all that passed

-- side n, or queue n, stands there afterwards, and over looks, puts and takes it placed these fragments, with their epochs and counts set aside, and took
-- these
pub record SideCarries {S : Type 0} (puts takes : S → Look → S → Type 0) (passed : Passed) (p : S) (sides : List S) (n : ℕ) : Type 0 where
  pub after : S
  pub after_is : slice_get sides n ≡ Some after
  pub looks : List Look
  pub led : Looks (LinkStep puts takes) p looks after
  pub put_is : map bare (puts_of looks) ≡ passed.put
  pub took_is : takes_of looks ≡ passed.took

-- of an end of a circuit, which put and took these fragments: its arrival queue was given what came to the end over the core's links, and gave what the end
-- took; and what the end put went onto its link
pub record CircuitCarries (name : EndId) (steps : List TableStep) (passed : Passed) (p : TheQueue) (queues : List TheQueue) (a : ℕ) : Type 0 where
  pub arrivals : SideCarries QueuePuts QueueTakes (record { put = come_to name steps; took = passed.took }) p queues a
  pub written : written_by name steps ≡ map as_carried passed.put

pub record Flows {S : Type 0} (w : SideRelations S) (s t : TheRun S) (log : List LogEntry) : Type 0 where
  -- what went over the core's links, fragment by fragment
  pub steps : List TableStep
  -- where the table led to the ends of circuits here, it led all that, and leads to them still
  pub went : IsLed s.core → AllWent (stretch s.core steps t.core)
  pub led : IsLed s.core → IsLed t.core
  -- so what went out by an entry of a circuit is what came in by its other side, in order
  pub passes : IsLed s.core → IsTable t.core.monitor.circuits → (l m : LinkId) (c d : Number) (binding : ℕ)
      → Leads t.core.monitor.circuits l.0 c.0 binding (Link m d) → of_circuit d.0 (put_on m.0 steps) ≡ of_circuit c.0 (taken_from l.0 steps)
  -- what the end of each name put, and what it took
  pub put : EndId → List Frag
  pub took : EndId → List Frag
  -- each link's side placed what was put on the link, and took what was taken from it
  pub links : (l n : ℕ) (p : S) → side_of_link s.core.link_sides l ≡ Some n → slice_get s.rings n ≡ Some p
      → SideCarries w.puts w.takes (record { put = put_on l steps; took = taken_from l steps }) p t.rings n
  -- each ring's side placed what its end put, and took what that took
  pub rings : (name : EndId) (e n : ℕ) (wired_end : WiredEnd) (p : S) → place_of s.core name ≡ Some e
      → slice_get s.core.wired_ends e ≡ Some wired_end → wired_end.wiring ≡ Ring n
      → slice_get s.rings n ≡ Some p → SideCarries w.puts w.takes (record { put = map bare (put name); took = took name }) p t.rings n
  -- and a local queue was given what one end put, and gave what another took
  pub queues : (name other : EndId) (d e n a b : ℕ) (x y : WiredEnd) (p : TheQueue) → place_of s.core name ≡ Some d → slice_get s.core.wired_ends d ≡ Some x
      → x.wiring ≡ Queues n a
      → place_of s.core other ≡ Some e → slice_get s.core.wired_ends e ≡ Some y → y.wiring ≡ Queues b n
      → slice_get s.queues n ≡ Some p → SideCarries QueuePuts QueueTakes (record { put = map bare (put name); took = took other }) p t.queues n
  -- and each end of a circuit took, in order, what came to it over the links, and put what went onto its own
  pub circuits : (name : EndId) (e a : ℕ) (l : LinkId) (wired_end : WiredEnd) (p : TheQueue) → place_of s.core name ≡ Some e
      → slice_get s.core.wired_ends e ≡ Some wired_end → wired_end.wiring ≡ Circuit l a → slice_get s.core.arrivals a ≡ Some p
      → CircuitCarries name steps (record { put = put name; took = took name }) p t.core.arrivals a
  -- also one that was made meanwhile, from an empty arrival queue
  pub circuits_made : (name : EndId) (e a : ℕ) (l : LinkId) (wired_end : WiredEnd) → place_of s.core name ≡ None → place_of t.core name ≡ Some e
      → slice_get t.core.wired_ends e ≡ Some wired_end → wired_end.wiring ≡ Circuit l a
      → CircuitCarries name steps (record { put = put name; took = took name }) new_arrivals t.core.arrivals a
  -- what came to an end that is bound at last is what came in by its number, in order, and what went out under that is what it wrote
  pub numbers : IsLed s.core → IsTable t.core.monitor.circuits → (name : EndId) (e a c : ℕ) (l : LinkId) (wired_end : WiredEnd) (seat : TheEndAtChannel)
      → place_of t.core name ≡ Some e → slice_get t.core.wired_ends e ≡ Some wired_end → wired_end.wiring ≡ Circuit l a
      → slice_get t.core.board.seats e ≡ Some seat
      → seat.end.circuit ≡ Some c → (come_to name steps ≡ of_circuit c (taken_from l.0 steps)) × (of_circuit c (put_on l.0 steps) ≡ written_by name steps)
  -- so each end that was there went on
  pub ends : (name : EndId) (e : ℕ) (seat : TheEndAtChannel) → place_of s.core name ≡ Some e → slice_get s.core.board.seats e ≡ Some seat
      → EndCarries name log (record { put = put name; took = took name }) seat.end t.core.board.seats e
  -- and each that was made meanwhile
  pub made : (name : EndId) (e : ℕ) → place_of s.core name ≡ None → place_of t.core name ≡ Some e
      → MadeCarries name log (record { put = put name; took = took name }) t.core.board.seats e

-- of a core whose sides are apart, whatever happens there
abbrev pub LogsFlow : {S : Type 0} → SideRelations S → Type 0
LogsFlow {S} w = (jobs : List CoreJob) (s t : TheRun S) (log : List LogEntry) → IsCore s.core → IsApart s.core → Goes w jobs s log t → Flows w s t log
