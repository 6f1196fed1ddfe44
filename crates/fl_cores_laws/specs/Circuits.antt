-- Bindings over circuits whose two ends are bound in the end, and that what is told of them is honest. Law.
use Rattle.std.specs.Prelude.{ℕ, ◌≡◌, ◌⊎◌, false, List, [], ◌∷◌, slice_get, Some, None}
use Rattle.fl_base.specs.declared.identity.EndId.{EndId}
use Rattle.fl_base.specs.declared.identity.LinkId.{LinkId}
use Rattle.fl_base.specs.declared.identity.Circuit.{Circuit as Number}
use Rattle.fl_hop.specs.declared.entry.HopTarget.TheVariants.{Link}
use Rattle.fl_hop.specs.Joined.{Leads, Sound as IsTable}
use Rattle.fl_compile.specs.Programs.{program_of}
use Rattle.fl_core.specs.BoardView.{TheEndAtChannel}
use Rattle.fl_core.specs.declared.wiring.WiredEnd.{WiredEnd}
use Rattle.fl_core.specs.declared.wiring.EndWiring.TheVariants.{Circuit}
use Rattle.fl_core.specs.View.{place_of, side_of_link, client_of, server_of}
use Rattle.fl_core.specs.declared.core_job.CoreJob.{CoreJob}
use Rattle.fl_core.specs.Jobs.{HasNoRule, RulesLead}
use Rattle.fl_core_run_laws.specs.Led.{IsLed}
use Rattle.fl_cores_file.specs.Jobs.{Job}
use Rattle.fl_cores_jobs.specs.EndWork.{TheEndWork, end_work_at, is_ruled}
use Rattle.fl_cores_jobs.specs.State.{TheJoinedJobs, AreJoined}
use Rattle.fl_cores_laws.specs.Cores.{OneCore, Went}
use Rattle.fl_cores_laws.specs.Ends.{HasProgress, AreItsRules}
use Rattle.fl_cores_laws.specs.Told.{handled_by}
use Rattle.fl_cores_laws.specs.Crossing.{Crosses}
use Rattle.fl_cores_laws.specs.Bindings.{AreHonest}

-- ---- cores and links

-- a core that went, whose table of circuits led to its ends at the start, and is sound in the end
pub record Leading (jobs : List CoreJob) (c : OneCore) : Type 0 where
  pub went : Went jobs c
  pub led : IsLed c.start.core
  pub table : IsTable c.finish.core.monitor.circuits

-- a link as each of its two cores has it: each has a side of one ring
pub record AreOneLink (c : OneCore) (l : LinkId) (d : OneCore) (m : LinkId) : Type 0 where
  pub near : ℕ
  pub near_is : side_of_link c.start.core.link_sides l.0 ≡ Some near
  pub far : ℕ
  pub far_is : side_of_link d.start.core.link_sides m.0 ≡ Some far
  pub ring : Crosses c.start.rings c.finish.rings d.start.rings d.finish.rings near far
      ⊎ Crosses d.start.rings d.finish.rings c.start.rings c.finish.rings far near

-- ---- routes

-- a number on a link of a core
pub record Point : Type 0 where
  pub core : OneCore
  pub link : LinkId
  pub number : Number

-- a core that a circuit passes through: from a number on one link to a number on another
pub record Station : Type 0 where
  pub core : OneCore
  pub from : LinkId
  pub number : Number
  pub onto : LinkId
  pub next : Number

abbrev pub behind : Station → Point
behind x = record { core = x.core; link = x.onto; number = x.next }

-- in the end the core's entry of the binding leads from the one to the other
pub record PassesOn (jobs : List CoreJob) (binding : ℕ) (x : Station) : Type 0 where
  pub leading : Leading jobs x.core
  pub entry : Leads x.core.finish.core.monitor.circuits x.from.0 x.number.0 binding (Link x.onto x.next)

-- from one point over these stations to another: at its two ends a link has one number
abbrev pub IsRoute : List CoreJob → ℕ → Point → List Station → Point → Type 0
IsRoute jobs binding p [] q = AreOneLink p.core p.link q.core q.link × (q.number ≡ p.number)
IsRoute jobs binding p (x ∷ stations) q =
    AreOneLink p.core p.link x.core x.from × (x.number ≡ p.number) × PassesOn jobs binding x × IsRoute jobs binding (behind x) stations q

-- ---- ends

-- an end that was made in the run, and is bound to a number of one of its core's links in the end; its rules are set, or it handled nothing
pub record StandsBound (jobs : List CoreJob) (d : TheEndWork) (e : EndId) (p : Point) : Type 0 where
  pub absent : place_of p.core.start.core e ≡ None
  pub place : ℕ
  pub place_is : place_of p.core.finish.core e ≡ Some place
  pub wired_end : WiredEnd
  pub wired_end_is : slice_get p.core.finish.core.wired_ends place ≡ Some wired_end
  pub arrivals : ℕ
  pub wiring_is : wired_end.wiring ≡ Circuit p.link arrivals
  pub seat : TheEndAtChannel
  pub seat_is : slice_get p.core.finish.core.board.seats place ≡ Some seat
  pub circuit : seat.end.circuit ≡ Some p.number.0
  pub rules : (handled_by p.core.finish e ≡ []) ⊎ AreItsRules seat.end.rules d
  pub lead : RulesLead jobs d.jobs
  pub none : is_ruled d ≡ false → HasNoRule jobs d.jobs

-- both ends of binding n are bound in the end, and a route leads from the one to the other
pub record ByCircuit (j : TheJoinedJobs) (n : ℕ) (p q : Point) : Type 0 where
  pub client : StandsBound j.jobs (end_work_at j.end_works (client_of n)) (client_of n) p
  pub server : StandsBound j.jobs (end_work_at j.end_works (server_of n)) (server_of n) q
  pub program : program_of server.seat.end.program ≡ program_of client.seat.end.program
  pub stations : List Station
  pub route : IsRoute j.jobs n p stations q

-- ---- law

abbrev pub CircuitsAreHonest : Type 0
CircuitsAreHonest = (asked : List Job) (j : TheJoinedJobs) (cores n : ℕ) (p q : Point) → AreJoined cores asked j
    → Leading j.jobs p.core → Leading j.jobs q.core
    → HasProgress (end_work_at j.end_works (client_of n)) p.core.start (client_of n)
    → HasProgress (end_work_at j.end_works (server_of n)) q.core.start (server_of n)
    → ByCircuit j n p q → AreHonest asked j n p.core q.core
