-- What a core's thread works on, as contracts see it: the core, the sides that it is lent, and an end's progress for each end, where its jobs lie.
use Rattle.std.specs.Prelude.{ℕ, ◌≡◌, nat_lt, Bool, if◌then◌else◌, true, List, length, slice_get, Option, Some, None}
use Rattle.std.specs.Global.{Vec}
use Rattle.fl_base.specs.declared.identity.EndId.{EndId}
use Rattle.fl_base.specs.declared.identity.LinkId.{LinkId}
use Rattle.fl_base.specs.Given.{given}
use Rattle.fl_link.specs.Queue.{TheQueue}
use Rattle.fl_core.specs.BoardView.{due}
use Rattle.fl_core.specs.declared.wiring.Outlet.{Outlet}
use Rattle.fl_core.specs.declared.wiring.Outlet.TheVariants as outlet
use Rattle.fl_core.specs.declared.wiring.Inlet.{Inlet}
use Rattle.fl_core.specs.declared.wiring.Inlet.TheVariants as inlet
use Rattle.fl_core.specs.View.{TheCore, place_of, side_of_link, outlet_of, inlet_of}
use Rattle.fl_core.specs.Hearing.{Offers}
pub use Rattle.fl_core_run.specs.Sides.{SideRelations, ways}
use Rattle.fl_core_run.specs.EndProgress.{TheEndProgress, progress_place, ChangesIf}
use Rattle.fl_core.specs.declared.core_job.CoreJob.{CoreJob}
use Rattle.fl_core_run.specs.declared.lent.LentTakeEnd.{LentTakeEnd}
use Rattle.fl_core_run.specs.declared.lent.LentPutEnd.{LentPutEnd}
use Rattle.fl_core_run.specs.declared.lent.LentRingEnd.{LentRingEnd}
use Rattle.fl_core_run.specs.declared.running.RunningCore.{RunningCore}

-- ---- what is worked on

pub record TheRun (S : Type 0) : Type 0 where
  pub core : TheCore
  -- its sides of rings, and its local queues, by the numbers by which the core names them
  pub rings : List S
  pub queues : List TheQueue
  -- by end: that of side s of binding b stands at 2 b + s
  pub progresses : List TheEndProgress
  -- its copies of the table of names and of the programs
  pub offers : Offers

-- by the states in which its sides are
abbrev pub run_by : {R S : Type 0} → (R → List S) → RunningCore R → TheRun S
run_by states r = record {
  core = r.core;
  rings = states r.rings;
  queues = r.queues.items;
  progresses = r.progresses.items;
  offers = record { names = r.names; programs = r.programs.items };
}

-- where its sides are a list
abbrev pub run_of : {S : Type 0} → RunningCore (Vec S) → TheRun S
run_of r = run_by (λ v. v.items) r

-- a running core over other sides
abbrev pub with_rings : {R Q : Type 0} → Q → RunningCore R → RunningCore Q
with_rings rings r = record {
  alloc = r.alloc;
  core = r.core;
  rings = rings;
  queues = r.queues;
  progresses = r.progresses;
  names = r.names;
  programs = r.programs;
  idle = r.idle;
}

-- what is worked on, over other sides
abbrev pub over : {S T : Type 0} → List T → TheRun S → TheRun T
over rings s = record { core = s.core; rings = rings; queues = s.queues; progresses = s.progresses; offers = s.offers }

-- ---- ends' progress

-- of a run the end's progress of this end alone has changed
pub record AtProgress {S : Type 0} (e : EndId) (change : TheEndProgress → TheEndProgress) (s t : TheRun S) : Type 0 where
  pub changes : ChangesIf (progress_place s.progresses e) s.progresses change t.progresses
  pub rest : t ≡ record s { progresses = t.progresses }

-- the job that is next by the end's progress at a place, if there is one and a job is left
abbrev pub next_at : {S : Type 0} → List CoreJob → TheRun S → Option ℕ → Option CoreJob
next_at jobs s place =
    given place None λ n.
    given (slice_get s.progresses n) None λ progress.
    given (slice_get progress.jobs progress.done) None λ job.
    slice_get jobs job

-- the one that is next at an end
abbrev pub next_job : {S : Type 0} → List CoreJob → TheRun S → EndId → Option CoreJob
next_job jobs s e = next_at jobs s (progress_place s.progresses e)

-- ---- what is lent

-- the side of a link, where it is lent
abbrev pub lent_link_side : {S : Type 0} → TheRun S → LinkId → Option ℕ
lent_link_side s l = given (side_of_link s.core.link_sides l.0) None λ n. if nat_lt n (length s.rings) then Some n else None

abbrev pub lends_out : {S : Type 0} → TheRun S → Outlet → Bool
lends_out s (outlet.Queue n) = nat_lt n (length s.queues)
lends_out s (outlet.Side n) = nat_lt n (length s.rings)

abbrev pub lends_in : {S : Type 0} → TheRun S → Inlet → Bool
lends_in s (inlet.Queue n) = nat_lt n (length s.queues)
lends_in s (inlet.Side n) = nat_lt n (length s.rings)
lends_in s inlet.Arrivals = true

-- where the end at a place puts, where that is lent
abbrev pub lent_post_at : {S : Type 0} → TheRun S → ℕ → Option LentPutEnd
lent_post_at s e =
    given (outlet_of s.core e) None λ out.
    if lends_out s out then Some (record { end = e; outlet = out }) else None

-- the same of an end, where it is at this core
abbrev pub lent_post : {S : Type 0} → TheRun S → EndId → Option LentPutEnd
lent_post s name = given (place_of s.core name) None λ e. lent_post_at s e

-- the place of the end at which a dispatcher's turn looks, and where that takes, where one is due and that is lent
abbrev pub lent_due : {S : Type 0} → TheRun S → ℕ → Option LentTakeEnd
lent_due s n =
    given (due s.core.board n) None λ e.
    given (inlet_of s.core e) None λ from.
    if lends_in s from then Some (record { end = e; inlet = from }) else None

-- the side of a ring from which an inlet takes, if it is one
abbrev pub side_in : Inlet → Option ℕ
side_in (inlet.Side n) = Some n
side_in other = None

-- the place of an end of a ring and its side, where the end is at this core and that is lent
abbrev pub lent_ring_end : {S : Type 0} → TheRun S → EndId → Option LentRingEnd
lent_ring_end s name =
    given (place_of s.core name) None λ e.
    given (inlet_of s.core e) None λ from.
    given (side_in from) None λ n.
    if nat_lt n (length s.rings) then Some (record { end = e; side = n }) else None
