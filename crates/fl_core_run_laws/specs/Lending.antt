-- A core that is wired as its world wirings it: all sides and queues that its links and ends name are lent. Laws.
use Rattle.std.specs.Prelude.{ℕ, ◌≡◌, ◌<◌, List, length, slice_get, Some, IsSome}
use Rattle.fl_base.specs.declared.identity.EndId.{EndId}
use Rattle.fl_base.specs.declared.identity.LinkId.{LinkId}
use Rattle.fl_core.specs.BoardView.{due}
use Rattle.fl_core.specs.BoardSound.{IsBoard}
use Rattle.fl_core.specs.declared.wiring.EndWiring.{EndWiring}
use Rattle.fl_core.specs.declared.wiring.EndWiring.TheVariants.{Queues, Ring, Circuit}
use Rattle.fl_core.specs.declared.wiring.WiredEnd.{WiredEnd}
use Rattle.fl_core.specs.declared.wiring.LinkSide.{LinkSide}
use Rattle.fl_core.specs.declared.wiring.Inlet.TheVariants.{Side}
use Rattle.fl_core.specs.View.{place_of, inlet_of}
use Rattle.fl_core.specs.Sound.{IsCore}
use Rattle.fl_core.specs.declared.core_job.CoreJob.{CoreJob}
use Rattle.fl_core_run.specs.Run.{SideRelations, TheRun, lent_link_side, lent_post, lent_due, lent_ring_end}
use Rattle.fl_core_run.specs.LogEntries.{LogEntry}
use Rattle.fl_core_run_laws.specs.Logs.{Goes}

-- the queues, or the side, that a wiring names are lent; a circuit goes by one of the core's links
abbrev pub LendsWiring : {S : Type 0} → TheRun S → EndWiring → Type 0
LendsWiring s (Queues out from) = (out < length s.queues) × (from < length s.queues)
LendsWiring s (Ring side) = side < length s.rings
LendsWiring s (Circuit link arrivals) = Unit {0}

-- so are the sides of all links, and what the wirings of all ends name
pub record IsLent {S : Type 0} (s : TheRun S) : Type 0 where
  pub link_sides : (l : ℕ) (link_side : LinkSide) → slice_get s.core.link_sides l ≡ Some link_side → link_side.side < length s.rings
  pub wirings : (e : ℕ) (p : WiredEnd) → slice_get s.core.wired_ends e ≡ Some p → LendsWiring s p.wiring

-- then they stay lent, whatever happens
abbrev pub StaysLent : {S : Type 0} → SideRelations S → Type 0
StaysLent {S} w = (jobs : List CoreJob) (s t : TheRun S) (log : List LogEntry) → Goes w jobs s log t → IsLent s → IsLent t

-- and no step is left out for want of a side: each link has one, each end of this core puts and takes, each end that is due is looked at
pub record LendsAll {S : Type 0} (s : TheRun S) : Type 0 where
  pub link_sides : (l : LinkId) → l.0 < length s.core.link_sides → IsSome (lent_link_side s l)
  pub posts : (name : EndId) (e : ℕ) → place_of s.core name ≡ Some e → IsSome (lent_post s name)
  pub turns : (d e : ℕ) → due s.core.board d ≡ Some e → IsSome (lent_due s d)
  pub ring_ends : (name : EndId) (e n : ℕ) → place_of s.core name ≡ Some e → inlet_of s.core e ≡ Some (Side n) → IsSome (lent_ring_end s name)

abbrev pub LentServes : {S : Type 0} → SideRelations S → Type 0
LentServes {S} w = (s : TheRun S) → IsCore s.core → IsBoard s.core.board → IsLent s → LendsAll s
