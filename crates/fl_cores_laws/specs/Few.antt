-- No dispatcher handled more calls than its core took turns. Law.
use Rattle.std.specs.Prelude.{ℕ, ◌≡◌, ◌≢◌, ◌≤◌, ◌+◌, false, List, [], ◌∷◌, length, slice_get, Some}
use Rattle.fl_base.specs.declared.identity.EndId.{EndId}
use Rattle.fl_ring.specs.SharedSides.{TheSide}
use Rattle.fl_core.specs.BoardView.{TheEndAtChannel}
use Rattle.fl_hop.specs.Stretch.{same_end}
use Rattle.fl_core.specs.View.{place_of}
use Rattle.fl_core_run.specs.Run.{TheRun}
use Rattle.fl_cores_file.specs.Jobs.{Job}
use Rattle.fl_core_run.specs.declared.run.RunEnd.TheVariants.{Finished}
use Rattle.fl_cores_file.specs.Report.{TheReport, BothEnds, at_end}
use Rattle.fl_cores_jobs.specs.State.{TheJoinedJobs}
use Rattle.fl_cores_jobs.specs.Joined.{core_at}
use Rattle.fl_cores_laws.specs.EndedCores.{OneCore}
use Rattle.fl_cores_laws.specs.EndedBegins.{Ran}
use Rattle.fl_cores_laws.specs.Complete.{Knows, IsFirst}

-- where this end is at the core, it is one of dispatcher d
abbrev pub IsAt : TheRun TheSide → ℕ → EndId → Type 0
IsAt t d e = (place : ℕ) (seat : TheEndAtChannel) → place_of t.core e ≡ Some place → slice_get t.core.board.seats place ≡ Some seat → seat.dispatcher ≡ d

-- an end that is at a core as that begins stays at its dispatcher
abbrev pub EndsStay : Type 0
EndsStay = (asked : List Job) (j : TheJoinedJobs) (limit : ℕ) (cores : List OneCore) (r : TheReport) → Ran asked j limit cores r
    → (n place : ℕ) (c : OneCore) (e : EndId) (seat : TheEndAtChannel) → slice_get cores n ≡ Some c → place_of c.begin.run.core e ≡ Some place
    → slice_get c.begin.run.core.board.seats place ≡ Some seat → IsAt c.finish seat.dispatcher e

-- this end is none of these
abbrev pub IsOther : EndId → List EndId → Type 0
IsOther e [] = Unit {0}
IsOther e (f ∷ ends) = (same_end e f ≡ false) × IsOther e ends

-- ends of core n, each another, which are dispatcher d's in the end
abbrev pub AreEnds : TheJoinedJobs → ℕ → OneCore → ℕ → List EndId → Type 0
AreEnds j n c d [] = Unit {0}
AreEnds j n c d (e ∷ ends) = (core_at j.bindings e ≡ Some n) × IsAt c.finish d e × IsOther e ends × AreEnds j n c d ends

-- what these ends handled is so many calls
abbrev pub handled_at_all : List BothEnds → List EndId → ℕ
handled_at_all handled [] = 0
handled_at_all handled (e ∷ ends) = length (at_end handled e) + handled_at_all handled ends

-- of a core that didn't finish
abbrev pub UnfinishedHandleFew : Type 0
UnfinishedHandleFew = (asked : List Job) (j : TheJoinedJobs) (limit : ℕ) (cores : List OneCore) (r : TheReport) → Ran asked j limit cores r
    → (n d : ℕ) (c : OneCore) (ends : List EndId) → slice_get cores n ≡ Some c → c.part.end ≢ Finished → AreEnds j n c d ends
    → handled_at_all r.handled ends ≤ c.part.turns

-- what is told of each of these is the first of what is handed in for it, and nothing, where the core knew that the opening was refused
abbrev pub AreFirst : List Job → OneCore → TheReport → List EndId → Type 0
AreFirst asked c r [] = Unit {0}
AreFirst asked c r (e ∷ ends) = IsFirst asked r e × (Knows c e → at_end r.handled e ≡ []) × AreFirst asked c r ends

-- then it is so of any core: one that finished went on, with turns that nobody counts
abbrev pub DispatchersHandleFew : Type 0
DispatchersHandleFew = (asked : List Job) (j : TheJoinedJobs) (limit : ℕ) (cores : List OneCore) (r : TheReport) → Ran asked j limit cores r
    → (n d : ℕ) (c : OneCore) (ends : List EndId) → slice_get cores n ≡ Some c → AreEnds j n c d ends → AreFirst asked c r ends
    → handled_at_all r.handled ends ≤ c.part.turns
