-- When a core has nothing left to do.
use Rattle.std.specs.Prelude.{ℕ, zero, suc, ◌&&◌, not, Bool, true, List, length, slice_get}
use Rattle.fl_base.specs.declared.identity.EndId.{EndId}
use Rattle.fl_base.specs.Given.{given}
use Rattle.fl_endpoint.specs.View.{TheEnd, is_circuit, is_busy}
use Rattle.fl_core.specs.View.{TheCore, place_of}
use Rattle.fl_core_run.specs.declared.opening_status.OpeningStatus.{OpeningStatus}
use Rattle.fl_core_run.specs.declared.opening_status.OpeningStatus.TheVariants.{Refused}
use Rattle.fl_core_run.specs.EndProgress.{is_clear, progress_place}
use Rattle.fl_core_run.specs.Run.{TheRun}

-- an end that is bound, and has written all that it accepted
abbrev pub is_still : TheEnd → Bool
is_still s = is_circuit s.circuit && not (is_busy s.outgoing)

-- so is the end of a name, where it is at this core
abbrev pub is_at_rest : TheCore → EndId → Bool
is_at_rest k name =
    given (place_of k name) true λ e.
    given (slice_get k.board.seats e) true λ seat.
    is_still seat.end

-- so is the end's progress of an end, where it has one
abbrev pub is_progress_clear : {S : Type 0} → TheRun S → EndId → Bool
is_progress_clear s name =
    given (progress_place s.progresses name) true λ n.
    given (slice_get s.progresses n) true λ progress.
    is_clear progress

-- nothing is left to do at an end whose opening was refused; else its end's progress is clear, and the end at rest
abbrev pub is_done_at : {S : Type 0} → TheRun S → EndId → OpeningStatus → Bool
is_done_at s name (Refused number) = true
is_done_at s name word = is_progress_clear s name && is_at_rest s.core name

-- at the end of place k of a list
abbrev pub is_done : {S : Type 0} → TheRun S → List EndId → List OpeningStatus → ℕ → Bool
is_done s ends words k =
    given (slice_get ends k) true λ name.
    given (slice_get words k) true λ word.
    is_done_at s name word

-- at the first of them
abbrev pub all_done : {S : Type 0} → TheRun S → List EndId → List OpeningStatus → ℕ → Bool
all_done s ends words zero = true
all_done s ends words (suc k) = all_done s ends words k && is_done s ends words k

-- at each
abbrev pub is_finished : {S : Type 0} → TheRun S → List EndId → List OpeningStatus → Bool
is_finished s ends words = all_done s ends words (length ends)
