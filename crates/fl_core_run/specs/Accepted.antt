-- What an end accepted of the calls that it came to send: all but the replies that wait.
use Rattle.std.specs.Prelude.{ℕ, ◌-◌, List, length, take, slice_get}
use Rattle.fl_base.specs.declared.identity.EndId.{EndId}
use Rattle.fl_base.specs.Given.{given}
use Rattle.fl_value_data.specs.Value.{TheCall}
use Rattle.fl_core.specs.View.{place_of}
use Rattle.fl_core_run.specs.Run.{TheRun}

-- how many replies wait at an end; none where it isn't at this core
abbrev pub count_waiting : {S : Type 0} → TheRun S → EndId → ℕ
count_waiting s name =
    given (place_of s.core name) 0 λ e.
    given (slice_get s.core.board.seats e) 0 λ seat. length seat.end.outgoing.waiting

-- of these calls, in order, all but the last, of which so many wait
abbrev pub accepted_of : ℕ → List TheCall → List TheCall
accepted_of waiting calls = take (length calls - waiting) calls
