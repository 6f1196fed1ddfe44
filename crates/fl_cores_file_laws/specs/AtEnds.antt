-- That a line which asks for a call or a reply rule at an end that is set up is refused as the machine, asked for just
-- that, refuses it. Law. Public promises rest on this file.
use Rattle.std.specs.Prelude.{ℕ, ◌≡◌, ◌==◌, ◌||◌, true, if◌then◌else◌, List, slice_get, Option, Some, None}
use Rattle.fl_base.specs.declared.identity.EndId.{EndId}
use Rattle.fl_value_data.specs.Value.{TheCall}
use Rattle.fl_model.specs.Events.{Event, call, reply, Answer, refused}
use Rattle.fl_model.specs.Step.{step}
use Rattle.fl_cores_file.specs.CoresFile.{which_opened, numbers_of, end_by}
use Rattle.fl_cores_file.specs.Draft.{Draft, takes}
use Rattle.fl_cores_file.specs.Verdicts.{LineVerdict, stops, goes_on}
use Rattle.fl_cores_file_laws.specs.SetUps.{ComeTo, behind}

-- the machine's fault, but those for which a call waits in a cores file: its end is busy (E40), or isn't bound (E43)
abbrev pub fault_answered : Answer → Option ℕ
fault_answered (refused fault) = if (fault == 40) || (fault == 43) then None else Some fault
fault_answered answer = None

-- a line's fault, but that of an end which would both have rules and make calls, or of two ends with rules (E44): the
-- machine takes these
abbrev pub fault_asked : LineVerdict Draft → Option ℕ
fault_asked (stops fault) = if fault == 44 then None else Some fault
fault_asked (goes_on d) = None

-- the end, which a line names by its binding's place among the `bind` lines, as the machine numbers it
abbrev pub numbered_end : Draft → EndId → EndId
numbered_end d e = end_by (numbers_of (which_opened d.bindings)) e

-- behind what the draft sets up the machine has just the faults of these lines
pub record IsRefusedAlike (d : Draft) (e : EndId) : Type 0 where
  pub calls : (c : TheCall) → fault_answered (step (behind d) (call (numbered_end d e) c)).answer ≡ fault_asked (takes (call e c) d)
  pub rules : (msg answer : ℕ)
      → fault_answered (step (behind d) (reply (numbered_end d e) msg answer)).answer ≡ fault_asked (takes (reply e msg answer) d)

-- at any end but those of circuits, which the machine doesn't have yet
abbrev pub EndsRefuseAlike : Type 0
EndsRefuseAlike = (lines : List Event) (d : Draft) → ComeTo lines d
    → (e : EndId) → (slice_get (which_opened d.bindings) e.binding ≡ Some true → ⊥) → IsRefusedAlike d e
