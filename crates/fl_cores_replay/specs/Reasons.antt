-- Why there is no script of a run that has no record, and of one that has.
use Rattle.std.specs.Prelude.{◌≡◌, ◌<◌, Bool, true, if◌then◌else◌, Option, None, is_some, Result, Err, IfErr}
use Rattle.fl_cores_replay.specs.declared.no_script.NoScript.{NoScript}
use Rattle.fl_cores_replay.specs.declared.no_script.NoScript.TheVariants.{Memory, Unrecorded, RecordLost, OtherFile}
use Rattle.fl_cores_replay.specs.declared.no_script.NoScript.TheVariants.{Strays, NoOrder, TooLong, OtherLines, OtherCalls}

-- where the run was to be recorded, and where not
abbrev pub reason_without : Bool → NoScript
reason_without is_on = if is_on then RecordLost else Unrecorded

-- without a record just that is told
abbrev pub IsToldUnrecorded : {R T : Type 0} → Option R → Bool → Result T NoScript → Type 0
IsToldUnrecorded noted is_on result = noted ≡ None → result ≡ Err (reason_without is_on)

-- with one neither of these is told; and where a script is said to be too long, it is said to have more than 1,048,576 bytes
abbrev pub IsOfRecord : NoScript → Type 0
IsOfRecord Memory = Unit {0}
IsOfRecord Unrecorded = ⊥
IsOfRecord RecordLost = ⊥
IsOfRecord OtherFile = Unit {0}
IsOfRecord Strays = Unit {0}
IsOfRecord NoOrder = Unit {0}
IsOfRecord (TooLong bytes) = 1048576 < bytes
IsOfRecord OtherLines = Unit {0}
IsOfRecord OtherCalls = Unit {0}

abbrev pub IsToldOfRecord : {R T : Type 0} → Option R → Result T NoScript → Type 0
IsToldOfRecord noted result = is_some noted ≡ true → IfErr result (λ reason. IsOfRecord reason)
