-- What a recorded run noted. The public promise of a run rests on nothing of it.
use Rattle.std.specs.Prelude.{◌≡◌, true, List, [], map}
use Rattle.std.specs.List.{All}
use Rattle.fl_base.specs.Given.{given}
use Rattle.fl_cores_shares.specs.Noted.{TheSideRecord, noted_of}
use Rattle.fl_cores_fork.specs.declared.core_thread.FinishedCore.{FinishedCore}
use Rattle.fl_cores_parts.specs.declared.recording.RunRecord.{RunRecord}

-- what the sides of a core noted, in their order; nothing where they weren't to note
abbrev pub noted_by : FinishedCore → List TheSideRecord
noted_by d = given d.records [] λ records. map noted_of records.items

-- by core what its sides noted, as a record has it
abbrev pub sides_in : RunRecord → List (List TheSideRecord)
sides_in r = map (λ own. map noted_of own.items) r.sides.items

-- nothing of that is wanting
abbrev pub IsWhole : RunRecord → Type 0
IsWhole r = All (λ sides. All (λ s. s.is_whole ≡ true) sides.items) r.sides.items

-- by core its turns, and what its sides noted, of which nothing is wanting
pub record IsRecordOf (done : List FinishedCore) (r : RunRecord) : Type 0 where
  pub turns : r.turns.items ≡ map (λ (d : FinishedCore). d.part.turns) done
  pub sides : sides_in r ≡ map noted_by done
  pub whole : IsWhole r
