-- What cores told and heard of refused openings.
use Rattle.std.specs.Prelude.{ℕ, ◌<◌, List}
use Rattle.std.specs.List.{flat_map}
use Rattle.fl_cores_table.specs.declared.table.OpeningRefusal.{OpeningRefusal}
use Rattle.fl_cores_table.specs.Counter.{Agrees, number_of}
use Rattle.fl_cores_table.specs.Seats.{TheCoresSeat}

-- what all seats told, and what they heard
abbrev pub told_by : List TheCoresSeat → List OpeningRefusal
told_by seats = flat_map (λ (s : TheCoresSeat). s.knows.stored) seats

abbrev pub heard_by : List TheCoresSeat → List OpeningRefusal
heard_by seats = flat_map (λ (s : TheCoresSeat). s.knows.heard) seats

-- of each of so many jobs that open a binding: what was heard of it is 0, or just what was told of it
abbrev pub HeardAsTold : ℕ → List TheCoresSeat → Type 0
HeardAsTold jobs seats = (job : ℕ) → job < jobs → Agrees job (number_of job (told_by seats)) (heard_by seats)
