-- That what lines of a cores file come to is theirs: what they set up, their jobs and bindings, and their number of
-- cores. Law. Public promises rest on this file.
use Rattle.std.specs.Prelude.{ℕ, ◌≡◌, ◌⊎◌, Bool, true, false, List, [], ◌∷◌, reverse, filter, filter_map, Option, Some, None}
use Rattle.std.specs.List.{list_any}
use Rattle.fl_model.specs.Events.{Kind, by_route, Event, add_interface, set_cores, bind}
use Rattle.fl_cores_file.specs.CoresFile.{which_opened}
use Rattle.fl_cores_file.specs.Draft.{Draft, takes}
use Rattle.fl_cores_file.specs.Verdicts.{stops}
use Rattle.fl_cores_file_laws.specs.JobsJoin.{job_asked}
use Rattle.fl_cores_file_laws.specs.SetUps.{sets_up, ComeTo}

-- the number of a `cores` line
abbrev pub number_asked : Event → Option ℕ
number_asked (set_cores n) = Some n
number_asked event = None

-- behind such a line no `cores` line may stand: any but an interface
abbrev pub settles_cores : Event → Bool
settles_cores (add_interface i plan) = false
settles_cores event = true

abbrev pub is_by_route : Kind → Bool
is_by_route (by_route route) = true
is_by_route kind = false

-- of a `bind` line: whether it is opened while the cores run
abbrev pub opening_asked : Event → Option Bool
opening_asked (bind client i name kind) = Some (is_by_route kind)
opening_asked event = None

-- the draft of these lines, the last of them first: it has, in the order of the lines, just the events of those that
-- set something up, the jobs of those that ask for one, and a binding for each `bind` line
pub record IsOfLines (lines : List Event) (d : Draft) : Type 0 where
  pub setup : d.setup ≡ filter sets_up (reverse lines)
  pub jobs : d.jobs ≡ filter_map job_asked (reverse lines)
  pub bindings : which_opened d.bindings ≡ filter_map opening_asked (reverse lines)
  -- there is one `cores` line at most; without one there is one core
  pub cores : ((filter_map number_asked lines ≡ []) × (d.cores ≡ 1)) ⊎ (filter_map number_asked lines ≡ d.cores ∷ [])
  pub settled : d.settled ≡ list_any settles_cores lines
  -- and no `cores` line is accepted then
  pub late : (n : ℕ) → d.settled ≡ true → takes (set_cores n) d ≡ stops 93

abbrev pub DraftsAreOfTheirLines : Type 0
DraftsAreOfTheirLines = (lines : List Event) (d : Draft) → ComeTo lines d → IsOfLines lines d
