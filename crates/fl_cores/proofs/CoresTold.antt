-- The laws of endings, of each report.
use Rattle.std.proofs.Common.{◌≡◌, sym, ap, ◌∙◌, subst, ℕ, ◌≤◌, List, slice_get, Some}
use Rattle.std.proofs.lemmas.Option.{same_Some}
use Rattle.fl_cores_file.specs.Report.{TheReport}
use Rattle.fl_cores_laws.specs.EndedCores.{OneCore}
use Rattle.fl_cores_laws.specs.EndedTurns.{TellsTurns, TurnsAreKept}
use Rattle.fl_cores_laws.specs.Complete as endings
use Rattle.fl_cores_laws.specs.Few as few
use Rattle.fl_cores_laws.specs.Refused as refused
use Rattle.fl_cores_laws.proofs.Turns.{to_map}
use Rattle.fl_cores.specs.Behind.{joined_in, cores_in}
use Rattle.fl_cores.specs.Outcomes.{ReportsAreOfRuns, ReportsKeepTurns, UnfinishedHandleFew, FirstAreFew, HonestHandleFew, RefusedAreOpened, CompleteHasAsMany, CompleteHasAll}

pub keep_turns : ReportsAreOfRuns → TurnsAreKept → ReportsKeepTurns
keep_turns runs kept c jobs limit r w =
    let ran = runs c jobs limit r w in
    kept (joined_in w).jobs limit (cores_in w) r ran.went ran.turns

-- the turns that are told of a core are those that it counted
turns_of : (cores : List OneCore) (r : TheReport) → TellsTurns cores r → (n turns : ℕ) (core : OneCore) → slice_get cores n ≡ Some core → slice_get r.turns n ≡ Some turns
    → core.part.turns ≡ turns
turns_of cores r tells n turns core at told =
    same_Some core.part.turns turns (sym (ap (λ (ts : List ℕ). slice_get ts n) tells.turns ∙ to_map (λ (c : OneCore). c.part.turns) cores n core at) ∙ told)

pub unfinished_few : ReportsAreOfRuns → few.UnfinishedHandleFew → UnfinishedHandleFew
unfinished_few runs law c jobs limit r w n d turns core ends at left are told =
    let ran = runs c jobs limit r w in
    subst (λ (t : ℕ). few.handled_at_all r.handled ends ≤ t) (turns_of (cores_in w) r ran.turns n turns core at told)
    (law jobs (joined_in w) limit (cores_in w) r ran n d core ends at left are)

pub first_few : ReportsAreOfRuns → few.DispatchersHandleFew → FirstAreFew
first_few runs law c jobs limit r w n d turns core ends at are firsts told =
    let ran = runs c jobs limit r w in
    subst (λ (t : ℕ). few.handled_at_all r.handled ends ≤ t) (turns_of (cores_in w) r ran.turns n turns core at told)
    (law jobs (joined_in w) limit (cores_in w) r ran n d core ends at are firsts)

pub honest_few : ReportsAreOfRuns → refused.HonestHandleFew → HonestHandleFew
honest_few runs law c jobs limit r w honest n d turns core ends at are told =
    let ran = runs c jobs limit r w in
    subst (λ (t : ℕ). few.handled_at_all r.handled ends ≤ t) (turns_of (cores_in w) r ran.turns n turns core at told)
    (law jobs (joined_in w) limit (cores_in w) r ran honest n d core ends at are)

pub refused_opened : ReportsAreOfRuns → refused.RefusedAreOpened → RefusedAreOpened
refused_opened runs law c jobs limit r w binding fault told = law jobs (joined_in w) limit (cores_in w) r (runs c jobs limit r w) binding fault told

pub has_as_many : ReportsAreOfRuns → endings.CompleteHasAsMany → CompleteHasAsMany
has_as_many runs law c jobs limit r w done e unnamed = law jobs (joined_in w) limit (cores_in w) r (runs c jobs limit r w) done e unnamed

pub has_all : ReportsAreOfRuns → endings.CompleteHasAll → CompleteHasAll
has_all runs law c jobs limit r w honest done = law jobs (joined_in w) limit (cores_in w) r (runs c jobs limit r w) honest done
