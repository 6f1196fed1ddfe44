-- Why openings of circuits are refused.
use Rattle.std.specs.Prelude.{ℕ, ◌≡◌, ◌⊎◌, ◌≤◌, List}
use Rattle.fl_base.specs.declared.identity.EndId.{EndId}
use Rattle.fl_base.specs.Numbered.{most_cores}
use Rattle.fl_model.specs.Events.{Event, opening_refused}
use Rattle.fl_model.specs.Runs.{reached}
use Rattle.fl_model.specs.Step.{step}
use Rattle.fl_model.specs.Worlds.{start_with}

-- the service isn't there, its dispatcher has no place for one more end, there is no link to the next core,
-- or it has no number left
abbrev pub IsOpeningFault : ℕ → Type 0
IsOpeningFault fault = (fault ≡ 70) ⊎ (fault ≡ 54) ⊎ (fault ≡ 73) ⊎ (fault ≡ 74)

-- in every run from a world of 1 to 16 cores, an answer by which a client hears that its opening was refused
-- has such a fault
abbrev pub OpeningsFailFor : Type 0
OpeningsFailFor = (cores : ℕ) (vs : List Event) (v : Event) (fault : ℕ) (e : EndId) → 1 ≤ cores
    → cores ≤ most_cores
    → (step (reached (start_with cores) vs) v).answer ≡ opening_refused fault e → IsOpeningFault fault
