-- Memory is wanting last: only for an event that isn't refused.
use Rattle.std.specs.Prelude.{ℕ}
use Rattle.fl_model.specs.Events.{Answer, refused}

-- no refusal is what the event comes to, whatever is there then
abbrev pub NotRefused : {X : Type 0} → (Answer → X → Type 0) → Type 0
NotRefused {X} Event = (fault : ℕ) (x : X) → Event (refused fault) x → ⊥
