-- A world's turns want memory for just what a running core's turns want it for. Law.
use Rattle.std.specs.Prelude.{ℕ}
use Rattle.fl_link.specs.Looks.{Look}
use Rattle.fl_core.specs.BoardView.{TheBoard}
use Rattle.fl_core.specs.BoardEvents.{Holds}
use Rattle.fl_core_run.specs.Wants.{MakesWhole, LooksAtPending}
use Rattle.fl_world_events.specs.Wants.{HandlesCall}

-- a dispatcher's turn handles a call, in a world just where it does in a running core's words
pub record TurnsWantAlike {T : Type 0} (takes : T → Look → T → Type 0) : Type 0 where
  pub of_world : (d e : ℕ) (b : TheBoard) (p : T) → HandlesCall takes d e b p
      → LooksAtPending b d × Holds b e (λ seat. MakesWhole takes p seat.end)
  pub of_core : (d e : ℕ) (b : TheBoard) (p : T) → LooksAtPending b d → Holds b e (λ seat. MakesWhole takes p seat.end)
      → HandlesCall takes d e b p
