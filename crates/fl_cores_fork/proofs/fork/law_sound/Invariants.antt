use Rattle.std.proofs.Common.{ℕ, ◌≡◌, ◌<◌, slice_get, Some}
use Rattle.fl_core.specs.BoardView.{TheEndAtChannel}
use Rattle.fl_endpoint.specs.Accounts.{Sound as IsEnd}
use Rattle.fl_cores_fork.proofs.fork.law_sound.Given as goal

-- the ends so far are sound
abbrev pub invariant-loop-e : goal.invariant-loop-e
invariant-loop-e l = (place : ℕ) (seat : TheEndAtChannel) → place < l.e → slice_get l.core.board.seats place ≡ Some seat → IsEnd seat.end
