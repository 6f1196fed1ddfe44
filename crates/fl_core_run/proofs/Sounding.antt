-- The end of a name is the one that stands at its place.
use Rattle.std.proofs.Common.{◌≡◌, sym, ◌∙◌, subst, ℕ, slice_get, Some}
use Rattle.fl_base.specs.declared.identity.EndId.{EndId}
use Rattle.fl_endpoint.specs.Accounts.{Sound}
use Rattle.fl_core.proofs.BoardPlaces.{one_stands}
use Rattle.fl_core.specs.BoardView.{TheEndAtChannel}
use Rattle.fl_core.specs.BoardEvents.{Holds}
use Rattle.fl_core.specs.View.{place_of}
use Rattle.fl_core_run.specs.Run.{TheRun}
use Rattle.fl_core_run.specs.LogEntries.{IsSoundAt}

pub sound_of : {S : Type 0} (s : TheRun S) (name : EndId) (e : ℕ) → place_of s.core name ≡ Some e → Holds s.core.board e (λ seat. Sound seat.end) → IsSoundAt s name
sound_of s name e at holds f seat place there =
    let found : Some e ≡ Some f = sym at ∙ place in
    let same : e ≡ f = cc in
    let stood : slice_get s.core.board.seats f ≡ Some holds.0 = subst (λ (i : ℕ). slice_get s.core.board.seats i ≡ Some holds.0) same holds.1 in
    let one : holds.0 ≡ seat = one_stands s.core.board.seats f holds.0 seat stood there in
    subst (λ (z : TheEndAtChannel). Sound z.end) one holds.2
