-- What events of a board leave alone: how fragments come to each end.
use Rattle.std.proofs.Common.{◌≡◌, refl, sym, ap, ◌∙◌, ℕ, zero, suc, List, [], ◌∷◌, slice_get, slice_set, Some, Result}
use Rattle.std.specs.declared.alloc.AllocError.{AllocError}
use Rattle.fl_lists.specs.ThreeLists.{ThreeLists}
use Rattle.fl_link.specs.Looks.{Look}
use Rattle.fl_endpoint.specs.View.{TheEnd}
use Rattle.fl_core.specs.declared.kind.ChannelKind.{ChannelKind}
use Rattle.fl_core.specs.declared.turn_answer.TurnAnswer.{TurnAnswer}
use Rattle.fl_core.specs.BoardView.{TheEndAtChannel, TheBoard}
use Rattle.fl_core.specs.BoardEvents.{ChangesEnd, ChangesLists}
use Rattle.fl_core.specs.BoardTurns.{Turns, BoardAndSide}
use Rattle.fl_core.specs.Sound.{kinds_seated}
use Rattle.fl_core.specs.Ends.{TriggersIf}
use Rattle.std.specs.Prelude.{Option, None}

-- over any type: where it is a seat, `cc` would look at all the parts of an end
same_some : {X : Type 0} (x y : X) → Some x ≡ Some y → x ≡ y
same_some x y e = cc

-- another end in a seat
pub seat_kinds : (seats : List TheEndAtChannel) (e : ℕ) (s : TheEndAtChannel) (t : TheEnd) → slice_get seats e ≡ Some s
    → kinds_seated (slice_set seats e (record { end = t; dispatcher = s.dispatcher; channel = s.channel; kind = s.kind })) ≡ kinds_seated seats
seat_kinds [] e s t at = refl
seat_kinds (x ∷ xs) zero s t at = ap (λ (y : TheEndAtChannel). y.kind ∷ kinds_seated xs) (sym (same_some x s at))
seat_kinds (x ∷ xs) (suc e) s t at = ap (λ (ks : List ChannelKind). x.kind ∷ ks) (seat_kinds xs e s t at)

pub end_kinds : (b c : TheBoard) (e : ℕ) (Event : TheEnd → TheEnd → Type 0) → ChangesEnd b e Event c → kinds_seated c.seats ≡ kinds_seated b.seats
end_kinds b c e Event h = ap (λ (x : TheBoard). kinds_seated x.seats) h.board ∙ seat_kinds b.seats e h.seat h.end h.seat_is

pub lists_kinds : (b c : TheBoard) (e : ℕ) (Event : TheEndAtChannel → ThreeLists → ThreeLists → Type 0) → ChangesLists b e Event c → kinds_seated c.seats ≡ kinds_seated b.seats
lists_kinds b c e Event h = ap (λ (x : TheBoard). kinds_seated x.seats) h.board

pub turn_kinds : {T : Type 0} (takes : T → Look → T → Type 0) (n e : ℕ) (a b : BoardAndSide T) (answer : Result TurnAnswer AllocError) → Turns takes n e a answer b
    → kinds_seated b.board.seats ≡ kinds_seated a.board.seats
turn_kinds takes n e a b answer h = ap (λ (x : TheBoard). kinds_seated x.seats) h.board ∙ seat_kinds a.board.seats e h.seat h.end h.seat_is

pub triggers_kinds : (at : Option ℕ) (b c : TheBoard) → TriggersIf at b c → kinds_seated c.seats ≡ kinds_seated b.seats
triggers_kinds None b c h = ap (λ (x : TheBoard). kinds_seated x.seats) h
triggers_kinds (Some e) b c h = ap (λ (x : TheBoard). kinds_seated x.seats) h.board
