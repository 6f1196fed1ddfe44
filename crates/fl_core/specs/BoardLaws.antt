-- What a change of one end, or of one dispatcher's lists, leaves alone: laws.
use Rattle.std.specs.Prelude.{◌≡◌, ◌≢◌, ℕ, slice_get, Some}
use Rattle.fl_lists.specs.ThreeLists.{ThreeLists}
use Rattle.fl_endpoint.specs.View.{TheEnd}
use Rattle.fl_core.specs.BoardView.{TheDispatcher, TheEndAtChannel, TheBoard, with_lists, with_end}

-- all other ends stay
abbrev pub OtherEndsStay : Type 0
OtherEndsStay = (b : TheBoard) (e f : ℕ) (s : TheEndAtChannel) (t : TheEnd) → f ≢ e → slice_get (with_end b e s t).seats f ≡ slice_get b.seats f

-- the end is where it was, at the same channel
abbrev pub EndIsThere : Type 0
EndIsThere = (b : TheBoard) (e : ℕ) (s : TheEndAtChannel) (t : TheEnd) → slice_get b.seats e ≡ Some s
    → slice_get (with_end b e s t).seats e ≡ Some (record s { end = t })

-- an end that stays as it was changes nothing
abbrev pub SameEnd : Type 0
SameEnd = (b : TheBoard) (e : ℕ) (s : TheEndAtChannel) → slice_get b.seats e ≡ Some s → with_end b e s s.end ≡ b

-- all other dispatchers stay
abbrev pub OtherDispatchersStay : Type 0
OtherDispatchersStay = (b : TheBoard) (n m : ℕ) (d : TheDispatcher) (w : ThreeLists) → m ≢ n
    → slice_get (with_lists b n d w).dispatchers m ≡ slice_get b.dispatchers m

-- the dispatcher is where it was, with the same ends
abbrev pub DispatcherIsThere : Type 0
DispatcherIsThere = (b : TheBoard) (n : ℕ) (d : TheDispatcher) (w : ThreeLists) → slice_get b.dispatchers n ≡ Some d
    → slice_get (with_lists b n d w).dispatchers n ≡ Some (record d { lists = w })

-- lists that stay as they were change nothing
abbrev pub SameLists : Type 0
SameLists = (b : TheBoard) (n : ℕ) (d : TheDispatcher) → slice_get b.dispatchers n ≡ Some d → with_lists b n d d.lists ≡ b
