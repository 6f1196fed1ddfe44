-- An event at the end that sits at a place: k is the board before, by the dispatchers, seats and calls that it stores.
use Rattle.std.proofs.Common.{◌≡◌, sym, ap, ◌∙◌, subst, ℕ, ◌<◌, List, length, slice_get, slice_set, slice_index_or, Some}
use Rattle.fl_machine.specs.Reassembling.{TheReassembly}
use Rattle.fl_endpoint.specs.View.{TheEnd, with_parts}
use Rattle.fl_endpoint.specs.Accounts.{Sound}
use Rattle.fl_endpoint.specs.Events.{IsReady}
use Rattle.fl_core.specs.BoardView.{TheDispatcher, TheEndAtChannel, TheBoard, with_end}
use Rattle.fl_core.specs.BoardSound.{IsBoard}
use Rattle.fl_core.specs.BoardEvents.{ChangesEnd, Holds}
use Rattle.fl_core.specs.BoardInside.{seat_with, board_of, IsStored}
use Rattle.fl_core.proofs.BoardPlaces.{one_stands}
use Rattle.fl_core.proofs.Together.{Placed, read_seat, seat_of, set_seat, set_seat_together, still_of}
use Rattle.fl_core.proofs.BoardKept.{end_kept, seated_ready}

module _ (k : TheBoard) (dispatchers : List TheDispatcher) (seats : List TheEndAtChannel) (calls : List TheReassembly) (same : board_of dispatchers seats calls ≡ k) (stored : IsStored dispatchers seats calls)
    (e : ℕ) (below : e < length k.seats) (s read : TheEndAtChannel) (value : read ≡ slice_index_or seats e read) (view : s ≡ read) where
  -- the end that was read sits there, with what was taken at its place
  pub here : Placed seats calls e s
  here = read_seat seats calls stored.together e (subst (λ (x : TheBoard). e < length x.seats) (sym same) below) s read value view

  -- so it does on the board before
  pub reads_before : slice_get k.seats e ≡ Some (seat_with s here.call.parts)
  reads_before = subst (λ (x : TheBoard). slice_get x.seats e ≡ Some (seat_with s here.call.parts)) same here.there

  -- and what is known of what sits there is known of it
  pub holds_here : (Fact : TheEndAtChannel → Type 0) → Holds k e Fact → Fact (seat_with s here.call.parts)
  holds_here Fact h = subst Fact (one_stands k.seats e h.0 (seat_with s here.call.parts) h.1 reads_before) h.2

  end_set : (t : TheEnd) → board_of dispatchers (slice_set seats e (seat_of s t)) calls ≡ with_end (board_of dispatchers seats calls) e (seat_with s here.call.parts) (with_parts t here.call.parts)
  end_set t = ap (λ (xs : List TheEndAtChannel). let x : TheBoard = record { dispatchers = dispatchers; seats = xs } in x) (set_seat seats calls e (seat_of s t) here.call here.call_is)

  pub end_event : (Event : TheEnd → TheEnd → Type 0) (t : TheEnd) → Event (with_parts s.end here.call.parts) (with_parts t here.call.parts) → ChangesEnd k e Event (board_of dispatchers (slice_set seats e (seat_of s t)) calls)
  end_event Event t event = record {
    seat = seat_with s here.call.parts;
    seat_is = reads_before;
    end = with_parts t here.call.parts;
    event = event;
    board = end_set t ∙ ap (λ (x : TheBoard). with_end x e (seat_with s here.call.parts) (with_parts t here.call.parts)) same;
  }

  pub end_event_kept : (t : TheEnd) → t.program ≡ s.end.program → Sound (with_parts t here.call.parts) → (IsReady s.end → IsReady t) → IsStored dispatchers (slice_set seats e (seat_of s t)) calls
  end_event_kept t program sound stays = record {
    board = subst IsBoard (sym (end_set t))
        (end_kept (board_of dispatchers seats calls) stored.board e (seat_with s here.call.parts) here.there (with_parts t here.call.parts)
        (λ d at list registered. stays (seated_ready (board_of dispatchers seats calls) stored.board e (seat_with s here.call.parts) here.there d at list registered)));
    together = set_seat_together seats calls stored.together e (seat_of s t) here.call here.call_is (still_of s.end t here.call here.of program sound);
  }
