-- The turn of the end that is due: k is the board before, by the dispatchers, seats and calls that it stores.
use Rattle.std.proofs.Common.{◌≡◌, sym, ap, ◌∙◌, subst, ℕ, ◌<◌, List, length, slice_get, slice_set, slice_index_or, Some, Result, Ok, Err, OnErr}
use Rattle.std.proofs.lemmas.Option.{slice_get_within}
use Rattle.std.specs.declared.alloc.AllocError.{AllocError}
use Rattle.fl_lists.specs.ThreeLists.{ThreeLists, IsApart}
use Rattle.fl_waitset.specs.declared.waitset.Pick.{Pick}
use Rattle.fl_waitset.specs.declared.waitset.Pick.TheVariants as pick
use Rattle.fl_waitset.specs.Waiting.{next_pick}
use Rattle.fl_link.specs.Looks.{Look}
use Rattle.fl_compile.specs.declared.program.Program.{Program}
use Rattle.fl_compile.specs.Programs.{program_of}
use Rattle.fl_machine.specs.Reassembling.{TheReassembly}
use Rattle.fl_endpoint.specs.View.{TheEnd, with_parts}
use Rattle.fl_endpoint.specs.Events.{IsReady}
use Rattle.fl_endpoint.specs.Lent.{IsPlaceOf}
use Rattle.fl_core.specs.declared.kind.ChannelKind.{ChannelKind}
use Rattle.fl_core.specs.declared.turn_answer.TurnAnswer.{TurnAnswer}
use Rattle.fl_core.specs.BoardView.{TheDispatcher, TheEndAtChannel, TheBoard, channel_of, due, with_lists, with_end}
use Rattle.fl_core.specs.BoardTurns.{moment, over, LooksAt, Turns}
use Rattle.fl_core.specs.BoardSound.{MayTurn, IsBoard}
use Rattle.fl_core.specs.BoardAccounts.{TurnAccounts}
use Rattle.fl_core.specs.BoardInside.{seat_with, seats_of, Belongs, GoTogether, board_of, IsStored, end_turn, LooksAtPlace}
use Rattle.fl_core.proofs.BoardPlaces.{one_stands, set_same}
use Rattle.fl_core.proofs.Together.{Placed, read_seat, seat_of, set_both, set_both_together, as_place}
use Rattle.fl_core.proofs.Dispatchers.{finds, finds_before, due_is, may_turn}
use Rattle.fl_core.proofs.Picks.{list_of}
use Rattle.fl_core.proofs.Turning.{ready_due, turn_kept}

-- where memory ran out, the lists and the end are as they were
same_looks : {T : Type 0} (takes : T → Look → T → Type 0) (picked : Pick) (kind : ChannelKind) (w v : ThreeLists) (s t : TheEnd) (p q : T) (error : AllocError)
    → LooksAt takes picked kind (moment w s p) (Err error) (moment v t q) → (v ≡ w) × (t ≡ s)
same_looks takes (pick.Pending c) kind w v s t p q error h = (h.1, h.0.1.3.1)
same_looks takes (pick.Polled c) kind w v s t p q error h = absurd h.0

module _ (k : TheBoard) (dispatchers : List TheDispatcher) (seats : List TheEndAtChannel) (calls : List TheReassembly) (same : board_of dispatchers seats calls ≡ k) (stored : IsStored dispatchers seats calls)
    (n : ℕ) (below : n < length k.dispatchers) (d read : TheDispatcher) (value : read ≡ slice_index_or dispatchers n read) (view : d ≡ read)
    (pick : Pick) (picked : next_pick d.lists ≡ Ok pick) (e : ℕ) (is_due : due k n ≡ Some e) where
  end_due : slice_get d.ends (channel_of pick) ≡ Some e
  end_due = sym (due_is k (board_of dispatchers seats calls) same n below d read value view (Ok pick) (sym picked)) ∙ is_due

  m : MayTurn (seats_of seats calls) d.ends (list_of pick) (channel_of pick)
  m = may_turn k (board_of dispatchers seats calls) same n below d read value view stored.board pick picked

  pub due_below : e < length (seats_of seats calls)
  due_below =
      let place : m.place ≡ e = one_stands d.ends (channel_of pick) m.place e m.place_is end_due in
      slice_get_within (seats_of seats calls) e m.seat (ap (slice_get (seats_of seats calls)) (sym place) ∙ m.seat_is)

  found : slice_get dispatchers n ≡ Some d
  found = finds k (board_of dispatchers seats calls) same n below d read value view

  module _ (s seen : TheEndAtChannel) (value_s : seen ≡ slice_index_or seats e seen) (view_s : s ≡ seen) where
    here : Placed seats calls e s
    here = read_seat seats calls stored.together e due_below s seen value_s view_s

    pub place_due : IsPlaceOf s.end calls e
    place_due = as_place s.end calls e here.call here.call_is here.of

    pub ready : IsReady s.end
    ready = ready_due (board_of dispatchers seats calls) stored.board n d found pick picked e end_due (seat_with s here.call.parts) here.there

    module _ {T : Type 0} (takes : T → Look → T → Type 0) (w : ThreeLists) (t : TheEnd) (p q : T) (answer : Result TurnAnswer AllocError) (after : List TheReassembly)
        (looks : LooksAtPlace takes (end_turn pick s.kind (moment d.lists s.end p) answer (moment w t q)) calls e after) where
      was_is : looks.was ≡ here.call
      was_is = one_stands calls e looks.was here.call looks.was_there here.call_is

      looks_here : LooksAt takes pick s.kind (moment d.lists (with_parts s.end here.call.parts) p) answer (moment w (with_parts t looks.is.parts) q)
      looks_here = subst (λ (x : TheReassembly). LooksAt takes pick s.kind (moment d.lists (with_parts s.end x.parts) p) answer (moment w (with_parts t looks.is.parts) q)) was_is looks.event.1

      end_set : board_of (slice_set dispatchers n (record { lists = w; ends = d.ends })) (slice_set seats e (seat_of s t)) after
          ≡ with_end (with_lists (board_of dispatchers seats calls) n d w) e (seat_with s here.call.parts) (with_parts t looks.is.parts)
      end_set = ap (λ (xs : List TheEndAtChannel). let x : TheBoard = record { dispatchers = slice_set dispatchers n (record { lists = w; ends = d.ends }); seats = xs } in x)
          (ap (λ (x : List TheReassembly). seats_of (slice_set seats e (seat_of s t)) x) looks.after_is ∙ set_both seats calls e (seat_of s t) here.call looks.is here.call_is)

      pub due_kept : TurnAccounts takes → IsApart w → IsStored (slice_set dispatchers n (record { lists = w; ends = d.ends })) (slice_set seats e (seat_of s t)) after
      due_kept accounts apart =
          let adds = accounts pick s.kind d.lists w (with_parts s.end here.call.parts) (with_parts t looks.is.parts) p q answer here.of.sound ready looks_here in
          let of : Belongs looks.is t = record {
            program = ap (λ (x : Program). program_of x) (looks.event.0 ∙ ap (λ (x : TheReassembly). x.program) was_is) ∙ here.of.program ∙ ap (λ (x : Program). program_of x) (sym adds.account.program);
            sound = adds.sound;
          } in
          record {
            board = subst IsBoard (sym end_set)
                (turn_kept (board_of dispatchers seats calls) stored.board n d found pick picked e end_due (seat_with s here.call.parts) here.there takes w (with_parts t looks.is.parts) p q answer looks_here apart);
            together = subst (λ (x : List TheReassembly). GoTogether (slice_set seats e (seat_of s t)) x) (sym looks.after_is) (set_both_together seats calls stored.together e (seat_of s t) looks.is of);
          }

      pub due_turns : Turns takes n e (over k p) answer (over (board_of (slice_set dispatchers n (record { lists = w; ends = d.ends })) (slice_set seats e (seat_of s t)) after) q)
      due_turns = record {
        dispatcher = d;
        dispatcher_is = finds_before k (board_of dispatchers seats calls) same n below d read value view;
        picked = pick;
        picked_is = picked;
        end_is = end_due;
        seat = seat_with s here.call.parts;
        seat_is = subst (λ (x : TheBoard). slice_get x.seats e ≡ Some (seat_with s here.call.parts)) same here.there;
        lists = w;
        end = with_parts t looks.is.parts;
        looks = looks_here;
        board = end_set ∙ ap (λ (x : TheBoard). with_end (with_lists x n d w) e (seat_with s here.call.parts) (with_parts t looks.is.parts)) same;
      }

    -- where memory ran out, the board is as it was
    module _ {T : Type 0} (takes : T → Look → T → Type 0) (w : ThreeLists) (t : TheEnd) (p q : T) (after : List TheReassembly) where
      same_board : (error : AllocError) → LooksAtPlace takes (end_turn pick s.kind (moment d.lists s.end p) (Err error) (moment w t q)) calls e after
          → board_of (slice_set dispatchers n (record { lists = w; ends = d.ends })) (slice_set seats e (seat_of s t)) after ≡ k
      same_board error looks =
          let as_it_was = same_looks takes pick s.kind d.lists w (with_parts s.end here.call.parts) (with_parts t looks.is.parts) p q error (looks_here takes w t p q (Err error) after looks) in
          end_set takes w t p q (Err error) after looks
          ∙ ap (λ (x : ThreeLists). with_end (with_lists (board_of dispatchers seats calls) n d x) e (seat_with s here.call.parts) (with_parts t looks.is.parts)) as_it_was.0
          ∙ ap (λ (x : TheEnd). with_end (with_lists (board_of dispatchers seats calls) n d d.lists) e (seat_with s here.call.parts) x) as_it_was.1
          ∙ ap (λ (x : List TheDispatcher). let y : TheBoard = record { dispatchers = x; seats = slice_set (seats_of seats calls) e (seat_with s here.call.parts) } in y) (set_same dispatchers n d found)
          ∙ ap (λ (x : List TheEndAtChannel). let y : TheBoard = record { dispatchers = dispatchers; seats = x } in y) (set_same (seats_of seats calls) e (seat_with s here.call.parts) here.there)
          ∙ same

      pub due_same : (answer : Result TurnAnswer AllocError) → LooksAtPlace takes (end_turn pick s.kind (moment d.lists s.end p) answer (moment w t q)) calls e after
          → OnErr answer (board_of (slice_set dispatchers n (record { lists = w; ends = d.ends })) (slice_set seats e (seat_of s t)) after ≡ k)
      due_same (Ok done) looks = tt
      due_same (Err error) looks = same_board error looks
