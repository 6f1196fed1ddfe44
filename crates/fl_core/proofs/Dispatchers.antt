-- A dispatcher at a place, and the end that is due there: k is the board before, and base the same by its fields.
use Rattle.std.proofs.Common.{◌≡◌, refl, sym, ap, ◌∙◌, subst, ℕ, ◌<◌, length, slice_get, slice_index_or, Some, Result, Ok}
use Rattle.std.proofs.lemmas.Option.{slice_get_read, slice_get_within}
use Rattle.fl_waitset.specs.declared.fault.WaitFault.{WaitFault}
use Rattle.fl_waitset.specs.declared.waitset.Pick.{Pick}
use Rattle.fl_waitset.specs.Waiting.{next_pick}
use Rattle.fl_core.specs.BoardView.{TheDispatcher, TheBoard, channel_of, end_picked, due_in, due}
use Rattle.fl_core.specs.BoardSound.{MayTurn, IsBoard}
use Rattle.fl_core.proofs.Picks.{list_of, pick_listed}

module _ (k base : TheBoard) (same : base ≡ k) (n : ℕ) (below : n < length k.dispatchers) (d read : TheDispatcher) (value : read ≡ slice_index_or base.dispatchers n read) (view : d ≡ read) where
  -- the dispatcher that was read stands there
  pub finds : slice_get base.dispatchers n ≡ Some d
  finds =
      let within : n < length base.dispatchers = subst (λ (x : TheBoard). n < length x.dispatchers) (sym same) below in
      slice_get_read base.dispatchers (length base.dispatchers) n read refl within value ∙ ap Some (sym view)

  -- so it does on the board before
  pub finds_before : slice_get k.dispatchers n ≡ Some d
  finds_before = subst (λ (x : TheBoard). slice_get x.dispatchers n ≡ Some d) same finds

  pub due_is : (r : Result Pick WaitFault) → r ≡ next_pick d.lists → due k n ≡ end_picked d.ends r
  due_is r h = ap due_in finds_before ∙ ap (end_picked d.ends) (sym h)

  module _ (sound : IsBoard base) (pick : Pick) (picked : next_pick d.lists ≡ Ok pick) where
    -- the end of what is picked is there, and ready
    pub may_turn : MayTurn base.seats d.ends (list_of pick) (channel_of pick)
    may_turn = (sound.dispatchers n d finds).registered (list_of pick) (channel_of pick) (pick_listed d.lists pick picked)

    pub channel_below : channel_of pick < length d.ends
    channel_below = slice_get_within d.ends (channel_of pick) may_turn.place may_turn.place_is

    module _ (c e : ℕ) (c_is : c ≡ channel_of pick) (read_e : e ≡ slice_index_or d.ends c e) where
      pub place_is : slice_get d.ends (channel_of pick) ≡ Some e
      place_is =
          let within : c < length d.ends = subst (λ (i : ℕ). i < length d.ends) (sym c_is) channel_below in
          ap (slice_get d.ends) (sym c_is) ∙ slice_get_read d.ends (length d.ends) c e refl within read_e

      place_same : may_turn.place ≡ e
      place_same = cc (may_turn.place_is, place_is)

      pub seat_there : slice_get base.seats e ≡ Some may_turn.seat
      seat_there = ap (slice_get base.seats) (sym place_same) ∙ may_turn.seat_is

      pub place_below : e < length base.seats
      place_below = slice_get_within base.seats e may_turn.seat seat_there
