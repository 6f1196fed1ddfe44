-- A dispatcher has a turn: by what was read of its core, which is k.
use Rattle.std.proofs.Common.{◌≡◌, refl, sym, ap, ◌∙◌, subst, ℕ, ◌<◌, length, slice_get, true, Some, None, Result, Ok, Err, IfOk}
use Rattle.std.specs.Prelude.{not}
use Rattle.std.proofs.lemmas.Result.{IfOk-weaker}
use Rattle.std.specs.declared.alloc.AllocError.{AllocError}
use Rattle.fl_base.specs.declared.identity.EndId.{EndId}
use Rattle.fl_core.specs.BoardView.{TheBoard, due}
use Rattle.fl_core.specs.declared.wiring.Inlet.{Inlet}
use Rattle.fl_core.specs.View.{TheCore, place_of, inlet_of}
use Rattle.fl_model.specs.Events.{DispatcherId, nothing}
use Rattle.fl_value_data.specs.Value.{TheCall}
use Rattle.fl_model.specs.declared.answer.TurnedAnswer.{TurnedAnswer}
use Rattle.fl_model.specs.Views.{turned_of}
use Rattle.fl_world_refines.specs.View.{TheWorld, has_dispatcher}
use Rattle.fl_world_refines.specs.Taking.{IsDue, TurnsAt, due_at, HasTurn}
use Rattle.fl_world.specs.Places.{IsDueOver, TurnsFrom}
use Rattle.fl_world.proofs.Requested.{if_false, given_none, given_some}
use Rattle.fl_world.proofs.Seen.{due_is_at}

module _ (w : TheWorld) (d : DispatcherId) (k : TheCore) (is : slice_get w.cores d.core ≡ Some k) (board : TheBoard) (same : board ≡ k.board) where
  board_due : due_at w d ≡ due board d.place
  board_due = due_is_at w d k is ∙ ap (λ (b : TheBoard). due b d.place) (sym same)

  pub none_due : has_dispatcher w d ≡ true → None ≡ due board d.place → HasTurn d w nothing w
  none_due has none = if_false _ _ _ (ap not has) (given_none _ _ _ (board_due ∙ sym none) (refl, refl))

  -- where an end is due
  module _ (there : d.place < length k.board.dispatchers) (e : ℕ) (some : Some e ≡ due board d.place) (name : EndId) (i : Inlet) (takes : inlet_of k e ≡ Some i) where
    due_is : due k.board d.place ≡ Some e
    due_is = sym (some ∙ ap (λ (b : TheBoard). due b d.place) same)

    pub due_over : e < length board.seats → IsDueOver w.cores d.core (record { dispatcher = d.place; end = e; name = name }) i
    due_over within = record {
      core = k;
      core_is = is;
      there = there;
      due_is = due_is;
      within = subst (λ (b : TheBoard). e < length b.seats) same within;
      inlet_is = takes;
    }

    module _ (named : place_of k name ≡ Some e) where
      pub is_due : IsDue w d e name i
      is_due = record { core = k; core_is = is; due_is = due_is; name_is = named; inlet_is = takes }

      turns_at : (o : Result TurnedAnswer AllocError) (call : TheCall) (w2 : TheWorld)
          → IfOk o (λ a. TurnsFrom i d.core (record { dispatcher = d.place; end = e; name = name }) w (turned_of a call) w2)
          → IfOk o (λ a. TurnsAt d e w (turned_of a call) w2)
      turns_at (Err error) call w2 h = tt
      turns_at (Ok a) call w2 h = (name, i, is_due, h)

      pub turn_done : has_dispatcher w d ≡ true → (o : Result TurnedAnswer AllocError) (call : TheCall) (w2 : TheWorld)
          → IfOk o (λ a. TurnsFrom i d.core (record { dispatcher = d.place; end = e; name = name }) w (turned_of a call) w2)
          → IfOk o (λ a. HasTurn d w (turned_of a call) w2)
      turn_done has o call w2 h =
          IfOk-weaker o _ _ (λ a t. if_false _ _ _ (ap not has) (given_some _ _ _ e (board_due ∙ sym some) t)) (turns_at o call w2 h)
