use Rattle.std.proofs.Common.{◌≡◌, ◌<◌, ℕ, refl, sym, ap, ◌∙◌, subst, length, slice_get, Some, None}
use Rattle.std.specs.Prelude.{not}
use Rattle.std.proofs.lemmas.Bool.{ltb-false}
use Rattle.fl_core.specs.BoardView.{TheBoard}
use Rattle.fl_model.specs.Views.{id_of}
use Rattle.fl_world_refines.specs.View.{TheWorld}
use Rattle.fl_world.proofs.Requested.{if_true}
use Rattle.fl_value_data.specs.Value.{call_of}
use Rattle.fl_world.proofs.Handling.{wants_to_handle}
use Rattle.fl_world.proofs.Seen.{seen, unseen, no_dispatcher_at, lacks_dispatcher, holds_dispatcher, dispatcher_below}
use Rattle.fl_world.proofs.Turned.{none_due, due_over, is_due, turn_done}
use Rattle.fl_world.proofs.world.World.turn.Goals as goal

pub returns-in_default : goal.returns-in_default
returns-in_default c =
    let none : slice_get c.args.self.now.cores c.args.d.core ≡ None
    = unseen c.args.self.now _ c.self.view_is (λ (x : TheWorld). x.cores) c.deref.result.now c.deref.ensures.value c.args.d.core
    (ltb-false c.args.d.core (length c.deref.result.now) (sym c.in_default.ensures.lookup.0)) in
    record { turns = if_true _ _ _ (ap not (sym (no_dispatcher_at c.args.self.now (id_of c.args.d) none))) (refl, refl); kept = tt; last = tt }

pub returns-then-d-dispatchers : goal.returns-then-d-dispatchers
returns-then-d-dispatchers c =
    let core : slice_get c.args.self.now.cores c.args.d.core ≡ Some c.in-Some.core.now
    = seen c.args.self.now _ c.self.view_is (λ (x : TheWorld). x.cores) c.deref.result.now c.deref.ensures.value c.args.d.core c.in-Some.core.now
    c.in-Some.ensures.lookup.3.0 c.in-Some.ensures.lookup.1 in
    record { turns = if_true _ _ _ (ap not (lacks_dispatcher c.args.self.now (id_of c.args.d) c.in-Some.core.now core c.board-board.result.now c.board-board.ensures.board c.dispatchers.result c.dispatchers.ensures.dispatchers c.if-d-dispatchers.true)) (refl, refl); kept = tt; last = tt }

pub due-requires : goal.due-requires
due-requires c = subst (λ (n : ℕ). c.args.d.place < n) c.dispatchers.ensures.dispatchers c.if-d-dispatchers.false

pub returns-in_default-due : goal.returns-in_default-due
returns-in_default-due c =
    let core : slice_get c.args.self.now.cores c.args.d.core ≡ Some c.in-Some.core.now
    = seen c.args.self.now _ c.self.view_is (λ (x : TheWorld). x.cores) c.deref.result.now c.deref.ensures.value c.args.d.core c.in-Some.core.now
    c.in-Some.ensures.lookup.3.0 c.in-Some.ensures.lookup.1 in
    let has = holds_dispatcher c.args.self.now (id_of c.args.d) c.in-Some.core.now core c.board-board.result.now c.board-board.ensures.board c.dispatchers.result c.dispatchers.ensures.dispatchers c.if-d-dispatchers.false in
    record { turns = none_due c.args.self.now (id_of c.args.d) c.in-Some.core.now core c.board-board.result.now c.board-board.ensures.board has c.in_default-due.ensures.due; kept = tt; last = tt }

pub name-requires : goal.name-requires
name-requires c = subst (λ (b : TheBoard). c.in-Some-due.e < length b.seats) c.board-board.ensures.board c.in-Some-due.ensures.within

pub inlet-requires : goal.inlet-requires
inlet-requires c = subst (λ (b : TheBoard). c.in-Some-due.e < length b.seats) c.board-board.ensures.board c.in-Some-due.ensures.within

pub turn_over_queue-requires : goal.turn_over_queue-requires
turn_over_queue-requires c =
    let core : slice_get c.args.self.now.cores c.args.d.core ≡ Some c.in-Some.core.now
    = seen c.args.self.now _ c.self.view_is (λ (x : TheWorld). x.cores) c.deref.result.now c.deref.ensures.value c.args.d.core c.in-Some.core.now
    c.in-Some.ensures.lookup.3.0 c.in-Some.ensures.lookup.1 in
    let there = dispatcher_below c.args.self.now (id_of c.args.d) c.in-Some.core.now core c.board-board.result.now c.board-board.ensures.board c.dispatchers.result c.dispatchers.ensures.dispatchers c.if-d-dispatchers.false in
    record { due = due_over c.args.self.now (id_of c.args.d) c.in-Some.core.now core c.board-board.result.now c.board-board.ensures.board there c.in-Some-due.e c.in-Some-due.ensures.due c.name.result _ (c.inlet.ensures.inlet ∙ ap Some c.in-Queue.is) c.in-Some-due.ensures.within }

pub returns-in-Queue : goal.returns-in-Queue
returns-in-Queue c =
    let core : slice_get c.args.self.now.cores c.args.d.core ≡ Some c.in-Some.core.now
    = seen c.args.self.now _ c.self.view_is (λ (x : TheWorld). x.cores) c.deref.result.now c.deref.ensures.value c.args.d.core c.in-Some.core.now
    c.in-Some.ensures.lookup.3.0 c.in-Some.ensures.lookup.1 in
    let there = dispatcher_below c.args.self.now (id_of c.args.d) c.in-Some.core.now core c.board-board.result.now c.board-board.ensures.board c.dispatchers.result c.dispatchers.ensures.dispatchers c.if-d-dispatchers.false in
    let has = holds_dispatcher c.args.self.now (id_of c.args.d) c.in-Some.core.now core c.board-board.result.now c.board-board.ensures.board c.dispatchers.result c.dispatchers.ensures.dispatchers c.if-d-dispatchers.false in
    record {
      turns = turn_done c.args.self.now (id_of c.args.d) c.in-Some.core.now core c.board-board.result.now c.board-board.ensures.board
          there c.in-Some-due.e c.in-Some-due.ensures.due c.name.result _ (c.inlet.ensures.inlet ∙ ap Some c.in-Queue.is)
          c.name.ensures.place has c.turn_over_queue.result (call_of c.turn_over_queue.new.handled) c.turn_over_queue.new.self c.turn_over_queue.ensures.turns;
      kept = c.turn_over_queue.ensures.kept;
      last = wants_to_handle c.args.self.now (id_of c.args.d) c.in-Some-due.e c.name.result _
          (is_due c.args.self.now (id_of c.args.d) c.in-Some.core.now core c.board-board.result.now c.board-board.ensures.board
          there c.in-Some-due.e c.in-Some-due.ensures.due c.name.result _ (c.inlet.ensures.inlet ∙ ap Some c.in-Queue.is) c.name.ensures.place)
          c.turn_over_queue.result c.turn_over_queue.ensures.wants;
    }

pub turn_over_side-requires : goal.turn_over_side-requires
turn_over_side-requires c =
    let core : slice_get c.args.self.now.cores c.args.d.core ≡ Some c.in-Some.core.now
    = seen c.args.self.now _ c.self.view_is (λ (x : TheWorld). x.cores) c.deref.result.now c.deref.ensures.value c.args.d.core c.in-Some.core.now
    c.in-Some.ensures.lookup.3.0 c.in-Some.ensures.lookup.1 in
    let there = dispatcher_below c.args.self.now (id_of c.args.d) c.in-Some.core.now core c.board-board.result.now c.board-board.ensures.board c.dispatchers.result c.dispatchers.ensures.dispatchers c.if-d-dispatchers.false in
    record { due = due_over c.args.self.now (id_of c.args.d) c.in-Some.core.now core c.board-board.result.now c.board-board.ensures.board there c.in-Some-due.e c.in-Some-due.ensures.due c.name.result _ (c.inlet.ensures.inlet ∙ ap Some c.in-Side.is) c.in-Some-due.ensures.within }

pub returns-in-Side : goal.returns-in-Side
returns-in-Side c =
    let core : slice_get c.args.self.now.cores c.args.d.core ≡ Some c.in-Some.core.now
    = seen c.args.self.now _ c.self.view_is (λ (x : TheWorld). x.cores) c.deref.result.now c.deref.ensures.value c.args.d.core c.in-Some.core.now
    c.in-Some.ensures.lookup.3.0 c.in-Some.ensures.lookup.1 in
    let there = dispatcher_below c.args.self.now (id_of c.args.d) c.in-Some.core.now core c.board-board.result.now c.board-board.ensures.board c.dispatchers.result c.dispatchers.ensures.dispatchers c.if-d-dispatchers.false in
    let has = holds_dispatcher c.args.self.now (id_of c.args.d) c.in-Some.core.now core c.board-board.result.now c.board-board.ensures.board c.dispatchers.result c.dispatchers.ensures.dispatchers c.if-d-dispatchers.false in
    record {
      turns = turn_done c.args.self.now (id_of c.args.d) c.in-Some.core.now core c.board-board.result.now c.board-board.ensures.board
          there c.in-Some-due.e c.in-Some-due.ensures.due c.name.result _ (c.inlet.ensures.inlet ∙ ap Some c.in-Side.is)
          c.name.ensures.place has c.turn_over_side.result (call_of c.turn_over_side.new.handled) c.turn_over_side.new.self c.turn_over_side.ensures.turns;
      kept = c.turn_over_side.ensures.kept;
      last = wants_to_handle c.args.self.now (id_of c.args.d) c.in-Some-due.e c.name.result _
          (is_due c.args.self.now (id_of c.args.d) c.in-Some.core.now core c.board-board.result.now c.board-board.ensures.board
          there c.in-Some-due.e c.in-Some-due.ensures.due c.name.result _ (c.inlet.ensures.inlet ∙ ap Some c.in-Side.is) c.name.ensures.place)
          c.turn_over_side.result c.turn_over_side.ensures.wants;
    }

pub turn_over_arrivals-requires : goal.turn_over_arrivals-requires
turn_over_arrivals-requires c =
    let core : slice_get c.args.self.now.cores c.args.d.core ≡ Some c.in-Some.core.now
    = seen c.args.self.now _ c.self.view_is (λ (x : TheWorld). x.cores) c.deref.result.now c.deref.ensures.value c.args.d.core c.in-Some.core.now
    c.in-Some.ensures.lookup.3.0 c.in-Some.ensures.lookup.1 in
    let there = dispatcher_below c.args.self.now (id_of c.args.d) c.in-Some.core.now core c.board-board.result.now c.board-board.ensures.board c.dispatchers.result c.dispatchers.ensures.dispatchers c.if-d-dispatchers.false in
    record { due = due_over c.args.self.now (id_of c.args.d) c.in-Some.core.now core c.board-board.result.now c.board-board.ensures.board there c.in-Some-due.e c.in-Some-due.ensures.due c.name.result _ (c.inlet.ensures.inlet ∙ ap Some c.in-Arrivals.is) c.in-Some-due.ensures.within }

pub returns-in-Arrivals : goal.returns-in-Arrivals
returns-in-Arrivals c =
    let core : slice_get c.args.self.now.cores c.args.d.core ≡ Some c.in-Some.core.now
    = seen c.args.self.now _ c.self.view_is (λ (x : TheWorld). x.cores) c.deref.result.now c.deref.ensures.value c.args.d.core c.in-Some.core.now
    c.in-Some.ensures.lookup.3.0 c.in-Some.ensures.lookup.1 in
    let there = dispatcher_below c.args.self.now (id_of c.args.d) c.in-Some.core.now core c.board-board.result.now c.board-board.ensures.board c.dispatchers.result c.dispatchers.ensures.dispatchers c.if-d-dispatchers.false in
    let has = holds_dispatcher c.args.self.now (id_of c.args.d) c.in-Some.core.now core c.board-board.result.now c.board-board.ensures.board c.dispatchers.result c.dispatchers.ensures.dispatchers c.if-d-dispatchers.false in
    record {
      turns = turn_done c.args.self.now (id_of c.args.d) c.in-Some.core.now core c.board-board.result.now c.board-board.ensures.board
          there c.in-Some-due.e c.in-Some-due.ensures.due c.name.result _ (c.inlet.ensures.inlet ∙ ap Some c.in-Arrivals.is)
          c.name.ensures.place has c.turn_over_arrivals.result (call_of c.turn_over_arrivals.new.handled) c.turn_over_arrivals.new.self c.turn_over_arrivals.ensures.turns;
      kept = c.turn_over_arrivals.ensures.kept;
      last = wants_to_handle c.args.self.now (id_of c.args.d) c.in-Some-due.e c.name.result _
          (is_due c.args.self.now (id_of c.args.d) c.in-Some.core.now core c.board-board.result.now c.board-board.ensures.board
          there c.in-Some-due.e c.in-Some-due.ensures.due c.name.result _ (c.inlet.ensures.inlet ∙ ap Some c.in-Arrivals.is) c.name.ensures.place)
          c.turn_over_arrivals.result c.turn_over_arrivals.ensures.wants;
    }
