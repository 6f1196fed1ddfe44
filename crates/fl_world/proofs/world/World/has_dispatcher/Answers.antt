use Rattle.std.proofs.Common.{◌≡◌, sym, ap, ◌∙◌, length, slice_get, Some, None}
use Rattle.std.proofs.lemmas.Bool.{ltb-false}
use Rattle.fl_core.specs.BoardView.{TheBoard}
use Rattle.fl_model.specs.Views.{id_of}
use Rattle.fl_world_refines.specs.View.{TheWorld}
use Rattle.fl_world.proofs.Seen.{seen, unseen, no_dispatcher_at, dispatcher_at}
use Rattle.fl_world.proofs.world.World.has_dispatcher.Goals as goal

pub returns-in-None : goal.returns-in-None
returns-in-None c =
    let none : slice_get c.args.self.now.cores c.args.d.core ≡ None
    = unseen c.args.self.now _ c.self.view_is (λ (x : TheWorld). x.cores) c.deref.result.now c.deref.ensures.value c.args.d.core
    (ltb-false c.args.d.core (length c.deref.result.now) (sym c.in-None.ensures.lookup.0)) in
    record { has = no_dispatcher_at c.args.self.now (id_of c.args.d) none }

pub returns-in-Some : goal.returns-in-Some
returns-in-Some c =
    let core : slice_get c.args.self.now.cores c.args.d.core ≡ Some c.in-Some.core.now
    = seen c.args.self.now _ c.self.view_is (λ (x : TheWorld). x.cores) c.deref.result.now c.deref.ensures.value c.args.d.core c.in-Some.core.now
    c.in-Some.ensures.lookup.3.0 c.in-Some.ensures.lookup.1 in
    record {
      has = dispatcher_at c.args.self.now (id_of c.args.d) c.in-Some.core.now core c.dispatchers.result
          (c.dispatchers.ensures.dispatchers ∙ ap (λ (b : TheBoard). length b.dispatchers) c.board.ensures.board);
    }
