use Rattle.std.proofs.Common.{◌≡◌, refl, sym, subst, inr, arith, length, List, slice_get, Some, None}
use Rattle.std.proofs.lemmas.Bool.{ltb-false}
use Rattle.fl_link.specs.Queue.{TheQueue}
use Rattle.fl_world_refines.specs.View.{TheWorld}
use Rattle.fl_world_events.proofs.Lifts.{stands}
use Rattle.fl_world.proofs.Lifts.{core_is_read, core_read, end_read, queue_previews}
use Rattle.fl_world.proofs.Seen.{unseen}
use Rattle.fl_world.proofs.world.World.show_over_queue.Goals as goal

pub returns-in-Some : goal.returns-in-Some
returns-in-Some c =
    let t = c.in-Some.queue.now in
    let lent : slice_get c.deref.result.now c.args.q ≡ Some t = stands c.deref.result.now c.args.q t t c.in-Some.ensures.lookup.3.0 c.in-Some.ensures.lookup.1 refl in
    let there : slice_get c.args.self.now.queues c.args.q ≡ Some t
    = subst (λ (x : TheWorld). slice_get x.queues c.args.q ≡ Some t) c.self.view_is (subst (λ (xs : List TheQueue). slice_get xs c.args.q ≡ Some t) c.deref.ensures.value lent) in
    record { shows = λ k is. queue_previews c.args.self.now c.args.place c.args.q t _ c.index.result.now k (core_is_read c.args.self.now _ c.self.view_is c.args.n c.args.place c.requires.end c.index.result.now c.index.ensures k is) there c.show_by_queue.ensures.shows }

pub index-requires : goal.index-requires
index-requires c = omega (arith, core_read c.args.self.now _ c.self.view_is c.args.n c.args.place c.requires.end, c.self.inside.cores.ok.0)

pub show_by_queue-requires : goal.show_by_queue-requires
show_by_queue-requires c = record {
  place = end_read c.args.self.now _ c.self.view_is c.args.n c.args.place c.requires.end c.index.result.now _
      c.index.ensures refl;
}

pub returns-in-None : goal.returns-in-None
returns-in-None c =
    let none : slice_get c.args.self.now.queues c.args.q ≡ None
    = unseen c.args.self.now _ c.self.view_is (λ (x : TheWorld). x.queues) c.deref.result.now c.deref.ensures.value c.args.q
    (ltb-false c.args.q (length c.deref.result.now) (sym c.in-None.ensures.lookup.0)) in
    record { shows = λ k is. inr (none, (refl, refl)) }
