use Rattle.std.proofs.Common.{refl, subst, arith, inl, inr}
use Rattle.fl_model.specs.Events.{refused}
use Rattle.fl_world_refines.specs.View.{TheWorld, WhereEnd}
use Rattle.fl_world_refines.specs.Sending.{WritesBy}
use Rattle.fl_world.proofs.Lifts.{at_location, core_read, over_queue, over_side}
use Rattle.fl_world.proofs.Lent.{past_end, stray, stray_ring}
use Rattle.fl_world.proofs.world.World.write.Goals as goal

pub returns-in-Nowhere : goal.returns-in-Nowhere
returns-in-Nowhere c = record { writes = subst (λ (s : WhereEnd). WritesBy s c.args.self.now (refused 92) c.args.self.now) c.in-Nowhere.ensures.location (refl, refl) }

pub returns-in-Unmade : goal.returns-in-Unmade
returns-in-Unmade c = record { writes = subst (λ (s : WhereEnd). WritesBy s c.args.self.now (refused 43) c.args.self.now) c.in-Unmade.ensures.location (refl, refl) }

pub outlet-requires : goal.outlet-requires
outlet-requires c = record { end = c.in-Made.ensures.there }

pub returns-in-None : goal.returns-in-None
returns-in-None c = record {
  writes = at_location WritesBy c.args.self.now c.args.e _ c.in-Made.ensures.location _ _ (
    _,
    c.in-Queue.ensures.outlet,
    inr (stray c.args.self.now _ c.self.view_is (λ (x : TheWorld). x.queues) c.in-Queue.q (omega (arith, past_end _ _ c.in-None.ensures.variant.1, c.self.inside.queues.ok.0))),
  );
}

pub returns-in-Some : goal.returns-in-Some
returns-in-Some c = record {
  writes = at_location WritesBy c.args.self.now c.args.e _ c.in-Made.ensures.location _ _ (
    _,
    c.in-Queue.ensures.outlet,
    inl (over_queue c.args.self.now _ c.self.view_is c.in-Made.n c.in-Queue.q (core_read c.args.self.now _ c.self.view_is c.in-Made.n c.in-Made.place c.in-Made.ensures.there)
        (omega (arith, c.in-Some.ensures.variant.0 refl, c.self.inside.queues.ok.0)) _ _ c.index_mut.ensures.value refl _ _ c.in-Some.ensures.value refl _ _ _
        c.write_by_queue.ensures.writes),
  );
}

pub returns-in-None-get_mut : goal.returns-in-None-get_mut
returns-in-None-get_mut c = record {
  writes = at_location WritesBy c.args.self.now c.args.e _ c.in-Made.ensures.location _ _ (
    _,
    c.in-Side.ensures.outlet,
    inr (stray_ring c.args.self.now _ c.self.view_is c.in-Side.m _ c.ring_at.ensures.ring (omega (arith, past_end _ _ c.in-None-get_mut.ensures.variant.1, c.self.inside.rings.ok.0))),
  );
}

pub returns-in-Some-get_mut : goal.returns-in-Some-get_mut
returns-in-Some-get_mut c = record {
  writes = at_location WritesBy c.args.self.now c.args.e _ c.in-Made.ensures.location _ _ (
    _,
    c.in-Side.ensures.outlet,
    inl (over_side c.args.self.now _ c.self.view_is c.in-Made.n c.in-Side.m _ c.ring_at.ensures.ring (core_read c.args.self.now _ c.self.view_is c.in-Made.n c.in-Made.place c.in-Made.ensures.there)
        (omega (arith, c.in-Some-get_mut.ensures.variant.0 refl, c.self.inside.rings.ok.0)) _ _ c.index_mut-in-Some-get_mut.ensures.value refl _ _ c.in-Some-get_mut.ensures.value refl _ _ _
        c.write_by_ring.ensures.writes),
  );
}
