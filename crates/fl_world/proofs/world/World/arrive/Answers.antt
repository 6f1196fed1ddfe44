use Rattle.std.proofs.Common.{refl, arith}
use Rattle.fl_world.proofs.Lifts.{link_read, ring_read, over_side, few_kept}
use Rattle.fl_world.proofs.Kept.{link_side_read, front_read}
use Rattle.fl_world.proofs.world.World.arrive.Goals as goal

pub returns : goal.returns
returns c = record { arrives = over_side c.args.self.now _ c.self.view_is c.args.n c.args.at.side _ c.ring_at.ensures.ring (link_read c.args.self.now _ c.self.view_is c.args.n _ c.requires.link) (ring_read c.args.self.now _ c.self.view_is c.args.at.side _ c.ring_at.ensures.ring c.requires.ring) _ _ c.index_mut.ensures.value refl _ _ c.index_mut-ring.ensures.value refl _ _ _ c.arrive_by_ring.ensures.arrives }

pub index_mut-ring-requires : goal.index_mut-ring-requires
index_mut-ring-requires c = omega (arith, ring_read c.args.self.now _ c.self.view_is c.args.at.side _ c.ring_at.ensures.ring c.requires.ring, c.self.inside.rings.ok.0)

pub index_mut-requires : goal.index_mut-requires
index_mut-requires c = omega (arith, link_read c.args.self.now _ c.self.view_is c.args.n _ c.requires.link, c.self.inside.cores.ok.0)

pub invariant_of-self : goal.invariant_of-self
invariant_of-self c = few_kept c.self.inside.cores.items c.args.n c.arrive_by_ring.new.core c.self.invariant

pub arrive_by_ring-requires-clause-link : goal.arrive_by_ring-requires-clause-link
arrive_by_ring-requires-clause-link c = link_side_read c.args.self.now _ c.self.view_is c.args.n c.args.at.link.0 c.requires.link c.index_mut.result.now c.index_mut.ensures.value

pub arrive_by_ring-requires-clause-seen : goal.arrive_by_ring-requires-clause-seen
arrive_by_ring-requires-clause-seen c = front_read c.args.self.now _ c.self.view_is c.args.at.side _ c.ring_at.ensures.ring c.requires.ring c.args.frag.now c.requires.seen c.index_mut-ring.result.now c.index_mut-ring.ensures.value

pub arrive_by_ring-requires-clause-call : goal.arrive_by_ring-requires-clause-call
arrive_by_ring-requires-clause-call c = c.requires.call
