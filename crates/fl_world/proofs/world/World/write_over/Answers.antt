use Rattle.std.proofs.Common.{refl, arith, inl, inr}
use Rattle.fl_world.proofs.Lifts.{link_read, over_side, few_kept}
use Rattle.fl_world.proofs.Lent.{past_end, stray_ring}
use Rattle.fl_world.proofs.world.World.write_over.Goals as goal

pub returns : goal.returns
returns c = record { writes = inl (over_side c.args.self.now _ c.self.view_is c.args.n c.args.at.side _ c.ring_at.ensures.ring (link_read c.args.self.now _ c.self.view_is c.args.n _ c.requires.link) (omega (arith, c.in-Some.ensures.variant.0 refl, c.self.inside.rings.ok.0)) _ _ c.index_mut.ensures.value refl _ _ c.in-Some.ensures.value refl _ _ _ c.monitor_write_by_ring.ensures.writes) }

pub invariant_of-self : goal.invariant_of-self
invariant_of-self c = c.self.invariant

pub invariant_of-self-2 : goal.invariant_of-self-2
invariant_of-self-2 c = few_kept c.self.inside.cores.items c.args.n c.monitor_write_by_ring.new.core c.self.invariant

pub index_mut-requires : goal.index_mut-requires
index_mut-requires c = omega (arith, link_read c.args.self.now _ c.self.view_is c.args.n _ c.requires.link, c.self.inside.cores.ok.0)

pub returns-in_default : goal.returns-in_default
returns-in_default c = record { writes = inr (stray_ring c.args.self.now _ c.self.view_is c.args.at.side _ c.ring_at.ensures.ring (omega (arith, past_end _ _ c.in_default.ensures.variant.1, c.self.inside.rings.ok.0))) }
