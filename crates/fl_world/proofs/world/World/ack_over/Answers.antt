use Rattle.std.proofs.Common.{refl, arith, inl, inr}
use Rattle.fl_world.proofs.Lifts.{link_read, over_side_alone}
use Rattle.fl_world.proofs.Lent.{past_end, stray_ring}
use Rattle.fl_world.proofs.world.World.ack_over.Goals as goal

pub returns : goal.returns
returns c = record { acks = inl (over_side_alone c.args.self.now _ c.self.view_is c.args.n c.args.at.side _ c.ring_at.ensures.ring (link_read c.args.self.now _ c.self.view_is c.args.n _ c.requires.link) (omega (arith, c.in-Some.ensures.variant.0 refl, c.self.inside.rings.ok.0)) _ _ c.index.ensures refl _ _ c.in-Some.ensures.value refl _ _ c.monitor_ack_by_ring.ensures.acks) }

pub invariant_of-self : goal.invariant_of-self
invariant_of-self c = c.self.invariant

pub invariant_of-self-2 : goal.invariant_of-self-2
invariant_of-self-2 c = c.self.invariant

pub index-requires : goal.index-requires
index-requires c = omega (arith, link_read c.args.self.now _ c.self.view_is c.args.n _ c.requires.link, c.self.inside.cores.ok.0)

pub returns-in_default : goal.returns-in_default
returns-in_default c = record { acks = inr (stray_ring c.args.self.now _ c.self.view_is c.args.at.side _ c.ring_at.ensures.ring (omega (arith, past_end _ _ c.in_default.ensures.variant.1, c.self.inside.rings.ok.0))) }
