use Rattle.std.proofs.Common.{refl, arith, inr}
use Rattle.fl_world.proofs.Lifts.{core_is_read, ring_previews, core_read, end_read}
use Rattle.fl_world.proofs.Lent.{past_end, stray_ring}
use Rattle.fl_world.proofs.world.World.show_over_side.Goals as goal

pub returns : goal.returns
returns c = record { shows = λ k is. ring_previews c.args.self.now _ c.self.view_is c.args.place c.args.m _ c.ring_at.ensures.ring (omega (arith, c.in-Some.ensures.variant.0 refl, c.self.inside.rings.ok.0)) c.index.result.now k (core_is_read c.args.self.now _ c.self.view_is c.args.n c.args.place c.requires.end c.index.result.now c.index.ensures k is) _ _ c.in-Some.ensures.value refl _ c.show_by_ring.ensures.kept _ c.show_by_ring.ensures.shows }

pub invariant_of-self : goal.invariant_of-self
invariant_of-self c = c.self.invariant

pub invariant_of-self-2 : goal.invariant_of-self-2
invariant_of-self-2 c = c.self.invariant

pub index-requires : goal.index-requires
index-requires c = omega (arith, core_read c.args.self.now _ c.self.view_is c.args.n c.args.place c.requires.end, c.self.inside.cores.ok.0)

pub show_by_ring-requires : goal.show_by_ring-requires
show_by_ring-requires c = record { place = end_read c.args.self.now _ c.self.view_is c.args.n c.args.place c.requires.end c.index.result.now _ c.index.ensures refl }

pub returns-in_default : goal.returns-in_default
returns-in_default c = record { shows = λ k is. inr (stray_ring c.args.self.now _ c.self.view_is c.args.m _ c.ring_at.ensures.ring (omega (arith, past_end _ _ c.in_default.ensures.variant.1, c.self.inside.rings.ok.0))) }
