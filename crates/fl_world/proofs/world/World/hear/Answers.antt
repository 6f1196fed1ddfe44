use Rattle.std.proofs.Common.{refl, ap, ◌∙◌, List, arith}
use Rattle.fl_compile.specs.declared.program.Program.{Program}
use Rattle.fl_world_refines.specs.Linking.{offers_in}
use Rattle.fl_world.proofs.Lifts.{link_read, ring_read, over_side, hears_in, few_kept}
use Rattle.fl_world.proofs.Kept.{link_side_read, front_read}
use Rattle.fl_world.proofs.Hearing.{would_say}
use Rattle.fl_world.proofs.world.World.hear.Goals as goal

pub returns : goal.returns
returns c =
    let lent = ap (λ (ps : List Program). record { names = c.self.inside.names; programs = ps }) c.as_slice.ensures.value ∙ ap offers_in c.self.view_is in
    let hears = hears_in c.args.at.side _ _ lent c.args.at.link c.args.frag.now c.hear_by_ring.result _ _ _ _ c.hear_by_ring.ensures.hears in
    record { hears = over_side c.args.self.now _ c.self.view_is c.args.n c.args.at.side _ c.ring_at.ensures.ring (link_read c.args.self.now _ c.self.view_is c.args.n _ c.requires.link) (ring_read c.args.self.now _ c.self.view_is c.args.at.side _ c.ring_at.ensures.ring c.requires.ring) _ _ c.index_mut.ensures.value refl _ _ c.index_mut-ring.ensures.value refl _ _ _ hears; last = would_say c.args.self.now _ c.self.view_is c.args.n (link_read c.args.self.now _ c.self.view_is c.args.n _ c.requires.link) _ _ c.index_mut.ensures.value refl _ lent c.args.at.link c.args.frag.now c.hear_by_ring.result c.hear_by_ring.ensures.last }

pub index_mut-ring-requires : goal.index_mut-ring-requires
index_mut-ring-requires c = omega (arith, ring_read c.args.self.now _ c.self.view_is c.args.at.side _ c.ring_at.ensures.ring c.requires.ring, c.self.inside.rings.ok.0)

pub index_mut-requires : goal.index_mut-requires
index_mut-requires c = omega (arith, link_read c.args.self.now _ c.self.view_is c.args.n _ c.requires.link, c.self.inside.cores.ok.0)

pub invariant_of-self : goal.invariant_of-self
invariant_of-self c = few_kept c.self.inside.cores.items c.args.n c.hear_by_ring.new.core c.self.invariant

pub hear_by_ring-requires-clause-link : goal.hear_by_ring-requires-clause-link
hear_by_ring-requires-clause-link c = link_side_read c.args.self.now _ c.self.view_is c.args.n c.args.at.link.0 c.requires.link c.index_mut.result.now c.index_mut.ensures.value

pub hear_by_ring-requires-clause-seen : goal.hear_by_ring-requires-clause-seen
hear_by_ring-requires-clause-seen c = front_read c.args.self.now _ c.self.view_is c.args.at.side _ c.ring_at.ensures.ring c.requires.ring c.args.frag.now c.requires.seen c.index_mut-ring.result.now c.index_mut-ring.ensures.value
