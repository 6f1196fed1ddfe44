use Rattle.std.proofs.Common.{◌≡◌, arith}
use Rattle.std.proofs.lemmas.List.{with_items_is}
use Rattle.std.specs.Vec.{with_items}
use Rattle.fl_world.proofs.Following.{as_many, goes_on}
use Rattle.fl_world.proofs.Lent.{no_way_one, no_way_from, no_way_onto, lent_stands}
use Rattle.fl_world.proofs.world.World.move_on.Goals as goal

pub returns : goal.returns
returns c =
    let many = as_many _ _ _ _ c.move_among.ensures.passes in
    let left : (with_items c.self.inside.rings c.move_among.new.rings).items ≡ c.move_among.new.rings =
    with_items_is c.self.inside.rings c.move_among.new.rings (omega (arith, many, c.deref_mut.ensures.len)) in
    record { goes = goes_on c.args.self.now _ c.self.view_is c.args.passing.now _ _ _ _ c.deref_mut.ensures.value left c.move_among.ensures.apart c.move_among.ensures.passes }

pub invariant_of-self : goal.invariant_of-self
invariant_of-self c = c.self.invariant

pub returns-then-from-onto : goal.returns-then-from-onto
returns-then-from-onto c = record { goes = no_way_one c.args.passing.now c.args.self.now _ _ c.ring_at-from.ensures.ring c.ring_at-onto.ensures.ring c.if-from-onto.true }

pub returns-then-from-len : goal.returns-then-from-len
returns-then-from-len c = record { goes = no_way_from c.args.passing.now c.args.self.now _ c.self.view_is _ c.ring_at-from.ensures.ring (omega (arith, c.if-from-len.true, c.len.ensures, c.self.inside.rings.ok.0)) }

pub returns-then-onto-len : goal.returns-then-onto-len
returns-then-onto-len c = record { goes = no_way_onto c.args.passing.now c.args.self.now _ c.self.view_is _ c.ring_at-onto.ensures.ring (omega (arith, c.if-onto-len.true, c.len-2.ensures, c.self.inside.rings.ok.0)) }

pub move_among-requires-clause-apart : goal.move_among-requires-clause-apart
move_among-requires-clause-apart c = λ one. omega (arith, c.if-from-onto.false, c.ring_at-from.ensures.ring, c.ring_at-onto.ensures.ring, one)

pub move_among-requires-clause-from : goal.move_among-requires-clause-from
move_among-requires-clause-from c = omega (arith, c.ring_at-from.ensures.ring, c.if-from-len.false, c.len.ensures, c.deref_mut.ensures.len)

pub move_among-requires-clause-onto : goal.move_among-requires-clause-onto
move_among-requires-clause-onto c = omega (arith, c.ring_at-onto.ensures.ring, c.if-onto-len.false, c.len-2.ensures, c.deref_mut.ensures.len)

pub move_among-requires-clause-seen : goal.move_among-requires-clause-seen
move_among-requires-clause-seen c = lent_stands c.args.self.now _ c.self.view_is c.args.passing.now.from c.args.passing.now.frag c.deref_mut.result.now c.deref_mut.ensures.value c.requires.seen

pub move_among-requires-clause-call : goal.move_among-requires-clause-call
move_among-requires-clause-call c = c.requires.call
