use Rattle.std.proofs.Common.{slice_set, subst, sym, ap, ◌∙◌}
use Rattle.fl_link.specs.declared.sides.Sight.{Sight}
use Rattle.fl_link.specs.Looks.{saw, saw_ack, taken}
use Rattle.fl_ring.specs.SharedSeats.{front_seen}
use Rattle.fl_ring.specs.SharedSides.{SharedTakes}
use Rattle.fl_ring.proofs.Sighted.{saw_some, ack_some}
use Rattle.fl_history_rings.specs.Rule.{seen_at}
use Rattle.fl_history_sides.specs.States.{TheHistorySide}
use Rattle.fl_history_sides.specs.Lent.{LentTakes, sight_in}
use Rattle.fl_history_sides.proofs.Takes.{takes_so, again_taken}
use Rattle.fl_history_sides.proofs.OneLent.{mine, lent_so, lent_as, old_shown, done}
use Rattle.fl_history_sides.proofs.lent.LentSideTakeSide.take.Goals as goal

pub invariant_of-self : goal.invariant_of-self
invariant_of-self c =
    let i = c.self.inside in
    lent_so i.core i.sides.items i.at c.index_mut.result.now c.index_mut.ensures.value c.self.invariant (taken (sight_in c.take.result)) c.take.new.self c.take.new.side (takes_so i.core c.index_mut.result.now (mine i.core i.sides.items i.at c.index_mut.result.now c.index_mut.ensures.value c.self.invariant) c.take.new.self c.take.new.side c.take.ensures.mine c.take.result c.take.ensures.again c.take.ensures.noted).1 c.take.ensures.mine c.take.ensures.beside

pub returns-clause-look : goal.returns-clause-look
returns-clause-look c =
    let i = c.self.inside in
    subst (λ (r : Sight). LentTakes c.args.self.now (taken r) (lent_as c.take.new.self (slice_set i.sides.items i.at c.take.new.side) i.at)) (sym c.sight.ensures)
    (done i.core i.sides.items i.at c.index_mut.result.now c.index_mut.ensures.value c.self.invariant SharedTakes (taken (sight_in c.take.result)) c.take.new.self c.take.new.side (takes_so i.core c.index_mut.result.now (mine i.core i.sides.items i.at c.index_mut.result.now c.index_mut.ensures.value c.self.invariant) c.take.new.self c.take.new.side c.take.ensures.mine c.take.result c.take.ensures.again c.take.ensures.noted) c.args.self.now c.self.view_is)

pub returns-clause-data : goal.returns-clause-data
returns-clause-data c = λ frag was.
    let i = c.self.inside in
    let a = c.index_mut.result.now in
    ap taken c.sight.ensures ∙ again_taken c.take.result (seen_at a.put.side i.core.steps) c.take.ensures.again (saw frag) (saw_some frag)
    (ap (λ (p : TheHistorySide). front_seen p.side.peeked) (sym (old_shown i.core i.sides.items i.at a c.index_mut.ensures.value c.self.invariant c.args.self.now c.self.view_is)) ∙ was)

pub returns-clause-acknowledgement : goal.returns-clause-acknowledgement
returns-clause-acknowledgement c = λ was.
    let i = c.self.inside in
    let a = c.index_mut.result.now in
    ap taken c.sight.ensures ∙ again_taken c.take.result (seen_at a.put.side i.core.steps) c.take.ensures.again saw_ack ack_some
    (ap (λ (p : TheHistorySide). front_seen p.side.peeked) (sym (old_shown i.core i.sides.items i.at a c.index_mut.ensures.value c.self.invariant c.args.self.now c.self.view_is)) ∙ was)
