use Rattle.std.proofs.Common.{slice_set, subst, sym, ap, ◌∙◌}
use Rattle.fl_link.specs.declared.sides.Sight.{Sight}
use Rattle.fl_link.specs.Looks.{saw, saw_ack, peeked}
use Rattle.fl_ring.specs.SharedSeats.{front_seen}
use Rattle.fl_ring.specs.SharedSides.{SharedTakes}
use Rattle.fl_ring.proofs.Sighted.{saw_some, ack_some}
use Rattle.fl_history_rings.specs.Rule.{seen_at}
use Rattle.fl_history_sides.specs.States.{TheHistorySide}
use Rattle.fl_history_sides.specs.Lent.{LentTakes, sight_in}
use Rattle.fl_history_sides.proofs.Takes.{looks_so, front_so, again_front, is_call}
use Rattle.fl_history_sides.proofs.OneLent.{mine, lent_so, lent_as, old_shown, new_shown, done}
use Rattle.fl_history_sides.proofs.lent.LentSideTakeSide.peek.Goals as goal

pub invariant_of-self : goal.invariant_of-self
invariant_of-self c =
    let i = c.self.inside in
    lent_so i.core i.sides.items i.at c.index_mut.result.now c.index_mut.ensures.value c.self.invariant (peeked (sight_in c.look.result)) c.look.new.self c.look.new.side (looks_so i.core c.index_mut.result.now (mine i.core i.sides.items i.at c.index_mut.result.now c.index_mut.ensures.value c.self.invariant) c.look.new.self c.look.new.side c.look.ensures.mine c.look.result c.look.ensures.again c.look.ensures.noted).1 c.look.ensures.mine c.look.ensures.beside

pub returns-clause-look : goal.returns-clause-look
returns-clause-look c =
    let i = c.self.inside in
    subst (λ (r : Sight). LentTakes c.args.self.now (peeked r) (lent_as c.look.new.self (slice_set i.sides.items i.at c.look.new.side) i.at)) (sym c.sight.ensures)
    (done i.core i.sides.items i.at c.index_mut.result.now c.index_mut.ensures.value c.self.invariant SharedTakes (peeked (sight_in c.look.result)) c.look.new.self c.look.new.side (looks_so i.core c.index_mut.result.now (mine i.core i.sides.items i.at c.index_mut.result.now c.index_mut.ensures.value c.self.invariant) c.look.new.self c.look.new.side c.look.ensures.mine c.look.result c.look.ensures.again c.look.ensures.noted) c.args.self.now c.self.view_is)

pub returns-clause-front : goal.returns-clause-front
returns-clause-front c =
    let i = c.self.inside in
    let e = c.look.ensures in
    let a = c.index_mut.result.now in
    ap peeked c.sight.ensures
    ∙ (front_so i.core a (mine i.core i.sides.items i.at a c.index_mut.ensures.value c.self.invariant) c.look.new.self c.look.new.side e.mine c.look.result e.again e.noted
    ∙ ap (λ (p : TheHistorySide). front_seen p.side.peeked) (sym (new_shown i.core i.sides.items i.at a c.index_mut.ensures.value c.self.invariant c.look.new.self c.look.new.side)))

pub returns-clause-again : goal.returns-clause-again
returns-clause-again c = λ frag was.
    let i = c.self.inside in
    let a = c.index_mut.result.now in
    ap peeked c.sight.ensures ∙ again_front c.look.result (seen_at a.put.side i.core.steps) c.look.ensures.again (saw frag) (saw_some frag)
    (ap (λ (p : TheHistorySide). front_seen p.side.peeked) (sym (old_shown i.core i.sides.items i.at a c.index_mut.ensures.value c.self.invariant c.args.self.now c.self.view_is)) ∙ was)

pub returns-clause-again_acknowledged : goal.returns-clause-again_acknowledged
returns-clause-again_acknowledged c = λ was.
    let i = c.self.inside in
    let a = c.index_mut.result.now in
    ap peeked c.sight.ensures ∙ again_front c.look.result (seen_at a.put.side i.core.steps) c.look.ensures.again saw_ack ack_some
    (ap (λ (p : TheHistorySide). front_seen p.side.peeked) (sym (old_shown i.core i.sides.items i.at a c.index_mut.ensures.value c.self.invariant c.args.self.now c.self.view_is)) ∙ was)

pub returns-clause-of_call : goal.returns-clause-of_call
returns-clause-of_call c = λ frag e. is_call c.look.result frag (sym c.sight.ensures ∙ e)
