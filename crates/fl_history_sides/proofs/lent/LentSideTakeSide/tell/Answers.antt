use Rattle.fl_link.specs.Looks.{tells}
use Rattle.fl_ring.specs.SharedSides.{SharedTakes}
use Rattle.fl_history_sides.proofs.Calls.{shared_of, Does}
use Rattle.fl_history_sides.proofs.Puts.{tells_so}
use Rattle.fl_history_sides.proofs.OneLent.{mine, lent_so, done}
use Rattle.fl_history_sides.proofs.lent.LentSideTakeSide.tell.Goals as goal

-- what the call of the core did
did : (c : goal.After-self-1) → SharedTakes (shared_of c.self.inside.core c.index_mut.result.now) (tells c.tell.result) (shared_of c.tell.new.self c.tell.new.side)
    × Does c.self.inside.core c.index_mut.result.now (tells c.tell.result) c.tell.new.self c.tell.new.side
did c =
    let i = c.self.inside in
    let e = c.tell.ensures in
    tells_so i.core c.index_mut.result.now (mine i.core i.sides.items i.at c.index_mut.result.now c.index_mut.ensures.value c.self.invariant) c.tell.new.self c.tell.new.side c.tell.result e.mine e.nothing e.written e.full e.some e.spent e.never_spent

pub invariant_of-self : goal.invariant_of-self
invariant_of-self c =
    let i = c.self.inside in
    lent_so i.core i.sides.items i.at c.index_mut.result.now c.index_mut.ensures.value c.self.invariant (tells c.tell.result) c.tell.new.self c.tell.new.side (did c).1 c.tell.ensures.mine c.tell.ensures.beside

pub returns-clause-tell : goal.returns-clause-tell
returns-clause-tell c =
    let i = c.self.inside in
    done i.core i.sides.items i.at c.index_mut.result.now c.index_mut.ensures.value c.self.invariant SharedTakes (tells c.tell.result) c.tell.new.self c.tell.new.side (did c) c.args.self.now c.self.view_is
