use Rattle.std.proofs.Common.{Result, slice_set, subst}
use Rattle.fl_link.specs.declared.fault.PutFault.{PutFault}
use Rattle.fl_link.specs.Looks.{Look}
use Rattle.fl_ring.specs.SharedSides.{SharedPuts}
use Rattle.fl_history_sides.specs.Lent.{LentPuts}
use Rattle.fl_history_sides.proofs.Calls.{shared_of, Does}
use Rattle.fl_history_sides.proofs.Puts.{puts_so, put_label, on_placed}
use Rattle.fl_history_sides.proofs.OneLent.{mine, lent_so, lent_as, done}
use Rattle.fl_history_sides.proofs.lent.LentSidePutSide.put.Goals as goal

-- what the call of the core did
did : (c : goal.After-self-1) → SharedPuts (shared_of c.self.inside.core c.index_mut.result.now) (put_label c.args.frag.now c.put.result) (shared_of c.put.new.self c.put.new.side)
    × Does c.self.inside.core c.index_mut.result.now (put_label c.args.frag.now c.put.result) c.put.new.self c.put.new.side
did c =
    let i = c.self.inside in
    let e = c.put.ensures in
    puts_so i.core c.index_mut.result.now (mine i.core i.sides.items i.at c.index_mut.result.now c.index_mut.ensures.value c.self.invariant) c.put.new.self c.put.new.side c.put.result c.args.frag.now c.requires.data e.mine e.placed e.full e.spent e.spent_first

pub invariant_of-self : goal.invariant_of-self
invariant_of-self c =
    let i = c.self.inside in
    lent_so i.core i.sides.items i.at c.index_mut.result.now c.index_mut.ensures.value c.self.invariant (put_label c.args.frag.now c.put.result) c.put.new.self c.put.new.side (did c).1 c.put.ensures.mine c.put.ensures.beside

lent_did : (c : goal.After-self-1) → LentPuts c.args.self.now (put_label c.args.frag.now c.put.result) (lent_as c.put.new.self (slice_set c.self.inside.sides.items c.self.inside.at c.put.new.side) c.self.inside.at)
lent_did c =
    let i = c.self.inside in
    done i.core i.sides.items i.at c.index_mut.result.now c.index_mut.ensures.value c.self.invariant SharedPuts (put_label c.args.frag.now c.put.result) c.put.new.self c.put.new.side (did c) c.args.self.now c.self.view_is

pub returns-clause-placed : goal.returns-clause-placed
returns-clause-placed c =
    on_placed (λ (look : Look). LentPuts c.args.self.now look (lent_as c.put.new.self (slice_set c.self.inside.sides.items c.self.inside.at c.put.new.side) c.self.inside.at)) c.args.frag.now c.put.result (lent_did c)

pub returns-clause-full : goal.returns-clause-full
returns-clause-full c = λ e.
    subst (λ (r : Result (Unit {0}) PutFault). LentPuts c.args.self.now (put_label c.args.frag.now r) (lent_as c.put.new.self (slice_set c.self.inside.sides.items c.self.inside.at c.put.new.side) c.self.inside.at)) e (lent_did c)

pub returns-clause-spent : goal.returns-clause-spent
returns-clause-spent c = λ e.
    subst (λ (r : Result (Unit {0}) PutFault). LentPuts c.args.self.now (put_label c.args.frag.now r) (lent_as c.put.new.self (slice_set c.self.inside.sides.items c.self.inside.at c.put.new.side) c.self.inside.at)) e (lent_did c)
