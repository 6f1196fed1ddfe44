use Rattle.std.proofs.Common.{List, subst}
use Rattle.fl_machine.specs.Places.{reassemblies}
use Rattle.fl_machine.specs.Reassembling.{TheReassembly, ChangesPlace, Takes}
use Rattle.fl_machine.proofs.Joined.{kept}
use Rattle.fl_machine.proofs.reassemblies.Reassemblies.take.Goals as goal

pub returns-clause-takes : goal.returns-clause-takes
returns-clause-takes c =
    subst (λ (xs : List TheReassembly). ChangesPlace xs c.args.place (λ s t. Takes s c.args.frag.now c.take.result t) (reassemblies c.take.new.self)) c.self.view_is c.take.ensures.takes

pub returns-clause-kept : goal.returns-clause-kept
returns-clause-kept c =
    let takes = subst (λ (xs : List TheReassembly). ChangesPlace xs c.args.place (λ s t. Takes s c.args.frag.now c.take.result t) (reassemblies c.take.new.self)) c.self.view_is c.take.ensures.takes in
    kept c.args.self.now (reassemblies c.take.new.self) c.args.place c.args.frag.now c.take.result takes
