use Rattle.std.proofs.Common.{◌≡◌, Some, sym, subst, rules}
use Rattle.std.specs.Prelude.{Option}
use Rattle.fl_compile.specs.Programs.{program_of}
use Rattle.fl_machine.specs.declared.recv.PartialCall.{PartialCall}
use Rattle.fl_machine.specs.Reassembling.{Takes, IsUnderWay, reassembly_on}
use Rattle.fl_machine.proofs.reassembly.take_next.Goals as goal

pub take_under-requires-clause-under_way : goal.take_under-requires-clause-under_way
take_under-requires-clause-under_way c =
    let lent : c.args.under.now ≡ Some c.in-Some.begun = search rules in
    subst (λ (o : Option PartialCall). IsUnderWay (program_of c.args.program.now) c.args.room.now o) lent c.requires.under_way

pub returns-clause-takes : goal.returns-clause-takes
returns-clause-takes c =
    let lent : c.args.under.now ≡ Some c.in-Some.begun = search rules in
    subst (λ (o : Option PartialCall). Takes (reassembly_on c.args.program.now c.args.room.now o) c.args.frag.now c.take_under.result
    (reassembly_on c.args.program.now c.take_under.new.room (Some c.take_under.new.begun))) (sym lent) c.take_under.ensures.takes
