use Rattle.std.proofs.Common.{Some, sym, subst}
use Rattle.fl_compile.specs.Programs.{program_of}
use Rattle.fl_machine.specs.declared.recv.PartialCall.{PartialCall}
use Rattle.fl_machine.specs.Reassembling.{parts_under, IsUnderWay, Takes, reassembly_on}
use Rattle.fl_machine.proofs.Parts.{part_fits}
use Rattle.fl_machine.proofs.reassembly.take_under.Goals as goal

pub pass_text-requires : goal.pass_text-requires
pass_text-requires c = record { kept = (parts_under c.args.room.now (Some c.args.begun.now), c.requires.under_way.1) }

pub keep-requires-clause-goes_on : goal.keep-requires-clause-goes_on
keep-requires-clause-goes_on c =
    let on = c.pass_text.ensures.passes c.if-pass_text.true (parts_under c.args.room.now (Some c.args.begun.now)) c.requires.under_way.1 in
    (Some c.args.begun.now, record { under_way = c.requires.under_way; part = on.0; kept = on.1 })

pub keep-requires-clause-some : goal.keep-requires-clause-some
keep-requires-clause-some c =
    (c.pass_text.ensures.passes c.if-pass_text.true (parts_under c.args.room.now (Some c.args.begun.now)) c.requires.under_way.1).1.some

pub keep-requires-clause-inside : goal.keep-requires-clause-inside
keep-requires-clause-inside c =
    let on = c.pass_text.ensures.passes c.if-pass_text.true (parts_under c.args.room.now (Some c.args.begun.now)) c.requires.under_way.1 in
    part_fits (program_of c.args.program.now) _ c.args.frag.now _ _ c.requires.holds on.0 on.1

pub returns-then-pass_text-clause-takes : goal.returns-then-pass_text-clause-takes
returns-then-pass_text-clause-takes c =
    let on = c.pass_text.ensures.passes c.if-pass_text.true (parts_under c.args.room.now (Some c.args.begun.now)) c.requires.under_way.1 in
    c.keep.ensures.takes (Some c.args.begun.now) (record { under_way = c.requires.under_way; part = on.0; kept = on.1 })

pub take_slowly-requires-clause-under_way : goal.take_slowly-requires-clause-under_way
take_slowly-requires-clause-under_way c =
    subst (λ (b : PartialCall). IsUnderWay (program_of c.args.program.now) c.args.room.now (Some b)) (sym (c.pass_text.ensures.stays c.if-pass_text.false)) c.requires.under_way

pub returns-clause-takes : goal.returns-clause-takes
returns-clause-takes c =
    subst (λ (b : PartialCall). Takes (reassembly_on c.args.program.now c.args.room.now (Some b)) c.args.frag.now c.take_slowly.result
    (reassembly_on c.args.program.now c.take_slowly.new.room (Some c.take_slowly.new.begun))) (c.pass_text.ensures.stays c.if-pass_text.false) c.take_slowly.ensures.takes
