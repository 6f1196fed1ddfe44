use Rattle.std.proofs.Common.{Some, refl, arith}
use Rattle.std.proofs.lemmas.List.{length-take-le}
use Rattle.fl_compile.specs.Programs.{program_of}
use Rattle.fl_machine.specs.Reassembling.{parts_under}
use Rattle.fl_machine.proofs.Parts.{part_fits, last_fits}
use Rattle.fl_machine.proofs.reassembly.take_slowly.Goals as goal

pub look_on-requires : goal.look_on-requires
look_on-requires c = record { kept = (parts_under c.args.room.now (Some c.args.begun.now), c.requires.under_way.1) }

pub keep-requires-clause-goes_on : goal.keep-requires-clause-goes_on
keep-requires-clause-goes_on c =
    let on = c.in-Ok-Part.ensures.part c.in-Ok-Part.field-0-is (parts_under c.args.room.now (Some c.args.begun.now)) c.requires.under_way.1 in
    (Some c.args.begun.now, record { under_way = c.requires.under_way; part = on.0; kept = on.1 })

pub keep-requires-clause-some : goal.keep-requires-clause-some
keep-requires-clause-some c =
    (c.in-Ok-Part.ensures.part c.in-Ok-Part.field-0-is (parts_under c.args.room.now (Some c.args.begun.now)) c.requires.under_way.1).1.some

pub keep-requires-clause-inside : goal.keep-requires-clause-inside
keep-requires-clause-inside c =
    let on = c.in-Ok-Part.ensures.part c.in-Ok-Part.field-0-is (parts_under c.args.room.now (Some c.args.begun.now)) c.requires.under_way.1 in
    part_fits (program_of c.args.program.now) _ c.args.frag.now _ _ c.requires.holds on.0 on.1

pub returns-in-Ok-Part-clause-takes : goal.returns-in-Ok-Part-clause-takes
returns-in-Ok-Part-clause-takes c =
    let on = c.in-Ok-Part.ensures.part c.in-Ok-Part.field-0-is (parts_under c.args.room.now (Some c.args.begun.now)) c.requires.under_way.1 in
    c.keep.ensures.takes (Some c.args.begun.now) (record { under_way = c.requires.under_way; part = on.0; kept = on.1 })

pub take_last-requires-clause-ends : goal.take_last-requires-clause-ends
take_last-requires-clause-ends c = c.in-Ok-Whole.ensures.whole c.in-Ok-Whole.field-0-is (parts_under c.args.room.now (Some c.args.begun.now)) c.requires.under_way.1

pub take_last-requires-clause-inside : goal.take_last-requires-clause-inside
take_last-requires-clause-inside c =
    let e = c.in-Ok-Whole.ensures.whole c.in-Ok-Whole.field-0-is (parts_under c.args.room.now (Some c.args.begun.now)) c.requires.under_way.1 in
    omega (arith, last_fits (program_of c.args.program.now) _ c.args.frag.now _ c.requires.holds e, length-take-le c.args.begun.now.fed c.args.room.now c.requires.under_way.0)

pub returns-in-Err-clause-takes : goal.returns-in-Err-clause-takes
returns-in-Err-clause-takes c = (c.in-Err.ensures.wrong (parts_under c.args.room.now (Some c.args.begun.now)) c.requires.under_way.1, refl)
