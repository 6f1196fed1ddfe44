use Rattle.std.proofs.Common.{inr, sym, subst, arith}
use Rattle.std.specs.Prelude.{Option}
use Rattle.fl_compile.specs.Programs.{program_of}
use Rattle.fl_machine.specs.declared.recv.PartialCall.{PartialCall}
use Rattle.fl_machine.specs.Reassembling.{Takes, IsUnderWay, reassembly_on}
use Rattle.fl_machine.proofs.Parts.{first_part, part_fits}
use Rattle.fl_machine.proofs.reassembly.take_begun.Goals as goal

pub begin-requires-clause-room : goal.begin-requires-clause-room
begin-requires-clause-room c = inr (omega (arith, c.told-numbers))

pub keep-requires-clause-goes_on : goal.keep-requires-clause-goes_on
keep-requires-clause-goes_on c =
    (c.args.under.now, first_part (program_of c.args.program.now) _ c.args.room.now c.args.under.now c.args.frag.now _ _ c.in-Ok-Part.field-0 c.requires.between c.in-Ok-Part.field-0-is c.in-Ok-Part.ensures.stands c.in-Ok-Part.ensures.adds c.forget.ensures.forgets)

pub keep-requires-clause-inside : goal.keep-requires-clause-inside
keep-requires-clause-inside c =
    let x = first_part (program_of c.args.program.now) _ c.args.room.now c.args.under.now c.args.frag.now _ _ c.in-Ok-Part.field-0 c.requires.between c.in-Ok-Part.field-0-is c.in-Ok-Part.ensures.stands c.in-Ok-Part.ensures.adds c.forget.ensures.forgets in
    part_fits (program_of c.args.program.now) _ c.args.frag.now _ _ c.requires.holds x.part x.kept

pub keep-requires-clause-some : goal.keep-requires-clause-some
keep-requires-clause-some c =
    (first_part (program_of c.args.program.now) _ c.args.room.now c.args.under.now c.args.frag.now _ _ c.in-Ok-Part.field-0 c.requires.between c.in-Ok-Part.field-0-is c.in-Ok-Part.ensures.stands c.in-Ok-Part.ensures.adds c.forget.ensures.forgets).kept.some

pub returns-in-Ok-Part-clause-takes : goal.returns-in-Ok-Part-clause-takes
returns-in-Ok-Part-clause-takes c =
    c.keep.ensures.takes c.args.under.now
    (first_part (program_of c.args.program.now) _ c.args.room.now c.args.under.now c.args.frag.now _ _ c.in-Ok-Part.field-0 c.requires.between c.in-Ok-Part.field-0-is c.in-Ok-Part.ensures.stands c.in-Ok-Part.ensures.adds c.forget.ensures.forgets)

pub returns-in-Ok-Whole-clause-under_way : goal.returns-in-Ok-Whole-clause-under_way
returns-in-Ok-Whole-clause-under_way c = subst (λ (o : Option PartialCall). IsUnderWay (program_of c.args.program.now) c.args.room.now o) (sym c.requires.between) tt

pub returns-in-Ok-Whole-clause-takes : goal.returns-in-Ok-Whole-clause-takes
returns-in-Ok-Whole-clause-takes c =
    subst (λ (o : Option PartialCall). Takes (reassembly_on c.args.program.now c.args.room.now o) c.args.frag.now c.tell.result (reassembly_on c.args.program.now c.args.room.now o)) (sym c.requires.between) c.tell.ensures.takes
